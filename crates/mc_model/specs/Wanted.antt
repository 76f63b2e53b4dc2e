-- The wanted set: the blocks that a replica has heard of and not processed, in four parts, and how it changes.
use Rattle.std.specs.Prelude.{ℕ, ◌+◌, ◌≤◌, Bool, not, ◌||◌, List, [], ◌∷◌, ◌++◌, filter, map, fold, if◌then◌else◌}
use Rattle.mc_base.specs.declared.cid.Cid.{Cid}
use Rattle.mc_model.specs.Front.{same_cid}
use Rattle.mc_model.specs.Graph.{times, has}

-- what waits for a job; what is in flight, with a job begun; what no offer was there for; and what the first offer was
-- damaged for, with the number of the damage
pub record Queue : Type 0 where
  pub waiting : List Cid
  pub flight : List Cid
  pub missing : List Cid
  pub bad : List (Cid × ℕ)

-- nothing is wanted
abbrev pub no_queue : Queue
no_queue = record { waiting = []; flight = []; missing = []; bad = [] }

-- the identifiers of the bad ones
abbrev pub bad_cids : List (Cid × ℕ) → List Cid
bad_cids bad = map (λ (b : Cid × ℕ). b.0) bad

-- all four parts
abbrev pub wanted : Queue → List Cid
wanted q = q.waiting ++ (q.flight ++ (q.missing ++ bad_cids q.bad))

-- how often a block is processed or wanted
abbrev pub held : List Cid → Queue → Cid → ℕ
held order q c = times c order + times c (wanted q)

-- no block stands twice among the processed and the wanted ones
abbrev pub IsOnce : List Cid → Queue → Type 0
IsOnce order q = (c : Cid) → held order q c ≤ 1

-- the block comes to the back of waiting
abbrev pub to_waiting : Queue → Cid → Queue
to_waiting q c = record q { waiting = q.waiting ++ c ∷ [] }

-- the block comes to the back of waiting, unless it is processed or wanted already
abbrev pub want_unless : Bool → Queue → Cid → Queue
want_unless is_processed q c = if is_processed || has c (wanted q) then q else to_waiting q c

-- the block is linked by a processed one: it is wanted now, unless it is processed or wanted already
abbrev pub want : List Cid → Queue → Cid → Queue
want order q c = want_unless (has c order) q c

-- each in turn
abbrev pub want_all : List Cid → Queue → List Cid → Queue
want_all order q cids = fold (want order) q cids

-- the list without the block
abbrev pub others : List Cid → Cid → List Cid
others cids c = filter (λ d. not (same_cid d c)) cids

-- the same of bad ones
abbrev pub bad_others : List (Cid × ℕ) → Cid → List (Cid × ℕ)
bad_others bad c = filter (λ (b : Cid × ℕ). not (same_cid b.0 c)) bad

-- the block comes out of missing and bad
abbrev pub out_of_stuck : Queue → Cid → Queue
out_of_stuck q c = record q { missing = others q.missing c; bad = bad_others q.bad c }

-- the block comes out of flight
abbrev pub out_of_flight : Queue → Cid → Queue
out_of_flight q c = record q { flight = others q.flight c }

-- a message names the block: out of missing or bad it comes to waiting, and else it is wanted as a link is
abbrev pub hear : List Cid → Queue → Cid → Queue
hear order q c = if has c q.missing || has c (bad_cids q.bad) then to_waiting (out_of_stuck q c) c else want order q c

-- each in turn
abbrev pub hear_all : List Cid → Queue → List Cid → Queue
hear_all order q cids = fold (hear order) q cids

-- the first of the waiting ones comes to flight
abbrev pub start_first : Queue → List Cid → Queue
start_first q [] = q
start_first q (c ∷ rest) = record q { waiting = rest; flight = q.flight ++ c ∷ [] }

-- the block comes out of flight, to the back of waiting
abbrev pub give_back : Queue → Cid → Queue
give_back q c = to_waiting (out_of_flight q c) c

-- to the back of missing
abbrev pub to_missing : Queue → Cid → Queue
to_missing q c = record (out_of_flight q c) { missing = q.missing ++ c ∷ [] }

-- to the back of bad, with the number of its damage
abbrev pub to_bad : Queue → Cid → ℕ → Queue
to_bad q c damage = record (out_of_flight q c) { bad = q.bad ++ (c, damage) ∷ [] }

-- missing, and then bad, come to the back of waiting
abbrev pub requeue : Queue → Queue
requeue q = record { waiting = q.waiting ++ (q.missing ++ bad_cids q.bad); flight = q.flight; missing = []; bad = [] }

-- all that is in flight comes to the back of waiting, in its order
abbrev pub recall : Queue → Queue
recall q = record { waiting = q.waiting ++ q.flight; flight = []; missing = q.missing; bad = q.bad }

-- these blocks come out of all parts
abbrev pub without : Queue → List Cid → Queue
without q cids = record {
  waiting = filter (λ d. not (has d cids)) q.waiting;
  flight = filter (λ d. not (has d cids)) q.flight;
  missing = filter (λ d. not (has d cids)) q.missing;
  bad = filter (λ (b : Cid × ℕ). not (has b.0 cids)) q.bad;
}
