-- What a work of the wanted blocks, and a repair, lead to.
use Rattle.std.specs.Prelude.{◌≡◌, ◌≢◌, ◌≤◌, ◌+◌, ◌-◌, ⊤, ℕ, Bool, true, false, List, [], length, Option, Some, Result}
use Rattle.std.specs.Prelude.{Ok, Err, IfSome}
use Rattle.mc_base.specs.declared.cid.Cid.{Cid}
use Rattle.mc_fetch.specs.Fits.{Map}
use Rattle.mc_model.specs.Drain.{IsClosure, IsDrained, PartsFit}
use Rattle.mc_model.specs.Draining.{HasDrained, bytes_in, offers_of, queue_in}
use Rattle.mc_model.specs.Events.{GoesOn}
use Rattle.mc_model.specs.Found.{Offers, is_found}
use Rattle.mc_model.specs.Graph.{cids_in, has}
use Rattle.mc_model.specs.State.{IsSound, wanted_in}
use Rattle.mc_model.specs.Wanted.{Queue}
use Rattle.mc_core.specs.Counted.{capped}
use Rattle.mc_core.specs.Events.{ReplicaState}
use Rattle.mc_drain.specs.declared.end.DrainEnd.{DrainEnd}
use Rattle.mc_drain.specs.declared.end.DrainEnd.TheVariants as end
use Rattle.mc_drain.specs.declared.working.WorkError.{WorkError}
use Rattle.mc_drain.specs.declared.working.WorkError.TheVariants.{KeeperFault, PeerFault, Stopped, Memory}
use Rattle.mc_drain.specs.declared.working.Worked.{Worked}
use Rattle.mc_drain.specs.declared.working.Worked.TheVariants.{Done, Again}
use Rattle.mc_drain.specs.Finds.{Finds, found_from, surely_from}
use Rattle.mc_drain.specs.Leads.{FuseGoes, HasBrokenOff, commits_between, count}
use Rattle.mc_drain.specs.Lost.{is_stuck}

-- whether a keeper failed, and whether a fetch did
abbrev pub keeper_broke : {T : Type 0} → Result T WorkError → Bool
keeper_broke (Ok value) = false
keeper_broke (Err KeeperFault) = true
keeper_broke (Err PeerFault) = false
keeper_broke (Err Stopped) = false
keeper_broke (Err Memory) = false

abbrev pub peer_broke : {T : Type 0} → Result T WorkError → Bool
peer_broke (Ok value) = false
peer_broke (Err KeeperFault) = false
peer_broke (Err PeerFault) = true
peer_broke (Err Stopped) = false
peer_broke (Err Memory) = false

-- whether neither did
abbrev pub none_broke : {T : Type 0} → Result T WorkError → Bool
none_broke (Ok value) = true
none_broke (Err KeeperFault) = false
none_broke (Err PeerFault) = false
none_broke (Err Stopped) = true
none_broke (Err Memory) = true

-- how many blocks came between two states, of the first 2 ^ 64 - 1 of them
abbrev pub came_between : ReplicaState → ReplicaState → ℕ
came_between s new = capped (count new) - capped (count s)

-- the processed blocks that a work of this budget ends at, if not before
abbrev pub limit_of : ℕ → ReplicaState → ℕ
limit_of budget s = capped (capped (count s) + budget)

-- all that wait have good offers
abbrev pub AllFound : Offers → List Cid → Type 0
AllFound found cids = (c : Cid) → has c cids ≡ true → is_found (found c) ≡ true

-- the drain of these blocks is at its end: the closure is reached, and missing and bad hold what their names say
pub record IsAtEnd (map : Map) (start : List Cid) (s new : ReplicaState) : Type 0 where
  pub closure : IsClosure (offers_of map) s.state.durable start new.state.durable (wanted_in new.state.run)
  pub parts : PartsFit (offers_of map) (queue_in new.state.run)

-- the drain of these blocks has come so far: each that was wanted is processed or still wanted, as is what an added
-- block links to, nothing else is, and only wanted blocks with a good offer were added and stored
abbrev pub IsPartOf : Map → List Cid → ReplicaState → ReplicaState → Type 0
IsPartOf map start s new = HasDrained map (cids_in s.state.durable.graph) s.state.durable start new.state

-- it is not at its end: a block that waits has a good offer, as all have that wait, and missing and bad hold what their
-- names say
pub record IsBefore (map : Map) (start : List Cid) (s new : ReplicaState) : Type 0 where
  pub drained : IsPartOf map start s new
  pub parts : PartsFit (offers_of map) (queue_in new.state.run)
  pub good : AllFound (offers_of map) (queue_in new.state.run).waiting

-- what a work leads to, by its answer, where it is known what is found
abbrev pub WorkIs : Map → Result Worked WorkError → ReplicaState → ReplicaState → Type 0
WorkIs map (Ok (Done processed missing bad)) s new = IsAtEnd map (wanted_in s.state.run) s new
WorkIs map (Ok (Again processed)) s new = IsBefore map (wanted_in s.state.run) s new
WorkIs map (Err KeeperFault) s new = HasBrokenOff map s.state.durable (wanted_in s.state.run) new.state.durable
WorkIs map (Err PeerFault) s new = IsPartOf map (wanted_in s.state.run) s new
WorkIs map (Err Stopped) s new = new ≡ s
WorkIs map (Err Memory) s new = IsPartOf map (wanted_in s.state.run) s new

-- the bytes of the blocks that are stored
abbrev pub stored_bytes : ReplicaState → Map
stored_bytes s c = bytes_in s.state.durable.graph c

-- the drain of these blocks has come so far, whatever was found: what is stored now is what was
abbrev pub IsPartly : List Cid → ReplicaState → ReplicaState → Type 0
IsPartly start s new = IsPartOf (stored_bytes new) start s new

-- no block with a good offer is missing or bad
abbrev pub NoneLost : Offers → Queue → Type 0
NoneLost found q = (c : Cid) → is_stuck c q ≡ true → is_found (found c) ≡ false

-- What a work leads to, by its answer, where these bytes are surely found, whatever else is: each block that was wanted
-- is processed or still wanted, and so is what an added block links to; where it is done, nothing that is wanted is
-- surely found, and where it is to come again, nothing that is missing or bad is.
abbrev pub WorkSurely : Map → Result Worked WorkError → ReplicaState → ReplicaState → Type 0
WorkSurely surely (Ok (Done processed missing bad)) s new =
    IsPartly (wanted_in s.state.run) s new × IsDrained (offers_of surely) new.state
WorkSurely surely (Ok (Again processed)) s new =
    IsPartly (wanted_in s.state.run) s new × NoneLost (offers_of surely) (queue_in new.state.run)
WorkSurely surely (Err KeeperFault) s new = ⊤
WorkSurely surely (Err PeerFault) s new = IsPartly (wanted_in s.state.run) s new
WorkSurely surely (Err Stopped) s new = new ≡ s
WorkSurely surely (Err Memory) s new = IsPartly (wanted_in s.state.run) s new

-- the numbers of an answer: how many blocks came, and where there are to come again the limit is reached
abbrev pub WorkCounts : ℕ → Result Worked WorkError → ReplicaState → ReplicaState → Type 0
WorkCounts budget (Ok (Done processed missing bad)) s new = processed ≡ came_between s new
WorkCounts budget (Ok (Again processed)) s new = (processed ≡ came_between s new) × (limit_of budget s ≤ count new)
WorkCounts budget (Err error) s new = ⊤

-- What a work of this budget leads to, where the keeper tells: no block is lost, no more come than the budget, the fuse
-- burns by their commits at most, the state is sound, where it is known what is found, the answer is that of the
-- closure of what was wanted, and what is surely found is left nowhere.
pub record WorkLeads (budget : ℕ) (finds : Finds) (result : Result Worked WorkError) (s new : ReplicaState)
    : Type 0 where
  pub grows : GoesOn s.state.durable new.state.durable
  pub within : count new ≤ count s + budget
  pub fuse : FuseGoes (keeper_broke result) (commits_between (keeper_broke result) s new) s.fuse new.fuse
  pub counts : WorkCounts budget result s new
  pub sound : IsSound new.state
  pub is : (map : Map) → found_from s.state.durable.graph finds.all ≡ Some map → WorkIs map result s new
  pub surely : WorkSurely (surely_from s.state.durable.graph finds) result s new

-- what is wanted after a work, over every keeper: nothing is in flight, unless the replica has stopped; where it is
-- done nothing waits, and the numbers are those of the missing and the bad ones
abbrev pub WorkWants : Result Worked WorkError → Queue → Type 0
WorkWants (Ok (Done processed missing bad)) q =
    (q.waiting ≡ []) × (q.flight ≡ []) × (missing ≡ length q.missing) × (bad ≡ length q.bad)
WorkWants (Ok (Again processed)) q = (q.waiting ≢ []) × (q.flight ≡ [])
WorkWants (Err KeeperFault) q = ⊤
WorkWants (Err PeerFault) q = q.flight ≡ []
WorkWants (Err Stopped) q = ⊤
WorkWants (Err Memory) q = q.flight ≡ []

-- what is wanted where a work or a repair couldn't begin
abbrev pub GivesUp : WorkError → Queue → Type 0
GivesUp KeeperFault q = ⊥
GivesUp PeerFault q = ⊥
GivesUp Stopped q = ⊤
GivesUp Memory q = q.flight ≡ []

-- the answer where a drain came to this end, before which so many blocks were processed
abbrev pub AnswerIs : DrainEnd → ℕ → Option ReplicaState → Queue → Result Worked WorkError → Type 0
AnswerIs end.Idle before state q result =
    (processed : ℕ) × (result ≡ Ok (Done processed (length q.missing) (length q.bad)))
    × IfSome state (λ s. processed ≡ capped (count s) - before)
AnswerIs end.Spent before state q result =
    (processed : ℕ) × (result ≡ Ok (Again processed)) × IfSome state (λ s. processed ≡ capped (count s) - before)
AnswerIs end.KeeperFault before state q result = result ≡ Err KeeperFault
AnswerIs end.PeerFault before state q result = result ≡ Err PeerFault
AnswerIs end.Memory before state q result = result ≡ Err Memory
