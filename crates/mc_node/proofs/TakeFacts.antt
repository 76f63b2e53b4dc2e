-- Calls that take in what was pushed, as calls of the replica one right after another.
use Rattle.std.proofs.Common.{◌≡◌, ◌≤◌, ◌<◌, ◌+◌, ℕ, true, false, List, [], ◌∷◌, ◌++◌, length, Option, Some, None, Result, Ok, Err, refl, sym, ap, ◌∙◌, subst, arith}
use Rattle.std.specs.Prelude.{⊤, IfErr, IfSome, OnOk}
use Rattle.std.proofs.lemmas.List.{append_assoc}
use Rattle.mc_base.specs.declared.cid.Cid.{Cid}
use Rattle.mc_fetch.specs.declared.job.Job.{Job}
use Rattle.mc_model.specs.Kept.{Kept}
use Rattle.mc_core.specs.Counted.{capped}
use Rattle.mc_group.specs.declared.grouped.Grouped.{Grouped}
use Rattle.mc_worker.specs.declared.ends.ShopError.{ShopError}
use Rattle.mc_worker.specs.declared.ends.ShopError.TheVariants.{KeeperFault, Stopped, Spent, Memory}
use Rattle.mc_node.specs.Items.{Item, Shown, has_halted}
use Rattle.mc_node.specs.Jobs.{IsBroken}
use Rattle.mc_node.specs.Pieces.{AnswersFrom, Back, EndsBroken, Gathered, GathersAt, Group, GroupsAt, Piece, Runs, RunsOn, TakesAt, counted, processed_in}
use Rattle.mc_node.specs.Serves.{AnswersAt, BackAt, NextAt}
use Rattle.mc_node.proofs.PieceFacts.{processed_then, runs_one, runs_then}

pub said_of_none : {A : Type 0} (told : Option A) → IfSome told (λ x. ⊤)
said_of_none None = tt
said_of_none (Some x) = tt

-- what holds anyhow holds of an Ok, and what follows of an Ok holds there
pub on_ok_any : (result : Result ℕ ShopError) (P : Type 0) → P → OnOk result P
on_ok_any (Ok count) P p = p
on_ok_any (Err error) P p = tt

pub on_ok : (result : Result ℕ ShopError) (P Q : Type 0) → (P → Q) → OnOk result P → OnOk result Q
on_ok (Ok count) P Q each p = each p
on_ok (Err error) P Q each p = tt

-- when an answer comes

pub at_stopped : {T : Type 0} (limit : ℕ) (now : Shown) → now.stopped ≡ true → AnswersAt {T = T} limit (Err Stopped) now
at_stopped limit now stops = record { stopped = stops; spent = said_of_none now.told }

pub at_short : {T : Type 0} (limit : ℕ) (now : Shown) → now.stopped ≡ false → AnswersAt {T = T} limit (Err Memory) now
at_short limit now runs = record { stopped = runs; spent = said_of_none now.told }

pub at_spent : {T : Type 0} (limit n : ℕ) (now : Shown) → now.stopped ≡ false → limit ≤ n → IfSome now.told (λ kept. n ≡ capped (length kept.order)) → AnswersAt {T = T} limit (Err Spent) now
at_spent limit n now runs more count = record { stopped = runs; spent = over now.told count }
  where
    over : (told : Option Kept) → IfSome told (λ kept. n ≡ capped (length kept.order)) → IfSome told (λ kept. limit ≤ capped (length kept.order))
    over None c = tt
    over (Some kept) c = omega (arith, c, more)

pub at_below : {T : Type 0} (limit n : ℕ) (value : T) (now : Shown) → now.stopped ≡ false → n < limit → IfSome now.told (λ kept. n ≡ capped (length kept.order)) → AnswersAt limit (Ok value) now
at_below limit n value now runs less count = record { stopped = runs; spent = over now.told count }
  where
    over : (told : Option Kept) → IfSome told (λ kept. n ≡ capped (length kept.order)) → IfSome told (λ kept. capped (length kept.order) < limit)
    over None c = tt
    over (Some kept) c = omega (arith, c, less)

at_counted : (limit : ℕ) (answer : Result Grouped ShopError) (now : Shown) → AnswersAt limit answer now → AnswersAt limit (counted answer) now
at_counted limit (Ok grouped) now at = record { stopped = at.stopped; spent = at.spent }
at_counted limit (Err KeeperFault) now at = record { stopped = at.stopped; spent = at.spent }
at_counted limit (Err Stopped) now at = record { stopped = at.stopped; spent = at.spent }
at_counted limit (Err Spent) now at = record { stopped = at.stopped; spent = at.spent }
at_counted limit (Err Memory) now at = record { stopped = at.stopped; spent = at.spent }

-- what was pushed is taken in

-- nothing was called
pub gathers_nothing : (limit : ℕ) (result : Result ℕ ShopError) (old : List Item) (before : Shown) (new : List Item) (after : Shown) → AnswersAt limit result before → before.stopped ≡ has_halted old → new ≡ old → after ≡ before → Gathered result [] → GathersAt limit result old before new after
gathers_nothing limit result old before new after at halted log now says = record { at = at; halted = halted; pieces = []; runs = (log, now); says = says }

-- a group was taken in
pub gathers_group : (limit : ℕ) (result : Result ℕ ShopError) (old : List Item) (before : Shown) (new : List Item) (after : Shown) → before.stopped ≡ has_halted old → IfErr result IsBroken → GroupsAt limit result old before new after → GathersAt limit result old before new after
gathers_group limit result old before new after halted broken group = record {
  at = subst (λ (r : Result ℕ ShopError). AnswersAt limit r before) (sym group.is) (at_counted limit group.answer before group.does.does.does.at);
  halted = halted;
  pieces = Group group.items group.answer ∷ [];
  runs = runs_one limit (Group group.items group.answer) old before new after group.does;
  says = subst (λ (r : Result ℕ ShopError). Gathered r (Group group.items group.answer ∷ [])) (sym group.is) (over group.answer (subst (λ (r : Result ℕ ShopError). IfErr r IsBroken) group.is broken));
}
  where
    over : (answer : Result Grouped ShopError) → IfErr (counted answer) IsBroken → Gathered (counted answer) (Group group.items answer ∷ [])
    over (Ok grouped) b = omega arith
    over (Err KeeperFault) b = record { first = []; items = group.items; is = refl }
    over (Err Stopped) b = absurd b
    over (Err Spent) b = absurd b
    over (Err Memory) b = tt

-- a group was tried, and memory was wanted
pub gathers_lost : (limit : ℕ) (result : Result ℕ ShopError) (old : List Item) (before : Shown) (new : List Item) (after : Shown) → before.stopped ≡ has_halted old → before.stopped ≡ false → GroupsAt limit result old before new after → GathersAt limit (Err Memory) old before new after
gathers_lost limit result old before new after halted runs group = record {
  at = at_short limit before runs;
  halted = halted;
  pieces = Group group.items group.answer ∷ [];
  runs = runs_one limit (Group group.items group.answer) old before new after group.does;
  says = tt;
}

-- from where nothing had changed before
pub gathers_from : (limit : ℕ) (result : Result ℕ ShopError) (first old : List Item) (start before : Shown) (new : List Item) (after : Shown) → old ≡ first → before ≡ start → GathersAt limit result old before new after → GathersAt limit result first start new after
gathers_from limit result first old start before new after log now g = subst (λ (s : Shown). GathersAt limit result first s new after) now (subst (λ (l : List Item). GathersAt limit result l before new after) log g)

-- an error that is known by its name
pub gathers_err : (limit : ℕ) (error named : ShopError) (old : List Item) (before : Shown) (new : List Item) (after : Shown) → error ≡ named → GathersAt limit (Err error) old before new after → GathersAt limit (Err named) old before new after
gathers_err limit error named old before new after is g = subst (λ (e : ShopError). GathersAt limit (Err e) old before new after) is g

pub groups_err : (limit : ℕ) (error named : ShopError) (old : List Item) (before : Shown) (new : List Item) (after : Shown) → error ≡ named → GroupsAt limit (Err error) old before new after → GroupsAt limit (Err named) old before new after
groups_err limit error named old before new after is g = subst (λ (e : ShopError). GroupsAt limit (Err e) old before new after) is g

pub next_as : (limit : ℕ) (job named : Option Job) (old : List Item) (before : Shown) (new : List Item) (after : Shown) → job ≡ named → NextAt limit (Ok job) old before new after → NextAt limit (Ok named) old before new after
next_as limit job named old before new after is next = subst (λ (j : Option Job). NextAt limit (Ok j) old before new after) is next

-- with an own block
pub takes_ok : (limit : ℕ) (cid : Cid) (count : ℕ) (old : List Item) (before : Shown) (new : List Item) (after : Shown) → GathersAt limit (Ok count) old before new after → TakesAt limit cid (Ok count) old before new after
takes_ok limit cid count old before new after g = record { at = g.at; halted = g.halted; pieces = g.pieces; runs = g.runs; says = g.says }

pub takes_stopped : (limit : ℕ) (cid : Cid) (old : List Item) (before : Shown) (new : List Item) (after : Shown) → GathersAt limit (Err Stopped) old before new after → TakesAt limit cid (Err Stopped) old before new after
takes_stopped limit cid old before new after g = record { at = g.at; halted = g.halted; pieces = g.pieces; runs = g.runs; says = g.says }

pub takes_broken : (limit : ℕ) (cid : Cid) (old : List Item) (before : Shown) (new : List Item) (after : Shown) → GathersAt limit (Err KeeperFault) old before new after → TakesAt limit cid (Err KeeperFault) old before new after
takes_broken limit cid old before new after g = record { at = g.at; halted = g.halted; pieces = g.pieces; runs = g.runs; says = g.says }

pub takes_spent : (limit : ℕ) (cid : Cid) (old : List Item) (before : Shown) (mid : List Item) (there : Shown) (new : List Item) (after : Shown) → GathersAt limit (Err Spent) old before mid there → BackAt cid mid there new after → TakesAt limit cid (Err Spent) old before new after
takes_spent limit cid old before mid there new after g back = record {
  at = g.at;
  halted = g.halted;
  pieces = g.pieces ++ Back cid ∷ [];
  runs = runs_then limit g.pieces (Back cid ∷ []) old before mid there new after g.runs (runs_one limit (Back cid) mid there new after back);
  says = ap (λ pieces. pieces ++ Back cid ∷ []) g.says;
}

pub takes_short : (limit : ℕ) (cid : Cid) (old : List Item) (before : Shown) (mid : List Item) (there : Shown) (new : List Item) (after : Shown) → GathersAt limit (Err Memory) old before mid there → BackAt cid mid there new after → TakesAt limit cid (Err Memory) old before new after
takes_short limit cid old before mid there new after g back = record {
  at = g.at;
  halted = g.halted;
  pieces = g.pieces ++ Back cid ∷ [];
  runs = runs_then limit g.pieces (Back cid ∷ []) old before mid there new after g.runs (runs_one limit (Back cid) mid there new after back);
  says = record { first = g.pieces; is = refl };
}

-- the part of a call after some were processed

pub ons_back : (limit first : ℕ) (cid : Cid) (old : List Item) (before : Shown) (new : List Item) (after : Shown) → BackAt cid old before new after → RunsOn limit first cid (Ok first) old before new after
ons_back limit first cid old before new after back = record { pieces = Back cid ∷ []; runs = runs_one limit (Back cid) old before new after back; says = omega arith }

pub ons_short : (limit first : ℕ) (cid : Cid) (old : List Item) (before : Shown) (new : List Item) (after : Shown) → BackAt cid old before new after → RunsOn limit first cid (Err Memory) old before new after
ons_short limit first cid old before new after back = record { pieces = Back cid ∷ []; runs = runs_one limit (Back cid) old before new after back; says = record { first = []; is = refl } }

pub ons_nothing : (limit first : ℕ) (cid : Cid) (old : List Item) (before : Shown) (new : List Item) (after : Shown) → new ≡ old → after ≡ before → RunsOn limit first cid (Ok first) old before new after
ons_nothing limit first cid old before new after log now = record { pieces = []; runs = (log, now); says = omega arith }

pub ons_group : (limit first : ℕ) (cid : Cid) (count sum : ℕ) (old : List Item) (before : Shown) (new : List Item) (after : Shown) → sum ≡ first + count → GroupsAt limit (Ok count) old before new after → RunsOn limit first cid (Ok sum) old before new after
ons_group limit first cid count sum old before new after is group = record {
  pieces = Group group.items group.answer ∷ [];
  runs = runs_one limit (Group group.items group.answer) old before new after group.does;
  says = over group.answer group.is;
}
  where
    value_or : Result ℕ ShopError → ℕ → ℕ
    value_or (Ok n) d = n
    value_or (Err error) d = d

    over : (answer : Result Grouped ShopError) → Ok count ≡ counted answer → first + processed_in (Group group.items answer ∷ []) ≡ sum
    over (Ok grouped) e = let n : count ≡ grouped.processed = ap (λ (r : Result ℕ ShopError). value_or r count) e in omega (arith, n, is)
    over (Err error) e = absurd (cc e)

pub ons_broken : (limit first : ℕ) (cid : Cid) (old : List Item) (before : Shown) (new : List Item) (after : Shown) → GroupsAt limit (Err KeeperFault) old before new after → RunsOn limit first cid (Err KeeperFault) old before new after
ons_broken limit first cid old before new after group = record {
  pieces = Group group.items group.answer ∷ [];
  runs = runs_one limit (Group group.items group.answer) old before new after group.does;
  says = over group.answer group.is;
}
  where
    over : (answer : Result Grouped ShopError) → Err KeeperFault ≡ counted answer → EndsBroken (Group group.items answer ∷ [])
    over (Ok grouped) e = absurd (cc e)
    over (Err KeeperFault) e = record { first = []; items = group.items; is = refl }
    over (Err Stopped) e = absurd (cc e)
    over (Err Spent) e = absurd (cc e)
    over (Err Memory) e = absurd (cc e)

pub ons_lost : (limit first : ℕ) (cid : Cid) (result : Result ℕ ShopError) (old : List Item) (before : Shown) (mid : List Item) (there : Shown) (new : List Item) (after : Shown) → GroupsAt limit result old before mid there → BackAt cid mid there new after → RunsOn limit first cid (Err Memory) old before new after
ons_lost limit first cid result old before mid there new after group back = record {
  pieces = Group group.items group.answer ∷ Back cid ∷ [];
  runs = runs_then limit (Group group.items group.answer ∷ []) (Back cid ∷ []) old before mid there new after (runs_one limit (Group group.items group.answer) old before mid there group.does) (runs_one limit (Back cid) mid there new after back);
  says = record { first = Group group.items group.answer ∷ []; is = refl };
}

pub ons_from : (limit count : ℕ) (cid : Cid) (result : Result ℕ ShopError) (first old : List Item) (start before : Shown) (new : List Item) (after : Shown) → old ≡ first → before ≡ start → RunsOn limit count cid result old before new after → RunsOn limit count cid result first start new after
ons_from limit count cid result first old start before new after log now r = subst (λ (s : Shown). RunsOn limit count cid result first s new after) now (subst (λ (l : List Item). RunsOn limit count cid result l before new after) log r)

-- both parts
pub takes_on : (limit first : ℕ) (cid : Cid) (result : Result ℕ ShopError) (old : List Item) (before : Shown) (mid : List Item) (there : Shown) (new : List Item) (after : Shown) → TakesAt limit cid (Ok first) old before mid there → RunsOn limit first cid result mid there new after → TakesAt limit cid result old before new after
takes_on limit first cid result old before mid there new after t r = over result r.says
  where
    runs : Runs limit (t.pieces ++ r.pieces) old before new after
    runs = runs_then limit t.pieces r.pieces old before mid there new after t.runs r.runs

    over : (result : Result ℕ ShopError) → AnswersFrom first cid result r.pieces → TakesAt limit cid result old before new after
    over (Ok count) says = record {
      at = record { stopped = t.at.stopped; spent = t.at.spent };
      halted = t.halted;
      pieces = t.pieces ++ r.pieces;
      runs = runs;
      says = processed_then t.pieces r.pieces ∙ ap (λ n. n + processed_in r.pieces) t.says ∙ says;
    }
    over (Err KeeperFault) says = record {
      at = record { stopped = t.at.stopped; spent = t.at.spent };
      halted = t.halted;
      pieces = t.pieces ++ r.pieces;
      runs = runs;
      says = record { first = t.pieces ++ says.first; items = says.items; is = ap (λ (p : List Piece). t.pieces ++ p) says.is ∙ sym (append_assoc t.pieces says.first (Group says.items (Err KeeperFault) ∷ [])) };
    }
    over (Err Stopped) says = absurd says
    over (Err Spent) says = absurd says
    over (Err Memory) says = record {
      at = record { stopped = t.at.stopped; spent = said_of_none before.told };
      halted = t.halted;
      pieces = t.pieces ++ r.pieces;
      runs = runs;
      says = record { first = t.pieces ++ says.first; is = ap (λ (p : List Piece). t.pieces ++ p) says.is ∙ sym (append_assoc t.pieces says.first (Back cid ∷ [])) };
    }
