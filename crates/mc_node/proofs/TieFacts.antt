-- The log stays tied to its replica.
use Rattle.std.proofs.Common.{◌≡◌, ℕ, zero, suc, Bool, true, false, ◌||◌, List, [], ◌∷◌, take, length, Option, Some, None, refl, sym, ap, ◌∙◌, subst, arith}
use Rattle.std.specs.Prelude.{is_some, unwrap_or}
use Rattle.std.proofs.lemmas.Bool.{false≢true}
use Rattle.std.proofs.Math.Seq.{take-length}
use Rattle.mc_base.specs.Causes.{Rose}
use Rattle.mc_base.specs.Told.{Told}
use Rattle.mc_fetch.specs.Fits.{Map}
use Rattle.mc_model.specs.declared.block.Block.{Block}
use Rattle.mc_base.specs.declared.cid.Cid.{Cid}
use Rattle.mc_model.specs.Draining.{HasDrained, bytes_in, queue_in}
use Rattle.mc_model.specs.Graph.{has}
use Rattle.mc_model.specs.Kept.{Kept}
use Rattle.mc_model.specs.State.{State, blocks_of}
use Rattle.mc_model.specs.Wanted.{wanted}
use Rattle.mc_core.specs.Events.{ReplicaState}
use Rattle.mc_node.specs.declared.note.Note.{Note}
use Rattle.mc_node.specs.declared.note.Note.TheVariants.{Root}
use Rattle.mc_node.specs.Items.{Item, Shown, blocks, blocks_in, has_halted, has_note, has_walked, is_callers, is_halt, is_sealed, is_sealing, is_root, is_walk, last, root, state_in}
use Rattle.mc_node.specs.Moves.{with_entry}
use Rattle.mc_node.specs.Ties.{Goes, GoesCalm, IsGrowing, IsMoment, IsTied, IsWithin, StoresFound}
use Rattle.mc_node.specs.Works.{Bounds, GoesBroken, HasLed}
use Rattle.mc_node.proofs.FrameFacts.{broken_of, calm_of, go_more, go_nowhere, of_calm}
use Rattle.mc_node.proofs.ItemFacts.{first_on, growing_on, has_on, last_on, longer_on, root_on}
use Rattle.mc_node.proofs.WorkFacts.{bound_first, led_of, none_leads}

-- the processed blocks that were told come first
abbrev pub IsLonger : Shown → Shown → Type 0
IsLonger now later = Told (state_in now) (state_in later) (λ s new. take (length (blocks_of s.state.durable)) (blocks_of new.state.durable) ≡ blocks_of s.state.durable)

-- a moment of a log that ends with what is shown
pub moment_now : (log : List Item) (note : Note) (now : Shown) → IsMoment (with_entry log note now) now
moment_now log note now = let e : now ≡ last (with_entry log note now) = sym (last_on log (record { note = note; shown = now })) in record {
  own = ap (λ s. s.own) e;
  faults = ap (λ s. s.faults) e;
  stopped = ap (λ s. s.stopped) e;
  grows = subst (λ (bs : List Block). take (length bs) (blocks_in (state_in now)) ≡ bs) (ap (λ s. blocks_in (state_in s)) e) (take-length (blocks_in (state_in now)));
  told = λ a. ap (λ s. s.told) e;
  fuse = λ a. ap (λ s. s.fuse) e;
  run = λ a. ap (λ s. s.run) e;
}

pub tells_on : (now later : Shown) → (now.told ≡ None → later.told ≡ None) → IsLonger now later → is_some later.told ≡ is_some now.told
tells_on now later silent longer = go now.told later.told silent longer
  where
    go : (a b : Option Kept) → (a ≡ None → b ≡ None) → Told (state_in (record now { told = a })) (state_in (record later { told = b })) (λ s new. take (length (blocks_of s.state.durable)) (blocks_of new.state.durable) ≡ blocks_of s.state.durable) → is_some b ≡ is_some a
    go None b silent longer = ap is_some (silent refl)
    go (Some x) None silent longer = absurd longer
    go (Some x) (Some y) silent longer = refl

pub longer_blocks : (now later : Shown) → is_some later.told ≡ is_some now.told → IsLonger now later → take (length (blocks_in (state_in now))) (blocks_in (state_in later)) ≡ blocks_in (state_in now)
longer_blocks now later same longer = go now.told later.told same longer
  where
    go : (a b : Option Kept) → is_some b ≡ is_some a → Told (state_in (record now { told = a })) (state_in (record later { told = b })) (λ s new. take (length (blocks_of s.state.durable)) (blocks_of new.state.durable) ≡ blocks_of s.state.durable)
        → take (length (blocks_in (state_in (record now { told = a })))) (blocks_in (state_in (record later { told = b }))) ≡ blocks_in (state_in (record now { told = a }))
    go None b same longer = refl
    go (Some x) None same longer = absurd longer
    go (Some x) (Some y) same longer = longer

or_left : (a b : Bool) → (a || b) ≡ false → a ≡ false
or_left true b e = e
or_left false b e = refl

-- a replica has a state where its keeper tells
pub told_state : (now : Shown) → is_some (state_in now) ≡ is_some now.told
told_state now = go now.told
  where
    go : (a : Option Kept) → is_some (state_in (record now { told = a })) ≡ is_some a
    go None = refl
    go (Some x) = refl

state_told : (now : Shown) → is_some (state_in now) ≡ true → is_some now.told ≡ true
state_told now e = sym (told_state now) ∙ e

-- what a call of a replica that runs does, and then notes
pub record Noted (limit : Bounds) (log : List Item) (note : Note) (now later : Shown) : Type 0 where
  pub runs : now.stopped ≡ false
  pub goes : Goes (is_halt note) now later
  pub longer : IsLonger now later
  pub no_callers : is_callers note ≡ true → is_sealed log ≡ false
  pub may_walk : is_walk note ≡ true → limit.walks ≡ true
  pub batch : later.run.batch ≡ now.run.batch
  pub walk : is_walk note ≡ false → later.run.walk ≡ now.run.walk
  pub whole : is_walk note ≡ false → later.run.whole ≡ now.run.whole
  pub worked : is_sealed log ≡ true → (r s : ReplicaState) → state_in (root log) ≡ Some r → state_in later ≡ Some s → HasLed limit later.stopped r s
  pub drains : is_sealed log ≡ true → later.stopped ≡ false → (map : Map) → limit.found ≡ Some map → (r s : ReplicaState)
      → state_in (root log) ≡ Some r → state_in later ≡ Some s → HasDrained map limit.kept r.state.durable (wanted (queue_in r.state.run)) s.state

pub tied_noted : (limit : Bounds) (log : List Item) (note : Note) (now later : Shown) → IsTied limit now log → Noted limit log note now later
    → IsTied limit later (with_entry log note later)
tied_noted limit log note now later t n = record {
  rooted = first_on is_root log item t.rooted ∙ t.rooted;
  moment = moment_now log note later;
  telling = tells_same ∙ t.telling ∙ sym (ap (λ (s : Shown). is_some s.told) roots);
  grown = growing_on log item t.grown (longer_on (blocks log) (blocks_in (state_in now)) (blocks_in (state_in later)) t.moment.grows (longer_blocks now later tells_same n.longer));
  sealed = λ e. has_on is_callers log item ∙ or_false (has_note is_callers log) (is_callers note) (t.sealed (sealed_before e)) (callers (is_callers note) refl (sealed_before e));
  unwalked = λ e. has_on is_walk log item ∙ or_false (has_walked log) (is_walk note) (t.unwalked e) (walks (is_walk note) refl e);
  halted = n.goes.stops ∙ ap (λ b. is_halt note || b) n.runs ∙ or-none (is_halt note) ∙ sym halts;
  risen = λ e. let faults = (of_calm (root log) now (t.calm not_halted)).keeper.faults_go.later in let rose = n.goes.keeper.faults_go.rose (sym halts ∙ e) in
      subst (λ (s : Shown). Rose s.faults later.faults) (sym roots) (omega (arith, faults, rose));
  calm = λ e. subst (λ (s : Shown). GoesCalm s later) (sym roots)
      (calm_of (root log) later (go_more false (root log) now later (of_calm (root log) now (t.calm not_halted)) (subst (λ b. Goes b now later) (sym halts ∙ e) n.goes)));
  broken = λ h. subst (λ (s : Shown). GoesBroken s later) (sym roots)
      (broken_of (root log) later (go_more true (root log) now later (of_calm (root log) now (t.calm not_halted)) (subst (λ b. Goes b now later) (sym halts ∙ h) n.goes)));
  worked = λ e r s ri si. n.worked (sealed_before e) r s (ap state_in (sym roots) ∙ ri) si;
  known = λ e map is. ap (λ (s : Shown). is_some s.told) roots ∙ t.known (sealed_before e) map is;
  quiet_still = λ e. sym (ap (λ (s : Shown). s.quiet) (last_on log item));
  schedule_still = λ e. sym (ap (λ (s : Shown). s.schedule) (last_on log item));
  batch = n.batch ∙ t.batch ∙ sym (ap (λ (s : Shown). s.run.batch) roots);
  walk = λ e. n.walk (walk_none e) ∙ t.walk (walked_none e) ∙ sym (ap (λ (s : Shown). s.run.walk) roots);
  whole = λ e. n.whole (walk_none e) ∙ t.whole (walked_none e) ∙ sym (ap (λ (s : Shown). s.run.whole) roots);
  drains = λ e up map is r s ri si. n.drains (sealed_before e) up map is r s (ap state_in (sym roots) ∙ ri) si;
}
  where
    item : Item
    item = record { note = note; shown = later }

    roots : root (with_entry log note later) ≡ root log
    roots = root_on log item t.rooted

    sealed_before : is_sealed (with_entry log note later) ≡ true → is_sealed log ≡ true
    sealed_before e = sym (first_on is_sealing log item t.rooted) ∙ e

    not_halted : has_halted log ≡ false
    not_halted = sym t.halted ∙ n.runs

    halts : has_halted (with_entry log note later) ≡ is_halt note
    halts = has_on is_halt log item ∙ ap (λ b. b || is_halt note) not_halted

    tells_same : is_some later.told ≡ is_some now.told
    tells_same = tells_on now later n.goes.keeper.silent n.longer

    or-none : (a : Bool) → (a || false) ≡ a
    or-none true = refl
    or-none false = refl

    or_false : (a b : Bool) → a ≡ false → b ≡ false → (a || b) ≡ false
    or_false a b x y = ap (λ c. c || b) x ∙ y

    callers : (b : Bool) → is_callers note ≡ b → is_sealed log ≡ true → is_callers note ≡ false
    callers true e s = absurd (false≢true (sym (n.no_callers e) ∙ s))
    callers false e s = e

    walks : (b : Bool) → is_walk note ≡ b → limit.walks ≡ false → is_walk note ≡ false
    walks true e s = absurd (false≢true (sym s ∙ n.may_walk e))
    walks false e s = e

    walked_none : has_walked (with_entry log note later) ≡ false → has_walked log ≡ false
    walked_none e = or_left (has_walked log) (is_walk note) (sym (has_on is_walk log item) ∙ e)

    walk_none : has_walked (with_entry log note later) ≡ false → is_walk note ≡ false
    walk_none e = ap (λ b. b || is_walk note) (sym (walked_none e)) ∙ sym (has_on is_walk log item) ∙ e

-- what a call of a replica that runs leaves alone, so that nothing is noted
pub record IsStill (now later : Shown) : Type 0 where
  pub told : later.told ≡ now.told
  pub fuse : later.fuse ≡ now.fuse
  pub run : later.run ≡ now.run
  pub goes : Goes false now later

still_state : (now later : Shown) → IsStill now later → state_in later ≡ state_in now
still_state now later s = λ i. state_in (record now { told = s.told i; fuse = s.fuse i; run = s.run i; stopped = s.goes.stops i })

pub moment_still : (log : List Item) (now later : Shown) → IsMoment log now → IsStill now later → IsMoment log later
moment_still log now later m s = record {
  own = s.goes.keeper.own_still refl ∙ m.own;
  faults = s.goes.keeper.faults_go.still refl ∙ m.faults;
  stopped = s.goes.stops ∙ m.stopped;
  grows = subst (λ (o : Option ReplicaState). take (length (blocks log)) (blocks_in o) ≡ blocks log) (sym (still_state now later s)) m.grows;
  told = λ e. s.told ∙ m.told e;
  fuse = λ e. s.fuse ∙ m.fuse e;
  run = λ e. s.run ∙ m.run e;
}

pub tied_still : (limit : Bounds) (log : List Item) (now later : Shown) → now.stopped ≡ false → IsTied limit now log → IsStill now later → IsTied limit later log
tied_still limit log now later runs t s = record {
  rooted = t.rooted;
  moment = moment_still log now later t.moment s;
  telling = ap is_some s.told ∙ t.telling;
  grown = t.grown;
  sealed = t.sealed;
  unwalked = t.unwalked;
  halted = s.goes.stops ∙ t.halted;
  risen = λ e. absurd (false≢true (sym (sym t.halted ∙ runs) ∙ e));
  calm = λ e. calm_of (root log) later (go_more false (root log) now later (of_calm (root log) now (t.calm e)) s.goes);
  quiet_still = λ e. absurd (false≢true (sym (sym t.halted ∙ runs) ∙ e));
  schedule_still = λ e. absurd (false≢true (sym (sym t.halted ∙ runs) ∙ e));
  batch = ap (λ r. r.batch) s.run ∙ t.batch;
  walk = λ e. ap (λ r. r.walk) s.run ∙ t.walk e;
  whole = λ e. ap (λ r. r.whole) s.run ∙ t.whole e;
  broken = λ h. absurd (false≢true (sym (sym t.halted ∙ runs) ∙ h));
  worked = λ e r st ri si. subst (λ (b : Bool). HasLed limit b r st) (sym s.goes.stops) (t.worked e r st ri (sym (still_state now later s) ∙ si));
  known = t.known;
  drains = λ e up map is r st ri si. t.drains e (sym s.goes.stops ∙ up) map is r st ri (sym (still_state now later s) ∙ si);
}

-- a new log
abbrev pub BeginLaw : Type 0
BeginLaw = (map : Map) (kept : List Cid) (state : State) → ((c : Cid) (bytes : List ℕ) → bytes_in state.durable.graph c ≡ Some bytes → map c ≡ Some bytes)
    → ((c : Cid) → has c kept ≡ true → is_some (bytes_in state.durable.graph c) ≡ true) → HasDrained map kept state.durable (wanted (queue_in state.run)) state

none_of : (n : ℕ) → take n [] ≡ (let none : List Item = [] in none)
none_of zero = refl
none_of (suc n) = refl

pub tied_root : (law : BeginLaw) (limit : Bounds) (sealed : Bool) (now : Shown) → now.stopped ≡ false
    → (sealed ≡ true → IsWithin limit.most (state_in now)) → (sealed ≡ true → StoresFound limit (state_in now))
    → IsTied limit now (record { note = Root sealed; shown = now } ∷ [])
tied_root law limit sealed now runs most found = record {
  rooted = refl;
  moment = record { own = refl; faults = refl; stopped = refl; grows = take-length (blocks_in (state_in now)); told = λ e. refl; fuse = λ e. refl; run = λ e. refl };
  telling = refl;
  grown = growing;
  sealed = λ e. refl;
  unwalked = λ e. refl;
  halted = runs;
  risen = λ e. absurd (false≢true e);
  calm = λ e. calm_of now now (go_nowhere now);
  quiet_still = λ e. refl;
  schedule_still = λ e. refl;
  batch = refl;
  walk = λ e. refl;
  whole = λ e. refl;
  broken = λ h. absurd (false≢true h);
  worked = λ e r s ri si. subst (λ (b : Bool). HasLed limit b r s) (sym runs) (subst (HasLed limit false r) (same r s ri si)
      (led_of limit false r r (none_leads limit r (bound_first limit.most r (subst (IsWithin limit.most) ri (most e))))));
  known = λ e map is. state_told now (found e map is).tells;
  drains = λ e up map is r s ri si. begun e map is r s ri si;
}
  where
    growing : IsGrowing (record { note = Root sealed; shown = now } ∷ [])
    growing zero = refl
    growing (suc n) = subst (λ (l : List Item). take (length (blocks (record { note = Root sealed; shown = now } ∷ l))) (blocks_in (state_in now)) ≡ blocks (record { note = Root sealed; shown = now } ∷ l)) (sym (none_of n)) (take-length (blocks_in (state_in now)))

    same : (r s : ReplicaState) → state_in now ≡ Some r → state_in now ≡ Some s → r ≡ s
    same r s ri si = ap (λ p. unwrap_or p r) (sym ri ∙ si)

    begun : sealed ≡ true → (map : Map) → limit.found ≡ Some map → (r s : ReplicaState) → state_in now ≡ Some r → state_in now ≡ Some s
        → HasDrained map limit.kept r.state.durable (wanted (queue_in r.state.run)) s.state
    begun e map is r s ri si =
        let f = found e map is in
        subst (λ (x : ReplicaState). HasDrained map limit.kept r.state.durable (wanted (queue_in r.state.run)) x.state) (same r s ri si)
        (law map limit.kept r.state (f.found r ri) (f.own r ri))

-- what is shown is the same
pub tied_shown : (limit : Bounds) (log : List Item) (old new : Shown) → new ≡ old → IsTied limit old log → IsTied limit new log
tied_shown limit log old new same tied = subst (λ (s : Shown). IsTied limit s log) (sym same) tied
