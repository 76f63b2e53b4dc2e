-- The log of a sealed node stays tied to its replica over the calls of workers.
use Rattle.std.proofs.Common.{◌≡◌, Bool, true, false, List, length, take, Option, Some, None, refl, sym, ap, ◌∙◌, subst}
use Rattle.std.specs.Prelude.{is_some}
use Rattle.std.proofs.lemmas.Bool.{false≢true}
use Rattle.std.proofs.Math.Seq.{take-length}
use Rattle.mc_base.specs.Told.{Told}
use Rattle.mc_core.specs.Events.{ReplicaState}
use Rattle.mc_model.specs.State.{blocks_of}
use Rattle.mc_node.specs.declared.note.Note.TheVariants.{Fetched}
use Rattle.mc_node.specs.Items.{Item, Shown, blocks, blocks_in, has_halted, is_sealed, root, state_in}
use Rattle.mc_node.specs.Moves.{KeepsRun, with_entry}
use Rattle.mc_node.specs.Ties.{Goes, IsTied}
use Rattle.mc_node.specs.Works.{Bounds, HasLed, WorkersLead}
use Rattle.mc_node.proofs.FrameFacts.{calm_of, go_more, go_nowhere, of_calm}
use Rattle.mc_node.proofs.ItemFacts.{longer_on}
use Rattle.mc_node.proofs.TieFacts.{IsLonger, longer_blocks, tells_on, tied_noted, told_state}
use Rattle.mc_node.proofs.WorkFacts.{Step, lead_of, led_of, step_then}

pub value_of : {A : Type 0} (o : Option A) → is_some o ≡ true → (x : A) × (o ≡ Some x)
value_of None e = absurd (false≢true e)
value_of (Some x) e = (x, refl)

told_at : {A B : Type 0} (P : A → B → Type 0) (a : Option A) (b : Option B) (x : A) (y : B) → a ≡ Some x → b ≡ Some y → Told a b P → P x y
told_at P a b x y ai bi t = subst (λ (o : Option _). Told (Some x) o P) bi (subst (λ (o : Option _). Told o b P) ai t)

-- the state between, where the first is told
now_state : (limit : Bounds) (log : List Item) (now : Shown) → IsTied limit now log → (r : ReplicaState) → state_in (root log) ≡ Some r → (m : ReplicaState) × (state_in now ≡ Some m)
now_state limit log now t r ri = value_of (state_in now) (told_state now ∙ t.telling ∙ sym (told_state (root log)) ∙ ap is_some ri)

-- what the workers lead to, with one call more
pub worked_on : (limit : Bounds) (log : List Item) (now later : Shown) (failed : Bool) → IsTied limit now log → is_sealed log ≡ true → now.stopped ≡ false → later.stopped ≡ failed → Told (state_in now) (state_in later) (Step limit failed)
    → (r s : ReplicaState) → state_in (root log) ≡ Some r → state_in later ≡ Some s → HasLed limit later.stopped r s
worked_on limit log now later failed t sealed runs stops step r s ri si =
    let m = now_state limit log now t r ri in
    let first : WorkersLead limit false r m.0 = lead_of limit false r m.0 (subst (λ (b : Bool). HasLed limit b r m.0) runs (t.worked sealed r m.0 ri m.1)) in
    let next : Step limit failed m.0 s = told_at (Step limit failed) (state_in now) (state_in later) m.0 s m.1 si step in
    subst (λ (b : Bool). HasLed limit b r s) (sym stops) (led_of limit failed r s (step_then limit failed r m.0 s first next))

-- a call of a worker that has not failed
pub tied_worked : (limit : Bounds) (log : List Item) (now later : Shown) → IsTied limit now log → is_sealed log ≡ true → now.stopped ≡ false → Goes false now later → KeepsRun now later → IsLonger now later → Told (state_in now) (state_in later) (Step limit false)
    → IsTied limit later log
tied_worked limit log now later t sealed runs goes keeps more step = record {
  rooted = t.rooted;
  moment = record {
    own = goes.keeper.own_still refl ∙ t.moment.own;
    faults = goes.keeper.faults_go.still refl ∙ t.moment.faults;
    stopped = goes.stops ∙ t.moment.stopped;
    grows = longer_on (blocks log) (blocks_in (state_in now)) (blocks_in (state_in later)) t.moment.grows (longer_blocks now later tells_same more);
    told = λ e. absurd (false≢true (sym e ∙ sealed));
    fuse = λ e. absurd (false≢true (sym e ∙ sealed));
    run = λ e. absurd (false≢true (sym e ∙ sealed));
  };
  telling = tells_same ∙ t.telling;
  grown = t.grown;
  sealed = t.sealed;
  unwalked = t.unwalked;
  halted = goes.stops ∙ t.halted;
  risen = λ e. absurd (false≢true (sym not_halted ∙ e));
  calm = λ e. calm_of (root log) later (go_more false (root log) now later (of_calm (root log) now (t.calm e)) goes);
  quiet_still = λ e. absurd (false≢true (sym not_halted ∙ e));
  schedule_still = λ e. absurd (false≢true (sym not_halted ∙ e));
  batch = keeps.batch ∙ t.batch;
  walk = λ e. keeps.walk ∙ t.walk e;
  whole = λ e. keeps.whole ∙ t.whole e;
  broken = λ h. absurd (false≢true (sym not_halted ∙ h));
  worked = λ e r s ri si. worked_on limit log now later false t sealed runs (goes.stops ∙ runs) step r s ri si;
  known = t.known;
  drains = λ e up map is r s ri si.
      let m = now_state limit log now t r ri in
      (told_at (Step limit false) (state_in now) (state_in later) m.0 s m.1 si step).leads.goes refl map limit.kept (is, refl) r.state.durable _ (t.drains e runs map is r m.0 ri m.1);
}
  where
    not_halted : has_halted log ≡ false
    not_halted = sym t.halted ∙ runs

    tells_same : is_some later.told ≡ is_some now.told
    tells_same = tells_on now later goes.keeper.silent more

-- what was processed comes first there too
longer_itself : (now : Shown) → IsLonger now now
longer_itself now = over (state_in now)
  where
    over : (o : Option ReplicaState) → Told o o (λ s new. take (length (blocks_of s.state.durable)) (blocks_of new.state.durable) ≡ blocks_of s.state.durable)
    over None = tt
    over (Some s) = take-length (blocks_of s.state.durable)

-- and an entry of a fetched block more
pub tied_fetched : (limit : Bounds) (log : List Item) (now : Shown) → IsTied limit now log → now.stopped ≡ false → IsTied limit now (with_entry log Fetched now)
tied_fetched limit log now t runs = tied_noted limit log Fetched now now t (record {
  runs = runs;
  goes = go_nowhere now;
  longer = longer_itself now;
  no_callers = λ e. absurd (false≢true e);
  may_walk = λ e. absurd (false≢true e);
  batch = refl;
  walk = λ e. refl;
  whole = λ e. refl;
  worked = t.worked;
  drains = t.drains;
})
