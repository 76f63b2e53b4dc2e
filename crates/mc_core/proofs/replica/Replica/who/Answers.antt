use Rattle.mc_keep.specs.Causes.{is_fault_kind}
use Rattle.mc_keep.proofs.Frames.{read_well}
use Rattle.mc_plan.specs.Refusals.{kind_of}
use Rattle.std.proofs.Common.{◌≡◌, refl, Option, ap, sym}
use Rattle.mc_model.specs.Who.{who}
use Rattle.mc_base.specs.declared.cid.Cid.{Cid}
use Rattle.mc_model.specs.Kept.{Kept, processed}
use Rattle.std.specs.Prelude.{⊤}
use Rattle.mc_plan.proofs.CallFacts.{answers_call}
use Rattle.mc_core.specs.Replica.{running_of}
use Rattle.mc_core.proofs.Keeps.{looks_on, still_on, stops_once}
use Rattle.mc_plan.proofs.SoundFacts.{looks_down}
use Rattle.mc_core.proofs.replica.Replica.who.Goals as goal

pub returns-then-self-clause-keeps : goal.returns-then-self-clause-keeps
returns-then-self-clause-keeps g c = still_on refl refl refl

pub returns-in-Ok-clause-call : goal.returns-in-Ok-clause-call
returns-in-Ok-clause-call g c =
    answers_call c.kept_is_durable.ensures.back (λ (kept : Kept) (cid : Option Cid). cid ≡ who (processed kept) c.args.key.now) _ _ _ _ _ (running_of c.args.self.now) ⊤ _ c.if-self.false c.in-Ok.ensures.reads.told_same c.in-Ok.ensures.reads.fuse_same
    (rw c.args.self.now.laid at c.in-Ok.ensures.row)

pub returns-in-Ok-clause-keeps : goal.returns-in-Ok-clause-keeps
returns-in-Ok-clause-keeps g c = looks_on c.in-Ok.ensures.reads refl

pub returns-in-Err-clause-keeps : goal.returns-in-Err-clause-keeps
returns-in-Err-clause-keeps g c =
    looks_on (read_well c.in-Err.ensures.reads (sym (ap (λ e. is_fault_kind (kind_of e)) c.from-error.ensures))) (stops_once _ _ _ c.if-self.false c.stops-self.ensures)

pub invariant_of-self-in-Err-clause-sound : goal.invariant_of-self-in-Err-clause-sound
invariant_of-self-in-Err-clause-sound g c = looks_down _ _ _ _ (running_of c.args.self.now) c.if-self.false c.in-Err.ensures.reads.told_same c.args.self.now.sound
