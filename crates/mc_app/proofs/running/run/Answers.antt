use Rattle.std.proofs.Common.{◌≡◌, arith, refl, true}
use Rattle.mc_core.specs.declared.replica.OpenCause.TheVariants as causes
use Rattle.mc_app.specs.Outcome.{starts_from}
use Rattle.mc_app.specs.declared.status.Status.TheVariants as status
use Rattle.mc_app.proofs.EndFacts.{some_handed, unmade_outcome, unmade_short}
use Rattle.mc_app.proofs.KeepingFacts.{making_none}
use Rattle.mc_app.proofs.RunFacts.{keeps_same}
use Rattle.mc_gen.specs.Script.{script_text}
use Rattle.mc_keepers.specs.declared.keepers.KeeperPlan.TheVariants as plans
use Rattle.mc_app.proofs.GeneratingFacts.{generates_asked}
use Rattle.mc_app.proofs.ValidFacts.{gen_ends_well, run_ends_well}
use Rattle.mc_seats.proofs.MemberWords.{members}
use Rattle.mc_app.proofs.running.run.Goals as goal

pub returns-in-Ok-Gen-clause-generated : goal.returns-in-Ok-Gen-clause-generated
returns-in-Ok-Gen-clause-generated g c = λ start count asked.
    generates_asked _ _ _ _ _ _ _ _ _ start count (rw c.in-Ok-Gen.field-0-is at c.in-Ok-Gen.ensures.ok) asked c.generate.ensures.generated

pub returns-in-Err-Memory-clause-outcome : goal.returns-in-Err-Memory-clause-outcome
returns-in-Err-Memory-clause-outcome g c = λ plan replicas asked.
    unmade_outcome g.K.Keepers.makes g.K.Keepers.takes (members g.K.K.Keeper g.K.K.Counted) plan causes.Memory status.Memory
    (starts_from (g.K.Keepers.starts c.args.keepers.now plan) 0 replicas) c.args.keepers.now c.args.keepers.now
    (g.K.Keepers.quiet c.args.keepers.now plan ≡ true) (g.K.Keepers.lost c.args.keepers.now) (g.K.Keepers.lost c.args.keepers.now)
    (g.S.Source.left c.args.script.now) (g.O.Sink.written c.args.out.now) refl (making_none g.K.Keepers.makes g.K.Keepers.takes (members g.K.K.Keeper g.K.K.Counted) plan (starts_from (g.K.Keepers.starts c.args.keepers.now plan) 0 replicas) c.args.keepers.now) (omega arith)

pub returns-in-Err-Memory-clause-generated : goal.returns-in-Err-Memory-clause-generated
returns-in-Err-Memory-clause-generated g c = λ start count asked. (
  unmade_short g.K.Keepers.makes g.K.Keepers.takes (members g.K.K.Keeper g.K.K.Counted) plans.Memory status.Memory (script_text start count)
      (starts_from (g.K.Keepers.starts c.args.keepers.now plans.Memory) 0 3) c.args.keepers.now c.args.keepers.now
      (g.K.Keepers.quiet c.args.keepers.now plans.Memory ≡ true) (g.K.Keepers.lost c.args.keepers.now) (g.K.Keepers.lost c.args.keepers.now)
      (making_none g.K.Keepers.makes g.K.Keepers.takes (members g.K.K.Keeper g.K.K.Counted) plans.Memory (starts_from (g.K.Keepers.starts c.args.keepers.now plans.Memory) 0 3) c.args.keepers.now) (omega arith) refl,
  keeps_same (g.O.Sink.written c.args.out.now),
)

pub returns-in-Ok-Gen-clause-untouched_keepers : goal.returns-in-Ok-Gen-clause-untouched_keepers
returns-in-Ok-Gen-clause-untouched_keepers g c = rw (rw c.in-Ok-Gen.field-0-is at c.in-Ok-Gen.ensures.ok) c.generate.ensures.untouched_keepers

pub returns-in-Ok-Run-clause-untouched_keepers : goal.returns-in-Ok-Run-clause-untouched_keepers
returns-in-Ok-Run-clause-untouched_keepers g c = rw (rw c.in-Ok-Run.field-0-is at c.in-Ok-Run.ensures.ok) c.run_keepers.ensures.untouched_keepers

pub returns-in-Ok-Gen-clause-handed_back : goal.returns-in-Ok-Gen-clause-handed_back
returns-in-Ok-Gen-clause-handed_back g c = λ asked. rw (rw c.in-Ok-Gen.field-0-is at c.in-Ok-Gen.ensures.ok) c.generate.ensures.handed_back

pub returns-in-Ok-Run-clause-handed_back : goal.returns-in-Ok-Run-clause-handed_back
returns-in-Ok-Run-clause-handed_back g c = λ asked. rw (rw c.in-Ok-Run.field-0-is at c.in-Ok-Run.ensures.ok) c.run_keepers.ensures.handed_back

pub returns-in-Err-Memory-clause-handed_back : goal.returns-in-Err-Memory-clause-handed_back
returns-in-Err-Memory-clause-handed_back g c = λ asked. some_handed g.K.Keepers.makes g.K.Keepers.takes (members g.K.K.Keeper g.K.K.Counted) _ _ _ _ (making_none g.K.Keepers.makes g.K.Keepers.takes (members g.K.K.Keeper g.K.K.Counted) _ _ c.args.keepers.now)

pub returns-in-Ok-Run-clause-complete : goal.returns-in-Ok-Run-clause-complete
returns-in-Ok-Run-clause-complete g c = λ plan replicas bytes asked held valid quiet reads writes makes.
    run_ends_well (g.K.Keepers.starts c.args.keepers.now) (g.K.Keepers.quiet c.args.keepers.now) _ bytes _ _ _ _ plan _ replicas _ _ _ _ _ _ _ _ _ _ _ _
    c.run_keepers.ensures.no_usage (rw c.in-Ok-Run.field-0-is at c.in-Ok-Run.ensures.ok) asked held valid quiet reads writes makes c.run_keepers.ensures.ends c.run_keepers.ensures.keepers c.run_keepers.ensures.outcome

pub returns-in-Ok-Gen-clause-complete_script : goal.returns-in-Ok-Gen-clause-complete_script
returns-in-Ok-Gen-clause-complete_script g c = λ start count asked valid quiet writes makes.
    gen_ends_well _ _ _ _ start count _ _ _ _ _ _ 0 0 _ _ _ _ _ _
    (rw c.in-Ok-Gen.field-0-is at c.in-Ok-Gen.ensures.ok) asked valid quiet writes makes (record { reads = record { later = omega arith; rose = λ is. absurd (c.generate.ensures.no_read is) }; writes = c.generate.ensures.write_cause }) c.generate.ensures.keepers c.generate.ensures.generated
