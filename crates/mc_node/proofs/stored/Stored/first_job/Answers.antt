use Rattle.std.proofs.Common.{◌∙◌, ap, arith, false, inl, inr, refl, sym}
use Rattle.std.specs.Prelude.{Err}
use Rattle.mc_core.specs.Calls.{Stays}
use Rattle.mc_core.specs.Jobs.{NextEvents, NextShort}
use Rattle.mc_drain.specs.Words.{begin_failed}
use Rattle.mc_worker.specs.declared.ends.ShopError.TheVariants.{Memory, Spent, Stopped}
use Rattle.mc_node.specs.Serves.{AnswersAt, NextAt, NextStays, NextWants, WorkerCall}
use Rattle.mc_node.proofs.BoxFacts.{adds_in, count_in, kept_in, tied_in}
use Rattle.mc_node.proofs.FrameFacts.{run_same}
use Rattle.mc_node.proofs.JobFacts.{job_ends, next_answer, spent_at, still_told}
use Rattle.mc_node.proofs.PieceFacts.{right_on}
use Rattle.mc_node.proofs.ReplicaFacts.{adds_begins}
use Rattle.mc_node.proofs.ServeFacts.{at_first, job_serves, next_wants, said_of_none, serves_nothing}
use Rattle.mc_node.proofs.stored.Stored.first_job.Goals as goal

pub invariant_of-self : goal.invariant_of-self
invariant_of-self g c = record {
  tied = job_ends g.K.Keeper.told g.K.Keeper.fuse g.K.Keeper.own g.K.Counted.faults g.K.Keeper.quiet g.K.Keeper.schedule c.kept_is_durable.ensures.back _ c.deref_mut.result.now c.begin_job-result.new.replica c.args.self.now.log.items c.begin.new.self.log.items c.note.new.log.items c.halted-entry.result
      (begin_failed c.begin_job-result.result) false (tied_in g.K.Keeper.told g.K.Keeper.fuse g.K.Keeper.own g.K.Counted.faults g.K.Keeper.quiet g.K.Keeper.schedule _ _ _ _ c.deref_mut.ensures.value c.begin.new.self.tied) c.in-Ok.ensures.log c.requires.sealed (ap (λ r. r.stopped) c.deref_mut.ensures.value ∙ c.in-Ok.ensures.runs) (kept_in g.K.Keeper.told _ _ _ c.deref_mut.ensures.value c.deref.ensures c.is_sound.ensures.kept) c.begin_job-result.ensures.keeps (run_same c.begin_job-result.ensures.rest)
      (still_told _ _ _ _ c.begin_job-result.ensures.leads) c.halted-entry.ensures (adds_in c.halted-entry.result _ _ _ _ c.deref-2.ensures c.note.ensures.adds);
  right = right_on c.begin.new.self.taker g.J.Naming.found _ _ (c.begin_job-result.ensures.rest.inbox_same ∙ ap (λ r. r.inbox) c.deref_mut.ensures.value) c.begin.new.self.right;
}

pub returns-then-is_stopped-clause-does : goal.returns-then-is_stopped-clause-does
returns-then-is_stopped-clause-does g c =
    serves_nothing g.K.Keeper.told g.K.Keeper.fuse g.K.Keeper.own g.K.Counted.faults g.K.Keeper.quiet g.K.Keeper.schedule (AnswersAt c.args.limit (Err Stopped)) (WorkerCall NextEvents Stays NextStays (Err Stopped)) (NextWants (Err Stopped)) _ c.args.self.now.replica.value _ _ c.args.self.now.tied refl
    (record { stopped = sym c.is_stopped.ensures ∙ c.if-is_stopped.true; spent = said_of_none (g.K.Keeper.told c.args.self.now.replica.value.keeper) }) (λ s. refl) (λ q. refl)

pub returns-in-Err-clause-does : goal.returns-in-Err-clause-does
returns-in-Err-clause-does g c =
    at_first g.K.Keeper.told g.K.Keeper.fuse g.K.Keeper.own g.K.Counted.faults g.K.Keeper.quiet g.K.Keeper.schedule (NextAt c.args.limit (Err Memory)) c.begin.new.self.replica.value c.args.self.now.replica.value _ _ _ c.in-Err.ensures.replica (serves_nothing g.K.Keeper.told g.K.Keeper.fuse g.K.Keeper.own g.K.Counted.faults g.K.Keeper.quiet g.K.Keeper.schedule (AnswersAt c.args.limit (Err Memory)) (WorkerCall NextEvents Stays NextStays (Err Memory)) (NextWants (Err Memory)) _ c.begin.new.self.replica.value _ _ c.begin.new.self.tied c.in-Err.ensures.log
    (record { stopped = ap (λ r. r.stopped) c.in-Err.ensures.replica ∙ sym c.is_stopped.ensures ∙ c.if-is_stopped.false; spent = said_of_none (g.K.Keeper.told c.begin.new.self.replica.value.keeper) }) (λ s. inl refl) (λ q. inl refl))

pub returns-then-length-limit-clause-does : goal.returns-then-length-limit-clause-does
returns-then-length-limit-clause-does g c =
    at_first g.K.Keeper.told g.K.Keeper.fuse g.K.Keeper.own g.K.Counted.faults g.K.Keeper.quiet g.K.Keeper.schedule (NextAt c.args.limit (Err Spent)) c.begin.new.self.replica.value c.args.self.now.replica.value _ _ _ c.in-Ok.ensures.replica (serves_nothing g.K.Keeper.told g.K.Keeper.fuse g.K.Keeper.own g.K.Counted.faults g.K.Keeper.quiet g.K.Keeper.schedule (AnswersAt c.args.limit (Err Spent)) (WorkerCall NextEvents Stays NextStays (Err Spent)) (NextWants (Err Spent)) _ c.begin.new.self.replica.value _ _ c.begin.new.self.tied c.in-Ok.ensures.log
    (record { stopped = c.in-Ok.ensures.runs; spent = spent_at (g.K.Keeper.told c.begin.new.self.replica.value.keeper) c.args.limit c.in-Ok.length (omega (arith, c.if-length-limit.true)) c.in-Ok.ensures.length }) (λ s. refl) (λ q. refl))

pub returns-clause-extends : goal.returns-clause-extends
returns-clause-extends g c = adds_begins c.halted-entry.result c.begin_job-result.new.replica _ _ _ c.in-Ok.ensures.log (adds_in c.halted-entry.result _ _ _ _ c.deref-2.ensures c.note.ensures.adds)

pub returns-clause-job : goal.returns-clause-job
returns-clause-job g c = next_answer g.K.Keeper.told g.K.Keeper.fuse g.K.Keeper.own g.K.Counted.faults g.K.Keeper.quiet g.K.Keeper.schedule _ c.deref_mut.result.now c.args.self.now.log.items c.begin.new.self.log.items c.begin_job-result.result c.answered.result c.answered.ensures
    (tied_in g.K.Keeper.told g.K.Keeper.fuse g.K.Keeper.own g.K.Counted.faults g.K.Keeper.quiet g.K.Keeper.schedule _ _ _ _ c.deref_mut.ensures.value c.begin.new.self.tied) c.in-Ok.ensures.log c.requires.sealed (ap (λ r. r.stopped) c.deref_mut.ensures.value ∙ c.in-Ok.ensures.runs) c.begin_job-result.ensures.digest c.begin_job-result.ensures.own

pub returns-clause-does : goal.returns-clause-does
returns-clause-does g c =
    let tied = job_ends g.K.Keeper.told g.K.Keeper.fuse g.K.Keeper.own g.K.Counted.faults g.K.Keeper.quiet g.K.Keeper.schedule c.kept_is_durable.ensures.back _ c.deref_mut.result.now c.begin_job-result.new.replica c.args.self.now.log.items c.begin.new.self.log.items c.note.new.log.items c.halted-entry.result
    (begin_failed c.begin_job-result.result) false (tied_in g.K.Keeper.told g.K.Keeper.fuse g.K.Keeper.own g.K.Counted.faults g.K.Keeper.quiet g.K.Keeper.schedule _ _ _ _ c.deref_mut.ensures.value c.begin.new.self.tied) c.in-Ok.ensures.log c.requires.sealed (ap (λ r. r.stopped) c.deref_mut.ensures.value ∙ c.in-Ok.ensures.runs) (kept_in g.K.Keeper.told _ _ _ c.deref_mut.ensures.value c.deref.ensures c.is_sound.ensures.kept) c.begin_job-result.ensures.keeps (run_same c.begin_job-result.ensures.rest)
    (still_told _ _ _ _ c.begin_job-result.ensures.leads) c.halted-entry.ensures (adds_in c.halted-entry.result _ _ _ _ c.deref-2.ensures c.note.ensures.adds) in
    at_first g.K.Keeper.told g.K.Keeper.fuse g.K.Keeper.own g.K.Counted.faults g.K.Keeper.quiet g.K.Keeper.schedule (NextAt c.args.limit c.answered.result) c.deref_mut.result.now c.args.self.now.replica.value _ _ _ (c.deref_mut.ensures.value ∙ c.in-Ok.ensures.replica) (job_serves g.K.Keeper.told g.K.Keeper.fuse g.K.Keeper.own g.K.Counted.faults g.K.Keeper.quiet g.K.Keeper.schedule NextEvents Stays NextShort NextStays (λ s new short. inr short) NextWants _ c.args.limit c.in-Ok.length c.deref_mut.result.now c.begin_job-result.new.replica
    c.args.self.now.log.items c.begin.new.self.log.items c.note.new.log.items c.halted-entry.result false c.begin_job-result.result c.answered.result c.answered.ensures (tied_in g.K.Keeper.told g.K.Keeper.fuse g.K.Keeper.own g.K.Counted.faults g.K.Keeper.quiet g.K.Keeper.schedule _ _ _ _ c.deref_mut.ensures.value c.begin.new.self.tied) c.in-Ok.ensures.log tied
    (ap (λ r. r.stopped) c.deref_mut.ensures.value ∙ c.in-Ok.ensures.runs) (omega (arith, c.if-length-limit.false)) (count_in g.K.Keeper.told _ _ _ c.deref_mut.ensures.value c.in-Ok.ensures.length) c.begin_job-result.ensures.call c.begin_job-result.ensures.keeps (run_same c.begin_job-result.ensures.rest)
    (next_wants _ _ _ _ c.begin_job-result.ensures.begins c.begin_job-result.ensures.broken c.begin_job-result.ensures.short) c.halted-entry.ensures (adds_in c.halted-entry.result _ _ _ _ c.deref-2.ensures c.note.ensures.adds))
