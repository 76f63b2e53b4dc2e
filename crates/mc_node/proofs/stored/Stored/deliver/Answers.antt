use Rattle.std.proofs.Common.{◌∙◌, ap, arith, false, inl, refl, sym}
use Rattle.std.specs.Prelude.{Err}
use Rattle.mc_core.specs.Jobs.{DeliverEvents, DeliverShort, found_in}
use Rattle.mc_drain.specs.JobCalls.{GivesBack}
use Rattle.mc_drain.specs.Words.{begin_failed}
use Rattle.mc_worker.specs.declared.ends.ShopError.TheVariants.{Memory, Spent, Stopped}
use Rattle.mc_node.specs.Jobs.{has_processed}
use Rattle.mc_node.specs.Serves.{AnswersAt, DeliverWants, DeliversAt, WorkerCall}
use Rattle.mc_node.proofs.BoxFacts.{adds_in, count_in, kept_in, tied_in}
use Rattle.mc_node.proofs.FrameFacts.{run_same}
use Rattle.mc_node.proofs.JobFacts.{deliver_told, found_has, handed_adds, handed_blocks, handed_queued, handed_says, job_ends, processed_alike, spent_at}
use Rattle.mc_node.proofs.PieceFacts.{right_on}
use Rattle.mc_node.proofs.ReplicaFacts.{adds_begins}
use Rattle.mc_node.proofs.ServeFacts.{at_first, back_runs, deliver_wants, job_serves, noted_as, said_of_none, serves_by, serves_nothing, short_back}
use Rattle.mc_node.proofs.stored.Stored.deliver.Goals as goal

pub deliver_job-result-requires-clause-digest : goal.deliver_job-result-requires-clause-digest
deliver_job-result-requires-clause-digest g c = found_has g.J.Naming.found c.args.job.cid c.args.found c.requires.fits

pub invariant_of-self : goal.invariant_of-self
invariant_of-self g c = record {
  tied = job_ends g.K.Keeper.told g.K.Keeper.fuse g.K.Keeper.own g.K.Counted.faults g.K.Keeper.quiet g.K.Keeper.schedule c.kept_is_durable.ensures.back _ c.deref_mut.result.now c.deliver_job-result.new.replica c.args.self.now.log.items c.begin.new.self.log.items c.note.new.log.items c.fetched-entry.result
      (begin_failed c.deliver_job-result.result) (has_processed c.deliver_job-result.result) (tied_in g.K.Keeper.told g.K.Keeper.fuse g.K.Keeper.own g.K.Counted.faults g.K.Keeper.quiet g.K.Keeper.schedule _ _ _ _ c.deref_mut.ensures.value c.begin.new.self.tied) c.in-Ok.ensures.log c.requires.sealed (ap (λ r. r.stopped) c.deref_mut.ensures.value ∙ c.in-Ok.ensures.runs) (kept_in g.K.Keeper.told _ _ _ c.deref_mut.ensures.value c.deref.ensures c.is_sound.ensures.kept) c.deliver_job-result.ensures.keeps (run_same c.deliver_job-result.ensures.rest)
      (deliver_told _ c.args.limit c.in-Ok.processed _ c.args.job.cid c.args.found _ _ _ _ _ c.requires.limit c.requires.fits (omega (arith, c.if-processed-limit.false)) (omega arith) (count_in g.K.Keeper.told _ _ _ c.deref_mut.ensures.value c.in-Ok.ensures.length) c.deliver_job-result.ensures.leads)
      c.fetched-entry.ensures (adds_in c.fetched-entry.result _ _ _ _ c.deref-2.ensures c.note.ensures.adds);
  right = right_on c.begin.new.self.taker g.J.Naming.found _ _ (c.deliver_job-result.ensures.rest.inbox_same ∙ ap (λ r. r.inbox) c.deref_mut.ensures.value) c.begin.new.self.right;
}

pub returns-then-is_stopped-clause-does : goal.returns-then-is_stopped-clause-does
returns-then-is_stopped-clause-does g c =
    record {
      answer = Err Stopped;
      is = refl;
      says = tt;
      does = serves_nothing g.K.Keeper.told g.K.Keeper.fuse g.K.Keeper.own g.K.Counted.faults g.K.Keeper.quiet g.K.Keeper.schedule (AnswersAt c.args.limit (Err Stopped)) (WorkerCall (λ s. DeliverEvents s c.args.job.cid (found_in c.args.found)) (GivesBack c.args.job.cid) (GivesBack c.args.job.cid) (Err Stopped)) (DeliverWants c.args.job.cid (Err Stopped)) _ c.args.self.now.replica.value _ _ c.args.self.now.tied refl
          (record { stopped = sym c.is_stopped.ensures ∙ c.if-is_stopped.true; spent = said_of_none (g.K.Keeper.told c.args.self.now.replica.value.keeper) }) (λ s. refl) (λ q. refl);
    }

pub returns-in-Err-clause-does : goal.returns-in-Err-clause-does
returns-in-Err-clause-does g c =
    record {
      answer = Err Memory;
      is = refl;
      says = tt;
      does = at_first g.K.Keeper.told g.K.Keeper.fuse g.K.Keeper.own g.K.Counted.faults g.K.Keeper.quiet g.K.Keeper.schedule (DeliversAt c.args.limit c.args.job.cid c.args.found (Err Memory)) c.begin.new.self.replica.value c.args.self.now.replica.value _ _ _ c.in-Err.ensures.replica (serves_by g.K.Keeper.told g.K.Keeper.fuse g.K.Keeper.own g.K.Counted.faults g.K.Keeper.quiet g.K.Keeper.schedule (AnswersAt c.args.limit (Err Memory)) (WorkerCall (λ s. DeliverEvents s c.args.job.cid (found_in c.args.found)) (GivesBack c.args.job.cid) (GivesBack c.args.job.cid) (Err Memory)) (DeliverWants c.args.job.cid (Err Memory)) _ false false c.begin.new.self.replica.value c.give_back.new.self.replica.value
          c.args.self.now.log.items c.begin.new.self.log.items c.give_back.new.self.log.items c.begin.new.self.tied c.in-Err.ensures.log c.give_back.new.self.tied
          (record { stopped = ap (λ r. r.stopped) c.in-Err.ensures.replica ∙ sym c.is_stopped.ensures ∙ c.if-is_stopped.false; spent = said_of_none (g.K.Keeper.told c.begin.new.self.replica.value.keeper) })
          c.give_back.ensures.goes c.give_back.ensures.keeps (run_same c.give_back.ensures.rest) (inl (back_runs c.args.job.cid c.begin.new.self.replica.value.stopped _ _ (ap (λ r. r.stopped) c.in-Err.ensures.replica ∙ sym c.is_stopped.ensures ∙ c.if-is_stopped.false) c.give_back.ensures.wants)) c.give_back.ensures.log);
    }

pub returns-then-processed-limit-clause-does : goal.returns-then-processed-limit-clause-does
returns-then-processed-limit-clause-does g c =
    record {
      answer = Err Spent;
      is = refl;
      says = tt;
      does = at_first g.K.Keeper.told g.K.Keeper.fuse g.K.Keeper.own g.K.Counted.faults g.K.Keeper.quiet g.K.Keeper.schedule (DeliversAt c.args.limit c.args.job.cid c.args.found (Err Spent)) c.begin.new.self.replica.value c.args.self.now.replica.value _ _ _ c.in-Ok.ensures.replica (serves_by g.K.Keeper.told g.K.Keeper.fuse g.K.Keeper.own g.K.Counted.faults g.K.Keeper.quiet g.K.Keeper.schedule (AnswersAt c.args.limit (Err Spent)) (WorkerCall (λ s. DeliverEvents s c.args.job.cid (found_in c.args.found)) (GivesBack c.args.job.cid) (GivesBack c.args.job.cid) (Err Spent)) (DeliverWants c.args.job.cid (Err Spent)) _ false false c.begin.new.self.replica.value c.give_back-then-processed-limit.new.self.replica.value
          c.args.self.now.log.items c.begin.new.self.log.items c.give_back-then-processed-limit.new.self.log.items c.begin.new.self.tied c.in-Ok.ensures.log c.give_back-then-processed-limit.new.self.tied
          (record { stopped = c.in-Ok.ensures.runs; spent = spent_at (g.K.Keeper.told c.begin.new.self.replica.value.keeper) c.args.limit c.in-Ok.processed (omega (arith, c.if-processed-limit.true)) c.in-Ok.ensures.length })
          c.give_back-then-processed-limit.ensures.goes c.give_back-then-processed-limit.ensures.keeps (run_same c.give_back-then-processed-limit.ensures.rest) (back_runs c.args.job.cid c.begin.new.self.replica.value.stopped _ _ c.in-Ok.ensures.runs c.give_back-then-processed-limit.ensures.wants) c.give_back-then-processed-limit.ensures.log);
    }

pub returns-clause-extends : goal.returns-clause-extends
returns-clause-extends g c = adds_begins c.fetched-entry.result c.deliver_job-result.new.replica _ _ _ c.in-Ok.ensures.log (adds_in c.fetched-entry.result _ _ _ _ c.deref-2.ensures c.note.ensures.adds)

pub returns-clause-does : goal.returns-clause-does
returns-clause-does g c =
    let tied = job_ends g.K.Keeper.told g.K.Keeper.fuse g.K.Keeper.own g.K.Counted.faults g.K.Keeper.quiet g.K.Keeper.schedule c.kept_is_durable.ensures.back _ c.deref_mut.result.now c.deliver_job-result.new.replica c.args.self.now.log.items c.begin.new.self.log.items c.note.new.log.items c.fetched-entry.result
    (begin_failed c.deliver_job-result.result) (has_processed c.deliver_job-result.result) (tied_in g.K.Keeper.told g.K.Keeper.fuse g.K.Keeper.own g.K.Counted.faults g.K.Keeper.quiet g.K.Keeper.schedule _ _ _ _ c.deref_mut.ensures.value c.begin.new.self.tied) c.in-Ok.ensures.log c.requires.sealed (ap (λ r. r.stopped) c.deref_mut.ensures.value ∙ c.in-Ok.ensures.runs) (kept_in g.K.Keeper.told _ _ _ c.deref_mut.ensures.value c.deref.ensures c.is_sound.ensures.kept) c.deliver_job-result.ensures.keeps (run_same c.deliver_job-result.ensures.rest)
    (deliver_told _ c.args.limit c.in-Ok.processed _ c.args.job.cid c.args.found _ _ _ _ _ c.requires.limit c.requires.fits (omega (arith, c.if-processed-limit.false)) (omega arith) (count_in g.K.Keeper.told _ _ _ c.deref_mut.ensures.value c.in-Ok.ensures.length) c.deliver_job-result.ensures.leads)
    c.fetched-entry.ensures (adds_in c.fetched-entry.result _ _ _ _ c.deref-2.ensures c.note.ensures.adds) in
    let serves = job_serves g.K.Keeper.told g.K.Keeper.fuse g.K.Keeper.own g.K.Counted.faults g.K.Keeper.quiet g.K.Keeper.schedule (λ s. DeliverEvents s c.args.job.cid (found_in c.args.found)) (GivesBack c.args.job.cid) (λ s. DeliverShort s c.args.job.cid) (GivesBack c.args.job.cid) (short_back c.args.job.cid) (DeliverWants c.args.job.cid) _ c.args.limit c.in-Ok.processed c.deref_mut.result.now c.deliver_job-result.new.replica
    c.args.self.now.log.items c.begin.new.self.log.items c.note.new.log.items c.fetched-entry.result (has_processed c.deliver_job-result.result) c.deliver_job-result.result c.answered.result c.answered.ensures (tied_in g.K.Keeper.told g.K.Keeper.fuse g.K.Keeper.own g.K.Counted.faults g.K.Keeper.quiet g.K.Keeper.schedule _ _ _ _ c.deref_mut.ensures.value c.begin.new.self.tied) c.in-Ok.ensures.log tied
    (ap (λ r. r.stopped) c.deref_mut.ensures.value ∙ c.in-Ok.ensures.runs) (omega (arith, c.if-processed-limit.false)) (count_in g.K.Keeper.told _ _ _ c.deref_mut.ensures.value c.in-Ok.ensures.length) c.deliver_job-result.ensures.call c.deliver_job-result.ensures.keeps (run_same c.deliver_job-result.ensures.rest)
    (deliver_wants c.args.job.cid _ _ _ _ c.deliver_job-result.ensures.wants c.deliver_job-result.ensures.known c.deliver_job-result.ensures.broken c.deliver_job-result.ensures.short) c.fetched-entry.ensures (adds_in c.fetched-entry.result _ _ _ _ c.deref-2.ensures c.note.ensures.adds) in
    record {
      answer = c.answered.result;
      is = c.handed.ensures;
      does = at_first g.K.Keeper.told g.K.Keeper.fuse g.K.Keeper.own g.K.Counted.faults g.K.Keeper.quiet g.K.Keeper.schedule (DeliversAt c.args.limit c.args.job.cid c.args.found c.answered.result) c.deref_mut.result.now c.args.self.now.replica.value _ _ _ (c.deref_mut.ensures.value ∙ c.in-Ok.ensures.replica)
          (noted_as _ _ _ _ _ _ _ _ _ _ (processed_alike c.deliver_job-result.result ∙ ap has_processed (sym c.answered.ensures)) serves);
      says = handed_says c.args.job.cid (found_in c.args.found) c.deliver_job-result.result c.answered.result c.answered.ensures c.deliver_job-result.ensures.answers;
    }

pub returns-clause-commits : goal.returns-clause-commits
returns-clause-commits g c = handed_adds c.deliver_job-result.result c.answered.result c.handed.result c.fetched-entry.result c.deliver_job-result.new.replica _ _ _ c.answered.ensures c.handed.ensures c.fetched-entry.ensures c.in-Ok.ensures.log (adds_in c.fetched-entry.result _ _ _ _ c.deref-2.ensures c.note.ensures.adds)

pub returns-clause-queued : goal.returns-clause-queued
returns-clause-queued g c = handed_queued c.deliver_job-result.result c.answered.result c.handed.result c.answered.ensures c.handed.ensures

pub returns-clause-blocks : goal.returns-clause-blocks
returns-clause-blocks g c = handed_blocks c.args.job.cid _ c.deliver_job-result.result c.answered.result c.handed.result c.answered.ensures c.handed.ensures c.deliver_job-result.ensures.answers
