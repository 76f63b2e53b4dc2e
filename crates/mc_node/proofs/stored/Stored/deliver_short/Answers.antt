use Rattle.std.proofs.Common.{◌∙◌, ap, arith, false, inl, refl, sym}
use Rattle.std.specs.Prelude.{Err}
use Rattle.mc_core.specs.Jobs.{DeliverEvents, found_in}
use Rattle.mc_drain.specs.JobCalls.{GivesBack}
use Rattle.mc_worker.specs.declared.ends.ShopError.TheVariants.{Memory, Spent, Stopped}
use Rattle.mc_node.specs.Serves.{AnswersAt, DeliverWants, DeliversAt, WorkerCall}
use Rattle.mc_node.proofs.FrameFacts.{run_same}
use Rattle.mc_node.proofs.JobFacts.{spent_at}
use Rattle.mc_node.proofs.ServeFacts.{at_first, back_runs, said_of_none, serves_by, serves_nothing}
use Rattle.mc_node.proofs.stored.Stored.deliver_short.Goals as goal

pub returns-then-is_stopped-clause-does : goal.returns-then-is_stopped-clause-does
returns-then-is_stopped-clause-does g c = λ found. record {
  answer = Err Stopped;
  is = refl;
  says = tt;
  does = serves_nothing g.K.Keeper.told g.K.Keeper.fuse g.K.Keeper.own g.K.Counted.faults g.K.Keeper.quiet g.K.Keeper.schedule (AnswersAt c.args.limit (Err Stopped)) (WorkerCall (λ s. DeliverEvents s c.args.job.cid (found_in found)) (GivesBack c.args.job.cid) (GivesBack c.args.job.cid) (Err Stopped)) (DeliverWants c.args.job.cid (Err Stopped)) _ c.args.self.now.replica.value _ _ c.args.self.now.tied refl
      (record { stopped = sym c.is_stopped.ensures ∙ c.if-is_stopped.true; spent = said_of_none (g.K.Keeper.told c.args.self.now.replica.value.keeper) }) (λ s. refl) (λ q. refl);
}

pub returns-in_default-clause-does : goal.returns-in_default-clause-does
returns-in_default-clause-does g c = λ found. record {
  answer = Err Memory;
  is = refl;
  says = tt;
  does = at_first g.K.Keeper.told g.K.Keeper.fuse g.K.Keeper.own g.K.Counted.faults g.K.Keeper.quiet g.K.Keeper.schedule (DeliversAt c.args.limit c.args.job.cid found (Err Memory)) c.begin.new.self.replica.value c.args.self.now.replica.value _ _ _ c.in_default.ensures.replica (serves_by g.K.Keeper.told g.K.Keeper.fuse g.K.Keeper.own g.K.Counted.faults g.K.Keeper.quiet g.K.Keeper.schedule (AnswersAt c.args.limit (Err Memory)) (WorkerCall (λ s. DeliverEvents s c.args.job.cid (found_in found)) (GivesBack c.args.job.cid) (GivesBack c.args.job.cid) (Err Memory)) (DeliverWants c.args.job.cid (Err Memory)) _ false false c.begin.new.self.replica.value c.give_back.new.self.replica.value
      c.args.self.now.log.items c.begin.new.self.log.items c.give_back.new.self.log.items c.begin.new.self.tied c.in_default.ensures.log c.give_back.new.self.tied
      (record { stopped = ap (λ r. r.stopped) c.in_default.ensures.replica ∙ sym c.is_stopped.ensures ∙ c.if-is_stopped.false; spent = said_of_none (g.K.Keeper.told c.begin.new.self.replica.value.keeper) })
      c.give_back.ensures.goes c.give_back.ensures.keeps (run_same c.give_back.ensures.rest) (inl (back_runs c.args.job.cid c.begin.new.self.replica.value.stopped _ _ (ap (λ r. r.stopped) c.in_default.ensures.replica ∙ sym c.is_stopped.ensures ∙ c.if-is_stopped.false) c.give_back.ensures.wants)) c.give_back.ensures.log);
}

pub returns-then-limit-processed-clause-does : goal.returns-then-limit-processed-clause-does
returns-then-limit-processed-clause-does g c = λ found. record {
  answer = Err Spent;
  is = refl;
  says = tt;
  does = at_first g.K.Keeper.told g.K.Keeper.fuse g.K.Keeper.own g.K.Counted.faults g.K.Keeper.quiet g.K.Keeper.schedule (DeliversAt c.args.limit c.args.job.cid found (Err Spent)) c.begin.new.self.replica.value c.args.self.now.replica.value _ _ _ c.in-Ok.ensures.replica
      (serves_by g.K.Keeper.told g.K.Keeper.fuse g.K.Keeper.own g.K.Counted.faults g.K.Keeper.quiet g.K.Keeper.schedule (AnswersAt c.args.limit (Err Spent)) (WorkerCall (λ s. DeliverEvents s c.args.job.cid (found_in found)) (GivesBack c.args.job.cid) (GivesBack c.args.job.cid) (Err Spent)) (DeliverWants c.args.job.cid (Err Spent)) _ false false c.begin.new.self.replica.value c.give_back-2.new.self.replica.value
      c.args.self.now.log.items c.begin.new.self.log.items c.give_back-2.new.self.log.items c.begin.new.self.tied c.in-Ok.ensures.log c.give_back-2.new.self.tied
      (record { stopped = c.in-Ok.ensures.runs; spent = spent_at (g.K.Keeper.told c.begin.new.self.replica.value.keeper) c.args.limit c.in-Ok.processed (omega (arith, c.if-limit-processed.true)) c.in-Ok.ensures.length })
      c.give_back-2.ensures.goes c.give_back-2.ensures.keeps (run_same c.give_back-2.ensures.rest) (back_runs c.args.job.cid c.begin.new.self.replica.value.stopped _ _ c.in-Ok.ensures.runs c.give_back-2.ensures.wants) c.give_back-2.ensures.log);
}

pub returns-clause-does : goal.returns-clause-does
returns-clause-does g c = λ found. record {
  answer = Err Memory;
  is = refl;
  says = tt;
  does = at_first g.K.Keeper.told g.K.Keeper.fuse g.K.Keeper.own g.K.Counted.faults g.K.Keeper.quiet g.K.Keeper.schedule (DeliversAt c.args.limit c.args.job.cid found (Err Memory)) c.begin.new.self.replica.value c.args.self.now.replica.value _ _ _ c.in-Ok.ensures.replica
      (serves_by g.K.Keeper.told g.K.Keeper.fuse g.K.Keeper.own g.K.Counted.faults g.K.Keeper.quiet g.K.Keeper.schedule (AnswersAt c.args.limit (Err Memory)) (WorkerCall (λ s. DeliverEvents s c.args.job.cid (found_in found)) (GivesBack c.args.job.cid) (GivesBack c.args.job.cid) (Err Memory)) (DeliverWants c.args.job.cid (Err Memory)) _ false false c.begin.new.self.replica.value c.give_back-2.new.self.replica.value
      c.args.self.now.log.items c.begin.new.self.log.items c.give_back-2.new.self.log.items c.begin.new.self.tied c.in-Ok.ensures.log c.give_back-2.new.self.tied
      (record { stopped = c.in-Ok.ensures.runs; spent = said_of_none (g.K.Keeper.told c.begin.new.self.replica.value.keeper) })
      c.give_back-2.ensures.goes c.give_back-2.ensures.keeps (run_same c.give_back-2.ensures.rest) (inl (back_runs c.args.job.cid c.begin.new.self.replica.value.stopped _ _ c.in-Ok.ensures.runs c.give_back-2.ensures.wants)) c.give_back-2.ensures.log);
}
