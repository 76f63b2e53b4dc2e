use Rattle.std.proofs.Common.{◌∙◌, false, refl, sym, ap, subst}
use Rattle.std.specs.Prelude.{⊤}
use Rattle.std.proofs.lemmas.Bool.{false≢true}
use Rattle.mc_base.specs.Told.{Told}
use Rattle.mc_queue.specs.Views.{shown}
use Rattle.mc_core.proofs.Keeps.{still_on}
use Rattle.mc_core.specs.Replica.{replica_state}
use Rattle.mc_drain.specs.JobCalls.{GivesBack}
use Rattle.mc_node.specs.Serves.{BackAt, BackWants}
use Rattle.mc_node.proofs.BoxFacts.{kept_in, tied_in}
use Rattle.mc_node.proofs.FrameFacts.{run_same}
use Rattle.mc_node.proofs.JobFacts.{job_back}
use Rattle.mc_node.proofs.PieceFacts.{right_on}
use Rattle.mc_node.proofs.ServeFacts.{at_first, back_wants, serves_by, stopped_back}
use Rattle.mc_node.proofs.stored.Stored.give_back.Goals as goal

pub invariant_of-self : goal.invariant_of-self
invariant_of-self g c = record {
  tied = job_back g.K.Keeper.told g.K.Keeper.fuse g.K.Keeper.own g.K.Counted.faults g.K.Keeper.quiet g.K.Keeper.schedule c.kept_is_durable.ensures.back _ c.deref_mut.result.now c.give_job_back.new.replica c.args.self.now.log.items _ (tied_in g.K.Keeper.told g.K.Keeper.fuse g.K.Keeper.own g.K.Counted.faults g.K.Keeper.quiet g.K.Keeper.schedule _ _ _ _ c.deref_mut.ensures.value c.args.self.now.tied) c.requires.sealed (ap (λ r. r.stopped) c.deref_mut.ensures.value ∙ sym c.is_stopped.ensures ∙ c.if-is_stopped.false) (kept_in g.K.Keeper.told _ _ _ c.deref_mut.ensures.value c.deref.ensures c.is_sound.ensures.kept)
      c.give_job_back.ensures.keeps (run_same c.give_job_back.ensures.rest) c.give_job_back.ensures.leads refl;
  right = right_on c.args.self.now.taker g.J.Naming.found _ _ (c.give_job_back.ensures.rest.inbox_same ∙ ap (λ r. r.inbox) c.deref_mut.ensures.value) c.args.self.now.right;
}

pub returns-then-is_stopped-clause-goes : goal.returns-then-is_stopped-clause-goes
returns-then-is_stopped-clause-goes g c = stopped_back c.args.job.cid _ _ _ _ (sym c.is_stopped.ensures ∙ c.if-is_stopped.true)

pub returns-then-is_stopped-clause-keeps : goal.returns-then-is_stopped-clause-keeps
returns-then-is_stopped-clause-keeps g c = still_on refl refl refl

pub returns-then-is_stopped-clause-wants : goal.returns-then-is_stopped-clause-wants
returns-then-is_stopped-clause-wants g c = back_wants c.args.job.cid _ _ _ (λ e. refl) (λ e. absurd (false≢true (sym e ∙ sym c.is_stopped.ensures ∙ c.if-is_stopped.true)))

pub returns-then-is_stopped-clause-does : goal.returns-then-is_stopped-clause-does
returns-then-is_stopped-clause-does g c =
    serves_by g.K.Keeper.told g.K.Keeper.fuse g.K.Keeper.own g.K.Counted.faults g.K.Keeper.quiet g.K.Keeper.schedule (λ now. ⊤) (λ rose. GivesBack c.args.job.cid) (BackWants c.args.job.cid) _ false false c.args.self.now.replica.value c.args.self.now.replica.value c.args.self.now.log.items c.args.self.now.log.items c.args.self.now.log.items
    c.args.self.now.tied refl c.args.self.now.tied tt (stopped_back c.args.job.cid _ _ _ _ (sym c.is_stopped.ensures ∙ c.if-is_stopped.true)) (still_on refl refl refl) (record { walk_same = refl; batch_same = refl; whole_same = refl })
    (back_wants c.args.job.cid _ _ _ (λ e. refl) (λ e. absurd (false≢true (sym e ∙ sym c.is_stopped.ensures ∙ c.if-is_stopped.true)))) refl

pub returns-clause-goes : goal.returns-clause-goes
returns-clause-goes g c =
    subst (λ r. Told (replica_state g.K.Keeper.told g.K.Keeper.fuse r) (replica_state g.K.Keeper.told g.K.Keeper.fuse c.give_job_back.new.replica) (GivesBack c.args.job.cid)) c.deref_mut.ensures.value c.give_job_back.ensures.goes

pub returns-clause-wants : goal.returns-clause-wants
returns-clause-wants g c =
    subst (λ r. BackWants c.args.job.cid r.stopped (shown r.queue) (shown c.give_job_back.new.replica.queue)) c.deref_mut.ensures.value
    (back_wants c.args.job.cid _ _ _ (λ e. absurd (false≢true (sym (ap (λ r. r.stopped) c.deref_mut.ensures.value ∙ sym c.is_stopped.ensures ∙ c.if-is_stopped.false) ∙ e))) (λ e. c.give_job_back.ensures.wants))

pub returns-clause-does : goal.returns-clause-does
returns-clause-does g c =
    let tied = job_back g.K.Keeper.told g.K.Keeper.fuse g.K.Keeper.own g.K.Counted.faults g.K.Keeper.quiet g.K.Keeper.schedule c.kept_is_durable.ensures.back _ c.deref_mut.result.now c.give_job_back.new.replica c.args.self.now.log.items _ (tied_in g.K.Keeper.told g.K.Keeper.fuse g.K.Keeper.own g.K.Counted.faults g.K.Keeper.quiet g.K.Keeper.schedule _ _ _ _ c.deref_mut.ensures.value c.args.self.now.tied) c.requires.sealed (ap (λ r. r.stopped) c.deref_mut.ensures.value ∙ sym c.is_stopped.ensures ∙ c.if-is_stopped.false) (kept_in g.K.Keeper.told _ _ _ c.deref_mut.ensures.value c.deref.ensures c.is_sound.ensures.kept)
    c.give_job_back.ensures.keeps (run_same c.give_job_back.ensures.rest) c.give_job_back.ensures.leads refl in
    at_first g.K.Keeper.told g.K.Keeper.fuse g.K.Keeper.own g.K.Counted.faults g.K.Keeper.quiet g.K.Keeper.schedule (BackAt c.args.job.cid) c.deref_mut.result.now c.args.self.now.replica.value _ _ _ c.deref_mut.ensures.value (serves_by g.K.Keeper.told g.K.Keeper.fuse g.K.Keeper.own g.K.Counted.faults g.K.Keeper.quiet g.K.Keeper.schedule (λ now. ⊤) (λ rose. GivesBack c.args.job.cid) (BackWants c.args.job.cid) _ false false c.deref_mut.result.now c.give_job_back.new.replica c.args.self.now.log.items c.args.self.now.log.items c.args.self.now.log.items
    (tied_in g.K.Keeper.told g.K.Keeper.fuse g.K.Keeper.own g.K.Counted.faults g.K.Keeper.quiet g.K.Keeper.schedule _ _ _ _ c.deref_mut.ensures.value c.args.self.now.tied) refl tied tt c.give_job_back.ensures.goes c.give_job_back.ensures.keeps (run_same c.give_job_back.ensures.rest)
    (back_wants c.args.job.cid _ _ _ (λ e. absurd (false≢true (sym (ap (λ r. r.stopped) c.deref_mut.ensures.value ∙ sym c.is_stopped.ensures ∙ c.if-is_stopped.false) ∙ e))) (λ e. c.give_job_back.ensures.wants)) refl)
