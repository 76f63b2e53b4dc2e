use Rattle.std.proofs.Common.{◌∙◌, Bool, sym, subst}
use Rattle.mc_core.specs.Words.{ContinuesAt}
use Rattle.mc_core.proofs.Keeps.{continues_more}
use Rattle.mc_drain.specs.Leads.{Always, count}
use Rattle.mc_drain.specs.Words.{is_keeper}
use Rattle.mc_drain.proofs.TurnFacts.{recalled_end}
use Rattle.std.proofs.lemmas.Bool.{false≢true}
use Rattle.mc_queue.specs.Views.{shown}
use Rattle.mc_drain.proofs.LostFacts.{begun_sticks, broken_memory, tried_sticks}
use Rattle.mc_drain.proofs.jobs.begin.Goals as goal

pub returns-else-is_keeper-clause-leads : goal.returns-else-is_keeper-clause-leads
returns-else-is_keeper-clause-leads g c = recalled_end (is_keeper c.in-Err.end) count Always _ _ _ (sym c.is_keeper.ensures ∙ c.if-is_keeper.false) c.in-Err.ensures.leads c.recall.ensures.leads

pub returns-else-is_keeper-clause-keeps : goal.returns-else-is_keeper-clause-keeps
returns-else-is_keeper-clause-keeps g c = let well = sym c.is_keeper.ensures ∙ c.if-is_keeper.false in
    subst (λ (b : Bool). ContinuesAt g.K.Keeper.told g.K.Keeper.fuse g.K.Keeper.own g.K.Counted.faults g.K.Keeper.quiet g.K.Keeper.schedule b c.args.replica.now c.recall.new.replica) (sym well)
    (continues_more (subst (λ (b : Bool). ContinuesAt g.K.Keeper.told g.K.Keeper.fuse g.K.Keeper.own g.K.Counted.faults g.K.Keeper.quiet g.K.Keeper.schedule b c.args.replica.now c.begin_job.new.replica) well c.in-Err.ensures.keeps) c.recall.ensures.keeps)

pub returns-in-Ok-clause-sticks : goal.returns-in-Ok-clause-sticks
returns-in-Ok-clause-sticks g c = λ e. begun_sticks (shown c.args.replica.now.queue) (shown c.begin_job.new.replica.queue) c.in-Ok.job c.in-Ok.ensures.begins

pub returns-then-is_keeper-clause-sticks : goal.returns-then-is_keeper-clause-sticks
returns-then-is_keeper-clause-sticks g c = λ e. absurd (false≢true (sym e ∙ sym c.is_keeper.ensures ∙ c.if-is_keeper.true))

pub returns-else-is_keeper-clause-sticks : goal.returns-else-is_keeper-clause-sticks
returns-else-is_keeper-clause-sticks g c = λ e. tried_sticks (shown c.args.replica.now.queue) (shown c.begin_job.new.replica.queue) (shown c.recall.new.replica.queue) (c.in-Err.ensures.short (broken_memory c.in-Err.end c.in-Err.ensures.broken e)) c.recall.ensures.wants
