use Rattle.std.proofs.Common.{refl, sym, take}
use Rattle.mc_group.specs.Gathering.{items_of}
use Rattle.mc_group.specs.Inboxes.{GroupEvents}
use Rattle.mc_group.proofs.MakeFacts.{taken_first, taken_left}
use Rattle.mc_plan.specs.Calls.{Stays}
use Rattle.mc_plan.specs.Reads.{read_refusal}
use Rattle.mc_plan.specs.Refusals.{Is}
use Rattle.mc_core.proofs.GroupFacts.{call_after, left_after}
use Rattle.mc_core.proofs.Keeps.{continues_more, looks_on}
use Rattle.mc_core.proofs.replica.Replica.take_in.Goals as goal

pub returns-in-Ok-clause-keeps : goal.returns-in-Ok-clause-keeps
returns-in-Ok-clause-keeps g c = continues_more (looks_on c.in-Ok.ensures.reads refl) c.take_up_group.ensures.keeps

pub returns-in-Ok-clause-call : goal.returns-in-Ok-clause-call
returns-in-Ok-clause-call g c =
    call_after (λ s. Is (read_refusal s)) (λ s. GroupEvents s (take c.args.limit c.args.self.now.inbox.items)) Stays _ _ _ _ _ _ _ _ _ _ c.in-Ok.ensures.reads.told_same c.in-Ok.ensures.reads.fuse_same c.in-Ok.ensures.reads.own_goes.later
    (rw (sym (taken_first c.args.limit _ _ _ c.in-Ok.ensures.items c.in-Ok.ensures.few c.in-Ok.ensures.all)) at c.take_up_group.ensures.call)

pub returns-in-Ok-clause-items : goal.returns-in-Ok-clause-items
returns-in-Ok-clause-items g c =
    left_after _ c.args.limit _ _ _ _ c.in-Ok.ensures.items (taken_left c.args.limit _ _ _ c.in-Ok.ensures.items c.in-Ok.ensures.few c.in-Ok.ensures.all) c.take_up_group.ensures.takes.left
