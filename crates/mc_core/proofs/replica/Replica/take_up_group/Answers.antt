use Rattle.std.proofs.Common.{◌≡◌, ◌∙◌, ap, sym, refl, length, []}
use Rattle.std.specs.Prelude.{◌==◌}
use Rattle.mc_group.specs.Gathering.{items_of}
use Rattle.mc_group.specs.Inboxes.{GroupEvents}
use Rattle.mc_plan.specs.Calls.{Stays}
use Rattle.mc_plan.specs.Reads.{read_refusal}
use Rattle.mc_plan.specs.Refusals.{Is}
use Rattle.mc_plan.proofs.CallFacts.{early_call}
use Rattle.mc_plan.proofs.RefusalFacts.{told_always}
use Rattle.mc_plan.specs.declared.error.CoreError.TheVariants.{KeeperFault}
use Rattle.mc_core.proofs.GroupFacts.{call_after, new_told, no_items, none_counts, none_wants}
use Rattle.mc_core.proofs.Keeps.{continues_more, looks_on, still_on}
use Rattle.mc_core.specs.Replica.{running_of}
use Rattle.mc_queue.specs.Views.{shown}
use Rattle.mc_core.proofs.replica.Replica.take_up_group.Goals as goal

pub returns-then-is_empty-clause-keeps : goal.returns-then-is_empty-clause-keeps
returns-then-is_empty-clause-keeps g c = still_on refl refl refl

pub returns-in-Ok-clause-keeps : goal.returns-in-Ok-clause-keeps
returns-in-Ok-clause-keeps g c = continues_more (looks_on c.in-Ok.ensures.reads refl) c.reserve_links.ensures.keeps

pub returns-in-Ok-clause-call : goal.returns-in-Ok-clause-call
returns-in-Ok-clause-call g c =
    call_after (λ s. Is (read_refusal s)) (λ s. GroupEvents s (items_of c.args.group.slots.items)) Stays _ _ _ _ _ _ _ _ _ _ c.in-Ok.ensures.reads.told_same c.in-Ok.ensures.reads.fuse_same c.in-Ok.ensures.reads.own_goes.later c.reserve_links.ensures.call

pub returns-then-is_empty-clause-takes : goal.returns-then-is_empty-clause-takes
returns-then-is_empty-clause-takes g c =
    let none : c.args.group.cids.items ≡ [] = no_items c.args.group.cids.items (ap (λ xs. length xs == 0) (sym c.as_slice.ensures.value) ∙ sym c.is_empty.ensures ∙ c.if-is_empty.true) in
    record {
      rest = record { walk_same = refl; batch_same = refl; whole_same = refl };
      counts = none_counts (shown c.args.self.now.queue) c.args.group.slots.items c.args.group.blocks.items c.args.group.cids.items _ c.requires.group none (ap length c.as_slice-then-is_empty.ensures.value);
      left = refl;
      room_same = refl;
      wanted = none_wants (shown c.args.self.now.queue) c.args.group.slots.items c.args.group.blocks.items c.args.group.cids.items c.requires.group none;
    }

pub plan_group-requires-clause-new : goal.plan_group-requires-clause-new
plan_group-requires-clause-new g c = new_told _ _ (running_of c.args.self.now) c.args.group.slots.items c.args.group.blocks.items c.args.group.cids.items c.args.self.now.sound c.requires.up c.requires.group

pub returns-in-Err-Failed-clause-call : goal.returns-in-Err-Failed-clause-call
returns-in-Err-Failed-clause-call g c =
    early_call (λ s. Is (read_refusal s)) (λ s. GroupEvents s (items_of c.args.group.slots.items)) _ _ _ _ _ _ _ _ KeeperFault c.requires.up c.in-Err-Failed.ensures.reads.told_same c.in-Err-Failed.ensures.reads.fuse_same refl
    (rw c.in-Err-Failed.field-0-is at c.in-Err-Failed.ensures.reads.own_goes.rose) (told_always _ _ (λ kept. tt))
