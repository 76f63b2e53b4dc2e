use Rattle.std.proofs.Common.{◌++◌, ap, sym, length, refl}
use Rattle.mc_keep.proofs.Frames.{read_itself}
use Rattle.mc_queue.specs.Views.{shown}
use Rattle.mc_group.specs.declared.group.Slot.{Slot}
use Rattle.mc_group.specs.Gathering.{items_of}
use Rattle.mc_group.proofs.SlotFacts.{empty_group, empty_over}
use Rattle.mc_group.proofs.gathering.gather.Goals as goal

pub loop-init : goal.loop-init
loop-init g c = record {
  group = empty_group (shown c.args.queue.now).flight _ _ _ c.requires.none;
  over = empty_over _ _ _ c.requires.none.0 c.requires.none.1;
  items = sym (ap (λ slots. items_of slots ++ c.args.inbox.now.items) c.requires.none.0);
  count = ap length c.requires.none.0;
  slots = c.requires.slots;
  blocks = c.requires.blocks;
  cids = c.requires.cids;
  room = refl;
  reads = read_itself c.args.keeper.now;
}
