use Rattle.std.proofs.Common.{◌∙◌, ◌&&◌, not, subst}
use Rattle.std.specs.Prelude.{IfSome}
use Rattle.mc_keep.proofs.Frames.{read_itself}
use Rattle.mc_model.specs.Graph.{has}
use Rattle.mc_model.specs.Kept.{Kept}
use Rattle.mc_queue.specs.Views.{shown}
use Rattle.mc_group.specs.Gathering.{FateFits, IsNamed}
use Rattle.mc_group.proofs.SlotFacts.{put_group, same_first, told_over}
use Rattle.mc_group.proofs.gathering.gather_one.Goals as goal

pub returns-in-None-clause-reads : goal.returns-in-None-clause-reads
returns-in-None-clause-reads g c = read_itself c.args.keeper.now

pub returns-clause-group : goal.returns-clause-group
returns-clause-group g c =
    let same = same_first c.in-Some.item.now c.in-Some-take.item c.args.inbox.now.items c.take.new.self.items c.in-Some.ensures c.in-Some-take.ensures.taken in
    put_group (shown c.args.queue.now).flight c.args.group.now.slots.items c.args.group.now.blocks.items c.args.group.now.cids.items c.requires.group c.in-Ok.fate c.in-Some-take.item _ _ _ c.put.ensures.put
    (c.in-Ok.ensures.known ∙ (λ i. not (has (same i) (shown c.args.queue.now).flight && not (has (same i) (c.as_slice.ensures.value i)))))
    (subst (λ cid. IsNamed cid c.in-Ok.fate) same c.in-Ok.ensures.named)

pub returns-clause-over : goal.returns-clause-over
returns-clause-over g c =
    let same = same_first c.in-Some.item.now c.in-Some-take.item c.args.inbox.now.items c.take.new.self.items c.in-Some.ensures c.in-Some-take.ensures.taken in
    told_over _ c.in-Ok.fate c.in-Some-take.item c.args.group.now.slots.items c.args.group.now.blocks.items c.args.group.now.cids.items _ _ _ c.put.ensures.put
    (subst (λ cid. IfSome (g.K.Keeper.told c.args.keeper.now) (λ (kept : Kept). FateFits kept.graph cid c.in-Ok.fate)) same c.in-Ok.ensures.fits)
