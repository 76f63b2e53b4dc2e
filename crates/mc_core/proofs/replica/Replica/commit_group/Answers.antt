use Rattle.std.proofs.Common.{◌≡◌, ◌∙◌, ◌≤◌, ◌-◌, ◌∷◌, ◌++◌, [], Ok, Err, ap, sym, refl, subst, length, arith, List}
use Rattle.std.specs.Prelude.{IfSome}
use Rattle.mc_base.specs.declared.cid.Cid.{Cid}
use Rattle.mc_keep.specs.Changes.{changed}
use Rattle.mc_keep.specs.Tables.{ChangesFit}
use Rattle.mc_model.specs.Kept.{Kept}
use Rattle.mc_model.specs.declared.block.Stored.{Stored}
use Rattle.mc_queue.specs.Views.{shown}
use Rattle.mc_group.specs.Planning.{AreReady, storing}
use Rattle.mc_group.proofs.ReadyFacts.{told_fits}
use Rattle.mc_group.specs.Gathering.{items_of, stores_in}
use Rattle.mc_group.specs.Inboxes.{GroupEvents}
use Rattle.mc_inbox.specs.Groups.{store_events}
use Rattle.mc_model.specs.Events.{Process}
use Rattle.mc_model.specs.Kept.{cids_of}
use Rattle.mc_model.specs.Wanted.{without}
use Rattle.mc_inbox.specs.Waiting.{Waiting}
use Rattle.mc_plan.specs.Uptakes.{wants}
use Rattle.mc_plan.specs.Reads.{read_refusal}
use Rattle.mc_plan.specs.Refusals.{Is}
use Rattle.mc_plan.specs.declared.error.CoreError.TheVariants.{KeeperFault}
use Rattle.mc_plan.proofs.CallFacts.{part_call}
use Rattle.mc_core.proofs.GroupFacts.{made_told, rest_counts, stores_few}
use Rattle.mc_core.specs.Replica.{running_of}
use Rattle.mc_core.proofs.replica.Replica.commit_group.Goals as goal

pub carry_group-requires-clause-room : goal.carry_group-requires-clause-room
carry_group-requires-clause-room g c =
    let few = stores_few c.args.group.slots.items in
    let rows = c.requires.rows in
    let is = ap length c.stores_of-stores.ensures in omega (arith, few, rows, is)

pub carry_group-requires-clause-ready : goal.carry_group-requires-clause-ready
carry_group-requires-clause-ready g c =
    subst (λ (s : List Stored). IfSome (g.K.Keeper.told c.args.self.now.keeper) (λ (kept : Kept). ChangesFit kept (storing s) × AreReady (changed kept (storing s)) c.args.self.now.whole c.args.plan.process c.as_slice-4.result.now c.args.plan.gaps)) (sym c.stores_of-stores.ensures)
    (subst (λ (l : List Cid). IfSome (g.K.Keeper.told c.args.self.now.keeper) (λ (kept : Kept). ChangesFit kept (storing (stores_in c.args.group.slots.items)) × AreReady (changed kept (storing (stores_in c.args.group.slots.items))) c.args.self.now.whole c.args.plan.process l c.args.plan.gaps)) (sym c.as_slice-4.ensures)
    (told_fits c.changes_fit.ensures.process c.commits_are_events.ensures.sound c.kept_changes_are_events.ensures.mark c.kept_is_durable.ensures.some_links c.changes_fit.ensures.store c.changes_fit.ensures.stored c.changes_fit.ensures.same c.args.self.now.whole (shown c.args.self.now.queue) c.args.group.slots.items c.args.group.blocks.items c.args.group.cids.items c.args.plan.process c.args.plan.links c.args.plan.gaps c.requires.good c.requires.group _
    c.is_sound.ensures (λ kept e. c.args.self.now.sound.once kept e c.requires.up) c.requires.over c.requires.process c.requires.gaps c.requires.links))

pub returns-in-Ok-clause-call : goal.returns-in-Ok-clause-call
returns-in-Ok-clause-call g c =
    part_call (λ s. Is (read_refusal s)) (λ s. GroupEvents s (items_of c.args.group.slots.items)) _ _ _ _ _ (running_of c.args.self.now) _ (g.K.Keeper.own c.args.self.now.keeper) (g.K.Keeper.own c.args.self.now.keeper) (g.K.Keeper.own c.carry_group.new.self.keeper) (store_events c.stores_of-stores.result ++ Process c.args.plan.process.marks ∷ []) (record { processed = length c.as_slice.result.now; known = length c.as_slice-2.result.now - length c.as_slice.result.now }) (Ok (record { processed = length c.as_slice.result.now; known = length c.as_slice-2.result.now - length c.as_slice.result.now })) c.requires.up refl refl (omega arith)
    (made_told _ (g.K.Keeper.fuse c.args.self.now.keeper) (running_of c.args.self.now) c.args.group.slots.items c.args.group.blocks.items c.args.group.cids.items c.args.plan.process.marks _ _ c.requires.group c.stores_of-stores.ensures
    (rest_counts (shown c.args.self.now.queue) c.args.group.slots.items c.args.group.blocks.items c.args.group.cids.items _ _ c.requires.group (ap length c.as_slice.ensures.value) (ap length c.as_slice-2.ensures.value)) c.requires.over (c.requires.only.1 ∙ c.requires.group.blocks_named) c.requires.some) refl tt c.in-Ok.ensures.part

pub returns-clause-call : goal.returns-clause-call
returns-clause-call g c =
    part_call (λ s. Is (read_refusal s)) (λ s. GroupEvents s (items_of c.args.group.slots.items)) _ _ _ _ _ (running_of c.args.self.now) _ (g.K.Keeper.own c.args.self.now.keeper) (g.K.Keeper.own c.args.self.now.keeper) (g.K.Keeper.own c.carry_group.new.self.keeper) (store_events c.stores_of-stores.result ++ Process c.args.plan.process.marks ∷ []) (record { processed = length c.as_slice.result.now; known = length c.as_slice-2.result.now - length c.as_slice.result.now }) (Err KeeperFault) c.requires.up refl refl (omega arith)
    (made_told _ (g.K.Keeper.fuse c.args.self.now.keeper) (running_of c.args.self.now) c.args.group.slots.items c.args.group.blocks.items c.args.group.cids.items c.args.plan.process.marks _ _ c.requires.group c.stores_of-stores.ensures
    (rest_counts (shown c.args.self.now.queue) c.args.group.slots.items c.args.group.blocks.items c.args.group.cids.items _ _ c.requires.group (ap length c.as_slice.ensures.value) (ap length c.as_slice-2.ensures.value)) c.requires.over (c.requires.only.1 ∙ c.requires.group.blocks_named) c.requires.some) tt refl c.in-Err.ensures.part

pub returns-in-Ok-clause-takes : goal.returns-in-Ok-clause-takes
returns-in-Ok-clause-takes g c = record {
  rest = record { walk_same = c.in-Ok.ensures.keeps.rest_same.walk_same; batch_same = c.in-Ok.ensures.keeps.rest_same.batch_same; whole_same = c.in-Ok.ensures.keeps.rest_same.whole_same };
  counts = rest_counts (shown c.args.self.now.queue) c.args.group.slots.items c.args.group.blocks.items c.args.group.cids.items _ _ c.requires.group (ap length c.as_slice.ensures.value) (ap length c.as_slice-2.ensures.value);
  left = ap (λ (w : Waiting). w.items) c.in-Ok.ensures.keeps.rest_same.inbox_same;
  room_same = ap (λ (w : Waiting). w.room) c.in-Ok.ensures.keeps.rest_same.inbox_same;
  wanted = (c.args.plan.links, c.in-Ok.ensures.queue ∙ (λ i. wants (without (shown c.args.self.now.queue) ((c.as_slice-3.ensures.value ∙ c.requires.group.named ∙ ap cids_of c.requires.group.some) i)) (c.as_slice-4.ensures i)));
}
