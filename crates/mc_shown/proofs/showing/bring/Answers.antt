use Rattle.std.proofs.Common.{◌≡◌, ◌∙◌, ℕ}
use Rattle.mc_model.specs.Kept.{Kept, processed}
use Rattle.mc_face.specs.Words.{told_list}
use Rattle.mc_face.specs.declared.glance.Told.{Told}
use Rattle.mc_node.specs.Entries.{items_at}
use Rattle.mc_shown.proofs.ReadFacts.{turned_answer, turned_refused, turned_short}
use Rattle.mc_shown.proofs.showing.bring.Goals as goal

pub returns-in-Ok-publish-clause-turned : goal.returns-in-Ok-publish-clause-turned
returns-in-Ok-publish-clause-turned g c =
    turned_answer (λ (kept : Kept) (count : ℕ). c.catch_up.new.face.list ≡ processed kept) (λ (kept : Kept) (told : Told). told_list told ≡ processed kept)
    (items_at g.K.Keeper.told g.K.Keeper.fuse g.K.Keeper.own g.K.Counted.faults g.K.Keeper.quiet g.K.Keeper.schedule) c.in-Ok.seen c.in-Ok-publish.told _ _ (λ kept is. c.in-Ok-publish.ensures.told.0 ∙ is) c.in-Ok.ensures.turned

pub returns-in-Err-publish-clause-turned : goal.returns-in-Err-publish-clause-turned
returns-in-Err-publish-clause-turned g c =
    turned_short (λ (kept : Kept) (count : ℕ). c.catch_up.new.face.list ≡ processed kept) (λ (kept : Kept) (told : Told). told_list told ≡ processed kept)
    (items_at g.K.Keeper.told g.K.Keeper.fuse g.K.Keeper.own g.K.Counted.faults g.K.Keeper.quiet g.K.Keeper.schedule) c.in-Ok.seen _ _ c.in-Ok.ensures.turned

pub returns-in-Err-clause-turned : goal.returns-in-Err-clause-turned
returns-in-Err-clause-turned g c =
    turned_refused (λ (kept : Kept) (count : ℕ). c.catch_up.new.face.list ≡ processed kept) (λ (kept : Kept) (told : Told). told_list told ≡ processed kept)
    (items_at g.K.Keeper.told g.K.Keeper.fuse g.K.Keeper.own g.K.Counted.faults g.K.Keeper.quiet g.K.Keeper.schedule) c.in-Err.error _ _ c.in-Err.ensures.turned
