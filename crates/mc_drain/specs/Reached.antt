-- What the heads of a replica reach.
use Rattle.std.specs.Prelude.{◌≡◌, ◌↔◌, true, map}
use Rattle.mc_base.specs.declared.cid.Cid.{Cid}
use Rattle.mc_model.specs.Front.{Head, heads}
use Rattle.mc_model.specs.Graph.{HasNoCycle, IsReached, has}
use Rattle.mc_model.specs.Kept.{processed}
use Rattle.mc_model.specs.State.{Durable, kept_of}

-- the processed blocks are those that the heads reach, where no stored block leads back to itself
abbrev pub AreReached : Durable → Type 0
AreReached durable = HasNoCycle durable.graph → (cid : Cid) → (has cid durable.order ≡ true)
    ↔ IsReached durable.graph (map (λ (head : Head). head.0) (heads (processed (kept_of durable)))) cid
