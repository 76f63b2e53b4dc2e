-- Blocks that a group of a commit may have.
use Rattle.std.specs.Prelude.{◌≡◌, true, false, List, map}
use Rattle.std.specs.List.{list_any}
use Rattle.mc_model.specs.declared.block.Block.{Block}
use Rattle.mc_model.specs.Ascending.{is_once}
use Rattle.mc_model.specs.Front.{same_cid, is_among}
use Rattle.mc_model.specs.Kept.{Kept}

-- no block stands twice, and none is processed
abbrev pub AreNew : Kept → List Block → Type 0
AreNew kept blocks =
    (is_once same_cid (map (λ (block : Block). block.cid) blocks) ≡ true)
    × (list_any (is_among kept.order) (map (λ (block : Block). block.cid) blocks) ≡ false)
