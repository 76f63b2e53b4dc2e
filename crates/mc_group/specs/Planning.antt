-- The commits that take up a group.
use Rattle.std.specs.Prelude.{ℕ, Bool, not, List, ◌++◌, filter}
use Rattle.std.specs.List.{flat_map}
use Rattle.mc_base.specs.declared.cid.Cid.{Cid}
use Rattle.mc_model.specs.declared.block.Block.{Block}
use Rattle.mc_model.specs.declared.block.Stored.{Stored}
use Rattle.mc_model.specs.Graph.{has}
use Rattle.mc_model.specs.Kept.{Kept}
use Rattle.mc_keep.specs.declared.changes.Changes.{Changes}
use Rattle.mc_keep.specs.Changes.{no_changes}
use Rattle.mc_plan.specs.Uptakes.{IsReady}

-- of these blocks those that are not processed once the group is
abbrev pub open_among : Kept → List Cid → List Cid → List Cid
open_among kept cids links = filter (λ c. not (has c (kept.order ++ cids))) links

-- the links of a group's blocks that are not processed once it is, block by block
abbrev pub open_links : Kept → List Cid → List Block → List Cid
open_links kept cids blocks = flat_map (λ (block : Block). open_among kept cids block.links) blocks

-- the changes that store these
abbrev pub storing : List Stored → Changes
storing stores = record no_changes { store = stores }

-- The changes may be committed, and leave the mark that the definitions give, so many gaps, and these links wanted. That
-- is what an uptake of one block says, whatever block it names.
abbrev pub AreReady : Kept → Bool → Changes → List Cid → ℕ → Type 0
AreReady kept whole changes links count =
    (c : Cid) → IsReady kept whole changes (record { cid = c; links = links; gaps = count })
