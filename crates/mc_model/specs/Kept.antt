-- What a keeper stands for: the blocks that are stored, those of them that are processed, in order, and the dirty mark.
use Rattle.std.specs.Prelude.{◌≡◌, ℕ, Bool, true, false, List, [], map, find, Option, Some, None, is_some}
use Rattle.std.specs.List.{list_all}
use Rattle.std.specs.Option.{option_map}
use Rattle.mc_base.specs.declared.cid.Cid.{Cid}
use Rattle.mc_model.specs.declared.block.Block.{Block}
use Rattle.mc_model.specs.declared.block.Stored.{Stored}
use Rattle.mc_model.specs.Ascending.{is_once}
use Rattle.mc_model.specs.Front.{same_cid}
use Rattle.mc_model.specs.Offer.{is_good, block_of}

pub record Kept : Type 0 where
  pub graph : List Stored
  pub order : List Cid
  pub mark : Bool

-- the bytes that are stored under an identifier
abbrev pub bytes_at : List Stored → Cid → Option (List ℕ)
bytes_at graph cid =
    option_map (λ (stored : Stored). stored.bytes) (find (λ (stored : Stored). same_cid cid stored.cid) graph)

abbrev pub is_stored : List Stored → Cid → Bool
is_stored graph cid = is_some (bytes_at graph cid)

-- the block that some bytes, or none, are under an identifier
abbrev pub block_under : Cid → Option (List ℕ) → Block
block_under cid None = block_of cid []
block_under cid (Some bytes) = block_of cid bytes

-- the stored block of an identifier
abbrev pub block_in : List Stored → Cid → Block
block_in graph cid = block_under cid (bytes_at graph cid)

abbrev pub blocks_in : List Stored → List Cid → List Block
blocks_in graph cids = map (block_in graph) cids

-- the processed blocks, in the order of processing
abbrev pub processed : Kept → List Block
processed kept = blocks_in kept.graph kept.order

-- the identifiers that are stored
abbrev pub cids_of : List Stored → List Cid
cids_of graph = map (λ (stored : Stored). stored.cid) graph

-- no identifier is stored twice or processed twice, each stored block is good, and each processed one is stored
pub record IsKept (kept : Kept) : Type 0 where
  pub good : list_all (λ (stored : Stored). is_good stored.cid stored.bytes) kept.graph ≡ true
  pub stored_once : is_once same_cid (cids_of kept.graph) ≡ true
  pub order_once : is_once same_cid kept.order ≡ true
  pub stored : list_all (is_stored kept.graph) kept.order ≡ true

-- nothing is stored, and the mark is clear
abbrev pub nothing_kept : Kept
nothing_kept = record { graph = []; order = []; mark = false }
