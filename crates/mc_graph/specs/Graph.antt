-- What the table of stored blocks says, and the order of the processed ones.
use Rattle.std.specs.Prelude.{◌≡◌, ℕ, true, List, length, map, nat_lt, replicate, slice_get, unwrap_or, Option}
use Rattle.std.specs.HashMap.{HashMap, get, keys}
use Rattle.std.specs.List.{list_all, position}
use Rattle.std.specs.Option.{option_and_then}
use Rattle.mc_base.specs.declared.cid.Cid.{Cid}
use Rattle.mc_model.specs.Front.{same_cid}
use Rattle.mc_model.specs.declared.block.Stored.{Stored}
use Rattle.mc_graph.specs.declared.graph.BlockRow.{BlockRow}

abbrev pub stored_of : Cid × BlockRow → Stored
stored_of entry = record { cid = entry.0; bytes = entry.1.bytes }

-- the stored blocks, in the order in which they came
abbrev pub graph_of : {S : Type 0} → HashMap Cid BlockRow S → List Stored
graph_of blocks = map stored_of blocks.entries

-- what stands for an identifier where none is
abbrev pub no_cid : Cid
no_cid = record { 0 = replicate 32 0 }

-- the identifier at a place
abbrev pub cid_in : List Cid → ℕ → Cid
cid_in cids place = unwrap_or (slice_get cids place) no_cid

-- the processed blocks, whose places among the stored ones these are
abbrev pub order_of : {S : Type 0} → HashMap Cid BlockRow S → List ℕ → List Cid
order_of blocks order = map (cid_in (keys blocks)) order

-- the position that is noted for a block
abbrev pub position_in : {S : Type 0} → HashMap Cid BlockRow S → Cid → Option ℕ
position_in blocks cid = option_and_then (λ (row : BlockRow). row.position) (get same_cid blocks cid)

-- each processed block is stored, and for each block its position is noted
pub record IsOrdered {S : Type 0} (blocks : HashMap Cid BlockRow S) (order : List ℕ) : Type 0 where
  pub within : list_all (λ place. nat_lt place (length (keys blocks))) order ≡ true
  pub positions : (cid : Cid) → position_in blocks cid ≡ position (same_cid cid) (order_of blocks order)
