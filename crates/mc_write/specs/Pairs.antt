-- How the definitions see the pairs and the rows of heads.
use Rattle.std.specs.Prelude.{◌==◌, Bool, List, length, map}
use Rattle.std.specs.List.{list_all}
use Rattle.mc_base.specs.declared.cid.Cid.{Cid}
use Rattle.mc_keep.specs.declared.rows.ElementRow.{ElementRow}
use Rattle.mc_keep.specs.declared.rows.HeadRow.{HeadRow}
use Rattle.mc_keep.specs.Changes.{heads_in_rows}
use Rattle.mc_model.specs.Cuts.{Pair}
use Rattle.mc_model.specs.Front.{Head}
use Rattle.mc_write.specs.declared.pair.Pair.{Pair as Own}

abbrev pub seen : Own → Pair
seen pair = record { priority = pair.priority; value = pair.value; cid = pair.cid }

abbrev pub all_seen : List Own → List Pair
all_seen pairs = map seen pairs

-- the pair of an element's block, if the element's value is its greatest
abbrev pub row_pair : ElementRow → Pair
row_pair row = record { priority = row.priority; value = row.value; cid = row.cid }

-- the identifiers of heads
abbrev pub row_cids : List HeadRow → List Cid
row_cids rows = map (λ (head : Head). head.0) (heads_in_rows rows)

-- the digest has 32 bytes, as each has in the code
abbrev pub has_digest : Cid → Bool
has_digest cid = length cid.0 == 32

abbrev pub have_digests : List Pair → Bool
have_digests pairs = list_all (λ (pair : Pair). has_digest pair.cid) pairs
