-- The rows that blocks make, and their order by key.
use Rattle.std.specs.Prelude.{List, map}
use Rattle.std.specs.List.{flat_map}
use Rattle.std.specs.Ordering.{nat_cmp, on, then_cmp}
use Rattle.std.specs.Cmp.{IsTotalOrder}
use Rattle.std.specs.declared.cmp.Ordering.{Ordering}
use Rattle.std.specs.Cmp.Lexicographic.{slice_cmp}
use Rattle.std.proofs.lemmas.Cmp.{then_total, on_total, nat_cmp_total, nat_list_cmp_total}
use Rattle.mc_model.specs.declared.block.Block.{Block}
use Rattle.mc_model.specs.declared.delta.Tomb.{Tomb}
use Rattle.mc_keep.specs.declared.rows.ElementRow.{ElementRow}
use Rattle.mc_keep.specs.declared.rows.TombRow.{TombRow}
use Rattle.mc_rows.specs.declared.elements.NewElement.{NewElement}
use Rattle.mc_rows.specs.declared.tombs.NewTomb.{NewTomb}

-- the row of a borrowed element
abbrev pub row_of : NewElement → ElementRow
row_of element = record {
  key = element.key.now;
  cid = element.block.now.cid;
  priority = element.block.now.delta.priority;
  value = element.value.now;
}

abbrev pub rows_of : List NewElement → List ElementRow
rows_of elements = map row_of elements

-- the row of a tombstone, and of a borrowed one
abbrev pub tomb_row : Tomb → TombRow
tomb_row tomb = record { key = tomb.key; id = tomb.id }

abbrev pub tomb_rows : List Block → List TombRow
tomb_rows blocks = flat_map (λ (block : Block). map tomb_row block.delta.tombstones) blocks

abbrev pub tomb_of : NewTomb → TombRow
tomb_of tomb = record { key = tomb.key.now; id = tomb.id.now }

abbrev pub tombs_of : List NewTomb → List TombRow
tombs_of tombs = map tomb_of tombs

-- by the key, and then by the block, the value and the priority
abbrev pub key_cmp : ElementRow → ElementRow → Ordering
key_cmp =
    then_cmp (then_cmp (then_cmp (on (λ (row : ElementRow). row.key) (slice_cmp nat_cmp))
    (on (λ (row : ElementRow). row.cid.0) (slice_cmp nat_cmp)))
    (on (λ (row : ElementRow). row.value) (slice_cmp nat_cmp)))
    (on (λ (row : ElementRow). row.priority) nat_cmp)

pub key_total : IsTotalOrder key_cmp
key_total =
    then_total (then_total (then_total (on_total (λ (row : ElementRow). row.key) nat_list_cmp_total)
    (on_total (λ (row : ElementRow). row.cid.0) nat_list_cmp_total))
    (on_total (λ (row : ElementRow). row.value) nat_list_cmp_total))
    (on_total (λ (row : ElementRow). row.priority) nat_cmp_total)

abbrev pub new_element_cmp : NewElement → NewElement → Ordering
new_element_cmp = on row_of key_cmp

pub new_element_total : IsTotalOrder new_element_cmp
new_element_total = on_total row_of key_total

-- by the key, and then by the id
abbrev pub tomb_cmp : TombRow → TombRow → Ordering
tomb_cmp =
    then_cmp (on (λ (row : TombRow). row.key) (slice_cmp nat_cmp)) (on (λ (row : TombRow). row.id) (slice_cmp nat_cmp))

pub tomb_total : IsTotalOrder tomb_cmp
tomb_total =
    then_total (on_total (λ (row : TombRow). row.key) nat_list_cmp_total)
    (on_total (λ (row : TombRow). row.id) nat_list_cmp_total)

abbrev pub new_tomb_cmp : NewTomb → NewTomb → Ordering
new_tomb_cmp = on tomb_of tomb_cmp

pub new_tomb_total : IsTotalOrder new_tomb_cmp
new_tomb_total = on_total tomb_of tomb_total
