-- A batch of puts and deletes that become one block.
use Rattle.std.specs.Prelude.{ℕ, Bool, true, false, not, ◌&&◌, List, [], ◌∷◌, ◌++◌, map, filter}
use Rattle.std.specs.Ordering.{nat_cmp, on, then_cmp}
use Rattle.std.specs.declared.cmp.Ordering.{Ordering}
use Rattle.std.specs.declared.cmp.Ordering.TheVariants.{Less, Equal, Greater}
use Rattle.std.specs.Cmp.Lexicographic.{slice_cmp}
use Rattle.std.specs.Str.{bytes_eq}
use Rattle.mc_base.specs.declared.cid.Cid.{Cid}
use Rattle.mc_model.specs.declared.delta.Delta.{Delta}
use Rattle.mc_model.specs.declared.delta.Element.{Element}
use Rattle.mc_model.specs.declared.delta.Tomb.{Tomb}
use Rattle.mc_model.specs.Ascending.{ascending}
use Rattle.mc_model.specs.Cuts.{Pair}
use Rattle.mc_model.specs.Id.{id_text}
use Rattle.mc_model.specs.State.{OpenBatch}

abbrev pub is_nil : {X : Type 0} → List X → Bool
is_nil [] = true
is_nil (x ∷ xs) = false

-- nothing is put or deleted
abbrev pub empty_batch : OpenBatch
empty_batch = record { elements = []; pairs = [] }

-- whether it is that
abbrev pub is_empty_batch : OpenBatch → Bool
is_empty_batch batch = is_nil batch.elements && is_nil batch.pairs

-- an element comes into its place by the key, for the one of its key that stands there
abbrev pub put_element : Element → List Element → List Element
put_element element [] = element ∷ []
put_element element (other ∷ elements) =
    elim (slice_cmp nat_cmp element.key other.key) [
      | Less ↦ element ∷ other ∷ elements
      | Equal ↦ element ∷ elements
      | Greater ↦ other ∷ put_element element elements
    ]

-- a put takes the place of the batch's element of its key; what was deleted stays so
abbrev pub batch_put : List ℕ → List ℕ → OpenBatch → OpenBatch
batch_put key value batch =
    record { elements = put_element (record { key = key; value = value }) batch.elements; pairs = batch.pairs }

-- a key with a block whose elements of the key are deleted: by the key, then by the identifier
abbrev pub Deleted : Type 0
Deleted = List ℕ × Cid

abbrev pub deleted_cmp : Deleted → Deleted → Ordering
deleted_cmp =
    then_cmp (on (λ (deleted : Deleted). deleted.0) (slice_cmp nat_cmp))
    (on (λ (deleted : Deleted). deleted.1.0) (slice_cmp nat_cmp))

-- a delete drops the batch's element of its key, and adds the pairs that a delete takes
abbrev pub batch_delete : List ℕ → List Pair → OpenBatch → OpenBatch
batch_delete key taken batch = record {
  elements = filter (λ (element : Element). not (bytes_eq element.key key)) batch.elements;
  pairs = ascending deleted_cmp (batch.pairs ++ map (λ (pair : Pair). (key, pair.cid)) taken);
}

abbrev pub deleted_tomb : Deleted → Tomb
deleted_tomb deleted = record { key = deleted.0; id = id_text deleted.1.0 }

-- the delta of a batch
abbrev pub batch_delta : ℕ → OpenBatch → Delta
batch_delta priority batch =
    record { elements = batch.elements; tombstones = map deleted_tomb batch.pairs; priority = priority }
