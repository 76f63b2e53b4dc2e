-- Rows that are let go: none of them counts.
use Rattle.std.specs.Prelude.{◌≡◌, ℕ, Bool, true, false, List, Option}
use Rattle.std.specs.BinaryHeap.{IsHeap}
use Rattle.std.specs.List.{list_any}
use Rattle.mc_live.specs.Order.{row_cmp}
use Rattle.mc_live.specs.Rows.{IsTopShown, KeepsHeaps, is_shown}
use Rattle.mc_live.specs.declared.order.Row.{Row}

-- a test that only rows which count pass
abbrev pub OfShown : (List ℕ → Bool) → List (Option (List ℕ)) → (Row → Bool) → Type 0
OfShown hidden ids test = (row : Row) → is_shown hidden ids row ≡ false → test row ≡ false

-- the rows of one key
pub record Prunes (hidden : List ℕ → Bool) (ids : List (Option (List ℕ))) (old new : List Row) : Type 0 where
  pub rest : (test : Row → Bool) → OfShown hidden ids test → list_any test new ≡ list_any test old
  pub fewer : (test : Row → Bool) → list_any test old ≡ false → list_any test new ≡ false
  pub heap : IsHeap row_cmp old → IsHeap row_cmp new
  pub top : IsTopShown hidden ids new

-- the rows of all keys: of these keys the first row counts, and the rows of the others are the same
pub record PrunesKeys (tombs : List ℕ → List ℕ → Bool) (ids : List (Option (List ℕ))) (of_these : List ℕ → Bool)
    (old new : List ℕ → List Row) : Type 0 where
  pub rest : (key : List ℕ) (test : Row → Bool) → OfShown (tombs key) ids test →
      list_any test (new key) ≡ list_any test (old key)
  pub fewer : (key : List ℕ) (test : Row → Bool) → list_any test (old key) ≡ false → list_any test (new key) ≡ false
  pub heaps : KeepsHeaps old new
  pub top : (key : List ℕ) → of_these key ≡ true → IsTopShown (tombs key) ids (new key)
  pub others : (key : List ℕ) → of_these key ≡ false → new key ≡ old key
