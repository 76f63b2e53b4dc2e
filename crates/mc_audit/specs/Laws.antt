-- Laws of the verdict and of what a sweep leaves.
use Rattle.std.specs.Prelude.{◌≡◌, ◌⊎◌, ◌↔◌, ℕ, ◌+◌, true, false, not, List, [], ◌∷◌, map, filter, fold, take, None}
use Rattle.std.specs.List.{AllByRecursion}
use Rattle.std.specs.List.Sorted.{IsStrictlySortedBy}
use Rattle.std.specs.Ordering.{nat_cmp, on}
use Rattle.std.specs.Cmp.Lexicographic.{slice_cmp}
use Rattle.mc_model.specs.Ascending.{is_once}
use Rattle.mc_model.specs.Front.{same_cid}
use Rattle.mc_model.specs.Kept.{Kept, processed}
use Rattle.mc_model.specs.Offer.{is_good}
use Rattle.mc_model.specs.declared.layout.Layout.{Layout}
use Rattle.mc_raw.specs.Drops.{without_blocks}
use Rattle.mc_raw.specs.declared.raw.Row.{Row}
use Rattle.mc_raw.specs.Raw.{Tables, has_row, without}
use Rattle.mc_raw.specs.RowTables.{element_table, tomb_table, value_table, winner_table, head_table, link_table}
use Rattle.mc_raw.specs.RowTables.{tables_of}
use Rattle.mc_audit.specs.Rows.{cid_in, blocks_of}
use Rattle.mc_audit.specs.Sweep.{is_free, free_cids}
use Rattle.mc_audit.specs.Sound.{first_break, has_gap}

-- the numbers from one on
abbrev pub AreFrom : ℕ → List Row → Type 0
AreFrom at [] = at ≡ at
AreFrom at (row ∷ rows) = (row.n ≡ at) × AreFrom (at + 1) rows

-- the tables are sound, sentence by sentence
pub record AreSound (t : Tables) : Type 0 where
  pub good : AllByRecursion (λ (row : Row). is_good (cid_in row) row.b ≡ true) (t 1)
  pub ascend : IsStrictlySortedBy (on (λ (row : Row). row.a) (slice_cmp nat_cmp)) (t 1)
  pub positions : AreFrom 0 (t 2)
  pub stored : AllByRecursion (λ (row : Row). has_row (t 1) (cid_in row) ≡ true) (t 2)
  pub distinct : is_once same_cid (map cid_in (t 2)) ≡ true
  pub elements : t 3 ≡ element_table (blocks_of t)
  pub tombs : t 4 ≡ tomb_table (blocks_of t)
  pub values : t 5 ≡ value_table (blocks_of t)
  pub winners : t 6 ≡ winner_table (blocks_of t)
  pub heads : t 7 ≡ head_table (blocks_of t)
  pub links : t 8 ≡ link_table (blocks_of t)
  pub mark : (row : Row) × (t 9 ≡ row ∷ []) × ((row.n ≡ 1) ⊎ ((row.n ≡ 0) × (has_gap (blocks_of t) ≡ false)))

-- there is no first difference exactly where they are
abbrev pub SoundIsExact : Type 0
SoundIsExact = (t : Tables) → (first_break t ≡ None) ↔ AreSound t

-- a sweep of all free blocks leaves the rows that aren't free
abbrev pub SweepLeavesTheRest : Type 0
SweepLeavesTheRest =
    (marks rows : List Row) →
    fold without rows (free_cids marks rows) ≡ filter (λ (row : Row). not (is_free marks row)) rows

-- a sweep of a keeper, or a part of one, leaves the processed blocks as they were
abbrev pub SweepKeepsProcessed : Type 0
SweepKeepsProcessed =
    (layout : Layout) (kept : Kept) (count : ℕ) →
    processed (without_blocks (take count (free_cids (tables_of layout kept 2) (tables_of layout kept 1))) kept)
    ≡ processed kept
