-- Tables of plain rows, and what a removal leaves of them.
use Rattle.std.specs.Prelude.{◌≡◌, ◌⊎◌, ℕ, ◌==◌, Bool, true, false, List, [], ◌∷◌, fold, Option, Result, Ok, Err}
use Rattle.std.specs.Prelude.{IfSome, IfOk, if◌then◌else◌}
use Rattle.std.specs.List.{list_any}
use Rattle.std.specs.Str.{bytes_eq}
use Rattle.mc_base.specs.declared.cid.Cid.{Cid}
use Rattle.mc_raw.specs.declared.raw.Row.{Row}

-- the rows of each table, by its number; of a number that is no table's, none
abbrev pub Tables : Type 0
Tables = ℕ → List Row

-- what holds of the rows that are told and of an Ok
abbrev pub IfRaw : {T E : Type 0} → Option Tables → Result T E → (Tables → T → Type 0) → Type 0
IfRaw raw result P = IfSome raw (λ tables. IfOk result (λ value. P tables value))

-- whether this is a row of the block
abbrev pub is_row_of : Cid → Row → Bool
is_row_of cid row = bytes_eq row.a cid.0

abbrev pub has_row : List Row → Cid → Bool
has_row rows cid = list_any (is_row_of cid) rows

-- the block is stored and not processed
abbrev pub IsFree : Cid → Tables → Type 0
IsFree cid tables = (has_row (tables 1) cid ≡ true) × (has_row (tables 2) cid ≡ false)

-- the rows but for the first one of the block
abbrev pub without : List Row → Cid → List Row
without [] cid = []
without (row ∷ rows) cid = if is_row_of cid row then rows else row ∷ without rows cid

-- after these blocks were removed in turn
pub record IsWithout (cids : List Cid) (old new : Tables) : Type 0 where
  pub blocks : new 1 ≡ fold without (old 1) cids
  pub others : (table : ℕ) → (table == 1) ≡ false → new table ≡ old table

-- a removal that failed may have happened or not
abbrev pub DropGoes : {T E : Type 0} → Type 0 → Type 0 → Result T E → Type 0
DropGoes not_at_all wholly (Ok value) = wholly
DropGoes not_at_all wholly (Err error) = not_at_all ⊎ wholly
