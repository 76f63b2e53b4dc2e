-- What a sweep removes.
use Rattle.std.specs.Prelude.{◌≡◌, ℕ, ◌==◌, Bool, true, false, not, ◌&&◌, List, [], length, map, filter, take, Option}
use Rattle.std.specs.Prelude.{Result, Ok, Err, IfSome}
use Rattle.mc_base.specs.declared.cid.Cid.{Cid}
use Rattle.mc_keep.specs.declared.error.KeepError.{KeepError}
use Rattle.mc_keep.specs.declared.error.KeepError.TheVariants.{Failed, Memory}
use Rattle.mc_raw.specs.declared.raw.Row.{Row}
use Rattle.mc_raw.specs.Raw.{Tables, has_row}
use Rattle.mc_audit.specs.Rows.{cid_in}

-- a row of 32 bytes whose digest stands in no row of table 2
abbrev pub is_free : List Row → Row → Bool
is_free marks row = (length row.a == 32) && not (has_row marks (cid_in row))

-- their identifiers
abbrev pub free_cids : List Row → List Row → List Cid
free_cids marks rows = map cid_in (filter (is_free marks) rows)

-- all of them were removed, or after a failure some first ones
abbrev pub Drops : {E : Type 0} → (List Cid → Bool → Type 0) → List Cid → Result (Unit {0}) E → Type 0
Drops goes cids (Ok value) = goes cids false
Drops goes cids (Err error) = (count : ℕ) × goes (take count cids) true

-- the same of a sweep: those of the rows, where they are told; none after want of memory
abbrev pub SweepOf : (List Cid → Bool → Type 0) → List Cid → Result ℕ KeepError → Type 0
SweepOf goes cids (Ok count) = goes cids false × (count ≡ length cids)
SweepOf goes cids (Err Failed) = (count : ℕ) × goes (take count cids) true
SweepOf goes cids (Err Memory) = goes [] false

pub record Sweeps (goes : List Cid → Bool → Type 0) (raw : Option Tables) (result : Result ℕ KeepError) : Type 0 where
  pub cids : List Cid
  pub swept : SweepOf goes cids result
  pub told : IfSome raw (λ tables. cids ≡ free_cids (tables 2) (tables 1))
