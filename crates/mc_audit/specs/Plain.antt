-- Plain tables.
use Rattle.std.specs.Prelude.{◌≡◌, ◌-◌, ◌==◌, nat_lt, Bool, false, List, [], ◌++◌, fold, slice_get, Option, Some, None}
use Rattle.std.specs.Prelude.{if◌then◌else◌, unwrap_or, Vec, ⊤}
use Rattle.std.proofs.Common.{refl, sym, ap, ◌∙◌, subst}
use Rattle.mc_base.specs.declared.cid.Cid.{Cid}
use Rattle.mc_base.specs.Told.{Told}
use Rattle.mc_model.proofs.Greatest.{fold-append}
use Rattle.mc_keep.specs.Causes.{CountGoes}
use Rattle.mc_raw.specs.declared.raw.Row.{Row}
use Rattle.mc_raw.specs.Raw.{Tables, IsWithout, without}
use Rattle.mc_keep.proofs.Frames.{count_none}
use Rattle.mc_audit.specs.declared.plain.PlainTables.{PlainTables}

-- the tables that these lists are, from table 1 on; one whose list is missing is empty
abbrev pub tables_in : List (List Row) → Tables
tables_in lists table = if table == 0 then [] else unwrap_or (slice_get lists (table - 1)) []

-- the same of the list of table 1, where there is one, and of the others
abbrev pub first_rows : {Z : Type 0} → Option (Vec Row Z) → List Row
first_rows None = []
first_rows (Some rows) = rows.items

abbrev pub rows_from : List Row → List (List Row) → Tables
rows_from first others table =
    if table == 1 then first
    else (if nat_lt table 2 then [] else unwrap_or (slice_get others (table - 2)) [])

abbrev pub rows_at : PlainTables → Tables
rows_at tables = rows_from (first_rows tables.blocks) tables.others.items

pub record PlainGoes (cids : List Cid) (failed : Bool) (old new : PlainTables) : Type 0 where
  pub quiet : failed ≡ false
  pub dropped : IsWithout cids (rows_at old) (rows_at new)

pub plain_still : (tables : PlainTables) → PlainGoes [] false tables tables
plain_still tables = record { quiet = refl; dropped = record { blocks = refl; others = λ table other. refl } }

pub plain_on : (first next : List Cid) (failed : Bool) (old mid new : PlainTables) →
    PlainGoes first false old mid → PlainGoes next failed mid new → PlainGoes (first ++ next) failed old new
plain_on first next failed old mid new a b = record {
  quiet = b.quiet;
  dropped = record {
    blocks = b.dropped.blocks
        ∙ ap (λ (rows : List Row). fold without rows next) a.dropped.blocks
        ∙ sym (fold-append without (rows_at old 1) first next);
    others = λ table other. b.dropped.others table other ∙ a.dropped.others table other;
  };
}

pub plain_raw : (cids : List Cid) (failed : Bool) (old new : PlainTables) → PlainGoes cids failed old new →
    Told (Some (rows_at old)) (Some (rows_at new)) (IsWithout cids)
plain_raw cids failed old new h = h.dropped

abbrev is_there : Option Tables → Type 0
is_there None = ⊥
is_there (Some t) = ⊤

pub plain_silent : (cids : List Cid) (failed : Bool) (old new : PlainTables) → PlainGoes cids failed old new →
    ◌≡◌ {A = Option Tables} (Some (rows_at old)) None → ◌≡◌ {A = Option Tables} (Some (rows_at new)) None
plain_silent cids failed old new h e = absurd (subst is_there e tt)

pub plain_count : (cids : List Cid) (failed : Bool) (old new : PlainTables) → PlainGoes cids failed old new →
    CountGoes failed 0 0
plain_count cids failed old new h = subst (λ f. CountGoes f 0 0) (sym h.quiet) (count_none 0)
