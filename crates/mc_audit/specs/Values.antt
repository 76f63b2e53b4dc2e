-- Of the live elements of each key the one that counts: by the priority and the bytes the greatest, and of equal ones
-- that of the least block.
use Rattle.std.specs.Prelude.{◌≡◌, Bool, not, List, [], map}
use Rattle.std.specs.List.{list_any, dedup}
use Rattle.std.specs.Ordering.{nat_cmp, on, then_cmp, flip_args}
use Rattle.std.specs.Cmp.{IsTotalOrder}
use Rattle.std.specs.declared.cmp.Ordering.{Ordering}
use Rattle.std.specs.Cmp.Lexicographic.{slice_cmp}
use Rattle.std.specs.Str.{bytes_eq}
use Rattle.std.proofs.lemmas.Cmp.{then_total, on_total, back_total, nat_cmp_total, nat_list_cmp_total}
use Rattle.mc_model.specs.Ascending.{Ascends}
use Rattle.mc_model.specs.Id.{id_text}
use Rattle.mc_raw.specs.declared.raw.Row.{Row}
use Rattle.mc_audit.specs.declared.values.Candidate.{Candidate}
use Rattle.mc_audit.specs.Rows.{same_row}

-- the tombstone that hides an element
abbrev pub tomb_of : Row → Row
tomb_of row = record { a = row.a; b = id_text row.b; c = []; n = 0 }

abbrev pub is_shown_by : List Row → Row → Bool
is_shown_by tombs row = not (list_any (λ tomb. same_row tomb (tomb_of row)) tombs)

-- by the key, then the greatest priority and the greatest bytes first, and then by the block
abbrev pub top_cmp : Row → Row → Ordering
top_cmp =
    then_cmp (then_cmp (then_cmp (on (λ (row : Row). row.a) (slice_cmp nat_cmp))
    (on (λ (row : Row). row.n) (flip_args nat_cmp)))
    (on (λ (row : Row). row.c) (flip_args (slice_cmp nat_cmp))))
    (on (λ (row : Row). row.b) (slice_cmp nat_cmp))

abbrev pub candidate_cmp : Candidate → Candidate → Ordering
candidate_cmp = on (λ (candidate : Candidate). candidate.row) top_cmp

pub top_total : IsTotalOrder top_cmp
top_total =
    then_total (then_total (then_total (on_total (λ (row : Row). row.a) nat_list_cmp_total)
    (on_total (λ (row : Row). row.n) (back_total nat_cmp_total)))
    (on_total (λ (row : Row). row.c) (back_total nat_list_cmp_total)))
    (on_total (λ (row : Row). row.b) nat_list_cmp_total)

pub candidate_total : IsTotalOrder candidate_cmp
candidate_total = on_total (λ (candidate : Candidate). candidate.row) top_total

abbrev pub rows_in : List Candidate → List Row
rows_in candidates = map (λ (candidate : Candidate). candidate.row) candidates

abbrev pub same_key : Row → Row → Bool
same_key a b = bytes_eq a.a b.a

-- the rows of the value table and of the winner table
abbrev pub value_in : Row → Row
value_in row = record { a = row.a; b = []; c = row.c; n = row.n }

abbrev pub winner_in : Row → Row
winner_in row = record { a = row.a; b = row.b; c = []; n = 0 }

-- rows in that order, and the first of each key
abbrev pub tops_in : List Row → List Row
tops_in rows = dedup same_key rows

-- rows in their order, of which the tops are the first of each key
pub record IsTopsOf (rows tops : List Row) : Type 0 where
  pub sorted : List Row
  pub ascends : Ascends top_cmp sorted rows
  pub first : tops ≡ tops_in sorted
