-- The rows that a query has read ahead.
use Rattle.std.proofs.Common.{◌≡◌, ℕ, ◌-◌, ◌<◌, Bool, false, List, [], ◌∷◌, sym, ◌∙◌, subst, arith, Option}
use Rattle.std.specs.Prelude.{length}
use Rattle.mc_model.specs.declared.block.Block.{Block}
use Rattle.mc_model.specs.Rank.{Ranked}
use Rattle.mc_model.specs.Live.{value_row}
use Rattle.mc_keep.specs.Next.{AreNext, AreNextOf}
use Rattle.mc_keep.specs.declared.rows.ValueRow.{ValueRow}
use Rattle.mc_query.specs.Ahead.{AreAhead, AreMore}

-- of at most so many rows those that came
as_many : (value : List ℕ → Option Ranked) (bound : List ℕ) (inclusive : Bool) (most : ℕ) (rows : List ValueRow) → AreNextOf value bound inclusive most rows → AreNextOf value bound inclusive (length rows) rows
as_many value bound inclusive most [] next = λ some. absurd (omega (arith, some))
as_many value bound inclusive most (row ∷ rows) next =
    let one_less : length rows ≡ length (row ∷ rows) - 1 = omega arith in
    (omega arith, next.1, subst (λ (n : ℕ). AreNextOf value row.key false n rows) one_less (as_many value row.key false (most - 1) rows next.2))

-- the rows that were asked for, of which there is one where any is left
pub more_rows : (blocks : List Block) (bound : List ℕ) (inclusive : Bool) (most : ℕ) (rows new : List ValueRow) → new ≡ rows → 0 < most → AreNext blocks bound inclusive most rows → AreMore blocks bound inclusive new
more_rows blocks bound inclusive most rows new is some next = record {
  ahead = subst (λ (r : List ValueRow). AreAhead blocks bound inclusive r) (sym is) (as_many (value_row blocks) bound inclusive most rows next);
  ended = λ e. (subst (λ (r : List ValueRow). AreNext blocks bound inclusive most r) (sym is ∙ e) next) some;
}

-- no rows
pub none_ahead : (blocks : List Block) (bound : List ℕ) (inclusive : Bool) (rows : List ValueRow) → rows ≡ [] → AreAhead blocks bound inclusive rows
none_ahead blocks bound inclusive rows is = subst (λ (r : List ValueRow). AreAhead blocks bound inclusive r) (sym is) (λ some. absurd (omega (arith, some)))
