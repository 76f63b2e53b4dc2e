-- The pairs of a query as they are taken, over every keeper.
use Rattle.std.proofs.Common.{◌≡◌, ℕ, ◌+◌, ◌≤◌, Bool, true, List, [], ◌∷◌, ◌++◌, refl, ◌∙◌, arith}
use Rattle.std.proofs.lemmas.List.{length-append}
use Rattle.std.proofs.lemmas.List.Folds.{list_all-append}
use Rattle.mc_key.specs.Prefix.{is_under}
use Rattle.mc_keep.specs.Next.{is_past}
use Rattle.mc_keep.specs.declared.rows.ValueRow.{ValueRow}
use Rattle.mc_query.specs.Answers.{Ascend, AreAnswers}
use Rattle.mc_query.specs.Places.{past_pair, place_after, pair_of_row}
use Rattle.mc_query.specs.declared.pair.Pair.{Pair}
use Rattle.mc_query.specs.declared.place.Place.{Place}
use Rattle.mc_query.proofs.KeyOrder.{past_bound}

pub answers_none : (bound : List ℕ) (inclusive : Bool) (prefix : List ℕ) (count : ℕ) (pairs : List Pair) → pairs ≡ [] → AreAnswers bound inclusive prefix count pairs
answers_none bound inclusive prefix count pairs none = rw none (record { few = omega arith; under = refl; ascend = tt })

pub answers_within : {bound : List ℕ} {inclusive : Bool} {prefix : List ℕ} {pairs : List Pair} (index count : ℕ) → index ≤ count → AreAnswers bound inclusive prefix index pairs → AreAnswers bound inclusive prefix count pairs
answers_within index count within are = record { few = omega (arith, within, are.few); under = are.under; ascend = are.ascend }

ascend_more : (place : Place) (pairs : List Pair) (pair : Pair) → Ascend place.bound place.inclusive pairs → is_past (place_after place pairs).bound (place_after place pairs).inclusive pair.key ≡ true → Ascend place.bound place.inclusive (pairs ++ pair ∷ [])
ascend_more place [] pair ascend past = (past, tt)
ascend_more place (first ∷ pairs) pair ascend past = (ascend.0, ascend_more (past_pair place first) pairs pair ascend.1 past)

-- the pair of a row past the last one is one more
pub answers_more : (prefix : List ℕ) (place : Place) (pairs new : List Pair) (index : ℕ) (bound : List ℕ) (inclusive : Bool) (row : ValueRow) →
    bound ≡ (place_after place pairs).bound → inclusive ≡ (place_after place pairs).inclusive → new ≡ pairs ++ pair_of_row row ∷ [] →
    is_past bound inclusive row.key ≡ true → is_under prefix row.key ≡ true →
    AreAnswers place.bound place.inclusive prefix index pairs → AreAnswers place.bound place.inclusive prefix (index + 1) new
answers_more prefix place pairs new index bound inclusive row same way pushed past under are = rw pushed (record {
  few = omega (arith, length-append pairs (pair_of_row row ∷ []), are.few);
  under = list_all-append (λ (pair : Pair). is_under prefix pair.key) pairs (pair_of_row row ∷ []) ∙ rw (are.under, under) refl;
  ascend = ascend_more place pairs (pair_of_row row) are.ascend (rw (same, way) at past);
})

ascend_from : (start bound : List ℕ) (inclusive : Bool) (pairs : List Pair) → is_past start true bound ≡ true → Ascend bound inclusive pairs → Ascend start true pairs
ascend_from start bound inclusive [] from ascend = tt
ascend_from start bound inclusive (pair ∷ pairs) from ascend = (past_bound start bound inclusive pair.key from ascend.0, ascend.1)

-- what ascends past a bound ascends past each start that is not past it
pub answers_from : (start bound : List ℕ) (inclusive : Bool) (prefix : List ℕ) (count : ℕ) → is_past start true bound ≡ true → (pairs : List Pair) → AreAnswers bound inclusive prefix count pairs → AreAnswers start true prefix count pairs
answers_from start bound inclusive prefix count from pairs are = record { few = are.few; under = are.under; ascend = ascend_from start bound inclusive pairs from are.ascend }
