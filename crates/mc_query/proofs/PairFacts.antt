-- Pairs that were taken, and the place after them.
use Rattle.std.proofs.Common.{◌≡◌, ℕ, zero, suc, ◌+◌, ◌-◌, ◌<◌, ◌≤◌, Bool, true, false, List, [], ◌∷◌, ◌++◌, length, take, drop, map, refl, sym, ap, ◌∙◌, subst, arith, Option, Some, None}
use Rattle.std.specs.Prelude.{filter, unwrap_or}
use Rattle.std.proofs.Math.ListN.{drop_of_length-le}
use Rattle.std.proofs.lemmas.List.{take_all, drop-drop, length-drop, map-append}
use Rattle.mc_keep.specs.Next.{is_past}
use Rattle.std.proofs.lemmas.List.Sums.{fold-append}
use Rattle.mc_model.specs.declared.block.Block.{Block}
use Rattle.mc_model.specs.Answers.{with_value, valued_keys}
use Rattle.mc_model.specs.Live.{value}
use Rattle.mc_key.specs.Prefix.{is_under}
use Rattle.mc_keep.specs.declared.rows.ValueRow.{ValueRow}
use Rattle.mc_query.specs.Ahead.{AreAhead}
use Rattle.mc_query.specs.Places.{pair_of, pair_of_row, past_pair, place_after, left_of, start_of, IsKeyUnder, IsNextUnder, IsPassed}
use Rattle.mc_query.specs.declared.pair.Pair.{Pair}
use Rattle.mc_query.specs.declared.place.Place.{Place}
use Rattle.mc_query.proofs.NextFacts.{from_start}

-- one item more of a list
pub drop_next : {X : Type 0} (items : List X) (index : ℕ) (item : X) (rest : List X) → drop index items ≡ item ∷ rest → drop (index + 1) items ≡ rest
drop_next [] zero item rest e = absurd (cc)
drop_next [] (suc index) item rest e = absurd (cc)
drop_next (first ∷ items) zero item rest e = ap (drop 1) e
drop_next (first ∷ items) (suc index) item rest e = let one : suc index + 1 ≡ suc (index + 1) = omega arith in rw one (drop_next items index item rest e)

pub take_next : {X : Type 0} (items : List X) (index : ℕ) (item : X) (rest : List X) → drop index items ≡ item ∷ rest → take (index + 1) items ≡ take index items ++ item ∷ []
take_next [] zero item rest e = absurd (cc)
take_next [] (suc index) item rest e = absurd (cc)
take_next (first ∷ items) zero item rest e = ap (take 1) e
take_next {X = X} (first ∷ items) (suc index) item rest e = let one : suc index + 1 ≡ suc (index + 1) = omega arith in rw one (ap (λ (more : List X). first ∷ more) (take_next items index item rest e))

pub take_ended : {X : Type 0} (items : List X) (index count : ℕ) → drop index items ≡ [] → index ≤ count → take index items ≡ take count items
take_ended items index count none within =
    let short : length items ≤ index = omega (arith, length-drop index items, ap length none) in
    take_all index items short ∙ sym (take_all count items (omega (arith, short, within)))

-- so many pairs were taken from the keys that were left at a place
pub record IsTaken (blocks : List Block) (prefix : List ℕ) (place : Place) (pairs : List Pair) (index : ℕ) : Type 0 where
  pub got : map pair_of pairs ≡ map (with_value blocks) (take index (left_of blocks prefix place.bound place.inclusive))
  pub next : left_of blocks prefix (place_after place pairs).bound (place_after place pairs).inclusive ≡ drop index (left_of blocks prefix place.bound place.inclusive)

-- of the selected keys that are passed over so many are still before a place
pub record IsPassing (blocks : List Block) (prefix : List ℕ) (place : Place) (left skip : ℕ) : Type 0 where
  pub next : drop left (left_of blocks prefix place.bound place.inclusive) ≡ drop skip (filter (is_under prefix) (valued_keys blocks))

pub drop_ended : {X : Type 0} (items : List X) (index count : ℕ) → drop index items ≡ [] → index ≤ count → drop count items ≡ []
drop_ended items index count none within = drop_of_length-le items (omega (arith, length-drop index items, ap length none, within))

-- nothing was passed over at the start
pub passing_start : (blocks : List Block) (prefix start : List ℕ) (skip : ℕ) → start ≡ start_of prefix → IsPassing blocks prefix (record { bound = start; inclusive = true }) skip skip
passing_start blocks prefix start skip is = record { next = rw is (ap (drop skip) (from_start blocks prefix)) }

-- a stride to the key at its end
stride_taken : {X : Type 0} (items : List X) (stride : ℕ) (item : X) (rest : List X) → 0 < stride → drop (stride - 1) items ≡ item ∷ rest → drop stride items ≡ rest
stride_taken items stride item rest some at =
    let one : stride - 1 + 1 ≡ stride = omega (arith, some) in
    ap (λ (n : ℕ). drop n items) (sym one) ∙ drop_next items (stride - 1) item rest at

-- the keys of a stride are passed over where the one at its end was found
pub passing_more : (blocks : List Block) (prefix : List ℕ) (place : Place) (left stride skip : ℕ) (bound : List ℕ) (found : Option (List ℕ)) (key : List ℕ) → bound ≡ place.bound → found ≡ Some key →
    0 < stride → stride ≤ left → IsPassing blocks prefix place left skip → IsKeyUnder blocks prefix bound place.inclusive (stride - 1) found →
    IsPassing blocks prefix (record { bound = key; inclusive = false }) (left - stride) skip
passing_more blocks prefix place left stride skip bound found key same is some within passing at =
    let keys = left_of blocks prefix place.bound place.inclusive in
    let here : IsKeyUnder blocks prefix place.bound place.inclusive (stride - 1) (Some key) = rw (same, is) at at in
    let all : stride + (left - stride) ≡ left = omega (arith, within) in
    record {
      next =
          ap (drop (left - stride)) (sym (stride_taken keys stride key (left_of blocks prefix key false) some here))
          ∙ drop-drop (left - stride) stride keys ∙ ap (λ (n : ℕ). drop n keys) all ∙ passing.next;
    }

-- where none is found there are no more keys than are to be passed over
pub passing_ended : (blocks : List Block) (prefix : List ℕ) (place : Place) (left stride skip : ℕ) (bound : List ℕ) (found : Option (List ℕ)) → bound ≡ place.bound → found ≡ None → stride ≤ left →
    IsPassing blocks prefix place left skip → IsKeyUnder blocks prefix bound place.inclusive (stride - 1) found → IsPassed blocks prefix skip None
passing_ended blocks prefix place left stride skip bound found same is within passing at =
    let here : IsKeyUnder blocks prefix place.bound place.inclusive (stride - 1) None = rw (same, is) at at in
    sym passing.next ∙ drop_ended (left_of blocks prefix place.bound place.inclusive) (stride - 1) left here (omega (arith, within))

pub taken_start : (blocks : List Block) (prefix : List ℕ) (place : Place) (pairs : List Pair) → pairs ≡ [] → IsTaken blocks prefix place pairs 0
taken_start blocks prefix place pairs none = rw none (record { got = refl; next = refl })

after_more : (place : Place) (pairs : List Pair) (pair : Pair) → place_after place (pairs ++ pair ∷ []) ≡ record { bound = pair.key; inclusive = false }
after_more place pairs pair = fold-append past_pair place pairs (pair ∷ [])

with_its_value : (blocks : List Block) (row : ValueRow) → value blocks row.key ≡ Some row.value → with_value blocks row.key ≡ (row.key, row.value)
with_its_value blocks row is = ap (λ (found : Option (List ℕ)). (row.key, unwrap_or found [])) is

pub taken_more : (blocks : List Block) (prefix : List ℕ) (place : Place) (pairs new : List Pair) (index : ℕ) (bound : List ℕ) (inclusive : Bool) (found : Option ValueRow) (row : ValueRow) →
    bound ≡ (place_after place pairs).bound → inclusive ≡ (place_after place pairs).inclusive → found ≡ Some row → new ≡ pairs ++ pair_of_row row ∷ [] →
    IsTaken blocks prefix place pairs index → IsNextUnder blocks prefix bound inclusive found → IsTaken blocks prefix place new (index + 1)
taken_more blocks prefix place pairs new index bound inclusive found row same way is pushed taken next =
    let keys = left_of blocks prefix place.bound place.inclusive in
    let here : IsNextUnder blocks prefix (place_after place pairs).bound (place_after place pairs).inclusive (Some row) = rw (same, way, is) at next in
    let first : drop index keys ≡ row.key ∷ left_of blocks prefix row.key false = sym taken.next ∙ here.0 in
    record {
      got =
          ap (map pair_of) pushed ∙ map-append pair_of pairs (pair_of_row row ∷ [])
          ∙ ap (λ (front : List (List ℕ × List ℕ)). front ++ (row.key, row.value) ∷ []) taken.got
          ∙ ap (λ (last : List ℕ × List ℕ). map (with_value blocks) (take index keys) ++ last ∷ []) (sym (with_its_value blocks row here.1))
          ∙ sym (map-append (with_value blocks) (take index keys) (row.key ∷ []))
          ∙ ap (map (with_value blocks)) (sym (take_next keys index row.key (left_of blocks prefix row.key false) first));
      next =
          ap (λ (after : Place). left_of blocks prefix after.bound after.inclusive) (ap (place_after place) pushed ∙ after_more place pairs (pair_of_row row))
          ∙ sym (drop_next keys index row.key (left_of blocks prefix row.key false) first);
    }

pub taken_ended : (blocks : List Block) (prefix : List ℕ) (place : Place) (pairs : List Pair) (index count : ℕ) (bound : List ℕ) (inclusive : Bool) (found : Option ValueRow) →
    bound ≡ (place_after place pairs).bound → inclusive ≡ (place_after place pairs).inclusive → found ≡ None → index ≤ count →
    IsTaken blocks prefix place pairs index → IsNextUnder blocks prefix bound inclusive found →
    map pair_of pairs ≡ map (with_value blocks) (take count (left_of blocks prefix place.bound place.inclusive))
taken_ended blocks prefix place pairs index count bound inclusive found same way is within taken next =
    let keys = left_of blocks prefix place.bound place.inclusive in
    let here : IsNextUnder blocks prefix (place_after place pairs).bound (place_after place pairs).inclusive None = rw (same, way, is) at next in
    taken.got ∙ ap (map (with_value blocks)) (take_ended keys index count (sym taken.next ∙ here) within)

-- where the place after the last pair is past the start
pub past_after : (place : Place) (pairs new : List Pair) (row : ValueRow) (start : List ℕ) → new ≡ pairs ++ pair_of_row row ∷ [] → is_past start true row.key ≡ true → is_past start true (place_after place new).bound ≡ true
past_after place pairs new row start pushed past =
    ap (λ (after : Place). is_past start true after.bound) (ap (place_after place) pushed ∙ after_more place pairs (pair_of_row row)) ∙ past

-- where the rows ahead come after the last pair's key
pub ahead_after : (blocks : List Block) (place : Place) (pairs new : List Pair) (row : ValueRow) (rows : List ValueRow) → new ≡ pairs ++ pair_of_row row ∷ [] → AreAhead blocks row.key false rows →
    AreAhead blocks (place_after place new).bound (place_after place new).inclusive rows
ahead_after blocks place pairs new row rows pushed ahead =
    subst (λ (after : Place). AreAhead blocks after.bound after.inclusive rows) (sym (ap (place_after place) pushed ∙ after_more place pairs (pair_of_row row))) ahead
