-- The pairs of a query as the map is gone through.
use Rattle.std.proofs.Common.{◌≡◌, subst, ℕ, zero, suc, ◌-◌, ◌<◌, ◌≤◌, Bool, true, false, cond, ◌&&◌, not, List, [], ◌∷◌, ◌++◌, length, take, drop, refl, ap, sym, ◌∙◌, arith, append_assoc, append-nil, length-append}
use Rattle.std.specs.Prelude.{filter}
use Rattle.std.specs.List.{AllByRecursion}
use Rattle.std.specs.List.Sorted.{IsStrictlySortedBy}
use Rattle.std.specs.Ordering.{nat_cmp, is_le}
use Rattle.std.specs.declared.cmp.Ordering.TheVariants.{Less}
use Rattle.std.specs.Cmp.Lexicographic.{slice_cmp}
use Rattle.std.specs.String.{string_bytes, string_cmp}
use Rattle.std.specs.declared.string.String.{String}
use Rattle.std.specs.declared.ops.Bound.TheVariants.{Included, Unbounded}
use Rattle.std.specs.Map.{keys_of}
use Rattle.std.specs.BTreeMap.Range.{entries_between, range_contains}
use Rattle.std.proofs.lemmas.List.Kept.{IsStrictlySortedBy-filter}
use Rattle.std.proofs.lemmas.Bool.{false≢true}
use Rattle.std.proofs.lemmas.Map.Keys.{sorted_head, sorted_tail}
use Rattle.mc_key.specs.Prefix.{is_under}
use Rattle.mc_keep.specs.Next.{is_past}
use Rattle.mc_query.specs.Places.{start_of}
use Rattle.mc_query.proofs.KeyOrder.{between}
use Rattle.mc_query.proofs.NextFacts.{selected_past}
use Rattle.mc_query.proofs.Slashes.{selected_is, is_selected}
use Rattle.mc_face.specs.Pairs.{Pair, entry_pair, pairs_of}
use Rattle.mc_face.specs.Rows.{selects, rows_of}

-- the keys of these entries are past the start, or at it
abbrev pub ArePast : {Y : Type 0} → List ℕ → List (String Y × List ℕ) → Type 0
ArePast {Y} start entries = AllByRecursion (λ (entry : String Y × List ℕ). is_past start true (string_bytes entry.0) ≡ true) entries

-- what was taken, and what of the entries that are left is still to be taken, are all
pub record IsListing {Y : Type 0} (prefix : List ℕ) (all : List Pair) (count : ℕ) (rest : List (String Y × List ℕ)) (rows : List Pair) (left : ℕ) : Type 0 where
  pub goes : rows ++ take (count - length rows) (drop left (filter (selects prefix) (pairs_of rest))) ≡ all
  pub sorted : IsStrictlySortedBy string_cmp (keys_of rest)
  pub past : ArePast (start_of prefix) rest

-- ---- the entries from the start on

whole : (b : Bool) → (b && not false) ≡ b
whole true = refl
whole false = refl

module _ {Y : Type 0} (prefix : List ℕ) (from : String Y) (is : string_bytes from ≡ start_of prefix) where
  abbrev is_from : String Y × List ℕ → Bool
  is_from entry = range_contains string_cmp (Included from) Unbounded entry.0

  from_is_past : (entry : String Y × List ℕ) → is_from entry ≡ is_past (start_of prefix) true (string_bytes entry.0)
  from_is_past entry = whole (is_le (string_cmp from entry.0)) ∙ ap (λ (text : List ℕ). is_past text true (string_bytes entry.0)) is

  -- every selected pair is among them
  selected_from : (entries : List (String Y × List ℕ)) → filter (selects prefix) (pairs_of (filter is_from entries)) ≡ filter (selects prefix) (pairs_of entries)
  selected_from [] = refl
  selected_from (entry ∷ entries) =
      (elim (selects prefix (entry_pair entry)) as (λ b. selects prefix (entry_pair entry) ≡ b →
      filter (selects prefix) (pairs_of {Y = Y} (cond (is_from entry) (entry ∷ filter is_from entries) (filter is_from entries)))
      ≡ cond b (entry_pair entry ∷ filter (selects prefix) (pairs_of entries)) (filter (selects prefix) (pairs_of entries))) [
        | true ↦ λ e.
            let here : is_from entry ≡ true = from_is_past entry ∙ selected_past prefix (string_bytes entry.0) e in
            ap (λ b. filter (selects prefix) (pairs_of {Y = Y} (cond b (entry ∷ filter is_from entries) (filter is_from entries)))) here
            ∙ (ap (λ b. cond b (entry_pair entry ∷ filter (selects prefix) (pairs_of (filter is_from entries))) (filter (selects prefix) (pairs_of (filter is_from entries)))) e
            ∙ ap (λ rest. entry_pair entry ∷ rest) (selected_from entries))
        | false ↦ λ e. (elim (is_from entry) as (λ b. filter (selects prefix) (pairs_of {Y = Y} (cond b (entry ∷ filter is_from entries) (filter is_from entries))) ≡ filter (selects prefix) (pairs_of entries)) [
          | true ↦ ap (λ b. cond b (entry_pair entry ∷ filter (selects prefix) (pairs_of (filter is_from entries))) (filter (selects prefix) (pairs_of (filter is_from entries)))) e ∙ selected_from entries
          | false ↦ selected_from entries
        ])
      ]) refl

  past_from : (entries : List (String Y × List ℕ)) → ArePast (start_of prefix) (filter is_from entries)
  past_from [] = tt
  past_from (entry ∷ entries) = (elim (is_from entry) as (λ b. is_from entry ≡ b → ArePast (start_of prefix) (cond b (entry ∷ filter is_from entries) (filter is_from entries))) [
    | true ↦ λ e. (sym (from_is_past entry) ∙ e, past_from entries)
    | false ↦ λ e. past_from entries
  ]) refl

  abbrev is_key_from : String Y → Bool
  is_key_from key = range_contains string_cmp (Included from) Unbounded key

  keys_from : (entries : List (String Y × List ℕ)) → keys_of (filter is_from entries) ≡ filter is_key_from (keys_of entries)
  keys_from [] = refl
  keys_from (entry ∷ entries) = elim (is_from entry) as (λ b. keys_of (cond b (entry ∷ filter is_from entries) (filter is_from entries)) ≡ cond b (entry.0 ∷ filter is_key_from (keys_of entries)) (filter is_key_from (keys_of entries))) [
    | true ↦ ap (λ keys. entry.0 ∷ keys) (keys_from entries)
    | false ↦ keys_from entries
  ]

  -- nothing was taken
  pub listing_start : (entries rest : List (String Y × List ℕ)) (rows : List Pair) (skip count : ℕ) → rest ≡ entries_between string_cmp (Included from) Unbounded entries → rows ≡ []
      → IsStrictlySortedBy string_cmp (keys_of entries) → IsListing prefix (rows_of (pairs_of entries) prefix skip count) count rest rows skip
  listing_start entries rest rows skip count are none sorted =
      let here : IsListing prefix (rows_of (pairs_of entries) prefix skip count) count (filter is_from entries) [] skip = record {
        goes =
            let n : count - length {A = Pair} [] ≡ count = omega arith in
            ap (λ k. take k (drop skip (filter (selects prefix) (pairs_of (filter is_from entries))))) n ∙ ap (λ l. take count (drop skip l)) (selected_from entries);
        sorted = subst (IsStrictlySortedBy string_cmp) (sym (keys_from entries)) (IsStrictlySortedBy-filter string_cmp is_key_from (keys_of entries) sorted);
        past = past_from entries;
      } in
      subst (λ (r : List (String Y × List ℕ)). IsListing prefix (rows_of (pairs_of entries) prefix skip count) count r rows skip) (sym are)
      (subst (λ (r : List Pair). IsListing prefix (rows_of (pairs_of entries) prefix skip count) count (filter is_from entries) r skip) (sym none) here)

-- ---- the steps

drop_one : {A : Type 0} (item : A) (items : List A) (n : ℕ) → 0 < n → drop n (item ∷ items) ≡ drop (n - 1) items
drop_one item items zero some = absurd (omega (arith, some))
drop_one item items (suc n) some = let less : n ≡ suc n - 1 = omega arith in ap (λ k. drop k items) less

nothing_of : {A : Type 0} (n m : ℕ) → ◌≡◌ {A = List A} (take n (drop m [])) []
nothing_of zero zero = refl
nothing_of zero (suc m) = refl
nothing_of (suc n) zero = refl
nothing_of (suc n) (suc m) = refl

-- where none of the entries that are left is selected
pub listing_none : {Y : Type 0} (prefix : List ℕ) (all : List Pair) (count : ℕ) (rest : List (String Y × List ℕ)) (rows : List Pair) (left : ℕ) → filter (selects prefix) (pairs_of rest) ≡ [] → IsListing prefix all count rest rows left → rows ≡ all
listing_none prefix all count rest rows left none listing =
    sym (append-nil rows)
    ∙ (ap (λ l. rows ++ l) (sym (nothing_of (count - length rows) left))
    ∙ (sym (ap (λ l. rows ++ take (count - length rows) (drop left l)) none) ∙ listing.goes))

-- after a key past the start that isn't selected none is
key_off : (prefix key next : List ℕ) → is_past (start_of prefix) true key ≡ true → is_under prefix key ≡ false → slice_cmp nat_cmp key next ≡ Less → (b : Bool) → is_under prefix next ≡ b → b ≡ false
key_off prefix key next from off above false e = refl
key_off prefix key next from off above true e =
    let is = selected_is prefix next e in
    let less : slice_cmp nat_cmp key (start_of prefix ++ is.0) ≡ Less = subst (λ (k : List ℕ). slice_cmp nat_cmp key k ≡ Less) is.1 above in
    let begins = between (start_of prefix) key is.0 from (ap is_le less) in
    absurd (false≢true (sym off ∙ is_selected prefix key begins.0 begins.1))

others_off : {Y : Type 0} (prefix : List ℕ) (key : String Y) → is_past (start_of prefix) true (string_bytes key) ≡ true → is_under prefix (string_bytes key) ≡ false → (rest : List (String Y × List ℕ))
    → AllByRecursion (λ k. string_cmp key k ≡ Less) (keys_of rest) → filter (selects prefix) (pairs_of rest) ≡ []
others_off prefix key from off [] above = refl
others_off prefix key from off (entry ∷ rest) above =
    ap (λ b. cond b (entry_pair entry ∷ filter (selects prefix) (pairs_of rest)) (filter (selects prefix) (pairs_of rest)))
    (key_off prefix (string_bytes key) (string_bytes entry.0) from off above.0 (is_under prefix (string_bytes entry.0)) refl)
    ∙ others_off prefix key from off rest above.1

module _ {Y : Type 0} (prefix : List ℕ) (all : List Pair) (count : ℕ) (entries rest : List (String Y × List ℕ)) (entry : String Y × List ℕ) (rows : List Pair) (left : ℕ)
    (next : entries ≡ entry ∷ rest) (listing : IsListing prefix all count entries rows left) where
  here : IsListing prefix all count (entry ∷ rest) rows left
  here = subst (λ (r : List (String Y × List ℕ)). IsListing prefix all count r rows left) next listing

  tail_sorted : IsStrictlySortedBy string_cmp (keys_of rest)
  tail_sorted = sorted_tail string_cmp entry.0 (keys_of rest) here.sorted

  module _ (key : List ℕ) (named : key ≡ string_bytes entry.0) where
    module _ (under : is_under prefix key ≡ true) where
      first : filter (selects prefix) (pairs_of (entry ∷ rest)) ≡ entry_pair entry ∷ filter (selects prefix) (pairs_of rest)
      first = ap (λ b. cond b (entry_pair entry ∷ filter (selects prefix) (pairs_of rest)) (filter (selects prefix) (pairs_of rest))) (ap (is_under prefix) (sym named) ∙ under)

      -- the entry was passed over
      pub listing_passed : 0 < left → IsListing prefix all count rest rows (left - 1)
      listing_passed some = record {
        goes =
            ap (λ l. rows ++ take (count - length rows) l)
            (sym (drop_one (entry_pair entry) (filter (selects prefix) (pairs_of rest)) left some) ∙ ap (drop left) (sym first))
            ∙ here.goes;
        sorted = tail_sorted;
        past = here.past.1;
      }

      -- the entry was taken
      pub listing_more : (more : List Pair) (value : List ℕ) → value ≡ entry.1 → left ≡ 0 → length rows < count → more ≡ rows ++ (key, value) ∷ [] → IsListing prefix all count rest more left
      listing_more more value is none room pushed =
          let pair : (key, value) ≡ entry_pair entry = λ i. (named i, is i) in
          let taken : more ≡ rows ++ entry_pair entry ∷ [] = pushed ∙ ap (λ (p : Pair). rows ++ p ∷ []) pair in
          let n : count - length rows ≡ suc (count - length more) = omega (arith, room, ap length taken, length-append rows (entry_pair entry ∷ [])) in
          let others = filter (selects prefix) (pairs_of rest) in
          record {
            goes =
                ap (λ (r : List Pair). r ++ take (count - length more) (drop left others)) taken
                ∙ (append_assoc rows (entry_pair entry ∷ []) (take (count - length more) (drop left others))
                ∙ (ap (λ k. rows ++ entry_pair entry ∷ take (count - length more) (drop k others)) none
                ∙ (sym (ap (λ k. rows ++ take k (entry_pair entry ∷ others)) n)
                ∙ (sym (ap (λ k. rows ++ take (count - length rows) (drop k (entry_pair entry ∷ others))) none)
                ∙ (sym (ap (λ l. rows ++ take (count - length rows) (drop left l)) first) ∙ here.goes)))));
            sorted = tail_sorted;
            past = here.past.1;
          }

    -- from an entry that isn't selected on none is
    pub listing_ended : is_under prefix key ≡ false → rows ≡ all
    listing_ended outside =
        let off : is_under prefix (string_bytes entry.0) ≡ false = ap (is_under prefix) (sym named) ∙ outside in
        let none = ap (λ b. cond b (entry_pair entry ∷ filter (selects prefix) (pairs_of rest)) (filter (selects prefix) (pairs_of rest))) off
        ∙ others_off prefix entry.0 here.past.0 off rest (sorted_head string_cmp entry.0 (keys_of rest) here.sorted) in
        listing_none prefix all count (entry ∷ rest) rows left none here

-- where so many were taken
pub listing_full : {Y : Type 0} (prefix : List ℕ) (all : List Pair) (count : ℕ) (rest : List (String Y × List ℕ)) (rows : List Pair) (left : ℕ) → count ≤ length rows → IsListing prefix all count rest rows left → rows ≡ all
listing_full prefix all count rest rows left full listing =
    let n : count - length rows ≡ 0 = omega (arith, full) in
    sym (append-nil rows) ∙ (sym (ap (λ k. rows ++ take k (drop left (filter (selects prefix) (pairs_of rest)))) n) ∙ listing.goes)
