-- What a change of one key does to the pairs of a map.
use Rattle.std.proofs.Common.{◌≡◌, ℕ, Bool, true, false, not, cond, List, [], ◌∷◌, Option, Some, None, refl, ap, sym, ◌∙◌}
use Rattle.std.specs.Prelude.{filter}
use Rattle.std.specs.List.{AllByRecursion}
use Rattle.std.specs.List.Sorted.{IsStrictlySortedBy}
use Rattle.std.specs.Ordering.{nat_cmp, is_eq, match_ordering}
use Rattle.std.specs.declared.cmp.Ordering.TheVariants.{Less, Equal, Greater}
use Rattle.std.specs.Cmp.Lexicographic.{slice_cmp}
use Rattle.std.specs.Str.{bytes_eq}
use Rattle.std.specs.String.{string_bytes, string_cmp}
use Rattle.std.specs.declared.string.String.{String}
use Rattle.std.specs.Map.{lookup, remove_entry, keys_of}
use Rattle.std.specs.BTreeMap.{insert_entry, is_at}
use Rattle.std.proofs.lemmas.Bool.{false≢true}
use Rattle.std.proofs.lemmas.Map.Lookups.{exact_bytes}
use Rattle.std.proofs.lemmas.Map.Text.{is_eq-slice_cmp}
use Rattle.std.proofs.lemmas.Map.Keys.{sorted_head, sorted_tail}
use lib.Pointwise.{bytes_decides}
use Rattle.mc_face.specs.Pairs.{Pair, entry_pair, pairs_of, value_at, changed_to}

-- ---- texts

pub same_text : (xs ys : List ℕ) → bytes_eq xs ys ≡ true → xs ≡ ys
same_text xs ys e = (bytes_decides xs ys).0 e

pub text_itself : (xs : List ℕ) → bytes_eq xs xs ≡ true
text_itself xs = (bytes_decides xs xs).1 refl

pub turned_text : (xs ys : List ℕ) → bytes_eq xs ys ≡ bytes_eq ys xs
turned_text xs ys = by (bytes_eq xs ys) (bytes_eq ys xs) refl refl
  where
    by : (a b : Bool) → bytes_eq xs ys ≡ a → bytes_eq ys xs ≡ b → a ≡ b
    by true true e f = refl
    by false false e f = refl
    by true false e f = sym ((bytes_decides ys xs).1 (sym (same_text xs ys e))) ∙ f
    by false true e f = sym e ∙ (bytes_decides xs ys).1 (sym (same_text ys xs f))

-- ---- the map's entries and their pairs

pub pairs_insert : {Y : Type 0} (key : String Y) (value : List ℕ) (entries : List (String Y × List ℕ))
    → pairs_of (insert_entry string_cmp entries key value) ≡ insert_entry (slice_cmp nat_cmp) (pairs_of entries) (string_bytes key) value
pairs_insert key value [] = refl
pairs_insert {Y = Y} key value (entry ∷ entries) = (elim (string_cmp key entry.0) as (λ o.
    pairs_of {Y = Y} (match_ordering o ((key, value) ∷ entry ∷ entries) ((entry.0, value) ∷ entries) (entry ∷ insert_entry string_cmp entries key value))
    ≡ match_ordering o ((string_bytes key, value) ∷ entry_pair entry ∷ pairs_of entries) ((string_bytes entry.0, value) ∷ pairs_of entries)
    (entry_pair entry ∷ insert_entry (slice_cmp nat_cmp) (pairs_of entries) (string_bytes key) value)) [
      | Less ↦ refl
      | Equal ↦ refl
      | Greater ↦ ap (λ rest. entry_pair entry ∷ rest) (pairs_insert key value entries)
    ])

abbrev not_at : List ℕ → Pair → Bool
not_at key pair = not (bytes_eq key pair.0)

module _ {Y : Type 0} (key : List ℕ) where
  abbrev finds : String Y → Bool
  finds = is_at (λ k. slice_cmp nat_cmp key (string_bytes k))

  -- keys above this one stay
  all_stay : (text : String Y) (entries : List (String Y × List ℕ)) → key ≡ string_bytes text → AllByRecursion (λ k. string_cmp text k ≡ Less) (keys_of entries)
      → filter (not_at key) (pairs_of entries) ≡ pairs_of entries
  all_stay text [] is above = refl
  all_stay text (entry ∷ entries) is above =
      let apart : bytes_eq key (string_bytes entry.0) ≡ false =
      ap (λ k. bytes_eq k (string_bytes entry.0)) is ∙ (sym (is_eq-slice_cmp (string_bytes text) (string_bytes entry.0)) ∙ ap is_eq above.0) in
      ap (λ b. cond (not b) (entry_pair entry ∷ filter (not_at key) (pairs_of entries)) (filter (not_at key) (pairs_of entries))) apart
      ∙ ap (λ rest. entry_pair entry ∷ rest) (all_stay text entries is above.1)

  pub pairs_remove : (entries : List (String Y × List ℕ)) → IsStrictlySortedBy string_cmp (keys_of entries)
      → pairs_of (remove_entry finds entries) ≡ filter (not_at key) (pairs_of entries)
  pairs_remove [] sorted = refl
  pairs_remove (entry ∷ entries) sorted = by (bytes_eq key (string_bytes entry.0)) refl (pairs_remove entries (sorted_tail string_cmp entry.0 (keys_of entries) sorted))
    where
      by : (b : Bool) → bytes_eq key (string_bytes entry.0) ≡ b → pairs_of (remove_entry finds entries) ≡ filter (not_at key) (pairs_of entries)
          → pairs_of (remove_entry finds (entry ∷ entries)) ≡ filter (not_at key) (pairs_of (entry ∷ entries))
      by true e rest =
          ap (λ b. pairs_of {Y = Y} (cond b entries (entry ∷ remove_entry finds entries))) (is_eq-slice_cmp key (string_bytes entry.0) ∙ e)
          ∙ (sym (all_stay entry.0 entries (same_text key (string_bytes entry.0) e) (sorted_head string_cmp entry.0 (keys_of entries) sorted))
          ∙ sym (ap (λ b. cond (not b) (entry_pair entry ∷ filter (not_at key) (pairs_of entries)) (filter (not_at key) (pairs_of entries))) e))
      by false e rest =
          ap (λ b. pairs_of {Y = Y} (cond b entries (entry ∷ remove_entry finds entries))) (is_eq-slice_cmp key (string_bytes entry.0) ∙ e)
          ∙ (ap (λ tail. entry_pair entry ∷ tail) rest
          ∙ sym (ap (λ b. cond (not b) (entry_pair entry ∷ filter (not_at key) (pairs_of entries)) (filter (not_at key) (pairs_of entries))) e))

-- ---- look-ups

value_insert : (key value other : List ℕ) (pairs : List Pair)
    → value_at (insert_entry (slice_cmp nat_cmp) pairs key value) other ≡ cond (bytes_eq key other) (Some value) (value_at pairs other)
value_insert key value other [] = ap (λ b. cond b (Some value) None) (turned_text other key)
value_insert key value other (pair ∷ pairs) = (elim (slice_cmp nat_cmp key pair.0) as (λ o. slice_cmp nat_cmp key pair.0 ≡ o →
    value_at (match_ordering o ((key, value) ∷ pair ∷ pairs) ((pair.0, value) ∷ pairs) (pair ∷ insert_entry (slice_cmp nat_cmp) pairs key value)) other
    ≡ cond (bytes_eq key other) (Some value) (value_at (pair ∷ pairs) other)) [
      | Less ↦ λ e. ap (λ b. cond b (Some value) (value_at (pair ∷ pairs) other)) (turned_text other key)
      | Equal ↦ λ e.
          let is : key ≡ pair.0 = exact_bytes key pair.0 e in
          twice (bytes_eq other pair.0) (bytes_eq key other) (turned_text other pair.0 ∙ ap (λ k. bytes_eq k other) (sym is)) (value_at pairs other)
      | Greater ↦ λ e.
          let apart : bytes_eq key pair.0 ≡ false = sym (is_eq-slice_cmp key pair.0) ∙ ap is_eq e in
          ap (λ rest. cond (bytes_eq other pair.0) (Some pair.1) rest) (value_insert key value other pairs)
          ∙ past (bytes_eq other pair.0) (bytes_eq key other) (λ at here. sym (ap (λ k. bytes_eq key k) (same_text other pair.0 at)) ∙ here) apart (value_at pairs other)
    ]) refl
  where
    twice : (a b : Bool) → a ≡ b → (rest : Option (List ℕ)) → cond a (Some value) rest ≡ cond b (Some value) (cond a (Some pair.1) rest)
    twice true true e rest = refl
    twice false false e rest = refl
    twice true false e rest = absurd (false≢true (sym e))
    twice false true e rest = absurd (false≢true e)

    past : (a b : Bool) → (a ≡ true → b ≡ true → bytes_eq key pair.0 ≡ true) → bytes_eq key pair.0 ≡ false → (rest : Option (List ℕ))
        → cond a (Some pair.1) (cond b (Some value) rest) ≡ cond b (Some value) (cond a (Some pair.1) rest)
    past true true h apart rest = absurd (false≢true (sym apart ∙ h refl refl))
    past true false h apart rest = refl
    past false b h apart rest = refl

value_filter : (key other : List ℕ) (pairs : List Pair) → value_at (filter (not_at key) pairs) other ≡ cond (bytes_eq key other) None (value_at pairs other)
value_filter key other [] = nothing (bytes_eq key other)
  where
    nothing : (b : Bool) → ◌≡◌ {A = Option (List ℕ)} None (cond b None None)
    nothing true = refl
    nothing false = refl
value_filter key other (pair ∷ pairs) = by (bytes_eq key pair.0) (bytes_eq other pair.0) (bytes_eq key other) refl refl refl (value_filter key other pairs)
  where
    by : (a b c : Bool) → bytes_eq key pair.0 ≡ a → bytes_eq other pair.0 ≡ b → bytes_eq key other ≡ c
        → value_at (filter (not_at key) pairs) other ≡ cond (bytes_eq key other) None (value_at pairs other)
        → value_at (filter (not_at key) (pair ∷ pairs)) other ≡ cond (bytes_eq key other) None (value_at (pair ∷ pairs) other)
    by true b true ea eb ec rest = rw (ea, ec) (rest ∙ ap (λ d. cond d None (value_at pairs other)) ec)
    by true true false ea eb ec rest = absurd (false≢true (sym ec ∙ (ap (bytes_eq key) (same_text other pair.0 eb) ∙ ea)))
    by true false false ea eb ec rest = rw (ea, eb, ec) (rest ∙ ap (λ d. cond d None (value_at pairs other)) ec)
    by false true true ea eb ec rest = absurd (false≢true (sym ea ∙ (sym (ap (bytes_eq key) (same_text other pair.0 eb)) ∙ ec)))
    by false true false ea eb ec rest = rw (ea, eb, ec) refl
    by false false true ea eb ec rest = rw (ea, eb, ec) (rest ∙ ap (λ d. cond d None (value_at pairs other)) ec)
    by false false false ea eb ec rest = rw (ea, eb, ec) (rest ∙ ap (λ d. cond d None (value_at pairs other)) ec)

-- the values once a key is changed
pub value_changed : (key : List ℕ) (value : Option (List ℕ)) (other : List ℕ) (pairs : List Pair)
    → value_at (changed_to pairs key value) other ≡ cond (bytes_eq key other) value (value_at pairs other)
value_changed key (Some value) other pairs = value_insert key value other pairs
value_changed key None other pairs = value_filter key other pairs

-- a look-up in the map is one among its pairs
pub value_found : {Y : Type 0} (key : List ℕ) (entries : List (String Y × List ℕ)) → lookup (is_at (λ (k : String Y). slice_cmp nat_cmp key (string_bytes k))) entries ≡ value_at (pairs_of entries) key
value_found key [] = refl
value_found key (entry ∷ entries) =
    ap (λ b. cond b (Some entry.1) (lookup (is_at (λ k. slice_cmp nat_cmp key (string_bytes k))) entries)) (is_eq-slice_cmp key (string_bytes entry.0))
    ∙ ap (λ rest. cond (bytes_eq key (string_bytes entry.0)) (Some entry.1) rest) (value_found key entries)
