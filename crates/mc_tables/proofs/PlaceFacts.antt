-- What a change of one key does to the places of the rows.
use Rattle.std.proofs.Common.{◌≡◌, ℕ, zero, suc, ◌+◌, arith, Bool, true, false, not, cond, ◌&&◌, List, [], ◌∷◌, Option, Some, None, refl, sym, ap, subst, ◌∙◌}
use Rattle.std.specs.Prelude.{is_some, slice_get, if◌then◌else◌}
use Rattle.std.specs.HashMap.{HashMap, get, get_by_text, get_key_by, values, IsUnique}
use Rattle.std.specs.List.{position_or_len}
use Rattle.std.specs.Map.{keys_of, values_of, lookup_key}
use Rattle.std.specs.Option.{option_map, option_and_then}
use Rattle.std.specs.Str.{bytes_eq}
use Rattle.std.specs.String.{string_bytes, string_eq, string_eq_equiv}
use Rattle.std.specs.declared.string.String.{String}
use Rattle.std.proofs.lemmas.Cmp.{nat_list_eq_equiv}
use Rattle.std.proofs.lemmas.Map.Entries.{hash_map_get_place}
use Rattle.std.proofs.lemmas.Map.Text.{hash_map_updates_text}
use Rattle.std.proofs.lemmas.Option.{slice_get-map}
use Rattle.std.proofs.lemmas.Slice.Eq.{bytes_eq-Decides}
use Rattle.indexmap.specs.IndexMap.{insert_entry, with_value_at}
use Rattle.indexmap.proofs.CallerLemmas.{updates-with_value_at}
use Rattle.mc_tables.specs.declared.places.Places.{Places}
use Rattle.mc_tables.specs.Places.{last_in, value_in, texts_in, is_named, stands_at, has_value_at, KeepsTexts}
use Rattle.mc_tombs.specs.Tombs.{is_text}

abbrev last : Option Places → Option ℕ
last found = option_map (λ (p : Places). p.last) found

abbrev value : Option Places → Option ℕ
value found = option_and_then (λ (p : Places). p.value) found

-- where the places of a key are set
module _ {Y S : Type 0} (old new : HashMap (String Y) Places S) (key : List ℕ) (places : Places)
    (updates : (other : List ℕ) → get_by_text new other ≡ cond (bytes_eq key other) (Some places) (get_by_text old other)) where
  pub lasts_after : (other : List ℕ) → last_in new other ≡ cond (bytes_eq key other) (Some places.last) (last_in old other)
  lasts_after other = ap last (updates other) ∙ by (bytes_eq key other)
    where
      by : (b : Bool) → last (cond b (Some places) (get_by_text old other)) ≡ cond b (Some places.last) (last_in old other)
      by true = refl
      by false = refl

  pub values_after : (other : List ℕ) → value_in new other ≡ cond (bytes_eq key other) places.value (value_in old other)
  values_after other = ap value (updates other) ∙ by (bytes_eq key other)
    where
      by : (b : Bool) → value (cond b (Some places) (get_by_text old other)) ≡ cond b places.value (value_in old other)
      by true = refl
      by false = refl

  pub same_lasts : Some places.last ≡ last_in old key → (other : List ℕ) → last_in new other ≡ last_in old other
  same_lasts same other = lasts_after other ∙ by (bytes_eq key other) refl
    where
      by : (b : Bool) → bytes_eq key other ≡ b → cond b (Some places.last) (last_in old other) ≡ last_in old other
      by true e = same ∙ ap (last_in old) ((bytes_eq-Decides key other).0 e)
      by false e = refl

  pub same_values : places.value ≡ value_in old key → (other : List ℕ) → value_in new other ≡ value_in old other
  same_values same other = values_after other ∙ by (bytes_eq key other) refl
    where
      by : (b : Bool) → bytes_eq key other ≡ b → cond b places.value (value_in old other) ≡ value_in old other
      by true e = same ∙ ap (value_in old) ((bytes_eq-Decides key other).0 e)
      by false e = refl

-- where a key gets the value that it had, all values are the old ones
pub value_back : (old new : List ℕ → Option ℕ) (key : List ℕ) (value : Option ℕ) → value ≡ old key → ((other : List ℕ) → new other ≡ cond (bytes_eq key other) value (old other)) → (other : List ℕ) → new other ≡ old other
value_back old new key value same set other = set other ∙ by (bytes_eq key other) refl
  where
    by : (b : Bool) → bytes_eq key other ≡ b → cond b value (old other) ≡ old other
    by true e = same ∙ ap old ((bytes_eq-Decides key other).0 e)
    by false e = refl

-- the last value of a key that is set counts
pub value_again : (old mid new : List ℕ → Option ℕ) (key : List ℕ) (first value : Option ℕ) → ((other : List ℕ) → mid other ≡ cond (bytes_eq key other) first (old other))
    → ((other : List ℕ) → new other ≡ cond (bytes_eq key other) value (mid other)) → (other : List ℕ) → new other ≡ cond (bytes_eq key other) value (old other)
value_again old mid new key first value before set other = set other ∙ ap (cond (bytes_eq key other) value) (before other) ∙ by (bytes_eq key other)
  where
    by : (b : Bool) → cond b value (cond b first (old other)) ≡ cond b value (old other)
    by true = refl
    by false = refl

-- a new key stands at its place, and the others keep theirs
pub insert_keeps : {Y : Type 0} (entries : List (String Y × Places)) (key : String Y) (places : Places) → KeepsTexts (keys_of entries) (keys_of (insert_entry string_eq entries key places))
insert_keeps [] key places place text got = absurd (let f : None ≡ Some text = got in cc)
insert_keeps (e ∷ entries) key places zero text got =
    elim (string_eq key e.0) as (λ b. slice_get (keys_of (if b then (e.0, places) ∷ entries else e ∷ insert_entry string_eq entries key places)) zero ≡ Some text) [ true ↦ got | false ↦ got ]
insert_keeps (e ∷ entries) key places (suc place) text got =
    elim (string_eq key e.0) as (λ b. slice_get (keys_of (if b then (e.0, places) ∷ entries else e ∷ insert_entry string_eq entries key places)) (suc place) ≡ Some text) [
      | true ↦ got
      | false ↦ insert_keeps entries key places place text got
    ]

pub insert_stands : {Y : Type 0} (entries : List (String Y × Places)) (key : String Y) (places : Places)
    → stands_at (keys_of (insert_entry string_eq entries key places)) (string_bytes key) (position_or_len (string_eq key) (keys_of entries)) ≡ true
insert_stands [] key places = nat_list_eq_equiv.refl (string_bytes key)
insert_stands (e ∷ entries) key places =
    let next : suc (position_or_len (string_eq key) (keys_of entries)) ≡ 1 + position_or_len (string_eq key) (keys_of entries) = omega arith in
    elim (string_eq key e.0) as (λ b. string_eq key e.0 ≡ b → stands_at (keys_of (if b then (e.0, places) ∷ entries else e ∷ insert_entry string_eq entries key places)) (string_bytes key)
    (cond (not b) (1 + position_or_len (string_eq key) (keys_of entries)) 0) ≡ true) [
      | true ↦ λ same. same
      | false ↦ λ other. subst (λ (n : ℕ). stands_at (keys_of (e ∷ insert_entry string_eq entries key places)) (string_bytes key) n ≡ true) next (insert_stands entries key places)
    ] refl

entry_there : {K X : Type 0} (entries : List (K × X)) (number : ℕ) (x : X) → slice_get (values_of entries) number ≡ Some x → (key : K) × (slice_get entries number ≡ Some (key, x))
entry_there [] number x got = absurd (let f : None ≡ Some x = got in cc)
entry_there (e ∷ entries) zero x got = (e.0, ap (λ z. Some (e.0, z)) (let same : e.1 ≡ x = cc (got) in same))
entry_there (e ∷ entries) (suc number) x got = entry_there entries number x got

-- where the places of the key at a place are set
module _ {Y S : Type 0} (keys : HashMap (String Y) Places S) (number : ℕ) (old new : Places) (unique : IsUnique string_eq keys) (found : slice_get (values keys) number ≡ Some old) where
  there : (key : String Y) × (slice_get keys.entries number ≡ Some (key, old))
  there = entry_there keys.entries number old found

  updates : (other : List ℕ) → get_by_text (with_value_at keys number new) other ≡ cond (bytes_eq (string_bytes there.0) other) (Some new) (get_by_text keys other)
  updates = hash_map_updates_text (string_bytes there.0) keys (with_value_at keys number new) (Some new) (updates-with_value_at keys number new string_eq_equiv unique there.0 old there.1)

  had : get_by_text keys (string_bytes there.0) ≡ Some old
  had = hash_map_get_place string_eq_equiv keys number there.0 old unique there.1

  key_is : (key : List ℕ) → stands_at (texts_in keys) key number ≡ true → key ≡ string_bytes there.0
  key_is key named =
      (bytes_eq-Decides key (string_bytes there.0)).0
      (sym (ap (is_named key) (slice_get-map (λ (e : String Y × Places). e.0) keys.entries number ∙ ap (option_map (λ (e : String Y × Places). e.0)) there.1)) ∙ named)

  pub lasts_kept : new.last ≡ old.last → (other : List ℕ) → last_in (with_value_at keys number new) other ≡ last_in keys other
  lasts_kept same = same_lasts keys (with_value_at keys number new) (string_bytes there.0) new updates (ap (λ (z : ℕ). Some z) same ∙ sym (ap last had))

  pub value_placed : (key : List ℕ) → stands_at (texts_in keys) key number ≡ true → (other : List ℕ) → value_in (with_value_at keys number new) other ≡ cond (bytes_eq key other) new.value (value_in keys other)
  value_placed key named other =
      values_after keys (with_value_at keys number new) (string_bytes there.0) new updates other
      ∙ ap (λ z. cond (bytes_eq z other) new.value (value_in keys other)) (sym (key_is key named))

  pub value_was : (key : List ℕ) → stands_at (texts_in keys) key number ≡ true → value_in keys key ≡ old.value
  value_was key named = ap (value_in keys) (key_is key named) ∙ ap value had

-- no key stands where there is no entry
pub none_stands : {Y S : Type 0} (keys : HashMap (String Y) Places S) (number : ℕ) (key : List ℕ) → slice_get keys.entries number ≡ None → stands_at (texts_in keys) key number ≡ false
none_stands {Y = Y} keys number key none =
    ap (is_named key) (slice_get-map (λ (e : String Y × Places). e.0) keys.entries number ∙ ap (option_map (λ (e : String Y × Places). e.0)) none)

pub no_key : {Y S : Type 0} (keys : HashMap (String Y) Places S) (number : ℕ) (key : List ℕ) → slice_get (values keys) number ≡ None → stands_at (texts_in keys) key number ≡ true → ⊥
no_key {Y = Y} keys number key none named = by (slice_get keys.entries number) refl (sym (slice_get-map (λ (e : String Y × Places). e.1) keys.entries number) ∙ none)
  where
    by : (entry : Option (String Y × Places)) → slice_get keys.entries number ≡ entry → option_map (λ (e : String Y × Places). e.1) entry ≡ None → ⊥
    by None is e = let f : false ≡ true = sym (none_stands keys number key is) ∙ named in cc
    by (Some entry) is e = let f : Some entry.1 ≡ None = e in cc

-- what the key at a place is
pub stands_as : {Y S : Type 0} (keys : HashMap (String Y) Places S) (number : ℕ) (text : String Y) (places : Places) (key : List ℕ) → slice_get keys.entries number ≡ Some (text, places)
    → stands_at (texts_in keys) key number ≡ bytes_eq key (string_bytes text)
stands_as {Y = Y} keys number text places key got =
    ap (is_named key) (slice_get-map (λ (e : String Y × Places). e.0) keys.entries number ∙ ap (option_map (λ (e : String Y × Places). e.0)) got)

-- whether the key at a place is this one, and has a value
pub has_value_as : {Y S : Type 0} (keys : HashMap (String Y) Places S) (number : ℕ) (text : String Y) (places : Places) (key : List ℕ) → slice_get keys.entries number ≡ Some (text, places)
    → get string_eq keys text ≡ Some places → (b : Bool) → is_some places.value ≡ b → has_value_at keys key number ≡ (bytes_eq key (string_bytes text) && b)
has_value_as keys number text places key got found b has =
    ap (λ t. t && is_some (value_in keys key)) (stands_as keys number text places key got) ∙ by (bytes_eq key (string_bytes text)) refl
  where
    by : (t : Bool) → bytes_eq key (string_bytes text) ≡ t → (t && is_some (value_in keys key)) ≡ (t && b)
    by true e = ap (λ z. is_some (value_in keys z)) ((bytes_eq-Decides key (string_bytes text)).0 e) ∙ ap (λ p. is_some (value p)) found ∙ has
    by false e = refl

-- a key that is found stands at its place
pub found_stands_at : {Y S : Type 0} (keys : HashMap (String Y) Places S) (number : ℕ) (text : String Y) (places : Places) (key : List ℕ) → slice_get keys.entries number ≡ Some (text, places)
    → Some text ≡ get_key_by (is_text key) keys → stands_at (texts_in keys) key number ≡ true
found_stands_at {Y = Y} keys number text places key got found = stands_as keys number text places key got ∙ passes keys.entries found
  where
    passes : (entries : List (String Y × Places)) → Some text ≡ lookup_key (is_text key) entries → bytes_eq key (string_bytes text) ≡ true
    passes [] e = absurd (let f : Some text ≡ None = e in cc)
    passes (entry ∷ entries) e =
        elim (is_text key entry.0) as (λ b. is_text key entry.0 ≡ b → Some text ≡ cond b (Some entry.0) (lookup_key (is_text key) entries) → bytes_eq key (string_bytes text) ≡ true) [
          | true ↦ λ same is. let text_is : text ≡ entry.0 = cc (is) in ap (λ z. bytes_eq key (string_bytes z)) text_is ∙ same
          | false ↦ λ same is. passes entries is
        ] refl e
