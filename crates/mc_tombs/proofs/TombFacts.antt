-- Numbered texts, and pairs of numbers.
use Rattle.std.proofs.Common.{◌≡◌, ℕ, ◌+◌, ◌<◌, ◌≤◌, arith, Bool, true, false, not, cond, ◌||◌, ◌&&◌, List, [], ◌∷◌, ◌++◌, length, sym, refl, ap, ◌∙◌, subst, eqb, ◌⊎◌, inl, inr, length-append}
use Rattle.std.specs.Prelude.{nat_eq, if◌then◌else◌}
use Rattle.std.specs.List.{list_any}
use Rattle.std.specs.Str.{bytes_eq}
use Rattle.std.specs.declared.string.String.{String}
use Rattle.std.specs.String.{string_bytes, string_eq}
use Rattle.std.proofs.lemmas.List.Folds.{position_or_len_push}
use Rattle.std.proofs.lemmas.List.Sums.{prefix_len-le-length}
use Rattle.std.proofs.lemmas.Cmp.{nat_list_eq_equiv, nat_eq_equiv}
use Rattle.std.proofs.lemmas.Bool.Decides.{nat_tests}
use Rattle.std.proofs.lemmas.Slice.Eq.{bytes_eq-Decides}
use Rattle.mc_base.proofs.Booleans.{cond_or}
use Rattle.indexmap.specs.IndexSet.{insert_key}
use Rattle.mc_tombs.specs.Tombs.{is_text, number_of, same_pair, has_tomb_in, AreNumbers}

number_at_most : {Y : Type 0} (texts : List (String Y)) (text : List ℕ) → number_of texts text ≤ length texts
number_at_most texts text = prefix_len-le-length (λ other. not (is_text text other)) texts

-- texts with one number, which stands for a text, are equal
pub same_number : {Y : Type 0} (texts : List (String Y)) (t u : List ℕ) → number_of texts t < length texts → number_of texts t ≡ number_of texts u → bytes_eq t u ≡ true
same_number [] t u below e = absurd (omega (arith, below))
same_number (x ∷ texts) t u below e =
    elim (bytes_eq t (string_bytes x)) as (λ b. bytes_eq t (string_bytes x) ≡ b → cond (not b) (1 + number_of texts t) 0 < length (x ∷ texts)
    → cond (not b) (1 + number_of texts t) 0 ≡ cond (not (bytes_eq u (string_bytes x))) (1 + number_of texts u) 0 → bytes_eq t u ≡ true) [
      | true ↦ λ f l n.
          elim (bytes_eq u (string_bytes x)) as (λ b. bytes_eq u (string_bytes x) ≡ b → 0 ≡ cond (not b) (1 + number_of texts u) 0 → bytes_eq t u ≡ true) [
            | true ↦ λ g m. nat_list_eq_equiv.congr t (string_bytes x) u f ∙ nat_list_eq_equiv.symm (string_bytes x) u ∙ g
            | false ↦ λ g m. absurd (omega (arith, m))
          ] refl n
      | false ↦ λ f l n.
          elim (bytes_eq u (string_bytes x)) as (λ b. 1 + number_of texts t ≡ cond (not b) (1 + number_of texts u) 0 → bytes_eq t u ≡ true) [
            | true ↦ λ m. absurd (omega (arith, m))
            | false ↦ λ m. same_number texts t u (omega (arith, l)) (omega (arith, m))
          ] n
    ] refl below e

-- a text is found where its number stands for a text, and else its number is the length
found_below : {Y : Type 0} (texts : List (String Y)) (text : List ℕ) → list_any (is_text text) texts ≡ true → number_of texts text < length texts
found_below [] text e = absurd (let f : false ≡ true = e in cc)
found_below (x ∷ texts) text e =
    elim (bytes_eq text (string_bytes x)) as (λ b. (b || list_any (is_text text) texts) ≡ true → cond (not b) (1 + number_of texts text) 0 < length (x ∷ texts)) [
      | true ↦ λ h. omega arith
      | false ↦ λ h. let below = found_below texts text h in omega (arith, below)
    ] e

none_at_end : {Y : Type 0} (texts : List (String Y)) (text : List ℕ) → list_any (is_text text) texts ≡ false → number_of texts text ≡ length texts
none_at_end [] text e = refl
none_at_end (x ∷ texts) text e =
    elim (bytes_eq text (string_bytes x)) as (λ b. (b || list_any (is_text text) texts) ≡ false → cond (not b) (1 + number_of texts text) 0 ≡ length (x ∷ texts)) [
      | true ↦ λ h. absurd (let f : true ≡ false = h in cc)
      | false ↦ λ h. let at_end = none_at_end texts text h in omega (arith, at_end)
    ] e

-- the numbers after a text is put at the end, unless it is there
module _ {Y : Type 0} (texts : List (String Y)) (name : String Y) where
  abbrev with_name : Bool → List (String Y)
  with_name there = if there then texts else texts ++ name ∷ []

  -- a text keeps its number, or has none that stood for a text before
  abbrev Keeps : List (String Y) → List ℕ → Type 0
  Keeps new other = (number_of new other ≡ number_of texts other) ⊎ ((length texts ≤ number_of texts other) × (length texts ≤ number_of new other))

  keeps_pushed : (other : List ℕ) → Keeps (texts ++ name ∷ []) other
  keeps_pushed other =
      elim (eqb (number_of texts other) (length texts)) as (λ b. eqb (number_of texts other) (length texts) ≡ b
      → number_of (texts ++ name ∷ []) other ≡ cond b (length texts + cond (is_text other name) 0 1) (number_of texts other) → Keeps (texts ++ name ∷ []) other) [
        | true ↦ λ e p. inr (grind (arith, nat_tests, e), omega (arith, p))
        | false ↦ λ e p. inl p
      ] refl (position_or_len_push (is_text other) texts name)

  pub numbers_keep : (other : List ℕ) → Keeps (insert_key string_eq texts name) other
  numbers_keep other = elim (list_any (string_eq name) texts) as (λ b. Keeps (with_name b) other) [ true ↦ inl refl | false ↦ keeps_pushed other ]

  -- the text has its number in the new list
  abbrev Stands : List (String Y) → Type 0
  Stands new = (number_of new (string_bytes name) ≡ number_of texts (string_bytes name)) × (number_of texts (string_bytes name) < length new) × (length texts ≤ length new)

  pub number_stands : Stands (insert_key string_eq texts name)
  number_stands = elim (list_any (string_eq name) texts) as (λ b. list_any (string_eq name) texts ≡ b → Stands (with_name b)) [
    | true ↦ λ e. (refl, found_below texts (string_bytes name) e, omega arith)
    | false ↦ λ e.
        let at_end : number_of texts (string_bytes name) ≡ length texts = none_at_end texts (string_bytes name) e in
        let same : bytes_eq (string_bytes name) (string_bytes name) ≡ true = nat_list_eq_equiv.refl (string_bytes name) in
        let equal : eqb (length texts) (length texts) ≡ true = grind (arith, nat_tests) in
        let longer : length (texts ++ name ∷ []) ≡ length texts + 1 = length-append texts (name ∷ []) in (
          position_or_len_push (is_text (string_bytes name)) texts name
              ∙ ap (λ n. cond (eqb n (length texts)) (length texts + cond (is_text (string_bytes name) name) 0 1) n) at_end
              ∙ ap (λ b. cond b (length texts + cond (is_text (string_bytes name) name) 0 1) (length texts)) equal
              ∙ ap (λ b. length texts + cond b 0 1) same ∙ omega arith ∙ sym at_end,
          omega (arith, at_end, longer),
          omega (arith, longer),
        )
  ] refl

-- a pair of numbers of which one stands for no text is not there
module _ {Y : Type 0} (keys ids : List (String Y)) (pairs : List (ℕ × ℕ)) (numbers : AreNumbers keys ids pairs) where
  no_key : (key id : ℕ) → length keys ≤ key → list_any (same_pair (key, id)) pairs ≡ false
  no_key key id past = elim (list_any (same_pair (key, id)) pairs) as (λ b. list_any (same_pair (key, id)) pairs ≡ b → b ≡ false) [
    | true ↦ λ e. absurd (let below = numbers.key_below key id e in omega (arith, below, past))
    | false ↦ λ e. refl
  ] refl

  no_id : (key id : ℕ) → length ids ≤ id → list_any (same_pair (key, id)) pairs ≡ false
  no_id key id past = elim (list_any (same_pair (key, id)) pairs) as (λ b. list_any (same_pair (key, id)) pairs ≡ b → b ≡ false) [
    | true ↦ λ e. absurd (let below = numbers.id_below key id e in omega (arith, below, past))
    | false ↦ λ e. refl
  ] refl

  -- the old pairs say the same of the new numbers
  pairs_keep : (key_name id_name : String Y) (key id : List ℕ)
      → list_any (same_pair (number_of (insert_key string_eq keys key_name) key, number_of (insert_key string_eq ids id_name) id)) pairs ≡ has_tomb_in keys ids pairs key id
  pairs_keep key_name id_name key id =
      by (numbers_keep keys key_name key) (numbers_keep ids id_name id)
    where
      by : Keeps keys key_name (insert_key string_eq keys key_name) key → Keeps ids id_name (insert_key string_eq ids id_name) id
          → list_any (same_pair (number_of (insert_key string_eq keys key_name) key, number_of (insert_key string_eq ids id_name) id)) pairs ≡ has_tomb_in keys ids pairs key id
      by (inl e) (inl f) = ap (λ n. list_any (same_pair (n, number_of (insert_key string_eq ids id_name) id)) pairs) e ∙ ap (λ n. list_any (same_pair (number_of keys key, n)) pairs) f
      by (inl e) (inr past) = no_id _ _ past.1 ∙ sym (no_id _ _ past.0)
      by (inr past) f = no_key _ _ past.1 ∙ sym (no_key _ _ past.0)

-- a new number is that of the text alone
pub only_number : {Y : Type 0} (texts : List (String Y)) (name : String Y) (other : List ℕ)
    → nat_eq (number_of (insert_key string_eq texts name) other) (number_of texts (string_bytes name)) ≡ bytes_eq (string_bytes name) other
only_number texts name other =
    let stands = number_stands texts name in
    let new = insert_key string_eq texts name in
    elim (bytes_eq (string_bytes name) other) as (λ b. bytes_eq (string_bytes name) other ≡ b → nat_eq (number_of new other) (number_of texts (string_bytes name)) ≡ b) [
      | true ↦ λ e.
          let same : number_of new other ≡ number_of texts (string_bytes name) = ap (number_of new) (sym ((bytes_eq-Decides (string_bytes name) other).0 e)) ∙ stands.0 in
          grind (arith, nat_tests, same)
      | false ↦ λ e. no_number (nat_eq (number_of new other) (number_of texts (string_bytes name))) refl e
    ] refl
  where
    no_number : (b : Bool) → nat_eq (number_of (insert_key string_eq texts name) other) (number_of texts (string_bytes name)) ≡ b → bytes_eq (string_bytes name) other ≡ false
        → nat_eq (number_of (insert_key string_eq texts name) other) (number_of texts (string_bytes name)) ≡ false
    no_number false e f = e
    no_number true e f =
        let equal : number_of (insert_key string_eq texts name) other ≡ number_of texts (string_bytes name) = grind (arith, nat_tests, e) in
        let stands = number_stands texts name in
        absurd (let g : true ≡ false = sym (same_number (insert_key string_eq texts name) (string_bytes name) other (omega (arith, stands.0, stands.1)) (stands.0 ∙ sym equal)) ∙ f in cc)

-- one more tombstone
module _ {Y : Type 0} (keys ids : List (String Y)) (pairs new : List (ℕ × ℕ)) (key_name id_name : String Y) (numbers : AreNumbers keys ids pairs)
    (updates : (pair : ℕ × ℕ) → list_any (same_pair pair) new ≡ cond (same_pair (number_of keys (string_bytes key_name), number_of ids (string_bytes id_name)) pair) true (list_any (same_pair pair) pairs)) where
  abbrev new_keys : List (String Y)
  new_keys = insert_key string_eq keys key_name

  abbrev new_ids : List (String Y)
  new_ids = insert_key string_eq ids id_name

  nat_eq-symm : (a b : ℕ) → nat_eq a b ≡ nat_eq b a
  nat_eq-symm a b = nat_eq_equiv.symm a b

  pub tomb_put : (key id : List ℕ) → has_tomb_in new_keys new_ids new key id ≡ ((bytes_eq (string_bytes key_name) key && bytes_eq (string_bytes id_name) id) || has_tomb_in keys ids pairs key id)
  tomb_put key id =
      updates (number_of new_keys key, number_of new_ids id)
      ∙ cond_or (same_pair (number_of keys (string_bytes key_name), number_of ids (string_bytes id_name)) (number_of new_keys key, number_of new_ids id)) (list_any (same_pair (number_of new_keys key, number_of new_ids id)) pairs)
      ∙ ap (λ t. t || list_any (same_pair (number_of new_keys key, number_of new_ids id)) pairs)
      (ap (λ t. t && nat_eq (number_of ids (string_bytes id_name)) (number_of new_ids id)) (nat_eq-symm (number_of keys (string_bytes key_name)) (number_of new_keys key) ∙ only_number keys key_name key)
      ∙ ap (λ t. bytes_eq (string_bytes key_name) key && t) (nat_eq-symm (number_of ids (string_bytes id_name)) (number_of new_ids id) ∙ only_number ids id_name id))
      ∙ ap (λ t. (bytes_eq (string_bytes key_name) key && bytes_eq (string_bytes id_name) id) || t) (pairs_keep keys ids pairs numbers key_name id_name key id)

  is_number : (a b x y : ℕ) → (nat_eq a x && nat_eq b y) ≡ true → (a ≡ x) × (b ≡ y)
  is_number a b x y e = (grind (arith, nat_tests, e), grind (arith, nat_tests, e))

  -- the numbers of the new pairs stand for texts
  pub still_numbers : AreNumbers new_keys new_ids new
  still_numbers = record {
    key_below = λ key id e. key_by (same_pair (number_of keys (string_bytes key_name), number_of ids (string_bytes id_name)) (key, id)) key id refl (sym (updates (key, id)) ∙ e);
    id_below = λ key id e. id_by (same_pair (number_of keys (string_bytes key_name), number_of ids (string_bytes id_name)) (key, id)) key id refl (sym (updates (key, id)) ∙ e);
  }
    where
      key_by : (b : Bool) → (key id : ℕ) → same_pair (number_of keys (string_bytes key_name), number_of ids (string_bytes id_name)) (key, id) ≡ b
          → cond (same_pair (number_of keys (string_bytes key_name), number_of ids (string_bytes id_name)) (key, id)) true (list_any (same_pair (key, id)) pairs) ≡ true → key < length new_keys
      key_by true key id f e = let stands = number_stands keys key_name in let is = is_number _ _ key id f in omega (arith, stands.1, is.0)
      key_by false key id f e = let stands = number_stands keys key_name in let below = numbers.key_below key id (sym (ap (λ t. cond t true (list_any (same_pair (key, id)) pairs)) f) ∙ e) in omega (arith, below, stands.2)

      id_by : (b : Bool) → (key id : ℕ) → same_pair (number_of keys (string_bytes key_name), number_of ids (string_bytes id_name)) (key, id) ≡ b
          → cond (same_pair (number_of keys (string_bytes key_name), number_of ids (string_bytes id_name)) (key, id)) true (list_any (same_pair (key, id)) pairs) ≡ true → id < length new_ids
      id_by true key id f e = let stands = number_stands ids id_name in let is = is_number _ _ key id f in omega (arith, stands.1, is.1)
      id_by false key id f e = let stands = number_stands ids id_name in let below = numbers.id_below key id (sym (ap (λ t. cond t true (list_any (same_pair (key, id)) pairs)) f) ∙ e) in omega (arith, below, stands.2)

-- the table after one more tombstone
pub record IsPut {Y : Type 0} (keys ids keys' ids' : List (String Y)) (pairs new : List (ℕ × ℕ)) (key_text id_text : List ℕ) : Type 0 where
  pub numbers : AreNumbers keys' ids' new
  pub tombs : (key id : List ℕ) → has_tomb_in keys' ids' new key id ≡ ((bytes_eq key_text key && bytes_eq id_text id) || has_tomb_in keys ids pairs key id)

pub tomb_put_at : {Y : Type 0} (keys ids keys' ids' : List (String Y)) (pairs new : List (ℕ × ℕ)) (key_text id_text : List ℕ) (a b : ℕ)
    → (key : (name : String Y) × (string_bytes name ≡ key_text) × (keys' ≡ insert_key string_eq keys name)) → a ≡ number_of keys key_text
    → (id : (name : String Y) × (string_bytes name ≡ id_text) × (ids' ≡ insert_key string_eq ids name)) → b ≡ number_of ids id_text
    → AreNumbers keys ids pairs
    → ((pair : ℕ × ℕ) → list_any (same_pair pair) new ≡ cond (same_pair (a, b) pair) true (list_any (same_pair pair) pairs))
    → IsPut keys ids keys' ids' pairs new key_text id_text
tomb_put_at keys ids keys' ids' pairs new key_text id_text a b key at_key id at_id numbers updates =
    let first : a ≡ number_of keys (string_bytes key.0) = at_key ∙ ap (number_of keys) (sym key.1) in
    let second : b ≡ number_of ids (string_bytes id.0) = at_id ∙ ap (number_of ids) (sym id.1) in
    let updates' : (pair : ℕ × ℕ) → list_any (same_pair pair) new ≡ cond (same_pair (number_of keys (string_bytes key.0), number_of ids (string_bytes id.0)) pair) true (list_any (same_pair pair) pairs)
    = λ pair. updates pair ∙ ap (λ n. cond (same_pair (n, b) pair) true (list_any (same_pair pair) pairs)) first ∙ ap (λ n. cond (same_pair (number_of keys (string_bytes key.0), n) pair) true (list_any (same_pair pair) pairs)) second in
    subst (λ z. IsPut keys ids z ids' pairs new key_text id_text) (sym key.2)
    (subst (λ z. IsPut keys ids (insert_key string_eq keys key.0) z pairs new key_text id_text) (sym id.2)
    (subst (λ z. IsPut keys ids (insert_key string_eq keys key.0) (insert_key string_eq ids id.0) pairs new z id_text) key.1
    (subst (λ z. IsPut keys ids (insert_key string_eq keys key.0) (insert_key string_eq ids id.0) pairs new (string_bytes key.0) z) id.1
    (record {
      numbers = still_numbers keys ids pairs new key.0 id.0 numbers updates';
      tombs = tomb_put keys ids pairs new key.0 id.0 numbers updates';
    }))))

-- the same numbers and pairs are the same tombstones
pub same_numbers : {Y : Type 0} (keys ids keys' ids' : List (String Y)) (pairs new : List (ℕ × ℕ)) → keys' ≡ keys → ids' ≡ ids
    → ((pair : ℕ × ℕ) → list_any (same_pair pair) new ≡ list_any (same_pair pair) pairs) → AreNumbers keys ids pairs → AreNumbers keys' ids' new
same_numbers keys ids keys' ids' pairs new e f same numbers = record {
  key_below = λ key id has. subst (λ z. key < length z) (sym e) (numbers.key_below key id (sym (same (key, id)) ∙ has));
  id_below = λ key id has. subst (λ z. id < length z) (sym f) (numbers.id_below key id (sym (same (key, id)) ∙ has));
}

pub same_tombs : {Y : Type 0} (keys ids keys' ids' : List (String Y)) (pairs new : List (ℕ × ℕ)) → keys' ≡ keys → ids' ≡ ids
    → ((pair : ℕ × ℕ) → list_any (same_pair pair) new ≡ list_any (same_pair pair) pairs) → (key id : List ℕ) → has_tomb_in keys' ids' new key id ≡ has_tomb_in keys ids pairs key id
same_tombs keys ids keys' ids' pairs new e f same key id =
    same (number_of keys' key, number_of ids' id)
    ∙ ap (λ z. list_any (same_pair (number_of z key, number_of ids' id)) pairs) e ∙ ap (λ z. list_any (same_pair (number_of keys key, number_of z id)) pairs) f

pub nothing_in : {A : Type 0} (xs : List A) → length xs ≡ 0 → xs ≡ []
nothing_in [] e = refl
nothing_in (x ∷ xs) e = absurd (omega (arith, e))
