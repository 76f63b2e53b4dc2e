-- The order of the processed blocks among the stored ones, and the positions that are noted for them.
use Rattle.std.proofs.Common.{◌≡◌, ℕ, zero, suc, ◌+◌, ◌<◌, ◌≤◌, arith, Bool, true, false, not, cond, ◌||◌, inl, inr, List, [], ◌∷◌, ◌++◌, map, length, Option, Some, None, sym, refl, ap, ◌∙◌, subst, length-append, get_or}
use Rattle.std.specs.Prelude.{is_some, nat_eq, nat_lt, slice_get, unwrap_or, if◌then◌else◌}
use Rattle.std.specs.HashMap.{HashMap, get, keys}
use Rattle.std.specs.List.{list_all, list_any, position, position_or_len}
use Rattle.std.specs.Cmp.{IsEquivalence}
use Rattle.std.specs.Option.{option_map, option_and_then}
use Rattle.std.proofs.lemmas.Bool.{and_from, and_parts, cases_lt}
use Rattle.std.proofs.lemmas.Bool.Decides.{nat_tests}
use Rattle.std.proofs.lemmas.List.{length-map}
use Rattle.std.proofs.lemmas.List.Folds.{position_or_len_push}
use Rattle.std.proofs.lemmas.List.Quantifiers.{position-Some}
use Rattle.std.proofs.lemmas.Option.{slice_get_within, slice_get-get_or, slice_get-map}
use Rattle.indexmap.specs.IndexMap.{set_value_at}
use Rattle.indexmap.specs.IndexSet.{insert_key}
use Rattle.mc_base.specs.declared.cid.Cid.{Cid}
use Rattle.mc_model.specs.Front.{same_cid}
use Rattle.mc_model.proofs.Counts.{cid_is, cid_itself, same_cid-symm}
use Rattle.mc_graph.specs.declared.graph.BlockRow.{BlockRow}
use Rattle.mc_graph.specs.Graph.{cid_in, no_cid, order_of, stored_of, position_in, IsOrdered}
use Rattle.mc_graph.proofs.GraphFacts.{map-push}
use Rattle.mc_graph.proofs.Within.{get_push, is_below}

-- positions

abbrev at_most : ℕ → ℕ → Option ℕ
at_most place len = cond (nat_lt place len) (Some place) None

pub no_later : {X : Type 0} (test : X → Bool) (xs : List X) → position_or_len test xs ≤ length xs
no_later test [] = omega arith
no_later test (x ∷ xs) = by (test x) refl (no_later test xs)
  where
    by : (b : Bool) → test x ≡ b → position_or_len test xs ≤ length xs → position_or_len test (x ∷ xs) ≤ length (x ∷ xs)
    by true e rest = let is : position_or_len test (x ∷ xs) ≡ 0 = ap (λ t. cond (not t) (1 + position_or_len test xs) 0) e in omega (arith, is)
    by false e rest = let is : position_or_len test (x ∷ xs) ≡ 1 + position_or_len test xs = ap (λ t. cond (not t) (1 + position_or_len test xs) 0) e in omega (arith, is, rest)

pub is_there : {X : Type 0} (test : X → Bool) (xs : List X) → is_some (position test xs) ≡ list_any test xs
is_there test [] = refl
is_there test (x ∷ xs) = by (test x) refl (is_there test xs)
  where
    some : (b : Bool) (place : ℕ) → is_some (cond b (Some place) None) ≡ b
    some true place = refl
    some false place = refl

    by : (b : Bool) → test x ≡ b → is_some (position test xs) ≡ list_any test xs → is_some (position test (x ∷ xs)) ≡ (test x || list_any test xs)
    by true e rest =
        let is : position_or_len test (x ∷ xs) ≡ 0 = ap (λ t. cond (not t) (1 + position_or_len test xs) 0) e in
        let first : nat_lt 0 (suc (length xs)) ≡ true = grind (arith, nat_tests) in
        ap (λ place. is_some (at_most place (suc (length xs)))) is ∙ some (nat_lt 0 (suc (length xs))) 0 ∙ first ∙ sym (ap (λ t. t || list_any test xs) e)
    by false e rest =
        let is : position_or_len test (x ∷ xs) ≡ 1 + position_or_len test xs = ap (λ t. cond (not t) (1 + position_or_len test xs) 0) e in
        let less : nat_lt (1 + position_or_len test xs) (suc (length xs)) ≡ nat_lt (position_or_len test xs) (length xs) = grind (arith, nat_tests) in
        ap (λ place. is_some (at_most place (suc (length xs)))) is
        ∙ some (nat_lt (1 + position_or_len test xs) (suc (length xs))) (1 + position_or_len test xs) ∙ less
        ∙ sym (some (nat_lt (position_or_len test xs) (length xs)) (position_or_len test xs)) ∙ rest ∙ sym (ap (λ t. t || list_any test xs) e)

pushed : (place len later more : ℕ) (last : Bool) → place ≤ len → more ≡ len + 1 → later ≡ cond (nat_eq place len) (len + cond last 0 1) place
    → at_most later more ≡ cond (is_some (at_most place len)) (at_most place len) (cond last (Some len) None)
pushed place len later more last within longer is = elim (cases_lt place len) [
  | inl below ↦
      let less : nat_lt place len ≡ true = grind (arith, nat_tests, below) in
      let apart : nat_eq place len ≡ false = grind (arith, nat_tests, below) in
      let same : later ≡ place = is ∙ ap (λ b. cond b (len + cond last 0 1) place) apart in
      let inside : nat_lt later more ≡ true = grind (arith, nat_tests, below, longer, same) in
      ap (λ b. cond b (Some later) None) inside ∙ ap (λ (z : ℕ). Some z) same
      ∙ sym (ap (λ b. cond (is_some (cond b (Some place) None)) (cond b (Some place) None) (cond last (Some len) None)) less)
  | inr past ↦
      let less : nat_lt place len ≡ false = grind (arith, nat_tests, past) in
      let equal : nat_eq place len ≡ true = grind (arith, nat_tests, past, within) in
      at_end last (is ∙ ap (λ b. cond b (len + cond last 0 1) place) equal)
      ∙ sym (ap (λ b. cond (is_some (cond b (Some place) None)) (cond b (Some place) None) (cond last (Some len) None)) less)
]
  where
    at_end : (b : Bool) → later ≡ len + cond b 0 1 → at_most later more ≡ cond b (Some len) None
    at_end true e =
        let same : later ≡ len = omega (arith, e) in
        let inside : nat_lt later more ≡ true = grind (arith, nat_tests, longer, same) in
        ap (λ b. cond b (Some later) None) inside ∙ ap (λ (z : ℕ). Some z) same
    at_end false e =
        let outside : nat_lt later more ≡ false = grind (arith, nat_tests, longer, e) in
        ap (λ b. cond b (Some later) None) outside

pub position_push : {X : Type 0} (test : X → Bool) (xs : List X) (y : X) → position test (xs ++ y ∷ []) ≡ cond (is_some (position test xs)) (position test xs) (cond (test y) (Some (length xs)) None)
position_push test xs y =
    pushed (position_or_len test xs) (length xs) (position_or_len test (xs ++ y ∷ [])) (length (xs ++ y ∷ [])) (test y) (no_later test xs) (length-append xs (y ∷ [])) (position_or_len_push test xs y)

-- places

order_stays : (cids : List Cid) (more : Cid) (order : List ℕ) → list_all (λ place. nat_lt place (length cids)) order ≡ true → map (cid_in (cids ++ more ∷ [])) order ≡ map (cid_in cids) order
order_stays cids more [] e = refl
order_stays cids more (place ∷ order) e =
    let parts = and_parts (nat_lt place (length cids)) (list_all (λ p. nat_lt p (length cids)) order) e in
    ap (λ found. unwrap_or found no_cid ∷ map (cid_in (cids ++ more ∷ [])) order) (get_push cids more place (is_below (length cids) place parts.0))
    ∙ ap (λ rest. cid_in cids place ∷ rest) (order_stays cids more order parts.1)

pub within_more : (len more : ℕ) (order : List ℕ) → len ≤ more → list_all (λ place. nat_lt place len) order ≡ true → list_all (λ place. nat_lt place more) order ≡ true
within_more len more [] l e = refl
within_more len more (place ∷ order) l e =
    let parts = and_parts (nat_lt place len) (list_all (λ p. nat_lt p len) order) e in
    and_from (nat_lt place more) (list_all (λ p. nat_lt p more) order) (let test = parts.0 in grind (arith, nat_tests, test, l)) (within_more len more order l parts.1)

pub within_push : (len place : ℕ) (order : List ℕ) → place < len → list_all (λ p. nat_lt p len) order ≡ true → list_all (λ p. nat_lt p len) (order ++ place ∷ []) ≡ true
within_push len place [] l e = and_from (nat_lt place len) true (grind (arith, nat_tests, l)) refl
within_push len place (first ∷ order) l e =
    let parts = and_parts (nat_lt first len) (list_all (λ p. nat_lt p len) order) e in
    and_from (nat_lt first len) (list_all (λ p. nat_lt p len) (order ++ place ∷ [])) parts.0 (within_push len place order l parts.1)

abbrev noted : Option BlockRow → Option ℕ
noted row = option_and_then (λ (r : BlockRow). r.position) row

-- one more stored block
module _ {S : Type 0} (old new : HashMap Cid BlockRow S) (cid : Cid) (row : BlockRow) (order : List ℕ) (entries : new.entries ≡ old.entries ++ (cid, row) ∷ []) (ordered : IsOrdered old order) where
  cids : keys new ≡ keys old ++ cid ∷ []
  cids = ap (map (λ (entry : Cid × BlockRow). entry.0)) entries ∙ map-push (λ (entry : Cid × BlockRow). entry.0) old.entries (cid, row)

  pub order_put : order_of new order ≡ order_of old order
  order_put = ap (λ z. map (cid_in z) order) cids ∙ order_stays (keys old) cid order ordered.within

  pub ordered_put : row.position ≡ None → get same_cid old cid ≡ None → ((other : Cid) → get same_cid new other ≡ cond (same_cid cid other) (Some row) (get same_cid old other)) → IsOrdered new order
  ordered_put free none updates = record {
    within = within_more (length (keys old)) (length (keys new)) order (let longer : length (keys new) ≡ length (keys old) + 1 = ap length cids ∙ length-append (keys old) (cid ∷ []) in omega (arith, longer)) ordered.within;
    positions = λ other. ap noted (updates other) ∙ by other (same_cid cid other) refl ∙ ordered.positions other ∙ ap (position (same_cid other)) (sym order_put);
  }
    where
      by : (other : Cid) (b : Bool) → same_cid cid other ≡ b → noted (cond b (Some row) (get same_cid old other)) ≡ position_in old other
      by other true e = free ∙ sym (ap noted (ap (get same_cid old) (sym (cid_is cid other e)) ∙ none))
      by other false e = refl

-- one more processed block
module _ {S : Type 0} (old new : HashMap Cid BlockRow S) (cid : Cid) (place : ℕ) (order : List ℕ) (same : keys new ≡ keys old) (at : slice_get (keys old) place ≡ Some cid) where
  pub order_set : order_of new (order ++ place ∷ []) ≡ order_of old order ++ cid ∷ []
  order_set =
      ap (λ z. map (cid_in z) (order ++ place ∷ [])) same ∙ map-push (cid_in (keys old)) order place
      ∙ ap (λ found. order_of old order ++ unwrap_or found no_cid ∷ []) at

  pub ordered_set : IsOrdered old order → position_in old cid ≡ None → ((other : Cid) → position_in new other ≡ cond (same_cid other cid) (Some (length order)) (position_in old other)) → IsOrdered new (order ++ place ∷ [])
  ordered_set ordered free set = record {
    within = subst (λ z. list_all (λ p. nat_lt p (length z)) (order ++ place ∷ []) ≡ true) (sym same) (within_push (length (keys old)) place order (slice_get_within (keys old) place cid at) ordered.within);
    positions = λ other.
        set other ∙ by other (same_cid other cid) refl
        ∙ sym (ap (position (same_cid other)) order_set ∙ position_push (same_cid other) (order_of old order) cid);
  }
    where
      itself : (p : Option ℕ) → p ≡ cond (is_some p) p None
      itself None = refl
      itself (Some p) = refl

      by : (other : Cid) (b : Bool) → same_cid other cid ≡ b → cond b (Some (length order)) (position_in old other)
          ≡ cond (is_some (position (same_cid other) (order_of old order))) (position (same_cid other) (order_of old order)) (cond (same_cid other cid) (Some (length (order_of old order))) None)
      by other true e =
          let none : position (same_cid other) (order_of old order) ≡ None = sym (ordered.positions other) ∙ ap (position_in old) (cid_is other cid e) ∙ free in
          ap (λ (z : ℕ). Some z) (sym (length-map order (cid_in (keys old))))
          ∙ sym (ap (λ p. cond (is_some p) p (cond (same_cid other cid) (Some (length (order_of old order))) None)) none ∙ ap (λ b. cond b (Some (length (order_of old order))) None) e)
      by other false e =
          ordered.positions other ∙ itself (position (same_cid other) (order_of old order))
          ∙ ap (λ b. cond (is_some (position (same_cid other) (order_of old order))) (position (same_cid other) (order_of old order)) (cond b (Some (length (order_of old order))) None)) (sym e)

-- the order with a block that is noted, or not
pub order_with : {S : Type 0} (blocks : HashMap Cid BlockRow S) (order : List ℕ) (cid : Cid) (b : Bool) → IsOrdered blocks order → is_some (position_in blocks cid) ≡ b
    → insert_key same_cid (order_of blocks order) cid ≡ (if b then order_of blocks order else order_of blocks order ++ cid ∷ [])
order_with blocks order cid b ordered noted =
    ap (λ t. if t then order_of blocks order else order_of blocks order ++ cid ∷ []) (sym (is_there (same_cid cid) (order_of blocks order)) ∙ sym (ap is_some (ordered.positions cid)) ∙ noted)

-- a block that is written at its place
pub same_cid_equiv : IsEquivalence same_cid
same_cid_equiv = record { refl = cid_itself; symm = same_cid-symm; congr = λ x y z e. ap (λ (c : Cid). same_cid c z) (cid_is x y e) }

pub graph_kept : (entries : List (Cid × BlockRow)) (place : ℕ) (row new : BlockRow) → slice_get (map (λ (entry : Cid × BlockRow). entry.1) entries) place ≡ Some row → new.bytes ≡ row.bytes
    → map stored_of (set_value_at entries place new) ≡ map stored_of entries
graph_kept [] place row new at same = refl
graph_kept (entry ∷ entries) zero row new at same =
    let is : entry.1 ≡ row = cc (at) in
    ap (λ bytes. record { cid = entry.0; bytes = bytes } ∷ map stored_of entries) (same ∙ ap (λ (r : BlockRow). r.bytes) (sym is))
graph_kept (entry ∷ entries) (suc place) row new at same = ap (λ rest. stored_of entry ∷ rest) (graph_kept entries place row new at same)

pub position_set : {S : Type 0} (old new : HashMap Cid BlockRow S) (cid : Cid) (row : BlockRow) (position : ℕ) → row.position ≡ Some position
    → ((other : Cid) → get same_cid new other ≡ cond (same_cid cid other) (Some row) (get same_cid old other)) → (other : Cid) → position_in new other ≡ cond (same_cid other cid) (Some position) (position_in old other)
position_set old new cid row position is updates other = ap noted (updates other) ∙ by (same_cid cid other) ∙ ap (λ b. cond b (Some position) (position_in old other)) (same_cid-symm cid other)
  where
    by : (b : Bool) → noted (cond b (Some row) (get same_cid old other)) ≡ cond b (Some position) (position_in old other)
    by true = is
    by false = refl

-- what is found at a place
pub passes_there : (test : Cid → Bool) (cids : List Cid) (place : ℕ) (cid : Cid) → position test cids ≡ Some place → slice_get cids place ≡ Some cid → test cid ≡ true
passes_there test cids place cid is at =
    let found = position-Some test cids place cid is in
    let same : get_or cids place cid ≡ cid = let e = sym (slice_get-get_or cids place cid found.0) ∙ at in cc (e) in
    subst (λ (z : Cid). test z ≡ true) same found.1

pub key_at : {S : Type 0} (blocks : HashMap Cid BlockRow S) (place : ℕ) (cid : Cid) (row : BlockRow) → slice_get blocks.entries place ≡ Some (cid, row) → slice_get (keys blocks) place ≡ Some cid
key_at blocks place cid row at = slice_get-map (λ (entry : Cid × BlockRow). entry.0) blocks.entries place ∙ ap (option_map (λ (entry : Cid × BlockRow). entry.0)) at

pub row_at_place : {S : Type 0} (blocks : HashMap Cid BlockRow S) (place : ℕ) (cid : Cid) (row : BlockRow) → slice_get blocks.entries place ≡ Some (cid, row) → slice_get (map (λ (entry : Cid × BlockRow). entry.1) blocks.entries) place ≡ Some row
row_at_place blocks place cid row at = slice_get-map (λ (entry : Cid × BlockRow). entry.1) blocks.entries place ∙ ap (option_map (λ (entry : Cid × BlockRow). entry.1)) at

-- the identifier that is stored at the place of a block
pub stored_key : {S : Type 0} (blocks : HashMap Cid BlockRow S) (cid : Cid) (place : ℕ) (key : Cid) (row : BlockRow) → Some place ≡ position (same_cid cid) (keys blocks) → slice_get blocks.entries place ≡ Some (key, row) → cid ≡ key
stored_key blocks cid place key row index entry = cid_is cid key (passes_there (same_cid cid) (keys blocks) place key (sym index) (key_at blocks place key row entry))

-- whether a position is noted
pub noted_row : {S : Type 0} (blocks : HashMap Cid BlockRow S) (cid : Cid) (row : BlockRow) → Some row ≡ get same_cid blocks cid → is_some (position_in blocks cid) ≡ is_some row.position
noted_row blocks cid row value = ap (λ found. is_some (noted found)) (sym value)
