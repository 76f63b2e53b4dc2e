-- Rows that were sorted and rid of repeats ascend over the same members.
use Rattle.std.proofs.Common.{◌≡◌, ℕ, ◌+◌, ◌<◌, length, take, get_or, append_assoc, Bool, true, false, cond, ◌||◌, List, [], ◌∷◌, ◌++◌, map, sym, refl, ap, ◌∙◌, subst}
use Rattle.std.specs.List.{list_any, dedup, dedup_from}
use Rattle.std.specs.List.Sorted.{IsPermutation}
use Rattle.std.specs.Ordering.{eq_by_cmp}
use Rattle.std.specs.declared.cmp.Ordering.{Ordering}
use Rattle.std.specs.declared.cmp.Ordering.TheVariants.{Equal}
use Rattle.std.proofs.lemmas.List.{append-nil, map_more, take_more}
use Rattle.std.proofs.lemmas.List.Concat.{flat_map-append}
use Rattle.std.proofs.lemmas.List.Elements.{filter-append}
use Rattle.std.proofs.lemmas.List.Sorted.{list_any-IsPermutation}
use Rattle.mc_model.specs.SameMembers.{SameMembers}
use Rattle.mc_model.proofs.Members.{list_any-map}
use Rattle.std.specs.Prelude.{IfSome, filter, Option, Some, None}
use Rattle.std.specs.Ordering.{nat_cmp}
use Rattle.std.specs.Cmp.Lexicographic.{slice_cmp}
use Rattle.std.specs.FinMap.{nat_cmp-IsAntisymmetric}
use Rattle.mc_base.proofs.Cids.{cid_same}
use Rattle.mc_base.proofs.Orders.{then_equal}
use Rattle.mc_model.specs.declared.block.Block.{Block}
use Rattle.mc_model.specs.declared.delta.Tomb.{Tomb}
use Rattle.mc_model.specs.Kept.{Kept, processed}
use Rattle.mc_keep.specs.declared.rows.ElementRow.{ElementRow}
use Rattle.mc_keep.specs.declared.rows.TombRow.{TombRow}
use Rattle.mc_rows.specs.declared.tombs.NewTomb.{NewTomb}
use Rattle.mc_rows.specs.Rows.{key_cmp, tomb_cmp, new_tomb_cmp, row_of, rows_of, tomb_of, tombs_of, tomb_row, tomb_rows}
use Rattle.mc_rows.specs.Hiding.{is_unknown, has_element_of, has_tomb_of}
use Rattle.mc_rows.specs.Values.{has_key}
use Rattle.mc_rows.specs.declared.elements.NewElement.{NewElement}
use Rattle.std.specs.Str.{bytes_eq}
use Rattle.std.proofs.lemmas.List.Folds.{list_any-append}
use Rattle.std.proofs.lemmas.Map.Lookups.{exact_bytes}
use Rattle.std.proofs.Math.Bool.{or_self_left}
use Rattle.std.specs.Cmp.{Equal-is}
use lib.Pointwise.{bytes_decides}
use denote.Ref.{Bor}

module _ {X R : Type 0} (same : X → X → Bool) (row : X → R) (alike : (x y : X) → same x y ≡ true → row x ≡ row y) where
  any_from : (test : R → Bool) (x : X) (xs : List X) → list_any (λ y. test (row y)) (dedup_from same x xs) ≡ (test (row x) || list_any (λ y. test (row y)) xs)
  any_from test x [] = refl
  any_from test x (y ∷ ys) =
      elim (same y x) as (λ b. same y x ≡ b → list_any (λ z. test (row z)) (cond b (dedup_from same x ys) (x ∷ dedup_from same y ys)) ≡ (test (row x) || (test (row y) || list_any (λ z. test (row z)) ys))) [
        | true ↦ λ e. any_from test x ys ∙ subst (λ z. (test (row x) || list_any (λ y. test (row y)) ys) ≡ (test (row x) || (test z || list_any (λ y. test (row y)) ys))) (sym (alike y x e)) ((sym (or_self_left (test (row x)) (list_any (λ y. test (row y)) ys))))
        | false ↦ λ e. ap (λ rest. test (row x) || rest) (any_from test y ys)
      ] refl

  any_of : (test : R → Bool) (xs : List X) → list_any (λ y. test (row y)) (dedup same xs) ≡ list_any (λ y. test (row y)) xs
  any_of test [] = refl
  any_of test (x ∷ xs) = any_from test x xs

  -- sorting and dropping repeats leaves what a test of the rows finds
  pub any_once : (test : R → Bool) (items sorted : List X) → IsPermutation items sorted → list_any (λ y. test (row y)) (dedup same sorted) ≡ list_any (λ y. test (row y)) items
  any_once test items sorted moved = any_of test sorted ∙ sym (list_any-IsPermutation (λ y. test (row y)) items sorted moved)

-- and so the members of the rows
pub sorted_members : {X R : Type 0} (cmp : X → X → Ordering) (row : X → R) (tied : (x y : X) → cmp x y ≡ Equal → row x ≡ row y) (items sorted : List X) → IsPermutation items sorted
    → SameMembers (map row (dedup (eq_by_cmp cmp) sorted)) (map row items)
sorted_members cmp row tied items sorted moved = record {
  same = λ test.
      list_any-map test row (dedup (eq_by_cmp cmp) sorted)
      ∙ any_once (eq_by_cmp cmp) row (λ x y e. tied x y ((Equal-is (cmp x y)).0 e)) test items sorted moved
      ∙ sym (list_any-map test row items);
}

pub key_tied : (x y : ElementRow) → key_cmp x y ≡ Equal → x ≡ y
key_tied x y e =
    let last = then_equal _ (nat_cmp x.priority y.priority) e in
    let third = then_equal _ (slice_cmp nat_cmp x.value y.value) last.0 in
    let first = then_equal (slice_cmp nat_cmp x.key y.key) (slice_cmp nat_cmp x.cid.0 y.cid.0) third.0 in
    let key : x.key ≡ y.key = exact_bytes x.key y.key first.0 in
    let cid : x.cid ≡ y.cid = cid_same x.cid y.cid (exact_bytes x.cid.0 y.cid.0 first.1) in
    let value : x.value ≡ y.value = exact_bytes x.value y.value third.1 in
    let priority : x.priority ≡ y.priority = nat_cmp-IsAntisymmetric x.priority y.priority last.1 in
    λ i. record { key = key i; cid = cid i; priority = priority i; value = value i }

pub tomb_tied : (x y : TombRow) → tomb_cmp x y ≡ Equal → x ≡ y
tomb_tied x y e =
    let parts = then_equal (slice_cmp nat_cmp x.key y.key) (slice_cmp nat_cmp x.id y.id) e in
    let key : x.key ≡ y.key = exact_bytes x.key y.key parts.0 in
    let id : x.id ≡ y.id = exact_bytes x.id y.id parts.1 in
    λ i. record { key = key i; id = id i }

-- the same of the tombstones that a keeper doesn't have
pub tombs_told : (told : Option Kept) (blocks : List Block) (items sorted : List NewTomb) → IsPermutation items sorted
    → IfSome told (λ kept. tombs_of items ≡ filter (is_unknown (processed kept)) (tomb_rows blocks))
    → IfSome told (λ kept. SameMembers (tombs_of (dedup (eq_by_cmp new_tomb_cmp) sorted)) (filter (is_unknown (processed kept)) (tomb_rows blocks)))
tombs_told None blocks items sorted moved rows = tt
tombs_told (Some kept) blocks items sorted moved rows =
    subst (λ z. SameMembers (tombs_of (dedup (eq_by_cmp new_tomb_cmp) sorted)) z) rows (sorted_members new_tomb_cmp tomb_of (λ x y e. tomb_tied (tomb_of x) (tomb_of y) e) items sorted moved)

-- one tombstone more
pub tombs_more : (told : Option Kept) (old now new : List TombRow) (tombs : List Tomb) (i : ℕ) (tomb : Tomb) → i < length tombs → tomb ≡ get_or tombs i tomb
    → IfSome told (λ kept. now ≡ old ++ filter (is_unknown (processed kept)) (map tomb_row (take i tombs)))
    → IfSome told (λ kept. new ≡ now ++ filter (is_unknown (processed kept)) (tomb_row tomb ∷ []))
    → IfSome told (λ kept. new ≡ old ++ filter (is_unknown (processed kept)) (map tomb_row (take (i + 1) tombs)))
tombs_more None old now new tombs i tomb within at before step = tt
tombs_more (Some kept) old now new tombs i tomb within at before step =
    let known : TombRow → Bool = is_unknown (processed kept) in
    step
    ∙ ap (λ (z : List TombRow). z ++ filter known (tomb_row tomb ∷ [])) before
    ∙ append_assoc old (filter known (map tomb_row (take i tombs))) (filter known (tomb_row tomb ∷ []))
    ∙ ap (λ z. old ++ z)
    (sym (filter-append known (map tomb_row (take i tombs)) (tomb_row tomb ∷ []))
    ∙ ap (λ (z : Tomb). filter known (map tomb_row (take i tombs) ++ tomb_row z ∷ [])) at
    ∙ ap (filter known) (sym (map_more tomb_row tombs i tomb within)))

-- the tombstones of one block more
pub blocks_more : (told : Option Kept) (now new : List TombRow) (blocks : List Block) (i : ℕ) (block : Block) → i < length blocks → block ≡ get_or blocks i block
    → IfSome told (λ kept. now ≡ filter (is_unknown (processed kept)) (tomb_rows (take i blocks)))
    → IfSome told (λ kept. new ≡ now ++ filter (is_unknown (processed kept)) (map tomb_row block.delta.tombstones))
    → IfSome told (λ kept. new ≡ filter (is_unknown (processed kept)) (tomb_rows (take (i + 1) blocks)))
blocks_more None now new blocks i block within at before step = tt
blocks_more (Some kept) now new blocks i block within at before step =
    let known : TombRow → Bool = is_unknown (processed kept) in
    step
    ∙ ap (λ (z : List TombRow). z ++ filter known (map tomb_row block.delta.tombstones)) before
    ∙ sym (filter-append known (tomb_rows (take i blocks)) (map tomb_row block.delta.tombstones))
    ∙ ap (λ (z : List TombRow). filter known (tomb_rows (take i blocks) ++ z)) (sym (append-nil (map tomb_row block.delta.tombstones)))
    ∙ ap (filter known) (sym (flat_map-append (λ (b : Block). map tomb_row b.delta.tombstones) (take i blocks) (block ∷ [])))
    ∙ ap (λ (z : Block). filter known (tomb_rows (take i blocks ++ z ∷ []))) at
    ∙ ap (λ (z : List Block). filter known (tomb_rows z)) (sym (take_more blocks i block within))

-- the keys, sorted and rid of repeats, are those of the elements and the tombstones
pub keys_members : (elements : List NewElement) (tombs : List NewTomb) (start first items sorted kept : List (Bor (List ℕ))) → start ≡ []
    → first ≡ start ++ map (λ (e : NewElement). e.key) elements → items ≡ first ++ map (λ (t : NewTomb). t.key) tombs → IsPermutation items sorted
    → kept ≡ dedup (λ (x y : Bor (List ℕ)). bytes_eq x.now y.now) sorted
    → (key : List ℕ) → has_key kept key ≡ (has_element_of (rows_of elements) key || has_tomb_of (tombs_of tombs) key)
keys_members elements tombs start first items sorted kept none more then moved once key =
    ap (λ (z : List (Bor (List ℕ))). has_key z key) once
    ∙ any_once (λ (x y : Bor (List ℕ)). bytes_eq x.now y.now) (λ (k : Bor (List ℕ)). k.now) (λ x y e. (bytes_decides x.now y.now).0 e) (λ bytes. bytes_eq bytes key) items sorted moved
    ∙ ap (λ (z : List (Bor (List ℕ))). has_key z key) (then ∙ ap (λ (z : List (Bor (List ℕ))). z ++ map (λ (t : NewTomb). t.key) tombs) (more ∙ ap (λ (z : List (Bor (List ℕ))). z ++ map (λ (e : NewElement). e.key) elements) none))
    ∙ list_any-append (λ (k : Bor (List ℕ)). bytes_eq k.now key) (map (λ (e : NewElement). e.key) elements) (map (λ (t : NewTomb). t.key) tombs)
    ∙ ap (λ b. b || has_key (map (λ (t : NewTomb). t.key) tombs) key)
    (list_any-map (λ (k : Bor (List ℕ)). bytes_eq k.now key) (λ (e : NewElement). e.key) elements ∙ sym (list_any-map (λ (row : ElementRow). bytes_eq row.key key) row_of elements))
    ∙ ap (λ b. has_element_of (rows_of elements) key || b)
    (list_any-map (λ (k : Bor (List ℕ)). bytes_eq k.now key) (λ (t : NewTomb). t.key) tombs ∙ sym (list_any-map (λ (row : TombRow). bytes_eq row.key key) tomb_of tombs))
