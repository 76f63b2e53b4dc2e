-- Sorted rows stand once each: an element by its key, block and value, a tombstone by its key and id.
use Rattle.std.proofs.Common.{◌≡◌, ℕ, Bool, true, false, cond, not, List, [], ◌∷◌, map, ◌||◌, ◌&&◌, sym, refl, ap, ◌∙◌, subst}
use Rattle.std.specs.Prelude.{find, Some, None}
use Rattle.std.specs.List.{list_any, AllByRecursion}
use Rattle.std.specs.List.Sorted.{IsStrictlySortedBy}
use Rattle.std.specs.Ordering.{nat_cmp, is_eq, on}
use Rattle.std.specs.Cmp.{IsTotalOrder}
use Rattle.std.specs.FinMap.{nat_cmp-IsAntisymmetric}
use Rattle.std.specs.Str.{bytes_eq}
use Rattle.std.specs.declared.cmp.Ordering.{Ordering}
use Rattle.std.specs.declared.cmp.Ordering.TheVariants.{Less, Equal, Greater}
use Rattle.std.proofs.lemmas.Cmp.{tied_itself, nat_cmp_total}
use Rattle.std.proofs.lemmas.List.Folds.{list_any-append}
use Rattle.std.proofs.lemmas.Bool.{or_parts, and_parts, not-true}
use Rattle.std.proofs.lemmas.Slice.Eq.{bytes_eq-Decides}
use Rattle.mc_base.specs.declared.cid.Cid.{Cid}
use Rattle.mc_model.specs.declared.block.Block.{Block}
use Rattle.mc_model.specs.declared.delta.Element.{Element}
use Rattle.mc_model.specs.Ascending.{is_once}
use Rattle.mc_model.specs.Front.{same_cid}
use Rattle.mc_model.specs.SameMembers.{SameMembers}
use Rattle.mc_model.proofs.Counts.{cid_is, cid_itself, same_cid-symm}
use Rattle.mc_model.proofs.Members.{none_passes}
use Rattle.mc_keep.specs.declared.rows.ElementRow.{ElementRow}
use Rattle.mc_keep.specs.declared.rows.TombRow.{TombRow}
use Rattle.mc_keep.specs.Tables.{element_row, element_rows, same_element, same_tomb}
use Rattle.mc_rows.specs.declared.elements.NewElement.{NewElement}
use Rattle.mc_rows.specs.declared.tombs.NewTomb.{NewTomb}
use Rattle.mc_rows.specs.Rows.{key_cmp, key_total, tomb_cmp, tomb_total, row_of, rows_of, tomb_of, tombs_of, new_element_cmp, new_tomb_cmp}

-- what is sorted by a part is a sorted list of these parts
all_map : {X Y : Type 0} (f : X → Y) (P : Y → Type 0) (xs : List X) → AllByRecursion (λ x. P (f x)) xs → AllByRecursion P (map f xs)
all_map f P [] h = tt
all_map f P (x ∷ xs) h = (h.0, all_map f P xs h.1)

sorted_map : {X Y : Type 0} (f : X → Y) (cmp : Y → Y → Ordering) (xs : List X) → IsStrictlySortedBy (on f cmp) xs → IsStrictlySortedBy cmp (map f xs)
unfolding IsStrictlySortedBy
sorted_map f cmp [] h = tt
sorted_map f cmp (x ∷ xs) h = (all_map f (λ y. cmp (f x) y ≡ Less) xs h.0, sorted_map f cmp xs h.1)

-- where rows that are the same by a test are equal, a sorted list has each once
module _ {R : Type 0} (cmp : R → R → Ordering) (total : IsTotalOrder cmp) (same : R → R → Bool) (bad : R → Bool) (unique : (x y : R) → bad x ≡ false → bad y ≡ false → same x y ≡ true → x ≡ y) where
  apart : (x y : R) → bad x ≡ false → bad y ≡ false → cmp x y ≡ Less → same x y ≡ false
  apart x y bx by less =
      elim (same x y) as (λ t. same x y ≡ t → t ≡ false) [
        | true ↦ λ e. absurd (let equal : Equal ≡ Less = sym (tied_itself total x) ∙ subst (λ z. cmp x z ≡ Less) (sym (unique x y bx by e)) less in let no : true ≡ false = ap is_eq equal in cc)
        | false ↦ λ e. refl
      ] refl

  none_same : (x : R) (ys : List R) → bad x ≡ false → list_any bad ys ≡ false → AllByRecursion (λ y. cmp x y ≡ Less) ys → list_any (same x) ys ≡ false
  none_same x [] bx bs h = refl
  none_same x (y ∷ ys) bx bs h = let parts = or_parts (bad y) (list_any bad ys) bs in ap (λ b. b || list_any (same x) ys) (apart x y bx parts.0 h.0) ∙ none_same x ys bx parts.1 h.1

  sorted_once : (xs : List R) → IsStrictlySortedBy cmp xs → list_any bad xs ≡ false → is_once same xs ≡ true
  unfolding IsStrictlySortedBy
  sorted_once [] h bs = refl
  sorted_once (x ∷ xs) h bs = let parts = or_parts (bad x) (list_any bad xs) bs in ap (λ b. not b && is_once same xs) (none_same x xs parts.0 parts.1 h.0) ∙ sorted_once xs h.1 parts.1

pub tombs_stand_once : (tombs : List NewTomb) → IsStrictlySortedBy new_tomb_cmp tombs → is_once same_tomb (tombs_of tombs) ≡ true
tombs_stand_once tombs sorted = sorted_once tomb_cmp tomb_total same_tomb (λ _. false) unique (tombs_of tombs) (sorted_map tomb_of tomb_cmp tombs sorted) (none_passes (tombs_of tombs))
  where
    unique : (x y : TombRow) → false ≡ false → false ≡ false → same_tomb x y ≡ true → x ≡ y
    unique x y bx by e =
        let parts = and_parts (bytes_eq x.key y.key) (bytes_eq x.id y.id) e in
        let key : x.key ≡ y.key = (bytes_eq-Decides x.key y.key).0 parts.0 in
        let id : x.id ≡ y.id = (bytes_eq-Decides x.id y.id).0 parts.1 in
        λ i. record { key = key i; id = id i }

-- the priority of the block with this identifier
abbrev priority_at : List Block → Cid → ℕ
priority_at blocks cid = elim (find (λ (block : Block). same_cid cid block.cid) blocks) [ None ↦ 0 | Some block ↦ block.delta.priority ]

abbrev strays : List Block → ElementRow → Bool
strays blocks row = not (is_eq (nat_cmp row.priority (priority_at blocks row.cid)))

abbrev block_strays : List Block → Block → Bool
block_strays blocks block = not (is_eq (nat_cmp block.delta.priority (priority_at blocks block.cid)))

-- a block with another identifier changes nothing
skip : (b : Block) (more xs : List Block) → list_any (same_cid b.cid) (map (λ (block : Block). block.cid) xs) ≡ false → list_any (block_strays (b ∷ more)) xs ≡ list_any (block_strays more) xs
skip b more [] e = refl
skip b more (x ∷ xs) e =
    let parts = or_parts (same_cid b.cid x.cid) (list_any (same_cid b.cid) (map (λ (block : Block). block.cid) xs)) e in
    ap (λ (t : Bool). not (is_eq (nat_cmp x.delta.priority (elim (cond t (Some b) (find (λ (block : Block). same_cid x.cid block.cid) more)) [ None ↦ 0 | Some block ↦ block.delta.priority ]))) || list_any (block_strays (b ∷ more)) xs) (same_cid-symm x.cid b.cid ∙ parts.0)
    ∙ ap (λ rest. block_strays more x || rest) (skip b more xs parts.1)

none_strays : (blocks : List Block) → is_once same_cid (map (λ (block : Block). block.cid) blocks) ≡ true → list_any (block_strays blocks) blocks ≡ false
none_strays [] once = refl
none_strays (b ∷ more) once =
    let parts = and_parts (not (list_any (same_cid b.cid) (map (λ (block : Block). block.cid) more))) (is_once same_cid (map (λ (block : Block). block.cid) more)) once in
    ap (λ (t : Bool). not (is_eq (nat_cmp b.delta.priority (elim (cond t (Some b) (find (λ (block : Block). same_cid b.cid block.cid) more)) [ None ↦ 0 | Some block ↦ block.delta.priority ]))) || list_any (block_strays (b ∷ more)) more) (cid_itself b.cid)
    ∙ ap (λ (o : Ordering). not (is_eq o) || list_any (block_strays (b ∷ more)) more) (tied_itself nat_cmp_total b.delta.priority)
    ∙ skip b more more (not-true (list_any (same_cid b.cid) (map (λ (block : Block). block.cid) more)) parts.0)
    ∙ none_strays more parts.1

of_block : (all : List Block) (block : Block) (elements : List Element) → block_strays all block ≡ false → list_any (strays all) (map (element_row block) elements) ≡ false
of_block all block [] e = refl
of_block all block (x ∷ elements) e = ap (λ b. b || list_any (strays all) (map (element_row block) elements)) e ∙ of_block all block elements e

of_blocks : (all blocks : List Block) → list_any (block_strays all) blocks ≡ false → list_any (strays all) (element_rows blocks) ≡ false
of_blocks all [] e = refl
of_blocks all (b ∷ blocks) e =
    let parts = or_parts (block_strays all b) (list_any (block_strays all) blocks) e in
    list_any-append (strays all) (map (element_row b) b.delta.elements) (element_rows blocks)
    ∙ ap (λ t. t || list_any (strays all) (element_rows blocks)) (of_block all b b.delta.elements parts.0)
    ∙ of_blocks all blocks parts.1

pub elements_stand_once : (blocks : List Block) (elements : List NewElement) → is_once same_cid (map (λ (block : Block). block.cid) blocks) ≡ true
    → IsStrictlySortedBy new_element_cmp elements → SameMembers (rows_of elements) (element_rows blocks) → is_once same_element (rows_of elements) ≡ true
elements_stand_once blocks elements once sorted same =
    sorted_once key_cmp key_total same_element (strays blocks) unique (rows_of elements) (sorted_map row_of key_cmp elements sorted) (same.same (strays blocks) ∙ of_blocks blocks blocks (none_strays blocks once))
  where
    priority_is : (row : ElementRow) → strays blocks row ≡ false → row.priority ≡ priority_at blocks row.cid
    priority_is row e = tied (nat_cmp row.priority (priority_at blocks row.cid)) refl e
      where
        tied : (o : Ordering) → nat_cmp row.priority (priority_at blocks row.cid) ≡ o → not (is_eq o) ≡ false → row.priority ≡ priority_at blocks row.cid
        tied Less e f = absurd (let no : true ≡ false = f in cc)
        tied Equal e f = nat_cmp-IsAntisymmetric row.priority (priority_at blocks row.cid) e
        tied Greater e f = absurd (let no : true ≡ false = f in cc)

    unique : (x y : ElementRow) → strays blocks x ≡ false → strays blocks y ≡ false → same_element x y ≡ true → x ≡ y
    unique x y bx by e =
        let parts = and_parts (bytes_eq x.key y.key) (same_cid x.cid y.cid && bytes_eq x.value y.value) e in
        let rest = and_parts (same_cid x.cid y.cid) (bytes_eq x.value y.value) parts.1 in
        let key : x.key ≡ y.key = (bytes_eq-Decides x.key y.key).0 parts.0 in
        let cid : x.cid ≡ y.cid = cid_is x.cid y.cid rest.0 in
        let value : x.value ≡ y.value = (bytes_eq-Decides x.value y.value).0 rest.1 in
        let priority : x.priority ≡ y.priority = priority_is x bx ∙ ap (priority_at blocks) cid ∙ sym (priority_is y by) in
        λ i. record { key = key i; cid = cid i; priority = priority i; value = value i }
