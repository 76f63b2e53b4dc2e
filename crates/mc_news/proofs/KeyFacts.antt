-- The keys that blocks name.
use Rattle.std.proofs.Common.{◌≡◌, ℕ, ◌+◌, ◌<◌, length, take, get_or, Bool, true, false, cond, ◌||◌, List, [], ◌∷◌, ◌++◌, map, flat_map, sym, refl, ap, ◌∙◌, subst, append_assoc}
use Rattle.std.specs.List.{list_any, dedup, dedup_from}
use Rattle.std.specs.List.Sorted.{IsPermutation}
use Rattle.std.specs.Str.{bytes_eq}
use Rattle.std.proofs.lemmas.List.{flat_map_more, map_more, take_more}
use Rattle.std.proofs.lemmas.List.Folds.{list_any-append}
use Rattle.std.proofs.lemmas.List.Sorted.{list_any-IsPermutation}
use Rattle.std.proofs.Math.Bool.{or_self_left}
use lib.Pointwise.{bytes_decides}
use denote.Ref.{Bor}
use Rattle.mc_model.proofs.Members.{list_any-map}
use Rattle.mc_model.specs.declared.block.Block.{Block}
use Rattle.mc_model.specs.declared.delta.Element.{Element}
use Rattle.mc_model.specs.declared.delta.Tomb.{Tomb}
use Rattle.mc_face.specs.Exact.{is_named}
use Rattle.mc_news.specs.Keys.{has_key, keys_in, texts_of}

module _ {X R : Type 0} (same : X → X → Bool) (row : X → R) (alike : (x y : X) → same x y ≡ true → row x ≡ row y) where
  any_from : (test : R → Bool) (x : X) (xs : List X) → list_any (λ y. test (row y)) (dedup_from same x xs) ≡ (test (row x) || list_any (λ y. test (row y)) xs)
  any_from test x [] = refl
  any_from test x (y ∷ ys) =
      elim (same y x) as (λ b. same y x ≡ b → list_any (λ z. test (row z)) (cond b (dedup_from same x ys) (x ∷ dedup_from same y ys)) ≡ (test (row x) || (test (row y) || list_any (λ z. test (row z)) ys))) [
        | true ↦ λ e. any_from test x ys ∙ subst (λ z. (test (row x) || list_any (λ y. test (row y)) ys) ≡ (test (row x) || (test z || list_any (λ y. test (row y)) ys))) (sym (alike y x e)) ((sym (or_self_left (test (row x)) (list_any (λ y. test (row y)) ys))))
        | false ↦ λ e. ap (λ rest. test (row x) || rest) (any_from test y ys)
      ] refl

  any_of : (test : R → Bool) (xs : List X) → list_any (λ y. test (row y)) (dedup same xs) ≡ list_any (λ y. test (row y)) xs
  any_of test [] = refl
  any_of test (x ∷ xs) = any_from test x xs

-- those that a block names
one_named : (key : List ℕ) (block : Block) → has_key (keys_in block) key ≡ is_named (block ∷ []) key
one_named key block = over (list_any (λ (element : Element). bytes_eq element.key key) block.delta.elements) (list_any (λ (tomb : Tomb). bytes_eq tomb.key key) block.delta.tombstones)
    (list_any-append (λ (k : List ℕ). bytes_eq k key) (map (λ (element : Element). element.key) block.delta.elements) (map (λ (tomb : Tomb). tomb.key) block.delta.tombstones))
    (list_any-map (λ (k : List ℕ). bytes_eq k key) (λ (element : Element). element.key) block.delta.elements)
    (list_any-map (λ (k : List ℕ). bytes_eq k key) (λ (tomb : Tomb). tomb.key) block.delta.tombstones)
  where
    last : (b : Bool) → b ≡ b || false
    last true = refl
    last false = refl

    over : {both left right : Bool} (elements tombs : Bool) → both ≡ left || right → left ≡ elements → right ≡ tombs → both ≡ (elements || tombs) || false
    over {both} {left} {right} elements tombs e l r = e ∙ ap (λ b. b || right) l ∙ ap (λ b. elements || b) r ∙ last (elements || tombs)

all_named : (key : List ℕ) (blocks : List Block) → has_key (flat_map keys_in blocks) key ≡ is_named blocks key
all_named key [] = refl
all_named key (block ∷ blocks) =
    list_any-append (λ (k : List ℕ). bytes_eq k key) (keys_in block) (flat_map keys_in blocks)
    ∙ ap (λ b. b || has_key (flat_map keys_in blocks) key) (one_named key block)
    ∙ ap (λ b. is_named (block ∷ []) key || b) (all_named key blocks)
    ∙ first (is_named (block ∷ []) key) refl
  where
    joined : (a b : Bool) → (a || false) || b ≡ a || b
    joined true b = refl
    joined false b = refl

    first : (b : Bool) → is_named (block ∷ []) key ≡ b → is_named (block ∷ []) key || is_named blocks key ≡ is_named (block ∷ blocks) key
    first b e = joined (list_any (λ (element : Element). bytes_eq element.key key) block.delta.elements || list_any (λ (tomb : Tomb). bytes_eq tomb.key key) block.delta.tombstones) (is_named blocks key)

-- sorted and rid of repeats, the keys are those that the blocks name
pub keys_named : (blocks : List Block) (start items sorted kept : List (Bor (List ℕ))) → start ≡ [] → texts_of items ≡ texts_of start ++ flat_map keys_in blocks → IsPermutation items sorted
    → kept ≡ dedup (λ (x y : Bor (List ℕ)). bytes_eq x.now y.now) sorted → (key : List ℕ) → has_key (texts_of kept) key ≡ is_named blocks key
keys_named blocks start items sorted kept none more moved once key =
    ap (λ (z : List (Bor (List ℕ))). has_key (texts_of z) key) once
    ∙ list_any-map (λ (k : List ℕ). bytes_eq k key) (λ (text : Bor (List ℕ)). text.now) (dedup (λ (x y : Bor (List ℕ)). bytes_eq x.now y.now) sorted)
    ∙ any_of (λ (x y : Bor (List ℕ)). bytes_eq x.now y.now) (λ (text : Bor (List ℕ)). text.now) (λ x y e. (bytes_decides x.now y.now).0 e) (λ bytes. bytes_eq bytes key) sorted
    ∙ sym (list_any-IsPermutation (λ (text : Bor (List ℕ)). bytes_eq text.now key) items sorted moved)
    ∙ sym (list_any-map (λ (k : List ℕ). bytes_eq k key) (λ (text : Bor (List ℕ)). text.now) items)
    ∙ ap (λ keys. has_key keys key) (more ∙ ap (λ (z : List (Bor (List ℕ))). texts_of z ++ flat_map keys_in blocks) none)
    ∙ all_named key blocks

-- the keys of one block more
pub keys_more : (old now new : List (List ℕ)) (blocks : List Block) (i : ℕ) (block : Block) → i < length blocks → block ≡ get_or blocks i block → now ≡ old ++ flat_map keys_in (take i blocks) → new ≡ (now ++ map (λ (element : Element). element.key) block.delta.elements) ++ map (λ (tomb : Tomb). tomb.key) block.delta.tombstones
    → new ≡ old ++ flat_map keys_in (take (i + 1) blocks)
keys_more old now new blocks i block within at before step =
    step
    ∙ append_assoc now (map (λ (element : Element). element.key) block.delta.elements) (map (λ (tomb : Tomb). tomb.key) block.delta.tombstones)
    ∙ ap (λ (z : List (List ℕ)). z ++ keys_in block) before
    ∙ flat_map_more keys_in old (take i blocks) block
    ∙ ap (λ (b : Block). old ++ flat_map keys_in (take i blocks ++ b ∷ [])) at
    ∙ ap (λ (bs : List Block). old ++ flat_map keys_in bs) (sym (take_more blocks i block within))

-- one key more
pub texts_more : {A : Type 0} (text_of : A → List ℕ) (old now new : List (List ℕ)) (rows : List A) (i : ℕ) (row : A) → i < length rows → row ≡ get_or rows i row → now ≡ old ++ map text_of (take i rows) → new ≡ now ++ text_of row ∷ []
    → new ≡ old ++ map text_of (take (i + 1) rows)
texts_more text_of old now new rows i row within at before step =
    step
    ∙ ap (λ (z : List (List ℕ)). z ++ text_of row ∷ []) before
    ∙ append_assoc old (map text_of (take i rows)) (text_of row ∷ [])
    ∙ ap (λ r. old ++ (map text_of (take i rows) ++ text_of r ∷ [])) at
    ∙ ap (λ (z : List (List ℕ)). old ++ z) (sym (map_more text_of rows i row within))
