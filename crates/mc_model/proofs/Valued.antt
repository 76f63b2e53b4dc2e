-- The keys that have a value.
use Rattle.std.proofs.Common.{◌≡◌, ℕ, Bool, true, false, cond, List, [], ◌∷◌, ◌++◌, ◌||◌, ◌&&◌, map, refl, ap, sym, ◌∙◌}
use Rattle.std.specs.Prelude.{filter, is_some}
use Rattle.std.specs.List.{list_any}
use Rattle.std.specs.List.Sorted.{IsStrictlySortedBy}
use Rattle.std.specs.Ordering.{nat_cmp}
use Rattle.std.specs.Cmp.Lexicographic.{slice_cmp}
use Rattle.std.specs.Option.{option_map}
use Rattle.std.specs.Str.{bytes_eq}
use Rattle.std.proofs.lemmas.Cmp.{nat_list_cmp_total}
use Rattle.std.proofs.lemmas.List.Folds.{list_any-append}
use Rattle.std.proofs.lemmas.Bool.{or_parts}
use Rattle.std.proofs.lemmas.Map.Lookups.{exact_bytes}
use lib.Pointwise.{bytes_decides}
use Rattle.mc_model.specs.declared.block.Block.{Block}
use Rattle.mc_model.specs.declared.delta.Element.{Element}
use Rattle.mc_model.specs.Answers.{has_value, element_keys, valued_keys}
use Rattle.mc_model.specs.Live.{live_among, is_hidden, ranked_elements}
use Rattle.mc_model.specs.Rank.{Ranked, greatest}
use Rattle.mc_model.proofs.Ascending.{ascending_ascends}

-- keys that tie are equal

pub valued_sorted : (blocks : List Block) → IsStrictlySortedBy (slice_cmp nat_cmp) (valued_keys blocks)
valued_sorted blocks = (ascending_ascends (slice_cmp nat_cmp) nat_list_cmp_total exact_bytes (filter (has_value blocks) (element_keys blocks))).sorted

-- a key is among those that pass a test where it is among them all and passes
one_more : (same passes own any found : Bool) → (same ≡ true → passes ≡ own) → found ≡ (any && own) → cond passes (same || found) found ≡ ((same || any) && own)
one_more true true true any found is e = refl
one_more true true false any found is e = absurd (let f : true ≡ false = is refl in cc)
one_more true false true any found is e = absurd (let f : false ≡ true = is refl in cc)
one_more true false false true found is e = e
one_more true false false false found is e = e
one_more false true own any found is e = e
one_more false false own any found is e = e

filter_finds : (has : List ℕ → Bool) (key : List ℕ) (keys : List (List ℕ)) → list_any (λ other. bytes_eq other key) (filter has keys) ≡ (list_any (λ other. bytes_eq other key) keys && has key)
filter_finds has key [] = refl
filter_finds has key (first ∷ keys) =
    pushed (has first)
    ∙ one_more (bytes_eq first key) (has first) (has key) (list_any (λ other. bytes_eq other key) keys) (list_any (λ other. bytes_eq other key) (filter has keys))
    (λ e. ap has ((bytes_decides first key).0 e)) (filter_finds has key keys)
  where
    pushed : (b : Bool) → list_any (λ other. bytes_eq other key) (cond b (first ∷ filter has keys) (filter has keys))
        ≡ cond b (bytes_eq first key || list_any (λ other. bytes_eq other key) (filter has keys)) (list_any (λ other. bytes_eq other key) (filter has keys))
    pushed true = refl
    pushed false = refl

-- a key of no element has no live one
no_element : (priority : ℕ) (elements : List Element) (key : List ℕ) → list_any (λ other. bytes_eq other key) (map (λ (element : Element). element.key) elements) ≡ false → ranked_elements priority elements key ≡ []
no_element priority [] key none = refl
no_element priority (element ∷ elements) key none =
    let parts = or_parts (bytes_eq element.key key) (list_any (λ other. bytes_eq other key) (map (λ (element : Element). element.key) elements)) none in
    rw parts.0 (no_element priority elements key parts.1)

no_live : (all blocks : List Block) (key : List ℕ) → list_any (λ other. bytes_eq other key) (element_keys blocks) ≡ false → live_among all key blocks ≡ []
no_live all [] key none = refl
no_live all (block ∷ blocks) key none =
    let keys = map (λ (element : Element). element.key) block.delta.elements in
    let parts = or_parts (list_any (λ other. bytes_eq other key) keys) (list_any (λ other. bytes_eq other key) (element_keys blocks))
    (sym (list_any-append (λ other. bytes_eq other key) keys (element_keys blocks)) ∙ none) in
    rw (no_element block.delta.priority block.delta.elements key parts.0, no_live all blocks key parts.1) (nothing (is_hidden all key block))
  where
    nothing : (b : Bool) → ◌≡◌ {A = List Ranked} (cond b [] [] ++ []) []
    nothing true = refl
    nothing false = refl

no_value : (blocks : List Block) (key : List ℕ) → list_any (λ other. bytes_eq other key) (element_keys blocks) ≡ false → has_value blocks key ≡ false
no_value blocks key none = ap (λ (ranked : List Ranked). is_some (option_map (λ (best : Ranked). best.1) (greatest ranked))) (no_live blocks blocks key none)

implied : (any has : Bool) → (any ≡ false → has ≡ false) → (any && has) ≡ has
implied true has none = refl
implied false has none = sym (none refl)

pub valued_exact : (blocks : List Block) (key : List ℕ) → list_any (λ other. bytes_eq other key) (valued_keys blocks) ≡ has_value blocks key
valued_exact blocks key =
    (ascending_ascends (slice_cmp nat_cmp) nat_list_cmp_total exact_bytes (filter (has_value blocks) (element_keys blocks))).members.same (λ other. bytes_eq other key)
    ∙ filter_finds (has_value blocks) key (element_keys blocks)
    ∙ implied (list_any (λ other. bytes_eq other key) (element_keys blocks)) (has_value blocks key) (no_value blocks key)
