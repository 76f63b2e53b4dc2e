-- The same blocks give the same answers, in whatever groups they are processed.
use Rattle.std.proofs.Common.{◌≡◌, ℕ, Bool, List, [], ◌∷◌, ◌++◌, ◌&&◌, map, Option, sym, refl, ap, ◌∙◌, subst, take, drop}
use Rattle.std.specs.Prelude.{is_some, filter, unwrap_or}
use Rattle.std.specs.List.{list_any}
use Rattle.std.specs.Option.{option_map}
use Rattle.std.specs.Ordering.{nat_cmp}
use Rattle.std.specs.Cmp.Lexicographic.{slice_cmp}
use Rattle.std.proofs.lemmas.Cmp.{nat_list_cmp_total}
use Rattle.std.proofs.lemmas.List.Elements.{filter_agree}
use Rattle.std.proofs.lemmas.Map.Lookups.{exact_bytes}
use Rattle.mc_base.specs.declared.cid.Cid.{Cid}
use Rattle.mc_model.specs.declared.block.Block.{Block}
use Rattle.mc_model.specs.declared.delta.Element.{Element}
use Rattle.mc_model.specs.Answers.{has_value, element_keys, valued_keys, with_value, query, SameAnswers, joined, processed_in_groups}
use Rattle.mc_model.specs.Events.{with_processed, processed_queue}
use Rattle.mc_model.specs.Kept.{block_in, blocks_in}
use Rattle.mc_model.specs.Live.{value}
use Rattle.mc_model.specs.Rank.{Ranked}
use Rattle.mc_model.specs.SameMembers.{SameMembers}
use Rattle.mc_model.specs.State.{Durable, Running, stored_of}
use Rattle.mc_model.proofs.Ascending.{ascending_fixed, ascending_ascends}
use Rattle.mc_model.proofs.Members.{list_any-filter, list_any-map, same_flat_map, same_append}
use Rattle.mc_model.proofs.Same.{same_value}
use Rattle.mc_model.proofs.Valued.{valued_sorted}

module _ (xs ys : List Block) (same : SameMembers xs ys) where
  get_same : (key : List ℕ) → value xs key ≡ value ys key
  get_same key = ap (λ (row : Option Ranked). option_map (λ (best : Ranked). best.1) row) (same_value xs ys same key)

  has_same : (key : List ℕ) → has_value xs key ≡ has_value ys key
  has_same key = ap is_some (get_same key)

  keys_members : SameMembers (valued_keys xs) (valued_keys ys)
  keys_members = record {
    same = λ test.
        (ascending_ascends (slice_cmp nat_cmp) nat_list_cmp_total exact_bytes (filter (has_value xs) (element_keys xs))).members.same test
        ∙ ap (list_any test) (filter_agree (has_value xs) (has_value ys) has_same (element_keys xs))
        ∙ list_any-filter test (has_value ys) (element_keys xs)
        ∙ (same_flat_map (λ (block : Block). map (λ (element : Element). element.key) block.delta.elements) xs ys same).same (λ key. has_value ys key && test key)
        ∙ sym (list_any-filter test (has_value ys) (element_keys ys))
        ∙ sym ((ascending_ascends (slice_cmp nat_cmp) nat_list_cmp_total exact_bytes (filter (has_value ys) (element_keys ys))).members.same test);
  }

  keys_same : valued_keys xs ≡ valued_keys ys
  keys_same =
      ascending_fixed (slice_cmp nat_cmp) nat_list_cmp_total exact_bytes (valued_keys xs) (valued_keys ys) (valued_sorted xs) (valued_sorted ys) keys_members

  map_agree : (keys : List (List ℕ)) → map (with_value xs) keys ≡ map (with_value ys) keys
  map_agree [] = refl
  map_agree (key ∷ keys) =
      ap (λ v. (key, unwrap_or v []) ∷ map (with_value xs) keys) (get_same key) ∙ ap (λ rest. with_value ys key ∷ rest) (map_agree keys)

  query_same : (selects : List ℕ → Bool) (skip count : ℕ) → query xs selects skip count ≡ query ys selects skip count
  query_same selects skip count =
      map_agree (take count (drop skip (filter selects (valued_keys xs)))) ∙ ap (λ keys. map (with_value ys) (take count (drop skip (filter selects keys)))) keys_same

  pub same_answers : SameAnswers xs ys
  same_answers = record { get = get_same; has = has_same; rows = query_same }

append_nil : {X : Type 0} (xs : List X) → xs ++ [] ≡ xs
append_nil [] = refl
append_nil (x ∷ xs) = ap (λ rest. x ∷ rest) (append_nil xs)

append_more : {X : Type 0} (xs ys zs : List X) → (xs ++ ys) ++ zs ≡ xs ++ (ys ++ zs)
append_more [] ys zs = refl
append_more (x ∷ xs) ys zs = ap (λ rest. x ∷ rest) (append_more xs ys zs)

-- after the groups, their members stand in the order
groups_stand : (groups : List (List Cid)) (durable : Durable) (run : Running) → processed_in_groups durable run groups ≡ blocks_in (map stored_of durable.graph) (durable.order ++ joined groups)
groups_stand [] durable run = ap (blocks_in (map stored_of durable.graph)) (sym (append_nil durable.order))
groups_stand (group ∷ groups) durable run =
    groups_stand groups (with_processed run.whole durable group) (record run { queue = processed_queue durable run.queue group })
    ∙ ap (blocks_in (map stored_of durable.graph)) (append_more durable.order group (joined groups))

same_map : {A B : Type 0} (f : A → B) (xs ys : List A) → SameMembers xs ys → SameMembers (map f xs) (map f ys)
same_map f xs ys same = record { same = λ test. list_any-map test f xs ∙ same.same (λ x. test (f x)) ∙ sym (list_any-map test f ys) }

pub same_groups : (durable : Durable) (run : Running) (xs ys : List (List Cid)) → SameMembers (joined xs) (joined ys) → SameAnswers (processed_in_groups durable run xs) (processed_in_groups durable run ys)
same_groups durable run xs ys same =
    same_answers _ _
    (subst (λ first. SameMembers first (processed_in_groups durable run ys)) (sym (groups_stand xs durable run))
    (subst (λ second. SameMembers (blocks_in (map stored_of durable.graph) (durable.order ++ joined xs)) second) (sym (groups_stand ys durable run))
    (same_map (block_in (map stored_of durable.graph)) (durable.order ++ joined xs) (durable.order ++ joined ys) (same_append durable.order (joined xs) (joined ys) same))))
