-- Lists that have each gap just once are as long as the list of gaps.
use Rattle.std.proofs.Common.{◌≡◌, ℕ, Bool, true, false, not, cond, List, [], ◌∷◌, ◌||◌, ◌&&◌, sym, refl, ap, ◌∙◌, subst, arith, length, filter}
use Rattle.std.specs.List.{list_any, AllByRecursion, IsDistinct}
use Rattle.std.proofs.Math.Bool.{and-false}
use Rattle.std.proofs.lemmas.Bool.{not_from_false, and_from}
use Rattle.mc_base.specs.declared.cid.Cid.{Cid}
use Rattle.mc_model.specs.declared.block.Block.{Block}
use Rattle.mc_model.specs.Ascending.{is_once}
use Rattle.mc_model.specs.Front.{same_cid, is_among, is_processed, is_gap, links, gaps}
use Rattle.mc_model.specs.Graph.{times}
use Rattle.mc_model.proofs.Blocks.{is_linked_has, times_once}
use Rattle.mc_model.proofs.Counts.{cid_is, times_has, times_none}
use Rattle.mc_model.proofs.OnceLength.{once_list, same_length}

none_same : (x : Cid) (xs : List Cid) → AllByRecursion (λ y. same_cid x y ≡ false) xs → list_any (same_cid x) xs ≡ false
none_same x [] all = refl
none_same x (y ∷ xs) all = ap (λ t. t || list_any (same_cid x) xs) all.0 ∙ none_same x xs all.1

-- keys that differ stand once
pub distinct_once : (keys : List Cid) → IsDistinct same_cid keys → is_once same_cid keys ≡ true
unfolding IsDistinct
distinct_once [] distinct = refl
distinct_once (x ∷ keys) distinct =
    and_from (not (list_any (same_cid x) keys)) (is_once same_cid keys)
    (not_from_false (list_any (same_cid x) keys) (none_same x keys distinct.0)) (distinct_once keys distinct.1)

-- how often an identifier stands in a list without repeats
pub once_times_is : (xs : List Cid) → is_once same_cid xs ≡ true → (c : Cid) → times c xs ≡ cond (is_among xs c) 1 0
once_times_is xs once c =
    elim (is_among xs c) as (λ t. is_among xs c ≡ t → ◌≡◌ {A = ℕ} (times c xs) (cond t 1 0)) [
      | true ↦ λ h. omega (arith, times_has c xs h, times_once xs once c)
      | false ↦ λ h. times_none c xs h
    ] refl

-- a filter by a test of identifiers
pub among_filter : (keep : Cid → Bool) (c : Cid) (xs : List Cid) → is_among (filter keep xs) c ≡ (is_among xs c && keep c)
among_filter keep c [] = refl
among_filter keep c (x ∷ xs) =
    elim (same_cid c x) as (λ s. same_cid c x ≡ s → is_among (cond (keep x) (x ∷ filter keep xs) (filter keep xs)) c ≡ ((s || is_among xs c) && keep c)) [
      | true ↦ λ s. subst (λ (z : Cid). is_among (cond (keep z) (x ∷ filter keep xs) (filter keep xs)) c ≡ keep c) (cid_is c x s)
          (elim (keep c) as (λ t. keep c ≡ t → is_among (cond t (x ∷ filter keep xs) (filter keep xs)) c ≡ t) [
            | true ↦ λ k. ap (λ z. z || is_among (filter keep xs) c) s
            | false ↦ λ k. among_filter keep c xs ∙ ap (λ z. is_among xs c && z) k ∙ and-false (is_among xs c)
          ] refl)
      | false ↦ λ s. elim (keep x) as (λ t. is_among (cond t (x ∷ filter keep xs) (filter keep xs)) c ≡ (is_among xs c && keep c)) [
        | true ↦ ap (λ z. z || is_among (filter keep xs) c) s ∙ among_filter keep c xs
        | false ↦ among_filter keep c xs
      ]
    ] refl

gap_among : (blocks : List Block) (c : Cid) → is_gap blocks c ≡ is_among (filter (λ cid. not (is_processed blocks cid)) (links blocks)) c
gap_among blocks c =
    ap (λ z. z && not (is_processed blocks c)) (is_linked_has blocks c)
    ∙ sym (among_filter (λ cid. not (is_processed blocks cid)) c (links blocks))

-- how often an identifier stands among the gaps
pub gap_times : (blocks : List Block) (c : Cid) → times c (gaps blocks) ≡ cond (is_gap blocks c) 1 0
gap_times blocks c =
    once_list (filter (λ cid. not (is_processed blocks cid)) (links blocks)) c
    ∙ ap (λ (t : Bool). cond {A = ℕ} t 1 0) (sym (gap_among blocks c))

pub gap_count : (keys : List Cid) (blocks : List Block) → IsDistinct same_cid keys → ((cid : Cid) → is_among keys cid ≡ is_gap blocks cid) → length keys ≡ length (gaps blocks)
gap_count keys blocks distinct same =
    same_length keys (gaps blocks) (times_once keys (distinct_once keys distinct))
    (λ c. gap_times blocks c ∙ ap (λ (t : Bool). cond {A = ℕ} t 1 0) (sym (same c)) ∙ sym (once_times_is keys (distinct_once keys distinct) c))
