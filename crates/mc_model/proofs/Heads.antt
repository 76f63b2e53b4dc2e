-- The order of heads, and heads as members.
use Rattle.std.proofs.Common.{◌≡◌, ℕ, Bool, true, false, not, cond, List, [], ◌∷◌, map, Some, None, ◌||◌, ◌&&◌, sym, refl, ap, ◌∙◌}
use Rattle.std.specs.Prelude.{is_some, filter}
use Rattle.std.specs.List.{list_any, find}
use Rattle.std.specs.List.Sorted.{IsStrictlySortedBy}
use Rattle.std.specs.Option.{option_map}
use Rattle.std.specs.Cmp.{IsTotalOrder}
use Rattle.std.specs.Cmp.Lexicographic.{slice_cmp}
use Rattle.std.specs.Ordering.{nat_cmp}
use Rattle.std.specs.declared.cmp.Ordering.TheVariants.{Equal}
use Rattle.std.specs.FinMap.{nat_cmp-IsAntisymmetric, slice_cmp-IsAntisymmetric}
use Rattle.std.proofs.lemmas.Cmp.{then_total, on_total, nat_cmp_total, nat_list_cmp_total}
use Rattle.std.proofs.Math.Bool.{and-false, and-true}
use Rattle.mc_base.specs.declared.cid.Cid.{Cid}
use Rattle.mc_base.proofs.Orders.{then_equal}
use Rattle.mc_model.specs.declared.block.Block.{Block}
use Rattle.mc_model.specs.Front.{same_cid, is_processed, is_linked, Head, head_of, head_cmp, heads, head_at}
use Rattle.mc_model.proofs.Ascending.{ascending_ascends}
use Rattle.mc_model.proofs.Counts.{cid_is}
use Rattle.mc_model.proofs.Members.{list_any-map, list_any-filter}

pub head_total : IsTotalOrder head_cmp
head_total = then_total (on_total (λ (head : Head). head.0.0) nat_list_cmp_total) (on_total (λ (head : Head). head.1) nat_cmp_total)

abbrev head_with : List ℕ → ℕ → Head
head_with digest height = (record { 0 = digest }, height)

pub head_tied : (x y : Head) → head_cmp x y ≡ Equal → x ≡ y
head_tied x y e =
    let parts = then_equal (slice_cmp nat_cmp x.0.0 y.0.0) (nat_cmp x.1 y.1) e in
    ap (λ (d : List ℕ). head_with d x.1) (slice_cmp-IsAntisymmetric nat_cmp-IsAntisymmetric x.0.0 y.0.0 parts.0)
    ∙ ap (head_with y.0.0) (nat_cmp-IsAntisymmetric x.1 y.1 parts.1)

pub heads_sorted : (blocks : List Block) → IsStrictlySortedBy head_cmp (heads blocks)
heads_sorted blocks = (ascending_ascends head_cmp head_total head_tied (map head_of (filter (λ (block : Block). not (is_linked blocks block.cid)) blocks))).sorted

-- a test finds a head where it finds a block that none links to
pub heads_any : (test : Head → Bool) (blocks : List Block) → list_any test (heads blocks) ≡ list_any (λ (block : Block). not (is_linked blocks block.cid) && test (head_of block)) blocks
heads_any test blocks =
    (ascending_ascends head_cmp head_total head_tied (map head_of (filter (λ (block : Block). not (is_linked blocks block.cid)) blocks))).members.same test
    ∙ list_any-map test head_of (filter (λ (block : Block). not (is_linked blocks block.cid)) blocks)
    ∙ list_any-filter (λ (block : Block). test (head_of block)) (λ (block : Block). not (is_linked blocks block.cid)) blocks

some_found : {A B : Type 0} (f : A → B) (test : A → Bool) (xs : List A) → is_some (option_map f (find test xs)) ≡ list_any test xs
some_found f test [] = refl
some_found f test (x ∷ xs) = elim (test x) as (λ t. is_some (option_map f (cond t (Some x) (find test xs))) ≡ (t || list_any test xs)) [ true ↦ refl | false ↦ some_found f test xs ]

-- a head is a processed block that none links to
pub is_head : (blocks : List Block) (c : Cid) → is_some (head_at blocks c) ≡ (is_processed blocks c && not (is_linked blocks c))
is_head blocks c =
    elim (is_linked blocks c) as (λ t. is_some (cond t None (option_map (λ (block : Block). block.delta.priority) (find (λ (block : Block). same_cid c block.cid) blocks))) ≡ (is_processed blocks c && not t)) [
      | true ↦ sym (and-false (is_processed blocks c))
      | false ↦ some_found (λ (block : Block). block.delta.priority) (λ (block : Block). same_cid c block.cid) blocks ∙ sym (and-true (is_processed blocks c))
    ]

-- the identifiers of the heads are those of the processed blocks that none links to
pub heads_cid : (blocks : List Block) (c : Cid) → list_any (same_cid c) (map (λ (head : Head). head.0) (heads blocks)) ≡ (is_processed blocks c && not (is_linked blocks c))
heads_cid blocks c =
    list_any-map (same_cid c) (λ (head : Head). head.0) (heads blocks)
    ∙ heads_any (λ (head : Head). same_cid c head.0) blocks
    ∙ tested (λ d. not (is_linked blocks d)) blocks
  where
    tested : (keep : Cid → Bool) (all : List Block) → list_any (λ (block : Block). keep block.cid && same_cid c block.cid) all ≡ (is_processed all c && keep c)
    tested keep [] = refl
    tested keep (b ∷ all) =
        elim (same_cid c b.cid) as (λ s. same_cid c b.cid ≡ s → ((keep b.cid && s) || list_any (λ (block : Block). keep block.cid && same_cid c block.cid) all) ≡ ((s || is_processed all c) && keep c)) [
          | true ↦ λ s. ap (λ z. (z && true) || list_any (λ (block : Block). keep block.cid && same_cid c block.cid) all) (ap keep (sym (cid_is c b.cid s))) ∙ ap (λ z. (keep c && true) || z) (tested keep all) ∙ once_more (keep c) (is_processed all c)
          | false ↦ λ s. ap (λ z. z || list_any (λ (block : Block). keep block.cid && same_cid c block.cid) all) (and-false (keep b.cid)) ∙ tested keep all
        ] refl
      where
        once_more : (k p : Bool) → ((k && true) || (p && k)) ≡ k
        once_more true p = refl
        once_more false true = refl
        once_more false false = refl
