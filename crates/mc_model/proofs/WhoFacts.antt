-- The block that gives a key its value.
use Rattle.std.proofs.Common.{◌≡◌, ℕ, Bool, true, false, cond, List, [], ◌∷◌, ◌++◌, map, Option, Some, None, sym, refl, ap, ◌∙◌, subst}
use Rattle.std.specs.Prelude.{fold}
use Rattle.std.specs.List.{list_any, flat_map}
use Rattle.std.specs.Option.{option_map}
use Rattle.std.specs.Cmp.Lexicographic.{slice_cmp}
use Rattle.std.specs.Ordering.{is_lt, is_gt, is_eq, nat_cmp, ordering_then, ordering_reverse}
use Rattle.std.specs.declared.cmp.Ordering.{Ordering}
use Rattle.std.specs.declared.cmp.Ordering.TheVariants.{Less, Equal, Greater}
use Rattle.std.proofs.lemmas.Cmp.{nat_list_cmp_total, tied_itself}
use Rattle.std.proofs.lemmas.List.{map-append}
use Rattle.mc_base.specs.declared.cid.Cid.{Cid}
use Rattle.mc_model.specs.declared.block.Block.{Block}
use Rattle.mc_model.specs.Id.{id_text}
use Rattle.mc_model.specs.Live.{has_tomb, is_hidden, ranked_in, live_among, live, value_row}
use Rattle.mc_model.specs.Rank.{Ranked, rank_cmp, greater, greatest}
use Rattle.mc_model.specs.SameMembers.{SameMembers}
use Rattle.mc_model.specs.Who.{Placed, placed_cmp, same_placed, higher, topmost, placed_in, placed_among, live_places, top_row, who, is_holding, IsWhoOf}
use Rattle.mc_model.proofs.Greatest.{rank_total, rank_tied}
use Rattle.mc_model.proofs.Members.{same_flat_map}
use Rattle.mc_model.proofs.Same.{same_hidden}
use Rattle.mc_model.proofs.Topmost.{topmost_same, topmost_member, topmost_bound, tied_gt, tied_all}

abbrev pub ranked_in_place : Placed → Ranked
ranked_in_place p = p.0

abbrev pub block_in_place : Placed → Cid
block_in_place p = p.1

-- the value of the topmost is the greatest of the values

one_higher : (best : Option Placed) (next : Placed) → greater (option_map ranked_in_place best) next.0 ≡ option_map ranked_in_place (higher best next)
one_higher None next = refl
one_higher (Some best) next = by (rank_cmp best.0 next.0) refl
  where
    tied : (o : Ordering) → best.0 ≡ next.0 → Some best.0 ≡ option_map ranked_in_place (cond (is_lt o) (Some next) (Some best))
    tied Less e = ap Some e
    tied Equal e = refl
    tied Greater e = refl

    by : (o : Ordering) → rank_cmp best.0 next.0 ≡ o
        → cond (is_lt o) (Some next.0) (Some best.0) ≡ option_map ranked_in_place (cond (is_lt (ordering_then o (slice_cmp nat_cmp next.1.0 best.1.0))) (Some next) (Some best))
    by Less e = refl
    by Equal e = tied (slice_cmp nat_cmp next.1.0 best.1.0) (rank_tied best.0 next.0 e)
    by Greater e = refl

fold_higher : (best : Option Placed) (places : List Placed) → fold greater (option_map ranked_in_place best) (map ranked_in_place places) ≡ option_map ranked_in_place (fold higher best places)
fold_higher best [] = refl
fold_higher best (p ∷ places) = ap (λ (b : Option Ranked). fold greater b (map ranked_in_place places)) (one_higher best p) ∙ fold_higher (higher best p) places

pub greatest_of_places : (places : List Placed) → greatest (map ranked_in_place places) ≡ option_map ranked_in_place (topmost places)
greatest_of_places places = fold_higher None places

in_one : (cid : Cid) (ranked : List Ranked) → map ranked_in_place (map (λ (r : Ranked). (r, cid)) ranked) ≡ ranked
in_one cid [] = refl
in_one cid (r ∷ ranked) = ap (λ rest. r ∷ rest) (in_one cid ranked)

among_places : (all : List Block) (key : List ℕ) (blocks : List Block) → live_among all key blocks ≡ map ranked_in_place (placed_among all key blocks)
among_places all key [] = refl
among_places all key (b ∷ blocks) =
    ap (λ rest. cond (is_hidden all key b) [] (ranked_in key b) ++ rest) (among_places all key blocks)
    ∙ ap (λ front. front ++ map ranked_in_place (placed_among all key blocks)) (one (is_hidden all key b))
    ∙ sym (map-append ranked_in_place (cond (is_hidden all key b) [] (placed_in key b)) (placed_among all key blocks))
  where
    one : (t : Bool) → cond t [] (ranked_in key b) ≡ map ranked_in_place (cond t [] (placed_in key b))
    one true = refl
    one false = sym (in_one b.cid (ranked_in key b))

pub value_is_top : (blocks : List Block) (key : List ℕ) → value_row blocks key ≡ option_map ranked_in_place (top_row blocks key)
value_is_top blocks key = ap greatest (among_places blocks key blocks) ∙ greatest_of_places (live_places blocks key)

-- it is the block of the least identifier

turned : (o p : Ordering) → o ≡ ordering_reverse p → is_gt o ≡ is_lt p
turned o Less e = ap is_gt e
turned o Equal e = ap is_gt e
turned o Greater e = ap is_gt e

no_lesser : (ranked : Ranked) (cid other : Cid) → is_gt (placed_cmp (ranked, other) (ranked, cid)) ≡ false → is_lt (slice_cmp nat_cmp other.0 cid.0) ≡ false
no_lesser ranked cid other e =
    sym (turned (slice_cmp nat_cmp cid.0 other.0) (slice_cmp nat_cmp other.0 cid.0) (nat_list_cmp_total.antisymm cid.0 other.0))
    ∙ ap (λ o. is_gt (ordering_then o (slice_cmp nat_cmp cid.0 other.0))) (sym (tied_itself rank_total ranked)) ∙ e

pub who_is_least : (blocks : List Block) (key : List ℕ) → IsWhoOf blocks key (who blocks key)
who_is_least blocks key = by (top_row blocks key) refl
  where
    by : (top : Option Placed) → top_row blocks key ≡ top → IsWhoOf blocks key (option_map block_in_place top)
    by None e = value_is_top blocks key ∙ ap (option_map ranked_in_place) e
    by (Some p) e = record {
      ranked = p.0;
      is_value = value_is_top blocks key ∙ ap (option_map ranked_in_place) e;
      holds = topmost_member (live_places blocks key) p e;
      least = λ other has. no_lesser p.0 p.1 other
          (tied_gt (live_places blocks key) (p.0, other) p (tied_all (p.0, other) (live_places blocks key) ∙ has) (topmost_bound (live_places blocks key) p e));
    }

-- it depends on the members alone

pub placed_among_alike : (all all' blocks : List Block) (key : List ℕ) → ((id : List ℕ) → has_tomb all key id ≡ has_tomb all' key id) → placed_among all key blocks ≡ placed_among all' key blocks
placed_among_alike all all' [] key same = refl
placed_among_alike all all' (b ∷ blocks) key same =
    ap (λ t. cond t [] (placed_in key b) ++ placed_among all key blocks) (same (id_text b.cid.0))
    ∙ ap (λ rest. cond (is_hidden all' key b) [] (placed_in key b) ++ rest) (placed_among_alike all all' blocks key same)

pub same_top : (xs ys : List Block) → SameMembers xs ys → (key : List ℕ) → top_row xs key ≡ top_row ys key
same_top xs ys same key = topmost_same (live_places xs key) (live_places ys key)
    (subst (λ first. SameMembers first (live_places ys key)) (sym (placed_among_alike xs ys xs key (same_hidden xs ys same key)))
    (same_flat_map (λ (block : Block). cond (is_hidden ys key block) [] (placed_in key block)) xs ys same))

pub same_who : (xs ys : List Block) → SameMembers xs ys → (key : List ℕ) → who xs key ≡ who ys key
same_who xs ys same key = ap (option_map block_in_place) (same_top xs ys same key)
