-- The same blocks in any order give the same values, links, heads and gaps.
use Rattle.std.proofs.Common.{◌≡◌, ℕ, Bool, true, false, not, cond, List, [], ◌∷◌, ◌||◌, ◌&&◌, sym, refl, ap, ◌∙◌, subst, inl, inr, length}
use Rattle.std.specs.Prelude.{is_some, filter}
use Rattle.std.specs.List.{list_any}
use Rattle.std.proofs.lemmas.List.Elements.{filter_agree}
use Rattle.std.proofs.lemmas.Bool.{or_right, or_left, or_cases}
use Rattle.mc_base.specs.declared.cid.Cid.{Cid}
use Rattle.mc_model.specs.declared.block.Block.{Block}
use Rattle.mc_model.specs.Ascending.{once}
use Rattle.mc_model.specs.Front.{same_cid, is_among, is_processed, is_linked, links, is_gap, gaps, head_of, head_cmp, heads, head_at}
use Rattle.mc_model.specs.Live.{has_tomb, is_hidden, is_tomb, ranked_in, live, value_row}
use Rattle.mc_model.specs.SameMembers.{SameMembers}
use Rattle.mc_model.proofs.Ascending.{ascending_fixed}
use Rattle.mc_model.proofs.Counts.{cid_is}
use Rattle.mc_model.proofs.Greatest.{greatest_same}
use Rattle.mc_model.proofs.Heads.{head_total, head_tied, heads_any, heads_sorted, is_head}
use Rattle.mc_model.proofs.Live.{live_among_alike}
use Rattle.mc_model.proofs.Members.{same_flat_map, same_filter, any_agree}
use Rattle.mc_model.proofs.OnceLength.{same_once_length}

has_any : (test : Cid → Bool) (x : Cid) (xs : List Cid) → list_any (same_cid x) xs ≡ true → test x ≡ true → list_any test xs ≡ true
has_any test x [] e t = absurd (cc)
has_any test x (y ∷ xs) e t = elim (or_cases (same_cid x y) (list_any (same_cid x) xs) e) [
  | inl s ↦ or_left _ _ (ap test (sym (cid_is x y s)) ∙ t)
  | inr s ↦ or_right (test y) _ (has_any test x xs s t)
]

once_any : (test : Cid → Bool) (xs : List Cid) → list_any test (once same_cid xs) ≡ list_any test xs
once_any test [] = refl
once_any test (x ∷ xs) =
    elim (list_any (same_cid x) xs) as (λ t. list_any (same_cid x) xs ≡ t → list_any test (elim t [ true ↦ once same_cid xs | false ↦ x ∷ once same_cid xs ]) ≡ (test x || list_any test xs)) [
      | true ↦ λ e. once_any test xs ∙ elim (test x) as (λ t. test x ≡ t → list_any test xs ≡ (t || list_any test xs)) [ true ↦ λ t. has_any test x xs e t | false ↦ λ t. refl ] refl
      | false ↦ λ e. ap (λ rest. test x || rest) (once_any test xs)
    ] refl

same_once : (xs ys : List Cid) → SameMembers xs ys → SameMembers (once same_cid xs) (once same_cid ys)
same_once xs ys same = record { same = λ test. once_any test xs ∙ same.same test ∙ sym (once_any test ys) }

module _ (xs ys : List Block) (same : SameMembers xs ys) where
  pub same_processed : (c : Cid) → is_processed xs c ≡ is_processed ys c
  same_processed c = same.same (λ (block : Block). same_cid c block.cid)

  pub same_linked : (c : Cid) → is_linked xs c ≡ is_linked ys c
  same_linked c = same.same (λ (block : Block). is_among block.links c)

  pub same_gap : (c : Cid) → is_gap xs c ≡ is_gap ys c
  same_gap c = ap (λ t. t && not (is_processed xs c)) (same_linked c) ∙ ap (λ t. is_linked ys c && not t) (same_processed c)

  pub same_hidden : (key id : List ℕ) → has_tomb xs key id ≡ has_tomb ys key id
  same_hidden key id = same.same (λ (block : Block). list_any (is_tomb key id) block.delta.tombstones)

  pub same_live : (key : List ℕ) → SameMembers (live xs key) (live ys key)
  same_live key =
      subst (λ first. SameMembers first (live ys key)) (sym (live_among_alike xs ys xs key (same_hidden key)))
      (same_flat_map (λ (block : Block). cond (is_hidden ys key block) [] (ranked_in key block)) xs ys same)

  pub same_value : (key : List ℕ) → value_row xs key ≡ value_row ys key
  same_value key = greatest_same (live xs key) (live ys key) (same_live key)

  -- the links that aren't processed
  open_links : SameMembers (filter (λ c. not (is_processed xs c)) (links xs)) (filter (λ c. not (is_processed ys c)) (links ys))
  open_links =
      subst (λ first. SameMembers first (filter (λ c. not (is_processed ys c)) (links ys)))
      (sym (filter_agree (λ c. not (is_processed xs c)) (λ c. not (is_processed ys c)) (λ c. ap not (same_processed c)) (links xs)))
      (same_filter (λ c. not (is_processed ys c)) (links xs) (links ys) (same_flat_map (λ (block : Block). block.links) xs ys same))

  pub same_gaps : SameMembers (gaps xs) (gaps ys)
  same_gaps =
      same_once (filter (λ c. not (is_processed xs c)) (links xs)) (filter (λ c. not (is_processed ys c)) (links ys)) open_links

  pub same_gap_count : length (gaps xs) ≡ length (gaps ys)
  same_gap_count =
      same_once_length (filter (λ c. not (is_processed xs c)) (links xs)) (filter (λ c. not (is_processed ys c)) (links ys)) open_links

  same_heads_members : SameMembers (heads xs) (heads ys)
  same_heads_members = record {
    same = λ test.
        heads_any test xs
        ∙ same.same (λ (block : Block). not (is_linked xs block.cid) && test (head_of block))
        ∙ any_agree (λ (block : Block). not (is_linked xs block.cid) && test (head_of block)) (λ (block : Block). not (is_linked ys block.cid) && test (head_of block))
        (λ block. ap (λ t. not t && test (head_of block)) (same_linked block.cid)) ys
        ∙ sym (heads_any test ys);
  }

  pub same_heads : heads xs ≡ heads ys
  same_heads = ascending_fixed head_cmp head_total head_tied (heads xs) (heads ys) (heads_sorted xs) (heads_sorted ys) same_heads_members

  pub same_head : (c : Cid) → is_some (head_at xs c) ≡ is_some (head_at ys c)
  same_head c =
      is_head xs c ∙ ap (λ t. t && not (is_linked xs c)) (same_processed c) ∙ ap (λ t. is_processed ys c && not t) (same_linked c) ∙ sym (is_head ys c)
