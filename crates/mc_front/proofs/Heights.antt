-- The heights of heads, as they are looked up.
use Rattle.std.proofs.Common.{◌≡◌, ℕ, Bool, true, false, not, cond, List, [], ◌∷◌, ◌++◌, ◌||◌, ◌&&◌, Option, Some, None, sym, refl, ap, ◌∙◌, subst, map, filter}
use Rattle.std.specs.Prelude.{fold, is_some}
use Rattle.std.specs.List.{list_any, find}
use Rattle.std.specs.Option.{option_map}
use Rattle.std.proofs.lemmas.Bool.{and_parts, not-true}
use Rattle.mc_base.specs.declared.cid.Cid.{Cid}
use Rattle.mc_base.proofs.Booleans.{none_there}
use Rattle.mc_model.specs.declared.block.Block.{Block}
use Rattle.mc_model.specs.Ascending.{is_once}
use Rattle.mc_model.specs.Front.{same_cid, is_among, is_processed}
use Rattle.mc_model.proofs.Counts.{cid_is}
use Rattle.mc_model.proofs.Members.{list_any-map}
use Rattle.mc_keep.specs.declared.rows.HeadRow.{HeadRow}
use Rattle.mc_keep.specs.Changes.{head_with, head_without}
use Rattle.mc_front.specs.Front.{head_row}

abbrev pub cids_of : List Block → List Cid
cids_of blocks = map (λ (block : Block). block.cid) blocks

-- the height of the block with this identifier
abbrev pub height : List Block → Cid → Option ℕ
height blocks c = option_map (λ (block : Block). block.delta.priority) (find (λ (block : Block). same_cid c block.cid) blocks)

abbrev pub or_else : Option ℕ → Option ℕ → Option ℕ
or_else None h = h
or_else (Some n) h = Some n

pub among_cids : (c : Cid) (xs : List Block) → is_among (cids_of xs) c ≡ is_processed xs c
among_cids c xs = list_any-map (same_cid c) (λ (block : Block). block.cid) xs

both_none : (t : Bool) → cond {A = Option ℕ} t None None ≡ None
both_none true = refl
both_none false = refl

pub height_there : (c : Cid) (xs : List Block) → is_some (height xs c) ≡ is_processed xs c
height_there c [] = refl
height_there c (b ∷ xs) =
    elim (same_cid c b.cid) as (λ s. is_some (option_map (λ (block : Block). block.delta.priority) (cond s (Some b) (find (λ (block : Block). same_cid c block.cid) xs))) ≡ (s || is_processed xs c)) [
      | true ↦ refl
      | false ↦ height_there c xs
    ]

pub height-append : (c : Cid) (xs ys : List Block) → height (xs ++ ys) c ≡ or_else (height xs c) (height ys c)
height-append c [] ys = refl
height-append c (b ∷ xs) ys =
    elim (same_cid c b.cid) as (λ s. option_map (λ (block : Block). block.delta.priority) (cond s (Some b) (find (λ (block : Block). same_cid c block.cid) (xs ++ ys)))
    ≡ or_else (option_map (λ (block : Block). block.delta.priority) (cond s (Some b) (find (λ (block : Block). same_cid c block.cid) xs))) (height ys c)) [
      | true ↦ refl
      | false ↦ height-append c xs ys
    ]

abbrev left : (Cid → Bool) → List Block → List Block
left keep xs = filter (λ (block : Block). keep block.cid) xs

pub height-filter : (keep : Cid → Bool) (c : Cid) (xs : List Block) → height (filter (λ (block : Block). keep block.cid) xs) c ≡ cond (keep c) (height xs c) None
height-filter keep c [] = sym (both_none (keep c))
height-filter keep c (b ∷ xs) =
    elim (same_cid c b.cid) as (λ s. same_cid c b.cid ≡ s
    → height (cond (keep b.cid) (b ∷ left keep xs) (left keep xs)) c ≡ cond (keep c) (option_map (λ (block : Block). block.delta.priority) (cond s (Some b) (find (λ (block : Block). same_cid c block.cid) xs))) None) [
      | true ↦ λ s. subst (λ (z : Bool). height (cond z (b ∷ left keep xs) (left keep xs)) c ≡ cond (keep c) (Some b.delta.priority) None) (ap keep (cid_is c b.cid s))
          (elim (keep c) as (λ t. keep c ≡ t → height (cond t (b ∷ left keep xs) (left keep xs)) c ≡ cond t (Some b.delta.priority) None) [
            | true ↦ λ k. ap (λ z. option_map (λ (block : Block). block.delta.priority) (cond z (Some b) (find (λ (block : Block). same_cid c block.cid) (left keep xs)))) s
            | false ↦ λ k. height-filter keep c xs ∙ ap (λ z. cond z (height xs c) None) k
          ] refl)
      | false ↦ λ s. elim (keep b.cid) as (λ t. height (cond t (b ∷ left keep xs) (left keep xs)) c ≡ cond (keep c) (height xs c) None) [
        | true ↦ ap (λ z. option_map (λ (block : Block). block.delta.priority) (cond z (Some b) (find (λ (block : Block). same_cid c block.cid) (left keep xs)))) s ∙ height-filter keep c xs
        | false ↦ height-filter keep c xs
      ]
    ] refl

pub map-filter : (keep : Cid → Bool) (xs : List Block) → cids_of (filter (λ (block : Block). keep block.cid) xs) ≡ filter keep (cids_of xs)
map-filter keep [] = refl
map-filter keep (b ∷ xs) =
    elim (keep b.cid) as (λ t. cids_of (cond t (b ∷ filter (λ (block : Block). keep block.cid) xs) (filter (λ (block : Block). keep block.cid) xs)) ≡ cond t (b.cid ∷ filter keep (cids_of xs)) (filter keep (cids_of xs))) [
      | true ↦ ap (λ rest. b.cid ∷ rest) (map-filter keep xs)
      | false ↦ map-filter keep xs
    ]

-- rows that are put in turn

pub rows_put : (c : Cid) (h : Option ℕ) (xs : List Block) → is_once same_cid (cids_of xs) ≡ true → fold (head_with c) h (map head_row xs) ≡ or_else (height xs c) h
rows_put c h [] once = refl
rows_put c h (b ∷ xs) once =
    let parts = and_parts (not (is_among (cids_of xs) b.cid)) (is_once same_cid (cids_of xs)) once in
    rows_put c (head_with c h (head_row b)) xs parts.1
    ∙ elim (same_cid c b.cid) as (λ s. same_cid c b.cid ≡ s → or_else (height xs c) (cond s (Some b.delta.priority) h)
    ≡ or_else (option_map (λ (block : Block). block.delta.priority) (cond s (Some b) (find (λ (block : Block). same_cid c block.cid) xs))) h) [
      | true ↦ λ s. ap (λ z. or_else z (Some b.delta.priority))
          (none_there (height xs c) (height_there c xs ∙ sym (among_cids c xs) ∙ ap (λ (z : Cid). is_among (cids_of xs) z) (cid_is c b.cid s) ∙ not-true (is_among (cids_of xs) b.cid) parts.0))
      | false ↦ λ s. refl
    ] refl

pub rows_taken : (c : Cid) (h : Option ℕ) (out : List Cid) → fold (head_without c) h out ≡ cond (is_among out c) None h
rows_taken c h [] = refl
rows_taken c h (x ∷ out) =
    rows_taken c (head_without c h x) out
    ∙ elim (same_cid c x) as (λ s. cond (is_among out c) None (cond s None h) ≡ cond (s || is_among out c) None h) [
      | true ↦ both_none (is_among out c)
      | false ↦ refl
    ]

-- no row stands twice where no block does

rows_any : (c : Cid) (xs : List Block) → list_any (λ (row : HeadRow). same_cid c row.cid) (map head_row xs) ≡ list_any (same_cid c) (cids_of xs)
rows_any c [] = refl
rows_any c (b ∷ xs) = ap (λ t. same_cid c b.cid || t) (rows_any c xs)

pub rows_once : (xs : List Block) → is_once (λ (a b : HeadRow). same_cid a.cid b.cid) (map head_row xs) ≡ is_once same_cid (cids_of xs)
rows_once [] = refl
rows_once (b ∷ xs) =
    ap (λ t. not t && is_once (λ (a b : HeadRow). same_cid a.cid b.cid) (map head_row xs)) (rows_any b.cid xs)
    ∙ ap (λ t. not (list_any (same_cid b.cid) (cids_of xs)) && t) (rows_once xs)
