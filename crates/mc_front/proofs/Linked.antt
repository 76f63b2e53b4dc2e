-- The different links of a group of blocks.
use Rattle.std.proofs.Common.{◌≡◌, ◌+◌, ◌≤◌, Bool, true, false, cond, List, [], ◌∷◌, ◌++◌, ◌||◌, sym, refl, ap, ◌∙◌, arith, filter}
use Rattle.std.specs.Prelude.{fold, if◌then◌else◌}
use Rattle.std.proofs.lemmas.List.Folds.{list_any-append}
use Rattle.std.proofs.Math.Bool.{or-false}
use Rattle.indexmap.specs.IndexSet.{insert_key}
use Rattle.mc_base.specs.declared.cid.Cid.{Cid}
use Rattle.mc_model.specs.declared.block.Block.{Block}
use Rattle.mc_model.specs.Ascending.{is_once}
use Rattle.mc_model.specs.Front.{same_cid, is_among, is_linked}
use Rattle.mc_model.specs.Graph.{times}
use Rattle.mc_model.proofs.Blocks.{times_once, once_times}
use Rattle.mc_model.proofs.Counts.{cid_is, times_none, times-append, times-one, times-filter}
use Rattle.mc_front.specs.Steps.{with_links, different_links}

-- members

or_join : (a b c : Bool) → ((a || b) || c) ≡ (a || (b || c))
or_join true b c = refl
or_join false b c = refl

insert_among : (c : Cid) (keys : List Cid) (link : Cid) → is_among (insert_key same_cid keys link) c ≡ (is_among keys c || same_cid c link)
insert_among c keys link =
    elim (is_among keys link) as (λ t. is_among keys link ≡ t → is_among (if t then keys else keys ++ link ∷ []) c ≡ (is_among keys c || same_cid c link)) [
      | true ↦ λ e. elim (same_cid c link) as (λ s. same_cid c link ≡ s → is_among keys c ≡ (is_among keys c || s)) [
        | true ↦ λ s. there s e
        | false ↦ λ s. sym (or-false (is_among keys c))
      ] refl
      | false ↦ λ e. list_any-append (same_cid c) keys (link ∷ []) ∙ ap (λ t. is_among keys c || t) (or-false (same_cid c link))
    ] refl
  where
    there : same_cid c link ≡ true → is_among keys link ≡ true → is_among keys c ≡ (is_among keys c || true)
    there s e =
        let here : is_among keys c ≡ true = ap (λ (z : Cid). is_among keys z) (cid_is c link s) ∙ e in
        here ∙ sym (ap (λ t. t || true) here)

fold_among : (c : Cid) (keys cids : List Cid) → is_among (fold (insert_key same_cid) keys cids) c ≡ (is_among keys c || is_among cids c)
fold_among c keys [] = sym (or-false (is_among keys c))
fold_among c keys (x ∷ cids) =
    fold_among c (insert_key same_cid keys x) cids
    ∙ ap (λ t. t || is_among cids c) (insert_among c keys x)
    ∙ or_join (is_among keys c) (same_cid c x) (is_among cids c)

links_among : (c : Cid) (keys : List Cid) (blocks : List Block) → is_among (fold with_links keys blocks) c ≡ (is_among keys c || is_linked blocks c)
links_among c keys [] = sym (or-false (is_among keys c))
links_among c keys (b ∷ blocks) =
    links_among c (with_links keys b) blocks
    ∙ ap (λ t. t || is_linked blocks c) (fold_among c keys b.links)
    ∙ or_join (is_among keys c) (is_among b.links c) (is_linked blocks c)

-- an identifier is among the different links exactly where a block links to it
pub linked_among : (blocks : List Block) (c : Cid) → is_among (different_links blocks) c ≡ is_linked blocks c
linked_among blocks c = links_among c [] blocks

-- and none stands there twice

insert_times : (c : Cid) (keys : List Cid) (link : Cid) → ((d : Cid) → times d keys ≤ 1) → times c (insert_key same_cid keys link) ≤ 1
insert_times c keys link once =
    elim (is_among keys link) as (λ t. is_among keys link ≡ t → times c (if t then keys else keys ++ link ∷ []) ≤ 1) [
      | true ↦ λ e. once c
      | false ↦ λ e.
          let sum : times c (keys ++ link ∷ []) ≡ times c keys + cond (same_cid c link) 1 0 = times-append c keys (link ∷ []) ∙ ap (λ n. times c keys + n) (times-one c link) in
          elim (same_cid c link) as (λ s. same_cid c link ≡ s → times c (keys ++ link ∷ []) ≡ times c keys + cond s 1 0 → times c (keys ++ link ∷ []) ≤ 1) [
            | true ↦ λ s k. let none : times c keys ≡ 0 = ap (λ (z : Cid). times z keys) (cid_is c link s) ∙ times_none link keys e in omega (arith, k, none)
            | false ↦ λ s k. omega (arith, k, once c)
          ] refl sum
    ] refl

fold_times : (keys cids : List Cid) → ((d : Cid) → times d keys ≤ 1) → (c : Cid) → times c (fold (insert_key same_cid) keys cids) ≤ 1
fold_times keys [] once c = once c
fold_times keys (x ∷ cids) once c = fold_times (insert_key same_cid keys x) cids (λ d. insert_times d keys x once) c

links_times : (keys : List Cid) (blocks : List Block) → ((d : Cid) → times d keys ≤ 1) → (c : Cid) → times c (fold with_links keys blocks) ≤ 1
links_times keys [] once c = once c
links_times keys (b ∷ blocks) once c = links_times (with_links keys b) blocks (fold_times keys b.links once) c

pub linked_once : (blocks : List Block) → is_once same_cid (different_links blocks) ≡ true
linked_once blocks = once_times (different_links blocks) (links_times [] blocks (λ d. omega arith))

-- a filter keeps it so
pub once_filter : (keep : Cid → Bool) (xs : List Cid) → is_once same_cid xs ≡ true → is_once same_cid (filter keep xs) ≡ true
once_filter keep xs once = once_times (filter keep xs) at_most
  where
    at_most : (c : Cid) → times c (filter keep xs) ≤ 1
    at_most c =
        elim (keep c) as (λ t. times c (filter keep xs) ≡ cond t (times c xs) 0 → times c (filter keep xs) ≤ 1) [
          | true ↦ λ e. omega (arith, e, times_once xs once c)
          | false ↦ λ e. omega (arith, e)
        ] (times-filter c keep xs)
