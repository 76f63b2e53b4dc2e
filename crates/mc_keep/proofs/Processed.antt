-- What is processed after changes.
use Rattle.std.proofs.Common.{◌≡◌, true, false, cond, List, [], ◌∷◌, ◌++◌, Some, refl, ap, ◌∙◌}
use Rattle.std.specs.Prelude.{is_some, find}
use Rattle.std.specs.List.{list_all}
use Rattle.std.specs.Option.{option_map}
use Rattle.std.proofs.lemmas.List.{map-append}
use Rattle.std.proofs.lemmas.Bool.{and_parts}
use Rattle.mc_base.specs.declared.cid.Cid.{Cid}
use Rattle.mc_model.specs.declared.block.Stored.{Stored}
use Rattle.mc_model.specs.Front.{same_cid}
use Rattle.mc_model.specs.Kept.{Kept, IsKept, processed, blocks_in, block_in, block_under, bytes_at, is_stored}
use Rattle.mc_keep.specs.declared.changes.Changes.{Changes}
use Rattle.mc_keep.specs.Changes.{changed, newly_processed}

-- blocks that are stored are the same when more are stored

found_still : (graph more : List Stored) (cid : Cid) → is_stored graph cid ≡ true → bytes_at (graph ++ more) cid ≡ bytes_at graph cid
found_still [] more cid e = absurd (let f : false ≡ true = e in cc)
found_still (s ∷ graph) more cid e =
    elim (same_cid cid s.cid) as (λ t. is_some (option_map (λ (stored : Stored). stored.bytes) (cond t (Some s) (find (λ (stored : Stored). same_cid cid stored.cid) graph))) ≡ true
    → option_map (λ (stored : Stored). stored.bytes) (cond t (Some s) (find (λ (stored : Stored). same_cid cid stored.cid) (graph ++ more))) ≡ option_map (λ (stored : Stored). stored.bytes) (cond t (Some s) (find (λ (stored : Stored). same_cid cid stored.cid) graph))) [
      | true ↦ λ h. refl
      | false ↦ λ h. found_still graph more cid h
    ] e

pub blocks_still : (graph more : List Stored) (cids : List Cid) → list_all (is_stored graph) cids ≡ true → blocks_in (graph ++ more) cids ≡ blocks_in graph cids
blocks_still graph more [] e = refl
blocks_still graph more (cid ∷ cids) e =
    let parts = and_parts (is_stored graph cid) (list_all (is_stored graph) cids) e in
    ap (λ bytes. block_under cid bytes ∷ blocks_in (graph ++ more) cids) (found_still graph more cid parts.0) ∙ ap (λ rest. block_in graph cid ∷ rest) (blocks_still graph more cids parts.1)

pub processed_after : (kept : Kept) (changes : Changes) → IsKept kept → processed (changed kept changes) ≡ processed kept ++ newly_processed kept changes
processed_after kept changes sound =
    map-append (block_in (kept.graph ++ changes.store)) kept.order changes.marks
    ∙ ap (λ z. z ++ newly_processed kept changes) (blocks_still kept.graph changes.store kept.order sound.stored)
