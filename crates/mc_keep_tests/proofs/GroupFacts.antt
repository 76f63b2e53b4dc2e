-- Groups of stored blocks in a commit.
use Rattle.std.proofs.Common.{◌≡◌, ℕ, Bool, true, false, List, [], ◌∷◌, map, ◌||◌, ◌&&◌, Option, Some, None, Ok, inl, refl, sym, ap, subst, ◌∙◌}
use Rattle.std.specs.Prelude.{IfSome}
use Rattle.std.specs.List.{list_any, list_all}
use Rattle.std.specs.Result.{is_ok}
use Rattle.mc_base.specs.declared.cid.Cid.{Cid}
use Rattle.mc_model.specs.declared.block.Block.{Block}
use Rattle.mc_model.specs.declared.block.Stored.{Stored}
use Rattle.mc_model.specs.Ascending.{is_once}
use Rattle.mc_model.specs.Front.{same_cid, is_among}
use Rattle.mc_model.specs.Kept.{Kept, IsKept, blocks_in, is_stored}
use Rattle.mc_model.specs.Offer.{offer}
use Rattle.mc_model.specs.declared.layout.Layout.{Layout}
use Rattle.mc_model.proofs.Blocks.{block_in_cid}
use Rattle.mc_keep.specs.declared.changes.Changes.{Changes}
use Rattle.mc_keep.specs.Changes.{no_changes}
use Rattle.mc_keep.specs.New.{AreNew}
use Rattle.mc_keep.specs.Tables.{ChangesFit, Meets}
use Rattle.mc_plan.specs.Uptakes.{Processes}
use Rattle.mc_plan.proofs.UptakeFacts.{StoringLaw, FitLaw}

-- changes that fit are changes that a keeper takes
pub takes : (told : Option Kept) (layout : Layout) (changes : Changes) → IfSome told (λ kept. ChangesFit kept changes) → IfSome told (λ kept. Meets layout kept changes)
takes None layout changes fits = tt
takes (Some kept) layout changes fits = inl fits

-- bytes that are a block may be stored
pub told_may_store : (law : StoringLaw) (told : Option Kept) (cid : Cid) (bytes : List ℕ) (block : Block) (changes : Changes) → changes ≡ record no_changes { store = record { cid = cid; bytes = bytes } ∷ [] }
    → offer cid bytes ≡ Ok block → IfSome told (λ kept. false ≡ is_stored kept.graph cid) → IfSome told (λ kept. ChangesFit kept changes)
told_may_store law None cid bytes block changes is good new = tt
told_may_store law (Some kept) cid bytes block changes is good new =
    let s : List Stored = record { cid = cid; bytes = bytes } ∷ [] in
    subst (ChangesFit kept) (sym is) (law kept s (record { good = ap (λ r. is_ok r && true) good; new = ap (λ b. b || false) (sym new); once = refl }))

cids_back : (graph : List Stored) (cids : List Cid) → map (λ (block : Block). block.cid) (blocks_in graph cids) ≡ cids
cids_back graph [] = refl
cids_back graph (c ∷ cids) = ap (λ z. z ∷ map (λ (block : Block). block.cid) (blocks_in graph cids)) (block_in_cid graph c) ∙ ap (λ z. c ∷ z) (cids_back graph cids)

abbrev cids_in : List Block → List Cid
cids_in blocks = map (λ (block : Block). block.cid) blocks

pub told_new : (told : Option Kept) (cids : List Cid) (blocks : List Block) → IfSome told (λ kept. blocks ≡ blocks_in kept.graph cids) → is_once same_cid cids ≡ true
    → IfSome told (λ kept. list_any (is_among kept.order) cids ≡ false) → IfSome told (λ kept. AreNew kept blocks)
told_new None cids blocks are once none = tt
told_new (Some kept) cids blocks are once none =
    let back : cids_in blocks ≡ cids = ap cids_in are ∙ cids_back kept.graph cids in
    (ap (is_once same_cid) back ∙ once, ap (list_any (is_among kept.order)) back ∙ none)

module _ (fit_law : FitLaw) where
  pub told_may_process : (told : Option Kept) (whole : Bool) (cids : List Cid) (blocks : List Block) (changes : Changes) → IfSome told (λ kept. blocks ≡ blocks_in kept.graph cids)
      → IfSome told (λ kept. list_all (is_stored kept.graph) cids ≡ true) → is_once same_cid cids ≡ true → IfSome told (λ kept. list_any (is_among kept.order) cids ≡ false)
      → IfSome told (λ kept. Processes kept whole blocks (map (λ (block : Block). block.cid) blocks) changes) → IfSome told (λ kept. ChangesFit kept changes)
  told_may_process None whole cids blocks changes are stored once none p = tt
  told_may_process (Some kept) whole cids blocks changes are stored once none p =
      let back : cids_in blocks ≡ cids = ap cids_in are ∙ cids_back kept.graph cids in
      fit_law kept blocks changes p.only p.marks (told_new (Some kept) cids blocks are once none)
      (ap (list_all (is_stored kept.graph)) back ∙ stored) (ap (blocks_in kept.graph) back ∙ sym are) p.rows p.front p.ordinary

-- the same at the moments of a call

none_told : (told : Option Kept) (none : Bool) (cids : List Cid) → none ≡ true → IfSome told (λ kept. none ≡ true → list_any (is_among kept.order) cids ≡ false) → IfSome told (λ kept. list_any (is_among kept.order) cids ≡ false)
none_told None none cids done p = tt
none_told (Some kept) none cids done p = p done

pub new_now : (old mid now : Option Kept) (cids : List Cid) (blocks slice : List Block) (none : Bool) → mid ≡ old → now ≡ mid → slice ≡ blocks → IfSome old (λ kept. blocks ≡ blocks_in kept.graph cids)
    → is_once same_cid cids ≡ true → none ≡ true → IfSome mid (λ kept. none ≡ true → list_any (is_among kept.order) cids ≡ false) → IfSome now (λ kept. AreNew kept slice)
new_now old mid now cids blocks slice none e1 e2 is are once done p =
    subst (λ t. IfSome t (λ kept. AreNew kept slice)) (sym (e2 ∙ e1))
    (subst (λ b. IfSome old (λ kept. AreNew kept b)) (sym is)
    (told_new old cids blocks are once (none_told old none cids done (subst (λ t. IfSome t (λ kept. none ≡ true → list_any (is_among kept.order) cids ≡ false)) e1 p))))

pub process_now : (fit_law : FitLaw) (old mid now last : Option Kept) (whole : Bool) (cids : List Cid) (blocks slice : List Block) (none : Bool) (changes : Changes)
    → mid ≡ old → now ≡ mid → last ≡ now → slice ≡ blocks → IfSome old (λ kept. blocks ≡ blocks_in kept.graph cids) → IfSome old (λ kept. list_all (is_stored kept.graph) cids ≡ true)
    → is_once same_cid cids ≡ true → none ≡ true → IfSome mid (λ kept. none ≡ true → list_any (is_among kept.order) cids ≡ false)
    → IfSome now (λ kept. Processes kept whole slice (map (λ (block : Block). block.cid) slice) changes) → IfSome last (λ kept. ChangesFit kept changes)
process_now fit_law old mid now last whole cids blocks slice none changes e1 e2 e3 is are stored once done p processes =
    subst (λ t. IfSome t (λ kept. ChangesFit kept changes)) (sym (e3 ∙ (e2 ∙ e1)))
    (told_may_process fit_law old whole cids blocks changes are stored once
    (none_told old none cids done (subst (λ t. IfSome t (λ kept. none ≡ true → list_any (is_among kept.order) cids ≡ false)) e1 p))
    (subst (λ b. IfSome old (λ kept. Processes kept whole b (map (λ (block : Block). block.cid) b) changes)) is
    (subst (λ t. IfSome t (λ kept. Processes kept whole slice (map (λ (block : Block). block.cid) slice) changes)) (e2 ∙ e1) processes)))
