-- Blocks that differ are new to an empty keeper.
use Rattle.std.proofs.Common.{◌≡◌, true, not, List, [], ◌∷◌, ◌&&◌, sym, refl, ap, ◌∙◌, subst}
use Rattle.mc_model.specs.declared.block.Block.{Block}
use Rattle.mc_model.specs.Ascending.{is_once}
use Rattle.mc_model.specs.Front.{same_cid, is_processed}
use Rattle.mc_model.specs.Kept.{Kept, nothing_kept}
use Rattle.mc_model.proofs.Members.{none_passes}
use Rattle.mc_keep.specs.New.{AreNew}
use Rattle.mc_front.proofs.Heights.{cids_of, among_cids}

once_cids : (blocks : List Block) → is_once same_cid (cids_of blocks) ≡ is_once (λ (a b : Block). same_cid a.cid b.cid) blocks
once_cids [] = refl
once_cids (b ∷ blocks) =
    ap (λ t. not t && is_once same_cid (cids_of blocks)) (among_cids b.cid blocks)
    ∙ ap (λ t. not (is_processed blocks b.cid) && t) (once_cids blocks)

pub first_group : (kept : Kept) (blocks : List Block) → kept ≡ nothing_kept → is_once (λ (a b : Block). same_cid a.cid b.cid) blocks ≡ true → AreNew kept blocks
first_group kept blocks e once =
    subst (λ (z : Kept). AreNew z blocks) (sym e) (once_cids blocks ∙ once, none_passes (cids_of blocks))
