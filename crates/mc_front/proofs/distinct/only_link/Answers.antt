-- The links of a lone block, where it has at most one.
use Rattle.std.proofs.Common.{◌≡◌, ◌∙◌, ◌<◌, length, get_or, List, [], ◌∷◌, fold, refl, ap, subst, arith}
use Rattle.indexmap.specs.IndexSet.{insert_key}
use Rattle.mc_base.specs.declared.cid.Cid.{Cid}
use Rattle.mc_model.specs.declared.block.Block.{Block}
use Rattle.mc_model.specs.Front.{same_cid}
use Rattle.mc_front.specs.Steps.{different_links}
use Rattle.mc_front.proofs.distinct.only_link.Goals as goal

each_once : (links : List Cid) → length links < 2 → links ≡ fold (insert_key same_cid) [] links
each_once [] few = refl
each_once (link ∷ []) few = refl
each_once (link ∷ other ∷ links) few = absurd (omega (arith, few))

of_lone : (blocks : List Block) (block d : Block) (links : List Cid) → length blocks < 2 → 0 < length blocks → block ≡ get_or blocks 0 d → links ≡ block.links → length links < 2 → links ≡ different_links blocks
of_lone [] block d links below there at are few = absurd (omega (arith, there))
of_lone (b ∷ []) block d links below there at are few =
    let is : links ≡ b.links = are ∙ ap (λ (z : Block). z.links) at in
    is ∙ each_once b.links (subst (λ (z : List Cid). length z < 2) is few)
of_lone (b ∷ c ∷ blocks) block d links below there at are few = absurd (omega (arith, below))

pub returns-in-empty : goal.returns-in-empty
returns-in-empty c = of_lone c.args.blocks.now c.block-item.result _ c.as_slice-links.result.now c.in-len1.len_below c.in-len1.len_at_least c.block-item.is c.as_slice-links.ensures c.in-empty.len_below
