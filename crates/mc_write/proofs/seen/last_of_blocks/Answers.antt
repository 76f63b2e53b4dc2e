use Rattle.std.proofs.Common.{◌∙◌, ap, rules}
use Rattle.std.specs.List.{dedup}
use Rattle.std.proofs.lemmas.Fn.{dedup_same}
use Rattle.mc_write.specs.Rows.{same_block}
use Rattle.mc_write.proofs.seen.last_of_blocks.Goals as goal

pub returns : goal.returns
returns c =
    let kept = dedup_same _ same_block _ (λ x y b f' x' y' k. search rules) _ _ c.dedup_by.ensures.filtered in
    kept ∙ ap (dedup same_block) c.reverse.ensures.items
