use Rattle.std.proofs.Common.{◌∙◌, ap, map}
use Rattle.mc_write.specs.Rows.{last_rows}
use Rattle.mc_write.specs.Pairs.{all_seen, row_pair}
use Rattle.mc_write.proofs.TakenFacts.{taken_told}
use Rattle.mc_write.proofs.seen.seen_pairs.Goals as goal

pub returns-clause-row : goal.returns-clause-row
returns-clause-row g c =
    taken_told (g.K.Keeper.told c.args.keeper.now) c.args.key.now c.in_ok-rows.rows (all_seen c.in_ok-pairs.pairs.items) (all_seen c.in_order.result.items) c.in_ok-rows.ensures.row
    (c.in_ok-pairs.ensures.pairs ∙ ap (map row_pair) (c.last_of_blocks-rows.ensures ∙ ap last_rows c.into_vec.ensures)) c.in_order.ensures.ascends
