use Rattle.std.proofs.Common.{◌≡◌, take}
use Rattle.mc_model.specs.Who.{topmost}
use Rattle.mc_keep.specs.Changes.{has_tomb_row}
use Rattle.mc_keep.specs.LiveRows.{place_rows}
use Rattle.mc_rows.specs.Rows.{tombs_of}
use Rattle.mc_rows.specs.LastBlock.{LastFits}
use Rattle.mc_rows.specs.Values.{placed_best}
use Rattle.mc_rows.proofs.live.best_of_old.Given as goal

abbrev pub invariant-loop-row : goal.invariant-loop-row
invariant-loop-row l = record {
  best : placed_best l.best ≡ topmost (place_rows (has_tomb_row (tombs_of l.tombs) l.key) (take l.row-index l.rows));
  last : LastFits (tombs_of l.tombs) l.key l.last;
}
