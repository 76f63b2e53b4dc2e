use Rattle.std.proofs.Common.{take}
use Rattle.std.specs.List.{list_any}
use Rattle.std.specs.Str.{bytes_eq}
use Rattle.mc_model.specs.declared.delta.Tomb.{Tomb}
use Rattle.mc_live.specs.Prune.{PrunesKeys}
use Rattle.mc_live.specs.Rows.{rows_in}
use Rattle.mc_tombs.specs.Tombs.{has_tomb_in}
use Rattle.mc_live.proofs.prune.prune_tombs.Given as goal

abbrev pub invariant-loop-tomb : goal.invariant-loop-tomb
invariant-loop-tomb l =
    PrunesKeys (has_tomb_in l.tombs.keys.keys l.tombs.ids.keys l.tombs.pairs.keys) l.calls (λ key. list_any (λ (x : Tomb). bytes_eq x.key key) (take l.tomb-index l.of)) (rows_in l.initial.rows) (rows_in l.rows)
