use Rattle.std.proofs.Common.{take}
use Rattle.std.specs.List.{list_any}
use Rattle.std.specs.Str.{bytes_eq}
use Rattle.mc_model.specs.declared.delta.Element.{Element}
use Rattle.mc_live.specs.Prune.{PrunesKeys}
use Rattle.mc_live.specs.Rows.{rows_in}
use Rattle.mc_tombs.specs.Tombs.{has_tomb_in}
use Rattle.mc_live.proofs.prune.prune_elements.Given as goal

abbrev pub invariant-loop-element : goal.invariant-loop-element
invariant-loop-element l =
    PrunesKeys (has_tomb_in l.tombs.keys.keys l.tombs.ids.keys l.tombs.pairs.keys) l.calls (λ key. list_any (λ (x : Element). bytes_eq x.key key) (take l.element-index l.of)) (rows_in l.initial.rows) (rows_in l.rows)
