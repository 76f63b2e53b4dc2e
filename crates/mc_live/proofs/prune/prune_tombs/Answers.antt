use Rattle.std.proofs.Common.{List, arith, subst}
use Rattle.std.proofs.lemmas.List.{take_all}
use Rattle.std.specs.List.{list_any}
use Rattle.std.specs.Str.{bytes_eq}
use Rattle.mc_live.specs.Prune.{PrunesKeys}
use Rattle.mc_model.specs.declared.delta.Tomb.{Tomb}
use Rattle.mc_live.specs.Rows.{rows_in}
use Rattle.mc_tombs.specs.Tombs.{has_tomb_in}
use Rattle.mc_live.proofs.PruneFacts.{prunes_next, prunes_nothing}
use Rattle.mc_live.proofs.prune.prune_tombs.Goals as goal

pub loop-tomb-init : goal.loop-tomb-init
loop-tomb-init c = prunes_nothing (has_tomb_in c.args.tombs.now.keys.keys c.args.tombs.now.ids.keys c.args.tombs.now.pairs.keys) c.args.calls.now (rows_in c.args.rows.now)

pub loop-tomb-preserved : goal.loop-tomb-preserved
loop-tomb-preserved c =
    prunes_next (has_tomb_in c.args.tombs.now.keys.keys c.args.tombs.now.ids.keys c.args.tombs.now.pairs.keys) c.args.calls.now (λ (x : Tomb). x.key) c.args.of.now c.loop-tomb.tomb-index c.tomb-item.result c.as_str.result.now
    (rows_in c.args.rows.now) (rows_in c.loop-tomb.rows) (rows_in c.prune_key.new.rows) c.loop-tomb-test.true c.tomb-item.is c.as_str.ensures c.loop-tomb.invariant c.prune_key.ensures

pub returns : goal.returns
returns c =
    subst (λ (z : List Tomb). PrunesKeys (has_tomb_in c.args.tombs.now.keys.keys c.args.tombs.now.ids.keys c.args.tombs.now.pairs.keys) c.args.calls.now (λ key. list_any (λ (x : Tomb). bytes_eq x.key key) z) (rows_in c.args.rows.now) (rows_in c.loop-tomb.rows))
    (take_all c.loop-tomb.tomb-index c.args.of.now (omega arith)) c.loop-tomb.invariant
