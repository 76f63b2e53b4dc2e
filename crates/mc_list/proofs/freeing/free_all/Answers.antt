use Rattle.std.proofs.Common.{sym, ap, ◌∙◌, map}
use denote.RawPtr.{Ptr}
use Rattle.mc_list.proofs.freeing.free_all.Goals as goal
use Rattle.mc_list.specs.declared.node.Link.{Link}
use Rattle.mc_list.proofs.DropFacts.{first_is, rest_is, none_left, drop_next, dropped_all}

pub loop-link-init : goal.loop-link-init
loop-link-init g c = sym c.requires

pub give_first-requires : goal.give_first-requires
give_first-requires g c = first_is c.loop-link.cells.cells _ _ (c.loop-link.invariant ∙ drop_next (λ (k : Link g.row.T.Denot). k.at) c.args.table.now c.loop-link.link-index (record { at = denote.RawPtr.null_ptr; place = 0 }) c.loop-link-test.true)

pub loop-link-preserved : goal.loop-link-preserved
loop-link-preserved g c = ap (λ cs. map (λ d. d.0) cs) c.give_first.ensures ∙ rest_is c.loop-link.cells.cells _ _ (c.loop-link.invariant ∙ drop_next (λ (k : Link g.row.T.Denot). k.at) c.args.table.now c.loop-link.link-index (record { at = denote.RawPtr.null_ptr; place = 0 }) c.loop-link-test.true)

pub returns : goal.returns
returns g c = none_left c.loop-link.cells.cells (c.loop-link.invariant ∙ dropped_all (λ (k : Link g.row.T.Denot). k.at) c.args.table.now c.loop-link.link-index c.loop-link-test.false)
