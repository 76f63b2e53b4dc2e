use Rattle.std.proofs.Common.{rules}
use Rattle.mc_dagpb.specs.Reads.{view_text}
use Rattle.mc_dagpb.proofs.NodeFacts.{bad_node, good_node, next_node}
use Rattle.mc_dagpb.proofs.NodeText.{node_told}
use Rattle.mc_dagpb.proofs.read.view_node.Goals as goal

pub returns-in_err-step-clause-fault : goal.returns-in_err-step-clause-fault
returns-in_err-step-clause-fault c =
    let l = c.loop-view in
    let bad = bad_node c.args.bytes.now l.at l.order (view_text l.view) _ l.invariant c.in_err-step.ensures.fault in
    search (rules, bad)

pub loop-view-preserved : goal.loop-view-preserved
loop-view-preserved c =
    let l = c.loop-view in
    let stepped = rw c.in-Some.is at c.in_ok-step.ensures.step in
    rw c.in_ok-take.ensures (next_node c.args.bytes.now l.at l.order c.after-order.result (view_text l.view) c.in-Some.step l.invariant stepped c.after-order.ensures)

pub returns-clause-read : goal.returns-clause-read
returns-clause-read c =
    let l = c.loop-view in
    good_node c.args.bytes.now l.at l.order (view_text l.view) l.invariant (rw c.in_default.is at c.in_ok-step.ensures.end)

pub returns-clause-node : goal.returns-clause-node
returns-clause-node c =
    let l = c.loop-view in
    let view = view_text l.view in
    node_told c.args.bytes.now view.links view.payload (good_node c.args.bytes.now l.at l.order view l.invariant (rw c.in_default.is at c.in_ok-step.ensures.end))
