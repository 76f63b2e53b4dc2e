use Rattle.std.specs.Prelude.{drop}
use Rattle.mc_face.proofs.Ruled.{goes_on}
use Rattle.mc_face.proofs.WriterFacts.{shown_begins, shown_one, shown_stands, ready_after, front_after}
use Rattle.mc_face.proofs.writer.show.Goals as goal

pub publish_as-requires : goal.publish_as-requires
publish_as-requires g c next is =
    let shown = c.args.pen.desk.shown.value in
    let ops = drop c.args.pen.behind c.args.pen.log.items in
    let ready = c.requires.ready in
    let front = c.args.front.now in
    goes_on g.X.Exactness.exact _ _ shown next (shown_one g.X.Exactness.exact shown next ops front ready is) (shown_begins g.X.Exactness.exact shown next ops front ready is)
    (shown_stands g.X.Exactness.exact shown next ops front ready is)

pub returns-clause-ready : goal.returns-clause-ready
returns-clause-ready g c =
    ready_after g.X.Exactness.exact c.args.pen.desk.shown.value c.publish_as.result.0.desk.shown.value (drop c.args.pen.behind c.args.pen.log.items)
    (drop c.publish_as.result.0.behind c.publish_as.result.0.log.items) c.args.front.now c.requires.ready c.publish_as.result.1 c.publish_as.ensures.values

pub returns-clause-shown : goal.returns-clause-shown
returns-clause-shown g c =
    front_after g.X.Exactness.exact c.args.pen.desk.shown.value c.publish_as.result.0.desk.shown.value (drop c.args.pen.behind c.args.pen.log.items)
    (drop c.publish_as.result.0.behind c.publish_as.result.0.log.items) c.args.front.now c.requires.ready c.publish_as.result.1 c.publish_as.ensures.values
