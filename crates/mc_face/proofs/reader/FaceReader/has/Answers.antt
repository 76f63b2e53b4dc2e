use Rattle.std.proofs.Common.{rules, ap, ◌∙◌}
use Rattle.std.specs.Prelude.{is_some}
use Rattle.mc_face.specs.Exact.{StandsFor}
use Rattle.mc_face.specs.Faces.{blocks_of}
use Rattle.mc_face.specs.Lists.{Starts}
use Rattle.mc_face.specs.Pairs.{pairs_of}
use Rattle.mc_face.proofs.StartFacts.{heard_after}
use Rattle.mc_face.proofs.reader.FaceReader.has.Goals as goal

pub returns-clause-glance : goal.returns-clause-glance
returns-clause-glance g c =
    let begins : Starts (blocks_of c.again-front.result) c.args.self.now.seen = search rules in
    let informed : Starts (blocks_of c.again-front.result) c.args.self.now.told = search rules in
    let stands : StandsFor g.X.Exactness.exact (pairs_of c.get.result.now.values.entries) (blocks_of c.again-front.result) = search rules in
    record {
      length_is = search rules;
      begins = begins;
      informed = informed;
      ordered = heard_after c.args.self.now.seen c.args.self.now.told (blocks_of c.again-front.result) begins informed;
      answers = λ is. c.has-answer.ensures ∙ ap is_some (stands is c.args.key.now);
    }
