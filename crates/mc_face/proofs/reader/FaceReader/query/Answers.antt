use Rattle.std.proofs.Common.{map, rules}
use Rattle.mc_query.specs.Places.{pair_of}
use Rattle.mc_face.specs.Faces.{blocks_of}
use Rattle.mc_face.specs.Lists.{Starts}
use Rattle.mc_face.proofs.AnswerFacts.{rows_answer}
use Rattle.mc_face.proofs.QueryFacts.{glance_rows}
use Rattle.mc_face.proofs.StartFacts.{heard_after}
use Rattle.mc_face.proofs.reader.FaceReader.query.Goals as goal

pub returns-in-Ok-clause-glance : goal.returns-in-Ok-clause-glance
returns-in-Ok-clause-glance g c =
    let begins : Starts (blocks_of c.again-front.result) c.args.self.now.seen = search rules in
    let informed : Starts (blocks_of c.again-front.result) c.args.self.now.told = search rules in
    record {
      length_is = search rules;
      begins = begins;
      informed = informed;
      ordered = heard_after c.args.self.now.seen c.args.self.now.told (blocks_of c.again-front.result) begins informed;
      answers = glance_rows g.X.Exactness.exact c.get.result.now.values (blocks_of c.again-front.result) c.args.prefix.now c.args.skip c.args.count (map pair_of c.in-Ok.answer)
          c.valued_keys_are_exact.ensures.sorted c.valued_keys_are_exact.ensures.exact c.in-Ok.ensures.ordered (search rules) c.in-Ok.ensures.rows;
    }

pub returns-in-Ok-clause-ascend : goal.returns-in-Ok-clause-ascend
returns-in-Ok-clause-ascend g c = rows_answer c.args.prefix.now c.get.result.now.values.entries c.args.skip c.args.count c.in-Ok.answer c.in-Ok.ensures.ordered c.in-Ok.ensures.rows
