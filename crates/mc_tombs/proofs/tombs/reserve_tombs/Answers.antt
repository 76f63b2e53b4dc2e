use Rattle.mc_tombs.proofs.TombFacts.{same_numbers, same_tombs}
use Rattle.mc_tombs.proofs.tombs.reserve_tombs.Goals as goal

pub invariant_of-tombs-2 : goal.invariant_of-tombs-2
invariant_of-tombs-2 g c = record {
  numbers = same_numbers c.args.tombs.now.keys.keys c.args.tombs.now.ids.keys c.reserve.new.self.keys c.reserve-2.new.self.keys c.args.tombs.now.pairs.keys c.reserve_pairs.new.pairs.keys
      c.reserve.ensures.keys c.reserve-2.ensures.keys c.reserve_pairs.ensures.pairs c.args.tombs.now.numbers;
}

pub returns-clause-tombs : goal.returns-clause-tombs
returns-clause-tombs g c =
    same_tombs c.args.tombs.now.keys.keys c.args.tombs.now.ids.keys c.reserve.new.self.keys c.reserve-2.new.self.keys c.args.tombs.now.pairs.keys c.reserve_pairs.new.pairs.keys
    c.reserve.ensures.keys c.reserve-2.ensures.keys c.reserve_pairs.ensures.pairs
