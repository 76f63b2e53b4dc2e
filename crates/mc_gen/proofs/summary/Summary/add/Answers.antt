use Rattle.std.proofs.Common.{refl, rules, ◌∙◌}
use Rattle.mc_gen.proofs.SumFacts.{sums_more}
use Rattle.mc_gen.proofs.summary.Summary.add.Goals as goal

pub returns : goal.returns
returns c = λ count replies sums. sums_more count replies c.args.self.now _ c.args.reply.now sums refl
    c.in_ok-self.ensures (search rules) (search rules) c.update.ensures (search rules)
