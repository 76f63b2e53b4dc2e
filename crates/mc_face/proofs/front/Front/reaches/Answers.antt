use Rattle.std.proofs.Common.{List, ap, subst, refl}
use mathlib.Core.List.{IsPrefix}
use Rattle.mc_model.specs.declared.block.Block.{Block}
use Rattle.mc_face.proofs.StartFacts.{reaches_by}
use Rattle.mc_face.proofs.front.Front.reaches.Goals as goal

pub returns-clause-starts : goal.returns-clause-starts
returns-clause-starts c =
    let both : List (List Block) = c.learn.new.self.log in
    let mine : IsPrefix c.args.self.now.seen.log both = subst (λ (l : List (List Block)). IsPrefix l both) (ap (λ s. s.log) c.again-both.ensures) c.learn.ensures.2 in
    reaches_by c.args.self.now.seen.log c.args.other.now.seen.log both c.args.self.now.count c.args.other.now.count c.args.self.now.counted c.args.other.now.counted mine c.learn.ensures.3 _ refl
