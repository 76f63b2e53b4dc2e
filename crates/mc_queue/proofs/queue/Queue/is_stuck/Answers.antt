use Rattle.std.proofs.Common.{◌∙◌, ◌||◌, ap, sym}
use Rattle.std.proofs.lemmas.Bool.{or_left}
use Rattle.mc_model.specs.Graph.{has}
use Rattle.mc_model.specs.Wanted.{bad_cids}
use Rattle.mc_queue.specs.Views.{shown}
use Rattle.mc_queue.proofs.queue.Queue.is_stuck.Goals as goal

pub returns-then-is_within : goal.returns-then-is_within
returns-then-is_within c = λ cid is. c.if-is_within.true ∙ sym (or_left (has cid (shown c.args.self.now).missing) (has cid (bad_cids (shown c.args.self.now).bad)) (sym (c.is_within.ensures cid is) ∙ c.if-is_within.true))

pub returns-else-is_within : goal.returns-else-is_within
returns-else-is_within c = λ cid is. c.is_within-else-is_within.ensures cid is ∙ ap (λ b. b || has cid (bad_cids (shown c.args.self.now).bad)) (sym (sym (c.is_within.ensures cid is) ∙ c.if-is_within.false))
