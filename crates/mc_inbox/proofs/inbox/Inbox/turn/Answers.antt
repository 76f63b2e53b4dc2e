use Rattle.std.proofs.Common.{◌≡◌, ◌∙◌, ap, arith, suc, ◌+◌, ◌++◌, take, drop, subst, sym}
use Rattle.mc_inbox.specs.Waiting.{turned}
use Rattle.mc_inbox.proofs.InboxFacts.{turn_more}
use Rattle.mc_inbox.proofs.inbox.Inbox.turn.Goals as goal

pub loop-preserved : goal.loop-preserved
loop-preserved c =
    let some = c.requires.some in
    let test = c.loop-test.true in
    let next : suc c.loop.counter ≡ c.loop.counter + 1 = omega arith in
    record {
      items = c.turn_one.ensures.items ∙ ap turned c.loop.invariant.items ∙ turn_more c.loop.counter c.args.self.now.items (omega (arith, some, test)) ∙ ap (λ n. drop n c.args.self.now.items ++ take n c.args.self.now.items) next;
      room = c.turn_one.ensures.room ∙ c.loop.invariant.room;
    }
