use Rattle.std.proofs.Common.{◌≡◌, ◌≤◌, [], All, length, vec_capacity}
use Rattle.std.specs.Arc.{arc_value}
use Rattle.crossbeam_queue.specs.Passes.{view, IsPassOf}
use Rattle.mc_relay.specs.Ends.{giver_knows}
use Rattle.mc_relay.specs.Passes.{made_view}
use Rattle.mc_relay.proofs.opening.share.Given as goal

abbrev pub invariant-loop : goal.invariant-loop
invariant-loop g l = record {
  own : IsPassOf (arc_value l.relay).queue l.pass;
  made : view l.pass ≡ made_view l.counter;
  givers : All (λ end. (giver_knows end.giver).pushed ≡ []) l.posts.items;
  count : length l.posts.items ≡ l.counter;
  room : l.fn.givers ≤ vec_capacity l.posts;
}
