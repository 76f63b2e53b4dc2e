use Rattle.std.proofs.Common.{◌≡◌}
use Rattle.mc_fetch.specs.Calls.{HasAsked}
use Rattle.mc_fetch.proofs.FirstFacts.{FirstFrom, SureFrom}
use Rattle.mc_fetch.proofs.first.first_match.Given as goal

abbrev pub invariant-loop-place : goal.invariant-loop-place
invariant-loop-place g l = record {
  asked : HasAsked g.F.Fetch g.F.Counted l.fn.fetch l.fetch;
  end : l.places ≡ g.F.Fetch.places l.fn.fetch;
  sure : SureFrom l.cid (g.F.Fetch.leading l.fn.fetch l.cid) l.place;
  so_far : FirstFrom l.cid l.place (g.F.Fetch.offers l.fn.fetch);
}
