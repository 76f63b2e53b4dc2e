use Rattle.std.proofs.Common.{◌≡◌, ℕ, List, ◌≢◌, All}
use Rattle.mc_turn.specs.Views.{noted_view}
use Rattle.mc_turn.specs.Seats.{view, IsSameSeat}
use Rattle.mc_turn.proofs.turn.Turn.take.Given as goal

abbrev pub invariant-loop : goal.invariant-loop
invariant-loop g l = IsSameSeat l.initial.seat l.seat × ((words : List ℕ) × All (λ word. word ≢ 0) words × (view l.seat ≡ noted_view (view l.initial.seat) words))
