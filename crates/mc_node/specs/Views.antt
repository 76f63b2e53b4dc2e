-- What a call of a node does to a seat.
use Rattle.std.specs.Prelude.{◌≡◌, ◌-◌, List, ◌++◌, length}
use Rattle.mc_turn.specs.declared.view.View.{View}
use Rattle.mc_turn.specs.Lists.{Begins, places}
use Rattle.mc_turn.specs.Views.{IsTaken}

module _ {E : Type 0} where
  -- the seat took the turn with this log, and gave it back with what it has seen then
  pub record Turned (before after : View E) (P : List E → List E → Type 0) : Type 0 where
    pub taken : List E
    pub known : IsTaken before taken
    pub extends : Begins taken after.seen
    pub mine : after.mine ≡ before.mine ++ places (length taken) (length after.seen - length taken)
    pub parts_same : after.parts ≡ before.parts
    pub base_same : after.base ≡ before.base
    pub fits : P taken after.seen
