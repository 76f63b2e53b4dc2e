-- The seats of a storm's writers: before they write, and after.
use Rattle.std.specs.Prelude.{◌≡◌, ℕ, List, [], Option}
use Rattle.mc_turn.specs.declared.view.View.{View}
use Rattle.mc_storm.specs.declared.outcome.Stormed.{Stormed}
use Rattle.mc_node.specs.Items.{Item}
use Rattle.mc_writers.specs.Writers.{HasWritten}

module _ {E : Type 0} where
  -- a seat of the node that may put, and has made nothing yet
  pub record IsReady (Owned Unsealed : Type 0) (seat : View E) : Type 0 where
    pub own : Owned
    pub unsealed : Unsealed
    pub unused : seat.mine ≡ []

  -- a writer has ended, with the log that its seat has seen then
  pub record HasStormed (Owned : Type 0) (writes before number : ℕ) (wrote : Option Stormed)
      (log : List Item) (old new : View E) : Type 0 where
    pub own : Owned
    pub number_same : number ≡ before
    pub parts_same : new.parts ≡ old.parts
    pub written : HasWritten number writes wrote log new
