-- The keepers of a world have all their winner rows.
use Rattle.std.proofs.Common.{◌≡◌, true, List, [], ◌∷◌, refl, ap}
use Rattle.mc_base.specs.declared.counted.Counted as counted
use Rattle.mc_keep.specs.declared.keeper.Keeper as keeper
use Rattle.mc_model.specs.Layouts.{is_two}
use Rattle.mc_model.specs.declared.layout.Layout.TheVariants.{Two}
use Rattle.mc_seats.specs.declared.seat.Held.{Held}
use Rattle.mc_seats.specs.declared.seat.Held.TheVariants.{Up, Down}
use Rattle.mc_seats.specs.declared.seat.Seat.{Seat}
use Rattle.mc_seats.specs.Keepers.{are_laid, keeper_in}
use Rattle.mc_seats.proofs.OpeningFacts.{both_true}

module _ {K D : Type 0} {g : keeper.Ghosts K D} {h : counted.Ghosts K} {i : counted.Ghosts D} where
  held_laid : (held : Held K D g h i) → g.layout (keeper_in held) ≡ Two
  held_laid (Up replica) = replica.laid
  held_laid (Down idle) = idle.laid

  pub all_laid : (seats : List (Seat K D g h i)) → are_laid g.layout seats ≡ true
  all_laid [] = refl
  all_laid (seat ∷ seats) = both_true (ap is_two (held_laid seat.held)) (all_laid seats)
