-- What a contract reads of a seat.
use Rattle.std.specs.Prelude.{◌≡◌, List, [], None}
use Rattle.mc_turn.specs.declared.view.View.{View}
use Rattle.mc_turn.specs.Views.{sight_in}
use Rattle.mc_turn.specs.declared.turn.Glimpse.{Glimpse}
use Rattle.mc_turn.specs.declared.turn.Seat.{Seat}
use Rattle.mc_turn.specs.declared.turn.Turn.{Turn}

-- the list that a glimpse is of
abbrev pub sight : {E : Type 0} → Glimpse E → List E
sight glimpse = sight_in glimpse.badge.views

module _ {T E : Type 0} where
  -- what the seat knows
  abbrev pub view : Seat T E → View E
  view seat = seat.seat.me.0

  -- both are one seat, of one turn, at two moments
  abbrev pub IsSameSeat : Seat T E → Seat T E → Type 0
  IsSameSeat old new = (new.seat.table_id ≡ old.seat.table_id) × (new.seat.id ≡ old.seat.id)

  -- the seat is one of this turn
  abbrev pub IsSeatOf : Turn T E → Seat T E → Type 0
  IsSeatOf turn seat = seat.seat.table_id ≡ turn.table.shared.table_id

  -- a glimpse is one of this turn
  abbrev pub IsGlimpseOf : Turn T E → Glimpse E → Type 0
  IsGlimpseOf turn glimpse = glimpse.badge.table_id ≡ turn.table.shared.table_id

  -- the seat doesn't hold the turn
  abbrev pub IsIdle : Seat T E → Type 0
  IsIdle seat = (view seat).held ≡ None
