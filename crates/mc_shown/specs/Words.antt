-- What contracts read of a seat of a shared face.
use Rattle.std.specs.Prelude.{◌≡◌}
use Rattle.atomic_table.specs.Seated.{TableId}
use Rattle.logbook.specs.Pages.{Book}
use Rattle.mc_base.specs.declared.counted.Counted as counted
use Rattle.mc_keep.specs.declared.keeper.Keeper as keeper
use Rattle.mc_turn.specs.declared.turn.Turn.{Turn}
use Rattle.mc_turn.specs.Seats.{view}
use Rattle.mc_shown.specs.Names.{face_in, node_in}
use Rattle.mc_shown.specs.declared.seat.FaceSeat.{FaceSeat}

module _ {K X D : Type 0} {g : keeper.Ghosts K D} {h : counted.Ghosts K} {i : counted.Ghosts D} where
  -- the face that it is of, and the node
  abbrev pub face_of : FaceSeat K X D g h i → Book
  face_of s = face_in (view s.seat).seen

  abbrev pub node_of : FaceSeat K X D g h i → TableId
  node_of s = node_in (view s.seat).seen

  -- it is of a face of the node with this turn
  abbrev pub IsAt : {T E : Type 0} → FaceSeat K X D g h i → Turn T E → Type 0
  IsAt s turn = node_of s ≡ turn.table.shared.table_id
