-- What a node's seat knows.
use Rattle.mc_base.specs.declared.counted.Counted.{Ghosts as Counts}
use Rattle.mc_keep.specs.declared.keeper.Keeper.{Ghosts as Keeps}
use Rattle.mc_turn.specs.declared.view.View.{View}
use Rattle.mc_turn.specs.Seats.{view}
use Rattle.mc_node.specs.declared.entry.Entry.{Entry}
use Rattle.mc_node.specs.declared.node.NodeSeat.{NodeSeat}

module _ {T K D : Type 0} {g : Keeps K D} {h : Counts K} {i : Counts D} where
  abbrev pub knows : NodeSeat T K D g h i → View (Entry K D g h i)
  knows s = view s.seat
