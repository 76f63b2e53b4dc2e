-- Which face of which node a shared face is.
use Rattle.std.specs.Prelude.{Bool, true, false, List, [], ◌∷◌}
use Rattle.atomic_table.specs.Seated.{TableId}
use Rattle.logbook.specs.Pages.{Book}

-- the face, by the book of its list, and the node, by the table of its turn
pub record Name : Type 0 where
  pub face : Book
  pub node : TableId

-- what a list of names begins with; where it is empty, which that of no seat is, these mean nothing
abbrev pub has_name : List Name → Bool
has_name [] = false
has_name (name ∷ names) = true

abbrev pub face_in : List Name → Book
face_in [] = record { number = 0; log_name = 0; cells_name = 0 }
face_in (name ∷ names) = name.face

abbrev pub node_in : List Name → TableId
node_in [] = record { words = 0; slots = 0; views_name = 0; atom = 0; block = 0; offset = 0; slot_names = [] }
node_in (name ∷ names) = name.node
