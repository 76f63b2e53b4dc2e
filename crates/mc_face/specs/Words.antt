-- What contracts read of a face's writer, of its readers and of what they are told.
use Rattle.std.specs.Prelude.{◌≡◌, ◌≤◌, Bool, true, List, [], length}
use Rattle.logbook.specs.Pages.{Book}
use Rattle.mc_model.specs.declared.block.Block.{Block}
use Rattle.mc_face.specs.declared.glance.Told.{Told}
use Rattle.mc_face.specs.declared.glance.Glance.{Glance}
use Rattle.mc_face.specs.Faces.{blocks_of}
use Rattle.mc_face.specs.Lists.{Starts}

-- the list that is told of, and the face that it is one of
abbrev pub told_list : Told → List Block
told_list told = blocks_of told.front

abbrev pub told_face : Told → Book
told_face told = told.front.seen.book

-- a writer is the list that was appended, the beginning of it that is shown, and its face
pub record WriterValue : Type 0 where
  pub list : List Block
  pub shown : List Block
  pub face : Book

-- a reader is the list that it has seen, the longest one that it was told of, which begins with each of them, and its
-- face
pub record ReaderValue : Type 0 where
  pub seen : List Block
  pub told : List Block
  pub face : Book

-- a reader of this face that has seen nothing
pub record BeginsAt (face : Book) (reader : ReaderValue) : Type 0 where
  pub nothing : reader.seen ≡ []
  pub untold : reader.told ≡ []
  pub one : reader.face ≡ face

-- An answer over the list that the reader has seen then: its length, and what the list begins with; that a list which
-- was read before, and isn't longer than one that was told of, is a beginning of it; and this of the list and the
-- answer, where the face is exact.
pub record IsGlance {A : Type 0} (exact : Bool) (P : List Block → A → Type 0) (glance : Glance A)
    (seen told now : List Block) : Type 0 where
  pub length_is : glance.length ≡ length now
  pub begins : Starts now seen
  pub informed : Starts now told
  pub ordered : (before heard : List Block) → Starts seen before → Starts told heard → length before ≤ length heard →
      Starts heard before
  pub answers : exact ≡ true → P now glance.answer
