-- What is kept of a replica's past is of the blocks that it has processed.
use Rattle.std.specs.Prelude.{◌≡◌, ◌≤◌, ◌++◌, List, length, take, Option, Some, IfSome}
use Rattle.mc_base.specs.declared.cid.Cid.{Cid}
use Rattle.mc_live.specs.Stands.{Stands}
use Rattle.mc_model.specs.Kept.{Kept, processed}
use Rattle.mc_model.specs.declared.block.Block.{Block}
use Rattle.mc_past.specs.declared.past.Past.{Past}
use Rattle.mc_past.specs.declared.past.Walk.{Walk}
use Rattle.mc_view.specs.Reach.{AreOf}
use Rattle.mc_view.specs.View.{IsView}

-- a walk has visited some of these blocks
pub record IsWalkOf (blocks : List Block) (walk : Walk) : Type 0 where
  pub visited : List Block
  pub skipped : List Cid
  pub is : IsView walk.start visited skipped walk.view
  pub of_all : AreOf blocks visited

-- the values are those after some first of these blocks, and the walk, where there is one, has visited some of them
pub record IsPast (blocks : List Block) (past : Past) : Type 0 where
  pub values : Stands (take past.length blocks) past.live
  pub within : past.length ≤ length blocks
  pub walked : IfSome past.walk (IsWalkOf blocks)

-- it is of what a keeper tells
abbrev pub PastFits : Option Kept → Past → Type 0
PastFits told past = IfSome told (λ kept. IsPast (processed kept) past)

-- what fits goes on fitting where more is processed
abbrev pub PastsStayFit : Type 0
PastsStayFit =
    (old new : Kept) (past : Past) (more : List Block) → processed new ≡ processed old ++ more →
    PastFits (Some old) past → PastFits (Some new) past
