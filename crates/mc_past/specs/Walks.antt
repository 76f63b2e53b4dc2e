-- How a walk down the links keeps to the processed blocks.
use Rattle.std.specs.Prelude.{◌≡◌, Bool, true, false, List, [], ◌∷◌, Option, None, Some}
use Rattle.mc_base.specs.declared.cid.Cid.{Cid}
use Rattle.mc_model.specs.declared.block.Block.{Block}
use Rattle.mc_model.specs.Ascending.{is_once}
use Rattle.mc_model.specs.Front.{same_cid, is_among, is_processed}
use Rattle.mc_view.specs.Reach.{AreOf, IsViewOf}
use Rattle.mc_view.specs.View.{IsView, cids_of}
use Rattle.mc_view.specs.declared.view.View.{View}

-- a block of these is found, or the identifier is that of none
abbrev pub IsBlockOf : Cid → List Block → Option Block → Type 0
IsBlockOf cid blocks None = is_processed blocks cid ≡ false
IsBlockOf cid blocks (Some block) = AreOf blocks (block ∷ [])

-- the walk has visited blocks of these alone, and skipped none of them
pub record KeepsTo (blocks : List Block) (start : Cid) (view : View) : Type 0 where
  pub visited : List Block
  pub skipped : List Cid
  pub is : IsView start visited skipped view
  pub of_all : AreOf blocks visited
  pub others : (cid : Cid) → is_among skipped cid ≡ true → is_processed blocks cid ≡ false

-- and it has visited all that are reached
pub record HasWalked (blocks : List Block) (start : Cid) (view : View) : Type 0 where
  pub visited : List Block
  pub skipped : List Cid
  pub is : IsView start visited skipped view
  pub reach : IsViewOf blocks start visited

-- what becomes of a walk in one step: it goes on, or it is at its end
abbrev pub WalksOn : Bool → List Block → View → View → Type 0
WalksOn true blocks old new = (start : Cid) → KeepsTo blocks start old → KeepsTo blocks start new
WalksOn false blocks old new =
    (start : Cid) → is_once same_cid (cids_of blocks) ≡ true → KeepsTo blocks start old → HasWalked blocks start new
