-- What a call that takes in what workers pushed does to the log of a sealed node.
use Rattle.std.specs.Prelude.{◌≡◌, ◌≤◌, ⊤, ◌⊎◌, ◌+◌, ℕ, zero, suc, Bool, true, false, List, [], ◌∷◌, ◌++◌, length, Option, Some, None, Result}
use Rattle.std.specs.Prelude.{Ok, Err}
use Rattle.mc_base.specs.declared.cid.Cid.{Cid}
use Rattle.mc_fetch.specs.Fits.{Map}
use Rattle.mc_fetch.specs.declared.job.Job.{Job}
use Rattle.mc_model.specs.declared.block.Stored.{Stored}
use Rattle.mc_model.specs.Kept.{cids_of}
use Rattle.mc_model.specs.Wanted.{Queue, without}
use Rattle.mc_inbox.specs.Groups.{AreOffered}
use Rattle.mc_group.specs.Inboxes.{CountsGroup, GroupEvents, taken_of}
use Rattle.mc_group.specs.declared.grouped.Grouped.{Grouped}
use Rattle.mc_plan.specs.Uptakes.{wants}
use Rattle.mc_core.specs.Calls.{Stays}
use Rattle.mc_worker.specs.declared.ends.ShopError.{ShopError}
use Rattle.mc_worker.specs.declared.ends.ShopError.TheVariants.{KeeperFault, Stopped, Spent, Memory}
use Rattle.mc_node.specs.declared.note.Note.TheVariants.{Fetched}
use Rattle.mc_node.specs.Items.{Item, Shown, has_halted}
use Rattle.mc_node.specs.Moves.{with_entry}
use Rattle.mc_node.specs.Serves.{AnswersAt, BackAt, NextAt, ServesAt, WorkerCall, keeper_fails}

-- where it is known what is found, the bytes of these blocks are found for them
abbrev pub AreRight : Option Map → List Stored → Type 0
AreRight None items = ⊤
AreRight (Some map) items = AreOffered map items

-- the log after so many entries of fetched blocks
abbrev pub with_fetched : ℕ → Shown → List Item → List Item
with_fetched zero now log = log
with_fetched (suc n) now log = with_entry (with_fetched n now log) Fetched now

-- how many blocks a call processed
abbrev pub grouped_in : Result Grouped ShopError → ℕ
grouped_in (Ok grouped) = grouped.processed
grouped_in (Err error) = 0

-- what is wanted after blocks came in together, over every keeper: of those that were taken up some links; and each is
-- counted once
abbrev pub GroupWants : List Stored → Result Grouped ShopError → Bool → Queue → Queue → Type 0
GroupWants items (Ok grouped) stopped q left =
    ((links : List Cid) × (left ≡ wants (without q (cids_of (taken_of q items))) links)) × CountsGroup q items grouped
GroupWants items (Err KeeperFault) stopped q left = ⊤
GroupWants items (Err Stopped) stopped q left = left ≡ q
GroupWants items (Err Spent) stopped q left = left ≡ q
GroupWants items (Err Memory) stopped q left = left ≡ q

-- Blocks came in together, at most 64, below this limit: one call of the replica.
pub record ServesGroup (limit : ℕ) (items : List Stored) (answer : Result Grouped ShopError) (old : List Item)
    (before : Shown) (new : List Item) (after : Shown) : Type 0 where
  pub many : length items ≤ 64
  pub does : ServesAt (keeper_fails answer) false (AnswersAt limit answer)
      (WorkerCall (λ s. GroupEvents s items) Stays Stays answer) (GroupWants items answer) old before new after

-- and an entry was noted for each block that it processed
pub record GroupAt (limit : ℕ) (items : List Stored) (answer : Result Grouped ShopError) (old : List Item)
    (before : Shown) (new : List Item) (after : Shown) : Type 0 where
  pub mid : List Item
  pub does : ServesGroup limit items answer old before mid after
  pub notes : new ≡ with_fetched (grouped_in answer) after mid

-- how many were processed
abbrev pub counted : Result Grouped ShopError → Result ℕ ShopError
counted (Ok grouped) = Ok grouped.processed
counted (Err error) = Err error

-- so many of some blocks were
pub record GroupsAt (limit : ℕ) (result : Result ℕ ShopError) (old : List Item) (before : Shown) (new : List Item)
    (after : Shown) : Type 0 where
  pub items : List Stored
  pub answer : Result Grouped ShopError
  pub is : result ≡ counted answer
  pub does : GroupAt limit items answer old before new after

-- one call of the replica: blocks came in together, with this answer, or a job of a block was given back
pub data Piece : Type 0 where
  Group : List Stored → Result Grouped ShopError → Piece
  Back : Cid → Piece

abbrev pub PieceDoes : ℕ → Piece → List Item → Shown → List Item → Shown → Type 0
PieceDoes limit (Group items answer) = GroupAt limit items answer
PieceDoes limit (Back cid) = BackAt cid

-- such calls, one right after another
abbrev pub Runs : ℕ → List Piece → List Item → Shown → List Item → Shown → Type 0
Runs limit [] old before new after = (new ≡ old) × (after ≡ before)
Runs limit (piece ∷ pieces) old before new after =
    (mid : List Item) × (there : Shown) × PieceDoes limit piece old before mid there
    × Runs limit pieces mid there new after

-- how many blocks they processed
abbrev pub processed_by : Piece → ℕ
processed_by (Group items answer) = grouped_in answer
processed_by (Back cid) = 0

abbrev pub processed_in : List Piece → ℕ
processed_in [] = 0
processed_in (piece ∷ pieces) = processed_by piece + processed_in pieces

-- in the last of them the keeper failed
pub record EndsBroken (pieces : List Piece) : Type 0 where
  pub first : List Piece
  pub items : List Stored
  pub is : pieces ≡ first ++ Group items (Err KeeperFault) ∷ []

-- the last of them gives this block back
pub record EndsBack (cid : Cid) (pieces : List Piece) : Type 0 where
  pub first : List Piece
  pub is : pieces ≡ first ++ Back cid ∷ []

-- what they come to, by the answer of a call that takes in what was pushed: so many blocks were processed, the keeper
-- failed at last, or nothing was done
abbrev pub Gathered : Result ℕ ShopError → List Piece → Type 0
Gathered (Ok processed) pieces = processed_in pieces ≡ processed
Gathered (Err KeeperFault) pieces = EndsBroken pieces
Gathered (Err Stopped) pieces = pieces ≡ []
Gathered (Err Spent) pieces = pieces ≡ []
Gathered (Err Memory) pieces = ⊤

-- what they come to, by the answer of a call with this own block: so many blocks were processed, the keeper failed at
-- last, nothing was done, or the own block waits again where it is in flight, at the limit at once
abbrev pub Answers : Cid → Result ℕ ShopError → List Piece → Type 0
Answers cid (Ok processed) pieces = processed_in pieces ≡ processed
Answers cid (Err KeeperFault) pieces = EndsBroken pieces
Answers cid (Err Stopped) pieces = pieces ≡ []
Answers cid (Err Spent) pieces = pieces ≡ Back cid ∷ []
Answers cid (Err Memory) pieces = EndsBack cid pieces

-- and of the part of a call after so many were processed
abbrev pub AnswersFrom : ℕ → Cid → Result ℕ ShopError → List Piece → Type 0
AnswersFrom first cid (Ok processed) pieces = first + processed_in pieces ≡ processed
AnswersFrom first cid (Err KeeperFault) pieces = EndsBroken pieces
AnswersFrom first cid (Err Stopped) pieces = ⊥
AnswersFrom first cid (Err Spent) pieces = ⊥
AnswersFrom first cid (Err Memory) pieces = EndsBack cid pieces

pub record RunsOn (limit first : ℕ) (cid : Cid) (result : Result ℕ ShopError) (old : List Item) (before : Shown)
    (new : List Item) (after : Shown) : Type 0 where
  pub pieces : List Piece
  pub runs : Runs limit pieces old before new after
  pub says : AnswersFrom first cid result pieces

-- A call that takes in what was pushed, below this limit, between two moments.
pub record GathersAt (limit : ℕ) (result : Result ℕ ShopError) (old : List Item) (before : Shown) (new : List Item)
    (after : Shown) : Type 0 where
  pub at : AnswersAt limit result before
  pub halted : before.stopped ≡ has_halted old
  pub pieces : List Piece
  pub runs : Runs limit pieces old before new after
  pub says : Gathered result pieces

-- the same with this own block
pub record TakesAt (limit : ℕ) (cid : Cid) (result : Result ℕ ShopError) (old : List Item) (before : Shown)
    (new : List Item) (after : Shown) : Type 0 where
  pub at : AnswersAt limit result before
  pub halted : before.stopped ≡ has_halted old
  pub pieces : List Piece
  pub runs : Runs limit pieces old before new after
  pub says : Answers cid result pieces

-- the same between some two moments
abbrev pub TakeDoes : ℕ → Cid → Result ℕ ShopError → List Item → List Item → Type 0
TakeDoes limit cid result old new = (before : Shown) × (after : Shown) × TakesAt limit cid result old before new after

-- what was pushed was taken in, and then the replica was asked for a job; or it could not be, for this reason
pub record AsksAfter (limit : ℕ) (result : Result (Option Job) ShopError) (old : List Item) (before : Shown)
    (new : List Item) (after : Shown) : Type 0 where
  pub count : ℕ
  pub mid : List Item
  pub there : Shown
  pub gathers : GathersAt limit (Ok count) old before mid there
  pub asks : NextAt limit result mid there new after

pub record GathersNone (limit : ℕ) (result : Result (Option Job) ShopError) (old : List Item) (before : Shown)
    (new : List Item) (after : Shown) : Type 0 where
  pub error : ShopError
  pub gathers : GathersAt limit (Err error) old before new after
  pub is : result ≡ Err error

abbrev pub AfterNone : ℕ → Result (Option Job) ShopError → List Item → Shown → List Item → Shown → Type 0
AfterNone limit result old before new after =
    AsksAfter limit result old before new after ⊎ GathersNone limit result old before new after

-- whether none was begun, since nothing waits
abbrev pub is_none : Result (Option Job) ShopError → Bool
is_none (Ok None) = true
is_none (Ok (Some job)) = false
is_none (Err error) = false

-- one call of the replica gave a job, or an error
pub record AsksOnce (limit : ℕ) (result : Result (Option Job) ShopError) (old : List Item) (before : Shown)
    (new : List Item) (after : Shown) : Type 0 where
  pub asks : NextAt limit result old before new after
  pub some : is_none result ≡ false

-- one found that nothing waits, and then what was pushed was taken in
pub record AsksTwice (limit : ℕ) (result : Result (Option Job) ShopError) (old : List Item) (before : Shown)
    (new : List Item) (after : Shown) : Type 0 where
  pub mid : List Item
  pub there : Shown
  pub none : NextAt limit (Ok None) old before mid there
  pub then_does : AfterNone limit result mid there new after

-- A call that asks for a job below this limit, between two moments. That there is none it answers only after what was
-- pushed was taken in.
abbrev pub NextsAt : ℕ → Result (Option Job) ShopError → List Item → Shown → List Item → Shown → Type 0
NextsAt limit result old before new after =
    AsksOnce limit result old before new after ⊎ AsksTwice limit result old before new after

-- the same between some two moments
abbrev pub NextDoes : ℕ → Result (Option Job) ShopError → List Item → List Item → Type 0
NextDoes limit result old new = (before : Shown) × (after : Shown) × NextsAt limit result old before new after
