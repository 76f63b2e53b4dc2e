-- What a call that takes in what workers pushed does to the relay and to the inbox.
use Rattle.std.specs.Prelude.{◌≡◌, ◌≤◌, ◌<◌, ◌+◌, ◌⊎◌, ℕ, true, List, [], ◌∷◌, ◌++◌, length, map, Option, Some, None}
use Rattle.std.specs.Prelude.{Result, IfSome, OnOk, is_some}
use Rattle.mc_block.specs.declared.verified.Verified.{Verified}
use Rattle.mc_core.specs.Counted.{capped}
use Rattle.mc_fetch.specs.declared.naming.Naming as naming
use Rattle.mc_model.specs.Kept.{Kept}
use Rattle.mc_group.specs.declared.grouped.Grouped.{Grouped}
use Rattle.mc_inbox.specs.Waiting.{as_stored}
use Rattle.mc_model.specs.declared.block.Stored.{Stored}
use Rattle.mc_relay.specs.Ends.{taker_knows}
use Rattle.mc_relay.specs.declared.posts.TakerEnd.{TakerEnd}
use Rattle.mc_worker.specs.declared.ends.ShopError.{ShopError}
use Rattle.mc_node.specs.Items.{Item, Shown, has_halted}
use Rattle.mc_node.specs.Pieces.{Back, Gathered, Group, GroupsAt, Piece, Runs, ServesGroup}
use Rattle.mc_node.specs.Serves.{AnswersAt}

-- the blocks that came in by some calls, in their order
abbrev pub blocks_in : List Piece → List Stored
blocks_in [] = []
blocks_in (Group items answer ∷ pieces) = items ++ blocks_in pieces
blocks_in (Back cid ∷ pieces) = blocks_in pieces

-- what is taken out of the inbox by an answer: the first blocks, and all, or as many as the limit leaves after so many
-- processed ones
pub record TakesFirst (limit processed : ℕ) (group waited left : List Stored) : Type 0 where
  pub whole : waited ≡ group ++ left
  pub rest : (left ≡ []) ⊎ (limit ≤ processed + length group)

-- a group of those that waited came in, by one call of the replica
pub record CommitsGroup (limit processed : ℕ) (answer : Result Grouped ShopError) (waited left : List Stored)
    (old : List Item) (before : Shown) (new : List Item) (after : Shown) : Type 0 where
  pub group : List Stored
  pub does : ServesGroup limit group answer old before new after
  pub takes : OnOk answer (TakesFirst limit processed group waited left)

-- the same with an entry for each block that was processed
pub record TakesGroup (limit processed : ℕ) (result : Result ℕ ShopError) (waited left : List Stored) (old : List Item)
    (before : Shown) (new : List Item) (after : Shown) : Type 0 where
  pub does : GroupsAt limit result old before new after
  pub takes : OnOk result (TakesFirst limit processed does.items waited left)

module _ {J : Type 0} {j : naming.Ghosts J} where
  -- what the taker of a relay took, and how often it found the relay empty, where there is a relay
  abbrev pub taken_by : Option (TakerEnd J j) → List Verified
  taken_by None = []
  taken_by (Some end) = (taker_knows end.taker).taken

  abbrev pub empties : Option (TakerEnd J j) → ℕ
  empties None = 0
  empties (Some end) = (taker_knows end.taker).empty

  -- The taker took some blocks out of the relay, and none is lost: what waited in the inbox, followed by them, is what
  -- came in, followed by what is left.
  pub record Moves (gave gives : Option (TakerEnd J j)) (waited gone left : List Stored) : Type 0 where
    pub items : List Verified
    pub taken : taken_by gives ≡ taken_by gave ++ items
    pub whole : waited ++ map as_stored items ≡ gone ++ left
    pub noted : empties gave ≤ empties gives

  -- the block that was pushed first was taken, or the relay was found empty
  abbrev pub PopsOne : Option Verified → Option (TakerEnd J j) → Option (TakerEnd J j) → Type 0
  PopsOne (Some item) gave gives =
      (taken_by gives ≡ taken_by gave ++ item ∷ []) × (empties gives ≡ empties gave)
  PopsOne None gave gives =
      (taken_by gives ≡ taken_by gave) × (empties gave ≤ empties gives)
      × (is_some gave ≡ true → empties gave < empties gives)

  -- the relay was found empty, or the inbox was full
  abbrev pub HasEmptied : Option (TakerEnd J j) → Option (TakerEnd J j) → List Stored → Type 0
  HasEmptied gave gives held = (empties gave < empties gives) ⊎ (64 ≤ length held)

  -- moved, until the relay was found empty or the inbox was full, and a group taken in
  pub record TakesRound (limit processed : ℕ) (result : Result ℕ ShopError) (gave gives : Option (TakerEnd J j))
      (waited left : List Stored) (old : List Item) (before : Shown) (new : List Item) (after : Shown) : Type 0 where
    pub held : List Stored
    pub moves : Moves gave gives waited [] held
    pub emptied : HasEmptied gave gives held
    pub takes : TakesGroup limit processed result held left old before new after

  -- So it was moved until the relay was found empty or the inbox was full, and all came in, or as many as the limit
  -- leaves, where the keeper told this before.
  pub record TakesAll (limit : ℕ) (told : Option Kept) (gave gives : Option (TakerEnd J j)) (waited gone left : List Stored)
      : Type 0 where
    pub moves : Moves gave gives waited gone left
    pub emptied : HasEmptied gave gives (gone ++ left)
    pub rest : (left ≡ []) ⊎ IfSome told (λ kept. limit ≤ capped (length kept.order) + length gone)

  -- where there is a relay, all of it was taken
  abbrev pub HasTaken : ℕ → Option Kept → Option (TakerEnd J j) → Option (TakerEnd J j) → List Stored → List Stored → Type 0
  HasTaken limit told gave gives waited left =
      is_some gave ≡ true → (gone : List Stored) × TakesAll limit told gave gives waited gone left

  -- A call that takes in what was pushed, below this limit, between two moments. On Ok it took all that was in the relay,
  -- where there is one.
  pub record GathersIn (limit : ℕ) (result : Result ℕ ShopError) (gave gives : Option (TakerEnd J j))
      (waited left : List Stored) (old : List Item) (before : Shown) (new : List Item) (after : Shown) : Type 0 where
    pub at : AnswersAt limit result before
    pub halted : before.stopped ≡ has_halted old
    pub pieces : List Piece
    pub runs : Runs limit pieces old before new after
    pub says : Gathered result pieces
    pub takes : OnOk result (is_some gave ≡ true
        → TakesAll limit before.told gave gives waited (blocks_in pieces) left)
