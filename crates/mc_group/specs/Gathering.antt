-- What was taken out of an inbox: which of it is taken up, and where its blocks stand.
use Rattle.std.specs.Prelude.{◌≡◌, ⊤, Bool, true, false, List, [], ◌∷◌, ◌++◌, map, filter, drop, length, ◌≤◌, Option, Some, None, Ok}
use Rattle.std.specs.Prelude.{unwrap_or, if◌then◌else◌}
use Rattle.mc_base.specs.declared.cid.Cid.{Cid}
use Rattle.mc_block.specs.declared.verified.Verified.{Verified}
use Rattle.mc_model.specs.declared.block.Block.{Block}
use Rattle.mc_model.specs.declared.block.Stored.{Stored}
use Rattle.mc_model.specs.Graph.{has}
use Rattle.mc_model.specs.Kept.{Kept, block_in, bytes_at, cids_of, is_stored}
use Rattle.mc_model.specs.Offer.{block_of, offer}
use Rattle.mc_model.specs.State.{durable_of}
use Rattle.mc_inbox.specs.Groups.{group_of, to_store}
use Rattle.mc_inbox.specs.Waiting.{as_stored}
use Rattle.mc_group.specs.declared.group.Fate.{Fate}
use Rattle.mc_group.specs.declared.group.Fate.TheVariants as fate
use Rattle.mc_group.specs.declared.group.Slot.{Slot}
use Rattle.mc_group.specs.declared.group.Slot.TheVariants.{Known, Held, New}

-- what was taken out, as bytes under an identifier
abbrev pub item_of : Slot → Stored
item_of (Known item) = as_stored item
item_of (Held item) = as_stored item
item_of (New stored) = stored

abbrev pub items_of : List Slot → List Stored
items_of slots = map item_of slots

-- whether it is taken up
abbrev pub is_taken : Slot → Bool
is_taken (Known item) = false
is_taken (Held item) = true
is_taken (New stored) = true

-- what of it is taken up
abbrev pub picked : List Slot → List Stored
picked slots = items_of (filter is_taken slots)

-- what of it is stored
abbrev pub stores_in : List Slot → List Stored
stores_in [] = []
stores_in (Known item ∷ slots) = stores_in slots
stores_in (Held item ∷ slots) = stores_in slots
stores_in (New stored ∷ slots) = stored ∷ stores_in slots

-- the blocks left once that of the slot is taken
abbrev pub blocks_left : Slot → List Block → List Block
blocks_left (Known item) blocks = blocks
blocks_left (Held item) blocks = drop 1 blocks
blocks_left (New stored) blocks = drop 1 blocks

-- the first block is that of the slot, where it is taken up; where its bytes are to be stored they are the block
abbrev pub IsHeld : Slot → List Block → Type 0
IsHeld (Known item) blocks = ⊤
IsHeld (Held item) [] = ⊥
IsHeld (Held item) (block ∷ blocks) = block.cid ≡ item.cid
IsHeld (New stored) [] = ⊥
IsHeld (New stored) (block ∷ blocks) = (offer stored.cid stored.bytes ≡ Ok block) × (block.cid ≡ stored.cid)

-- the blocks are those of the slots, one after another
abbrev pub AreHeld : List Slot → List Block → Type 0
AreHeld [] blocks = blocks ≡ []
AreHeld (slot ∷ slots) blocks = IsHeld slot blocks × AreHeld slots (blocks_left slot blocks)

-- a block comes to a group
abbrev pub IsPut : Fate → Verified → List Slot → List Block → List Cid → List Slot → List Block → List Cid → Type 0
IsPut fate.Known item slots blocks cids slots_new blocks_new cids_new =
    (slots_new ≡ slots ++ Known item ∷ []) × (blocks_new ≡ blocks) × (cids_new ≡ cids)
IsPut (fate.Held block) item slots blocks cids slots_new blocks_new cids_new =
    (slots_new ≡ slots ++ Held item ∷ []) × (blocks_new ≡ blocks ++ block ∷ []) × (cids_new ≡ cids ++ item.cid ∷ [])
IsPut fate.New item slots blocks cids slots_new blocks_new cids_new =
    (slots_new ≡ slots ++ New (as_stored item) ∷ []) × (blocks_new ≡ blocks ++ item.block ∷ [])
    × (cids_new ≡ cids ++ item.cid ∷ [])

-- whether a block is not taken up
abbrev pub is_known : Fate → Bool
is_known fate.Known = true
is_known (fate.Held block) = false
is_known fate.New = false

-- a block that is stored already is the stored one
abbrev pub FateFits : List Stored → Cid → Fate → Type 0
FateFits graph cid fate.Known = ⊤
FateFits graph cid (fate.Held block) = (is_stored graph cid ≡ true) × (block ≡ block_in graph cid)
FateFits graph cid fate.New = is_stored graph cid ≡ false

abbrev pub IsNamed : Cid → Fate → Type 0
IsNamed cid fate.Known = ⊤
IsNamed cid (fate.Held block) = block.cid ≡ cid
IsNamed cid fate.New = ⊤

-- the block of an item that is taken up: the stored one, or else what its bytes are
abbrev pub block_at : List Stored → Stored → Block
block_at graph item = block_of item.cid (unwrap_or (bytes_at graph item.cid) item.bytes)

-- Of what was taken out those are taken up that are in flight, of several with one identifier the first. Their blocks
-- stand side by side.
pub record IsGroup (flight : List Cid) (slots : List Slot) (blocks : List Block) (cids : List Cid) : Type 0 where
  pub some : picked slots ≡ group_of flight (items_of slots)
  pub held : AreHeld slots blocks
  pub named : cids ≡ cids_of (picked slots)
  pub blocks_named : map (λ (block : Block). block.cid) blocks ≡ cids
  pub few_blocks : length blocks ≤ length slots
  pub few_cids : length cids ≤ length slots

-- and over what is stored: each block is the one that is stored or will be, and those are stored that are not yet
pub record IsGroupOver (kept : Kept) (slots : List Slot) (blocks : List Block) : Type 0 where
  pub blocks_are : blocks ≡ map (block_at kept.graph) (picked slots)
  pub stores_are : stores_in slots ≡ to_store (durable_of kept).graph (picked slots)
