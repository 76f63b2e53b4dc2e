-- What is handed over, by the log and by the seat of who delivers.
use Rattle.std.specs.Prelude.{◌≡◌, ◌≢◌, ◌⊎◌, ⊤, ℕ, Bool, true, List, [], ◌∷◌, ◌++◌, length, Option, Some, None, Result, Ok}
use Rattle.std.specs.Prelude.{Err}
use Rattle.std.specs.List.{list_all}
use Rattle.std.specs.Option.{option_map}
use Rattle.mc_base.specs.declared.cid.Cid.{Cid}
use Rattle.mc_base.specs.declared.counted.Counted as counted
use Rattle.mc_keep.specs.declared.keeper.Keeper as keeper
use Rattle.mc_model.specs.Offer.{offer}
use Rattle.mc_model.specs.declared.block.Block.{Block}
use Rattle.mc_turn.specs.declared.view.View.{View}
use Rattle.mc_turn.specs.Lists.{Begins, places}
use Rattle.mc_turn.specs.Views.{noted_view}
use Rattle.mc_fetch.specs.declared.naming.Naming as naming
use Rattle.mc_fetch.specs.declared.job.Found.{Found}
use Rattle.mc_fetch.specs.declared.job.Found.TheVariants.{Bytes}
use Rattle.mc_block.specs.declared.verified.Verified.{Verified}
use Rattle.mc_relay.specs.declared.posts.GiverEnd.{GiverEnd}
use Rattle.mc_relay.specs.declared.view.EndView.{EndView}
use Rattle.mc_relay.specs.Ends.{giver_knows}
use Rattle.mc_relay.specs.Passes.{with_full, with_pushed}
use Rattle.mc_worker.specs.declared.ends.ShopError.{ShopError}
use Rattle.mc_worker.specs.declared.handover.Handover.{Handover}
use Rattle.mc_worker.specs.declared.handover.Handover.TheVariants.{Delivered as NoBlock, Queued, Committed}
use Rattle.mc_node.specs.declared.entry.Entry.{Entry}
use Rattle.mc_node.specs.Items.{Item, is_fetched}
use Rattle.mc_node.specs.Pieces.{TakeDoes}
use Rattle.mc_node.specs.Serves.{DeliverDoes}
use Rattle.mc_node.specs.Views.{Turned}

-- where blocks were committed
abbrev pub IfCommitted : Result Handover ShopError → (ℕ → Type 0) → Type 0
IfCommitted (Ok (Committed processed)) P = P processed
IfCommitted (Ok (Queued word)) P = ⊤
IfCommitted (Ok (NoBlock delivered)) P = ⊤
IfCommitted (Err error) P = ⊤

-- where the block was pushed, or committed
abbrev pub OnTaken : Result Handover ShopError → Type 0 → Type 0
OnTaken (Ok (Queued word)) P = P
OnTaken (Ok (Committed processed)) P = P
OnTaken (Ok (NoBlock delivered)) P = ⊤
OnTaken (Err error) P = ⊤

-- where the block waits for whoever has the turn next
abbrev pub IfQueued : Result Handover ShopError → (ℕ → Type 0) → Type 0
IfQueued (Ok (Queued word)) P = P word
IfQueued (Ok (Committed processed)) P = ⊤
IfQueued (Ok (NoBlock delivered)) P = ⊤
IfQueued (Err error) P = ⊤

-- an entry is of one block that workers fetched
abbrev pub is_of_fetched : {K D : Type 0} {g : keeper.Ghosts K D} {h : counted.Ghosts K} {i : counted.Ghosts D}
    → Entry K D g h i → Bool
is_of_fetched entry = is_fetched entry.note

-- these bytes are a block
abbrev pub IsBlock : Cid → Option (List ℕ) → Type 0
IsBlock cid found = (bytes : List ℕ) × (block : Block) × (found ≡ Some bytes) × (offer cid bytes ≡ Ok block)

-- what is answered where a commit gave this
abbrev pub committed_of : Result ℕ ShopError → Result Handover ShopError
committed_of (Ok processed) = Ok (Committed processed)
committed_of (Err error) = Err error

-- what a giver knows, where there is one
abbrev pub giver_view : {J : Type 0} {j : naming.Ghosts J} → Option (GiverEnd J j) → Option (EndView Verified)
giver_view {J} {j} giver = option_map (λ (end : GiverEnd J j). giver_knows end.giver) giver

-- the giver pushed this block alone
pub record PushesOne (cid : Cid) (found : Found) (v w : EndView Verified) : Type 0 where
  pub item : Verified
  pub cid_same : item.cid ≡ cid
  pub bytes_same : found ≡ Bytes item.bytes
  pub is : w ≡ with_pushed v item

-- the giver pushed this block alone, or it noted that the relay was full; where there is none, nothing is said
abbrev pub GivesIn : Cid → Found → Option (EndView Verified) → Option (EndView Verified) → Type 0
GivesIn cid found None w = w ≡ None
GivesIn cid found (Some v) None = ⊥
GivesIn cid found (Some v) (Some w) = PushesOne cid found v w ⊎ (w ≡ with_full v)

-- the giver pushed this block alone
abbrev pub WasPushed : Cid → Found → Option (EndView Verified) → Option (EndView Verified) → Type 0
WasPushed cid found None w = ⊥
WasPushed cid found (Some v) None = ⊥
WasPushed cid found (Some v) (Some w) = PushesOne cid found v w

module _ {E : Type 0} where
  -- one exchange was made for the turn
  abbrev pub HasTriedOnce : View E → View E → Type 0
  HasTriedOnce before after = (word : ℕ) × (after.tried ≡ before.tried ++ word ∷ [])

  -- where a giver noted nothing, one exchange was made for the turn
  abbrev pub TriesOnce : Option (EndView Verified) → Option (EndView Verified) → View E → View E → Type 0
  TriesOnce None w before after = ⊤
  TriesOnce (Some v) None before after = ⊥
  TriesOnce (Some v) (Some w) before after = w.full ≡ v.full → HasTriedOnce before after

  -- the one exchange found this word, which isn't 0, and nothing else has changed: no place was added
  abbrev pub QueuedBy : View E → View E → ℕ → Type 0
  QueuedBy before after word = (word ≢ 0) × (after ≡ noted_view before (word ∷ []))

-- the turn was got for every answer but Queued
abbrev pub UnlessQueued : Result Handover ShopError → Type 0 → Type 0
UnlessQueued (Ok (Queued word)) P = ⊤
UnlessQueued (Ok (Committed processed)) P = P
UnlessQueued (Ok (NoBlock delivered)) P = P
UnlessQueued (Err error) P = P

-- under the turn it was delivered by itself, or taken in with what was pushed
abbrev pub HandDoes : ℕ → Cid → Found → Result Handover ShopError → List Item → List Item → Type 0
HandDoes limit cid found result old new =
    DeliverDoes limit cid found result old new
    ⊎ ((taken : Result ℕ ShopError) × (result ≡ committed_of taken) × TakeDoes limit cid taken old new)

module _ {E : Type 0} (is_one : E → Bool) where
  -- the entries that a commit of so many blocks adds: one for each
  pub record AddsFetched (old new : List E) (count : ℕ) : Type 0 where
    pub entries : List E
    pub whole : new ≡ old ++ entries
    pub many : length entries ≡ count
    pub kinds : list_all is_one entries ≡ true

  -- The seat took the turn with this log, and gave it back with as many entries more, which are of fetched blocks, and
  -- are the seat's.
  pub record HasCommitted (before after : View E) (processed : ℕ) : Type 0 where
    pub taken : List E
    pub entries : List E
    pub known : Begins before.seen taken
    pub seen : after.seen ≡ taken ++ entries
    pub many : length entries ≡ processed
    pub kinds : list_all is_one entries ≡ true
    pub mine : after.mine ≡ before.mine ++ places (length taken) processed

-- What a delivery does, by its answer, over the giver and the seat before and after it. A block that was pushed or
-- committed was pushed by the giver, alone, or the giver noted a full relay; without such a note the turn was not waited
-- for. `Queued` comes only where the block was pushed and the one exchange found a held turn. On `Committed` the seat has
-- got the places of as many entries of fetched blocks; and under the turn the call did what its answer says.
pub record HandsOver {E : Type 0} (limit : ℕ) (cid : Cid) (found : Found) (result : Result Handover ShopError)
    (gave gives : Option (EndView Verified)) (before after : View E) (is_one : E → Bool) (read : List E → List Item)
    : Type 0 where
  pub given : OnTaken result (GivesIn cid found gave gives)
  pub once : OnTaken result (TriesOnce gave gives before after)
  pub queued : IfQueued result (QueuedBy before after)
  pub pushed : IfQueued result (λ word. WasPushed cid found gave gives)
  pub committed : IfCommitted result (HasCommitted is_one before after)
  pub turned : UnlessQueued result (Turned before after (λ old new.
      HandDoes limit cid found result (read old) (read new)))
