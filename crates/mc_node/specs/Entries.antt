-- The entries of a log, as contracts read them.
use Rattle.std.specs.Prelude.{◌≡◌, ℕ, All, Bool, true, false, List, [], ◌∷◌, ◌++◌, length, map, Option, Some, None}
use Rattle.std.specs.declared.snapshot.Snapshot.{Snapshot}
use Rattle.mc_base.specs.declared.counted.Counted as counted
use Rattle.mc_model.specs.Kept.{Kept}
use Rattle.mc_keep.specs.Calls.{Members}
use Rattle.mc_keep.specs.Plan.{Schedule}
use Rattle.mc_keep.specs.declared.fuse.Fuse.{Fuse}
use Rattle.mc_keep.specs.declared.keeper.Keeper as keeper
use Rattle.mc_core.specs.Replica.{running_of}
use Rattle.mc_core.specs.declared.replica.Replica.{Replica}
use Rattle.mc_node.specs.declared.entry.Entry.{Entry}
use Rattle.mc_node.specs.declared.note.Note.{Note}
use Rattle.mc_node.specs.declared.note.Note.TheVariants.{Fetched, Root}
use Rattle.mc_node.specs.Items.{Item, Shown, is_root, is_sealing, is_unsealed}

module _ {K D : Type 0} {g : keeper.Ghosts K D} {h : counted.Ghosts K} {i : counted.Ghosts D} where
  -- what a replica shows, by the ghost members of its keeper
  abbrev pub shown_at : (K → Option Kept) → (K → Option Fuse) → (K → ℕ) → (K → ℕ) → (K → Bool) → (K → Option Schedule)
      → Replica K D g h i → Shown
  shown_at told fuse own faults quiet schedule replica = record {
    told = told replica.keeper;
    fuse = fuse replica.keeper;
    own = own replica.keeper;
    faults = faults replica.keeper;
    quiet = quiet replica.keeper;
    schedule = schedule replica.keeper;
    stopped = replica.stopped;
    run = running_of replica;
  }

  -- the log of a node that was just made of this replica
  pub record IsRootLog (sealed : Bool) (replica : Replica K D g h i) (log : List (Entry K D g h i)) : Type 0 where
    pub about : Snapshot (Replica K D g h i)
    pub is : about.value ≡ replica
    pub alone : log ≡ record { note = Root sealed; replica = about } ∷ []

  -- whether a log begins with a root, and with one that isn't sealed
  abbrev pub begins_so : (Note → Bool) → List (Entry K D g h i) → Bool
  begins_so test [] = false
  begins_so test (entry ∷ log) = test entry.note

  abbrev pub is_rooted_log : List (Entry K D g h i) → Bool
  is_rooted_log log = begins_so is_root log

  abbrev pub is_open : List (Entry K D g h i) → Bool
  is_open log = begins_so is_unsealed log

  abbrev pub is_sealed_log : List (Entry K D g h i) → Bool
  is_sealed_log log = begins_so is_sealing log

  -- a log begins with the root of a sealed node that was made of this replica
  abbrev pub IsSealedOf : Replica K D g h i → List (Entry K D g h i) → Type 0
  IsSealedOf replica [] = ⊥
  IsSealedOf replica (entry ∷ log) = (entry.note ≡ Root true) × (entry.replica.value ≡ replica)

  -- it does so as it did before
  abbrev pub StaysSealed : List (Entry K D g h i) → List (Entry K D g h i) → Type 0
  StaysSealed old new = (replica : Replica K D g h i) → IsSealedOf replica old → IsSealedOf replica new

  -- a log that begins with a root that isn't sealed has gone on
  abbrev pub StaysOpen : List (Entry K D g h i) → List (Entry K D g h i) → Type 0
  StaysOpen old new = is_open old ≡ true → is_open new ≡ true

  -- the log has got an entry about the replica, or none
  abbrev pub AddsEntry : Option Note → Replica K D g h i → List (Entry K D g h i) → List (Entry K D g h i) → Type 0
  AddsEntry None replica old new = new ≡ old
  AddsEntry (Some note) replica old new =
      (about : Snapshot (Replica K D g h i)) × (about.value ≡ replica)
      × (new ≡ old ++ record { note = note; replica = about } ∷ [])

  -- so many entries of fetched blocks about the replica
  pub record AreFetched (replica : Replica K D g h i) (count : ℕ) (entries : List (Entry K D g h i)) : Type 0 where
    pub many : length entries ≡ count
    pub kinds : All (λ (entry : Entry K D g h i). (entry.note ≡ Fetched) × (entry.replica.value ≡ replica)) entries

  -- the log has got these
  abbrev pub AddsAll : ℕ → Replica K D g h i → List (Entry K D g h i) → List (Entry K D g h i) → Type 0
  AddsAll count replica old new =
      (entries : List (Entry K D g h i)) × (new ≡ old ++ entries) × AreFetched replica count entries

  -- the entries of a log as items, by the ghost members of the keeper
  abbrev pub items_at : (K → Option Kept) → (K → Option Fuse) → (K → ℕ) → (K → ℕ) → (K → Bool) → (K → Option Schedule)
      → List (Entry K D g h i) → List Item
  items_at told fuse own faults quiet schedule log =
      map (λ (entry : Entry K D g h i). record {
        note = entry.note;
        shown = shown_at told fuse own faults quiet schedule entry.replica.value;
      }) log

  module _ (k : Members K D) where
    abbrev pub shown : Replica K D g h i → Shown
    shown = shown_at k.told k.fuse k.own k.faults k.quiet k.schedule

    abbrev pub items : List (Entry K D g h i) → List Item
    items = items_at k.told k.fuse k.own k.faults k.quiet k.schedule
