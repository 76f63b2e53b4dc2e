-- The list of a face beside the processed blocks that a log shows.
use Rattle.std.proofs.Common.{◌≡◌, ℕ, Bool, true, false, List, [], ◌∷◌, ◌++◌, length, take, Option, Some, None, Result, Ok, Err, refl, sym, ap, ◌∙◌, subst}
use Rattle.std.specs.Prelude.{IfOk, IfSome, OnErr, OnOk, is_some}
use Rattle.std.proofs.lemmas.Bool.{false≢true}
use Rattle.std.proofs.lemmas.List.{map-append}
use Rattle.std.proofs.Math.Seq.{take-append_seam, take-length}
use Rattle.mc_base.specs.declared.counted.Counted as counted
use Rattle.mc_turn.specs.Lists.{Begins}
use Rattle.mc_turn.proofs.Lists.{begins_trans}
use Rattle.mc_model.specs.declared.block.Block.{Block}
use Rattle.mc_model.specs.Kept.{Kept, processed}
use Rattle.mc_keep.specs.declared.fuse.Fuse.{Fuse}
use Rattle.mc_keep.specs.declared.keeper.Keeper as keeper
use Rattle.mc_keep.specs.Plan.{Schedule}
use Rattle.mc_face.specs.Lists.{Starts}
use Rattle.mc_core.specs.Counted.{run_of}
use Rattle.mc_core.specs.declared.CoreError.{CoreError}
use Rattle.mc_core.specs.declared.replica.Replica.{Replica}
use Rattle.mc_core.specs.Events.{state_of}
use Rattle.mc_node.specs.declared.entry.Entry.{Entry}
use Rattle.mc_node.specs.declared.node.Seen.{Seen}
use Rattle.mc_node.specs.Entries.{is_open, is_rooted_log, items_at, shown_at}
use Rattle.mc_node.specs.Faces.{IsFaceOf, IsWholeFace}
use Rattle.mc_node.specs.Items.{Item, Shown, blocks, blocks_in, is_rooted, is_sealed, is_unsealed, last, root, tells}
use Rattle.mc_node.specs.Moves.{seen_by}
use Rattle.mc_node.specs.Ties.{IsGrowing, IsTied}
use Rattle.mc_node.specs.Works.{Bounds}
use Rattle.mc_node.proofs.CallFacts.{BackLaw}
use Rattle.mc_node.proofs.ItemFacts.{longer_on}
use Rattle.mc_node.proofs.ReplicaFacts.{open_unsealed}
use Rattle.mc_node.proofs.SeatFacts.{begins_on}

-- what a log that begins with a root tells at first stays
root_stays : (first rest : List Item) → is_rooted first ≡ true → root (first ++ rest) ≡ root first
root_stays [] rest rooted = absurd (false≢true rooted)
root_stays (item ∷ first) rest rooted = refl

pub tells_stays : (first log : List Item) → is_rooted first ≡ true → Begins first log → tells log ≡ tells first
tells_stays first log rooted begins = ap (λ (l : List Item). tells l) (sym begins.1) ∙ ap (λ s. is_some s.told) (root_stays first begins.0 rooted)

-- the processed blocks of an earlier log come first
pub blocks_first : (first log : List Item) → IsGrowing log → Begins first log → Starts (blocks log) (blocks first)
blocks_first first log grows begins =
    let part : take (length first) log ≡ first = ap (take (length first)) (sym begins.1) ∙ take-append_seam first begins.0 in
    subst (λ (l : List Item). take (length (blocks l)) (blocks log) ≡ blocks l) part (grows (length first))

-- a face of an earlier log is one of a later log
pub face_still : (first log : List Item) (list : List Block) → is_rooted first ≡ true → IsGrowing log → Begins first log → IsFaceOf first list → IsFaceOf log list
face_still first log list rooted grows begins face tell =
    longer_on list (blocks first) (blocks log) (face (sym (tells_stays first log rooted begins) ∙ tell)) (blocks_first first log grows begins)

-- the blocks that an unsealed log shows are those that the keeper tells
pub blocks_told : (back : BackLaw) (limit : Bounds) (now : Shown) (log : List Item) (kept : Kept) → IsTied limit now log → is_sealed log ≡ false → now.told ≡ Some kept → blocks log ≡ processed kept
blocks_told back limit now log kept tied unsealed told =
    of_told (last log).told (last log).fuse (run_of (last log).stopped (last log).run) (sym (tied.moment.told unsealed) ∙ told)
  where
    of_told : (t : Option Kept) (fuse : Option Fuse) (run : _) → t ≡ Some kept → blocks_in (state_of t fuse run) ≡ processed kept
    of_told t fuse run e = ap (λ (o : Option Kept). blocks_in (state_of o fuse run)) e ∙ ap processed (back kept)

pub face_begins : (back : BackLaw) (limit : Bounds) (now : Shown) (first log : List Item) (list : List Block) → is_rooted first ≡ true → IsTied limit now log → is_sealed log ≡ false → Begins first log → IsFaceOf first list
    → IfSome now.told (λ kept. Starts (processed kept) list)
face_begins back limit now first log list rooted tied unsealed begins face = over now.told refl
  where
    over : (told : Option Kept) → now.told ≡ told → IfSome told (λ kept. Starts (processed kept) list)
    over None e = tt
    over (Some kept) e =
        subst (λ (bs : List Block). Starts bs list) (blocks_told back limit now log kept tied unsealed e)
        (face_still first log list rooted tied.grown begins face (sym tied.telling ∙ ap is_some e))

pub face_tells : (limit : Bounds) (now : Shown) (first log : List Item) (exact : Bool) → is_rooted first ≡ true → IsTied limit now log → Begins first log → (exact ≡ true → tells first ≡ true) → exact ≡ true → is_some now.told ≡ true
face_tells limit now first log exact rooted tied begins tell is = tied.telling ∙ tells_stays first log rooted begins ∙ tell is

-- after a read the face has all that the log shows
pub face_whole : {A : Type 0} (back : BackLaw) (limit : Bounds) (old now : Shown) (log : List Item) (list : List Block) (n : ℕ) (result : Result A CoreError) (seen : Result (Seen A) CoreError) → seen ≡ seen_by n result → IsTied limit now log → is_sealed log ≡ false → now.told ≡ old.told
    → IfOk result (λ count. IfSome old.told (λ kept. list ≡ processed kept)) → OnOk seen (IsWholeFace log list)
face_whole {A} back limit old now log list n result seen is tied unsealed same whole = subst (λ (r : Result (Seen A) CoreError). OnOk r (IsWholeFace log list)) (sym is) (of_result result whole)
  where
    of_told : (told : Option Kept) → now.told ≡ told → tells log ≡ true → IfSome told (λ kept. list ≡ processed kept) → list ≡ blocks log
    of_told None e tell w = absurd (false≢true (sym (ap is_some e) ∙ tied.telling ∙ tell))
    of_told (Some kept) e tell w = w ∙ sym (blocks_told back limit now log kept tied unsealed e)

    of_result : (result : Result A CoreError) → IfOk result (λ count. IfSome old.told (λ kept. list ≡ processed kept)) → OnOk (seen_by n result) (IsWholeFace log list)
    of_result (Ok count) w = λ tell. of_told old.told same tell w
    of_result (Err error) w = tt

pub face_after : {A : Type 0} (first log : List Item) (old new : List Block) (result : Result A CoreError) → is_rooted first ≡ true → IsGrowing log → Begins first log → IsFaceOf first old → OnErr result (new ≡ old) → OnOk result (IsWholeFace log new) → IsFaceOf log new
face_after first log old new (Ok count) rooted grows begins face same whole = λ tell. ap (λ (bs : List Block). take (length new) bs) (sym (whole tell)) ∙ take-length new
face_after first log old new (Err error) rooted grows begins face same whole = subst (IsFaceOf log) (sym same) (face_still first log old rooted grows begins face)

pub seen_on_err : {A : Type 0} (n : ℕ) (result : Result A CoreError) (P : Type 0) → OnErr result P → OnErr (seen_by n result) P
seen_on_err n (Ok value) P is = tt
seen_on_err n (Err error) P is = is

-- the same at a seat of a node
module _ {K D : Type 0} {g : keeper.Ghosts K D} {h : counted.Ghosts K} {i : counted.Ghosts D} (told : K → Option Kept) (fuse : K → Option Fuse) (own faults : K → ℕ) (quiet : K → Bool) (schedule : K → Option Schedule) where
  pub rooted_items : (log : List (Entry K D g h i)) → is_rooted_log log ≡ true → is_rooted (items_at told fuse own faults quiet schedule log) ≡ true
  rooted_items [] rooted = absurd (false≢true rooted)
  rooted_items (entry ∷ log) rooted = rooted

  pub begins_items : (xs ys : List (Entry K D g h i)) → Begins xs ys → Begins (items_at told fuse own faults quiet schedule xs) (items_at told fuse own faults quiet schedule ys)
  begins_items xs ys begins = (
    items_at told fuse own faults quiet schedule begins.0,
    sym (map-append (λ (entry : Entry K D g h i). record { note = entry.note; shown = shown_at told fuse own faults quiet schedule entry.replica.value }) xs begins.0) ∙ ap (items_at told fuse own faults quiet schedule) begins.1,
  )

  -- whether the keeper tells is what an earlier log says
  pub tells_later : (seen log : List (Entry K D g h i)) → is_rooted_log seen ≡ true → Begins seen log → tells (items_at told fuse own faults quiet schedule log) ≡ tells (items_at told fuse own faults quiet schedule seen)
  tells_later seen log rooted begins = tells_stays (items_at told fuse own faults quiet schedule seen) (items_at told fuse own faults quiet schedule log) (rooted_items seen rooted) (begins_items seen log begins)

  pub seat_begins : (back : BackLaw) (limit : Bounds) (replica : Replica K D g h i) (first seen log : List (Entry K D g h i)) (list : List Block) → is_rooted_log first ≡ true → is_open seen ≡ true → Begins first seen → Begins seen log
      → IsTied limit (shown_at told fuse own faults quiet schedule replica) (items_at told fuse own faults quiet schedule log) → IsFaceOf (items_at told fuse own faults quiet schedule first) list → IfSome (told replica.keeper) (λ kept. Starts (processed kept) list)
  seat_begins back limit replica first seen log list rooted unsealed early begins tied face =
      face_begins back limit (shown_at told fuse own faults quiet schedule replica) (items_at told fuse own faults quiet schedule first) (items_at told fuse own faults quiet schedule log) list (rooted_items first rooted) tied
      (open_unsealed told fuse own faults quiet schedule log log refl (begins_on is_unsealed seen log unsealed begins)) (begins_items first log (begins_trans first seen log early begins)) face

  pub seat_tells : (limit : Bounds) (replica : Replica K D g h i) (seen log : List (Entry K D g h i)) (exact : Bool) → is_rooted_log seen ≡ true → Begins seen log → IsTied limit (shown_at told fuse own faults quiet schedule replica) (items_at told fuse own faults quiet schedule log)
      → (exact ≡ true → tells (items_at told fuse own faults quiet schedule seen) ≡ true) → exact ≡ true → is_some (told replica.keeper) ≡ true
  seat_tells limit replica seen log exact rooted begins tied tell is =
      face_tells limit (shown_at told fuse own faults quiet schedule replica) (items_at told fuse own faults quiet schedule seen) (items_at told fuse own faults quiet schedule log) exact (rooted_items seen rooted) tied (begins_items seen log begins) tell is

  pub seat_whole : {A : Type 0} (seen log new after : List (Entry K D g h i)) (list : List Block) (result : Result A CoreError) → is_open seen ≡ true → Begins seen log → after ≡ new → (is_open log ≡ true → OnOk result (IsWholeFace (items_at told fuse own faults quiet schedule new) list))
      → OnOk result (IsWholeFace (items_at told fuse own faults quiet schedule after) list)
  seat_whole seen log new after list result unsealed begins is whole =
      subst (λ (l : List (Entry K D g h i)). OnOk result (IsWholeFace (items_at told fuse own faults quiet schedule l) list)) (sym is) (whole (begins_on is_unsealed seen log unsealed begins))

  pub seat_after : {A : Type 0} (limit : Bounds) (now : Shown) (first seen log new after : List (Entry K D g h i)) (old list : List Block) (result : Result A CoreError) → is_rooted_log first ≡ true → is_open seen ≡ true → Begins first seen → Begins seen log → Begins log new
      → after ≡ new → IsTied limit now (items_at told fuse own faults quiet schedule new) → IsFaceOf (items_at told fuse own faults quiet schedule first) old → OnErr result (list ≡ old) → (is_open log ≡ true → OnOk result (IsWholeFace (items_at told fuse own faults quiet schedule new) list))
      → IsFaceOf (items_at told fuse own faults quiet schedule after) list
  seat_after limit now first seen log new after old list result rooted unsealed early begins extends is tied face same whole =
      subst (λ (l : List (Entry K D g h i)). IsFaceOf (items_at told fuse own faults quiet schedule l) list) (sym is)
      (face_after (items_at told fuse own faults quiet schedule first) (items_at told fuse own faults quiet schedule new) old list result (rooted_items first rooted) tied.grown
      (begins_items first new (begins_trans first seen new early (begins_trans seen log new begins extends))) face same (whole (begins_on is_unsealed seen log unsealed begins)))
