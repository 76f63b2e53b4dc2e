-- What a storm's writers have called: one write of a writer, and all its calls.
use Rattle.std.specs.Prelude.{◌≡◌, ◌≤◌, ◌+◌, ℕ, suc, Bool, true, false, List, [], ◌∷◌, ◌++◌, map, take, length, Option}
use Rattle.std.specs.Prelude.{Some, None, Result, Ok, Err, is_some, ◌&&◌, if◌then◌else◌}
use Rattle.mc_base.specs.Causes.{Rose}
use Rattle.mc_base.specs.Told.{Told}
use Rattle.mc_turn.specs.declared.view.View.{View}
use Rattle.mc_turn.specs.Lists.{Begins, places, total}
use Rattle.mc_storm.specs.Interleavings.{StormCall, Write, calls_of, is_by, made_in, one_if, same_in}
use Rattle.mc_node.specs.Items.{Item, Shown, has_halted, is_sealed, last, last_state, root}
use Rattle.mc_core.specs.declared.CoreError.{CoreError}
use Rattle.mc_core.specs.declared.Written.{Written}
use Rattle.mc_storm.specs.Storms.{CallActs, CallFails, is_block_refusal, is_bytes}
use Rattle.mc_node.specs.declared.node.Seen.{Seen}
use Rattle.mc_node.specs.Ties.{Goes}
use Rattle.mc_writers.specs.Tooks.{Each, Took, IsRising, made_places, next_of}
use Rattle.mc_storm.specs.declared.outcome.Stormed.{Stormed}
use Rattle.mc_writers.specs.declared.writing.Wrote.{Wrote}

abbrev pub Tooks : Type 0
Tooks = List (Took StormCall)

abbrev pub calls_in : Tooks → List StormCall
calls_in xs = map (λ t. t.call) xs

abbrev pub made_at : Took StormCall → ℕ
made_at t = made_in t.call

abbrev pub same_at : Took StormCall → ℕ
same_at t = same_in t.call

abbrev pub is_of : ℕ → Took StormCall → Bool
is_of writer t = is_by writer t.call

abbrev pub IsOf : ℕ → Took StormCall → Type 0
IsOf writer t = is_by writer t.call ≡ true

-- a call that the keeper didn't fail, between the log that it took and the one that it gave back
pub record GoodOver (call : StormCall) (old new : List Item) : Type 0 where
  pub open_before : has_halted old ≡ false
  pub open_after : has_halted new ≡ false
  pub acts : is_sealed old ≡ false → Told (last_state old) (last_state new) (CallActs call)

-- one that it failed
pub record BadOver (call : StormCall) (first : Shown) (old new : List Item) : Type 0 where
  pub frame : Goes true first (last new)
  pub open_before : has_halted old ≡ false
  pub halts : has_halted new ≡ true
  pub fails : is_sealed old ≡ false → Told (last_state old) (last_state new)
      (CallFails call (Rose first.own (last new).own))

-- the same at a place of a log
pub record IsGood (log : List Item) (t : Took StormCall) : Type 0 where
  pub begun : 1 ≤ t.at
  pub within : next_of t ≤ length log
  pub over : GoodOver t.call (take t.at log) (take (next_of t) log)

pub record IsBad (log : List Item) (t : Took StormCall) : Type 0 where
  pub begun : 1 ≤ t.at
  pub within : suc t.at ≤ length log
  pub adding : t.adds ≡ true
  pub over : BadOver t.call (root log) (take t.at log) (take (suc t.at) log)

-- one write more, or a part of it
pub record WriteGoes (writer number lo hi : ℕ) (done made same : Bool) (more : List ℕ)
    (Good Bad : Took StormCall → Type 0) : Type 0 where
  pub tooks : Tooks
  pub fails : Tooks
  pub of_one : Each (IsOf writer) tooks
  pub fails_of : Each (IsOf writer) fails
  pub rising : IsRising lo (suc hi) tooks
  pub ends : Each (λ t. next_of t ≤ hi) tooks
  pub write : Write
  pub numbered : write.number ≡ number
  pub part : Begins (calls_in tooks ++ calls_in fails) (calls_of writer (write ∷ []))
  pub whole : done ≡ true → calls_in tooks ≡ calls_of writer (write ∷ [])
  pub unfailed : done ≡ true → fails ≡ []
  pub made_is : done ≡ true → write.made ≡ made
  pub same_is : done ≡ true → write.same ≡ same
  pub places_are : more ≡ made_places tooks ++ made_places fails
  pub good : Each Good tooks
  pub bad : Each Bad fails
  pub low : lo ≤ hi

-- a writer has ended
pub record WriterRan (writer count lo hi : ℕ) (done : Bool) (made same : ℕ) (mine : List ℕ)
    (Good Bad : Took StormCall → Type 0) : Type 0 where
  pub tooks : Tooks
  pub fails : Tooks
  pub of_one : Each (IsOf writer) tooks
  pub fails_of : Each (IsOf writer) fails
  pub rising : IsRising lo (suc hi) tooks
  pub writes : List Write
  pub numbered : map (λ write. write.number) writes ≡ places 1 count
  pub part : Begins (calls_in tooks ++ calls_in fails) (calls_of writer writes)
  pub whole : done ≡ true → calls_in tooks ≡ calls_of writer writes
  pub places_are : mine ≡ made_places tooks ++ made_places fails
  pub made_is : done ≡ true → made ≡ total made_at tooks
  pub same_is : done ≡ true → same ≡ total same_at tooks
  pub made_most : made ≤ count
  pub same_most : same ≤ count
  pub good : Each Good tooks
  pub bad : Each Bad fails

-- what a seat has seen and made beyond an earlier moment
pub record SeatGoes {E : Type 0} (before after : View E) (more : List ℕ) : Type 0 where
  pub grown : Begins before.seen after.seen
  pub mine_more : after.mine ≡ before.mine ++ more
  pub parts_same : after.parts ≡ before.parts
  pub base_same : after.base ≡ before.base

-- whether the put of this answer made a block, or none where its writer ends
abbrev pub end_of_put : Result Written CoreError → Option Bool
end_of_put (Ok written) = Some true
end_of_put (Err error) = if is_block_refusal error then Some false else None

-- whether the get of this answer gave these bytes
abbrev pub end_of_get : List ℕ → Result (Seen (Option (List ℕ))) CoreError → Option Bool
end_of_get bytes (Ok seen) = Some (is_bytes bytes seen.answer)
end_of_get bytes (Err error) = None

-- what a write came to
abbrev pub is_done : Option Wrote → Bool
is_done None = false
is_done (Some wrote) = true

abbrev pub is_made : Option Wrote → Bool
is_made None = false
is_made (Some wrote) = wrote.made

abbrev pub is_same : Option Wrote → Bool
is_same None = false
is_same (Some wrote) = wrote.same

-- one write of a seat, with the log that it has seen then
pub record WritesOnce {E : Type 0} (writer number : ℕ) (result : Option Wrote) (log : List Item)
    (before after : View E) : Type 0 where
  pub more : List ℕ
  pub seat : SeatGoes before after more
  pub goes : WriteGoes writer number (length before.seen) (length after.seen) (is_done result)
      (is_made result) (is_same result) more (IsGood log) (IsBad log)

-- what the writes of a writer came to, where it has made all of them
abbrev pub made_of : Option Stormed → ℕ
made_of None = 0
made_of (Some stormed) = stormed.made

abbrev pub same_of : Option Stormed → ℕ
same_of None = 0
same_of (Some stormed) = stormed.same

-- All writes of a seat, or those until its writer ended: a writer of this number with the log that its seat has seen
-- then. Its places are those of its calls, since it began with none.
pub record HasWritten {E : Type 0} (writer writes : ℕ) (result : Option Stormed) (log : List Item)
    (seat : View E) : Type 0 where
  pub first : ℕ
  pub begun : 1 ≤ first
  pub ran : WriterRan writer writes first (length seat.seen) (is_some result) (made_of result)
      (same_of result) seat.mine (IsGood log) (IsBad log)

-- the same of both results
abbrev pub both_of : Option Stormed → Option Stormed → Option Stormed
both_of None other = None
both_of (Some stormed) None = None
both_of (Some stormed) (Some other) =
    Some (record { made = stormed.made + other.made; same = stormed.same + other.same })

-- what one write more makes of it
abbrev pub counted : Stormed → Wrote → Stormed
counted stormed wrote =
    record { made = stormed.made + one_if wrote.made; same = stormed.same + one_if (wrote.made && wrote.same) }
