-- What a replica keeps beside its keeper agrees with what the keeper tells: its numbers, as a test, and what is lost at
-- a stop.
use Rattle.std.specs.Prelude.{◌≡◌, ◌≤◌, ℕ, ◌-◌, ◌^◌, min, Bool, true, false, not, ◌&&◌, nat_eq, length, Option, Some}
use Rattle.std.specs.Prelude.{None, ◌+◌, unwrap_or}
use Rattle.mc_keep.specs.declared.changes.Changes.{Changes}
use Rattle.mc_model.specs.Front.{gaps}
use Rattle.mc_model.specs.Graph.{no_gaps}
use Rattle.mc_model.specs.Kept.{Kept, IsKept, processed}
use Rattle.mc_model.specs.State.{Running, IsLinked, durable_of, walked}
use Rattle.mc_model.specs.Wanted.{IsOnce}
use Rattle.mc_plan.specs.declared.counting.Numbers.{Numbers}

-- a number that may pass 64 bits
abbrev pub capped : ℕ → ℕ
capped n = min n (2 ^ 64 - 1)

-- whether two marks are the same
abbrev pub is_mark : Bool → Bool → Bool
is_mark true mark = mark
is_mark false mark = not mark

-- whether they are the numbers of what is kept
abbrev pub is_count : Kept → Numbers → Bool
is_count kept numbers =
    nat_eq numbers.processed (capped (length kept.order))
    && (nat_eq numbers.stored (capped (length kept.graph))
    && (nat_eq numbers.gaps (length (gaps (processed kept))) && is_mark numbers.mark kept.mark))

-- whether they are those of what is told, where the replica has not stopped
abbrev pub is_counted : Bool → Option Kept → Numbers → Bool
is_counted true told numbers = true
is_counted false None numbers = true
is_counted false (Some kept) numbers = is_count kept numbers

-- the numbers after these changes, which leave so many gaps
pub record IsAfter (numbers : Numbers) (changes : Changes) (gaps : ℕ) (new : Numbers) : Type 0 where
  pub processed : new.processed ≡ capped (numbers.processed + length changes.marks)
  pub stored : new.stored ≡ capped (numbers.stored + length changes.store)
  pub gaps_left : new.gaps ≡ gaps
  pub mark : new.mark ≡ unwrap_or changes.mark numbers.mark

-- what runs, unless it has stopped
abbrev pub run_of : Bool → Running → Option Running
run_of true run = None
run_of false run = Some run

-- What is told and what runs are sound together, in a form that has one proof at most: it is `IsSound` of both, where
-- it is told.
pub record AreSound (stop : Bool) (told : Option Kept) (run : Running) : Type 0 where
  pub is_kept : (kept : Kept) → told ≡ Some kept → IsKept kept
  -- of one that runs
  pub once : (kept : Kept) → told ≡ Some kept → stop ≡ false → IsOnce kept.order run.queue
  pub no_walk : (kept : Kept) → told ≡ Some kept → stop ≡ false → run.whole ≡ true → run.walk ≡ None
  pub linked : (kept : Kept) → told ≡ Some kept → stop ≡ false → run.whole ≡ true
      → IsLinked (durable_of kept) run.queue kept.order
  pub marked : (kept : Kept) → told ≡ Some kept → stop ≡ false → run.whole ≡ true
      → kept.mark ≡ not (no_gaps (durable_of kept).graph kept.order)
  pub dirty : (kept : Kept) → told ≡ Some kept → stop ≡ false → run.whole ≡ false → kept.mark ≡ true
  pub walking : (kept : Kept) → told ≡ Some kept → stop ≡ false → run.whole ≡ false → (end next : ℕ)
      → run.walk ≡ Some (end, next)
      → (next ≤ end) × (end ≤ length kept.order)
      × IsLinked (durable_of kept) run.queue (walked kept.order end next)
  -- and of one that has stopped
  pub down : (kept : Kept) → told ≡ Some kept → stop ≡ true → kept.mark ≡ false
      → no_gaps (durable_of kept).graph kept.order ≡ true
