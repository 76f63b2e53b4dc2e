-- The words of a line that is executed in a world, at a bound `K: Keeper`.
use Rattle.std.specs.Prelude.{◌≡◌, ℕ, ◌+◌, true, List, Option, Some, IfSome}
use Rattle.mc_base.specs.declared.counted.Counted as counted
use Rattle.mc_keep.specs.Calls.{Members}
use Rattle.mc_keep.specs.declared.keeper.Keeper as keeper
use Rattle.mc_model.specs.Kept.{IsKept}
use Rattle.mc_script.specs.declared.command.Command.{Command}
use Rattle.mc_script.specs.declared.reply.Reply.{Reply}
use Rattle.mc_seats.specs.declared.world.World.{World}
use Rattle.mc_app.specs.Executes.{CutsShort, Executes, ExecutesPart, IsAnswered, LineShort}
use Rattle.mc_runs.specs.Runs.{Answer, IsWithin, arms_in, faults_in, own_free, owns_in}
use Rattle.mc_seats.specs.Words.{state, tally}
use Rattle.mc_seats.specs.Keepers.{Tally}
use Rattle.mc_seats.specs.Worlds.{AtPlace, WorldState}

-- what may be answered to some lines from a tally on, where the count is this at the end: no more faults than it rose
-- by and fuses were armed, in the lines or before them; no more answers whose entry names a keeper or a desk that failed
-- by itself than it rose by; and where all was calm none
pub record MayEnd (first : Tally) (count : ℕ) (lines : List (List ℕ)) (answers : List (Option Answer)) : Type 0 where
  pub paid : IsWithin first.count (count + first.armed + arms_in lines) (faults_in answers)
  pub own_paid : IsWithin first.count count (owns_in answers)
  pub own_none : first.calm ≡ true → own_free answers ≡ true

-- what the keepers of a world tell is sound
abbrev pub AreKept : WorldState → Type 0
AreKept w = (r : ℕ) → AtPlace w r (λ place. IfSome place.content IsKept)

module _ {K D : Type 0} {g : keeper.Ghosts K D} {h : counted.Ghosts K} {i : counted.Ghosts D} (k : Members K D)
    (desk_faults : D → ℕ) where
  -- two worlds stand for the same, and count the same
  abbrev pub SameWorld : World K D g h i → World K D g h i → Type 0
  SameWorld old new =
      (state k desk_faults new ≡ state k desk_faults old) × (tally k desk_faults new ≡ tally k desk_faults old)

  -- a command is done, and this is its answer
  pub record AnswersIn (command : Command) (old new : World K D g h i) (reply : Reply) : Type 0 where
    pub answer : Answer
    pub says : answer.reply ≡ reply
    pub answered : IsAnswered (state k desk_faults old) (tally k desk_faults old) (Some (Some command))
        (state k desk_faults new) (tally k desk_faults new) (Some answer)

  -- memory was wanting for a command
  abbrev pub CutsShortIn : Command → World K D g h i → World K D g h i → Type 0
  CutsShortIn command old new = CutsShort (state k desk_faults old) (tally k desk_faults old) command
      (state k desk_faults new) (tally k desk_faults new)

  -- a line of which this was read is executed, and its answer is written, or some first bytes of it
  abbrev pub ExecutesIn : Option (Option Command) → World K D g h i → World K D g h i → Option (List ℕ)
      → Option (List ℕ) → Type 0
  ExecutesIn read old new out out_now = Executes (state k desk_faults old) (tally k desk_faults old) read
      (state k desk_faults new) (tally k desk_faults new) out out_now

  abbrev pub ExecutesPartIn : Option (Option Command) → World K D g h i → World K D g h i → Option (List ℕ)
      → Option (List ℕ) → Type 0
  ExecutesPartIn read old new out out_now = ExecutesPart (state k desk_faults old) (tally k desk_faults old) read
      (state k desk_faults new) (tally k desk_faults new) out out_now

  -- or memory was wanting for it
  abbrev pub LineShortIn : Option (Option Command) → World K D g h i → World K D g h i → Type 0
  LineShortIn read old new = LineShort (state k desk_faults old) (tally k desk_faults old) read
      (state k desk_faults new) (tally k desk_faults new)
