-- What the numbers of a command that was read keep to.
use Rattle.std.specs.Prelude.{◌≢◌, ℕ, ◌≤◌, IfSome, ⊤}
use Rattle.mc_script.specs.declared.command.Command.{Command}
use Rattle.mc_script.specs.declared.command.Command.TheVariants.{Link, Work, Repair, Storm, StopAt, StopAfter}

-- the greatest number of a commit that is told to fail, of workers or writers, of blocks to process, and of writes by
-- one writer
abbrev pub commit_max : ℕ
commit_max = 1000000

abbrev pub thread_max : ℕ
thread_max = 16

abbrev pub budget_max : ℕ
budget_max = 1048576

abbrev pub write_max : ℕ
write_max = 10000

abbrev pub IsUpTo : ℕ → ℕ → Type 0
IsUpTo most number = (1 ≤ number) × (number ≤ most)

-- the two replicas of a link differ, and the numbers of commits, workers, blocks to process, writers and writes are
-- from 1 to their greatest
abbrev pub IsInLimits : Command → Type 0
IsInLimits (Link r other up) = r ≢ other
IsInLimits (Work r workers budget) = IsUpTo thread_max workers × IfSome budget (IsUpTo budget_max)
IsInLimits (Repair r workers) = IsUpTo thread_max workers
IsInLimits (Storm r writers writes) = IsUpTo thread_max writers × IsUpTo write_max writes
IsInLimits (StopAt r commit) = IsUpTo commit_max commit
IsInLimits (StopAfter r commit) = IsUpTo commit_max commit
IsInLimits command = ⊤
