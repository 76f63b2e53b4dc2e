-- What is known of the program's keepers.
use Rattle.std.specs.Prelude.{◌≡◌, ⊤, ℕ, List, refl, Bool, true, false, Option, Some, None, IfSome}
use Rattle.mc_model.specs.Kept.{Kept, nothing_kept}
use Rattle.mc_model.specs.State.{HasSoundMark}
use Rattle.mc_keepers.specs.Making.{MakeSchedule}
use Rattle.mc_keepers.specs.declared.keepers.KeeperPlan.{KeeperPlan}
use Rattle.mc_keepers.specs.declared.keepers.KeeperPlan.TheVariants.{Memory, Sqlite}
use Rattle.mc_keep_sql.specs.Name.{name_text}
use Rattle.mc_keep_any.specs.declared.any.AnyKeeper.{AnyKeeper}
use Rattle.mc_keep_any.specs.declared.any.AnyKeeper.TheVariants.{Memory as InMemory, File as InFile}

-- a keeper in memory begins with nothing; what a file holds is not told
abbrev pub starts_of : KeeperPlan → Option Kept
starts_of Memory = Some nothing_kept
starts_of (Sqlite dir) = None

abbrev pub is_memory : KeeperPlan → Bool
is_memory Memory = true
is_memory (Sqlite dir) = false

-- a keeper is of the kind that a plan names: in memory, or in the file of the replica with this index in a folder
abbrev pub IsBy : {A B : Type 0} → (B → List ℕ) → KeeperPlan → ℕ → AnyKeeper A B → Type 0
IsBy name Memory index (InMemory keeper) = ⊤
IsBy name Memory index (InFile keeper) = ⊥
IsBy name (Sqlite dir) index (InMemory keeper) = ⊥
IsBy name (Sqlite dir) index (InFile keeper) = name keeper ≡ name_text dir index

-- no faults are planned
abbrev pub never_told : Option MakeSchedule
never_told = None

-- what they begin with has a sound mark
pub starts_marked : (plan : KeeperPlan) → IfSome (starts_of plan) HasSoundMark
starts_marked Memory = λ clear. refl
starts_marked (Sqlite dir) = tt
