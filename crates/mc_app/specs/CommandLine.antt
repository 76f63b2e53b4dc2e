-- What the words behind the program's name ask for.
use Rattle.std.specs.Prelude.{ℕ, ◌≤◌, List, [], ◌∷◌, Option, None, Some, Bool, true, false, not, ◌&&◌, ◌||◌, ◌==◌}
use Rattle.std.specs.Prelude.{nat_le, if◌then◌else◌, codes}
use Rattle.std.specs.Option.{is_some}
use Rattle.std.specs.Str.{bytes_eq}
use Rattle.mc_keepers.specs.declared.keepers.KeeperPlan.{KeeperPlan}
use Rattle.mc_keepers.specs.declared.keepers.KeeperPlan.TheVariants.{Memory, Sqlite}
use Rattle.mc_script.specs.Words.{◌>>=◌, number_of}
use Rattle.mc_app.specs.declared.command_line.Subcommand.{Subcommand}
use Rattle.mc_app.specs.declared.command_line.Subcommand.TheVariants.{Run, Gen}
use Rattle.mc_app.specs.declared.command_line.Request.{Request}
use Rattle.mc_app.specs.declared.command_line.Request.TheVariants.{Run as RunOver, Gen as GenFrom}

-- the command of a name
abbrev pub command_of : List ℕ → Option Subcommand
command_of name =
    if bytes_eq name (codes "run") then Some Run
    else (if bytes_eq name (codes "gen") then Some Gen
    else None)

-- whether a command has an option of this name
abbrev pub has_option : Subcommand → List ℕ → Bool
has_option Run name =
    bytes_eq name (codes "--keeper") || (bytes_eq name (codes "--dir") || bytes_eq name (codes "--replicas"))
has_option Gen name = bytes_eq name (codes "--start") || bytes_eq name (codes "--count")

-- a value isn't empty, and doesn't begin with `-`
abbrev pub is_value : List ℕ → Bool
is_value [] = false
is_value (first ∷ rest) = not (first == 45)

-- the value of an option, where it is given
abbrev pub given : List ℕ → List (List ℕ) → Option (List ℕ)
given wanted (name ∷ value ∷ options) = if bytes_eq name wanted then Some value else given wanted options
given wanted words = None

-- options are two words each, a name of the command and a value, and no name is given twice
abbrev pub are_options : Subcommand → List (List ℕ) → Bool
are_options command [] = true
are_options command (name ∷ []) = false
are_options command (name ∷ value ∷ options) =
    has_option command name && (is_value value && (not (is_some (given name options)) && are_options command options))

-- the keepers of a run: in memory, or, where a folder is given, in files there
abbrev pub plan_by : List ℕ → Option (List ℕ) → Option KeeperPlan
plan_by keeper None = if bytes_eq keeper (codes "memory") then Some Memory else None
plan_by keeper (Some dir) = if bytes_eq keeper (codes "sqlite") then Some (Sqlite dir) else None

-- the value of an option, or else its default
abbrev pub or_default : Option (List ℕ) → List ℕ → List ℕ
or_default None default = default
or_default (Some word) default = word

-- a number from `least` to `most`
abbrev pub number_within : ℕ → ℕ → List ℕ → Option ℕ
number_within least most word = do
  number ← number_of word
  if nat_le least number && nat_le number most then Some number else None

abbrev pub run_of : List (List ℕ) → Option Request
run_of options = do
  replicas ← number_within 1 8 (or_default (given (codes "--replicas") options) (codes "3"))
  plan ← plan_by (or_default (given (codes "--keeper") options) (codes "memory")) (given (codes "--dir") options)
  Some (RunOver plan replicas)

abbrev pub gen_of : List (List ℕ) → Option Request
gen_of options = do
  start ← given (codes "--start") options
  start ← number_of start
  count ← given (codes "--count") options
  count ← number_within 1 100000 count
  Some (GenFrom start count)

abbrev pub request_by : Subcommand → List (List ℕ) → Option Request
request_by Run options = run_of options
request_by Gen options = gen_of options

-- what the words ask for: the name of a command, and its options
abbrev pub request_of : List (List ℕ) → Option Request
request_of [] = None
request_of (name ∷ options) = do
  command ← command_of name
  if are_options command options then request_by command options else None

-- the plan of the keepers that the words ask for, and how many: a generated script runs over three in memory
abbrev pub plan_in : Option Request → KeeperPlan
plan_in None = Memory
plan_in (Some (RunOver plan replicas)) = plan
plan_in (Some (GenFrom start count)) = Memory

abbrev pub count_in : Option Request → ℕ
count_in None = 3
count_in (Some (RunOver plan replicas)) = replicas
count_in (Some (GenFrom start count)) = 3

abbrev pub run_plan : List (List ℕ) → KeeperPlan
run_plan words = plan_in (request_of words)

abbrev pub run_count : List (List ℕ) → ℕ
run_count words = count_in (request_of words)

-- a run has 1 to 8 replicas, and a generated script at most 100,000 drawn lines
abbrev pub IsInRange : Request → Type 0
IsInRange (RunOver plan replicas) = (1 ≤ replicas) × (replicas ≤ 8)
IsInRange (GenFrom start count) = (1 ≤ count) × (count ≤ 100000)
