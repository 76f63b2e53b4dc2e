-- What a storm does: writers that put and get beside one another, on one replica.
use Rattle.std.specs.Prelude.{◌≡◌, ℕ, Bool, true, false, List, [], ◌∷◌, ◌++◌, Option, Some, None, Result, Ok, Err}
use Rattle.std.specs.Prelude.{codes}
use Rattle.std.specs.Str.{bytes_eq}
use Rattle.std.specs.Fmt.{decimal}
use Rattle.std.specs.Int.{to_be_bytes, w32}
use Rattle.mc_model.specs.Live.{value}
use Rattle.mc_model.specs.State.{blocks_of}
use Rattle.mc_core.specs.Calls.{Faults, Does as Done}
use Rattle.mc_core.specs.Events.{ReplicaState, Breaks}
pub use Rattle.mc_core.specs.Exact.{is_block_refusal}
use Rattle.mc_core.specs.Puts.{AddsPut, PutEvents, put_refusal}
use Rattle.mc_core.specs.Refusals.{Is}
use Rattle.mc_core.specs.declared.CoreError.{CoreError}
use Rattle.mc_core.specs.declared.Written.{Written}
use Rattle.mc_storm.specs.Interleavings.{InTurn, IsInterleaving, IsPartOfOne, StormCall, Write, gets_same, puts_made}
use Rattle.mc_storm.specs.declared.outcome.StormError.{StormError}
use Rattle.mc_storm.specs.declared.outcome.StormError.TheVariants as storm
use Rattle.mc_storm.specs.declared.outcome.Stormed.{Stormed}

-- the key of a writer, and the bytes that its write of this number puts: the number in four bytes, the highest first
abbrev pub storm_key : ℕ → List ℕ
storm_key writer = codes "/storm/" ++ decimal writer

abbrev pub storm_value : ℕ → List ℕ
storm_value number = to_be_bytes w32 number

-- a put makes its block, by the events of a put over the blocks before it, and nothing refuses it there
pub record PutMakes (key bytes : List ℕ) (s new : ReplicaState) : Type 0 where
  pub written : Written
  pub done : Done (Is (put_refusal s key bytes)) (PutEvents s key bytes) written s new
  pub adds : AddsPut key bytes s new

-- a put is refused there for its block, and changes nothing
pub record PutRefused (key bytes : List ℕ) (s new : ReplicaState) : Type 0 where
  pub cause : CoreError
  pub due : put_refusal s key bytes ≡ Some cause
  pub of_block : is_block_refusal cause ≡ true
  pub same : new ≡ s

-- whether a get gave these bytes
abbrev pub is_bytes : List ℕ → Option (List ℕ) → Bool
is_bytes bytes None = false
is_bytes bytes (Some found) = bytes_eq found bytes

-- a get changes nothing, and is over the blocks that are processed then
pub record Gets (key bytes : List ℕ) (same : Bool) (s new : ReplicaState) : Type 0 where
  pub answer : same ≡ is_bytes bytes (value (blocks_of s.state.durable) key)
  pub unchanged : new ≡ s

-- what a call does where it comes
abbrev pub PutActs : Bool → List ℕ → List ℕ → ReplicaState → ReplicaState → Type 0
PutActs true = PutMakes
PutActs false = PutRefused

abbrev pub ActsBy : Bool → List ℕ → List ℕ → Write → ReplicaState → ReplicaState → Type 0
ActsBy false key bytes write = PutActs write.made key bytes
ActsBy true key bytes write = Gets key bytes write.same

abbrev pub CallActs : StormCall → ReplicaState → ReplicaState → Type 0
CallActs call = ActsBy call.gets (storm_key call.writer) (storm_value call.write.number) call.write

-- what all calls do, one after the other
abbrev pub CallsRun : List StormCall → ReplicaState → ReplicaState → Type 0
CallsRun = InTurn CallActs

-- a call that the keeper fails: the events of a put are cut short, and a get has none; the replica has stopped
abbrev pub FailsBy : Bool → List ℕ → List ℕ → Type 0 → ReplicaState → ReplicaState → Type 0
FailsBy false key bytes rose s new = Faults (PutEvents s key bytes) rose s new
FailsBy true key bytes rose s new = Breaks [] rose s new

abbrev pub CallFails : StormCall → Type 0 → ReplicaState → ReplicaState → Type 0
CallFails call = FailsBy call.gets (storm_key call.writer) (storm_value call.write.number)

-- all writers have made all their calls
pub record StormEnds (writers writes : ℕ) (stormed : Stormed) (s new : ReplicaState) : Type 0 where
  pub calls : List StormCall
  pub interleaved : IsInterleaving writers writes calls
  pub run : CallsRun calls s new
  pub made_is : stormed.made ≡ puts_made calls
  pub same_is : stormed.same ≡ gets_same calls

-- the keeper failed at a call, after some first ones
pub record StormBreaks (writers writes : ℕ) (rose : Type 0) (s new : ReplicaState) : Type 0 where
  pub calls : List StormCall
  pub last : StormCall
  pub interleaved : IsPartOfOne writers writes (calls ++ last ∷ [])
  pub mid : ReplicaState
  pub run : CallsRun calls s mid
  pub fails : CallFails last rose mid new

-- some first calls of each writer were made
pub record StormPauses (writers writes : ℕ) (s new : ReplicaState) : Type 0 where
  pub calls : List StormCall
  pub interleaved : IsPartOfOne writers writes calls
  pub run : CallsRun calls s new

-- what a storm leads to, by its answer
abbrev pub StormLeads : ℕ → ℕ → Result Stormed StormError → Type 0 → ReplicaState → ReplicaState → Type 0
StormLeads writers writes (Ok stormed) rose s new = StormEnds writers writes stormed s new
StormLeads writers writes (Err storm.Stopped) rose s new = new ≡ s
StormLeads writers writes (Err storm.KeeperFault) rose s new = StormBreaks writers writes rose s new
StormLeads writers writes (Err storm.Memory) rose s new = StormPauses writers writes s new

-- whether the keeper failed
abbrev pub storm_broke : Result Stormed StormError → Bool
storm_broke (Ok stormed) = false
storm_broke (Err storm.Stopped) = false
storm_broke (Err storm.KeeperFault) = true
storm_broke (Err storm.Memory) = false

-- the answer, by whether the replica has stopped, and what the writers' writes came to where all are made
abbrev pub answer_of : Bool → Option Stormed → Result Stormed StormError
answer_of true wrote = Err storm.KeeperFault
answer_of false None = Err storm.Memory
answer_of false (Some stormed) = Ok stormed
