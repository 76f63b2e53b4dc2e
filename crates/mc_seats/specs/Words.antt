-- The words of what is done at a replica and in a world, at a bound `K: Keeper`.
use Rattle.std.specs.Prelude.{◌≡◌, ◌<◌, ◌⊎◌, ⊤, ℕ, Bool, true, false, cond, List, [], ◌∷◌, None, Some, Result, Ok}
use Rattle.std.specs.Prelude.{Err, IfOk, IfErr, IfSome, IsErrOf}
use Rattle.mc_base.specs.Causes.{Rose}
use Rattle.mc_base.specs.declared.counted.Counted as counted
use Rattle.mc_keep.specs.Calls.{Members}
use Rattle.mc_keep.specs.declared.keeper.Keeper as keeper
use Rattle.mc_core.specs.Hears.{written_cast}
use Rattle.mc_files.specs.Files.{IsExport}
use Rattle.mc_model.specs.Kept.{Kept}
use Rattle.mc_model.specs.State.{kept_of}
use Rattle.mc_script.specs.declared.command.Command.{Command}
use Rattle.mc_script.specs.declared.command.Command.TheVariants.{Cast, Export, Hear, Import}
use Rattle.mc_script.specs.declared.reply.Reply.{Reply}
use Rattle.mc_script.specs.declared.reply.Reply.TheVariants.{FaultKeeper}
use Rattle.mc_seats.specs.declared.error.ActError.{ActError}
use Rattle.mc_seats.specs.declared.error.ActError.TheVariants.{BadLine, Memory}
use Rattle.mc_seats.specs.declared.entry.LineEntry.{LineEntry}
use Rattle.mc_seats.specs.declared.seat.Seat.{Seat}
use Rattle.mc_seats.specs.declared.world.World.{World}
use Rattle.mc_seats.specs.Asks.{arms, car_at, is_there, may_fail, message_at}
use Rattle.mc_seats.specs.Keepers.{IsPaid, Tally, WorldGoes, armed_at, armed_in, counted_in, desk_count, is_calm}
use Rattle.mc_seats.specs.Keepers.{is_calm_keeper, keeper_of}
use Rattle.mc_seats.specs.Effects.{AsksAt, DoneAt, RefusedAt}
use Rattle.mc_seats.specs.Record.{NamesNone, NamesRisen, Recorded, RoseIn}
use Rattle.mc_seats.specs.Step.{CutShort, LeavesStep, Row, ShortAt, Step, answers_fault, is_fault}
use Rattle.mc_seats.specs.Worlds.{Place, WorldState, is_down, place_of, state_at, world_state}

-- whether a fault is answered in place of what was asked for
abbrev pub asked_fault : {T : Type 0} → Result (Result T Reply) ActError → Bool
asked_fault (Ok (Ok value)) = false
asked_fault (Ok (Err reply)) = is_fault reply
asked_fault (Err error) = false

-- whether a keeper may fail in a command
abbrev pub has_some : List ℕ → Bool
has_some [] = false
has_some (r ∷ rs) = true

abbrev pub can_fail : Command → Bool
can_fail command = has_some (may_fail command)

-- a command at the replica that it works on is refused, done, or cut short by a fault of its keeper
abbrev pub PlaceRow : WorldState → Command → Type 0 → Type 0 → Place → Place → Reply → Type 0
PlaceRow w command named own p q reply =
    ((RefusedAt w p command (Some reply) × (q ≡ p)) ⊎ (RefusedAt w p command None × DoneAt w command p q reply))
    ⊎ ((can_fail command ≡ true) × named × AsksAt w command p × (reply ≡ FaultKeeper) × CutShort w command own p q)

-- the same of a command that is not done
abbrev pub EarlyRow : WorldState → Command → Type 0 → Type 0 → Place → Place → Reply → Type 0
EarlyRow w command named own p q reply =
    (RefusedAt w p command (Some reply) × (q ≡ p))
    ⊎ ((can_fail command ≡ true) × named × AsksAt w command p × (reply ≡ FaultKeeper) × CutShort w command own p q)

-- A replica that runs says this of what it keeps: P ties them where that is told, and over every keeper it fits.
pub record Says {T : Type 0} (Fits : T → Type 0) (P : Kept → T → Type 0) (value : T) (p q : Place) : Type 0 where
  pub up : is_down p.run ≡ false
  pub same : q ≡ p
  pub fits : Fits value
  pub says : IfSome (state_at p) (λ s. P (kept_of s.state.durable) value)

-- a message of the heads
abbrev pub IsCastOf : Kept → List ℕ → Type 0
IsCastOf kept text = text ≡ written_cast kept

-- a number of heads in place of a file is above those that a file may have
abbrev pub FitsExport : Result (List ℕ) ℕ → Type 0
FitsExport said = IfErr said (λ number. 255 < number)

module _ {K D : Type 0} (k : Members K D) where
  -- what every call leaves of a keeper: each fault that is answered is paid, and what is calm stays calm
  pub record KeeperGoes (faults arming : ℕ) (old new : K) : Type 0 where
    pub paid : IsPaid faults arming (k.own old) (armed_at k old) (k.own new) (armed_at k new)
    pub calm : is_calm_keeper k old ≡ true → is_calm_keeper k new ≡ true

module _ {K D : Type 0} {g : keeper.Ghosts K D} {h : counted.Ghosts K} {i : counted.Ghosts D} (k : Members K D) where
  abbrev pub place : Seat K D g h i → Place
  place seat = place_of k.told k.fuse seat

  -- the same of a replica in its seat
  abbrev pub SeatRow : WorldState → Command → Seat K D g h i → Seat K D g h i → Reply → Type 0
  SeatRow w command x y reply = PlaceRow w command (Rose (k.faults (keeper_of x)) (k.faults (keeper_of y)))
      (Rose (k.own (keeper_of x)) (k.own (keeper_of y))) (place x) (place y) reply

  -- and of a command that is not done
  abbrev pub SeatEarly : WorldState → Command → Seat K D g h i → Seat K D g h i → Reply → Type 0
  SeatEarly w command x y reply = EarlyRow w command (Rose (k.faults (keeper_of x)) (k.faults (keeper_of y)))
      (Rose (k.own (keeper_of x)) (k.own (keeper_of y))) (place x) (place y) reply

  -- What is done at the replica that a command works on, over each world that it may stand in; and what a want of
  -- memory leaves.
  pub record SeatActsIn (Where : WorldState → Type 0) (command : Command) (result : Result Reply ActError)
      (old new : Seat K D g h i) : Type 0 where
    pub row : (w : WorldState) → Where w → IfOk result (SeatRow w command old new)
    pub short : IsErrOf result Memory → ShortAt command (place old) (place new)
    pub not_bad : IsErrOf result BadLine → ⊥
    pub goes : KeeperGoes k (cond (answers_fault result) 1 0) (arms command) (keeper_of old) (keeper_of new)

  abbrev pub SeatActs : Command → Result Reply ActError → Seat K D g h i → Seat K D g h i → Type 0
  SeatActs = SeatActsIn (λ w. ⊤)

  -- a message is heard, in a world that has it under any number
  abbrev pub HearActs : List ℕ → Result Reply ActError → Seat K D g h i → Seat K D g h i → Type 0
  HearActs text result old new = (r message : ℕ) →
      SeatActsIn (λ w. message_at w.around.bag message ≡ text) (Hear r message) result old new

  -- a file is taken in, in a world that has it under any number
  abbrev pub ImportActs : List ℕ → Result Reply ActError → Seat K D g h i → Seat K D g h i → Type 0
  ImportActs text result old new =
      (r car : ℕ) → SeatActsIn (λ w. car_at w.around.bag car ≡ text) (Import r car) result old new

  -- A replica says what is asked for by this command, or this is answered in its place.
  pub record AsksActs {T : Type 0} (Fits : T → Type 0) (P : Kept → T → Type 0) (asks : ℕ → Command)
      (result : Result (Result T Reply) ActError) (old new : Seat K D g h i) : Type 0 where
    pub sent : IfOk result (λ said. IfOk said (λ value. Says Fits P value (place old) (place new)))
    pub early : (w : WorldState) (r : ℕ) → IfOk result (λ said. IfErr said (SeatEarly w (asks r) old new))
    pub short : IsErrOf result Memory → (r : ℕ) → ShortAt (asks r) (place old) (place new)
    pub not_bad : IsErrOf result BadLine → ⊥
    pub goes : KeeperGoes k (cond (asked_fault result) 1 0) 0 (keeper_of old) (keeper_of new)

  -- a message of the heads
  abbrev pub CastActs : Result (Result (List ℕ) Reply) ActError → Seat K D g h i → Seat K D g h i → Type 0
  CastActs = AsksActs (λ text. ⊤) IsCastOf Cast

  -- a file of what is processed, or the number of heads where these are too many
  abbrev pub ExportActs : Result (Result (Result (List ℕ) ℕ) Reply) ActError → Seat K D g h i → Seat K D g h i → Type 0
  ExportActs = AsksActs FitsExport IsExport Export

  module _ (desk_faults : D → ℕ) where
    abbrev pub state : World K D g h i → WorldState
    state world = world_state k.told k.fuse world

    -- which keepers' counts rose, which of them by themselves, and of which replicas a desk's count rose
    abbrev pub KeeperRose : World K D g h i → World K D g h i → ℕ → Type 0
    KeeperRose old new = RoseIn (λ (seat : Seat K D g h i). k.faults (keeper_of seat)) old.seats.items new.seats.items

    abbrev pub OwnRose : World K D g h i → World K D g h i → ℕ → Type 0
    OwnRose old new = RoseIn (λ (seat : Seat K D g h i). k.own (keeper_of seat)) old.seats.items new.seats.items

    abbrev pub DeskRose : World K D g h i → World K D g h i → ℕ → Type 0
    DeskRose old new = RoseIn (desk_count desk_faults) old.desks.items new.desks.items

    -- What a command does in a world, before it is recorded.
    pub record ActsOn (command : Command) (result : Result Reply ActError) (old new : World K D g h i) : Type 0 where
      pub row : IfOk result (λ reply.
          Row (state old) command (KeeperRose old new) (OwnRose old new) (DeskRose old new) reply (state new))
      pub short : IsErrOf result Memory → LeavesStep (state old) command (state new)
      pub not_bad : IsErrOf result BadLine → ⊥
      pub goes : WorldGoes k desk_faults (cond (answers_fault result) 1 0) (arms command) old new
      pub entries_same : new.entries ≡ old.entries

    -- the entry of a command names exactly what failed, and where all is calm none that failed by itself
    pub record Names (entry : LineEntry) (old new : World K D g h i) : Type 0 where
      pub keepers : NamesRisen (λ (seat : Seat K D g h i). k.faults (keeper_of seat)) old.seats.items new.seats.items
          entry.keepers
      pub owns : NamesRisen
          (λ (seat : Seat K D g h i). k.own (keeper_of seat)) old.seats.items new.seats.items entry.own
      pub desks : NamesRisen (desk_count desk_faults) old.desks.items new.desks.items entry.desks
      pub calm : is_calm k desk_faults old ≡ true → NamesNone entry

    -- a command is answered in a world, and recorded
    abbrev pub Records : Command → World K D g h i → World K D g h i → Reply → Type 0
    Records command old new reply = Recorded (λ entry.
        Names entry old new × Step (state old) command entry reply (state new)) old.entries new.entries

    -- A command was not answered for want of memory: this is left, or it is done, with an answer that is not recorded;
    -- and the record is as it was.
    pub record Shortens (command : Command) (old new : World K D g h i) : Type 0 where
      pub left : LeavesStep (state old) command (state new) ⊎ ((reply : Reply) × (is_there (state old) command ≡ true)
          × Row (state old) command (KeeperRose old new) (OwnRose old new) (DeskRose old new) reply (state new)
          × WorldGoes k desk_faults (cond (is_fault reply) 1 0) (arms command) old new)
      pub entries_same : new.entries ≡ old.entries

    -- the tally of a world
    abbrev pub tally : World K D g h i → Tally
    tally world = record {
      count = counted_in k desk_faults world;
      armed = armed_in k world.seats.items;
      calm = is_calm k desk_faults world;
    }
