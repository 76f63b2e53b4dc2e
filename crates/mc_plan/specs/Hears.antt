-- What a replica hears of a message, and what it broadcasts.
use Rattle.std.specs.Prelude.{◌≡◌, ◌⊎◌, ⊤, ℕ, ◌+◌, not, List, [], ◌∷◌, length, filter, Option, Some, None, Result, Ok, Err}
use Rattle.std.specs.Option.{option_map}
use Rattle.mc_base.specs.WireRead as read
use Rattle.mc_base.specs.WireRead.{WireFault, fronts_from}
use Rattle.mc_base.specs.declared.cid.Cid.{Cid}
use Rattle.mc_cast.specs.Cast.{cast_bytes, cast_fault, first_unnamed, heads_of}
use Rattle.mc_cast.specs.Reads.{IsCast}
use Rattle.mc_cast.specs.Steps.{digests_of}
use Rattle.mc_cast.specs.declared.fault.CastError.{CastError}
use Rattle.mc_cast.specs.declared.fault.CastError.TheVariants as cast
use Rattle.mc_cast.specs.declared.fault.CastFault.{CastFault}
use Rattle.mc_cast.specs.declared.fault.CastFault.TheVariants.{Wire, BadCid}
use Rattle.mc_wire.specs.declared.fault.WireFault.{WireFault as Fault}
use Rattle.mc_wire.specs.declared.fault.WireFault.TheVariants.{Short, LongVarint, WireType, FieldZero}
use Rattle.mc_model.specs.Draining.{queue_in}
use Rattle.mc_model.specs.Events.{Event, Hear}
use Rattle.mc_model.specs.Graph.{has}
use Rattle.mc_model.specs.Kept.{Kept, processed}
use Rattle.mc_model.specs.Made.{head_cids}
use Rattle.mc_model.specs.Wanted.{Queue, hear_all}
use Rattle.mc_plan.specs.declared.error.CoreError.{CoreError}
use Rattle.mc_plan.specs.declared.error.CoreError.TheVariants.{BadCast, Memory}
use Rattle.mc_plan.specs.declared.hears.Heard.{Heard}
use Rattle.mc_plan.specs.Events.{ReplicaState}
use Rattle.mc_plan.specs.Refusals.{running_refusal}

-- the broadcast of what is kept: that of its heads
abbrev pub written_cast : Kept → List ℕ
written_cast kept = cast_bytes (digests_of (head_cids (processed kept)))

-- a wire fault as it is answered
abbrev pub fault_as : WireFault → Fault
fault_as read.Short = Short
fault_as read.LongVarint = LongVarint
fault_as read.WireType = WireType
fault_as read.FieldZero = FieldZero

-- the first of some heads that names no identifier, as a fault
abbrev pub unnamed_fault : Option (List (Option (List ℕ))) → Option CastFault
unnamed_fault None = None
unnamed_fault (Some heads) = option_map (λ (index : ℕ). BadCid index) (first_unnamed 0 heads)

-- why a message is no broadcast: by its first wire fault, and else by its heads
abbrev pub fault_by : Option WireFault → Option (List (Option (List ℕ))) → Option CastFault
fault_by None heads = unnamed_fault heads
fault_by (Some fault) heads = Some (Wire (fault_as fault))

-- the refusal of a message, by its bytes
abbrev pub cast_refusal : List ℕ → Option CoreError
cast_refusal text =
    option_map (λ (fault : CastFault). BadCast fault) (fault_by (cast_fault (fronts_from 0 text)) (heads_of text))

-- an error of a reading says what the refusal is, or that memory was wanted
abbrev pub IsRefusalOf : List ℕ → CastError → Type 0
IsRefusalOf text (cast.Fault fault) = cast_refusal text ≡ Some (BadCast fault)
IsRefusalOf text cast.Memory = ⊤

abbrev pub hear_refusal : ReplicaState → List ℕ → Option CoreError
hear_refusal s text = running_refusal s.state.run (λ run. cast_refusal text)

-- a refusal that is due, or none where memory was wanted before it was found
abbrev pub unless_short : {T : Type 0} → Result T CoreError → Option CoreError → Option CoreError
unless_short (Ok value) due = due
unless_short (Err Memory) due = None
unless_short (Err error) due = due

-- so many blocks came to waiting, which none leaves when a message is heard
abbrev pub IsQueued : Queue → Queue → ℕ → Type 0
IsQueued q left queued = length q.waiting + queued ≡ length left.waiting

-- the blocks that the message names are heard, and those that came to waiting are counted
pub record HearEvents (s : ReplicaState) (text : List ℕ) (events : List Event) (heard : Heard) : Type 0 where
  pub cids : List Cid
  pub named : IsCast text (digests_of cids)
  pub only : events ≡ Hear cids ∷ []
  pub queued : IsQueued (queue_in s.state.run) (hear_all s.state.durable.order (queue_in s.state.run) cids) heard.queued

-- these of the blocks that the message names are not processed
pub record NamesNew (text : List ℕ) (order new : List Cid) : Type 0 where
  pub cids : List Cid
  pub named : IsCast text (digests_of cids)
  pub new_ones : new ≡ filter (λ c. not (has c order)) cids

-- some of a list, in its order: each one is among them, or left out
abbrev pub AreSome : List Cid → List Cid → Type 0
AreSome [] some = some ≡ []
AreSome (c ∷ cids) some = AreSome cids some ⊎ ((rest : List Cid) × (some ≡ c ∷ rest) × AreSome cids rest)

-- these are some of the blocks that the message names, in its order
pub record NamesSome (text : List ℕ) (some : List Cid) : Type 0 where
  pub cids : List Cid
  pub named : IsCast text (digests_of cids)
  pub are_some : AreSome cids some

-- what is wanted after a message, over every keeper: some of the blocks that it names were heard, or it is the same as
-- before
abbrev pub HearWants : {T : Type 0} → List ℕ → Result T CoreError → Queue → Queue → Type 0
HearWants text (Ok heard) q left = (new : List Cid) × NamesSome text new × (left ≡ hear_all [] q new)
HearWants text (Err error) q left = left ≡ q
