-- What two works, or two repairs, of one world have in common that have come to their ends.
use Rattle.std.specs.Prelude.{◌≡◌, ◌<◌, ◌+◌, ◌^◌, ℕ, Bool, true, false, Option, Some, IfSome, is_some, slice_get}
use Rattle.std.specs.List.{AllByRecursion}
use Rattle.mc_base.specs.declared.cid.Cid.{Cid}
use Rattle.mc_model.specs.Draining.{queue_in}
use Rattle.mc_model.specs.Graph.{has}
use Rattle.mc_model.specs.Kept.{bytes_at}
use Rattle.mc_model.specs.State.{kept_of}
use Rattle.mc_model.specs.Wanted.{bad_cids}
use Rattle.mc_core.specs.Events.{ReplicaState}
use Rattle.mc_drain.specs.Leads.{count}
use Rattle.mc_script.specs.declared.reply.Reply.{Reply}
use Rattle.mc_script.specs.declared.reply.Reply.TheVariants.{Again, Clean, OpenGaps, Worked}
use Rattle.mc_seats.specs.Step.{SameProcessed}
use Rattle.mc_seats.specs.Works.{budget_of}
use Rattle.mc_seats.specs.Worlds.{AtPlace, Place, WorldState, state_at}

-- the content of each replica is told
abbrev pub AreTold : WorldState → Type 0
AreTold w = AllByRecursion (λ (place : Place). is_some place.content ≡ true) w.places

-- whether this is the reply to a work or a repair that has come to its end
abbrev pub is_end : Reply → Bool
is_end (Worked processed missing bad) = true
is_end Clean = true
is_end (OpenGaps gaps) = true
is_end reply = false

-- whether this is the reply to a work that has come to its end, or has used its budget
abbrev pub is_worked : Reply → Bool
is_worked (Worked processed missing bad) = true
is_worked (Again processed) = true
is_worked reply = false

-- the processed blocks of a replica and a budget together have a number of 64 bits
abbrev pub HasRoom : ℕ → Option ℕ → WorldState → Type 0
HasRoom r budget w = IfSome (slice_get w.places r) (λ (place : Place).
    IfSome (state_at place) (λ s. count s + budget_of budget < 2 ^ 64))

-- the same blocks are processed, as many, and the same ones are missing and bad
pub record AreSame (s t : ReplicaState) : Type 0 where
  pub processed : SameProcessed s t
  pub missing : (c : Cid) → has c (queue_in s.state.run).missing ≡ has c (queue_in t.state.run).missing
  pub bad : (c : Cid) → has c (bad_cids (queue_in s.state.run).bad) ≡ has c (bad_cids (queue_in t.state.run).bad)

-- so it is at the replica with this number of two worlds, which tells its content in both
pub record AreSameAt (r : ℕ) (w w2 : WorldState) : Type 0 where
  pub place : Place
  pub place_too : Place
  pub stands : slice_get w.places r ≡ Some place
  pub stands_too : slice_get w2.places r ≡ Some place_too
  pub state : ReplicaState
  pub state_too : ReplicaState
  pub is_state : state_at place ≡ Some state
  pub is_state_too : state_at place_too ≡ Some state_too
  pub same : AreSame state state_too

-- what is stored under each block that is processed is the same in both
abbrev pub SameBytes : ReplicaState → ReplicaState → Type 0
SameBytes s t = (c : Cid) → has c s.state.durable.order ≡ true
    → bytes_at (kept_of s.state.durable).graph c ≡ bytes_at (kept_of t.state.durable).graph c

-- so it is at the replica with this number of two worlds, as it is unless two different texts have one digest
abbrev pub HaveSameBytes : ℕ → WorldState → WorldState → Type 0
HaveSameBytes r w w2 =
    AtPlace w r (λ p. AtPlace w2 r (λ q. IfSome (state_at p) (λ s. IfSome (state_at q) (SameBytes s))))
