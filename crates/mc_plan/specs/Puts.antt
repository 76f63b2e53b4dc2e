-- What a put does: when it is refused, and which block it makes.
use Rattle.std.specs.Prelude.{◌≡◌, ℕ, Bool, List, [], ◌∷◌, ◌++◌, length, Option, None}
use Rattle.std.specs.Option.{option_or}
use Rattle.mc_base.specs.declared.cid.Cid.{Cid}
use Rattle.mc_model.specs.declared.block.Block.{Block}
use Rattle.mc_model.specs.declared.delta.Delta.{Delta}
use Rattle.mc_model.specs.Events.{Event, Process}
use Rattle.mc_model.specs.Kept.{Kept, processed}
use Rattle.mc_model.specs.Made.{made_bytes, made_cid, head_cids, next_priority, put_delta}
use Rattle.mc_model.specs.State.{blocks_of, kept_of}
use Rattle.mc_plan.specs.declared.error.CoreError.{CoreError}
use Rattle.mc_plan.specs.declared.made.Planned.{Planned}
use Rattle.mc_plan.specs.declared.made.Written.{Written}
use Rattle.mc_plan.specs.Events.{ReplicaState}
use Rattle.mc_plan.specs.Uptakes.{IsUptake, store_change, with_store}
use Rattle.mc_plan.specs.Refusals.{key_refusal, value_refusal, priority_refusal, made_refusal, running_refusal}

-- the block that is made with these links and this delta
abbrev pub made_block : List Cid → Delta → Block
made_block links delta = record { cid = made_cid links delta; links = links; delta = delta }

-- the events that take it up: it is stored, unless it is, and then processed
abbrev pub made_events : Kept → List Cid → Delta → List Event
made_events kept links delta =
    with_store (store_change kept.graph (made_cid links delta) (made_bytes links delta))
    (Process (made_cid links delta ∷ []) ∷ [])

-- what is answered for it
abbrev pub written_of : Kept → List Cid → Delta → Written
written_of kept links delta =
    record { cid = made_cid links delta; priority = delta.priority; position = length kept.order }

-- its commits are planned, and nothing refuses it
pub record IsPlanned (kept : Kept) (whole : Bool) (links : List Cid) (delta : Delta) (planned : Planned) : Type 0 where
  pub allowed : made_refusal kept links delta ≡ None
  pub uptake : IsUptake kept whole (made_block links delta) (made_bytes links delta) planned.uptake
  pub written : planned.written ≡ written_of kept links delta
  pub no_links : planned.uptake.after.links ≡ []

-- the links and the priority of the next block
abbrev pub next_links : Kept → List Cid
next_links kept = head_cids (processed kept)

-- the delta of a put over what is processed
abbrev pub delta_of_put : Kept → List ℕ → List ℕ → Delta
delta_of_put kept key value = put_delta key value (next_priority (processed kept))

-- the refusals of a put that is made, and of one over what is processed, in their order
abbrev pub put_made_refusal : Kept → List ℕ → List ℕ → Option CoreError
put_made_refusal kept key value =
    option_or (priority_refusal kept) (made_refusal kept (next_links kept) (delta_of_put kept key value))

abbrev pub put_kept_refusal : Kept → List ℕ → List ℕ → Option CoreError
put_kept_refusal kept key value =
    option_or (key_refusal key) (option_or (value_refusal value) (put_made_refusal kept key value))

abbrev pub put_refusal : ReplicaState → List ℕ → List ℕ → Option CoreError
put_refusal s key value = running_refusal s.state.run (λ run. put_kept_refusal (kept_of s.state.durable) key value)

-- the events of a block that is made over what is processed, and its answer
abbrev pub MadeEvents : Kept → Delta → List Event → Written → Type 0
MadeEvents kept delta events written =
    (events ≡ made_events kept (next_links kept) delta) × (written ≡ written_of kept (next_links kept) delta)

-- those of a put
abbrev pub PutEvents : ReplicaState → List ℕ → List ℕ → List Event → Written → Type 0
PutEvents s key value = MadeEvents (kept_of s.state.durable) (delta_of_put (kept_of s.state.durable) key value)

-- the processed blocks are those before, and then these
abbrev pub Adds : List Block → ReplicaState → ReplicaState → Type 0
Adds more s new = blocks_of new.state.durable ≡ blocks_of s.state.durable ++ more

-- the block of this delta over what is kept
abbrev pub next_made : Kept → Delta → Block
next_made kept delta = made_block (next_links kept) delta

-- a put adds its block
abbrev pub AddsPut : List ℕ → List ℕ → ReplicaState → ReplicaState → Type 0
AddsPut key value s =
    Adds (next_made (kept_of s.state.durable) (delta_of_put (kept_of s.state.durable) key value) ∷ []) s
