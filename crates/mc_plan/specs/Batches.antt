-- What the calls on a batch do.
use Rattle.std.specs.Prelude.{◌≡◌, ℕ, Bool, true, false, List, [], ◌∷◌, ◌++◌, Option, Some, None, Result, Ok, Err}
use Rattle.std.specs.Prelude.{if◌then◌else◌}
use Rattle.std.specs.Option.{option_or}
use Rattle.mc_model.specs.declared.delta.Delta.{Delta}
use Rattle.mc_model.specs.Batch.{empty_batch, is_empty_batch, batch_put, batch_delete, batch_delta}
use Rattle.mc_model.specs.Cuts.{pairs}
use Rattle.mc_model.specs.Events.{Event, Batch}
use Rattle.mc_model.specs.Kept.{Kept, processed}
use Rattle.mc_model.specs.Made.{next_priority}
use Rattle.mc_model.specs.State.{OpenBatch, Running, kept_of}
use Rattle.mc_plan.specs.declared.error.CoreError.{CoreError}
use Rattle.mc_plan.specs.declared.made.Written.{Written}
use Rattle.mc_plan.specs.Events.{ReplicaState}
use Rattle.mc_plan.specs.Puts.{Adds, made_events, written_of, next_links, next_made}
use Rattle.mc_plan.specs.Refusals.{key_refusal, value_refusal, priority_refusal, made_refusal, running_refusal}
use Rattle.mc_plan.specs.Refusals.{no_batch_refusal, open_batch_refusal}

-- the batch after a call: this one where it succeeded, and else as before
abbrev pub batch_once : {T : Type 0} → Result T CoreError → Option OpenBatch → Option OpenBatch → Option OpenBatch
batch_once (Ok value) after before = after
batch_once (Err error) after before = before

-- what holds of the batch that is open
abbrev pub OfBatch : Option OpenBatch → (OpenBatch → Type 0) → Type 0
OfBatch None P = ⊥
OfBatch (Some batch) P = P batch

abbrev pub OfRun : Option Running → (OpenBatch → Type 0) → Type 0
OfRun None P = ⊥
OfRun (Some run) P = OfBatch run.batch P

-- a batch is begun
abbrev pub begin_refusal : ReplicaState → Option CoreError
begin_refusal s = running_refusal s.state.run (λ run. open_batch_refusal run.batch)

abbrev pub BeginEvents : {T : Type 0} → List Event → T → Type 0
BeginEvents events answer = events ≡ Batch (Some empty_batch) ∷ []

-- a put comes into the batch
abbrev pub batch_put_refusal : ReplicaState → List ℕ → List ℕ → Option CoreError
batch_put_refusal s key value =
    running_refusal s.state.run
    (λ run. no_batch_refusal run.batch (λ batch. option_or (key_refusal key) (value_refusal value)))

abbrev pub BatchPutEvents : {T : Type 0} → ReplicaState → List ℕ → List ℕ → List Event → T → Type 0
BatchPutEvents s key value events answer =
    OfRun s.state.run (λ batch. events ≡ Batch (Some (batch_put key value batch)) ∷ [])

-- a delete comes into the batch
abbrev pub batch_delete_refusal : ReplicaState → List ℕ → Option CoreError
batch_delete_refusal s key = running_refusal s.state.run (λ run. no_batch_refusal run.batch (λ batch. key_refusal key))

abbrev pub BatchDeleteEvents : {T : Type 0} → ReplicaState → List ℕ → List Event → T → Type 0
BatchDeleteEvents s key events answer =
    OfRun s.state.run
    (λ batch. events ≡ Batch (Some (batch_delete key (pairs (processed (kept_of s.state.durable)) key) batch)) ∷ [])

-- the batch becomes one block, or none where it is empty
abbrev pub delta_of_batch : Kept → OpenBatch → Delta
delta_of_batch kept batch = batch_delta (next_priority (processed kept)) batch

abbrev pub batch_made_refusal : Kept → OpenBatch → Option CoreError
batch_made_refusal kept batch =
    option_or (priority_refusal kept) (made_refusal kept (next_links kept) (delta_of_batch kept batch))

abbrev pub commit_kept_refusal : Kept → OpenBatch → Option CoreError
commit_kept_refusal kept batch = if is_empty_batch batch then None else batch_made_refusal kept batch

abbrev pub commit_refusal : ReplicaState → Option CoreError
commit_refusal s =
    running_refusal s.state.run (λ run. no_batch_refusal run.batch (commit_kept_refusal (kept_of s.state.durable)))

abbrev pub BatchBecomes : Kept → OpenBatch → Bool → List Event → Option Written → Type 0
BatchBecomes kept batch true events answer = (events ≡ Batch None ∷ []) × (answer ≡ None)
BatchBecomes kept batch false events answer =
    (events ≡ made_events kept (next_links kept) (delta_of_batch kept batch) ++ Batch None ∷ [])
    × (answer ≡ Some (written_of kept (next_links kept) (delta_of_batch kept batch)))

abbrev pub CommitEvents : ReplicaState → List Event → Option Written → Type 0
CommitEvents s events answer =
    OfRun s.state.run (λ batch. BatchBecomes (kept_of s.state.durable) batch (is_empty_batch batch) events answer)

-- a batch adds its block, and an empty one none
abbrev pub AddsBatch : Option Written → ReplicaState → ReplicaState → Type 0
AddsBatch None s new = Adds [] s new
AddsBatch (Some written) s new = OfRun s.state.run (λ batch.
    Adds (next_made (kept_of s.state.durable) (delta_of_batch (kept_of s.state.durable) batch) ∷ []) s new)
