-- What one call of a replica is to a world: one record.
use Rattle.std.specs.Prelude.{◌≡◌, ⊤, ℕ, Bool, true, false, List, map, Option, Some, None}
use Rattle.mc_model.specs.Batch.{batch_put}
use Rattle.mc_model.specs.Events.{Event}
use Rattle.mc_model.specs.Kept.{processed}
use Rattle.mc_model.specs.State.{OpenBatch}
use Rattle.mc_model.specs.declared.block.Block.{Block}
use Rattle.mc_core.specs.declared.CoreError.{CoreError}
use Rattle.mc_core.specs.declared.Written.{Written}
use Rattle.mc_core.specs.Calls.{Stays}
use Rattle.mc_core.specs.Events.{ReplicaState}
use Rattle.mc_core.specs.Reads.{read_refusal, OnlyReads}
use Rattle.mc_core.specs.Refusals.{Is}
use Rattle.mc_query.specs.Answers.{AreAnswers}
use Rattle.mc_query.specs.Places.{pair_of, start_of}
use Rattle.mc_query.specs.declared.pair.Pair.{Pair}
use Rattle.mc_script.specs.declared.reply.Reply.{Reply}
use Rattle.mc_script.specs.declared.reply.Reply.TheVariants.{Done}

-- the events of a call, with what is answered for its value
abbrev pub Answers : {T : Type 0} → (List Event → T → Type 0) → (T → Reply → Type 0) → List Event → Reply → Type 0
Answers {T} Makes Says events reply = (value : T) × Makes events value × Says value reply

-- what is answered for the priority of a batch's block: 0 where it made none
abbrev pub batch_priority : Option Written → ℕ
batch_priority None = 0
batch_priority (Some written) = written.priority

abbrev pub SameBatch : Option OpenBatch → Option OpenBatch → Type 0
SameBatch old new = new ≡ old

-- a put into the batch that is open
abbrev pub AddsPut : List ℕ → List ℕ → Option OpenBatch → Option OpenBatch → Type 0
AddsPut key bytes None new = ⊥
AddsPut key bytes (Some batch) new = new ≡ Some (batch_put key bytes batch)

-- a reply of this form, of an answer that fits
abbrev pub IsForm : {T : Type 0} → (T → Type 0) → (T → Reply) → Reply → Type 0
IsForm {T} Fits form reply = (value : T) × (reply ≡ form value) × Fits value

-- what the rows of a query are over every keeper: at most so many, of keys that the prefix selects, ascending
abbrev pub AreRows : List ℕ → ℕ → List (List ℕ × List ℕ) → Type 0
AreRows prefix count rows =
    (pairs : List Pair) × (rows ≡ map pair_of pairs) × AreAnswers (start_of prefix) true prefix count pairs

-- how much of a place a call that did all may have changed: nothing; nothing but the batch; or what is kept too. The
-- relation ties the batches before and after it.
pub data Reach : Type 1 where
  Nothing : Reach
  Batches : (Option OpenBatch → Option OpenBatch → Type 0) → Reach
  Blocks : (Option OpenBatch → Option OpenBatch → Type 0) → Reach

abbrev pub batch_of : Reach → Option OpenBatch → Option OpenBatch → Type 0
batch_of Nothing old new = SameBatch old new
batch_of (Batches B) old new = B old new
batch_of (Blocks B) old new = B old new

-- which events a call has, with which reply: a read makes none, and says what it finds in the processed blocks
pub data Outcome : Type 1 where
  Finds : {T : Type 0} → (List Block → T) → (T → Reply) → Outcome
  Makes : (ReplicaState → List Event → Reply → Type 0) → Outcome

abbrev pub outcome_of : Outcome → ReplicaState → List Event → Reply → Type 0
outcome_of (Finds find says) s =
    Answers (OnlyReads (λ kept found. found ≡ find (processed kept)) s) (λ found reply. reply ≡ says found)
outcome_of (Makes M) s = M s

-- One call of a replica. `front` is the refusal that the replica decides without a look at its keeper, `Due` says which
-- refusal is due where the content is told, `outcome` which events it has with which reply, and `Short` what a want of
-- memory leaves. Over every keeper `reach` says what may have changed, and the reply is `says` of some answer of which
-- `Fits` holds. `may` says whether the keeper may fail in it.
pub record Calling : Type 1 where
  pub front : Option OpenBatch → Option CoreError
  pub Due : ReplicaState → Option CoreError → Type 0
  pub outcome : Outcome
  pub Short : ReplicaState → ReplicaState → Type 0
  pub reach : Reach
  pub Answer : Type 0
  pub Fits : Answer → Type 0
  pub says : Answer → Reply
  pub may : Bool

-- one that only reads: what is found in the processed blocks, what is so of it over every keeper, and how it is said
abbrev pub reads : {T : Type 0} → (List Block → T) → (T → Type 0) → (T → Reply) → Calling
reads {T} find Fits says = record {
  front = λ batch. None;
  Due = λ s. Is (read_refusal s);
  outcome = Finds find says;
  Short = Stays;
  reach = Nothing;
  Answer = T;
  Fits = Fits;
  says = says;
  may = true;
}

-- one that only reads, and whose answer P ties to the processed blocks, in their order
abbrev pub looks : {T : Type 0} → (List Block → T → Type 0) → (T → Reply) → Calling
looks {T} P says = record {
  front = λ batch. None;
  Due = λ s. Is (read_refusal s);
  outcome = Makes (λ s.
      Answers (OnlyReads (λ kept found. P (processed kept) found) s) (λ found reply. reply ≡ says found));
  Short = Stays;
  reach = Nothing;
  Answer = T;
  Fits = λ found. ⊤;
  says = says;
  may = true;
}

-- one of the batch, which makes this of it and is answered by `ok`
abbrev pub batches : (Option OpenBatch → Option CoreError) → (ReplicaState → Option CoreError)
    → (ReplicaState → List Event → Reply → Type 0) → (Option OpenBatch → Option OpenBatch → Type 0) → Bool → Calling
batches front refusal M Batch may = record {
  front = front;
  Due = λ s. Is (refusal s);
  outcome = Makes M;
  Short = Stays;
  reach = Batches Batch;
  Answer = ⊤;
  Fits = λ done. ⊤;
  says = λ done. Done;
  may = may;
}

-- one that makes blocks
abbrev pub writes : {T : Type 0} → (Option OpenBatch → Option CoreError) → (ReplicaState → Option CoreError → Type 0)
    → (ReplicaState → List Event → Reply → Type 0) → (ReplicaState → ReplicaState → Type 0)
    → (Option OpenBatch → Option OpenBatch → Type 0) → (T → Reply) → Calling
writes {T} front Due M Short Batch says = record {
  front = front;
  Due = Due;
  outcome = Makes M;
  Short = Short;
  reach = Blocks Batch;
  Answer = T;
  Fits = λ answer. ⊤;
  says = says;
  may = true;
}

abbrev pub is_nothing : Reach → Bool
is_nothing Nothing = true
is_nothing reach = false

-- whether what is told, the fuse and what is wanted are as they were
abbrev pub is_calm_reach : Reach → Bool
is_calm_reach (Blocks B) = false
is_calm_reach reach = true
