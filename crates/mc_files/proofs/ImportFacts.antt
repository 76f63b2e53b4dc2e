-- What an import does, by what it was given.
use Rattle.std.proofs.Common.{◌∙◌, ℕ, List, length, map, Option, Some, None, Result, Ok, Err, sym, subst, inl, inr, ap}
use Rattle.std.proofs.lemmas.List.{length-map}
use Rattle.mc_base.specs.Told.{Told}
use Rattle.mc_base.specs.declared.cid.Cid.{Cid}
use Rattle.mc_block.specs.declared.verified.Verified.{Verified}
use Rattle.mc_keep.specs.Causes.{Kind, Refusal, Fault, Shortage}
use Rattle.mc_model.specs.declared.block.Stored.{Stored}
use Rattle.mc_model.specs.Events.{Event}
use Rattle.mc_model.specs.Wanted.{Queue}
use Rattle.mc_inbox.specs.Groups.{store_events}
use Rattle.mc_inbox.specs.Waiting.{as_stored}
use Rattle.mc_group.specs.Storing.{unstored}
use Rattle.mc_plan.specs.declared.error.CoreError.{CoreError}
use Rattle.mc_plan.specs.Calls.{Begins, Call, Faults, IsRefused}
use Rattle.mc_plan.specs.Events.{ReplicaState, Goes}
use Rattle.mc_plan.specs.Reads.{read_refusal}
use Rattle.mc_plan.specs.Refusals.{ByKind, Is, kind_of}
use Rattle.mc_files.specs.Files.{FileEvents, ImportEvents, ImportSays, ImportShort, TakeEvents, TakeShort, TakesRoots, blocks_of, stored_of}
use Rattle.mc_files.specs.Steps.{IsFile}
use Rattle.mc_files.specs.declared.taking.Imported.{Imported}
use Rattle.mc_files.proofs.TakeFacts.{Takes}

abbrev pub Imports : List ℕ → Type 0 → Result (Result Imported ℕ) CoreError → ReplicaState → ReplicaState → Type 0
Imports text rose result s new = Call (Is (read_refusal s)) (ImportEvents s text) (ImportShort s text) rose result s new

-- ---- of a file that was read

module _ (text : List ℕ) (roots : List Cid) (items : List Stored) (file : IsFile text roots items) where
  file_events : (s : ReplicaState) (events : List Event) (imported : Imported) → TakeEvents s roots items events imported → FileEvents s text events imported
  file_events s events imported takes = record {
    car = file.car;
    found = file.found;
    sound = file.sound;
    takes = subst (λ (cids : List Cid). TakeEvents s cids (blocks_of file.car) events imported) file.roots_are
        (subst (λ (stored : List Stored). TakeEvents s roots stored events imported) file.items_are takes);
  }

  file_begins : (s : ReplicaState) (events : List Event) → Begins (TakeEvents s roots items) events → Begins (ImportEvents s text) events
  file_begins s events (inl none) = inl none
  file_begins s events (inr takes) = inr (Ok takes.0, file_events s events takes.0 takes.1)

  file_short : (s new : ReplicaState) → TakeShort s items new → ImportShort s text new
  file_short s new (inl same) = inl same
  file_short s new (inr stored) = inr (record {
    car = file.car;
    found = file.found;
    sound = file.sound;
    stored = subst (λ (stored : List Stored). Goes (store_events (unstored s.state.durable.graph stored)) s new) file.items_are stored;
  })

  file_kinds : (kind : Kind) (error : CoreError) (rose : Type 0) (s new : ReplicaState)
      → ByKind (IsRefused (Is (read_refusal s)) error s new) (Faults (TakeEvents s roots items) rose s new) (TakeShort s items new) kind
      → ByKind (IsRefused (Is (read_refusal s)) error s new) (Faults (ImportEvents s text) rose s new) (ImportShort s text new) kind
  file_kinds Refusal error rose s new p = p
  file_kinds Fault error rose s new p = record { events = p.events; begins = file_begins s p.events p.begins; breaks = p.breaks }
  file_kinds Shortage error rose s new p = file_short s new p

  pub import_fails : (rose : Type 0) (error : CoreError) (old new : Option ReplicaState) → Told old new (Takes roots items rose (Err error)) → Told old new (Imports text rose (Err error))
  import_fails rose error None new p = tt
  import_fails rose error (Some s) None p = p
  import_fails rose error (Some s) (Some after) p = file_kinds (kind_of error) error rose s after p

-- what is wanted then, over every keeper
pub import_says : (text : List ℕ) (roots : List Cid) (blocks : List Verified) (imported : Imported) (q left : Queue) → IsFile text roots (map as_stored blocks) → TakesRoots roots (length blocks) imported q left
    → ImportSays text (Ok (Ok imported)) q left
import_says text roots blocks imported q left file takes = record {
  car = file.car;
  found = file.found;
  sound = file.sound;
  takes = subst (λ (cids : List Cid). TakesRoots cids (length file.car.sections) imported q left) file.roots_are
      (subst (λ (count : ℕ). TakesRoots roots count imported q left) (sym (length-map blocks as_stored) ∙ ap length file.items_are ∙ length-map file.car.sections stored_of) takes);
}
