-- A block that was taken up stands after the blocks before it.
use Rattle.std.proofs.Common.{◌≡◌, Bool, false, List, [], ◌∷◌, ◌++◌, Option, Some, None, Result, Ok, Err, refl, sym, ap, ◌∙◌, subst}
use Rattle.std.specs.Prelude.{IfSome, IfOk}
use Rattle.std.proofs.lemmas.List.{append-nil}
use Rattle.mc_base.specs.Told.{Told}
use Rattle.mc_base.specs.declared.cid.Cid.{Cid}
use Rattle.mc_model.specs.declared.delta.Delta.{Delta}
use Rattle.mc_model.specs.Events.{Event, Batch, comes}
use Rattle.mc_model.specs.Kept.{Kept, IsKept, is_stored, processed}
use Rattle.mc_model.specs.Made.{made_bytes, made_cid}
use Rattle.mc_model.specs.State.{Durable, OpenBatch, Running, durable_of, kept_of}
use Rattle.mc_keep.specs.declared.fuse.Fuse.{Fuse}
use Rattle.mc_plan.specs.declared.deletes.MadeBlock.{MadeBlock}
use Rattle.mc_plan.specs.declared.error.CoreError.{CoreError}
use Rattle.mc_plan.specs.declared.made.Planned.{Planned}
use Rattle.mc_plan.specs.declared.made.Written.{Written}
use Rattle.mc_plan.specs.declared.uptakes.Uptake.{Uptake}
use Rattle.mc_plan.specs.Batches.{AddsBatch, OfBatch, delta_of_batch}
use Rattle.mc_plan.specs.Deletes.{block_events, with_all}
use Rattle.mc_plan.specs.Events.{ReplicaState, state_of, all_happen, goes_on, Goes, Part}
use Rattle.mc_plan.specs.Uptakes.{IsNew, IsUptake, uptake_events}
use Rattle.mc_plan.specs.Puts.{IsPlanned, Adds, made_block, next_links, next_made}
use Rattle.mc_plan.specs.Counted.{run_of}
use Rattle.mc_plan.proofs.DeletedFacts.{HeadsLaw}
use Rattle.mc_plan.proofs.UptakeFacts.{SoundLaw, SameLaw, StoredLaw}
use Rattle.mc_plan.proofs.PutFacts.{BackLaw}
use Rattle.mc_plan.proofs.ShortFacts.{after_all, follows_processed}
use Rattle.mc_plan.proofs.TakenFacts.{running, follows, plan_is_block}

-- what holds where all these events have happened, and then the batch was closed or not
abbrev pub IsAdded : (Kept → Delta) → ReplicaState → ReplicaState → Type 0
IsAdded delta_of s new = Adds (next_made (kept_of s.state.durable) (delta_of (kept_of s.state.durable)) ∷ []) s new

-- closing the batch after some events changes nothing that is durable
batch_stays : (durable : Durable) (run : Option Running) (batch : Option OpenBatch) → (comes durable run (Batch batch)).durable ≡ durable
batch_stays durable None batch = refl
batch_stays durable (Some run) batch = refl

closed_after : (events : List Event) (s : ReplicaState) (batch : Option OpenBatch) → (all_happen s (events ++ Batch batch ∷ [])).state.durable ≡ (all_happen s events).state.durable
closed_after [] s batch = batch_stays s.state.durable s.state.run batch
closed_after (event ∷ events) s batch = closed_after events (goes_on s event) batch

module _ (back : BackLaw) (sound_law : SoundLaw) (stored_law : StoredLaw) (same_law : SameLaw) (heads_law : HeadsLaw) where
  one_made : (kept : Kept) (fuse : Option Fuse) (run : Running) (whole : Bool) (links : List Cid) (delta : Delta) (uptake : Uptake) → IsKept kept → IsUptake kept whole (made_block links delta) (made_bytes links delta) uptake → uptake.after.links ≡ []
      → processed (kept_of (all_happen (running (durable_of kept) run fuse) (uptake_events uptake)).state.durable) ≡ processed kept ++ made_block links delta ∷ []
  one_made kept fuse run whole links delta uptake sound is none =
      let made : MadeBlock = record { block = made_block links delta; bytes = made_bytes links delta; known = is_stored kept.graph (made_cid links delta) } in
      let s : ReplicaState = running (durable_of kept) run fuse in
      ap (λ events. processed (kept_of (all_happen s events).state.durable)) (plan_is_block kept whole made uptake is ∙ sym (append-nil (block_events kept made)))
      ∙ follows_processed back sound_law stored_law same_law heads_law (all_happen s (block_events kept made ++ [])) (with_all kept (made ∷ [])) (follows (made ∷ []) kept (durable_of kept) run fuse refl refl)
      ∙ after_all sound_law stored_law same_law (made ∷ []) kept sound (subst (IsNew kept (made_block links delta) (made_bytes links delta)) none is.block_is_new, refl, tt)

  adds_one : (delta_of : Kept → Delta) (kept : Kept) (fuse : Option Fuse) (run : Running) (whole : Bool) (planned : Planned) (durable : Durable) (now : ReplicaState) → IsKept kept → IsPlanned kept whole (next_links kept) (delta_of kept) planned
      → now.state.durable ≡ (all_happen (running (durable_of kept) run fuse) (uptake_events planned.uptake)).state.durable → IsAdded delta_of (running (durable_of kept) run fuse) now
  adds_one delta_of kept fuse run whole planned durable now sound is ends =
      ap (λ d. processed (kept_of d)) ends
      ∙ one_made kept fuse run whole (next_links kept) (delta_of kept) planned.uptake sound is.uptake is.no_links
      ∙ ap (λ (k : Kept). processed k ++ next_made k (delta_of k) ∷ []) (sym (back kept))

  module _ (delta_of : Kept → Delta) (events : List Event) where
    over : (told : Option Kept) (fuse : Option Fuse) (run : Running) (new : Option ReplicaState) (planned : Planned) → IfSome told IsKept
        → IfSome told (λ kept. IsPlanned kept run.whole (next_links kept) (delta_of kept) planned)
        → ((s : ReplicaState) → (all_happen s events).state.durable ≡ (all_happen s (uptake_events planned.uptake)).state.durable)
        → Told (state_of told fuse (run_of false run)) new (Goes events) → Told (state_of told fuse (run_of false run)) new (IsAdded delta_of)
    over None fuse run new planned sound is same goes = tt
    over (Some kept) fuse run None planned sound is same goes = absurd goes
    over (Some kept) fuse run (Some after) planned sound is same goes =
        adds_one delta_of kept fuse run run.whole planned (durable_of kept) after sound is
        (ap (λ (s : ReplicaState). s.state.durable) goes.ends ∙ same (running (durable_of kept) run fuse))

    -- after reads, a planned block was taken up
    made_after : (told mid : Option Kept) (fuse fuse_mid : Option Fuse) (stop : Bool) (run : Running) (new : Option ReplicaState) (planned : Planned) → stop ≡ false → mid ≡ told → fuse_mid ≡ fuse
        → IfSome told IsKept → IfSome told (λ kept. IsPlanned kept run.whole (next_links kept) (delta_of kept) planned)
        → ((s : ReplicaState) → (all_happen s events).state.durable ≡ (all_happen s (uptake_events planned.uptake)).state.durable)
        → Told (state_of mid fuse_mid (run_of stop run)) new (Goes events) → Told (state_of told fuse (run_of stop run)) new (IsAdded delta_of)
    made_after told mid fuse fuse_mid stop run new planned up e f sound is same goes =
        subst (λ b. Told (state_of told fuse (run_of b run)) new (IsAdded delta_of)) (sym up)
        (over told fuse run new planned sound is same
        (subst (λ b. Told (state_of told fuse (run_of b run)) new (Goes events)) up
        (subst (λ x. Told (state_of told x (run_of stop run)) new (Goes events)) f
        (subst (λ t. Told (state_of t fuse_mid (run_of stop run)) new (Goes events)) e goes))))

  pub put_made : {T : Type 0} (delta_of : Kept → Delta) (told mid : Option Kept) (fuse fuse_mid : Option Fuse) (stop : Bool) (run : Running) (new : Option ReplicaState) (rose : Type 0) (planned : Planned) (result : Result T CoreError)
      → stop ≡ false → mid ≡ told → fuse_mid ≡ fuse → IfSome told IsKept → IfSome told (λ kept. IsPlanned kept run.whole (next_links kept) (delta_of kept) planned)
      → Told (state_of mid fuse_mid (run_of stop run)) new (Part (uptake_events planned.uptake) rose result)
      → IfOk result (λ written. Told (state_of told fuse (run_of stop run)) new (IsAdded delta_of))
  put_made delta_of told mid fuse fuse_mid stop run new rose planned (Err error) up e f sound is part = tt
  put_made delta_of told mid fuse fuse_mid stop run new rose planned (Ok written) up e f sound is part =
      made_after delta_of (uptake_events planned.uptake) told mid fuse fuse_mid stop run new planned up e f sound is (λ s. refl) part

  -- the same of an open batch
  pub commit_made : (told mid : Option Kept) (fuse fuse_mid : Option Fuse) (stop : Bool) (run : Running) (after : Option OpenBatch) (batch : OpenBatch) (new : Option ReplicaState) (rose : Type 0) (planned : Planned)
      (result : Result (Option Written) CoreError) → stop ≡ false → run.batch ≡ Some batch → mid ≡ told → fuse_mid ≡ fuse → IfSome told IsKept
      → IfSome told (λ kept. IsPlanned kept run.whole (next_links kept) (delta_of_batch kept batch) planned)
      → IfOk result (λ answer. answer ≡ Some planned.written)
      → Told (state_of mid fuse_mid (run_of stop run)) new (Part (uptake_events planned.uptake ++ Batch after ∷ []) rose result)
      → IfOk result (λ answer. Told (state_of told fuse (run_of stop run)) new (AddsBatch answer))
  commit_made told mid fuse fuse_mid stop run after batch new rose planned (Err error) up is e f sound plans says part = tt
  commit_made told mid fuse fuse_mid stop run after batch new rose planned (Ok answer) up is e f sound plans says part =
      subst (λ b. Told (state_of told fuse (run_of b run)) new (AddsBatch answer)) (sym up)
      (subst (λ a. Told (state_of told fuse (run_of false run)) new (AddsBatch a)) (sym says)
      (of_batch told new
      (subst (λ b. Told (state_of told fuse (run_of b run)) new (IsAdded (λ kept. delta_of_batch kept batch))) up
      (made_after (λ kept. delta_of_batch kept batch) (uptake_events planned.uptake ++ Batch after ∷ []) told mid fuse fuse_mid stop run new planned up e f sound plans (λ s. closed_after (uptake_events planned.uptake) s after) part))))
    where
      of_batch : (told : Option Kept) (new : Option ReplicaState) → Told (state_of told fuse (run_of false run)) new (IsAdded (λ kept. delta_of_batch kept batch))
          → Told (state_of told fuse (run_of false run)) new (AddsBatch (Some planned.written))
      of_batch None new added = tt
      of_batch (Some kept) None added = absurd added
      of_batch (Some kept) (Some now) added =
          subst (λ held. OfBatch held (λ open_batch. Adds (next_made (kept_of (durable_of kept)) (delta_of_batch (kept_of (durable_of kept)) open_batch) ∷ []) (running (durable_of kept) run fuse) now)) (sym is) added

-- an empty batch adds nothing
pub nothing_made : (told : Option Kept) (fuse : Option Fuse) (run run_new : Option Running) → Told (state_of told fuse run) (state_of told fuse run_new) (AddsBatch None)
nothing_made None fuse run run_new = tt
nothing_made (Some kept) fuse run run_new = sym (append-nil (processed (kept_of (durable_of kept))))
