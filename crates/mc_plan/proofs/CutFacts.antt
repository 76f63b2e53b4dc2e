-- What a delete has processed that was cut short.
use Rattle.std.proofs.Common.{◌≡◌, ◌⊎◌, inl, inr, ℕ, Bool, true, false, cond, List, [], ◌∷◌, ◌++◌, length, map, take, suc, zero, Option, Some, None, Result, Ok, Err, refl, sym, ◌∙◌, ap, subst}
use Rattle.std.specs.Prelude.{IfSome}
use Rattle.std.proofs.lemmas.List.{append-nil, append_assoc, map-append}
use Rattle.mc_base.specs.Told.{Told}
use Rattle.mc_base.specs.declared.cid.Cid.{Cid}
use Rattle.mc_model.specs.declared.block.Block.{Block}
use Rattle.mc_model.specs.declared.block.Stored.{Stored}
use Rattle.mc_model.specs.Cuts.{pairs}
use Rattle.mc_model.specs.Events.{Event, Store, Process, with_blocks, with_processed, processed_queue}
use Rattle.mc_model.specs.Kept.{Kept, IsKept, is_stored, processed}
use Rattle.mc_model.specs.Made.{next_priority}
use Rattle.mc_model.specs.State.{Durable, Running, durable_of, kept_of, vertex_of, vertices}
use Rattle.mc_keep.specs.Causes.{CommitFails, burnt, fires}
use Rattle.mc_keep.specs.Changes.{no_changes}
use Rattle.mc_keep.specs.declared.fuse.Fuse.{Fuse}
use Rattle.mc_plan.specs.declared.deletes.Deleted.{Deleted}
use Rattle.mc_plan.specs.declared.deletes.MadeBlock.{MadeBlock}
use Rattle.mc_plan.specs.declared.error.CoreError.{CoreError}
use Rattle.mc_plan.specs.Deletes.{AddsDeleted, AddsSome, AreNext, IsDelete, IsDeltas, Takes, all_events, chain_blocks, with_all}
use Rattle.mc_plan.specs.Events.{ReplicaState, state_of, all_happen, goes_on, stopped_with, Goes, IsCutShort}
use Rattle.mc_plan.specs.Uptakes.{with_store}
use Rattle.mc_plan.specs.Puts.{Adds, next_links}
use Rattle.mc_plan.specs.Refusals.{kind_of}
use Rattle.mc_plan.specs.Counted.{run_of}
use Rattle.mc_plan.proofs.DeletedFacts.{HeadsLaw}
use Rattle.mc_plan.proofs.KindFacts.{kinds, by_kind}
use Rattle.mc_plan.proofs.UptakeFacts.{SoundLaw, SameLaw, StoredLaw}
use Rattle.mc_plan.proofs.PutFacts.{BackLaw}
use Rattle.mc_plan.proofs.ShortFacts.{after_all, after_one, blocks_are, follows_processed, kept_one, next_take}
use Rattle.mc_plan.proofs.TakenFacts.{running, goes_follow, made_take, next_all}

-- lists with a first item

head_or : {A : Type 0} → A → List A → A
head_or other [] = other
head_or other (item ∷ items) = item

tail_of : {A : Type 0} → List A → List A
tail_of [] = []
tail_of (item ∷ items) = items

-- a commit that failed has happened, or it has not
commit_left : {X : Type 0} (fire : Option Bool) (rose : Type 0) (old whole new : X) → CommitFails fire rose old whole new → (new ≡ old) ⊎ (new ≡ whole)
commit_left None rose old whole new fails = fails.1
commit_left (Some false) rose old whole new fails = inl fails
commit_left (Some true) rose old whole new fails = elim fails [
  | inl all ↦ inr all
  | inr none ↦ inl none.1
]

abbrev block_in_made : MadeBlock → Block
block_in_made made = made.block

-- some first blocks are processed, and no other
abbrev Cut : Kept → List MadeBlock → ReplicaState → Type 0
Cut kept blocks new = (n : ℕ) × (processed (kept_of new.state.durable) ≡ processed kept ++ map block_in_made (take n blocks))

none_cut : (kept : Kept) (blocks : List MadeBlock) (new : ReplicaState) → processed (kept_of new.state.durable) ≡ processed kept → Cut kept blocks new
none_cut kept blocks new e = (zero, e ∙ sym (append-nil (processed kept)))

one_cut : (kept : Kept) (made : MadeBlock) (blocks : List MadeBlock) (new : ReplicaState) → processed (kept_of new.state.durable) ≡ processed kept ++ made.block ∷ [] → Cut kept (made ∷ blocks) new
one_cut kept made blocks new e = (suc zero, e)

more_cut : (kept after : Kept) (made : MadeBlock) (blocks : List MadeBlock) (new : ReplicaState) → processed after ≡ processed kept ++ made.block ∷ [] → Cut after blocks new → Cut kept (made ∷ blocks) new
more_cut kept after made blocks new e cut =
    (suc cut.0, cut.1 ∙ ap (λ l. l ++ map block_in_made (take cut.0 blocks)) e ∙ append_assoc (processed kept) (made.block ∷ []) (map block_in_made (take cut.0 blocks)))

module _ (back : BackLaw) (sound_law : SoundLaw) (stored_law : StoredLaw) (same_law : SameLaw) (heads_law : HeadsLaw) where
  at_kept : (k : Kept) (d : Durable) → d.graph ≡ vertices k.graph → d.order ≡ k.order → processed (kept_of d) ≡ processed k
  at_kept k d g o = follows_processed back sound_law stored_law same_law heads_law (stopped_with d None) k (g, o)

  -- nothing more happened, or the next block was processed

  fate_of_process : (kept k : Kept) (made : MadeBlock) (blocks : List MadeBlock) (more : List Event) (d : Durable) (run : Running) (fuse : Option Fuse) (rose : Type 0) (new : ReplicaState) → d.graph ≡ vertices k.graph → d.order ≡ k.order
      → processed k ≡ processed kept → processed (record { graph = k.graph; order = k.order ++ made.block.cid ∷ []; mark = k.mark }) ≡ processed kept ++ made.block ∷ []
      → IsCutShort (Process (made.block.cid ∷ []) ∷ more) rose (running d run fuse) new → Cut kept (made ∷ blocks) new
  fate_of_process kept k made blocks more d run fuse rose new g o same whole fate =
      let cids : List Cid = made.block.cid ∷ [] in
      elim fate [
        | inl at ↦ none_cut kept (made ∷ blocks) new (ap (λ (s : ReplicaState). processed (kept_of s.state.durable)) at.1 ∙ at_kept k d g o ∙ same)
        | inr breaks ↦ elim (commit_left (fires fuse) rose d (with_processed run.whole d cids) breaks.left breaks.fails) [
          | inl old ↦ none_cut kept (made ∷ blocks) new
              (ap (λ (s : ReplicaState). processed (kept_of s.state.durable)) breaks.ends ∙ ap (λ x. processed (kept_of x)) old ∙ at_kept k d g o ∙ same)
          | inr all ↦ one_cut kept made blocks new
              (ap (λ (s : ReplicaState). processed (kept_of s.state.durable)) breaks.ends ∙ ap (λ x. processed (kept_of x)) all
              ∙ at_kept (record { graph = k.graph; order = k.order ++ cids; mark = k.mark }) (with_processed run.whole d cids) g (ap (λ l. l ++ cids) o) ∙ whole)
        ]
      ]

  fate_of_store : (kept : Kept) (stored : List Stored) (blocks : List MadeBlock) (more : List Event) (d : Durable) (run : Running) (fuse : Option Fuse) (rose : Type 0) (new : ReplicaState) → d.graph ≡ vertices kept.graph → d.order ≡ kept.order
      → processed (record { graph = kept.graph ++ stored; order = kept.order; mark = kept.mark }) ≡ processed kept
      → IsCutShort (Store (vertices stored) ∷ more) rose (running d run fuse) new → Cut kept blocks new
  fate_of_store kept stored blocks more d run fuse rose new g o same fate = elim fate [
    | inl at ↦ none_cut kept blocks new (ap (λ (s : ReplicaState). processed (kept_of s.state.durable)) at.1 ∙ at_kept kept d g o)
    | inr breaks ↦ elim (commit_left (fires fuse) rose d (with_blocks d (vertices stored)) breaks.left breaks.fails) [
      | inl old ↦ none_cut kept blocks new
          (ap (λ (s : ReplicaState). processed (kept_of s.state.durable)) breaks.ends ∙ ap (λ x. processed (kept_of x)) old ∙ at_kept kept d g o)
      | inr all ↦ none_cut kept blocks new
          (ap (λ (s : ReplicaState). processed (kept_of s.state.durable)) breaks.ends ∙ ap (λ x. processed (kept_of x)) all
          ∙ at_kept (record { graph = kept.graph ++ stored; order = kept.order; mark = kept.mark }) (with_blocks d (vertices stored))
          (ap (λ graph. graph ++ vertices stored) g ∙ sym (map-append vertex_of kept.graph stored)) o ∙ same)
    ]
  ]

  -- some first events have happened, and then this

  cut : (blocks : List MadeBlock) (kept : Kept) (d : Durable) (run : Running) (fuse : Option Fuse) (so_far rest : List Event) (rose : Type 0) (new : ReplicaState) → d.graph ≡ vertices kept.graph → d.order ≡ kept.order
      → IsKept kept → AreNext kept blocks → all_events kept blocks ≡ so_far ++ rest → IsCutShort rest rose (all_happen (running d run fuse) so_far) new → Cut kept blocks new
  unfolding head_or tail_of
  cut [] kept d run fuse [] rest rose new g o sound next split fate =
      let at = subst (λ r. IsCutShort r rose (running d run fuse) new) (sym split) fate in
      none_cut kept [] new (ap (λ (s : ReplicaState). processed (kept_of s.state.durable)) at.1 ∙ at_kept kept d g o)
  cut [] kept d run fuse (event ∷ so_far) rest rose new g o sound next split fate = absurd (let f : zero ≡ suc (length (so_far ++ rest)) = ap length split in cc)
  cut (made ∷ blocks) kept d run fuse so_far rest rose new g o sound next split fate =
      step (λ after d run fuse so_far g o sound next split fate. cut blocks after d run fuse so_far rest rose new g o sound next split fate) (is_stored kept.graph made.block.cid) refl so_far split fate
    where
      Again : Type 0
      Again = (after : Kept) (d : Durable) (run : Running) (fuse : Option Fuse) (so_far : List Event) → d.graph ≡ vertices after.graph → d.order ≡ after.order → IsKept after → AreNext after blocks
          → all_events after blocks ≡ so_far ++ rest → IsCutShort rest rose (all_happen (running d run fuse) so_far) new → Cut after blocks new

      cids : List Cid
      cids = made.block.cid ∷ []

      stored : List Stored
      stored = record { cid = made.block.cid; bytes = made.bytes } ∷ []

      after : Bool → Kept
      after t = record { graph = cond t kept.graph (kept.graph ++ stored); order = kept.order ++ cids; mark = kept.mark }

      events_at : Bool → List Event
      events_at t = with_store (cond t None (Some (record no_changes { store = stored }))) (Process cids ∷ []) ++ all_events (after t) blocks

      processed_at : (t : Bool) → is_stored kept.graph made.block.cid ≡ t → processed (after t) ≡ processed kept ++ made.block ∷ []
      processed_at t e = subst (λ b. processed (after b) ≡ processed kept ++ made.block ∷ []) e (after_one sound_law stored_law same_law kept made.block made.bytes sound next.0)

      sound_at : (t : Bool) → is_stored kept.graph made.block.cid ≡ t → IsKept (after t)
      sound_at t e = subst (λ b. IsKept (after b)) e (kept_one sound_law stored_law same_law kept made.block made.bytes sound next.0)

      next_at : (t : Bool) → is_stored kept.graph made.block.cid ≡ t → AreNext (after t) blocks
      next_at t e = subst (λ b. AreNext (after b) blocks) e next.2

      same_at : processed (record { graph = kept.graph ++ stored; order = kept.order; mark = kept.mark }) ≡ processed kept
      same_at = ap processed (sym (stored_law kept stored)) ∙ same_law kept stored sound

      processing : Durable → Running
      processing e = record run { queue = processed_queue e run.queue cids }

      step : Again → (t : Bool) → is_stored kept.graph made.block.cid ≡ t → (so_far : List Event) → events_at t ≡ so_far ++ rest → IsCutShort rest rose (all_happen (running d run fuse) so_far) new → Cut kept (made ∷ blocks) new
      step again true e [] split fate =
          fate_of_process kept kept made blocks (all_events (after true) blocks) d run fuse rose new g o refl (processed_at true e)
          (subst (λ r. IsCutShort r rose (running d run fuse) new) (sym split) fate)
      step again true e (first ∷ so_far) split fate =
          let is : Process cids ≡ first = ap (head_or first) split in
          more_cut kept (after true) made blocks new (processed_at true e)
          (again (after true) (with_processed run.whole d cids) (processing d) (burnt fuse) so_far g (ap (λ l. l ++ cids) o) (sound_at true e) (next_at true e) (ap tail_of split)
          (subst (λ x. IsCutShort rest rose (all_happen (goes_on (running d run fuse) x) so_far) new) (sym is) fate))
      step again false e [] split fate =
          fate_of_store kept stored (made ∷ blocks) (Process cids ∷ all_events (after false) blocks) d run fuse rose new g o same_at
          (subst (λ r. IsCutShort r rose (running d run fuse) new) (sym split) fate)
      step again false e (first ∷ []) split fate =
          let is : Store (vertices stored) ≡ first = ap (head_or first) split in
          fate_of_process kept (record { graph = kept.graph ++ stored; order = kept.order; mark = kept.mark }) made blocks (all_events (after false) blocks) (with_blocks d (vertices stored)) run (burnt fuse) rose new
          (ap (λ graph. graph ++ vertices stored) g ∙ sym (map-append vertex_of kept.graph stored)) o same_at (processed_at false e)
          (subst (λ r. IsCutShort r rose (goes_on (running d run fuse) (Store (vertices stored))) new) (sym (ap tail_of split))
          (subst (λ x. IsCutShort rest rose (goes_on (running d run fuse) x) new) (sym is) fate))
      step again false e (first ∷ second ∷ so_far) split fate =
          let stores : Durable = with_blocks d (vertices stored) in
          let is : Store (vertices stored) ≡ first = ap (head_or first) split in
          let then : Process cids ≡ second = ap (λ l. head_or second (tail_of l)) split in
          more_cut kept (after false) made blocks new (processed_at false e)
          (again (after false) (with_processed run.whole stores cids) (processing stores) (burnt (burnt fuse)) so_far
          (ap (λ graph. graph ++ vertices stored) g ∙ sym (map-append vertex_of kept.graph stored)) (ap (λ l. l ++ cids) o) (sound_at false e) (next_at false e) (ap (λ l. tail_of (tail_of l)) split)
          (subst (λ x. IsCutShort rest rose (all_happen (goes_on (goes_on (running d run fuse) (Store (vertices stored))) x) so_far) new) (sym then)
          (subst (λ x. IsCutShort rest rose (all_happen (goes_on (goes_on (running d run fuse) x) second) so_far) new) (sym is) fate)))

  -- a delete whose blocks were made

  adds_first : (kept : Kept) (fuse : Option Fuse) (run : Running) (key : List ℕ) (blocks : List MadeBlock) (n : ℕ) (left : ReplicaState) → (is : IsDelete kept key blocks)
      → processed (kept_of left.state.durable) ≡ processed kept ++ map block_in_made (take n blocks)
      → Adds (chain_blocks (next_links (kept_of (durable_of kept))) (take n is.deltas)) (running (durable_of kept) run fuse) left
  adds_first kept fuse run key blocks n left is e =
      e ∙ ap (λ l. processed kept ++ l) (blocks_are (take n is.deltas) (take n blocks) kept (next_links kept) (made_take n is.deltas blocks kept (next_links kept) is.are))
      ∙ ap (λ (k : Kept). processed k ++ chain_blocks (next_links k) (take n is.deltas)) (sym (back kept))

  adds_some : (kept : Kept) (fuse : Option Fuse) (run : Running) (key : List ℕ) (blocks : List MadeBlock) (left : ReplicaState) → IsDelete kept key blocks → Cut kept blocks left → AddsSome key (running (durable_of kept) run fuse) left
  adds_some kept fuse run key blocks left is some =
      inr (is.deltas, some.0, subst (λ k. IsDeltas k key is.deltas) (sym (back kept)) is.is, adds_first kept fuse run key blocks some.0 left is some.1)

  next_of : (kept : Kept) (key : List ℕ) (blocks : List MadeBlock) → IsKept kept → IsDelete kept key blocks → AreNext kept blocks
  next_of kept key blocks sound is = next_all is.deltas blocks kept (next_links kept) (next_priority (processed kept)) key (pairs (processed kept) key) is.is.cuts is.are (heads_law kept sound)

  processed_goes : (kept : Kept) (fuse : Option Fuse) (run : Running) (blocks : List MadeBlock) (left : ReplicaState) → IsKept kept → AreNext kept blocks → Goes (all_events (kept_of (durable_of kept)) blocks) (running (durable_of kept) run fuse) left
      → processed (kept_of left.state.durable) ≡ processed kept ++ map block_in_made blocks
  processed_goes kept fuse run blocks left sound next goes =
      follows_processed back sound_law stored_law same_law heads_law left (with_all kept blocks)
      (goes_follow back kept fuse run blocks left (subst (λ k. Goes (all_events k blocks) (running (durable_of kept) run fuse) left) (back kept) goes))
      ∙ after_all sound_law stored_law same_law blocks kept sound next

  deleted_of : (kept : Kept) (fuse : Option Fuse) (run : Running) (key : List ℕ) (blocks : List MadeBlock) (rose : Type 0) (result : Result Deleted CoreError) (left : ReplicaState) → IsKept kept → IsDelete kept key blocks
      → Takes blocks rose result (running (durable_of kept) run fuse) left → AddsDeleted key result (running (durable_of kept) run fuse) left
  deleted_of kept fuse run key blocks rose (Ok deleted) left sound is takes = (
    is.deltas,
    subst (λ k. IsDeltas k key is.deltas) (sym (back kept)) is.is,
    processed_goes kept fuse run blocks left sound (next_of kept key blocks sound is) takes.0
        ∙ ap (λ l. processed kept ++ l) (blocks_are is.deltas blocks kept (next_links kept) is.are)
        ∙ ap (λ (k : Kept). processed k ++ chain_blocks (next_links k) is.deltas) (sym (back kept)),
  )
  deleted_of kept fuse run key blocks rose (Err error) left sound is takes =
      by_kind (kind_of error) (λ never. absurd never)
      (λ breaks. adds_some kept fuse run key blocks left is
      (cut blocks kept (durable_of kept) run fuse breaks.so_far breaks.rest rose left refl refl sound (next_of kept key blocks sound is) (ap (λ k. all_events k blocks) (sym (back kept)) ∙ breaks.split) breaks.fate))
      (λ some. adds_some kept fuse run key blocks left is
      (some.0, processed_goes kept fuse run (take some.0 blocks) left sound (next_take some.0 blocks kept (next_of kept key blocks sound is)) some.2)) takes

  pub delete_made : (told mid : Option Kept) (fuse fuse_mid : Option Fuse) (stop : Bool) (run : Running) (new : Option ReplicaState) (key : List ℕ) (blocks : List MadeBlock) (rose : Type 0) (result : Result Deleted CoreError)
      → stop ≡ false → mid ≡ told → fuse_mid ≡ fuse → IfSome told IsKept → IfSome told (λ kept. IsDelete kept key blocks) → Told (state_of mid fuse_mid (run_of stop run)) new (Takes blocks rose result)
      → Told (state_of told fuse (run_of stop run)) new (AddsDeleted key result)
  delete_made told mid fuse fuse_mid stop run new key blocks rose result up e f sound is takes =
      subst (λ b. Told (state_of told fuse (run_of b run)) new (AddsDeleted key result)) (sym up)
      (over told new sound is (subst (λ b. Told (state_of told fuse (run_of b run)) new (Takes blocks rose result)) up
      (subst (λ x. Told (state_of told x (run_of stop run)) new (Takes blocks rose result)) f
      (subst (λ t. Told (state_of t fuse_mid (run_of stop run)) new (Takes blocks rose result)) e takes))))
    where
      over : (told : Option Kept) (new : Option ReplicaState) → IfSome told IsKept → IfSome told (λ kept. IsDelete kept key blocks)
          → Told (state_of told fuse (run_of false run)) new (Takes blocks rose result) → Told (state_of told fuse (run_of false run)) new (AddsDeleted key result)
      over None new sound is takes = tt
      over (Some kept) None sound is takes = absurd takes
      over (Some kept) (Some left) sound is takes = deleted_of kept fuse run key blocks rose result left sound is takes

-- a delete that made no blocks

pub none_deleted : (told told_new : Option Kept) (fuse fuse_new : Option Fuse) (run run_new : Option Running) (key : List ℕ) (error : CoreError) → told_new ≡ told
    → Told (state_of told fuse run) (state_of told_new fuse_new run_new) (AddsDeleted key (Err error))
none_deleted told told_new fuse fuse_new run run_new key error e = subst (λ t. Told (state_of told fuse run) (state_of t fuse_new run_new) (AddsDeleted key (Err error))) (sym e) (over told)
  where
    over : (told : Option Kept) → Told (state_of told fuse run) (state_of told fuse_new run_new) (AddsDeleted key (Err error))
    over None = tt
    over (Some kept) =
        let same = sym (append-nil (processed (kept_of (durable_of kept)))) in
        kinds (kind_of error) same (inl same) (inl same)
