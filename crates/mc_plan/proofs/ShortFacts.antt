-- What a delete leaves that was cut short by want of memory.
use Rattle.std.proofs.Common.{◌≡◌, ◌<◌, ℕ, Bool, true, false, cond, ◌||◌, ◌&&◌, List, [], ◌∷◌, ◌++◌, length, map, take, suc, zero, Option, Some, None, Result, Ok, Err, refl, sym, ◌∙◌, ap, subst}
use Rattle.std.specs.Prelude.{IfSome}
use Rattle.std.specs.List.{list_all}
use Rattle.std.specs.Result.{is_ok}
use Rattle.std.proofs.lemmas.List.{append-nil, append_assoc, map-append}
use Rattle.mc_base.specs.Told.{Told}
use Rattle.mc_base.specs.declared.cid.Cid.{Cid}
use Rattle.mc_model.specs.declared.block.Block.{Block}
use Rattle.mc_model.specs.declared.block.Stored.{Stored}
use Rattle.mc_model.specs.declared.delta.Delta.{Delta}
use Rattle.mc_model.specs.Cuts.{pairs}
use Rattle.mc_model.specs.Front.{same_cid, is_among}
use Rattle.mc_model.specs.Kept.{Kept, IsKept, block_in, blocks_in, bytes_at, is_stored, processed}
use Rattle.mc_model.specs.Live.{value}
use Rattle.mc_model.specs.Made.{next_priority}
use Rattle.mc_model.specs.State.{Running, durable_of, kept_of, stored_of}
use Rattle.mc_model.proofs.Blocks.{block_in_cid}
use Rattle.mc_model.proofs.Counts.{cid_itself}
use Rattle.mc_keep.specs.Changes.{no_changes}
use Rattle.mc_keep.specs.declared.fuse.Fuse.{Fuse}
use Rattle.mc_write.proofs.Membership.{In, any_from_in, from_map}
use Rattle.mc_plan.specs.declared.deletes.Deleted.{Deleted}
use Rattle.mc_plan.specs.declared.deletes.MadeBlock.{MadeBlock}
use Rattle.mc_plan.specs.declared.error.CoreError.{CoreError}
use Rattle.mc_plan.specs.Deletes.{AreMade, AreNext, IsDelete, ShortKeeps, Takes, all_events, chain_blocks, with_all, with_block, with_made}
use Rattle.mc_plan.specs.Events.{ReplicaState, state_of, Goes}
use Rattle.mc_plan.specs.Uptakes.{IsNew}
use Rattle.mc_plan.specs.Puts.{next_links}
use Rattle.mc_plan.specs.Refusals.{kind_of}
use Rattle.mc_plan.specs.Counted.{run_of}
use Rattle.mc_plan.proofs.DeletedFacts.{HeadsLaw}
use Rattle.mc_plan.proofs.IdFacts.{AreApart, are_apart}
use Rattle.mc_plan.proofs.KindFacts.{kinds, by_kind}
use Rattle.mc_plan.proofs.UptakeFacts.{SoundLaw, SameLaw, StoredLaw, one_block, one_stored, stored_now}
use Rattle.mc_plan.proofs.PutFacts.{BackLaw}
use Rattle.mc_plan.proofs.TakenFacts.{Follows, running, goes_follow, made_length, made_take, next_all}
use Rattle.mc_plan.proofs.ValueFacts.{AreOwn, HaveIds, value_of_part}
use Rattle.mc_plan.proofs.KnownFacts.{known_is}

-- what is kept after one more block

abbrev new_of : Block → List ℕ → List Stored
new_of block bytes = record { cid = block.cid; bytes = bytes } ∷ []

abbrev graph_with : Kept → Block → List ℕ → Bool → List Stored
graph_with kept block bytes known = cond known kept.graph (kept.graph ++ new_of block bytes)

bytes_now : (kept : Kept) (block : Block) (bytes : List ℕ) → IsNew kept block bytes [] → bytes_at (with_made kept block.cid bytes).graph block.cid ≡ Some bytes
bytes_now kept block bytes new =
    elim (is_stored kept.graph block.cid) as (λ t. is_stored kept.graph block.cid ≡ t → bytes_at (graph_with kept block bytes t) block.cid ≡ Some bytes) [
      | true ↦ λ e. known_is (bytes_at kept.graph block.cid) bytes e new.known
      | false ↦ λ e. stored_now kept.graph block.cid bytes e
    ] refl

module _ (sound_law : SoundLaw) (stored_law : StoredLaw) (same_law : SameLaw) where
  old_now : (kept : Kept) (block : Block) (bytes : List ℕ) → IsKept kept → blocks_in (with_made kept block.cid bytes).graph kept.order ≡ processed kept
  old_now kept block bytes sound =
      elim (is_stored kept.graph block.cid) as (λ t. blocks_in (graph_with kept block bytes t) kept.order ≡ processed kept) [
        | true ↦ refl
        | false ↦ ap processed (sym (stored_law kept (new_of block bytes))) ∙ same_law kept (new_of block bytes) sound
      ]

  pub after_one : (kept : Kept) (block : Block) (bytes : List ℕ) → IsKept kept → IsNew kept block bytes [] → processed (with_made kept block.cid bytes) ≡ processed kept ++ block ∷ []
  after_one kept block bytes sound new =
      let graph : List Stored = (with_made kept block.cid bytes).graph in
      map-append (block_in graph) kept.order (block.cid ∷ []) ∙ ap (λ l. l ++ blocks_in graph (block.cid ∷ [])) (old_now kept block bytes sound)
      ∙ ap (λ l. processed kept ++ l) (one_block graph block bytes (bytes_now kept block bytes new) new.good)

  pub kept_one : (kept : Kept) (block : Block) (bytes : List ℕ) → IsKept kept → IsNew kept block bytes [] → IsKept (with_made kept block.cid bytes)
  kept_one kept block bytes sound new =
      let cids : List Cid = block.cid ∷ [] in
      let after : List Stored → Kept = λ graph. record { graph = graph; order = kept.order ++ cids; mark = kept.mark } in
      elim (is_stored kept.graph block.cid) as (λ t. is_stored kept.graph block.cid ≡ t → IsKept (after (graph_with kept block bytes t))) [
        | true ↦ λ e. subst (λ graph. IsKept (after graph)) (append-nil kept.graph)
            (sound_law kept (record no_changes { marks = cids }) sound (record { good = refl; new = refl; once = refl })
            (record {
              stored = ap (λ graph. list_all (is_stored graph) cids) (append-nil kept.graph) ∙ one_stored kept.graph block bytes (known_is (bytes_at kept.graph block.cid) bytes e new.known);
              new = ap (λ b. b || false) new.new;
              once = refl;
            }))
        | false ↦ λ e. sound_law kept (record no_changes { store = new_of block bytes; marks = cids }) sound
            (record { good = ap (λ r. is_ok r && true) new.good; new = ap (λ b. b || false) e; once = refl })
            (record { stored = one_stored (kept.graph ++ new_of block bytes) block bytes (stored_now kept.graph block.cid bytes e); new = ap (λ b. b || false) new.new; once = refl })
      ] refl

  -- and after all of them
  pub after_all : (blocks : List MadeBlock) (kept : Kept) → IsKept kept → AreNext kept blocks → processed (with_all kept blocks) ≡ processed kept ++ map (λ (made : MadeBlock). made.block) blocks
  after_all [] kept sound next = sym (append-nil (processed kept))
  after_all (made ∷ blocks) kept sound next =
      after_all blocks (with_block kept made) (kept_one kept made.block made.bytes sound next.0) next.2
      ∙ ap (λ l. l ++ map (λ (m : MadeBlock). m.block) blocks) (after_one kept made.block made.bytes sound next.0)
      ∙ append_assoc (processed kept) (made.block ∷ []) (map (λ (m : MadeBlock). m.block) blocks)

pub next_take : (n : ℕ) (blocks : List MadeBlock) (kept : Kept) → AreNext kept blocks → AreNext kept (take n blocks)
next_take zero blocks kept next = tt
next_take (suc n) [] kept next = tt
next_take (suc n) (made ∷ blocks) kept next = (next.0, next.1, next_take n blocks (with_block kept made) next.2)

pub blocks_are : (deltas : List Delta) (blocks : List MadeBlock) (kept : Kept) (links : List Cid) → AreMade kept links deltas blocks → map (λ (made : MadeBlock). made.block) blocks ≡ chain_blocks links deltas
blocks_are [] [] kept links are = refl
blocks_are [] (made ∷ blocks) kept links are = absurd are
blocks_are (delta ∷ deltas) [] kept links are = absurd are
blocks_are (delta ∷ deltas) (made ∷ blocks) kept links are =
    ap (λ l. made.block ∷ l) (blocks_are deltas blocks (with_block kept made) (made.block.cid ∷ []) are.1)
    ∙ ap (λ (block : Block). block ∷ chain_blocks (block.cid ∷ []) deltas) are.0.is_block

-- the processed blocks are the ones that their identifiers name

are_own : (kept : Kept) → AreOwn (block_in kept.graph) (processed kept)
are_own kept = λ block i.
    let from = from_map (block_in kept.graph) block kept.order i in
    ap (λ (b : Block). block_in kept.graph b.cid) from.is ∙ ap (block_in kept.graph) (block_in_cid kept.graph from.item) ∙ sym from.is

is_in_order : (kept : Kept) (block : Block) → In block (processed kept) → is_among kept.order block.cid ≡ true
is_in_order kept block i =
    let from = from_map (block_in kept.graph) block kept.order i in
    any_from_in (same_cid block.cid) from.item kept.order from.within
    (ap (λ (b : Block). same_cid b.cid from.item) from.is ∙ ap (λ c. same_cid c from.item) (block_in_cid kept.graph from.item) ∙ cid_itself from.item)

have_ids : (kept : Kept) → AreApart kept → HaveIds (processed kept)
have_ids kept apart = λ a b i j e. apart a.cid b.cid (is_in_order kept a i) (is_in_order kept b j) e

module _ (back : BackLaw) (sound_law : SoundLaw) (stored_law : StoredLaw) (same_law : SameLaw) (heads_law : HeadsLaw) where
  pub follows_processed : (s : ReplicaState) (kept : Kept) → Follows s kept → processed (kept_of s.state.durable) ≡ processed kept
  follows_processed s kept f =
      ap (λ graph. blocks_in (map stored_of graph) s.state.durable.order) f.0
      ∙ ap (λ (k : Kept). blocks_in k.graph s.state.durable.order) (back kept)
      ∙ ap (blocks_in kept.graph) f.1

  value_left : (kept : Kept) (fuse : Option Fuse) (run : Running) (key : List ℕ) (blocks : List MadeBlock) (n : ℕ) (left : ReplicaState) → IsKept kept → IsDelete kept key blocks → n < length blocks
      → Goes (all_events kept (take n blocks)) (running (durable_of kept) run fuse) left → value (processed (kept_of left.state.durable)) key ≡ value (processed kept) key
  value_left kept fuse run key blocks n left sound is less goes =
      let links : List Cid = next_links kept in
      let next : AreNext kept blocks = next_all is.deltas blocks kept links (next_priority (processed kept)) key (pairs (processed kept) key) is.is.cuts is.are (heads_law kept sound) in
      ap (λ l. value l key)
      (follows_processed left (with_all kept (take n blocks)) (goes_follow back kept fuse run (take n blocks) left goes)
      ∙ after_all sound_law stored_law same_law (take n blocks) kept sound (next_take n blocks kept next)
      ∙ ap (λ l. processed kept ++ l) (blocks_are (take n is.deltas) (take n blocks) kept links (made_take n is.deltas blocks kept links is.are)))
      ∙ value_of_part (block_in kept.graph) (processed kept) n links (next_priority (processed kept)) key is.deltas (are_own kept) (have_ids kept (are_apart kept sound)) is.is.cuts
      (subst (λ count. n < count) (made_length is.deltas blocks kept links is.are) less)

  short_of : (kept : Kept) (fuse : Option Fuse) (run : Running) (key : List ℕ) (blocks : List MadeBlock) (rose : Type 0) (result : Result Deleted CoreError) (left : ReplicaState) → IsKept kept → IsDelete kept key blocks
      → Takes blocks rose result (running (durable_of kept) run fuse) left → ShortKeeps key result (running (durable_of kept) run fuse) left
  short_of kept fuse run key blocks rose (Ok deleted) left sound is takes = tt
  short_of kept fuse run key blocks rose (Err error) left sound is takes =
      by_kind (kind_of error) (λ never. tt) (λ breaks. tt)
      (λ some. subst (λ k. value (processed (kept_of left.state.durable)) key ≡ value (processed k) key) (sym (back kept))
      (value_left kept fuse run key blocks some.0 left sound is some.1 (subst (λ k. Goes (all_events k (take some.0 blocks)) (running (durable_of kept) run fuse) left) (back kept) some.2))) takes

  -- a delete whose blocks were made
  pub short_call : (told mid : Option Kept) (fuse fuse_mid : Option Fuse) (stop : Bool) (run : Running) (new : Option ReplicaState) (key : List ℕ) (blocks : List MadeBlock) (rose : Type 0) (result : Result Deleted CoreError)
      → stop ≡ false → mid ≡ told → fuse_mid ≡ fuse → IfSome told IsKept → IfSome told (λ kept. IsDelete kept key blocks) → Told (state_of mid fuse_mid (run_of stop run)) new (Takes blocks rose result)
      → Told (state_of told fuse (run_of stop run)) new (ShortKeeps key result)
  short_call told mid fuse fuse_mid stop run new key blocks rose result up e f sound is takes =
      subst (λ b. Told (state_of told fuse (run_of b run)) new (ShortKeeps key result)) (sym up)
      (over told new sound is (subst (λ b. Told (state_of told fuse (run_of b run)) new (Takes blocks rose result)) up
      (subst (λ x. Told (state_of told x (run_of stop run)) new (Takes blocks rose result)) f
      (subst (λ t. Told (state_of t fuse_mid (run_of stop run)) new (Takes blocks rose result)) e takes))))
    where
      over : (told : Option Kept) (new : Option ReplicaState) → IfSome told IsKept → IfSome told (λ kept. IsDelete kept key blocks)
          → Told (state_of told fuse (run_of false run)) new (Takes blocks rose result) → Told (state_of told fuse (run_of false run)) new (ShortKeeps key result)
      over None new sound is takes = tt
      over (Some kept) None sound is takes = absurd takes
      over (Some kept) (Some left) sound is takes = short_of kept fuse run key blocks rose result left sound is takes

-- a delete that made no blocks

early_of : (kept : Kept) (fuse fuse_new : Option Fuse) (run run_new : Option Running) (key : List ℕ) (error : CoreError)
    → ShortKeeps key (Err error) (record { state = record { durable = durable_of kept; run = run }; fuse = fuse }) (record { state = record { durable = durable_of kept; run = run_new }; fuse = fuse_new })
early_of kept fuse fuse_new run run_new key error = kinds (kind_of error) tt tt refl

pub short_early : (told told_new : Option Kept) (fuse fuse_new : Option Fuse) (run run_new : Option Running) (key : List ℕ) (error : CoreError) → told_new ≡ told
    → Told (state_of told fuse run) (state_of told_new fuse_new run_new) (ShortKeeps key (Err error))
short_early told told_new fuse fuse_new run run_new key error e = subst (λ t. Told (state_of told fuse run) (state_of t fuse_new run_new) (ShortKeeps key (Err error))) (sym e) (over told)
  where
    over : (told : Option Kept) → Told (state_of told fuse run) (state_of told fuse_new run_new) (ShortKeeps key (Err error))
    over None = tt
    over (Some kept) = early_of kept fuse fuse_new run run_new key error
