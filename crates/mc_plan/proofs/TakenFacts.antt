-- Made blocks, taken up one after another.
use Rattle.std.proofs.Common.{◌≡◌, ◌≤◌, ◌<◌, ◌+◌, ℕ, Bool, true, false, not, cond, filter, ◌&&◌, List, [], ◌∷◌, ◌++◌, length, map, take, suc, zero, Option, Some, None, Ok, Err, refl, sym, ◌∙◌, ap, subst, arith}
use Rattle.std.specs.Prelude.{IfSome, ◌-◌, ◌^◌, is_some, min, nat_lt}
use Rattle.std.specs.List.{list_all}
use Rattle.std.specs.Option.{option_or}
use Rattle.std.specs.Str.{bytes_eq}
use Rattle.std.proofs.lemmas.List.{append-nil, append_assoc, length-append, map-append, take_at}
use Rattle.std.proofs.lemmas.Bool.Decides.{nat_tests}
use Rattle.std.proofs.lemmas.Slice.Eq.{bytes_eq-Decides}
use Rattle.mc_base.specs.Causes.{Rose}
use Rattle.mc_base.specs.Told.{Told}
use Rattle.mc_base.specs.declared.cid.Cid.{Cid}
use Rattle.mc_model.specs.declared.block.Block.{Block}
use Rattle.mc_model.specs.declared.block.Stored.{Stored}
use Rattle.mc_model.specs.declared.delta.Delta.{Delta}
use Rattle.mc_model.specs.Cuts.{Pair, IsCuts}
use Rattle.mc_model.specs.Events.{Event, Process, with_blocks, with_processed, processed_queue}
use Rattle.mc_model.specs.Front.{is_among}
use Rattle.mc_model.specs.Graph.{has}
use Rattle.mc_model.specs.Kept.{Kept, bytes_at, is_stored}
use Rattle.mc_model.specs.Made.{made_bytes, made_cid}
use Rattle.mc_model.specs.Offer.{block_max, offer}
use Rattle.mc_model.specs.State.{Durable, Running, durable_of, kept_of, stored_of, vertex_of, vertices}
use Rattle.mc_model.proofs.Counts.{cid_itself}
use Rattle.mc_keep.specs.Causes.{burnt}
use Rattle.mc_keep.specs.Changes.{no_changes}
use Rattle.mc_keep.specs.declared.fuse.Fuse.{Fuse}
use Rattle.mc_plan.specs.declared.deletes.Deleted.{Deleted}
use Rattle.mc_plan.specs.declared.deletes.MadeBlock.{MadeBlock}
use Rattle.mc_plan.specs.declared.error.CoreError.{CoreError}
use Rattle.mc_plan.specs.declared.uptakes.Uptake.{Uptake}
use Rattle.mc_plan.specs.declared.error.CoreError.TheVariants.{BlockTooLarge, Clash, KeeperFault}
use Rattle.mc_plan.specs.Deletes.{with_made, with_block, with_all, chain_events, IsMade, AreMade, AreNext, block_events, all_events, OutsideIs, EndsOne, Takes}
use Rattle.mc_plan.specs.Events.{ReplicaState, state_of, all_happen, Goes, Breaks}
use Rattle.mc_plan.specs.Uptakes.{IsNew, IsNoOther, IsUptake, uptake_events, store_change, with_store}
use Rattle.mc_plan.specs.Puts.{IsPlanned, made_block}
use Rattle.mc_plan.specs.Refusals.{kind_of, clash_refusal, other_refusal, size_refusal}
use Rattle.mc_plan.specs.Counted.{run_of}
use Rattle.mc_plan.proofs.DeleteFacts.{is_cid, among_here}
use Rattle.mc_plan.proofs.EventFacts.{goes_then, goes_nowhere, breaks_after, breaks_more, breaks_rose}
use Rattle.mc_plan.proofs.KindFacts.{by_kind}
use Rattle.mc_plan.proofs.KnownFacts.{none_open}
use Rattle.mc_plan.proofs.PutFacts.{BackLaw}

-- a made block may be taken up where it doesn't clash

other_none : (cid : Cid) (bytes : List ℕ) (found : Option (List ℕ)) → other_refusal cid bytes found ≡ None → IsNoOther found bytes
other_none cid bytes None e = tt
other_none cid bytes (Some other) e =
    elim (bytes_eq other bytes) as (λ t. bytes_eq other bytes ≡ t → cond t None (Some (Clash cid)) ≡ None → other ≡ bytes) [
      | true ↦ λ same h. (bytes_eq-Decides other bytes).0 same
      | false ↦ λ same h. absurd (let f : true ≡ false = ap is_some h in cc)
    ] refl e

no_clash : (kept : Kept) (cid : Cid) (bytes : List ℕ) → clash_refusal kept cid bytes ≡ None → (is_among kept.order cid ≡ false) × IsNoOther (bytes_at kept.graph cid) bytes
no_clash kept cid bytes e =
    elim (is_among kept.order cid) as (λ t. cond t (Some (Clash cid)) (other_refusal cid bytes (bytes_at kept.graph cid)) ≡ None → (t ≡ false) × IsNoOther (bytes_at kept.graph cid) bytes) [
      | true ↦ λ h. absurd (let f : true ≡ false = ap is_some h in cc)
      | false ↦ λ h. (refl, other_none cid bytes (bytes_at kept.graph cid) h)
    ] e

made_is_new : (kept : Kept) (links : List Cid) (delta : Delta) (made : MadeBlock) → IsMade kept links delta made → length (made_bytes links delta) ≤ block_max
    → list_all (is_among kept.order) links ≡ true → IsNew kept made.block made.bytes []
made_is_new kept links delta made is fits linked =
    let none = no_clash kept made.block.cid made.bytes is.allowed in
    record {
      good = is.good (subst (λ bytes. length bytes ≤ block_max) (sym is.is_bytes) fits);
      new = none.0;
      known = none.1;
      linked = none_open kept.order (made.block.cid ∷ []) made.block.links (ap (λ (block : Block). list_all (is_among kept.order) block.links) is.is_block ∙ linked);
    }

-- the same of one block that was made, where it is told

fits_block : (bytes : List ℕ) → size_refusal bytes ≡ None → length bytes ≤ block_max
fits_block bytes e =
    elim (nat_lt block_max (length bytes)) as (λ t. nat_lt block_max (length bytes) ≡ t → cond t (Some (BlockTooLarge (min (length bytes) (2 ^ 64 - 1)))) None ≡ None → length bytes ≤ block_max) [
      | true ↦ λ above h. absurd (let f : true ≡ false = ap is_some h in cc)
      | false ↦ λ above h. grind (arith, nat_tests)
    ] refl e

pub made_new : (told : Option Kept) (links : List Cid) (delta : Delta) (cid : Cid) (bytes : List ℕ) → IfSome told (λ kept. list_all (is_among kept.order) links ≡ true)
    → (length bytes ≤ block_max → offer cid bytes ≡ Ok (record { cid = cid; links = links; delta = delta })) → size_refusal bytes ≡ None → IfSome told (λ kept. clash_refusal kept cid bytes ≡ None)
    → IfSome told (λ kept. IsNew kept (record { cid = cid; links = links; delta = delta }) bytes [])
made_new None links delta cid bytes linked good size allowed = tt
made_new (Some kept) links delta cid bytes linked good size allowed =
    let none = no_clash kept cid bytes allowed in
    record { good = good (fits_block bytes size); new = none.0; known = none.1; linked = none_open kept.order (cid ∷ []) links linked }

pub next_all : (deltas : List Delta) (blocks : List MadeBlock) (kept : Kept) (links : List Cid) (priority : ℕ) (key : List ℕ) (pairs : List Pair) → IsCuts links priority key pairs deltas
    → AreMade kept links deltas blocks → list_all (is_among kept.order) links ≡ true → AreNext kept blocks
next_all [] [] kept links priority key pairs cuts are linked = tt
next_all [] (made ∷ blocks) kept links priority key pairs cuts are linked = absurd are
next_all (delta ∷ deltas) [] kept links priority key pairs cuts are linked = absurd are
next_all (delta ∷ deltas) (made ∷ blocks) kept links priority key pairs (taken, rest, split, cut, cuts) are linked = (
  made_is_new kept links delta made are.0 cut.fits linked,
  are.0.stored,
  next_all deltas blocks (with_block kept made) (made.block.cid ∷ []) (priority + 1) key rest
      (subst (λ cid. IsCuts (cid ∷ []) (priority + 1) key rest deltas) (sym (is_cid kept links delta made are.0)) cuts) are.1
      (ap (λ b. b && true) (among_here made.block.cid made.block.cid kept.order (cid_itself made.block.cid))),
)

-- the events of made blocks are those of their deltas

abbrev step_events : Kept → List Delta → Cid → List ℕ → List Event
step_events kept deltas cid bytes = with_store (store_change kept.graph cid bytes) (Process (cid ∷ []) ∷ []) ++ chain_events (with_made kept cid bytes) (cid ∷ []) deltas

pub events_all : (deltas : List Delta) (blocks : List MadeBlock) (kept : Kept) (links : List Cid) → AreMade kept links deltas blocks → all_events kept blocks ≡ chain_events kept links deltas
events_all [] [] kept links are = refl
events_all [] (made ∷ blocks) kept links are = absurd are
events_all (delta ∷ deltas) [] kept links are = absurd are
events_all (delta ∷ deltas) (made ∷ blocks) kept links are =
    ap (λ events. block_events kept made ++ events) (events_all deltas blocks (with_block kept made) (made.block.cid ∷ []) are.1)
    ∙ ap (λ cid. step_events kept deltas cid made.bytes) (is_cid kept links delta made are.0)
    ∙ ap (step_events kept deltas (made_cid links delta)) are.0.is_bytes

pub made_take : (n : ℕ) (deltas : List Delta) (blocks : List MadeBlock) (kept : Kept) (links : List Cid) → AreMade kept links deltas blocks → AreMade kept links (take n deltas) (take n blocks)
made_take zero deltas blocks kept links are = tt
made_take (suc n) [] [] kept links are = tt
made_take (suc n) [] (made ∷ blocks) kept links are = absurd are
made_take (suc n) (delta ∷ deltas) [] kept links are = absurd are
made_take (suc n) (delta ∷ deltas) (made ∷ blocks) kept links are = (are.0, made_take n deltas blocks (with_block kept made) (made.block.cid ∷ []) are.1)

pub made_length : (deltas : List Delta) (blocks : List MadeBlock) (kept : Kept) (links : List Cid) → AreMade kept links deltas blocks → length blocks ≡ length deltas
made_length [] [] kept links are = refl
made_length [] (made ∷ blocks) kept links are = absurd are
made_length (delta ∷ deltas) [] kept links are = absurd are
made_length (delta ∷ deltas) (made ∷ blocks) kept links are = omega (arith, made_length deltas blocks (with_block kept made) (made.block.cid ∷ []) are.1)

-- what a state stores and processes is what is kept after the blocks

abbrev pub running : Durable → Running → Option Fuse → ReplicaState
running durable run fuse = record { state = record { durable = durable; run = Some run }; fuse = fuse }

abbrev pub Follows : ReplicaState → Kept → Type 0
Follows s kept = (s.state.durable.graph ≡ vertices kept.graph) × (s.state.durable.order ≡ kept.order)

pub follows : (blocks : List MadeBlock) (kept : Kept) (durable : Durable) (run : Running) (fuse : Option Fuse) → durable.graph ≡ vertices kept.graph → durable.order ≡ kept.order
    → Follows (all_happen (running durable run fuse) (all_events kept blocks)) (with_all kept blocks)
follows [] kept durable run fuse e f = (e, f)
follows (made ∷ blocks) kept durable run fuse e f =
    let cids : List Cid = made.block.cid ∷ [] in
    let new : List Stored = record { cid = made.block.cid; bytes = made.bytes } ∷ [] in
    let after : Bool → Kept = λ t. record { graph = cond t kept.graph (kept.graph ++ new); order = kept.order ++ cids; mark = kept.mark } in
    let processed : Durable → Running = λ d. record run { queue = processed_queue d run.queue cids } in
    elim (is_stored kept.graph made.block.cid)
    as (λ t. Follows (all_happen (running durable run fuse) (with_store (cond t None (Some (record no_changes { store = new }))) (Process cids ∷ []) ++ all_events (after t) blocks)) (with_all (after t) blocks)) [
      | true ↦ follows blocks (after true) (with_processed run.whole durable cids) (processed durable) (burnt fuse) e (ap (λ l. l ++ cids) f)
      | false ↦ follows blocks (after false) (with_processed run.whole (with_blocks durable (vertices new)) cids) (processed (with_blocks durable (vertices new))) (burnt (burnt fuse))
          (ap (λ graph. graph ++ vertices new) e ∙ sym (map-append vertex_of kept.graph new)) (ap (λ l. l ++ cids) f)
    ]

new_moves : (old kept : Kept) (block : Block) (bytes : List ℕ) → kept.graph ≡ old.graph → kept.order ≡ old.order → IsNew old block bytes [] → IsNew kept block bytes []
new_moves old kept block bytes e f new = record {
  good = new.good;
  new = ap (λ order. is_among order block.cid) f ∙ new.new;
  known = subst (λ graph. IsNoOther (bytes_at graph block.cid) bytes) (sym e) new.known;
  linked = new.linked ∙ ap (λ (order : List Cid). filter (λ c. not (has c (order ++ block.cid ∷ []))) block.links) (sym f);
}

next_at : (blocks : List MadeBlock) (made : MadeBlock) (rest : List MadeBlock) (kept : Kept) → AreNext kept (blocks ++ made ∷ rest)
    → IsNew (with_all kept blocks) made.block made.bytes [] × (made.known ≡ is_stored (with_all kept blocks).graph made.block.cid)
next_at [] made rest kept next = (next.0, next.1)
next_at (first ∷ blocks) made rest kept next = next_at blocks made rest (with_block kept first) next.2

events_at : (blocks : List MadeBlock) (made : MadeBlock) (rest : List MadeBlock) (kept : Kept)
    → all_events kept (blocks ++ made ∷ rest) ≡ all_events kept blocks ++ (block_events (with_all kept blocks) made ++ all_events (with_block (with_all kept blocks) made) rest)
events_at [] made rest kept = refl
events_at (first ∷ blocks) made rest kept =
    ap (λ events. block_events kept first ++ events) (events_at blocks made rest (with_block kept first))
    ∙ sym (append_assoc (block_events kept first) (all_events (with_block kept first) blocks)
    (block_events (with_all (with_block kept first) blocks) made ++ all_events (with_block (with_all (with_block kept first) blocks) made) rest))

-- this block was taken up, and these were
abbrev pub DoesOne : MadeBlock → ReplicaState → ReplicaState → Type 0
DoesOne made s now = Goes (block_events (kept_of s.state.durable) made) s now

abbrev pub Taken : List MadeBlock → ReplicaState → ReplicaState → Type 0
Taken blocks s now = Goes (all_events (kept_of s.state.durable) blocks) s now

module _ (back : BackLaw) where
  same_graph : (old kept : Kept) → vertices kept.graph ≡ vertices old.graph → kept.graph ≡ old.graph
  same_graph old kept e = sym (ap (λ (k : Kept). k.graph) (back kept)) ∙ ap (map stored_of) e ∙ ap (λ (k : Kept). k.graph) (back old)

  -- a running replica after some blocks
  pub goes_follow : (kept : Kept) (fuse : Option Fuse) (run : Running) (blocks : List MadeBlock) (now : ReplicaState) → Goes (all_events kept blocks) (running (durable_of kept) run fuse) now → Follows now (with_all kept blocks)
  goes_follow kept fuse run blocks now goes = subst (λ s. Follows s (with_all kept blocks)) (sym goes.ends) (follows blocks kept (durable_of kept) run fuse refl refl)

  same_events : (kept : Kept) (made : MadeBlock) (s : ReplicaState) → Follows s kept → block_events (kept_of s.state.durable) made ≡ block_events kept made
  same_events kept made s f =
      ap (λ graph. with_store (store_change graph made.block.cid made.bytes) (Process (made.block.cid ∷ []) ∷ [])) (ap (map stored_of) f.0 ∙ ap (λ (k : Kept). k.graph) (back kept))

  -- the next block may be taken up
  next_now : (kept now : Kept) (fuse fuse_now : Option Fuse) (run : Running) (run_now : Option Running) (blocks : List MadeBlock) (made : MadeBlock) (rest : List MadeBlock) → AreNext kept (blocks ++ made ∷ rest)
      → Goes (all_events kept blocks) (running (durable_of kept) run fuse) (record { state = record { durable = durable_of now; run = run_now }; fuse = fuse_now })
      → IsNew now made.block made.bytes [] × (made.known ≡ is_stored now.graph made.block.cid)
  next_now kept now fuse fuse_now run run_now blocks made rest next goes =
      let f = goes_follow kept fuse run blocks _ goes in
      let at = next_at blocks made rest kept next in
      let graph : now.graph ≡ (with_all kept blocks).graph = same_graph (with_all kept blocks) now f.0 in
      (new_moves (with_all kept blocks) now made.block made.bytes graph f.1 at.0, at.1 ∙ ap (λ g. is_stored g made.block.cid) (sym graph))

  from_kept : (kept : Kept) (fuse : Option Fuse) (run : Running) (blocks : List MadeBlock) (now : ReplicaState) → Taken blocks (running (durable_of kept) run fuse) now → Goes (all_events kept blocks) (running (durable_of kept) run fuse) now
  from_kept kept fuse run blocks now goes = subst (λ k. Goes (all_events k blocks) (running (durable_of kept) run fuse) now) (back kept) goes

  pub next_told : (told now : Option Kept) (fuse fuse_now : Option Fuse) (stop stop_now : Bool) (run run_now : Running) (blocks : List MadeBlock) (made : MadeBlock) (rest all : List MadeBlock)
      → stop ≡ false → all ≡ blocks ++ made ∷ rest → (told ≡ None → now ≡ None) → IfSome told (λ kept. AreNext kept all)
      → Told (state_of told fuse (run_of stop run)) (state_of now fuse_now (run_of stop_now run_now)) (Taken blocks)
      → IfSome now (λ kept. IsNew kept made.block made.bytes [] × (made.known ≡ is_stored kept.graph made.block.cid))
  next_told told now fuse fuse_now stop stop_now run run_now blocks made rest all up split silent next taken =
      over told now silent next (subst (λ b. Told (state_of told fuse (run_of b run)) (state_of now fuse_now (run_of stop_now run_now)) (Taken blocks)) up taken)
    where
      over : (told now : Option Kept) → (told ≡ None → now ≡ None) → IfSome told (λ kept. AreNext kept all)
          → Told (state_of told fuse (run_of false run)) (state_of now fuse_now (run_of stop_now run_now)) (Taken blocks)
          → IfSome now (λ kept. IsNew kept made.block made.bytes [] × (made.known ≡ is_stored kept.graph made.block.cid))
      over None now silent next taken = subst (λ t. IfSome t (λ kept. IsNew kept made.block made.bytes [] × (made.known ≡ is_stored kept.graph made.block.cid))) (sym (silent refl)) tt
      over (Some kept) None silent next taken = absurd taken
      over (Some kept) (Some new) silent next taken =
          next_now kept new fuse fuse_now run (run_of stop_now run_now) blocks made rest (subst (AreNext kept) split next) (from_kept kept fuse run blocks _ taken)

  -- after one more block

  both_events : (kept : Kept) (blocks : List MadeBlock) (made : MadeBlock) (rest : List MadeBlock) (s : ReplicaState) → Follows s (with_all kept blocks)
      → all_events kept blocks ++ (block_events (kept_of s.state.durable) made ++ all_events (with_block (with_all kept blocks) made) rest) ≡ all_events kept (blocks ++ made ∷ rest)
  both_events kept blocks made rest s f =
      ap (λ events. all_events kept blocks ++ (events ++ all_events (with_block (with_all kept blocks) made) rest)) (same_events (with_all kept blocks) made s f)
      ∙ sym (events_at blocks made rest kept)

  one_more : (kept : Kept) (fuse : Option Fuse) (run : Running) (blocks : List MadeBlock) (made : MadeBlock) (now new : ReplicaState) → Goes (all_events kept blocks) (running (durable_of kept) run fuse) now
      → Goes (block_events (kept_of now.state.durable) made) now new → Goes (all_events kept (blocks ++ made ∷ [])) (running (durable_of kept) run fuse) new
  one_more kept fuse run blocks made now new p q =
      subst (λ events. Goes events (running (durable_of kept) run fuse) new)
      (ap (λ events. all_events kept blocks ++ events) (sym (append-nil (block_events (kept_of now.state.durable) made))) ∙ both_events kept blocks made [] now (goes_follow kept fuse run blocks now p))
      (goes_then (all_events kept blocks) (block_events (kept_of now.state.durable) made) (running (durable_of kept) run fuse) now new p q)

  to_kept : (kept : Kept) (fuse : Option Fuse) (run : Running) (blocks : List MadeBlock) (now : ReplicaState) → Goes (all_events kept blocks) (running (durable_of kept) run fuse) now → Taken blocks (running (durable_of kept) run fuse) now
  to_kept kept fuse run blocks now goes = subst (λ k. Goes (all_events k blocks) (running (durable_of kept) run fuse) now) (sym (back kept)) goes

  pub taken_goes_on : (told : Option Kept) (fuse : Option Fuse) (stop : Bool) (run : Running) (now new : Option ReplicaState) (blocks : List MadeBlock) (made : MadeBlock)
      → stop ≡ false → Told (state_of told fuse (run_of stop run)) now (Taken blocks) → Told now new (DoesOne made)
      → Told (state_of told fuse (run_of stop run)) new (Taken (blocks ++ made ∷ []))
  taken_goes_on told fuse stop run now new blocks made up taken more =
      subst (λ b. Told (state_of told fuse (run_of b run)) new (Taken (blocks ++ made ∷ []))) (sym up)
      (over told now new (subst (λ b. Told (state_of told fuse (run_of b run)) now (Taken blocks)) up taken) more)
    where
      over : (told : Option Kept) (now new : Option ReplicaState) → Told (state_of told fuse (run_of false run)) now (Taken blocks) → Told now new (DoesOne made)
          → Told (state_of told fuse (run_of false run)) new (Taken (blocks ++ made ∷ []))
      over None now new taken more = tt
      over (Some kept) None new taken more = absurd taken
      over (Some kept) (Some s) None taken more = absurd more
      over (Some kept) (Some s) (Some t) taken more =
          to_kept kept fuse run (blocks ++ made ∷ []) t (one_more kept fuse run blocks made s t (from_kept kept fuse run blocks s taken) more)

  -- where one block ends the call

  one_breaks : (kept : Kept) (fuse : Option Fuse) (run : Running) (blocks : List MadeBlock) (made : MadeBlock) (rest : List MadeBlock) (own own_mid own_new : ℕ) (now new : ReplicaState) → own ≤ own_mid
      → Goes (all_events kept blocks) (running (durable_of kept) run fuse) now → Breaks (block_events (kept_of now.state.durable) made) (Rose own_mid own_new) now new
      → Breaks (all_events kept (blocks ++ made ∷ rest)) (Rose own own_new) (running (durable_of kept) run fuse) new
  one_breaks kept fuse run blocks made rest own own_mid own_new now new later p q =
      let events : List Event = block_events (kept_of now.state.durable) made in
      let more : List Event = all_events (with_block (with_all kept blocks) made) rest in
      subst (λ e. Breaks e (Rose own own_new) (running (durable_of kept) run fuse) new) (both_events kept blocks made rest now (goes_follow kept fuse run blocks now p))
      (breaks_after (all_events kept blocks) (events ++ more) (Rose own own_new) (running (durable_of kept) run fuse) now new p
      (breaks_more events more (Rose own own_new) now new (breaks_rose events (Rose own_mid own_new) (Rose own own_new) now new (λ r. omega (arith, r, later)) q)))

  one_ends : (kept : Kept) (fuse : Option Fuse) (run : Running) (blocks : List MadeBlock) (made : MadeBlock) (rest all : List MadeBlock) (own own_mid own_new : ℕ) (now new : ReplicaState) (error : CoreError) → own ≤ own_mid
      → all ≡ blocks ++ made ∷ rest → Taken blocks (running (durable_of kept) run fuse) now
      → OutsideIs (Breaks (block_events (kept_of now.state.durable) made) (Rose own_mid own_new) now new) (new ≡ now) error
      → OutsideIs (Breaks (all_events (kept_of (durable_of kept)) all) (Rose own own_new) (running (durable_of kept) run fuse) new)
      ((n : ℕ) × (n < length all) × Goes (all_events (kept_of (durable_of kept)) (take n all)) (running (durable_of kept) run fuse) new) error
  one_ends kept fuse run blocks made rest all own own_mid own_new now new error later split p q =
      by_kind (kind_of error) (λ never. never)
      (λ breaks. subst (λ k. Breaks (all_events k all) (Rose own own_new) (running (durable_of kept) run fuse) new) (sym (back kept))
      (subst (λ l. Breaks (all_events kept l) (Rose own own_new) (running (durable_of kept) run fuse) new) (sym split)
      (one_breaks kept fuse run blocks made rest own own_mid own_new now new later (from_kept kept fuse run blocks now p) breaks)))
      (λ same. (
        length blocks,
        omega (arith, ap length split, length-append blocks (made ∷ rest)),
        subst (λ l. Goes (all_events (kept_of (durable_of kept)) l) (running (durable_of kept) run fuse) new) (sym (ap (take (length blocks)) split ∙ take_at blocks (made ∷ rest) (length blocks) refl))
            (subst (λ s. Taken blocks (running (durable_of kept) run fuse) s) (sym same) p),
      )) q

  pub taken_ends : (told : Option Kept) (fuse : Option Fuse) (stop : Bool) (run : Running) (now new : Option ReplicaState) (blocks : List MadeBlock) (made : MadeBlock) (rest all : List MadeBlock)
      (own own_mid own_new : ℕ) (error : CoreError) → stop ≡ false → own ≤ own_mid → all ≡ blocks ++ made ∷ rest → Told (state_of told fuse (run_of stop run)) now (Taken blocks)
      → Told now new (EndsOne made (Rose own_mid own_new) error) → Told (state_of told fuse (run_of stop run)) new (Takes all (Rose own own_new) (Err error))
  taken_ends told fuse stop run now new blocks made rest all own own_mid own_new error up later split taken more =
      subst (λ b. Told (state_of told fuse (run_of b run)) new (Takes all (Rose own own_new) (Err error))) (sym up)
      (over told now new (subst (λ b. Told (state_of told fuse (run_of b run)) now (Taken blocks)) up taken) more)
    where
      over : (told : Option Kept) (now new : Option ReplicaState) → Told (state_of told fuse (run_of false run)) now (Taken blocks) → Told now new (EndsOne made (Rose own_mid own_new) error)
          → Told (state_of told fuse (run_of false run)) new (Takes all (Rose own own_new) (Err error))
      over None now new taken more = tt
      over (Some kept) None new taken more = absurd taken
      over (Some kept) (Some s) None taken more = absurd more
      over (Some kept) (Some s) (Some t) taken more = one_ends kept fuse run blocks made rest all own own_mid own_new s t error later split taken more

pub taken_all : (old new : Option ReplicaState) (blocks all : List MadeBlock) (rose : Type 0) (deleted : Deleted) → blocks ≡ all → deleted.blocks ≡ length all
    → Told old new (Taken blocks) → Told old new (Takes all rose (Ok deleted))
taken_all None new blocks all rose deleted e f taken = tt
taken_all (Some s) None blocks all rose deleted e f taken = absurd taken
taken_all (Some s) (Some t) blocks all rose deleted e f taken = (subst (λ l. Goes (all_events (kept_of s.state.durable) l) s t) e taken, f)

pub taken_none : (told : Option Kept) (fuse : Option Fuse) (run : Option Running) → Told (state_of told fuse run) (state_of told fuse run) (Taken [])
taken_none None fuse run = tt
taken_none (Some kept) fuse run = goes_nowhere _

-- the commits of one block

pub plan_is_block : (kept : Kept) (whole : Bool) (made : MadeBlock) (uptake : Uptake) → IsUptake kept whole made.block made.bytes uptake → uptake_events uptake ≡ block_events kept made
plan_is_block kept whole made uptake is =
    ap (λ store. with_store store (Process uptake.process.marks ∷ [])) is.store
    ∙ ap (λ marks. with_store (store_change kept.graph made.block.cid made.bytes) (Process marks ∷ [])) is.process.marks

one_events : (back : BackLaw) (kept : Kept) (whole : Bool) (made : MadeBlock) (uptake : Uptake) → IsUptake kept whole made.block made.bytes uptake → uptake_events uptake ≡ block_events (kept_of (durable_of kept)) made
one_events back kept whole made uptake is = plan_is_block kept whole made uptake is ∙ ap (λ k. block_events k made) (sym (back kept))

pub one_failed : (back : BackLaw) (told mid : Option Kept) (fuse fuse_mid : Option Fuse) (run : Option Running) (whole : Bool) (new : Option ReplicaState) (made : MadeBlock) (uptake : Uptake) (own own_mid own_new : ℕ)
    → mid ≡ told → fuse_mid ≡ fuse → own ≤ own_mid → IfSome told (λ kept. IsUptake kept whole made.block made.bytes uptake)
    → Told (state_of mid fuse_mid run) new (λ s after. Breaks (uptake_events uptake) (Rose own_mid own_new) s after)
    → Told (state_of told fuse run) new (EndsOne made (Rose own own_new) KeeperFault)
one_failed back told mid fuse fuse_mid run whole new made uptake own own_mid own_new e f later is breaks =
    over told new is (subst (λ x. Told (state_of told x run) new (λ s after. Breaks (uptake_events uptake) (Rose own_mid own_new) s after)) f
    (subst (λ t. Told (state_of t fuse_mid run) new (λ s after. Breaks (uptake_events uptake) (Rose own_mid own_new) s after)) e breaks))
  where
    over : (told : Option Kept) (new : Option ReplicaState) → IfSome told (λ kept. IsUptake kept whole made.block made.bytes uptake)
        → Told (state_of told fuse run) new (λ s after. Breaks (uptake_events uptake) (Rose own_mid own_new) s after) → Told (state_of told fuse run) new (EndsOne made (Rose own own_new) KeeperFault)
    over None new is breaks = tt
    over (Some kept) None is breaks = absurd breaks
    over (Some kept) (Some after) is breaks =
        subst (λ events. Breaks events (Rose own own_new) (record { state = record { durable = durable_of kept; run = run }; fuse = fuse }) after) (one_events back kept whole made uptake is)
        (breaks_rose (uptake_events uptake) (Rose own_mid own_new) (Rose own own_new) (record { state = record { durable = durable_of kept; run = run }; fuse = fuse }) after (λ r. omega (arith, r, later)) breaks)

pub one_done : (back : BackLaw) (told mid : Option Kept) (fuse fuse_mid : Option Fuse) (run : Option Running) (whole : Bool) (new : Option ReplicaState) (made : MadeBlock) (uptake : Uptake)
    → mid ≡ told → fuse_mid ≡ fuse → IfSome told (λ kept. IsUptake kept whole made.block made.bytes uptake) → Told (state_of mid fuse_mid run) new (Goes (uptake_events uptake)) → Told (state_of told fuse run) new (DoesOne made)
one_done back told mid fuse fuse_mid run whole new made uptake e f is goes =
    over told new is (subst (λ x. Told (state_of told x run) new (Goes (uptake_events uptake))) f (subst (λ t. Told (state_of t fuse_mid run) new (Goes (uptake_events uptake))) e goes))
  where
    over : (told : Option Kept) (new : Option ReplicaState) → IfSome told (λ kept. IsUptake kept whole made.block made.bytes uptake) → Told (state_of told fuse run) new (Goes (uptake_events uptake)) → Told (state_of told fuse run) new (DoesOne made)
    over None new is goes = tt
    over (Some kept) None is goes = absurd goes
    over (Some kept) (Some after) is goes = subst (λ events. Goes events (record { state = record { durable = durable_of kept; run = run }; fuse = fuse }) after) (one_events back kept whole made uptake is) goes

-- both parts of what is told

pub first_told : (told : Option Kept) (P Q : Kept → Type 0) → IfSome told (λ kept. P kept × Q kept) → IfSome told P
first_told None P Q p = tt
first_told (Some kept) P Q p = p.0

pub second_told : (told : Option Kept) (P Q : Kept → Type 0) → IfSome told (λ kept. P kept × Q kept) → IfSome told Q
second_told None P Q p = tt
second_told (Some kept) P Q p = p.1

-- the plan of a made block
pub plan_is : (told : Option Kept) (whole : Bool) (links : List Cid) (delta : Delta) (cid : Cid) (bytes : List ℕ)
    (position : ℕ) (uptake : Uptake) → bytes ≡ made_bytes links delta → cid ≡ made_cid links delta
    → size_refusal bytes ≡ None → IfSome told (λ kept. clash_refusal kept cid bytes ≡ None)
    → IfSome told (λ kept. position ≡ length kept.order)
    → IfSome told (λ kept. IsUptake kept whole (record { cid = cid; links = links; delta = delta }) bytes uptake)
    → uptake.after.links ≡ []
    → IfSome told (λ kept. IsPlanned kept whole links delta (record {
      uptake = uptake;
      written = record { cid = cid; priority = delta.priority; position = position };
    }))
plan_is None whole links delta cid bytes position uptake e f fits allowed at is none = tt
plan_is (Some kept) whole links delta cid bytes position uptake e f fits allowed at is none = record {
  allowed = ap (λ size. option_or size (clash_refusal kept (made_cid links delta) (made_bytes links delta)))
      (ap size_refusal (sym e) ∙ fits)
      ∙ (ap (λ b. clash_refusal kept (made_cid links delta) b) (sym e)
      ∙ (ap (λ (c : Cid). clash_refusal kept c bytes) (sym f) ∙ allowed));
  uptake = subst (λ b. IsUptake kept whole (made_block links delta) b uptake) e
      (subst (λ (c : Cid). IsUptake kept whole (record { cid = c; links = links; delta = delta }) bytes uptake) f is);
  written = λ i. record { cid = f i; priority = delta.priority; position = at i };
  no_links = none;
}
