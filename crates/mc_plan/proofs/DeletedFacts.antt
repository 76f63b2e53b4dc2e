-- A delete, from the blocks that it makes and takes up.
use Rattle.std.proofs.Common.{◌≡◌, ◌≤◌, ◌<◌, ℕ, Bool, true, false, List, [], length, take, Option, Some, None, Result, Ok, Err, refl, sym, ◌∙◌, ap, subst, arith, inl, inr}
use Rattle.std.specs.Prelude.{IfSome}
use Rattle.std.specs.List.{list_all}
use Rattle.std.proofs.lemmas.List.{append-nil}
use Rattle.mc_base.proofs.Telling.{told_weaker}
use Rattle.mc_base.specs.Causes.{Rose}
use Rattle.mc_base.specs.Told.{Told}
use Rattle.mc_base.specs.declared.cid.Cid.{Cid}
use Rattle.mc_model.specs.declared.delta.Delta.{Delta}
use Rattle.mc_model.specs.Cuts.{pairs}
use Rattle.mc_model.specs.Front.{is_among}
use Rattle.mc_model.specs.Kept.{Kept, IsKept, processed}
use Rattle.mc_model.specs.Made.{head_cids, next_priority}
use Rattle.mc_model.specs.State.{Durable, Running, durable_of, kept_of}
use Rattle.mc_keep.specs.Causes.{is_fault_kind}
use Rattle.mc_keep.specs.declared.fuse.Fuse.{Fuse}
use Rattle.mc_plan.specs.declared.deletes.Deleted.{Deleted}
use Rattle.mc_plan.specs.declared.deletes.MadeBlock.{MadeBlock}
use Rattle.mc_plan.specs.declared.error.CoreError.{CoreError}
use Rattle.mc_plan.specs.Calls.{Call}
use Rattle.mc_plan.specs.Deletes.{chain_clash, AreMade, AreNext, IsDelete, DeleteKeptRefusal, DeleteEvents, DeleteRefusal, DeleteShort, all_events, Takes}
use Rattle.mc_plan.specs.Events.{ReplicaState, state_of, Goes}
use Rattle.mc_plan.specs.Puts.{next_links}
use Rattle.mc_plan.specs.Refusals.{IsDue, key_refusal, kind_of, stops}
use Rattle.mc_plan.specs.Counted.{run_of}
use Rattle.mc_plan.proofs.CallFacts.{at, Calls, early_call}
use Rattle.mc_plan.proofs.DeleteFacts.{clash_left}
use Rattle.mc_plan.proofs.EventFacts.{breaks_rose}
use Rattle.mc_plan.proofs.KindFacts.{by_kind}
use Rattle.mc_plan.proofs.PutFacts.{BackLaw}
use Rattle.mc_plan.proofs.TakenFacts.{next_all, events_all, made_take, made_length}

-- the links to the heads are processed
abbrev pub HeadsLaw : Type 0
HeadsLaw = (kept : Kept) → IsKept kept → list_all (is_among kept.order) (head_cids (processed kept)) ≡ true

-- the blocks may be taken up
pub delete_next : (law : HeadsLaw) (told mid : Option Kept) (key : List ℕ) (blocks : List MadeBlock) → mid ≡ told → IfSome told IsKept → IfSome told (λ kept. IsDelete kept key blocks)
    → IfSome mid (λ kept. AreNext kept blocks)
delete_next law told mid key blocks e sound is = subst (λ t. IfSome t (λ kept. AreNext kept blocks)) (sym e) (over told sound is)
  where
    over : (told : Option Kept) → IfSome told IsKept → IfSome told (λ kept. IsDelete kept key blocks) → IfSome told (λ kept. AreNext kept blocks)
    over None sound is = tt
    over (Some kept) sound is =
        next_all is.deltas blocks kept (next_links kept) (next_priority (processed kept)) key (pairs (processed kept) key) is.is.cuts is.are (law kept sound)

chain_none : (deltas : List Delta) (blocks : List MadeBlock) (kept : Kept) (links : List Cid) → AreMade kept links deltas blocks → chain_clash kept links deltas ≡ None
chain_none deltas blocks kept links are = ap (chain_clash kept links) (sym (append-nil deltas)) ∙ clash_left deltas [] blocks kept links are

abbrev running : Durable → Running → Option Fuse → ReplicaState
running durable run fuse = record { state = record { durable = durable; run = Some run }; fuse = fuse }

abbrev DeleteCall : List ℕ → Type 0 → Result Deleted CoreError → ReplicaState → ReplicaState → Type 0
DeleteCall key rose result s new = Call (DeleteRefusal s key) (DeleteEvents s key) (DeleteShort s key) rose result s new

uptake_is : (durable : Durable) (run : Running) (fuse : Option Fuse) (key : List ℕ) (blocks : List MadeBlock) (deleted : Deleted) → IsDelete (kept_of durable) key blocks → deleted.blocks ≡ length blocks
    → DeleteEvents (running durable run fuse) key (all_events (kept_of durable) blocks) deleted
uptake_is durable run fuse key blocks deleted is e = (
  is.deltas,
  is.is,
  events_all is.deltas blocks (kept_of durable) (next_links (kept_of durable)) is.are,
  e ∙ made_length is.deltas blocks (kept_of durable) (next_links (kept_of durable)) is.are,
)

call_of : (durable : Durable) (run : Running) (fuse : Option Fuse) (key : List ℕ) (blocks : List MadeBlock) (rose : Type 0) (result : Result Deleted CoreError) (new : ReplicaState) → key_refusal key ≡ None
    → IsDelete (kept_of durable) key blocks → Takes blocks rose result (running durable run fuse) new → DeleteCall key rose result (running durable run fuse) new
call_of durable run fuse key blocks rose (Ok deleted) new good is takes = record {
  allowed = subst (λ fault. DeleteKeptRefusal (kept_of durable) key fault None) (sym good)
      (inl (is.deltas, is.is, sym (chain_none is.deltas blocks (kept_of durable) (next_links (kept_of durable)) is.are)));
  events = all_events (kept_of durable) blocks;
  makes = uptake_is durable run fuse key blocks deleted is takes.1;
  goes = takes.0;
}
call_of durable run fuse key blocks rose (Err error) new good is takes =
    let links : List Cid = next_links (kept_of durable) in
    let deleted : Deleted = record { blocks = length blocks } in
    by_kind (kind_of error) (λ never. absurd never)
    (λ breaks. record { events = all_events (kept_of durable) blocks; begins = inr (deleted, uptake_is durable run fuse key blocks deleted is refl); breaks = breaks })
    (λ some. inr (
      is.deltas,
      some.0,
      is.is,
      subst (λ count. some.0 < count) (made_length is.deltas blocks (kept_of durable) links is.are) some.1,
      subst (λ events. Goes events (running durable run fuse) new)
          (events_all (take some.0 is.deltas) (take some.0 blocks) (kept_of durable) links (made_take some.0 is.deltas blocks (kept_of durable) links is.are)) some.2,
    )) takes

takes_rose : (blocks : List MadeBlock) (P Q : Type 0) (result : Result Deleted CoreError) (s new : ReplicaState) → (P → Q) → Takes blocks P result s new → Takes blocks Q result s new
takes_rose blocks P Q (Ok deleted) s new f takes = takes
takes_rose blocks P Q (Err error) s new f takes =
    by_kind (kind_of error) (λ x. x) (λ breaks. breaks_rose (all_events (kept_of s.state.durable) blocks) P Q s new f breaks) (λ x. x) takes

-- a delete whose blocks were made
pub delete_call : (back : BackLaw) (told mid : Option Kept) (fuse fuse_mid : Option Fuse) (stop : Bool) (run : Running) (new : Option ReplicaState) (key : List ℕ) (blocks : List MadeBlock)
    (own own_mid own_new : ℕ) (result : Result Deleted CoreError) → stop ≡ false → mid ≡ told → fuse_mid ≡ fuse → own ≤ own_mid → key_refusal key ≡ None → IfSome told (λ kept. IsDelete kept key blocks)
    → Told (state_of mid fuse_mid (run_of stop run)) new (Takes blocks (Rose own_mid own_new) result)
    → Told (state_of told fuse (run_of stop run)) new (DeleteCall key (Rose own own_new) result)
delete_call back told mid fuse fuse_mid stop run new key blocks own own_mid own_new result up e f later good is takes =
    subst (λ b. Told (state_of told fuse (run_of b run)) new (DeleteCall key (Rose own own_new) result)) (sym up)
    (over told new is (subst (λ b. Told (state_of told fuse (run_of b run)) new (Takes blocks (Rose own_mid own_new) result)) up
    (subst (λ x. Told (state_of told x (run_of stop run)) new (Takes blocks (Rose own_mid own_new) result)) f
    (subst (λ t. Told (state_of t fuse_mid (run_of stop run)) new (Takes blocks (Rose own_mid own_new) result)) e takes))))
  where
    over : (told : Option Kept) (new : Option ReplicaState) → IfSome told (λ kept. IsDelete kept key blocks)
        → Told (state_of told fuse (run_of false run)) new (Takes blocks (Rose own_mid own_new) result) → Told (state_of told fuse (run_of false run)) new (DeleteCall key (Rose own own_new) result)
    over None new is takes = tt
    over (Some kept) None is takes = absurd takes
    over (Some kept) (Some after) is takes =
        call_of (durable_of kept) run fuse key blocks (Rose own own_new) result after good (subst (λ k. IsDelete k key blocks) (sym (back kept)) is)
        (takes_rose blocks (Rose own_mid own_new) (Rose own own_new) result (running (durable_of kept) run fuse) after (λ r. omega (arith, r, later)) takes)

-- a delete that made no blocks

short_is : (key : List ℕ) (rose : Type 0) (error : CoreError) (s new : ReplicaState) → Calls {T = Deleted} (λ s. DeleteRefusal s key) (λ s. DeleteEvents s key) rose (Err error) s new → DeleteCall key rose (Err error) s new
short_is key rose error s new call = by_kind (kind_of error) (λ x. x) (λ x. x) (λ same. inl same) call

delete_due : (back : BackLaw) (told : Option Kept) (fuse : Option Fuse) (run : Running) (key : List ℕ) (error : CoreError) → IfSome told (λ kept. IsDue (DeleteKeptRefusal kept key (key_refusal key)) error)
    → IfSome told (λ kept. IsDue (DeleteRefusal (at kept fuse (run_of false run)) key) error)
delete_due back None fuse run key error due = tt
delete_due back (Some kept) fuse run key error due = subst (λ k. IsDue (DeleteKeptRefusal k key (key_refusal key)) error) (sym (back kept)) due

pub delete_early : (back : BackLaw) (told told_new : Option Kept) (fuse fuse_new : Option Fuse) (stop stop_new : Bool) (run : Running) (key : List ℕ) (rose : Type 0) (error : CoreError)
    → stop ≡ false → told_new ≡ told → fuse_new ≡ fuse → stop_new ≡ stops error false → (is_fault_kind (kind_of error) ≡ true → rose)
    → IfSome told (λ kept. IsDue (DeleteKeptRefusal kept key (key_refusal key)) error)
    → Told (state_of told fuse (run_of stop run)) (state_of told_new fuse_new (run_of stop_new run)) (DeleteCall key rose (Err error))
delete_early back told told_new fuse fuse_new stop stop_new run key rose error up e f g r due =
    told_weaker (Calls {T = Deleted} (λ s. DeleteRefusal s key) (λ s. DeleteEvents s key) rose (Err error)) (DeleteCall key rose (Err error)) (short_is key rose error) _ _
    (early_call (λ s. DeleteRefusal s key) (λ s. DeleteEvents s key) told told_new fuse fuse_new stop stop_new run rose error up e f g r (delete_due back told fuse run key error due))
