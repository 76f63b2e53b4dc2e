-- What is processed and stored only grows.
use Rattle.std.proofs.Common.{◌≡◌, ℕ, Bool, true, false, cond, List, [], ◌∷◌, ◌++◌, length, Option, Some, None, refl, sym, ◌∙◌, ap, subst, inl, inr, arith, length-append}
use Rattle.std.specs.Prelude.{slice_get}
use Rattle.std.proofs.lemmas.List.{append-nil}
use Rattle.std.proofs.lemmas.Option.{slice_get_read}
use Rattle.std.proofs.Math.Seq.{get_or-append_seam}
use Rattle.mc_base.specs.declared.cid.Cid.{Cid}
use Rattle.mc_model.specs.declared.delta.Delta.{Delta}
use Rattle.mc_model.specs.Events.{Event, Process, GoesOn, after, happens}
use Rattle.mc_model.specs.Kept.{Kept, is_stored}
use Rattle.mc_model.specs.Made.{made_bytes, made_cid}
use Rattle.mc_model.specs.State.{Durable, Running, State, kept_of}
use Rattle.mc_model.proofs.Prefix.{goes_on_then}
use Rattle.mc_keep.specs.declared.fuse.Fuse.{Fuse}
use Rattle.mc_keep.specs.Causes.{fires, CommitFails}
use Rattle.mc_plan.specs.Events.{ReplicaState, all_happen, MayHappen, Goes, IsCutShort, Breaks}
use Rattle.mc_plan.specs.Uptakes.{with_store}
use Rattle.mc_plan.specs.Puts.{made_events}
use Rattle.mc_plan.proofs.SoundFacts.{all_after}

-- the law of the events of a state
abbrev pub GrowLaw : Type 0
GrowLaw = (state : State) (events : List Event) → GoesOn state.durable (after state events).durable

pub same_goes : (d : Durable) → GoesOn d d
same_goes d = record { processed = []; stored = []; order = sym (append-nil d.order); graph = sym (append-nil d.graph) }

-- a commit that fails leaves what was, or what it makes
fails_goes : (fire : Option Bool) (rose : Type 0) (old whole left : Durable) → GoesOn old whole → CommitFails fire rose old whole left → GoesOn old left
fails_goes None rose old whole left g (r, inl e) = subst (λ d. GoesOn old d) (sym e) (same_goes old)
fails_goes None rose old whole left g (r, inr e) = subst (λ d. GoesOn old d) (sym e) g
fails_goes (Some false) rose old whole left g e = subst (λ d. GoesOn old d) (sym e) (same_goes old)
fails_goes (Some true) rose old whole left g (inl e) = subst (λ d. GoesOn old d) (sym e) g
fails_goes (Some true) rose old whole left g (inr (r, e)) = subst (λ d. GoesOn old d) (sym e) (same_goes old)

module _ (law : GrowLaw) where
  pub goes_grows : (events : List Event) (s new : ReplicaState) → Goes events s new → GoesOn s.state.durable new.state.durable
  goes_grows events s new g = subst (λ (x : State). GoesOn s.state.durable x.durable) (sym (ap (λ (x : ReplicaState). x.state) g.ends ∙ all_after events s)) (law s.state events)

  cut_grows : (events : List Event) (rose : Type 0) (s new : ReplicaState) → IsCutShort events rose s new → GoesOn s.state.durable new.state.durable
  cut_grows [] rose s new p = subst (λ (x : ReplicaState). GoesOn s.state.durable x.state.durable) (sym p.1) (same_goes s.state.durable)
  cut_grows (event ∷ events) rose s new (inl p) = subst (λ (x : ReplicaState). GoesOn s.state.durable x.state.durable) (sym p.1) (same_goes s.state.durable)
  cut_grows (event ∷ events) rose s new (inr b) =
      subst (λ (x : ReplicaState). GoesOn s.state.durable x.state.durable) (sym b.ends)
      (fails_goes (fires s.fuse) rose s.state.durable (happens s.state event).durable b.left (law s.state (event ∷ [])) b.fails)

  pub breaks_grows : (events : List Event) (rose : Type 0) (s new : ReplicaState) → Breaks events rose s new → GoesOn s.state.durable new.state.durable
  breaks_grows events rose s new b =
      goes_on_then s.state.durable (all_happen s b.so_far).state.durable new.state.durable
      (subst (λ (x : State). GoesOn s.state.durable x.durable) (sym (all_after b.so_far s)) (law s.state b.so_far))
      (cut_grows b.rest rose (all_happen s b.so_far) new b.fate)

-- the last of a list stands at the length before it
last_stands : (order : List Cid) (cid : Cid) → slice_get (order ++ cid ∷ []) (length order) ≡ Some cid
last_stands order cid = slice_get_read (order ++ cid ∷ []) (length (order ++ cid ∷ [])) (length order) cid refl (omega (arith, length-append order (cid ∷ []))) (sym (get_or-append_seam order cid [] cid))

-- what is processed last stands at the end
processed_stands : (cid : Cid) (durable : Durable) (run : Option Running) (fuse : Option Fuse) → MayHappen (record { state = record { durable = durable; run = run }; fuse = fuse }) (Process (cid ∷ []) ∷ [])
    → slice_get (all_happen (record { state = record { durable = durable; run = run }; fuse = fuse }) (Process (cid ∷ []) ∷ [])).state.durable.order (length durable.order) ≡ Some cid
processed_stands cid durable (Some run) fuse may = last_stands durable.order cid
processed_stands cid durable None fuse may = absurd may.0

stored_stands : (graph : _) (cid : Cid) (bytes : List ℕ) (durable : Durable) (run : Option Running) (fuse : Option Fuse) (known : Bool)
    → MayHappen (record { state = record { durable = durable; run = run }; fuse = fuse }) (with_store (cond known None (Some graph)) (Process (cid ∷ []) ∷ []))
    → slice_get (all_happen (record { state = record { durable = durable; run = run }; fuse = fuse }) (with_store (cond known None (Some graph)) (Process (cid ∷ []) ∷ []))).state.durable.order (length durable.order) ≡ Some cid
stored_stands graph cid bytes durable run fuse true may = processed_stands cid durable run fuse may
stored_stands graph cid bytes durable (Some run) fuse false may = last_stands durable.order cid
stored_stands graph cid bytes durable None fuse false may = absurd may.0

pub written_stands : (kept : Kept) (links : List Cid) (delta : Delta) (s new : ReplicaState) → kept ≡ kept_of s.state.durable → Goes (made_events kept links delta) s new
    → slice_get new.state.durable.order (length kept.order) ≡ Some (made_cid links delta)
written_stands kept links delta s new is g =
    ap (λ (x : ReplicaState). slice_get x.state.durable.order (length kept.order)) g.ends
    ∙ ap (λ (k : Kept). slice_get (all_happen s (made_events kept links delta)).state.durable.order (length k.order)) is
    ∙ stored_stands _ (made_cid links delta) (made_bytes links delta) s.state.durable s.state.run s.fuse (is_stored kept.graph (made_cid links delta)) g.may
