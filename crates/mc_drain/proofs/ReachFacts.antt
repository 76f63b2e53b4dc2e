-- What the heads of a clean replica reach.
use Rattle.std.proofs.Common.{◌≡◌, ◌↔◌, true, map, Option, Some, None, sym, ap, ◌∙◌, subst}
use Rattle.std.specs.Prelude.{IfSome}
use Rattle.mc_base.specs.declared.cid.Cid.{Cid}
use Rattle.mc_keep.specs.declared.fuse.Fuse.{Fuse}
use Rattle.mc_model.specs.Front.{Head, heads}
use Rattle.mc_model.specs.Graph.{HasNoCycle, IsReached, has}
use Rattle.mc_model.specs.Kept.{IsKept, Kept, processed}
use Rattle.mc_model.specs.State.{Running, durable_of, kept_of}
use Rattle.mc_core.specs.Events.{ReplicaState, state_of}
use Rattle.mc_core.specs.Walks.{IsClean, gap_count, settled_with}
use Rattle.mc_core.specs.declared.Settled.TheVariants as settled
use Rattle.mc_drain.specs.Reached.{AreReached}

-- what is processed is reached where what is settled is clean
abbrev pub MayReach : ReplicaState → Type 0
MayReach s = settled_with (gap_count (kept_of s.state.durable)) ≡ settled.Clean → AreReached s.state.durable

abbrev pub ReachedLaw : Type 0
ReachedLaw = (kept : Kept) → IsKept kept → IsClean kept → HasNoCycle (durable_of kept).graph
    → (cid : Cid) → (has cid kept.order ≡ true) ↔ IsReached (durable_of kept).graph (map (λ (head : Head). head.0) (heads (processed kept))) cid

abbrev pub BackLaw : Type 0
BackLaw = (kept : Kept) → kept_of (durable_of kept) ≡ kept

pub may_reach : ReachedLaw → BackLaw → (told : Option Kept) (fuse : Option Fuse) (run : Option Running) → IfSome told IsKept → IfSome (state_of told fuse run) MayReach
may_reach law back None fuse run kept = tt
may_reach law back (Some now) fuse run kept = λ clean.
    subst (λ (k : Kept). HasNoCycle (durable_of now).graph → (cid : Cid) → (has cid now.order ≡ true) ↔ IsReached (durable_of now).graph (map (λ (head : Head). head.0) (heads (processed k))) cid) (sym (back now))
    (law now kept (ap (λ (k : Kept). settled_with (gap_count k)) (sym (back now)) ∙ clean))
