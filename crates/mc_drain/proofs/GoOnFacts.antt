-- Calls one after another, wherever the same holds of what is found.
use Rattle.std.proofs.Common.{◌≤◌, ℕ, Bool, false, List, refl, arith}
use Rattle.std.proofs.lemmas.Bool.{false≢true}
use Rattle.mc_base.specs.declared.cid.Cid.{Cid}
use Rattle.mc_fetch.specs.Fits.{Map}
use Rattle.mc_model.specs.Draining.{HasDrained}
use Rattle.mc_model.specs.State.{Durable}
use Rattle.mc_model.proofs.Prefix.{goes_on_then}
use Rattle.mc_core.specs.Events.{ReplicaState}
use Rattle.mc_core.proofs.GrowthFacts.{same_goes}
use Rattle.mc_drain.specs.Leads.{LeadsBy, Never, commits_between, count}
use Rattle.mc_drain.proofs.FuseFacts.{burns_then, fuse_stays, longer}
use Rattle.mc_drain.proofs.StoredFacts.{drains_itself, drains_then}

-- a state leads to itself
pub leads_itself : (most : ℕ) (P R : Map → List Cid → Type 0) (s : ReplicaState) → count s ≤ most → LeadsBy false most P R s s
leads_itself most P R s few = record {
  grows = same_goes s.state.durable;
  few = few;
  fuse = fuse_stays false (commits_between false s s) s.fuse;
  goes = λ well map kept p old start h. h;
  parts = λ well map kept p old start h f. f;
  breaks = λ e. absurd (false≢true e);
  whatever = λ well. drains_itself s;
}

-- what calls led to, and the next call
pub leads_go_on : (failed : Bool) (first most last : ℕ) (P Q R : Map → List Cid → Type 0) (s mid new : ReplicaState) → LeadsBy false first P Never s mid → LeadsBy failed most Q R mid new → most ≤ last
    → ((map : Map) (kept : List Cid) (old : Durable) (start : List Cid) → P map kept → HasDrained map kept old start s.state → Q map kept) → LeadsBy failed last P Never s new
leads_go_on failed first most last P Q R s mid new before next more join = record {
  grows = goes_on_then s.state.durable mid.state.durable new.state.durable before.grows next.grows;
  few = omega (arith, next.few, more);
  fuse = burns_then failed s mid new (longer s mid before.grows) (longer mid new next.grows) before.fuse next.fuse;
  goes = λ well map kept p old start h. next.goes well map kept (join map kept old start p h) old start (before.goes refl map kept p old start h);
  parts = λ well map kept never. absurd never;
  breaks = λ e map kept p old start h. next.breaks e map kept (join map kept old start p h) old start (before.goes refl map kept p old start h);
  whatever = λ well. drains_then s mid new next.grows (before.whatever refl) (next.whatever well);
}
