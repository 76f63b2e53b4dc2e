-- What a sealed node gives back.
use Rattle.std.proofs.Common.{◌≡◌, ℕ, Bool, true, false, List, [], ◌∷◌, Option, Some, None, refl, sym, ap, ◌∙◌, subst}
use Rattle.std.specs.Prelude.{is_some}
use Rattle.std.proofs.lemmas.Bool.{false≢true}
use Rattle.mc_base.specs.Told.{Told}
use Rattle.mc_base.specs.declared.counted.Counted as counted
use Rattle.mc_keep.specs.declared.fuse.Fuse.{Fuse}
use Rattle.mc_keep.specs.declared.keeper.Keeper as keeper
use Rattle.mc_keep.specs.Plan.{Schedule}
use Rattle.mc_model.specs.Kept.{Kept}
use Rattle.mc_turn.specs.Lists.{Begins}
use Rattle.mc_core.specs.Events.{ReplicaState}
use Rattle.mc_core.specs.Exact.{RunSame}
use Rattle.mc_core.specs.Replica.{replica_state}
use Rattle.mc_core.specs.Words.{ContinuesAt}
use Rattle.mc_core.specs.declared.replica.Replica.{Replica}
use Rattle.mc_node.specs.declared.entry.Entry.{Entry}
use Rattle.mc_node.specs.declared.note.Note.TheVariants.{Root}
use Rattle.mc_node.specs.Entries.{IsRootLog, IsSealedOf, StaysSealed, is_sealed_log, items_at, shown_at}
use Rattle.mc_node.specs.Items.{Item, Shown, is_sealed, is_sealing, root, state_in}
use Rattle.mc_node.specs.Ties.{Goes, IsTied}
use Rattle.mc_node.specs.Works.{Bounds, WorkersLead}
use Rattle.mc_node.proofs.FrameFacts.{goes_shown, of_broken, of_calm}
use Rattle.mc_node.proofs.TieFacts.{told_state}
use Rattle.mc_node.proofs.WorkFacts.{lead_of}

-- the frame of all calls of workers
goes_all : (limit : Bounds) (log : List Item) (now : Shown) → IsTied limit now log → is_sealed log ≡ true → (b : Bool) → now.stopped ≡ b → Goes b (root log) now
goes_all limit log now t sealed true e = of_broken (root log) now (t.broken (sym t.halted ∙ e))
goes_all limit log now t sealed false e = of_calm (root log) now (t.calm (sym t.halted ∙ e))

lead_all : (limit : Bounds) (log : List Item) (now : Shown) → IsTied limit now log → is_sealed log ≡ true → Told (state_in (root log)) (state_in now) (WorkersLead limit now.stopped)
lead_all limit log now t sealed = over (state_in (root log)) (state_in now) refl refl
  where
    over : (a b : Option ReplicaState) → state_in (root log) ≡ a → state_in now ≡ b → Told a b (WorkersLead limit now.stopped)
    over None b ai bi = tt
    over (Some r) None ai bi = false≢true (sym (ap is_some bi) ∙ told_state now ∙ t.telling ∙ sym (told_state (root log)) ∙ ap is_some ai)
    over (Some r) (Some s) ai bi = lead_of limit now.stopped r s (t.worked sealed r s ai bi)

module _ {K D : Type 0} {g : keeper.Ghosts K D} {h : counted.Ghosts K} {i : counted.Ghosts D} where
  -- a log that is longer begins alike
  pub sealed_on : (xs ys : List (Entry K D g h i)) → Begins xs ys → StaysSealed xs ys
  sealed_on [] ys b replica s = absurd s
  sealed_on (x ∷ xs) ys b replica s = subst (IsSealedOf replica) b.1 s

  pub sealed_log : (replica : Replica K D g h i) (log : List (Entry K D g h i)) → IsSealedOf replica log → is_sealed_log log ≡ true
  sealed_log replica [] s = absurd s
  sealed_log replica (entry ∷ log) s = ap is_sealing s.0

  pub sealed_root : (replica : Replica K D g h i) (sealed : Bool) (log seen : List (Entry K D g h i)) → sealed ≡ true → IsRootLog sealed replica log → seen ≡ log → IsSealedOf replica seen × (is_sealed_log seen ≡ true)
  sealed_root replica sealed log seen e r is =
      let s : IsSealedOf replica seen = subst (IsSealedOf replica) (sym (is ∙ r.alone)) (ap Root e, r.is) in (s, sealed_log replica seen s)

  module _ (told : K → Option Kept) (fuse : K → Option Fuse) (own faults : K → ℕ) (quiet : K → Bool) (schedule : K → Option Schedule) where
    sealed_at : (replica : Replica K D g h i) (log : List (Entry K D g h i)) → IsSealedOf replica log
        → (is_sealed (items_at told fuse own faults quiet schedule log) ≡ true) × (root (items_at told fuse own faults quiet schedule log) ≡ shown_at told fuse own faults quiet schedule replica)
    sealed_at replica [] s = absurd s
    sealed_at replica (entry ∷ log) s = (ap is_sealing s.0, ap (shown_at told fuse own faults quiet schedule) s.1)

    -- what is said of the replica that comes back
    pub record IsWorked (limit : Bounds) (replica left : Replica K D g h i) : Type 0 where
      pub leads : Told (replica_state told fuse replica) (replica_state told fuse left) (WorkersLead limit left.stopped)
      pub keeps : ContinuesAt told fuse own faults quiet schedule left.stopped replica left
      pub rest : limit.walks ≡ false → RunSame replica left

    pub sealed_ends : (limit : Bounds) (replica left : Replica K D g h i) (seen log : List (Entry K D g h i)) → IsSealedOf replica seen → Begins seen log
        → IsTied limit (shown_at told fuse own faults quiet schedule left) (items_at told fuse own faults quiet schedule log) → IsWorked limit replica left
    sealed_ends limit replica left seen log s begins t =
        let at = sealed_at replica log (sealed_on seen log begins replica s) in record {
          leads = subst (λ (x : Shown). Told (state_in x) (replica_state told fuse left) (WorkersLead limit left.stopped)) at.1
              (lead_all limit (items_at told fuse own faults quiet schedule log) (shown_at told fuse own faults quiet schedule left) t at.0);
          keeps = goes_shown told fuse own faults quiet schedule left.stopped replica left
              (subst (λ (x : Shown). Goes left.stopped x (shown_at told fuse own faults quiet schedule left)) at.1
              (goes_all limit (items_at told fuse own faults quiet schedule log) (shown_at told fuse own faults quiet schedule left) t at.0 left.stopped refl));
          rest = λ w. record {
            walk_same = t.walk (t.unwalked w) ∙ ap (λ x. x.run.walk) at.1;
            batch_same = t.batch ∙ ap (λ x. x.run.batch) at.1;
            whole_same = t.whole (t.unwalked w) ∙ ap (λ x. x.run.whole) at.1;
          };
        }
