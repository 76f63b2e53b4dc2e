-- What the replica says of a call on a job, by the end that is answered.
use Rattle.std.proofs.Common.{◌≡◌, Bool, true, false, List, Option, Some, None, Result, Ok, Err, ap, ◌∙◌, sym, refl, subst}
use Rattle.std.specs.Prelude.{⊤, IfSome, is_some}
use Rattle.std.proofs.lemmas.Bool.{false≢true}
use Rattle.mc_base.specs.Told.{Told}
use Rattle.mc_base.specs.declared.cid.Cid.{Cid}
use Rattle.mc_fetch.specs.declared.job.Job.{Job}
use Rattle.mc_keep.specs.declared.fuse.Fuse.{Fuse}
use Rattle.mc_keep.specs.Causes.{Kind, Refusal, Fault, Shortage, is_fault_kind}
use Rattle.mc_model.specs.Events.{Event}
use Rattle.mc_model.specs.Kept.{Kept}
use Rattle.mc_model.specs.State.{Running}
use Rattle.mc_model.specs.Wanted.{Queue, give_back}
use Rattle.mc_core.specs.declared.CoreError.{CoreError}
use Rattle.mc_core.specs.declared.CoreError.TheVariants as core
use Rattle.mc_core.specs.Calls.{Call, Faults, IsRefused}
use Rattle.mc_core.specs.Events.{ReplicaState, state_of}
use Rattle.mc_core.specs.Exact.{DecidesAlone, seen_of, stop_front}
use Rattle.mc_core.specs.Jobs.{DeliverWants, NextWants, tried_first}
use Rattle.mc_core.specs.Reads.{read_refusal}
use Rattle.mc_core.specs.Refusals.{ByKind, Is, kind_of, running_refusal}

module _ {T : Type 0} (Makes : ReplicaState → List Event → T → Type 0) (Short : ReplicaState → ReplicaState → Type 0) (rose : Type 0) (error : CoreError) where
  abbrev Called : ReplicaState → ReplicaState → Type 0
  Called s new = Call {T = T} (Is (read_refusal s)) (Makes s) (Short s) rose (Err error) s new

  faults_by : (kind : Kind) (s new : ReplicaState) → is_fault_kind kind ≡ true → ByKind (IsRefused (Is (read_refusal s)) error s new) (Faults (Makes s) rose s new) (Short s new) kind → Faults (Makes s) rose s new
  faults_by Refusal s new e c = absurd (false≢true e)
  faults_by Fault s new e c = c
  faults_by Shortage s new e c = absurd (false≢true e)

  -- the keeper failed
  pub job_faults : (a b : Option ReplicaState) → is_fault_kind (kind_of error) ≡ true → Told a b Called → Told a b (λ s new. Faults (Makes s) rose s new)
  job_faults None b e t = tt
  job_faults (Some s) None e t = absurd t
  job_faults (Some s) (Some new) e t = faults_by (kind_of error) s new e t

  no_refusal : (run : Option Running) → is_some run ≡ true → Some error ≡ running_refusal run (λ run. None) → ⊥
  no_refusal None up e = false≢true up
  no_refusal (Some run) up e = false≢true (sym (ap is_some e))

  short_by : (kind : Kind) (s new : ReplicaState) → is_fault_kind kind ≡ false → is_some s.state.run ≡ true → ByKind (IsRefused (Is (read_refusal s)) error s new) (Faults (Makes s) rose s new) (Short s new) kind → Short s new
  short_by Refusal s new e up c = absurd (no_refusal s.state.run up c.0)
  short_by Fault s new e up c = absurd (false≢true (sym e))
  short_by Shortage s new e up c = c

  -- it did not, and a replica that runs refuses nothing
  pub job_short : (a b : Option ReplicaState) → is_fault_kind (kind_of error) ≡ false → IfSome a (λ s. is_some s.state.run ≡ true) → Told a b Called → Told a b Short
  job_short None b e up t = tt
  job_short (Some s) None e up t = absurd t
  job_short (Some s) (Some new) e up t = short_by (kind_of error) s new e up t

-- what is stored is the same where the keeper is
pub stored_same : {K : Type 0} (told : K → Option Kept) (fuse : K → Option Fuse) (old new : K) (run run' : Option Running) → new ≡ old → Told (state_of (told old) (fuse old) run) (state_of (told new) (fuse new) run') (λ s after. after.state.durable ≡ s.state.durable)
stored_same told fuse old new run run' same = subst (λ k. Told (state_of (told old) (fuse old) run) (state_of (told k) (fuse k) run') (λ s after. after.state.durable ≡ s.state.durable)) (sym same) (over (told old))
  where
    over : (kept : Option Kept) → Told (state_of kept (fuse old) run) (state_of kept (fuse old) run') (λ s after. after.state.durable ≡ s.state.durable)
    over None = tt
    over (Some kept) = refl

-- what a want of memory leaves, over every keeper: no refusal is due that a running replica decides alone, nor one for a block
left_short : (P Q : Type 0) (error : CoreError) (stop : Bool) → stop ≡ false → DecidesAlone error → seen_of error ≡ stop_front stop None → is_fault_kind (kind_of error) ≡ false → ByKind P ⊤ Q (kind_of error) → Q
left_short P Q error true up alone front calm left = absurd (false≢true (sym up))
left_short P Q core.Memory false up alone front calm left = left
left_short P Q core.KeeperFault false up alone front calm left = absurd (false≢true (sym calm))
left_short P Q (core.BlockTooLarge len) false up alone front calm left = absurd (false≢true (sym alone))
left_short P Q core.PriorityFull false up alone front calm left = absurd (false≢true (sym alone))
left_short P Q (core.Clash cid) false up alone front calm left = absurd (false≢true (sym alone))
left_short P Q error false up alone front calm left = absurd (false≢true (sym (ap is_some front)))

pub left_next : (error : CoreError) (stop : Bool) (q left : Queue) → stop ≡ false → DecidesAlone error → seen_of error ≡ stop_front stop None → is_fault_kind (kind_of error) ≡ false → NextWants {T = Option Job} (Err error) q left → left ≡ tried_first q q.waiting
left_next error stop q left up alone front calm wants = left_short (left ≡ q) (left ≡ tried_first q q.waiting) error stop up alone front calm wants

pub left_delivery : (error : CoreError) (stop : Bool) (q left : Queue) (cid : Cid) → stop ≡ false → DecidesAlone error → seen_of error ≡ stop_front stop None → is_fault_kind (kind_of error) ≡ false → DeliverWants (Err error) q left cid → left ≡ give_back q cid
left_delivery error stop q left cid up alone front calm wants = left_short (left ≡ q) (left ≡ give_back q cid) error stop up alone front calm wants
