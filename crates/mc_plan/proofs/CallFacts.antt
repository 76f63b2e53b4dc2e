-- What a call of a replica does, from what its parts do.
use Rattle.std.proofs.Common.{◌≡◌, ◌≤◌, ℕ, Bool, true, false, ◌||◌, List, [], Option, Some, None, Result, Ok, Err, refl, sym, subst, arith, inl, inr}
use Rattle.std.specs.Prelude.{IfSome, IfOk, IfErr, ⊤}
use Rattle.mc_base.specs.Causes.{Rose}
use Rattle.mc_base.specs.Told.{Told}
use Rattle.mc_model.specs.Events.{Event}
use Rattle.mc_model.specs.Kept.{Kept}
use Rattle.mc_model.specs.State.{Running, durable_of, kept_of}
use Rattle.mc_keep.specs.Causes.{Kind, Refusal as Refused, Fault, Shortage, is_fault_kind}
use Rattle.mc_keep.specs.declared.fuse.Fuse.{Fuse}
use Rattle.mc_plan.specs.declared.error.CoreError.{CoreError}
use Rattle.mc_plan.specs.declared.error.CoreError.TheVariants.{KeeperFault, Stopped}
use Rattle.mc_plan.specs.Calls.{Faults, IsRefused, Call}
use Rattle.mc_plan.specs.Events.{ReplicaState, state_of, stopped, Part}
use Rattle.mc_plan.specs.Reads.{OnlyReads, read_refusal}
use Rattle.mc_plan.specs.Refusals.{ByKind, Is, IsDue, kind_of, stops}
use Rattle.mc_plan.specs.Counted.{run_of}
use Rattle.mc_plan.proofs.EventFacts.{goes_nowhere, breaks_rose}

-- a replica over what is told
abbrev pub at : Kept → Option Fuse → Option Running → ReplicaState
at kept fuse run = record { state = record { durable = durable_of kept; run = run }; fuse = fuse }

-- a fault before the first commit
pub nothing_done : {T : Type 0} (Makes : List Event → T → Type 0) (rose : Type 0) (s : ReplicaState) → rose → Faults Makes rose s (stopped s)
nothing_done Makes rose s r = record {
  events = [];
  begins = inl refl;
  breaks = record { so_far = []; rest = []; split = refl; may = tt; fate = (r, refl) };
}

module _ {T : Type 0} (Refusal : ReplicaState → Option CoreError → Type 0) (Makes : ReplicaState → List Event → T → Type 0) where
  abbrev pub Calls : Type 0 → Result T CoreError → ReplicaState → ReplicaState → Type 0
  Calls rose result s new = Call (Refusal s) (Makes s) (λ left. left ≡ s) rose result s new

  -- a call on a replica that has stopped
  pub stopped_call : (told : Option Kept) (fuse : Option Fuse) (stop : Bool) (run : Running) (rose : Type 0) → stop ≡ true
      → ((kept : Kept) → Refusal (at kept fuse None) (Some Stopped))
      → Told (state_of told fuse (run_of stop run)) (state_of told fuse (run_of stop run)) (Calls rose (Err Stopped))
  stopped_call None fuse stop run rose is due = tt
  stopped_call (Some kept) fuse stop run rose is due =
      subst (λ b. Calls rose (Err Stopped) (at kept fuse (run_of b run)) (at kept fuse (run_of b run))) (sym is) (due kept, refl)

  -- what such an error leaves of a running replica
  abbrev Ends : Kind → CoreError → Type 0 → ReplicaState → ReplicaState → Type 0
  Ends kind error rose s new = ByKind (IsRefused (Refusal s) error s new) (Faults (Makes s) rose s new) (new ≡ s) kind

  early : (kind : Kind) (error : CoreError) (rose : Type 0) (kept : Kept) (fuse : Option Fuse) (run : Running) → (is_fault_kind kind ≡ true → rose)
      → ByKind (Refusal (at kept fuse (run_of false run)) (Some error)) ⊤ ⊤ kind
      → Ends kind error rose (at kept fuse (run_of false run)) (at kept fuse (run_of (is_fault_kind kind || false) run))
  early Refused error rose kept fuse run r due = (due, refl)
  early Fault error rose kept fuse run r due = nothing_done (Makes (at kept fuse (run_of false run))) rose (at kept fuse (run_of false run)) (r refl)
  early Shortage error rose kept fuse run r due = refl

  -- a call that ended before its first commit
  pub early_call : (told told_new : Option Kept) (fuse fuse_new : Option Fuse) (stop stop_new : Bool) (run : Running) (rose : Type 0) (error : CoreError)
      → stop ≡ false → told_new ≡ told → fuse_new ≡ fuse → stop_new ≡ stops error false → (is_fault_kind (kind_of error) ≡ true → rose)
      → IfSome told (λ kept. IsDue (Refusal (at kept fuse (run_of false run))) error)
      → Told (state_of told fuse (run_of stop run)) (state_of told_new fuse_new (run_of stop_new run)) (Calls rose (Err error))
  early_call None told_new fuse fuse_new stop stop_new run rose error up e f g r due = tt
  early_call (Some kept) told_new fuse fuse_new stop stop_new run rose error up e f g r due =
      subst (λ t. Told (state_of (Some kept) fuse (run_of stop run)) (state_of t fuse_new (run_of stop_new run)) (Calls rose (Err error))) (sym e)
      (subst (λ x. Calls rose (Err error) (at kept fuse (run_of stop run)) (at kept x (run_of stop_new run))) (sym f)
      (subst (λ b. Calls rose (Err error) (at kept fuse (run_of stop run)) (at kept fuse (run_of b run))) (sym g)
      (subst (λ b. Calls rose (Err error) (at kept fuse (run_of b run)) (at kept fuse (run_of (stops error false) run))) (sym up)
      (early (kind_of error) error rose kept fuse run r due))))

  part_is : (events : List Event) (value : T) (rose : Type 0) (result : Result T CoreError) (s new : ReplicaState) → Refusal s None → Makes s events value
      → IfOk result (λ answer. answer ≡ value) → IfErr result (λ error. error ≡ KeeperFault) → Part events rose result s new → Calls rose result s new
  part_is events value rose (Ok answer) s new allowed uptake is only part = record { allowed = allowed; events = events; makes = subst (Makes s events) (sym is) uptake; goes = part }
  part_is events value rose (Err error) s new allowed uptake is only part =
      subst (λ e. Calls rose (Err e) s new) (sym only) (record { events = events; begins = inr (value, uptake); breaks = part })

  part_rose : {E : Type 0} (events : List Event) (P Q : Type 0) (result : Result T E) (s new : ReplicaState) → (P → Q) → Part events P result s new → Part events Q result s new
  part_rose events P Q (Ok value) s new f p = p
  part_rose events P Q (Err error) s new f p = breaks_rose events P Q s new f p

  -- a call that is this part, after reads
  pub part_call : (told mid : Option Kept) (fuse fuse_mid : Option Fuse) (stop : Bool) (run : Running) (new : Option ReplicaState) (own own_mid own_new : ℕ)
      (events : List Event) (value : T) (result : Result T CoreError) → stop ≡ false → mid ≡ told → fuse_mid ≡ fuse → own ≤ own_mid
      → IfSome told (λ kept. Refusal (at kept fuse (run_of false run)) None × Makes (at kept fuse (run_of false run)) events value)
      → IfOk result (λ answer. answer ≡ value) → IfErr result (λ error. error ≡ KeeperFault)
      → Told (state_of mid fuse_mid (run_of stop run)) new (λ s after. Part events (Rose own_mid own_new) result s after)
      → Told (state_of told fuse (run_of stop run)) new (Calls (Rose own own_new) result)
  part_call None mid fuse fuse_mid stop run new own own_mid own_new events value result up e f later uptake is only part = tt
  part_call (Some kept) mid fuse fuse_mid stop run new own own_mid own_new events value result up e f later uptake is only part =
      ends new (subst (λ b. Told (at_told b) new (λ s after. Part events (Rose own_mid own_new) result s after)) up
      (subst (λ x. Told (state_of (Some kept) x (run_of stop run)) new (λ s after. Part events (Rose own_mid own_new) result s after)) f
      (subst (λ t. Told (state_of t fuse_mid (run_of stop run)) new (λ s after. Part events (Rose own_mid own_new) result s after)) e part)))
    where
      at_told : Bool → Option ReplicaState
      at_told b = Some (at kept fuse (run_of b run))

      ends : (new : Option ReplicaState) → Told (at_told false) new (λ s after. Part events (Rose own_mid own_new) result s after) → Told (at_told stop) new (Calls (Rose own own_new) result)
      ends None p = absurd p
      ends (Some after) p =
          subst (λ b. Calls (Rose own own_new) result (at kept fuse (run_of b run)) after) (sym up)
          (part_is events value (Rose own own_new) result (at kept fuse (run_of false run)) after uptake.0 uptake.1 is only
          (part_rose events (Rose own_mid own_new) (Rose own own_new) result (at kept fuse (run_of false run)) after (λ r. omega (arith, r, later)) p))

  -- a call that only reads
  pub read_call : (told told_new : Option Kept) (fuse fuse_new : Option Fuse) (stop : Bool) (run : Running) (rose : Type 0) (value : T)
      → stop ≡ false → told_new ≡ told → fuse_new ≡ fuse
      → IfSome told (λ kept. Refusal (at kept fuse (run_of false run)) None × Makes (at kept fuse (run_of false run)) [] value)
      → Told (state_of told fuse (run_of stop run)) (state_of told_new fuse_new (run_of stop run)) (Calls rose (Ok value))
  read_call None told_new fuse fuse_new stop run rose value up e f uptake = tt
  read_call (Some kept) told_new fuse fuse_new stop run rose value up e f uptake =
      subst (λ t. Told (state_of (Some kept) fuse (run_of stop run)) (state_of t fuse_new (run_of stop run)) (Calls rose (Ok value))) (sym e)
      (subst (λ x. Calls rose (Ok value) (at kept fuse (run_of stop run)) (at kept x (run_of stop run))) (sym f)
      (subst (λ b. Calls rose (Ok value) (at kept fuse (run_of b run)) (at kept fuse (run_of b run))) (sym up)
      (record { allowed = uptake.0; events = []; makes = uptake.1; goes = goes_nowhere (at kept fuse (run_of false run)) })))

-- a call that only reads, whose answer is this over what is kept
pub answers_call : {T : Type 0} (back : (kept : Kept) → kept_of (durable_of kept) ≡ kept) (P : Kept → T → Type 0) (told told_new : Option Kept) (fuse fuse_new : Option Fuse) (stop : Bool) (run : Running) (rose : Type 0) (value : T)
    → stop ≡ false → told_new ≡ told → fuse_new ≡ fuse → IfSome told (λ kept. P kept value)
    → Told (state_of told fuse (run_of stop run)) (state_of told_new fuse_new (run_of stop run)) (Calls (λ s. Is (read_refusal s)) (OnlyReads P) rose (Ok value))
answers_call back P told told_new fuse fuse_new stop run rose value up e f is =
    read_call (λ s. Is (read_refusal s)) (OnlyReads P) told told_new fuse fuse_new stop run rose value up e f (over told is)
  where
    over : (told : Option Kept) → IfSome told (λ kept. P kept value)
        → IfSome told (λ kept. Is (read_refusal (at kept fuse (run_of false run))) None × OnlyReads P (at kept fuse (run_of false run)) [] value)
    over None is = tt
    over (Some kept) is = (refl, (refl, subst (λ k. P k value) (sym (back kept)) is))
