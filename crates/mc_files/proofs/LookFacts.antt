-- Calls of a replica that only read, one after another.
use Rattle.std.proofs.Common.{◌≡◌, ◌∙◌, List, [], Option, Some, None, Result, Ok, refl, subst, ap}
use Rattle.mc_base.specs.Told.{Told}
use Rattle.mc_model.specs.Events.{Event}
use Rattle.mc_model.specs.Kept.{Kept}
use Rattle.mc_model.specs.State.{kept_of}
use Rattle.mc_plan.specs.declared.error.CoreError.{CoreError}
use Rattle.mc_plan.specs.Calls.{Call, Stays}
use Rattle.mc_plan.specs.Events.{ReplicaState, Goes, all_happen}
use Rattle.mc_plan.specs.Reads.{OnlyReads, read_refusal}
use Rattle.mc_plan.specs.Refusals.{Is}

-- what a call does that only reads
abbrev pub Looks : {T : Type 0} → (Kept → T → Type 0) → Type 0 → Result T CoreError → ReplicaState → ReplicaState → Type 0
Looks P rose result s new = Call (Is (read_refusal s)) (OnlyReads P s) (Stays s) rose result s new

-- nothing has changed since, and this holds of what is kept
abbrev pub Looked : (Kept → Type 0) → ReplicaState → ReplicaState → Type 0
Looked P s new = (new ≡ s) × P (kept_of s.state.durable)

-- nothing happens by no events
goes_still : (events : List Event) (s new : ReplicaState) → events ≡ [] → Goes events s new → new ≡ s
goes_still events s new none goes = goes.ends ∙ ap (all_happen s) none

pub looked_first : (P : Kept → Type 0) (s : Option ReplicaState) → ((kept : Kept) → P kept) → Told s s (Looked P)
looked_first P None holds = tt
looked_first P (Some s) holds = (refl, holds (kept_of s.state.durable))

pub looked : {T : Type 0} (P : Kept → T → Type 0) (rose : Type 0) (value : T) (old new : Option ReplicaState) → Told old new (Looks P rose (Ok value)) → Told old new (Looked (λ kept. P kept value))
looked P rose value None new p = tt
looked P rose value (Some s) None p = p
looked P rose value (Some s) (Some after) p = (goes_still p.events s after p.makes.0 p.goes, p.makes.1)

pub looked_then : (P Q R : Kept → Type 0) (old mid new : Option ReplicaState) → ((kept : Kept) → P kept → Q kept → R kept) → Told old mid (Looked P) → Told mid new (Looked Q) → Told old new (Looked R)
looked_then P Q R None mid new f p q = tt
looked_then P Q R (Some s) None new f p q = absurd p
looked_then P Q R (Some s) (Some m) None f p q = q
looked_then P Q R (Some s) (Some m) (Some after) f p q =
    (q.0 ∙ p.0, f (kept_of s.state.durable) p.1 (subst (λ (x : ReplicaState). Q (kept_of x.state.durable)) p.0 q.1))

-- the answer of the last one
pub looked_answer : {T U : Type 0} (P : Kept → Type 0) (Q : Kept → T → Type 0) (R : Kept → U → Type 0) (rose last : Type 0) (value : T) (answer : U) (old mid new : Option ReplicaState) → ((kept : Kept) → P kept → Q kept value → R kept answer)
    → Told old mid (Looked P) → Told mid new (Looks Q last (Ok value)) → Told old new (Looks R rose (Ok answer))
looked_answer P Q R rose last value answer None mid new f p q = tt
looked_answer P Q R rose last value answer (Some s) None new f p q = absurd p
looked_answer P Q R rose last value answer (Some s) (Some m) None f p q = q
looked_answer P Q R rose last value answer (Some s) (Some m) (Some after) f p q =
    let here = subst (λ (x : ReplicaState). Looks Q last (Ok value) x after) p.0 q in
    record { allowed = here.allowed; events = here.events; makes = (here.makes.0, f (kept_of s.state.durable) p.1 here.makes.1); goes = here.goes }
