-- Parts of a call, one after another.
use Rattle.std.proofs.Common.{◌≡◌, ◌≤◌, ℕ, List, ◌++◌, Option, Some, None, Result, Ok, Err, refl, sym, subst, arith}
use Rattle.std.specs.Prelude.{IfSome}
use Rattle.mc_base.specs.Causes.{Rose}
use Rattle.mc_base.specs.Told.{Told}
use Rattle.mc_model.specs.Events.{Event}
use Rattle.mc_model.specs.Kept.{Kept}
use Rattle.mc_plan.specs.Events.{ReplicaState, Goes, Breaks, Part}
use Rattle.mc_plan.proofs.EventFacts.{goes_then, breaks_more, breaks_after, breaks_rose}

-- what holds of what is told now, where what was told has become this
pub moved : (P : Kept → Type 0) (f : Kept → Kept) (old mid : Option Kept) → (old ≡ None → mid ≡ None) → Told old mid (λ kept new. new ≡ f kept) → IfSome old (λ kept. P (f kept)) → IfSome mid P
moved P f None mid silent told p = subst (λ m. IfSome m P) (sym (silent refl)) tt
moved P f (Some kept) None silent told p = absurd told
moved P f (Some kept) (Some new) silent told p = subst P (sym told) p

-- the first part broke
pub part_more : (old new : Option ReplicaState) (events more : List Event) (own own_mid own_new : ℕ) → own_mid ≤ own_new → Told old new (λ s after. Breaks events (Rose own own_mid) s after)
    → Told old new (λ s after. Breaks (events ++ more) (Rose own own_new) s after)
part_more None new events more own own_mid own_new later p = tt
part_more (Some s) None events more own own_mid own_new later p = absurd p
part_more (Some s) (Some after) events more own own_mid own_new later p =
    breaks_more events more (Rose own own_new) s after (breaks_rose events (Rose own own_mid) (Rose own own_new) s after (λ r. omega (arith, r, later)) p)

part_both : {T E : Type 0} (first second : List Event) (own own_mid own_new : ℕ) (result : Result T E) (s mid new : ReplicaState) → own ≤ own_mid → Goes first s mid
    → Part second (Rose own_mid own_new) result mid new → Part (first ++ second) (Rose own own_new) result s new
part_both first second own own_mid own_new (Ok value) s mid new later p q = goes_then first second s mid new p q
part_both first second own own_mid own_new (Err error) s mid new later p q =
    breaks_after first second (Rose own own_new) s mid new p (breaks_rose second (Rose own_mid own_new) (Rose own own_new) mid new (λ r. omega (arith, r, later)) q)

-- a part after a part
pub part_then : {T E : Type 0} (first second : List Event) (own own_mid own_new : ℕ) (result : Result T E) (old mid new : Option ReplicaState) → own ≤ own_mid
    → Told old mid (λ s after. Goes first s after) → Told mid new (λ s after. Part second (Rose own_mid own_new) result s after) → Told old new (λ s after. Part (first ++ second) (Rose own own_new) result s after)
part_then first second own own_mid own_new result None mid new later p q = tt
part_then first second own own_mid own_new result (Some s) None new later p q = absurd p
part_then first second own own_mid own_new result (Some s) (Some x) None later p q = absurd q
part_then first second own own_mid own_new result (Some s) (Some x) (Some y) later p q = part_both first second own own_mid own_new result s x y later p q
