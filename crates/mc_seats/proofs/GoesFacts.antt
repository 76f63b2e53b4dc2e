-- What calls leave of a keeper: its faults are paid, and what is calm stays calm.
use Rattle.std.proofs.Common.{◌≡◌, ℕ, ◌+◌, ◌-◌, ◌^◌, ◌≤◌, ◌⊎◌, inl, inr, Bool, true, false, cond, refl, sym, ap, ◌∙◌, subst, arith, Option, None, Some}
use Rattle.std.specs.Prelude.{◌&&◌, is_some, nat_eq}
use Rattle.mc_base.specs.Causes.{Rose}
use Rattle.mc_keep.specs.Calls.{Members}
use Rattle.mc_keep.specs.Causes.{StaysQuiet, has_fired}
use Rattle.mc_keep.specs.Frame.{GoesAt, ReadsAt}
use Rattle.mc_keep.specs.Plan.{Schedule}
use Rattle.mc_keep.specs.declared.fuse.Fuse.{Fuse}
use Rattle.mc_keep.proofs.Frames.{goes_reads}
use Rattle.mc_seats.specs.Keepers.{IsPaid, armed_at}
use Rattle.mc_seats.specs.Words.{KeeperGoes}

-- 1 where a fuse is armed
abbrev pub armed : Option Fuse → ℕ
armed fuse = cond (is_some fuse) 1 0

pub no_fault : {P : Type 0} → false ≡ true → P
no_fault e = absurd (let f : false ≡ true = e in cc)

-- a fuse that is not armed stays so

fewer : (fuse fuse2 : Option Fuse) → (fuse ≡ None → fuse2 ≡ None) → armed fuse2 ≤ armed fuse
fewer None fuse2 stays = subst (λ (f : Option Fuse). armed f ≤ 0) (sym (stays refl)) (omega arith)
fewer (Some fuse) None stays = omega arith
fewer (Some fuse) (Some fuse2) stays = omega arith

one_at_most : (fuse : Option Fuse) → armed fuse ≤ 1
one_at_most None = omega arith
one_at_most (Some fuse) = omega arith

-- a fault is paid by the fuse that fired, or by the own count
one_paid : (fuse fuse2 : Option Fuse) (own own2 : ℕ) → (fuse ≡ None → fuse2 ≡ None) → own ≤ own2 → (has_fired fuse fuse2 ≡ false → Rose own own2)
    → (own + 1 + armed fuse2 ≤ own2 + armed fuse + 0) ⊎ (2 ^ 64 - 1 ≤ own2)
one_paid None fuse2 own own2 stays later rose = by_rose (armed fuse2) (fewer None fuse2 stays) (rose refl)
  where
    by_rose : (n : ℕ) → n ≤ 0 → Rose own own2 → (own + 1 + n ≤ own2 + 0 + 0) ⊎ (2 ^ 64 - 1 ≤ own2)
    by_rose n none rose = grind (arith, none, rose)
one_paid (Some fuse) None own own2 stays later rose = inl (omega (arith, later))
one_paid (Some fuse) (Some fuse2) own own2 stays later rose = by_rose (rose refl)
  where
    by_rose : Rose own own2 → (own + 1 + 1 ≤ own2 + 1 + 0) ⊎ (2 ^ 64 - 1 ≤ own2)
    by_rose rose = grind (arith, rose)

pub call_paid : (failed : Bool) (fuse fuse2 : Option Fuse) (own own2 : ℕ) → (fuse ≡ None → fuse2 ≡ None) → own ≤ own2 → (has_fired fuse fuse2 ≡ false → failed ≡ true → Rose own own2)
    → IsPaid (cond failed 1 0) 0 own (armed fuse) own2 (armed fuse2)
call_paid true fuse fuse2 own own2 stays later rose = record { later = later; paid = one_paid fuse fuse2 own own2 stays later (λ none. rose none refl) }
call_paid false fuse fuse2 own own2 stays later rose = record { later = later; paid = inl (let less = fewer fuse fuse2 stays in omega (arith, less, later)) }

-- one step after another
pub paid_then : (f1 a1 f2 a2 own armed1 own2 armed2 own3 armed3 : ℕ) → IsPaid f1 a1 own armed1 own2 armed2 → IsPaid f2 a2 own2 armed2 own3 armed3 → IsPaid (f1 + f2) (a1 + a2) own armed1 own3 armed3
paid_then f1 a1 f2 a2 own armed1 own2 armed2 own3 armed3 first next = record { later = omega (arith, first.later, next.later); paid = both first.paid next.paid }
  where
    both : (own + f1 + armed2 ≤ own2 + armed1 + a1) ⊎ (2 ^ 64 - 1 ≤ own2) → (own2 + f2 + armed3 ≤ own3 + armed2 + a2) ⊎ (2 ^ 64 - 1 ≤ own3)
        → (own + (f1 + f2) + armed3 ≤ own3 + armed1 + (a1 + a2)) ⊎ (2 ^ 64 - 1 ≤ own3)
    both (inr last) q = inr (omega (arith, last, next.later))
    both (inl p) (inr last) = inr last
    both (inl p) (inl q) = inl (omega (arith, p, q))

-- what is calm is quiet and counts nothing
calm_parts : (quiet zero : Bool) → (quiet && zero) ≡ true → (quiet ≡ true) × (zero ≡ true)
calm_parts true zero is = (refl, is)
calm_parts false zero is = no_fault is

pub stays_calm : (quiet quiet2 : Bool) (own own2 : ℕ) → StaysQuiet quiet quiet2 own own2 → (quiet && nat_eq own 0) ≡ true → (quiet2 && nat_eq own2 0) ≡ true
stays_calm quiet quiet2 own own2 stays is =
    let parts = calm_parts quiet (nat_eq own 0) is in
    let still = stays parts.0 in
    ap (λ b. b && nat_eq own2 0) still.0 ∙ ap (λ n. nat_eq n 0) still.1 ∙ parts.1

module _ {K D : Type 0} {k : Members K D} where
  -- a call that may commit
  pub keeper_goes : {schedule : K → Option Schedule} {failed : Bool} {old new : K} → GoesAt k.told k.fuse k.own k.faults k.quiet schedule failed old new → KeeperGoes k (cond failed 1 0) 0 old new
  keeper_goes {failed = failed} {old = old} {new = new} goes = record {
    paid = call_paid failed (k.fuse old) (k.fuse new) (k.own old) (k.own new) goes.no_fuse goes.own_later goes.own_rose;
    calm = stays_calm (k.quiet old) (k.quiet new) (k.own old) (k.own new) goes.still_quiet;
  }

  -- one that only reads
  pub keeper_reads : {schedule : K → Option Schedule} {failed : Bool} {old new : K} → ReadsAt k.told k.layout k.fuse k.spare k.own k.faults k.quiet schedule failed old new → KeeperGoes k (cond failed 1 0) 0 old new
  keeper_reads {schedule = schedule} {failed = failed} {old = old} {new = new} reads = keeper_goes {schedule = schedule} {failed = failed} {old = old} {new = new} (goes_reads reads)

  -- nothing, and one after another
  pub keeper_still : (keeper : K) → KeeperGoes k 0 0 keeper keeper
  keeper_still keeper = record { paid = record { later = omega arith; paid = inl (omega arith) }; calm = λ e. e }

  pub keeper_same : {old new : K} → new ≡ old → KeeperGoes k 0 0 old new
  keeper_same {old = old} {new = new} is = subst (λ (x : K). KeeperGoes k 0 0 old x) (sym is) (keeper_still old)

  -- a fuse that is armed
  pub keeper_armed : {old new : K} → k.own new ≡ k.own old → k.quiet new ≡ k.quiet old → KeeperGoes k 0 1 old new
  keeper_armed {old = old} {new = new} own quiet = record {
    paid = record { later = omega (arith, own); paid = inl (let low = one_at_most (k.fuse new) in omega (arith, own, low)) };
    calm = stays_calm (k.quiet old) (k.quiet new) (k.own old) (k.own new) (λ e. (quiet ∙ e, own));
  }

  pub keeper_then : {f1 a1 f2 a2 : ℕ} {old mid new : K} → KeeperGoes k f1 a1 old mid → KeeperGoes k f2 a2 mid new → KeeperGoes k (f1 + f2) (a1 + a2) old new
  keeper_then {f1 = f1} {a1 = a1} {f2 = f2} {a2 = a2} {old = old} {mid = mid} {new = new} first next = record {
    paid = paid_then f1 a1 f2 a2 (k.own old) (armed_at k old) (k.own mid) (armed_at k mid) (k.own new) (armed_at k new) first.paid next.paid;
    calm = λ e. next.calm (first.calm e);
  }
