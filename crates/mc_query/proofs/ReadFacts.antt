-- Reads one after another, with the schedule of their keeper.
use Rattle.std.proofs.Common.{◌≡◌, ℕ, ◌+◌, ◌<◌, ◌≤◌, ◌⊎◌, inl, inr, Bool, true, false, refl, sym, ap, ◌∙◌, subst, arith, Option, Some, None, Result, Ok, Err}
use Rattle.std.proofs.lemmas.Bool.{false≢true}
use Rattle.std.specs.Result.{IsErrAnd}
use Rattle.mc_keep.specs.Plan.{Schedule, ReadsAsPlanned, is_planned, is_fault, next_number}
use Rattle.mc_keep.specs.declared.error.KeepError.{KeepError}
use Rattle.mc_keep.specs.declared.error.KeepError.TheVariants.{Memory}
use Rattle.mc_query.specs.Reads.{ReadsUpTo, ReadsWithin}

-- no read
pub reads_none : (most : ℕ) (old : Option Schedule) → ReadsWithin most old old false
reads_none most None = tt
reads_none most (Some old) = record {
  made = old.reads_made;
  counted = refl;
  bound = omega arith;
  last_is = λ e. absurd (false≢true e);
  others = λ number low high last. absurd (omega (arith, low, high));
}

at_or_below : (number made : ℕ) → number ≤ next_number made → (number ≤ made) ⊎ (number ≡ next_number made)
at_or_below number made high = grind (arith, high)

not_failed : (failed : Bool) (number : ℕ) → (failed ≡ true → number < number) → failed ≡ false
not_failed true number below = absurd (omega (arith, below refl))
not_failed false number below = refl

-- one read more
one_more : (reads most : ℕ) (old : Schedule) (mid new : Option Schedule) (failed : Bool) → reads + 1 ≤ most → ReadsUpTo reads old mid false → ReadsAsPlanned mid new failed → ReadsUpTo most old new failed
one_more reads most old mid new failed within before next =
    let now : ReadsAsPlanned (Some (record old { reads_made = before.made })) new failed = subst (λ (s : Option Schedule). ReadsAsPlanned s new failed) before.counted next in
    let told = now.1 in
    record {
      made = next_number before.made;
      counted = now.0;
      bound = omega (arith, before.bound, within);
      last_is = λ e. sym told ∙ e;
      others = λ number low high last. elim (at_or_below number before.made high) [
        | inl below ↦ before.others number low below (λ e. absurd (false≢true e))
        | inr is ↦ ap (is_planned old.reads) is ∙ sym told ∙ not_failed failed number (λ e. subst (λ (n : ℕ). number < n) (sym is) (last e))
      ];
    }

pub reads_more : (reads most : ℕ) (old mid new : Option Schedule) (failed : Bool) → reads + 1 ≤ most → ReadsWithin reads old mid false → ReadsAsPlanned mid new failed → ReadsWithin most old new failed
reads_more reads most None mid new failed within before next = tt
reads_more reads most (Some old) mid new failed within before next = one_more reads most old mid new failed within before next

-- reads after reads
both_reads : (first second most : ℕ) (old : Schedule) (mid new : Option Schedule) (failed : Bool) → first + second ≤ most → ReadsUpTo first old mid false → ReadsWithin second mid new failed → ReadsUpTo most old new failed
both_reads first second most old mid new failed within before next =
    let now : ReadsWithin second (Some (record old { reads_made = before.made })) new failed = subst (λ (s : Option Schedule). ReadsWithin second s new failed) before.counted next in
    record {
      made = now.made;
      counted = now.counted;
      bound = omega (arith, before.bound, now.bound, within);
      last_is = now.last_is;
      others = λ number low high last. elim (split number before.made) [
        | inl below ↦ before.others number low below (λ e. absurd (false≢true e))
        | inr above ↦ now.others number above high last
      ];
    }
  where
    split : (number made : ℕ) → (number ≤ made) ⊎ (made < number)
    split number made = grind arith

pub reads_both : (first second most : ℕ) (old mid new : Option Schedule) (failed : Bool) → first + second ≤ most → ReadsWithin first old mid false → ReadsWithin second mid new failed → ReadsWithin most old new failed
reads_both first second most None mid new failed within before next = tt
reads_both first second most (Some old) mid new failed within before next = both_reads first second most old mid new failed within before next

up_to : (reads most : ℕ) (old : Schedule) (new : Option Schedule) (failed : Bool) → reads ≤ most → ReadsUpTo reads old new failed → ReadsUpTo most old new failed
up_to reads most old new failed within is = record { made = is.made; counted = is.counted; bound = omega (arith, is.bound, within); last_is = is.last_is; others = is.others }

-- a looser bound
pub reads_up_to : (reads most : ℕ) (old new : Option Schedule) (failed : Bool) → reads ≤ most → ReadsWithin reads old new failed → ReadsWithin most old new failed
reads_up_to reads most None new failed within is = tt
reads_up_to reads most (Some old) new failed within is = up_to reads most old new failed within is

-- no read before a want of memory
pub reads_refused : {T : Type 0} (most : ℕ) (old : Option Schedule) (result : Result T KeepError) → IsErrAnd result (λ e. e ≡ Memory) → ReadsWithin most old old (is_fault result)
reads_refused most old (Ok value) is = absurd is
reads_refused {T = T} most old (Err error) is = subst (λ (e : KeepError). ReadsWithin most old old (is_fault {T = T} (Err e))) (sym is) (reads_none most old)
