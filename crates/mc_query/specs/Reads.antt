-- How many reads of a keeper a call makes, and which of them fail, where that is known.
use Rattle.std.specs.Prelude.{◌≡◌, ⊤, ℕ, ◌+◌, ◌<◌, ◌≤◌, Bool, true, false, Option, Some, None}
use Rattle.mc_keep.specs.Plan.{Schedule, is_planned}

-- at most so many reads were made; the last one was planned to fail where the call failed, and no other one was
pub record ReadsUpTo (most : ℕ) (old : Schedule) (new : Option Schedule) (failed : Bool) : Type 0 where
  pub made : ℕ
  pub counted : new ≡ Some (record old { reads_made = made })
  pub bound : made ≤ old.reads_made + most
  pub last_is : failed ≡ true → is_planned old.reads made ≡ true
  pub others : (number : ℕ) → old.reads_made < number → number ≤ made → (failed ≡ true → number < made) →
      is_planned old.reads number ≡ false

-- the same where a schedule is known
abbrev pub ReadsWithin : ℕ → Option Schedule → Option Schedule → Bool → Type 0
ReadsWithin most None new failed = ⊤
ReadsWithin most (Some old) new failed = ReadsUpTo most old new failed
