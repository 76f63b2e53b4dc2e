-- What calls leave of a fetch.
use Rattle.std.specs.Prelude.{◌≡◌, ℕ, Bool, true, false, Option}
use Rattle.mc_keep.specs.Causes.{CountGoes}
use Rattle.mc_fetch.specs.Offers.{Offered}

-- After calls, of which the last one alone may have failed, and did so where `failed` is true: what is told and the
-- number of places are the same, the count rose exactly where the last call failed, and what is quiet stays so and has
-- not failed.
pub record AsksAt {S : Type 0} (offers : S → Option Offered) (leading : S → Offered) (places : S → ℕ) (quiet : S → Bool) (faults : S → ℕ)
    (follows : S → S → Type 0) (failed : Bool) (old new : S) : Type 0 where
  pub offers_same : offers new ≡ offers old
  pub leading_same : leading new ≡ leading old
  pub places_same : places new ≡ places old
  pub faults_go : CountGoes failed (faults old) (faults new)
  pub still_quiet : quiet old ≡ true → quiet new ≡ true
  pub calm : quiet old ≡ true → failed ≡ false
  pub followed : follows old new
