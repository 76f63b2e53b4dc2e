-- Calls of a fetch in turn.
use Rattle.std.proofs.Common.{ℕ, Bool, false, Option, refl, ◌∙◌, arith}
use Rattle.mc_keep.proofs.Frames.{count_more}
use Rattle.mc_fetch.specs.Frame.{AsksAt}
use Rattle.mc_fetch.specs.Offers.{Offered}

module _ {S : Type 0} {offers : S → Option Offered} {leading : S → Offered} {places : S → ℕ} {quiet : S → Bool} {faults : S → ℕ} {follows : S → S → Type 0} where
  -- nothing was called
  pub asks_none : (same : (fetch : S) → follows fetch fetch) (fetch : S) → AsksAt offers leading places quiet faults follows false fetch fetch
  asks_none same fetch = record {
    offers_same = refl;
    leading_same = refl;
    places_same = refl;
    faults_go = record { later = omega arith; still = λ f. refl; rose = λ f. absurd (cc f) };
    still_quiet = λ q. q;
    calm = λ q. refl;
    followed = same fetch;
  }

  -- calls that did not fail, and then some more
  pub asks_more : (on : (first second third : S) → follows first second → follows second third → follows first third) {failed : Bool} {old mid new : S}
      → AsksAt offers leading places quiet faults follows false old mid → AsksAt offers leading places quiet faults follows failed mid new → AsksAt offers leading places quiet faults follows failed old new
  asks_more on {failed = failed} {old = old} {mid = mid} {new = new} before next = record {
    offers_same = next.offers_same ∙ before.offers_same;
    leading_same = next.leading_same ∙ before.leading_same;
    places_same = next.places_same ∙ before.places_same;
    faults_go = count_more before.faults_go next.faults_go;
    still_quiet = λ q. next.still_quiet (before.still_quiet q);
    calm = λ q. next.calm (before.still_quiet q);
    followed = on old mid new before.followed next.followed;
  }
