-- The first offer that decides, place by place.
use Rattle.std.proofs.Common.{◌≡◌, ℕ, suc, zero, ◌+◌, ◌≤◌, arith, true, false, cond, List, [], ◌∷◌, Option, Some, None, refl, sym, subst, ap, ◌∙◌, length, drop}
use Rattle.std.specs.Prelude.{slice_get, ⊤, IfSome}
use Rattle.std.specs.Option.{option_map}
use Rattle.mc_base.specs.declared.cid.Cid.{Cid}
use Rattle.mc_fetch.specs.Offers.{IsLeading, IsSurely, MatchesLeading, Offered, names, matching, first_offer}

-- what one more place makes of the first offer
abbrev pub or_later : Option (List ℕ) → Option (List ℕ) → Option (List ℕ)
or_later None later = later
or_later (Some bytes) later = Some bytes

first_cons : (cid : Cid) (offer : Option (List ℕ)) (offers : List (Option (List ℕ))) → first_offer cid (offer ∷ offers) ≡ or_later (matching cid offer) (first_offer cid offers)
first_cons cid None offers = refl
first_cons cid (Some bytes) offers =
    elim (names cid bytes) as (λ t. cond t (Some bytes) (first_offer cid offers) ≡ or_later (cond t (Some bytes) None) (first_offer cid offers)) [
      | true ↦ refl
      | false ↦ refl
    ]

-- of the places from one on, that one decides where its offer matches, and else the later ones do
pub first_at : (cid : Cid) (offers : List (Option (List ℕ))) (place : ℕ) (match_ : Option (List ℕ)) → option_map (matching cid) (slice_get offers place) ≡ Some match_
    → first_offer cid (drop place offers) ≡ or_later match_ (first_offer cid (drop (suc place) offers))
first_at cid [] place match_ e = absurd (cc e)
first_at cid (offer ∷ offers) zero match_ e = first_cons cid offer offers ∙ ap (λ m. or_later m (first_offer cid offers)) (cc e)
first_at cid (offer ∷ offers) (suc place) match_ e = first_at cid offers place match_ e

drop_none : (n : ℕ) → drop {A = Option (List ℕ)} n [] ≡ []
drop_none zero = refl
drop_none (suc n) = refl

dropped : (offers : List (Option (List ℕ))) (n : ℕ) → length offers ≤ n → drop n offers ≡ []
dropped [] n e = drop_none n
dropped (offer ∷ offers) zero e = absurd (omega (arith, e))
dropped (offer ∷ offers) (suc n) e = dropped offers n (omega (arith, e))

-- the same where it is told
module _ (cid : Cid) where
  abbrev pub FirstFrom : ℕ → Option Offered → Type 0
  FirstFrom place told = IfSome told (λ offered. first_offer cid (offered cid) ≡ first_offer cid (drop place (offered cid)))

  pub first_begins : (told : Option Offered) → FirstFrom 0 told
  first_begins None = tt
  first_begins (Some offered) = refl

  abbrev pub MatchAt : ℕ → Option (List ℕ) → Option Offered → Type 0
  MatchAt place match_ told = IfSome told (λ offered. option_map (matching cid) (slice_get (offered cid) place) ≡ Some match_)

  pub first_goes_on : (told : Option Offered) (place : ℕ) → FirstFrom place told → MatchAt place None told → FirstFrom (place + 1) told
  first_goes_on None place so_far none = tt
  first_goes_on (Some offered) place so_far none =
      let next : suc place ≡ place + 1 = omega arith in
      so_far ∙ first_at cid (offered cid) place None none ∙ ap (λ (z : ℕ). first_offer cid (drop z (offered cid))) next

  pub first_is_there : (told : Option Offered) (place : ℕ) (bytes : List ℕ) → FirstFrom place told → MatchAt place (Some bytes) told → IfSome told (λ offered. Some bytes ≡ first_offer cid (offered cid))
  first_is_there None place bytes so_far here = tt
  first_is_there (Some offered) place bytes so_far here = sym (so_far ∙ first_at cid (offered cid) place (Some bytes) here)

  pub first_is_none : (told : Option Offered) (places place : ℕ) → IfSome told (λ offered. (c : Cid) → length (offered c) ≡ places) → places ≤ place → FirstFrom place told → IfSome told (λ offered. None ≡ first_offer cid (offered cid))
  first_is_none None places place placed past so_far = tt
  first_is_none (Some offered) places place placed past so_far =
      sym (so_far ∙ ap (first_offer cid) (dropped (offered cid) place (omega (arith, placed cid, past))))

-- the offer of a place, matched
pub match_found : (told : Option Offered) (cid : Cid) (place : ℕ) (offer found : Option (List ℕ)) → IfSome told (λ offered. slice_get (offered cid) place ≡ Some offer) → found ≡ matching cid offer
    → IfSome told (λ offered. option_map (matching cid) (slice_get (offered cid) place) ≡ Some found)
match_found None cid place offer found at is = tt
match_found (Some offered) cid place offer found at is = ap (option_map (matching cid)) at ∙ ap (λ (m : Option (List ℕ)). Some m) (sym is)

-- of a refusal nothing is said
pub none_said : (told : Option Offered) → IfSome told (λ offered. ⊤)
none_said None = tt
none_said (Some offered) = tt

-- a leading offer that matches is found, place by place

pub match_led : (cid : Cid) (leading : List (Option (List ℕ))) (place : ℕ) (offer found : Option (List ℕ)) → IsLeading leading place offer → found ≡ matching cid offer → MatchesLeading cid leading place found
match_led cid leading place offer found is same = λ led at. same ∙ ap (matching cid) (is led at)

-- the same of what the leading places offer for every block
abbrev pub MatchLed : Cid → ℕ → Option (List ℕ) → Offered → Type 0
MatchLed cid place found leading = MatchesLeading cid (leading cid) place found

abbrev pub SureFrom : Cid → List (Option (List ℕ)) → ℕ → Type 0
SureFrom cid leading place = first_offer cid leading ≡ first_offer cid (drop place leading)

next_sure : (cid : Cid) (leading : List (Option (List ℕ))) (place : ℕ) → MatchesLeading cid leading place None → first_offer cid (drop place leading) ≡ first_offer cid (drop (suc place) leading)
next_sure cid [] zero none = refl
next_sure cid [] (suc place) none = refl
next_sure cid (offer ∷ leading) zero none = first_cons cid offer leading ∙ ap (λ m. or_later m (first_offer cid leading)) (sym (none offer refl))
next_sure cid (offer ∷ leading) (suc place) none = next_sure cid leading place none

pub sure_goes_on : (cid : Cid) (leading : List (Option (List ℕ))) (place : ℕ) → SureFrom cid leading place → MatchesLeading cid leading place None → SureFrom cid leading (place + 1)
sure_goes_on cid leading place so_far none =
    let next : suc place ≡ place + 1 = omega arith in
    so_far ∙ next_sure cid leading place none ∙ ap (λ (z : ℕ). first_offer cid (drop z leading)) next

sure_here : (cid : Cid) (leading : List (Option (List ℕ))) (place : ℕ) (bytes : List ℕ) → MatchesLeading cid leading place (Some bytes) → IsSurely (first_offer cid (drop place leading)) (Some bytes)
sure_here cid [] zero bytes here = tt
sure_here cid [] (suc place) bytes here = tt
sure_here cid (offer ∷ leading) zero bytes here =
    subst (λ (m : Option (List ℕ)). IsSurely m (Some bytes)) (sym (first_cons cid offer leading ∙ ap (λ m. or_later m (first_offer cid leading)) (sym (here offer refl)))) refl
sure_here cid (offer ∷ leading) (suc place) bytes here = sure_here cid leading place bytes here

pub sure_is_there : (cid : Cid) (leading : List (Option (List ℕ))) (place : ℕ) (bytes : List ℕ) → SureFrom cid leading place → MatchesLeading cid leading place (Some bytes) → IsSurely (first_offer cid leading) (Some bytes)
sure_is_there cid leading place bytes so_far here = subst (λ (m : Option (List ℕ)). IsSurely m (Some bytes)) (sym so_far) (sure_here cid leading place bytes here)

pub sure_is_none : (cid : Cid) (leading : List (Option (List ℕ))) (places place : ℕ) → length leading ≤ places → places ≤ place → SureFrom cid leading place → IsSurely (first_offer cid leading) None
sure_is_none cid leading places place few past so_far =
    subst (λ (m : Option (List ℕ)). IsSurely m None) (sym (so_far ∙ ap (first_offer cid) (dropped leading place (omega (arith, few, past))))) tt
