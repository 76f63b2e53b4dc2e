-- What is missing or bad holds what its name says, in both its forms.
use Rattle.std.proofs.Common.{◌≡◌, ℕ, true, ◌&&◌, ◌||◌, List, [], ◌∷◌, refl, sym, ap, ◌∙◌, inl, inr}
use Rattle.std.specs.Prelude.{nat_eq}
use Rattle.std.proofs.Math.Bool.{or-true}
use Rattle.std.proofs.lemmas.Bool.{and_from, and_parts, eq-eqb, eqb-true, false≢true, or_cases}
use Rattle.mc_base.specs.declared.cid.Cid.{Cid}
use Rattle.mc_model.specs.Drain.{AllDamaged, AllNothing, PartsFit}
use Rattle.mc_model.specs.Found.{Damaged, Nothing, Offers}
use Rattle.mc_model.specs.Front.{same_cid}
use Rattle.mc_model.specs.Graph.{has}
use Rattle.mc_model.specs.Wanted.{Queue}
use Rattle.mc_model.proofs.Counts.{cid_is, cid_itself}
use Rattle.mc_node.specs.Works.{StuckFit, is_bad_as}

each_nothing : (found : Offers) (xs : List Cid) → AllNothing found xs → (c : Cid) → has c xs ≡ true → found c ≡ Nothing
each_nothing found [] all c is = absurd (false≢true is)
each_nothing found (x ∷ xs) all c is = elim (or_cases (same_cid c x) (has c xs) is) [
  | inl here ↦ ap found (cid_is c x here) ∙ all.0
  | inr there ↦ each_nothing found xs all.1 c there
]

all_nothing : (found : Offers) (xs : List Cid) → ((c : Cid) → has c xs ≡ true → found c ≡ Nothing) → AllNothing found xs
all_nothing found [] each = tt
all_nothing found (x ∷ xs) each = (each x (ap (λ b. b || has x xs) (cid_itself x)), all_nothing found xs (λ c is. each c (ap (λ b. same_cid c x || b) is ∙ or-true (same_cid c x))))

each_damaged : (found : Offers) (xs : List (Cid × ℕ)) → AllDamaged found xs → (c : Cid) (number : ℕ) → is_bad_as c number xs ≡ true → found c ≡ Damaged number
each_damaged found [] all c number is = absurd (false≢true is)
each_damaged found (x ∷ xs) all c number is = elim (or_cases (same_cid c x.0 && nat_eq number x.1) (is_bad_as c number xs) is) [
  | inl here ↦
      let both = and_parts (same_cid c x.0) (nat_eq number x.1) here in
      ap found (cid_is c x.0 both.0) ∙ all.0 ∙ ap Damaged (sym (eqb-true number x.1 both.1))
  | inr there ↦ each_damaged found xs all.1 c number there
]

all_damaged : (found : Offers) (xs : List (Cid × ℕ)) → ((c : Cid) (number : ℕ) → is_bad_as c number xs ≡ true → found c ≡ Damaged number) → AllDamaged found xs
all_damaged found [] each = tt
all_damaged found (x ∷ xs) each = (
  each x.0 x.1 (ap (λ b. b || is_bad_as x.0 x.1 xs) (and_from (same_cid x.0 x.0) (nat_eq x.1 x.1) (cid_itself x.0) (eq-eqb x.1 x.1 refl))),
  all_damaged found xs (λ c number is. each c number (ap (λ b. (same_cid c x.0 && nat_eq number x.1) || b) is ∙ or-true (same_cid c x.0 && nat_eq number x.1))),
)

pub stuck_from : (found : Offers) (q : Queue) → PartsFit found q → StuckFit found q
stuck_from found q fits = record { missing = each_nothing found q.missing fits.0; bad = each_damaged found q.bad fits.1 }

pub parts_from : (found : Offers) (q : Queue) → StuckFit found q → PartsFit found q
parts_from found q fits = (all_nothing found q.missing fits.missing, all_damaged found q.bad fits.bad)
