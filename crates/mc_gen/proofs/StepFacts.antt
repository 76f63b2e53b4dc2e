-- One step of a script.
use Rattle.std.proofs.Common.{◌≡◌, ◌≤◌, ◌∙◌, ◌+◌, ◌++◌, ap, arith, suc, if◌then◌else◌, refl, ℕ, Bool, true, false, List}
use Rattle.mc_gen.specs.Draws.{drawn, first_after, second_after, third_after}
use Rattle.mc_gen.specs.Lines.{is_cast, line_of_draws}
use Rattle.mc_gen.specs.Script.{line_at, lines_before, number_at, sent_before}

next : (index : ℕ) → index + 1 ≡ suc index
next index = omega arith

module _ (start index number sent : ℕ) (at_number : number ≡ number_at start index) (at_sent : sent ≡ sent_before start index) where
  pub number_goes_on : (now : ℕ) → now ≡ third_after number → now ≡ number_at start (index + 1)
  number_goes_on now is = rw (next index, is, at_number) refl

  pub sent_goes_on : (now : ℕ) → now ≡ sent + (if is_cast (drawn (third_after number)) sent then 1 else 0)
      → now ≡ sent_before start (index + 1)
  sent_goes_on now is = rw (next index, is, at_number, at_sent) refl

  pub text_goes_on : (text now : List ℕ) → text ≡ lines_before start index
      → now ≡ text ++ line_of_draws (drawn (first_after number)) (drawn (second_after number)) (drawn (third_after number)) sent
      → now ≡ lines_before start (index + 1)
  text_goes_on text now so_far is = rw (next index, is, so_far, at_number, at_sent) refl

-- a step sends one message at most
one_at_most : (sends : Bool) (sent index : ℕ) → sent ≤ index → sent + (if sends then 1 else 0) ≤ index + 1
one_at_most true sent index few = omega (arith, few)
one_at_most false sent index few = omega (arith, few)

pub few_go_on : (sends : Bool) (sent now index : ℕ) → now ≡ sent + (if sends then 1 else 0) → sent ≤ index
    → now ≤ index + 1
few_go_on sends sent now index is few = rw is (one_at_most sends sent index few)
