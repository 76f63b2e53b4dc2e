-- A value that is above the best is the greater one, and else the best is.
use Rattle.std.proofs.Common.{◌≡◌, Bool, true, false, Option, Some, sym, ap, ◌∙◌}
use Rattle.std.specs.Prelude.{if◌then◌else◌}
use Rattle.std.specs.Ordering.{is_lt}
use Rattle.std.specs.declared.cmp.Ordering.{Ordering}
use Rattle.mc_model.specs.Who.{Placed, higher, placed_cmp}

module _ (held : Option Placed) (best next : Placed) (holds : held ≡ Some best) (order : Ordering) (is : order ≡ placed_cmp best next)
    (less : Bool) (tells : less ≡ is_lt order) where
  test : is_lt (placed_cmp best next) ≡ less
  test = ap is_lt (sym is) ∙ sym tells

  pub above : less ≡ true → higher held next ≡ Some next
  above e = ap (λ (h : Option Placed). higher h next) holds ∙ ap (λ (t : Bool). if t then Some next else Some best) (test ∙ e)

  pub below : less ≡ false → higher held next ≡ held
  below e = ap (λ (h : Option Placed). higher h next) holds ∙ ap (λ (t : Bool). if t then Some next else Some best) (test ∙ e) ∙ sym holds
