use Rattle.std.proofs.Common.{◌≡◌, ◌∙◌, ◌&&◌, Bool, true, false, not, ap, refl, sym}
use Rattle.std.specs.Prelude.{is_some}
use Rattle.std.specs.Str.{bytes_eq}
use Rattle.std.specs.String.{string_bytes}
use Rattle.mc_tables.specs.Places.{value_in}
use Rattle.mc_tables.proofs.PlaceFacts.{none_stands, has_value_as}
use Rattle.mc_tables.proofs.order.key_with_value.Goals as goal

and_true : (b : Bool) → (b && true) ≡ b
and_true true = refl
and_true false = refl

and_false : (b : Bool) → (b && false) ≡ false
and_false true = refl
and_false false = refl

pub returns-in_default : goal.returns-in_default
returns-in_default g c = λ other. ap (λ b. b && is_some (value_in c.args.keys.now other)) (none_stands c.args.keys.now c.args.number other (sym c.in_default.ensures.entry))

pub returns-then-is_none : goal.returns-then-is_none
returns-then-is_none g c = λ other.
    has_value_as c.args.keys.now c.args.number c.in-Some.key.now c.in-Some.places.now other (sym c.in-Some.ensures.entry) c.in-Some.ensures.value false (ap is_some (sym c.place.ensures) ∙ c.is_none.ensures ∙ ap not c.if-is_none.true)
    ∙ and_false (bytes_eq other (string_bytes c.in-Some.key.now))

pub returns : goal.returns
returns g c = λ other.
    has_value_as c.args.keys.now c.args.number c.in-Some.key.now c.in-Some.places.now other (sym c.in-Some.ensures.entry) c.in-Some.ensures.value true (ap is_some (sym c.place.ensures) ∙ c.is_none.ensures ∙ ap not c.if-is_none.false)
    ∙ and_true (bytes_eq other (string_bytes c.in-Some.key.now))
