-- The refusals of a key and of a value are ones that a replica decides alone.
use Rattle.std.proofs.Common.{◌≡◌, ℕ, Bool, true, false, cond, List, Option, Some, None, refl, sym, ap, ◌∙◌}
use Rattle.std.specs.Prelude.{nat_lt, length}
use Rattle.std.specs.Option.{option_map}
use Rattle.mc_key.specs.KeyRule.{key_fault}
use Rattle.mc_plan.specs.declared.error.CoreError.{CoreError}
use Rattle.mc_plan.specs.declared.error.CoreError.TheVariants as core
use Rattle.mc_plan.specs.Refusals.{key_refusal, value_refusal, value_max}
use Rattle.mc_core.specs.Exact.{DecidesAlone, is_block_refusal}

-- of an optional refusal
abbrev is_block_in : Option CoreError → Bool
is_block_in None = false
is_block_in (Some error) = is_block_refusal error

of_due : (due : Option CoreError) (error : CoreError) → is_block_in due ≡ false → Some error ≡ due → DecidesAlone error
of_due due error none is = ap is_block_in is ∙ none

map_in : {A : Type 0} (f : A → CoreError) → ((fault : A) → is_block_refusal (f fault) ≡ false) → (fault : Option A) → is_block_in (option_map f fault) ≡ false
map_in f alone None = refl
map_in f alone (Some fault) = alone fault

value_in : (value : List ℕ) → is_block_in (value_refusal value) ≡ false
value_in value = elim (nat_lt value_max (length value)) as (λ b. is_block_in (cond b (Some core.ValueTooLong) None) ≡ false) [ true ↦ refl | false ↦ refl ]

pub key_alone : (key : List ℕ) (error : CoreError) → key_refusal key ≡ Some error → DecidesAlone error
key_alone key error is = of_due (key_refusal key) error (map_in core.BadKey (λ fault. refl) (key_fault key)) (sym is)

pub value_alone : (value : List ℕ) (error : CoreError) → value_refusal value ≡ Some error → DecidesAlone error
value_alone value error is = of_due (value_refusal value) error (value_in value) (sym is)
