-- What `parse` reads of digits.
use Rattle.std.proofs.Common.{◌≡◌, ◌<◌, ◌≤◌, ◌^◌, ℕ, List, length, Ok, Err, Result, true, arith}
use Rattle.std.proofs.lemmas.Str.Parse.{IsNumeralModel, numerals_by_value, tells_all_ascii_digits, parse_digits}
use Rattle.std.proofs.lemmas.Bool.Decides.{nat_tests}
use Rattle.std.specs.Result.{result_ok, OkIff}
use Rattle.std.specs.Str.{all_ascii_digits}
use Rattle.std.specs.Str.Parse.{ParsesUnsigned, digits_value}
use Rattle.mc_script.specs.Words.{number_of}

own : IsNumeralModel (λ ds. all_ascii_digits ds ≡ true) (digits_value 10)
own = numerals_by_value _ tells_all_ascii_digits

told : {E : Type 0} (word : List ℕ) (r : Result ℕ E) → OkIff r ((0 < length word) × (digits_value 10 word < 2 ^ 64)) (digits_value 10 word) → all_ascii_digits word ≡ true → 0 < length word → length word ≤ 20 → result_ok r ≡ number_of word
told word (Ok n) is digits some few = let small = is.0.1 in grind (arith, nat_tests, is.1)
told word (Err e) is digits some few = let large : digits_value 10 word < 2 ^ 64 → ⊥ = λ small. is (some, small) in grind (arith, nat_tests)

pub parsed : {E : Type 0} (word : List ℕ) (r : Result ℕ E) → ParsesUnsigned 64 10 word r → all_ascii_digits word ≡ true → 0 < length word → length word ≤ 20 → result_ok r ≡ number_of word
parsed word r parses digits some few = told word r (parse_digits own 64 word r parses digits) digits some few
