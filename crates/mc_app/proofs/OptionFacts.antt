-- The options of a command line, two words at a time.
use Rattle.std.proofs.Common.{◌≡◌, ◌≤◌, ◌<◌, ◌-◌, ◌∙◌, ap, sym, arith, refl, length, drop, take, ℕ, List, [], ◌∷◌, Bool, true, false, not, nat_eq, ◌&&◌, map, None}
use Rattle.std.specs.Prelude.{get_or}
use Rattle.std.specs.Option.{is_some}
use Rattle.std.proofs.lemmas.List.{take_all}
use Rattle.mc_app.specs.CommandLine.{are_options, given, has_option, is_value}
use Rattle.mc_app.specs.declared.command_line.Subcommand.{Subcommand}

module _ {S : Type 0} (bytes : S → List ℕ) where
  -- fewer than two words give nothing
  pub none_given : (wanted : List ℕ) (rest : List S) → length rest < 2 → given wanted (map bytes rest) ≡ None
  none_given wanted [] few = refl
  none_given wanted (word ∷ []) few = refl
  none_given wanted (name ∷ value ∷ rest) few = absurd (omega (arith, few))

  -- fewer than two words are options where there is none
  pub none_left : (command : Subcommand) (rest : List S) (b : Bool) → length rest < 2 → b ≡ nat_eq (length rest) 0
      → b ≡ are_options command (map bytes rest)
  none_left command [] b few is = is
  none_left command (word ∷ []) b few is = is
  none_left command (name ∷ value ∷ rest) b few is = absurd (omega (arith, few))

  and_then : (a b c d : Bool) → (a && (b && (c && d))) ≡ ((a && (b && c)) && d)
  and_then true true c d = refl
  and_then true false c d = refl
  and_then false b c d = refl

  -- where a test says whether the first two words are an option that isn't given again, all are options where it
  -- holds and the words after these two are
  pub two_words : (command : Subcommand) (rest : List S) (name value : S) (said worth : List ℕ) (after : List S) (b : Bool)
      → 2 ≤ length rest → name ≡ get_or rest 0 name → value ≡ get_or rest 1 value
      → said ≡ bytes name → worth ≡ bytes value → after ≡ take (length rest - 2) (drop 2 rest)
      → b ≡ (has_option command said && (is_value worth && not (is_some (given said (map bytes after)))))
      → are_options command (map bytes rest) ≡ (b && are_options command (map bytes after))
  two_words command [] name value said worth after b some is_name is_value_at is_said is_worth is_after test = absurd (omega (arith, some))
  two_words command (word ∷ []) name value said worth after b some is_name is_value_at is_said is_worth is_after test = absurd (omega (arith, some))
  two_words command (first ∷ second ∷ more) name value said worth after b some is_name is_value_at is_said is_worth is_after test =
      let left : after ≡ more = is_after ∙ take_all (length (first ∷ second ∷ more) - 2) more (omega arith) in
      rw (test, is_said, is_worth, is_name, is_value_at, left) (and_then (has_option command (bytes first)) (is_value (bytes second)) (not (is_some (given (bytes first) (map bytes more)))) (are_options command (map bytes more)))

pub not_options : (whole now more b : Bool) → whole ≡ now → now ≡ (b && more) → b ≡ false → false ≡ whole
not_options whole now more b same step fails = sym (same ∙ step ∙ ap (λ (b : Bool). b && more) fails)

pub options_go_on : (whole now more b : Bool) → whole ≡ now → now ≡ (b && more) → b ≡ true → whole ≡ more
options_go_on whole now more b same step holds = same ∙ step ∙ ap (λ (b : Bool). b && more) holds
