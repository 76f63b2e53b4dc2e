-- The bytes of a borrowed text, where there is one.
use Rattle.std.specs.Prelude.{ℕ, List, Option}
use Rattle.std.specs.Option.{option_map}
use denote.Ref.{Bor}

abbrev pub text_given : Option (Bor (List ℕ)) → Option (List ℕ)
text_given text = option_map (λ text. text.now) text
