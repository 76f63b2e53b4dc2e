use Rattle.std.proofs.Common.{◌∙◌, arith, sym}
use Rattle.std.proofs.lemmas.Bool.Decides.{nat_tests}
use Rattle.mc_script.proofs.Numbers.{parsed}
use Rattle.mc_script.proofs.words.value_of_digits.Goals as goal

pub returns : goal.returns
returns c = c.ok.ensures.value ∙ parsed c.args.word.now _ c.parse.ensures.value.0 (sym c.are_digits.ensures ∙ c.if-not-are_digits.false) (grind (arith, nat_tests, c.is_empty.ensures, c.if-is_empty.false)) (omega arith)
