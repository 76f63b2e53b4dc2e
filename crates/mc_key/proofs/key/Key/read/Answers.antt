use Rattle.std.proofs.Common.{◌≡◌, ℕ, List, ◌∷◌, ap, sym, arith, ◌∙◌}
use Rattle.mc_key.proofs.RuleFacts.{key_of_parts}
use Rattle.mc_key.proofs.key.Key.read.Goals as goal

pub invariant_of-result : goal.invariant_of-result
invariant_of-result c =
    let cut = c.in-Some.ensures.cases in
    let is : c.args.text.now ≡ 47 ∷ c.in-Some.rest.now = cut.1.1 ∙ ap (λ (rest : List ℕ). 47 ∷ rest) (sym cut.2) in
    key_of_parts c.args.text.now c.in-Some.rest.now is (omega arith) c.in_ok-check_segments.ensures.ok

pub returns-clause-rule : goal.returns-clause-rule
returns-clause-rule c =
    let cut = c.in-Some.ensures.cases in
    let is : c.args.text.now ≡ 47 ∷ c.in-Some.rest.now = cut.1.1 ∙ ap (λ (rest : List ℕ). 47 ∷ rest) (sym cut.2) in
    key_of_parts c.args.text.now c.in-Some.rest.now is (omega arith) c.in_ok-check_segments.ensures.ok
