use Rattle.std.proofs.Common.{◌∙◌, List, ℕ, Some, None, sym, subst}
use Rattle.mc_keep.specs.Next.{IsKeyAtOf}
use Rattle.mc_tables.proofs.ListedFacts.{key_past}
use Rattle.mc_tables.proofs.range.key_at.Goals as goal

pub returns-in_ok-from_text-in-Some : goal.returns-in_ok-from_text-in-Some
returns-in_ok-from_text-in-Some c = λ value exact.
    subst (λ (text : List ℕ). IsKeyAtOf value c.args.bound.now c.args.inclusive c.args.place (Some text)) (sym (c.in_ok-from_text-in-Some.ensures ∙ c.as_str.ensures.value))
    (key_past c.args.ordered.now c.args.bound.now c.args.inclusive value c.args.place c.in_ok-keys.keys (Some c.in-Some.key.now) c.in_ok-keys.ensures.keys c.in_ok-keys.ensures.sorted exact c.in-Some.ensures)

pub returns-in-None : goal.returns-in-None
returns-in-None c = λ value exact.
    key_past c.args.ordered.now c.args.bound.now c.args.inclusive value c.args.place c.in_ok-keys.keys None c.in_ok-keys.ensures.keys c.in_ok-keys.ensures.sorted exact c.in-None.ensures
