use Rattle.std.proofs.Common.{◌≡◌, ◌++◌, ◌∷◌, ◌∙◌, [], ap, codes, sym, subst, OnOk, List, ℕ}
use Rattle.std.specs.Fmt.{decimal}
use Rattle.mc_script.specs.ReplyText.{clear_or_set, count_words, joined, line, mark_words, yes_or_no}
use Rattle.mc_script.proofs.JoinFacts.{joined_parts}
use Rattle.mc_script.proofs.texts.write_state.Goals as goal

pub returns-clause-ok : goal.returns-clause-ok
returns-clause-ok c =
    let counts : List (List ℕ) = count_words c.args.processed c.args.stored c.args.waiting c.args.missing c.args.bad in
    let marks : List (List ℕ) = mark_words c.args.mark c.args.whole in
    let text = ap (λ (text : List ℕ). line (text ++ (32 ∷ joined marks))) (c.as_str.ensures.value ∙ c.in_ok-counts.ensures) ∙ ap line (sym (joined_parts (codes "state") (codes "processed" ∷ decimal c.args.processed ∷ codes "stored" ∷ decimal c.args.stored ∷ codes "waiting" ∷ decimal c.args.waiting ∷ codes "missing" ∷ decimal c.args.missing ∷ codes "bad" ∷ decimal c.args.bad ∷ []) (codes "mark") (clear_or_set c.args.mark ∷ codes "whole" ∷ yes_or_no c.args.whole ∷ []))) in
    subst (λ (text : List ℕ). OnOk c.write_marks.result (c.write_marks.new.out ≡ c.args.out.now ++ text)) text c.write_marks.ensures.ok
