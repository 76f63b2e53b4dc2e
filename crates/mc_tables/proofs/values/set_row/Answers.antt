use Rattle.std.proofs.Common.{◌∙◌, subst, sym}
use Rattle.mc_tables.specs.Places.{value_in, texts_in}
use Rattle.mc_tables.specs.Values.{IsCovered}
use Rattle.mc_tables.proofs.ValueFacts.{covered_new, covered_had}
use Rattle.mc_tables.proofs.values.set_row.Goals as goal

pub returns-clause-covered : goal.returns-clause-covered
returns-clause-covered g c =
    let values = value_in c.place_row-number.new.elements.keys in
    let ordered = c.args.values.now.ordered in
    let texts = texts_in c.place_row-number.new.elements.keys in
    let before = c.args.values.now.pending.items in
    subst (λ z. IsCovered texts values ordered z) (sym c.push_reserved.ensures.items)
    (covered_new texts (value_in c.args.elements.now.keys) values ordered before c.args.key.now c.place_row-number.ensures.has c.place_row-number.result.0 c.place_row-number.ensures.place
    (subst (λ z. IsCovered z (value_in c.args.elements.now.keys) ordered before) (sym c.place_row-number.ensures.texts) c.requires.covered))

pub returns-then-had-clause-covered : goal.returns-then-had-clause-covered
returns-then-had-clause-covered g c =
    let values = value_in c.place_row-number.new.elements.keys in
    let ordered = c.args.values.now.ordered in
    let texts = texts_in c.place_row-number.new.elements.keys in
    let before = c.args.values.now.pending.items in
    covered_had texts (value_in c.args.elements.now.keys) values ordered before c.args.key.now c.place_row-number.ensures.has (sym c.place_row-number.ensures.before ∙ c.if-had.true)
    (subst (λ z. IsCovered z (value_in c.args.elements.now.keys) ordered before) (sym c.place_row-number.ensures.texts) c.requires.covered)
