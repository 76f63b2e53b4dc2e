use Rattle.std.proofs.Common.{sym, subst}
use Rattle.mc_tables.specs.Places.{value_in, texts_in}
use Rattle.mc_tables.specs.Values.{IsCovered}
use Rattle.mc_tables.proofs.ValueFacts.{covered_without}
use Rattle.mc_tables.proofs.values.remove_row.Goals as goal

pub returns-clause-covered : goal.returns-clause-covered
returns-clause-covered g c =
    subst (λ texts. IsCovered texts (value_in c.drop_value.new.elements.keys) c.drop_key.new.ordered c.args.values.now.pending.items) (sym c.drop_value.ensures.texts)
    (covered_without (texts_in c.args.elements.now.keys) (value_in c.args.elements.now.keys) (value_in c.drop_value.new.elements.keys) c.args.values.now.ordered c.drop_key.new.ordered c.args.values.now.pending.items c.args.key.now
    c.drop_value.ensures.values c.drop_key.ensures c.requires.covered)
