use Rattle.std.proofs.Common.{◌∙◌, sym, ap, None}
use Rattle.std.specs.Option.{option_and_then}
use Rattle.mc_tables.specs.declared.places.Places.{Places}
use Rattle.mc_tables.specs.Places.{value_in}
use Rattle.mc_tables.proofs.PlaceFacts.{value_again, value_back}
use Rattle.mc_tables.proofs.places.set_last.Goals as goal

pub returns-in-Some-clause-values : goal.returns-in-Some-clause-values
returns-in-Some-clause-values g c =
    let olds = value_in c.args.keys.now in
    let mids = value_in c.put_first-number.new.keys in
    let news = value_in c.set_value-none.new.keys in
    value_back olds news c.args.key c.in-Some.before.value
    (ap (option_and_then (λ (places : Places). places.value)) (sym c.in-Some.is ∙ c.put_first-number.ensures.before))
    (value_again olds mids news c.args.key None c.in-Some.before.value c.put_first-number.ensures.values (c.set_value-none.ensures.values c.args.key c.put_first-number.ensures.place))

pub returns-in-None-clause-values : goal.returns-in-None-clause-values
returns-in-None-clause-values g c =
    value_back (value_in c.args.keys.now) (value_in c.put_first-number.new.keys) c.args.key None
    (ap (option_and_then (λ (places : Places). places.value)) (sym c.in-None.is ∙ c.put_first-number.ensures.before)) c.put_first-number.ensures.values
