use Rattle.mc_tables.proofs.PlaceFacts.{found_stands_at}
use Rattle.mc_tables.proofs.places.find_key.Goals as goal

pub returns-in-Some-clause-place : goal.returns-in-Some-clause-place
returns-in-Some-clause-place g c =
    found_stands_at c.args.keys.now c.in-Some.number c.in-Some.field-0-1.now c.in-Some.places.now c.args.key.now c.in-Some.ensures.entry c.in-Some.ensures.key
