use Rattle.std.proofs.Common.{ap}
use Rattle.std.specs.Map.{lookup, keys_of}
use Rattle.std.specs.Option.{option_map, option_and_then}
use Rattle.mc_tombs.specs.Tombs.{is_text}
use Rattle.mc_tables.specs.declared.places.Places.{Places}
use Rattle.mc_tables.proofs.places.reserve_keys.Goals as goal

pub returns-clause-lasts : goal.returns-clause-lasts
returns-clause-lasts g c = λ key. ap (λ z. option_map (λ (places : Places). places.last) (lookup (is_text key) z)) c.reserve.ensures.entries

pub returns-clause-values : goal.returns-clause-values
returns-clause-values g c = λ key. ap (λ z. option_and_then (λ (places : Places). places.value) (lookup (is_text key) z)) c.reserve.ensures.entries

pub returns-clause-texts : goal.returns-clause-texts
returns-clause-texts g c = ap keys_of c.reserve.ensures.entries
