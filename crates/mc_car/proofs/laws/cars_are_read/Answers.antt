use Rattle.std.proofs.Common.{◌<◌, ℕ}
use Rattle.std.proofs.lemmas.List.Elements.{recursion_from_All}
use Rattle.mc_car.proofs.FoundFacts.{car_found}
use Rattle.mc_car.proofs.ReadFacts.{car_read}
use Rattle.mc_car.proofs.Spellings.{one_text}
use Rattle.mc_car.proofs.laws.cars_are_read.Goals as goal

pub returns-clause-read : goal.returns-clause-read
returns-clause-read c = car_read c.cids_are_read.ensures

pub returns-clause-found : goal.returns-clause-found
returns-clause-found c text car are = car_found text car (recursion_from_All (λ (byte : ℕ). byte < 256) text are)

pub returns-clause-one : goal.returns-clause-one
returns-clause-one c = one_text
