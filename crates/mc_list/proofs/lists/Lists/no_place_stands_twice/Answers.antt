use Rattle.mc_list.specs.Web.{shape_of}
use Rattle.mc_list.proofs.AllFacts.{one_each}
use Rattle.mc_list.proofs.lists.Lists.no_place_stands_twice.Goals as goal

pub returns : goal.returns
returns g c place = one_each (shape_of c.args.self.now.web) c.args.self.now.whole place.number
