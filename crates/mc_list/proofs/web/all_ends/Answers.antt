use Rattle.mc_list.proofs.StartFacts.{five_ends}
use Rattle.mc_list.proofs.web.all_ends.Goals as goal

pub returns : goal.returns
returns g c at = five_ends c.end_of.result c.end_of-2.result c.end_of-3.result c.end_of-4.result c.end_of-5.result at (c.end_of.ensures at) (c.end_of-2.ensures at) (c.end_of-3.ensures at) (c.end_of-4.ensures at) (c.end_of-5.ensures at)
