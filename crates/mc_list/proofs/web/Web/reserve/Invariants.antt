use Rattle.std.proofs.Common.{◌-◌}
use Rattle.mc_list.specs.Web.{shape_of}
use Rattle.mc_list.specs.Whole.{spare_in}
use Rattle.mc_list.proofs.GrowFacts.{IsGrowing}
use Rattle.mc_list.proofs.web.Web.reserve.Given as goal

abbrev pub invariant-loop-self : goal.invariant-loop-self
invariant-loop-self g l = IsGrowing (shape_of l.fn.self) (shape_of l.self) l.count

abbrev pub decreases-loop-self : goal.decreases-loop-self
decreases-loop-self g l = l.count - spare_in (shape_of l.self)
