use Rattle.std.proofs.Common.{take}
use Rattle.mc_car.specs.Steps.{AppendsSections}
use Rattle.mc_car.proofs.write.put_sections.Given as goal

abbrev pub invariant-loop-section : goal.invariant-loop-section
invariant-loop-section l = AppendsSections l.initial.out l.out (take l.section-index l.sections)
