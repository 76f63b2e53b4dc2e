use Rattle.std.proofs.Common.{◌-◌, length}
use Rattle.mc_app.specs.Lines.{line_max}
use Rattle.mc_app.proofs.LineFacts.{IsReading}
use Rattle.mc_app.proofs.line_reader.LineReader.next_line.Given as goal

abbrev pub invariant-loop-self : goal.invariant-loop-self
invariant-loop-self g l = IsReading (g.S.Source.left l.fn.source) (g.S.Source.left l.source) l.fn.self.ahead l.self.ahead l.self.line l.fn.self.given l.self.given l.room (g.S.Counted.faults l.fn.source) (g.S.Counted.faults l.source) (g.S.Source.endless l.fn.source) (g.S.Source.endless l.source)

abbrev pub decreases-loop-self : goal.decreases-loop-self
decreases-loop-self g l = line_max - length l.self.line
