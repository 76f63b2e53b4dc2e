use Rattle.std.proofs.Common.{◌≡◌, length}
use Rattle.std.specs.Prelude.{map, string_bytes}
use Rattle.mc_app.specs.CommandLine.{are_options}
use Rattle.mc_app.proofs.command_line.has_options.Given as goal

abbrev pub invariant-loop-rest : goal.invariant-loop-rest
invariant-loop-rest l =
    are_options l.fn.command (map string_bytes l.fn.options) ≡ are_options l.fn.command (map string_bytes l.rest)

abbrev pub decreases-loop-rest : goal.decreases-loop-rest
decreases-loop-rest l = length l.rest
