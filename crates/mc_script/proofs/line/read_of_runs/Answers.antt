use Rattle.std.specs.Prelude.{codes}
use Rattle.mc_script.proofs.Names.{is_other}
use Rattle.mc_script.proofs.line.read_of_runs.Goals as goal

pub returns-in_default-clause-ok : goal.returns-in_default-clause-ok
returns-in_default-clause-ok c =
    let name = c.args.name.now in
    rw (is_other name (codes "state") c.in_default.not-state, is_other name (codes "same") c.in_default.not-same, is_other name (codes "stop") c.in_default.not-stop, is_other name (codes "open") c.in_default.not-open, is_other name (codes "stopat") c.in_default.not-stopat, is_other name (codes "stopafter") c.in_default.not-stopafter) c.read_of_crowds.ensures.ok
