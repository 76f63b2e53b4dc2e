use Rattle.std.specs.Prelude.{codes}
use Rattle.mc_script.proofs.Names.{is_other}
use Rattle.mc_script.proofs.line.read_of_batch.Goals as goal

pub returns-in_default-clause-ok : goal.returns-in_default-clause-ok
returns-in_default-clause-ok c =
    let name = c.args.name.now in
    rw (is_other name (codes "begin") c.in_default.not-begin, is_other name (codes "bput") c.in_default.not-bput, is_other name (codes "bdel") c.in_default.not-bdel, is_other name (codes "commit") c.in_default.not-commit) c.read_of_messages.ensures.ok
