use Rattle.std.specs.Prelude.{codes}
use Rattle.mc_script.proofs.Names.{is_other}
use Rattle.mc_script.proofs.line.read_of_histories.Goals as goal

pub returns-in_default-clause-ok : goal.returns-in_default-clause-ok
returns-in_default-clause-ok c =
    let name = c.args.name.now in
    rw (is_other name (codes "export") c.in_default.not-export, is_other name (codes "carin") c.in_default.not-carin, is_other name (codes "import") c.in_default.not-import, is_other name (codes "feed") c.in_default.not-feed, is_other name (codes "getat") c.in_default.not-getat) c.read_of_runs.ensures.ok
