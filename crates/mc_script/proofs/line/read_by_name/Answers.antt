use Rattle.std.specs.Prelude.{codes}
use Rattle.mc_script.proofs.Names.{is_other}
use Rattle.mc_script.proofs.line.read_by_name.Goals as goal

pub returns-in_default-clause-ok : goal.returns-in_default-clause-ok
returns-in_default-clause-ok c =
    let name = c.args.name.now in
    rw (is_other name (codes "put") c.in_default.not-put, is_other name (codes "del") c.in_default.not-del, is_other name (codes "get") c.in_default.not-get, is_other name (codes "has") c.in_default.not-has, is_other name (codes "query") c.in_default.not-query, is_other name (codes "heads") c.in_default.not-heads) c.read_of_batch.ensures.ok
