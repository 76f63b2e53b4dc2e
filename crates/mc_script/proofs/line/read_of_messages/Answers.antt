use Rattle.std.specs.Prelude.{codes}
use Rattle.mc_script.proofs.Names.{is_other}
use Rattle.mc_script.proofs.line.read_of_messages.Goals as goal

pub returns-in_default-clause-ok : goal.returns-in_default-clause-ok
returns-in_default-clause-ok c =
    let name = c.args.name.now in
    rw (is_other name (codes "cast") c.in_default.not-cast, is_other name (codes "wire") c.in_default.not-wire, is_other name (codes "hear") c.in_default.not-hear, is_other name (codes "plant") c.in_default.not-plant, is_other name (codes "link") c.in_default.not-link, is_other name (codes "step") c.in_default.not-step) c.read_of_histories.ensures.ok
