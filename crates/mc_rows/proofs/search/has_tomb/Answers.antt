use Rattle.std.proofs.Common.{◌∙◌}
use Rattle.mc_rows.specs.declared.tombs.NewTomb.{NewTomb}
use Rattle.mc_rows.proofs.Finds.{tomb_found}
use Rattle.mc_rows.proofs.search.has_tomb.Goals as goal

pub returns : goal.returns
returns c =
    let sought : NewTomb = record { key = c.args.key; id = c.args.id } in
    c.is_ok.ensures.value ∙ tomb_found c.args.tombs.now sought c.binary_search.result c.requires c.binary_search.ensures.bound c.binary_search.ensures.position
