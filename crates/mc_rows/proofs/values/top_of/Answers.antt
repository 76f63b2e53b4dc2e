use Rattle.std.proofs.Common.{◌∙◌, sym, ap}
use Rattle.mc_rows.proofs.Held.{no_value, both_told}
use Rattle.mc_rows.proofs.values.top_of.Goals as goal

pub returns-in_default-clause-top : goal.returns-in_default-clause-top
returns-in_default-clause-top g c = no_value (g.K.Keeper.told c.args.keeper.now) c.args.key.now c.in_ok-value.field-0 c.in_default.not-Some c.in_ok-value.ensures.row

pub returns-in-Ok-Some-clause-top : goal.returns-in-Ok-Some-clause-top
returns-in-Ok-Some-clause-top g c =
    both_told (g.K.Keeper.told c.args.keeper.now) (g.K.Keeper.layout c.value.new.self) c.args.key.now c.in_ok-value.field-0 c.in-Ok-Some.field-0 c.in-Some.value c.in-Ok-Some.cid
    (c.in_ok-value.ensures.reads.layout_same ∙ c.requires.two) c.in-Some.is c.in-Ok-Some.field-0-is c.in_ok-value.ensures.row
    (rw c.in_ok-value.ensures.reads.told_same at c.in-Ok-Some.ensures.row)
