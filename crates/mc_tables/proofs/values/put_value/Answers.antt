use Rattle.std.proofs.Common.{rules}
use Rattle.mc_tables.proofs.values.put_value.Goals as goal

pub set_row-requires-clause-brought : goal.set_row-requires-clause-brought
set_row-requires-clause-brought g c = λ cids. let brought = c.requires.brought cids in search (brought, rules)
