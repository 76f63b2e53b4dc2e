use Rattle.std.proofs.Common.{false}
use Rattle.std.proofs.lemmas.Map.Text.{btree_set_updates_text}
use Rattle.mc_tables.proofs.order.drop_key.Goals as goal

pub returns : goal.returns
returns c = btree_set_updates_text c.args.key.now c.args.ordered.now c.remove.new.self false c.remove.ensures.updates
