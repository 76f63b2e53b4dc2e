use Rattle.std.proofs.Common.{sym}
use Rattle.mc_model.specs.Id.{id_text}
use Rattle.mc_tables.proofs.live.is_hidden.Goals as goal

pub returns-then-not-has_key : goal.returns-then-not-has_key
returns-then-not-has_key g c = sym (c.has_key.ensures c.if-not-has_key.true (id_text c.args.cid.now.0))
