-- A group without a tombstone of the key has none that names a block.
use Rattle.std.proofs.Common.{ap, sym, ◌∙◌}
use Rattle.mc_model.specs.Id.{id_text}
use Rattle.mc_keep.specs.Changes.{has_tomb_row}
use Rattle.mc_rows.specs.Rows.{tombs_of}
use Rattle.mc_rows.proofs.Lives.{no_tomb_row}
use Rattle.mc_rows.proofs.live.is_named.Goals as goal

pub returns-then-not-has_tomb_with : goal.returns-then-not-has_tomb_with
returns-then-not-has_tomb_with c = sym (no_tomb_row (tombs_of c.args.tombs.now) c.args.key.now (id_text c.args.cid.now.0) (sym c.if-not-has_tomb_with.ensures))

pub returns : goal.returns
returns c = c.has_tomb.ensures ∙ ap (has_tomb_row (tombs_of c.args.tombs.now) c.args.key.now) (c.as_str.ensures ∙ c.in_ok-id.ensures)
