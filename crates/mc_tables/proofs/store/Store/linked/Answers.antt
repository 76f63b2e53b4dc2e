use Rattle.std.proofs.Common.{◌∙◌, ap, not, sym}
use Rattle.mc_tables.specs.Fits.{kept_in}
use Rattle.mc_tables.proofs.LinkFacts.{linked_at_gap, linked_at_head}
use Rattle.mc_tables.proofs.store.Store.linked.Goals as goal

pub returns-then-is_processed : goal.returns-then-is_processed
returns-then-is_processed g c =
    ap not c.has_head.ensures
    ∙ linked_at_head (kept_in c.args.self.now.tables) c.args.cid.now _ (c.args.self.now.fits.heads c.args.cid.now) (sym c.is_processed.ensures ∙ c.if-is_processed.true)

pub returns : goal.returns
returns g c = linked_at_gap (kept_in c.args.self.now.tables) c.args.cid.now _ (c.has_cid.ensures ∙ c.args.self.now.fits.gaps c.args.cid.now) (sym c.is_processed.ensures ∙ c.if-is_processed.false)
