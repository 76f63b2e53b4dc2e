use Rattle.std.proofs.Common.{sym, ◌∙◌, ap}
use Rattle.mc_base.specs.declared.cid.Cid.{Cid}
use Rattle.std.specs.Prelude.{List}
use Rattle.mc_inbox.specs.Waiting.{as_stored}
use Rattle.mc_keep.proofs.Frames.{read_itself}
use Rattle.mc_model.specs.Graph.{has}
use Rattle.mc_group.proofs.StoringFacts.{new_comes, seen_stays}
use Rattle.mc_group.proofs.storing.add_new.Goals as goal

pub returns-then-contains-clause-stores : goal.returns-then-contains-clause-stores
returns-then-contains-clause-stores g c = seen_stays _ c.args.stores.now (as_stored c.args.block) (ap (has c.args.block.cid) (sym c.requires.seen) ∙ sym c.contains.ensures ∙ c.if-contains.true)

pub returns-then-contains-clause-reads : goal.returns-then-contains-clause-reads
returns-then-contains-clause-reads g c = read_itself c.args.keeper.now

pub returns-clause-stores : goal.returns-clause-stores
returns-clause-stores g c =
    new_comes _ c.args.stores.now c.push_new.new.stores (as_stored c.args.block) _ (ap (has c.args.block.cid) (sym c.requires.seen) ∙ sym c.contains.ensures ∙ c.if-contains.false) c.if-branch.false c.in_ok-is_stored.ensures.found c.in_ok-push_new.ensures.stores
