use Rattle.std.proofs.Common.{Option, subst, sym}
use Rattle.mc_node.specs.declared.note.Note.{Note}
use Rattle.mc_node.specs.Entries.{AddsEntry}
use Rattle.mc_node.proofs.CallFacts.{entry_added}
use Rattle.mc_node.proofs.stored.entries.note.Goals as goal

pub returns-in-Some-clause-adds : goal.returns-in-Some-clause-adds
returns-in-Some-clause-adds g c =
    subst (λ (note : Option Note). AddsEntry note c.args.replica.now c.args.log.now.items c.add.new.log.items) (sym c.in-Some.is)
    (entry_added c.in-Some.note c.about.result c.args.replica.now _ _ c.about.ensures.note c.about.ensures.replica c.add.ensures)
