use Rattle.mc_model.specs.State.{OpenBatch}
use Rattle.mc_write.specs.Held.{elements_in, deleted_in}
use Rattle.mc_write.specs.Pairs.{all_seen}
use Rattle.mc_write.proofs.BatchFacts.{deleted_told}
use Rattle.mc_write.proofs.batch.Batch.delete.Goals as goal

pub returns-clause-ok : goal.returns-clause-ok
returns-clause-ok g c =
    let old : OpenBatch = record { elements = elements_in c.self.inside.elements.entries; pairs = deleted_in c.self.inside.dropped.entries } in
    let new : OpenBatch = record { elements = elements_in c.drop_element.new.elements.entries; pairs = deleted_in c.add_pairs.new.dropped.entries } in
    let elements = rw c.as_str-3.ensures.text at c.drop_element.ensures.elements in
    let pairs = rw (c.as_slice.ensures.value, c.as_str-2.ensures.text) at c.in_ok-add_pairs.ensures.ok in
    let found = rw c.as_str.ensures.text at c.in_ok-pairs.ensures.row in
    rw (← c.self.view_is) (deleted_told (g.K.Keeper.told c.args.keeper.now) c.args.key.now old new (all_seen c.in_ok-pairs.pairs.items) found elements pairs)
