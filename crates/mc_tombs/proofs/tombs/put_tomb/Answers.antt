use Rattle.mc_tombs.proofs.OnOk.{on_ok}
use Rattle.mc_tombs.proofs.TombFacts.{tomb_put_at}
use Rattle.mc_tombs.proofs.tombs.put_tomb.Goals as goal

pub invariant_of-tombs : goal.invariant_of-tombs
invariant_of-tombs g c =
    let put = tomb_put_at c.args.tombs.now.keys.keys c.args.tombs.now.ids.keys c.number-key.new.texts.keys c.number-id.new.texts.keys c.args.tombs.now.pairs.keys c.insert-added.new.self.keys c.args.key c.args.id
    c.number-key.result c.number-id.result c.number-key.ensures.texts c.number-key.ensures.number c.number-id.ensures.texts c.number-id.ensures.number c.args.tombs.now.numbers
    (on_ok _ c.insert-added.result (c.insert-added.ensures.succeeds c.requires.pairs_room) c.insert-added.ensures.updates).0 in
    record { numbers = put.numbers }

pub returns-clause-tombs : goal.returns-clause-tombs
returns-clause-tombs g c =
    let put = tomb_put_at c.args.tombs.now.keys.keys c.args.tombs.now.ids.keys c.number-key.new.texts.keys c.number-id.new.texts.keys c.args.tombs.now.pairs.keys c.insert-added.new.self.keys c.args.key c.args.id
    c.number-key.result c.number-id.result c.number-key.ensures.texts c.number-key.ensures.number c.number-id.ensures.texts c.number-id.ensures.number c.args.tombs.now.numbers
    (on_ok _ c.insert-added.result (c.insert-added.ensures.succeeds c.requires.pairs_room) c.insert-added.ensures.updates).0 in
    put.tombs
