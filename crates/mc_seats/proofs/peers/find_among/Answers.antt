use Rattle.std.proofs.Common.{rules, refl, ap}
use Rattle.std.proofs.lemmas.Option.{slice_get_read}
use Rattle.mc_seats.proofs.BeginFacts.{members}
use Rattle.mc_seats.proofs.PeerFacts.{asking_desks, asking_ends, asking_failed, asking_none, asking_past, asking_some, asking_starts, desk_there, full_there}
use Rattle.mc_seats.proofs.peers.find_among.Goals as goal
use Rattle.mc_seats.proofs.peers.find_among.Goals.{then-is_peer+in-Ok-None, else-is_peer}

pub loop-at-init : goal.loop-at-init
loop-at-init g c = asking_starts (members g.K.Keeper g.K.Counted) g.K.Desk.Counted.faults c.args.down.now c.args.r c.args.cid.now c.args.seats.now c.args.desks.now.items c.args.desks.now.items 0 c.requires.desked

pub ask_peer-requires : goal.ask_peer-requires
ask_peer-requires g c = record { full = full_there _ c.loop-at.at c.loop-at.desks.items c.index_mut.result.now c.loop-at.invariant.desked (desk_there _ c.loop-at.at c.loop-at.desks.items c.index_mut.result.now c.loop-at.invariant.desked (search (rules, c.loop-at-test.true)) c.index_mut.ensures.value) }

pub returns-in-Ok-Some-clause-found : goal.returns-in-Ok-Some-clause-found
returns-in-Ok-Some-clause-found g c =
    let offered = rw c.in-Ok-Some.field-0-is at c.in-Ok-Some.ensures.offer in
    asking_some (members g.K.Keeper g.K.Counted) g.K.Desk.Counted.faults c.args.down.now c.args.r c.args.cid.now c.args.seats.now c.args.desks.now.items c.loop-at.desks.items c.loop-at.at c.loop-at.invariant c.index-seats-at.result
    (slice_get_read c.args.seats.now _ c.loop-at.at c.index-seats-at.result refl (search (rules, c.loop-at-test.true)) c.index-seats-at.is)
    c.index_mut.result.now c.ask_peer.new.desks _ (desk_there _ c.loop-at.at c.loop-at.desks.items c.index_mut.result.now c.loop-at.invariant.desked (search (rules, c.loop-at-test.true)) c.index_mut.ensures.value)
    c.in-Ok-Some.ensures.desks c.is_peer.result c.is_peer.ensures c.if-is_peer.true c.in-Ok-Some.bytes offered

pub returns-in-Ok-Some-clause-desks : goal.returns-in-Ok-Some-clause-desks
returns-in-Ok-Some-clause-desks g c = asking_desks (members g.K.Keeper g.K.Counted) g.K.Desk.Counted.faults c.args.down.now c.args.r c.args.cid.now c.args.seats.now c.args.desks.now.items c.loop-at.desks.items c.loop-at.at c.loop-at.invariant c.index-seats-at.result
    (slice_get_read c.args.seats.now _ c.loop-at.at c.index-seats-at.result refl (search (rules, c.loop-at-test.true)) c.index-seats-at.is)
    c.index_mut.result.now c.ask_peer.new.desks _ (desk_there _ c.loop-at.at c.loop-at.desks.items c.index_mut.result.now c.loop-at.invariant.desked (search (rules, c.loop-at-test.true)) c.index_mut.ensures.value)
    c.in-Ok-Some.ensures.desks

pub returns-in-Err-clause-desks : goal.returns-in-Err-clause-desks
returns-in-Err-clause-desks g c = asking_desks (members g.K.Keeper g.K.Counted) g.K.Desk.Counted.faults c.args.down.now c.args.r c.args.cid.now c.args.seats.now c.args.desks.now.items c.loop-at.desks.items c.loop-at.at c.loop-at.invariant c.index-seats-at.result
    (slice_get_read c.args.seats.now _ c.loop-at.at c.index-seats-at.result refl (search (rules, c.loop-at-test.true)) c.index-seats-at.is)
    c.index_mut.result.now c.ask_peer.new.desks _ (desk_there _ c.loop-at.at c.loop-at.desks.items c.index_mut.result.now c.loop-at.invariant.desked (search (rules, c.loop-at-test.true)) c.index_mut.ensures.value)
    c.in-Err.ensures.desks

pub returns-in-Err-clause-failed : goal.returns-in-Err-clause-failed
returns-in-Err-clause-failed g c = asking_failed (members g.K.Keeper g.K.Counted) g.K.Desk.Counted.faults c.args.down.now c.args.r c.args.cid.now c.args.seats.now c.args.desks.now.items c.loop-at.desks.items c.loop-at.at c.loop-at.invariant c.index-seats-at.result
    (slice_get_read c.args.seats.now _ c.loop-at.at c.index-seats-at.result refl (search (rules, c.loop-at-test.true)) c.index-seats-at.is)
    c.index_mut.result.now c.ask_peer.new.desks _ (desk_there _ c.loop-at.at c.loop-at.desks.items c.index_mut.result.now c.loop-at.invariant.desked (search (rules, c.loop-at-test.true)) c.index_mut.ensures.value)
    c.in-Err.ensures.desks c.is_peer.result c.is_peer.ensures c.if-is_peer.true

pub loop-at-preserved : goal.loop-at-preserved
loop-at-preserved g c = elim c.if-is_peer.branch [
  | then-is_peer+in-Ok-None w ↦
      let offered = rw w.in-Ok-None.field-0-is at w.in-Ok-None.ensures.offer in
      asking_none (members g.K.Keeper g.K.Counted) g.K.Desk.Counted.faults c.args.down.now c.args.r c.args.cid.now c.args.seats.now c.args.desks.now.items c.loop-at.desks.items c.loop-at.at c.loop-at.invariant c.index-seats-at.result
      (slice_get_read c.args.seats.now _ c.loop-at.at c.index-seats-at.result refl (search (rules, c.loop-at-test.true)) c.index-seats-at.is)
      w.index_mut.result.now w.ask_peer.new.desks _ (desk_there _ c.loop-at.at c.loop-at.desks.items w.index_mut.result.now c.loop-at.invariant.desked (search (rules, c.loop-at-test.true)) w.index_mut.ensures.value)
      w.in-Ok-None.ensures.desks c.is_peer.result c.is_peer.ensures w.if-is_peer.true c.if-is_peer.desks.items (ap (λ v. v.items) w.desks-is) offered
  | else-is_peer w ↦
      asking_past (members g.K.Keeper g.K.Counted) g.K.Desk.Counted.faults c.args.down.now c.args.r c.args.cid.now c.args.seats.now c.args.desks.now.items c.loop-at.desks.items c.loop-at.at c.loop-at.invariant c.index-seats-at.result
      (slice_get_read c.args.seats.now _ c.loop-at.at c.index-seats-at.result refl (search (rules, c.loop-at-test.true)) c.index-seats-at.is)
      c.if-is_peer.desks.items (ap (λ v. v.items) w.desks-is) c.is_peer.result c.is_peer.ensures w.if-is_peer.false
]

pub returns-clause-found : goal.returns-clause-found
returns-clause-found g c = asking_ends (members g.K.Keeper g.K.Counted) g.K.Desk.Counted.faults c.args.down.now c.args.r c.args.cid.now c.args.seats.now c.args.desks.now.items c.loop-at.desks.items c.loop-at.at c.loop-at.invariant (search (rules, c.loop-at-test.false))
