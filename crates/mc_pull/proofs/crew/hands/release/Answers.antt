use Rattle.std.proofs.Common.{◌≡◌, None, ◌∙◌, ◌++◌, ◌∷◌, [], ◌||◌, ap, arith}
use Rattle.mc_turn.specs.Seats.{IsSeatOf}
use Rattle.mc_worker.specs.Ends.{is_peer}
use Rattle.mc_pull.proofs.Hiring.{releasing_mine, releasing_on, releasing_start}
use Rattle.mc_pull.proofs.crew.hands.release.Goals as goal

pub loop-hand-init : goal.loop-hand-init
loop-hand-init g c = releasing_start _ _ _ _ _ _ (λ hand. IsSeatOf c.args.node.now.turn hand.seat.seat.seat × (hand.seat.out ≡ None)) _ _ _ c.into_iter-rest.ensures.rest c.requires.own (λ replica sealed. sealed) c.requires.owned c.requires.empty c.requires.room

pub join-requires : goal.join-requires
join-requires g c = record {
  own = (c.loop-hand.invariant.own, ap (λ s. s.seat.seat.table_id) c.freed-other.ensures.seat ∙ (releasing_mine _ _ _ _ _ _ _ _ _ _ _ c.loop-hand.invariant c.in-Some.hand _ c.in-Some.ensures.items).0);
}

pub loop-hand-preserved : goal.loop-hand-preserved
loop-hand-preserved g c =
    releasing_on _ _ _ _ _ _ _ _ _ _ _ c.loop-hand.invariant c.in-Some.hand _ _ _ _ _ _ c.in-Some.ensures.items c.join.ensures.own (λ replica sealed. c.join.ensures.sealed replica (c.loop-hand.invariant.stays replica sealed))
    (c.push_reserved.ensures.items ∙ ap (λ x. c.loop-hand.fetches.items ++ x ∷ []) c.freed-other.ensures.fetch) (omega (arith, c.push_reserved.ensures.capacity))
    (c.noted-failed.ensures ∙ ap (λ e. c.loop-hand.failed || is_peer e) c.freed-other.ensures.end)

pub freed-other-requires : goal.freed-other-requires
freed-other-requires g c = record { idle = (releasing_mine _ _ _ _ _ _ _ _ _ _ _ c.loop-hand.invariant c.in-Some.hand _ c.in-Some.ensures.items).1 }
