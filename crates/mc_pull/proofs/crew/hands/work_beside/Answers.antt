use Rattle.std.proofs.Common.{◌≡◌, None, ◌∙◌, subst, sym}
use Rattle.mc_fetch.specs.Frame.{AsksAt}
use Rattle.mc_turn.specs.Seats.{IsSeatOf}
use Rattle.mc_worker.specs.Ends.{is_peer}
use Rattle.mc_node.specs.Entries.{IsSealedOf}
use Rattle.mc_pull.specs.Hands.{HasRun}
use Rattle.mc_pull.proofs.Left.{calm_itself, hands_calm, hands_left, hands_rose, left_itself, lists_left, lists_rose, zip_second}
use Rattle.mc_pull.proofs.crew.hands.work_beside.Goals as goal

pub returns-in_default-clause-left : goal.returns-in_default-clause-left
returns-in_default-clause-left g c = left_itself _ c.fetches_follow.ensures.itself _

pub returns-in_default-clause-calm : goal.returns-in_default-clause-calm
returns-in_default-clause-calm g c = λ e. calm_itself _ c.fetches_follow.ensures.itself _

pub returns-in_default-with_capacity-clause-left : goal.returns-in_default-with_capacity-clause-left
returns-in_default-with_capacity-clause-left g c = left_itself _ c.fetches_follow.ensures.itself _

pub returns-in_default-with_capacity-clause-calm : goal.returns-in_default-with_capacity-clause-calm
returns-in_default-with_capacity-clause-calm g c = λ e. calm_itself _ c.fetches_follow.ensures.itself _

pub returns-clause-sealed : goal.returns-clause-sealed
returns-clause-sealed g c = λ replica sealed. c.release-failed.ensures.sealed replica (subst (λ log. IsSealedOf replica log) (sym c.hire.ensures.seen) sealed)

pub returns-clause-left : goal.returns-clause-left
returns-clause-left g c = lists_left _ c.hire.ensures.fetches c.release-failed.ensures.fetches
    (hands_left _ (λ old new. HasRun (IsSeatOf c.args.node.now.turn new.seat.seat.seat) new.seat.out (AsksAt g.F.Fetch.offers g.F.Fetch.leading g.F.Fetch.places g.F.Fetch.quiet g.F.Counted.faults g.F.Fetch.follows (is_peer new.end) old.fetch new.fetch)) (λ hand. hand.fetch) (λ hand. hand.end) (λ old new r. r.asked) _ _ c.run.ensures.ran)

pub returns-clause-calm : goal.returns-clause-calm
returns-clause-calm g c = λ none. lists_left _ c.hire.ensures.fetches c.release-failed.ensures.fetches
    (hands_calm _ (λ old new. HasRun (IsSeatOf c.args.node.now.turn new.seat.seat.seat) new.seat.out (AsksAt g.F.Fetch.offers g.F.Fetch.leading g.F.Fetch.places g.F.Fetch.quiet g.F.Counted.faults g.F.Fetch.follows (is_peer new.end) old.fetch new.fetch)) (λ hand. hand.fetch) (λ hand. hand.end) (λ old new r. r.asked) _ _ c.run.ensures.ran (sym c.release-failed.ensures.failed ∙ none))

pub returns-clause-peer : goal.returns-clause-peer
returns-clause-peer g c = λ some. lists_rose _ c.hire.ensures.fetches c.release-failed.ensures.fetches
    (hands_rose _ (λ old new. HasRun (IsSeatOf c.args.node.now.turn new.seat.seat.seat) new.seat.out (AsksAt g.F.Fetch.offers g.F.Fetch.leading g.F.Fetch.places g.F.Fetch.quiet g.F.Counted.faults g.F.Fetch.follows (is_peer new.end) old.fetch new.fetch)) (λ hand. hand.fetch) (λ hand. hand.end) (λ old new r. r.asked) _ _ c.run.ensures.ran (sym c.release-failed.ensures.failed ∙ some))

pub release-failed-requires-clause-owned : goal.release-failed-requires-clause-owned
release-failed-requires-clause-owned g c = zip_second (λ old new. HasRun (IsSeatOf c.args.node.now.turn new.seat.seat.seat) new.seat.out (AsksAt g.F.Fetch.offers g.F.Fetch.leading g.F.Fetch.places g.F.Fetch.quiet g.F.Counted.faults g.F.Fetch.follows (is_peer new.end) old.fetch new.fetch)) (λ hand. IsSeatOf c.args.node.now.turn hand.seat.seat.seat × (hand.seat.out ≡ None)) (λ old new r. (r.own, r.idle)) _ _ c.run.ensures.ran
