use Rattle.std.proofs.Common.{◌∙◌, ◌++◌, ◌∷◌, [], ap, sym}
use Rattle.mc_seats.specs.StepParts.{desks_in_views}
use Rattle.mc_seats.proofs.BeginFacts.{members}
use Rattle.mc_seats.proofs.PeerFacts.{ask_none, asked_one, offered_one}
use Rattle.mc_seats.proofs.peers.ask_desk.Goals as goal

pub returns-clause-offer : goal.returns-clause-offer
returns-clause-offer g c = offered_one (members g.K.Keeper g.K.Counted) _ _ _ c.new-fetch.result.views.items c.view_of.result _
    (c.new-fetch.ensures ∙ c.from_vec.ensures ∙ c.push_reserved.ensures.items ∙ ap (λ l. l ++ c.view_of.result ∷ []) c.in-Ok.ensures.items) c.view_of.ensures.keeper c.view_of.ensures.planted c.first_match-found.ensures.found

pub returns-clause-desks : goal.returns-clause-desks
returns-clause-desks g c = asked_one (members g.K.Keeper g.K.Counted) g.K.Desk.Counted.faults _ _ c.new-fetch.result.views.items c.first_match-found.new.fetch.views.items c.view_of.result c.desk_of.result c.take_first-desk.result.1.items _ _
    (c.new-fetch.ensures ∙ c.from_vec.ensures ∙ c.push_reserved.ensures.items ∙ ap (λ l. l ++ c.view_of.result ∷ []) c.in-Ok.ensures.items) c.view_of.ensures.keeper c.first_match-found.ensures.asks.followed
    c.first_match-found.ensures.asks.faults_go (ap desks_in_views (sym c.end.ensures) ∙ c.desk_of.ensures) (c.take_first-desk.ensures.taken ∙ ap (λ d. d ∷ c.take_first-desk.result.1.items) (sym c.view_of.ensures.desk)) c.put_first.ensures

pub returns-in_default-clause-desks : goal.returns-in_default-clause-desks
returns-in_default-clause-desks g c = ask_none (members g.K.Keeper g.K.Counted) g.K.Desk.Counted.faults _ _
