use Rattle.mc_seats.proofs.BeginFacts.{members}
use Rattle.mc_seats.proofs.DeliverFacts.{backs}
use Rattle.mc_seats.proofs.jobs.give_back.Goals as goal

pub returns : goal.returns
returns g c = record { backs = λ planted. backs (members g.K.Keeper g.K.Counted) planted _ _ c.args.cid c.give_back.ensures.goes c.give_back.ensures.keeper c.give_back.ensures.stops c.give_back.ensures.rest c.give_back.ensures.wants c.requires.flying }
