use Rattle.mc_seats.proofs.BeginFacts.{members}
use Rattle.mc_seats.proofs.DeliverFacts.{delivers_broke, delivers_ok}
use Rattle.mc_seats.proofs.jobs.deliver.Goals as goal

pub returns-in-Ok : goal.returns-in-Ok
returns-in-Ok g c = record { delivers = λ planted. delivers_ok (members g.K.Keeper g.K.Counted) planted _ _ c.args.cid _ c.in-Ok.delivered _ c.reply_to.ensures c.in-Ok.ensures.call c.in-Ok.ensures.keeps c.in-Ok.ensures.rest }

pub returns-in-Err : goal.returns-in-Err
returns-in-Err g c = record { delivers = λ planted. delivers_broke (members g.K.Keeper g.K.Counted) planted _ _ c.args.cid _ c.in-Err.error _ c.answer.ensures c.requires.flying c.in-Err.ensures.call c.in-Err.ensures.keeps c.in-Err.ensures.seen c.in-Err.ensures.front c.in-Err.ensures.rest }
