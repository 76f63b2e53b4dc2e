use Rattle.mc_seats.proofs.MemberWords.{members}
use Rattle.mc_seats.proofs.MigrateFacts.{not_migrated, opened_migrated, own_migrated, refused_migrated}
use Rattle.mc_seats.proofs.parting.open_part.Goals as goal

pub returns-in-Ok-clause-opened : goal.returns-in-Ok-clause-opened
returns-in-Ok-clause-opened g c = opened_migrated _ _ c.args.part _ c.requires.fresh.no_fuse c.in-Ok.ensures.same c.in-Ok.ensures.goes _ c.in-Ok.ensures.opened c.in-Ok.ensures.runs c.in-Ok.ensures.fresh c.add_desks.ensures.seated

pub returns-in-Ok-clause-back : goal.returns-in-Ok-clause-back
returns-in-Ok-clause-back g c = refused_migrated (members g.K.Keeper g.K.Counted) c.args.part _ c.requires.fresh.no_fuse c.in-Ok.ensures.same c.in-Ok.ensures.goes _ c.add_desks.ensures.back

pub returns-in-Ok-clause-own : goal.returns-in-Ok-clause-own
returns-in-Ok-clause-own g c = own_migrated (members g.K.Keeper g.K.Counted) c.args.part _ c.requires.fresh.no_fuse c.in-Ok.ensures.same c.in-Ok.ensures.goes _ c.add_desks.ensures.own

pub returns-in-Err-clause-back : goal.returns-in-Err-clause-back
returns-in-Err-clause-back g c = not_migrated _ _ _ _ c.requires.fresh.no_fuse c.in-Err.ensures.refused.0 c.in-Err.ensures.refused.1
