use Rattle.mc_app.proofs.ExecuteFacts.{answered, cut_short, longer, still_goes}
use Rattle.mc_app.proofs.KeepingFacts.{fused_members}
use Rattle.std.proofs.Common.{List, subst, sym}
use Rattle.std.specs.Prelude.{OnOk}
use Rattle.mc_past.specs.declared.past.Past.{Past}
use Rattle.mc_seats.specs.Pasts.{PastsFit}
use Rattle.mc_seats.specs.Words.{state}
use Rattle.mc_app.proofs.PastsFacts.{fits_after, written_back}
use Rattle.mc_seats.proofs.MemberWords.{members}
use Rattle.mc_app.proofs.execute.act_on.Goals as goal

pub returns-clause-answered : goal.returns-clause-answered
returns-clause-answered g c = answered _ _ _ _ _ _ c.act.ensures.line c.act.ensures.goes

pub returns-clause-short : goal.returns-clause-short
returns-clause-short g c = λ is. cut_short _ _ _ _ _ (c.act.ensures.short is) (still_goes _ _ _ _ _ _ _ is c.act.ensures.goes)

pub returns-clause-fits : goal.returns-clause-fits
returns-clause-fits g c =
    subst (λ (pasts : List Past). OnOk c.act.result (PastsFit (state (fused_members (members g.K.Keeper g.K.Counted)) g.K.Desk.Counted.faults c.act.new.world) pasts))
    (sym (written_back _ c.act.new.pasts c.args.pasts.now.items c.args.pasts.now.len c.requires.fits c.act.ensures.fits c.args.pasts.now.ok.0))
    (fits_after c.kept_is_durable.ensures.back c.pasts_stay_fit.ensures c.runs_only_grow.ensures.step (fused_members (members g.K.Keeper g.K.Counted)) g.K.Desk.Counted.faults c.args.command.now _ _ _ _ c.is_sound.ensures c.act.ensures.line c.act.ensures.fits)

pub returns-clause-entries : goal.returns-clause-entries
returns-clause-entries g c = longer _ _ _ _ _ _ c.act.ensures.line c.act.ensures.bad c.act.ensures.short
