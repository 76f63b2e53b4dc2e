use Rattle.std.proofs.Common.{◌∙◌, ap, length, refl, sym}
use Rattle.mc_seats.specs.Desked.{desk_sums}
use Rattle.mc_seats.proofs.BeginFacts.{members}
use Rattle.mc_seats.proofs.DeskedFacts.{counts_long}
use Rattle.mc_seats.proofs.PeerFacts.{all_still, still_desked}
use Rattle.mc_acts.proofs.stepping.find.Goals as goal

pub returns-in-Some-clause-desks : goal.returns-in-Some-clause-desks
returns-in-Some-clause-desks g c = all_still (members g.K.Keeper g.K.Counted) g.K.Desk.Counted.faults _ _

pub recount-requires : goal.recount-requires
recount-requires g c = counts_long g.K.Desk.Counted.faults _ _ _ c.args.world.now.desks.items _ c.args.world.now.counted refl c.args.world.now.desked (still_desked (members g.K.Keeper g.K.Counted) g.K.Desk.Counted.faults _ _ _ _ c.find_among-found.ensures.desks c.args.world.now.desked)
    ∙ ap length (sym c.as_slice-2.ensures.value)

pub invariant_of-world : goal.invariant_of-world
invariant_of-world g c = record {
  desked = still_desked (members g.K.Keeper g.K.Counted) g.K.Desk.Counted.faults _ _ _ _ c.find_among-found.ensures.desks c.args.world.now.desked;
  counted = c.recount.ensures ∙ ap (desk_sums g.K.Desk.Counted.faults) c.as_slice-2.ensures.value;
  empty = c.args.world.now.empty;
  roomy = c.args.world.now.roomy;
}
