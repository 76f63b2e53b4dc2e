use Rattle.std.proofs.Common.{◌∙◌, ap, length, refl, sym}
use Rattle.std.specs.List.{insert}
use Rattle.mc_seats.specs.Desked.{desk_sums}
use Rattle.mc_seats.proofs.BeginFacts.{members}
use Rattle.mc_seats.proofs.DeskedFacts.{counts_long}
use Rattle.mc_world.proofs.DeskedFacts.{desked_again, others_desked, written_back}
use Rattle.mc_world.proofs.PulledFacts.{repair_acts, repair_short}
use Rattle.mc_seats.proofs.SeatFacts.{same_length, still_roomy}
use Rattle.mc_world.proofs.pulling.repair_in.Goals as goal

pub repair_seat-seat-requires-clause-desked : goal.repair_seat-seat-requires-clause-desked
repair_seat-seat-requires-clause-desked g c κs within = others_desked c.args.workers c.requires.few (members g.K.Keeper g.K.Counted) _ c.args.r c.args.world.now.seats.items _ c.take_at-seat.result c.args.world.now.desks.items _ c.args.world.now.desked c.take_at-seat.ensures.taken (c.as_slice.ensures.value ∙ c.take_at-seat.ensures.items) (c.as_mut_slice.ensures.value ∙ c.take_at-list.ensures.items)

pub recount-requires : goal.recount-requires
recount-requires g c =
    counts_long g.K.Desk.Counted.faults _ _ _ c.args.world.now.desks.items c.put_at.new.things.items c.args.world.now.counted (same_length _ _ _ _ _ _ c.take_at-seat.ensures.taken c.take_at-seat.ensures.items c.put_at-2.ensures) c.args.world.now.desked
    (desked_again c.args.world.now.seats.items c.take_at-seat.new.things.items c.put_at-2.new.things.items c.take_at-seat.result c.repair_seat-seat.result.0 c.args.r c.args.world.now.desks.items c.as_mut_slice.result.now c.repair_seat-seat.new.desks c.put_at.new.things.items c.take_at-list.result
    c.args.world.now.desked c.take_at-seat.ensures.taken c.take_at-seat.ensures.items c.put_at-2.ensures c.take_at-list.ensures.taken (c.as_mut_slice.ensures.value ∙ c.take_at-list.ensures.items) c.repair_seat-seat.ensures.long (written_back c.as_mut_slice.result.now c.repair_seat-seat.new.desks c.take_at-list.new.things.items c.put_at.new.things.items c.take_at-list.new.things.len c.args.r c.take_at-list.result c.repair_seat-seat.ensures.long c.as_mut_slice.ensures.value c.take_at-list.new.things.ok.0 c.put_at.ensures))
    ∙ ap length (sym c.as_slice-3.ensures.value)

pub invariant_of-world : goal.invariant_of-world
invariant_of-world g c = record {
  desked = desked_again c.args.world.now.seats.items c.take_at-seat.new.things.items c.put_at-2.new.things.items c.take_at-seat.result c.repair_seat-seat.result.0 c.args.r c.args.world.now.desks.items c.as_mut_slice.result.now c.repair_seat-seat.new.desks c.put_at.new.things.items c.take_at-list.result
      c.args.world.now.desked c.take_at-seat.ensures.taken c.take_at-seat.ensures.items c.put_at-2.ensures c.take_at-list.ensures.taken (c.as_mut_slice.ensures.value ∙ c.take_at-list.ensures.items) c.repair_seat-seat.ensures.long (written_back c.as_mut_slice.result.now c.repair_seat-seat.new.desks c.take_at-list.new.things.items c.put_at.new.things.items c.take_at-list.new.things.len c.args.r c.take_at-list.result c.repair_seat-seat.ensures.long c.as_mut_slice.ensures.value c.take_at-list.new.things.ok.0 c.put_at.ensures);
  counted = c.recount.ensures ∙ ap (desk_sums g.K.Desk.Counted.faults) c.as_slice-3.ensures.value;
  empty = c.args.world.now.empty;
  roomy = still_roomy _ _ _ (same_length _ _ _ _ _ _ c.take_at-seat.ensures.taken c.take_at-seat.ensures.items c.put_at-2.ensures) c.args.world.now.roomy;
}

pub returns-in-Ok : goal.returns-in-Ok
returns-in-Ok g c = record { acts = repair_acts (members g.K.Keeper g.K.Counted) g.K.Desk.Counted.faults c.args.r c.args.workers c.args.world.now _ c.take_at-list.result c.repair_seat-seat.new.desks c.take_at-list.ensures.taken (written_back c.as_mut_slice.result.now c.repair_seat-seat.new.desks c.take_at-list.new.things.items c.put_at.new.things.items c.take_at-list.new.things.len c.args.r c.take_at-list.result c.repair_seat-seat.ensures.long c.as_mut_slice.ensures.value c.take_at-list.new.things.ok.0 c.put_at.ensures) refl refl c.take_at-seat.new.things.items c.take_at-seat.result c.repair_seat-seat.result.0 c.take_at-seat.ensures.taken c.take_at-seat.ensures.items c.put_at-2.ensures c.as_mut_slice.result.now (c.as_mut_slice.ensures.value ∙ c.take_at-list.ensures.items) c.in-Ok.repaired c.repaired_answer.result c.repaired_answer.ensures (rw (c.as_slice.ensures.value, c.as_slice-2.ensures.value, c.in-Ok.is) at c.repair_seat-seat.ensures.pulls) }

pub returns-in-Err : goal.returns-in-Err
returns-in-Err g c = record { acts = repair_short (members g.K.Keeper g.K.Counted) g.K.Desk.Counted.faults c.args.r c.args.workers c.args.world.now _ c.take_at-list.result c.repair_seat-seat.new.desks c.take_at-list.ensures.taken (written_back c.as_mut_slice.result.now c.repair_seat-seat.new.desks c.take_at-list.new.things.items c.put_at.new.things.items c.take_at-list.new.things.len c.args.r c.take_at-list.result c.repair_seat-seat.ensures.long c.as_mut_slice.ensures.value c.take_at-list.new.things.ok.0 c.put_at.ensures) refl refl c.as_slice.result.now c.take_at-seat.result c.repair_seat-seat.result.0 c.take_at-seat.ensures.taken (c.as_slice.ensures.value ∙ c.take_at-seat.ensures.items) (c.put_at-2.ensures ∙ ap (λ l. insert l c.args.r c.repair_seat-seat.result.0) (sym c.as_slice.ensures.value)) (rw c.in-Err.is at c.repair_seat-seat.ensures.same).0 ((rw c.in-Err.is at c.repair_seat-seat.ensures.same).1 ∙ (c.as_mut_slice.ensures.value ∙ c.take_at-list.ensures.items)) }
