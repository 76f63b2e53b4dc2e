use Rattle.std.proofs.Common.{rules, refl, subst, sym, ap}
use Rattle.std.specs.Prelude.{vec_len}
use Rattle.std.proofs.lemmas.Option.{slice_get_read}
use Rattle.mc_seats.specs.StepParts.{IsFlying}
use Rattle.mc_seats.specs.Words.{place}
use Rattle.mc_seats.specs.declared.seat.Seat.{Seat}
use Rattle.mc_seats.proofs.BeginFacts.{members}
use Rattle.mc_acts.proofs.StepInFacts.{acts_back, acts_done, acts_early, acts_short, flying, there_again}
use Rattle.mc_acts.proofs.stepping.step_in.Goals as goal

pub returns-in-Ok-Err : goal.returns-in-Ok-Err
returns-in-Ok-Err g c = record { acts = acts_early (members g.K.Keeper g.K.Counted) g.K.Desk.Counted.faults c.args.r c.args.world.now _ c.index_mut.result.now c.begin_at.new.seat (slice_get_read c.args.world.now.seats.items (vec_len c.args.world.now.seats) c.args.r c.index_mut.result.now (search rules) c.requires.there c.index_mut.ensures.value) refl refl refl refl c.in-Ok-Err.field-0 c.in-Ok-Err.reply c.in-Ok-Err.field-0-is c.in-Ok-Err.ensures.begins }

pub returns-in-Err : goal.returns-in-Err
returns-in-Err g c = record { acts = acts_short (members g.K.Keeper g.K.Counted) g.K.Desk.Counted.faults c.args.r c.args.world.now _ c.index_mut.result.now c.begin_at.new.seat (slice_get_read c.args.world.now.seats.items (vec_len c.args.world.now.seats) c.args.r c.index_mut.result.now (search rules) c.requires.there c.index_mut.ensures.value) refl refl refl refl c.in-Err.error c.in-Err.ensures.begins }

pub deliver_at-requires-clause-flying : goal.deliver_at-requires-clause-flying
deliver_at-requires-clause-flying g c =
    let begins = rw c.in-Ok-Ok.field-0-is at c.in-Ok-Ok.ensures.begins in
    subst (λ (seat : Seat _ _ _ _ _). IsFlying c.in-Ok-Ok.job.cid (place (members g.K.Keeper g.K.Counted) seat)) (sym (there_again c.args.world.now.seats.items c.find.new.world.seats.items c.args.r c.index_mut.result.now c.begin_at.new.seat c.index_mut-in-Ok.result.now (slice_get_read c.args.world.now.seats.items (vec_len c.args.world.now.seats) c.args.r c.index_mut.result.now (search rules) c.requires.there c.index_mut.ensures.value) (ap (λ v. v.items) c.in-Ok.ensures.same.seats_same) c.index_mut-in-Ok.ensures.value)) (flying c.in-Ok-Ok.job.cid _ _ begins.begins.0.begun)

pub give_back_at-requires : goal.give_back_at-requires
give_back_at-requires g c =
    let begins = rw c.in-Ok-Ok.field-0-is at c.in-Ok-Ok.ensures.begins in
    record { flying = subst (λ (seat : Seat _ _ _ _ _). IsFlying c.in-Ok-Ok.job.cid (place (members g.K.Keeper g.K.Counted) seat)) (sym (there_again c.args.world.now.seats.items c.find.new.world.seats.items c.args.r c.index_mut.result.now c.begin_at.new.seat c.index_mut-in-Err-find.result.now (slice_get_read c.args.world.now.seats.items (vec_len c.args.world.now.seats) c.args.r c.index_mut.result.now (search rules) c.requires.there c.index_mut.ensures.value) (ap (λ v. v.items) c.in-Err-find.ensures.same.seats_same) c.index_mut-in-Err-find.ensures.value)) (flying c.in-Ok-Ok.job.cid _ _ begins.begins.0.begun) }

pub returns-in-Ok : goal.returns-in-Ok
returns-in-Ok g c = record {
  acts = acts_done (members g.K.Keeper g.K.Counted) g.K.Desk.Counted.faults c.args.r c.args.world.now _ c.find.new.world _ c.index_mut.result.now c.begin_at.new.seat c.deliver_at.new.seat
      (record {
        stands = (slice_get_read c.args.world.now.seats.items (vec_len c.args.world.now.seats) c.args.r c.index_mut.result.now (search rules) c.requires.there c.index_mut.ensures.value);
        begun_seats = refl;
        begun_desks = refl;
        begun_bag = refl;
        begun_down = refl;
        begun_entries = refl;
        same = c.in-Ok.ensures.same;
        ended_seats = refl;
        ended_desks = refl;
        ended_bag = refl;
        ended_down = refl;
        ended_entries = refl;
      })
      c.in-Ok-Ok.job c.in-Ok-Ok.field-0 c.in-Ok-Ok.field-0-is c.in-Ok-Ok.ensures.begins c.in-Ok.ensures.desks _ _ c.index_mut-in-Ok.result.now
      (there_again c.args.world.now.seats.items c.find.new.world.seats.items c.args.r c.index_mut.result.now c.begin_at.new.seat c.index_mut-in-Ok.result.now (slice_get_read c.args.world.now.seats.items (vec_len c.args.world.now.seats) c.args.r c.index_mut.result.now (search rules) c.requires.there c.index_mut.ensures.value) (ap (λ v. v.items) c.in-Ok.ensures.same.seats_same) c.index_mut-in-Ok.ensures.value)
      c.in-Ok.ensures.found c.deliver_at.ensures.delivers;
}

pub returns-in-Err-find : goal.returns-in-Err-find
returns-in-Err-find g c = record {
  acts = acts_back (members g.K.Keeper g.K.Counted) g.K.Desk.Counted.faults c.args.r c.args.world.now _ c.find.new.world _ c.index_mut.result.now c.begin_at.new.seat c.give_back_at.new.seat
      (record {
        stands = (slice_get_read c.args.world.now.seats.items (vec_len c.args.world.now.seats) c.args.r c.index_mut.result.now (search rules) c.requires.there c.index_mut.ensures.value);
        begun_seats = refl;
        begun_desks = refl;
        begun_bag = refl;
        begun_down = refl;
        begun_entries = refl;
        same = c.in-Err-find.ensures.same;
        ended_seats = refl;
        ended_desks = refl;
        ended_bag = refl;
        ended_down = refl;
        ended_entries = refl;
      })
      c.in-Ok-Ok.job c.in-Ok-Ok.field-0 c.in-Ok-Ok.field-0-is c.in-Ok-Ok.ensures.begins c.in-Err-find.ensures.desks c.in-Err-find.error c.index_mut-in-Err-find.result.now _
      (there_again c.args.world.now.seats.items c.find.new.world.seats.items c.args.r c.index_mut.result.now c.begin_at.new.seat c.index_mut-in-Err-find.result.now (slice_get_read c.args.world.now.seats.items (vec_len c.args.world.now.seats) c.args.r c.index_mut.result.now (search rules) c.requires.there c.index_mut.ensures.value) (ap (λ v. v.items) c.in-Err-find.ensures.same.seats_same) c.index_mut-in-Err-find.ensures.value)
      c.given_up.ensures c.in-Err-find.ensures.failed c.in-Err-find.ensures.lacks c.give_back_at.ensures.backs;
}
