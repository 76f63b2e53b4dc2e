use Rattle.std.proofs.Common.{◌≡◌, ◌∙◌, ◌++◌, arith, length, ap}
use Rattle.mc_seats.specs.Desked.{desk_sums}
use Rattle.mc_seats.proofs.OpeningFacts.{none_of_length, opened_desked, opened_length, opening_begins, opening_more, opening_refused}
use Rattle.mc_seats.proofs.opening.open_all.Goals as goal

pub loop-parts-init : goal.loop-parts-init
loop-parts-init g c =
    let seats = ap length c.requires.empty.0 in
    let desks = ap length c.requires.empty.1 in (
      opening_begins _ _ _ _ _ c.requires.empty.0 c.requires.empty.1 c.requires.fresh,
      omega (arith, seats, c.args.rooms.seats.ok, c.requires.seats),
      omega (arith, desks, c.args.rooms.desks.ok, c.requires.desks),
      omega (arith, seats, c.args.rooms.seats.ok, c.args.parts.ok),
      omega (arith, desks, c.args.rooms.desks.ok, c.requires.counts.1),
    )

pub loop-parts-preserved : goal.loop-parts-preserved
loop-parts-preserved g c =
    let inv = c.loop-parts.invariant in (
      rw (c.push_reserved.ensures.items, c.push_reserved-in-Ok.ensures.items) (opening_more _ _ _ _ _ _ _ _ _ _ inv.0 c.take_first.ensures.items c.in-Ok.ensures.opened),
      omega (arith, inv.1, c.push_reserved.ensures.len, c.push_reserved.ensures.capacity, c.take_first.ensures.len),
      omega (arith, inv.2, c.push_reserved-in-Ok.ensures.len, c.push_reserved-in-Ok.ensures.capacity, c.take_first.ensures.len),
      omega (arith, inv.3, c.push_reserved.ensures.len, c.take_first.ensures.len, c.take_first.ensures.capacity),
      omega (arith, inv.4, c.push_reserved-in-Ok.ensures.len, c.take_first.ensures.len),
    )

pub join-parts-requires-clause-same : goal.join-parts-requires-clause-same
join-parts-requires-clause-same g c = let same = opened_length _ _ _ _ _ c.loop-parts.invariant.0.opened in omega (arith, same, c.loop-parts.seats.ok, c.loop-parts.desks.ok)

pub returns-in-Err-clause-refused : goal.returns-in-Err-clause-refused
returns-in-Err-clause-refused g c = rw (c.join-parts.ensures, c.put_first.ensures.items) (opening_refused _ _ _ _ _ _ _ _ _ _ c.loop-parts.invariant.0 c.take_first.ensures.items c.in-Err.ensures.back c.in-Err.ensures.few c.in-Err.ensures.own)

pub invariant_of-result : goal.invariant_of-result
invariant_of-result g c =
    let inv = c.loop-parts.invariant in
    let none : length c.loop-parts.parts.items ≡ 0 = omega (arith, c.loop-parts.parts.ok, c.len.ensures, c.loop-parts-test.false) in
    record {
      desked = opened_desked _ _ _ _ _ inv.0.opened;
      counted = c.push_counts.ensures ∙ ap (λ l. l ++ desk_sums g.K.Desk.Counted.faults c.as_slice.result.now) c.requires.counts.0 ∙ ap (desk_sums g.K.Desk.Counted.faults) c.as_slice.ensures.value;
      empty = none_of_length _ none;
      roomy = omega (arith, inv.3, c.loop-parts.seats.ok, c.loop-parts.parts.ok);
    }
