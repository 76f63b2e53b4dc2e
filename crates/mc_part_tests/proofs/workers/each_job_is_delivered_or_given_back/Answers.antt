use Rattle.std.proofs.Common.{◌≡◌, All, None, subst, sym}
use Rattle.mc_part_tests.proofs.workers.each_job_is_delivered_or_given_back.Goals as goal

pub run_workers-requires-clause-ready : goal.run_workers-requires-clause-ready
run_workers-requires-clause-ready g c κs =
    let free : All (λ hand. hand.seat.out ≡ None) c.as_mut_slice.result.now = subst (All (λ hand. hand.seat.out ≡ None)) (sym c.as_mut_slice.ensures.value) c.in_ok-hands.ensures in
    λ k d lt. record { own = tt; idle = free k d lt; fits = tt }
