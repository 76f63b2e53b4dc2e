use Rattle.std.proofs.Common.{None, ap, inl, inr, sym}
use Rattle.mc_node.specs.Ahead.{unless_failed}
use Rattle.mc_node.specs.Items.{is_sealing}
use Rattle.mc_node.proofs.AheadFacts.{nexts_as}
use Rattle.mc_node.proofs.SeatFacts.{begins_on}
use Rattle.mc_node.proofs.stored.Stored.next_jobs.Goals as goal

pub begin_more-requires-clause-sealed : goal.begin_more-requires-clause-sealed
begin_more-requires-clause-sealed g c = begins_on is_sealing _ _ c.requires.sealed c.next_job.ensures.extends

pub returns-then-begin_more-clause-does : goal.returns-then-begin_more-clause-does
returns-then-begin_more-clause-does g c = inl (record {
  job = c.in-Ok-Some.job;
  failed = c.begin_more.result;
  mid = _;
  there = _;
  asks = nexts_as c.args.limit _ _ _ _ _ _ c.in-Ok-Some.field-0-is c.in-Ok-Some.ensures.does;
  more = c.begin_more.ensures.does;
  is = ap (λ b. unless_failed b c.in-Ok-Some.job) (sym c.if-begin_more.true);
})

pub returns-else-begin_more-clause-does : goal.returns-else-begin_more-clause-does
returns-else-begin_more-clause-does g c = inl (record {
  job = c.in-Ok-Some.job;
  failed = c.begin_more.result;
  mid = _;
  there = _;
  asks = nexts_as c.args.limit _ _ _ _ _ _ c.in-Ok-Some.field-0-is c.in-Ok-Some.ensures.does;
  more = c.begin_more.ensures.does;
  is = ap (λ b. unless_failed b c.in-Ok-Some.job) (sym c.if-begin_more.false);
})

pub returns-in-Ok-None-clause-does : goal.returns-in-Ok-None-clause-does
returns-in-Ok-None-clause-does g c = inr (record { asks = nexts_as c.args.limit _ None _ _ _ _ c.in-Ok-None.field-0-is c.in-Ok-None.ensures.does; none = c.requires.none })
