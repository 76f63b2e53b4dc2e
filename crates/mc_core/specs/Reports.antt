-- The report of a replica.
use Rattle.std.specs.Prelude.{◌≡◌, Bool, length}
use Rattle.mc_model.specs.Kept.{Kept}
use Rattle.mc_model.specs.Wanted.{Queue}
use Rattle.mc_queue.specs.declared.queue.Counts.{Counts}
use Rattle.mc_core.specs.declared.report.Report.{Report}
use Rattle.mc_plan.specs.Counted.{capped}
use Rattle.mc_plan.specs.declared.counting.Numbers.{Numbers}

-- the report is that of what is told, and says whether every gap is wanted
pub record IsReport (kept : Kept) (whole : Bool) (report : Report) : Type 0 where
  pub processed : report.processed ≡ capped (length kept.order)
  pub stored : report.stored ≡ capped (length kept.graph)
  pub mark : report.mark ≡ kept.mark
  pub is_whole : report.whole ≡ whole

-- the report has the numbers that the replica keeps, and says whether every gap is wanted: over every keeper
pub record AreNumbers (numbers : Numbers) (whole : Bool) (report : Report) : Type 0 where
  pub processed : report.processed ≡ numbers.processed
  pub stored : report.stored ≡ numbers.stored
  pub mark : report.mark ≡ numbers.mark
  pub is_whole : report.whole ≡ whole

-- the counts are those of the parts of what is wanted
pub record AreCounts (q : Queue) (counts : Counts) : Type 0 where
  pub waiting : counts.waiting ≡ length q.waiting
  pub flight : counts.flight ≡ length q.flight
  pub missing : counts.missing ≡ length q.missing
  pub bad : counts.bad ≡ length q.bad
