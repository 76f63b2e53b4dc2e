use Rattle.std.proofs.Common.{◌∙◌, refl, sym}
use Rattle.mc_keep.proofs.Frames.{goes_more, goes_reads, read_more}
use Rattle.mc_core.proofs.OpenFacts.{opens_now}
use Rattle.mc_plan.proofs.SoundFacts.{open_sound}
use Rattle.mc_plan.proofs.CountFacts.{counted_open}
use Rattle.mc_core.proofs.replica.Replica.open.Goals as goal

pub returns-in-Ok-summary-clause-opened : goal.returns-in-Ok-summary-clause-opened
returns-in-Ok-summary-clause-opened g c =
    opens_now _ _ _ _ _ _ (c.in-Ok-summary.ensures.reads.told_same ∙ c.in-Ok.ensures.same) refl c.new.ensures.queue (rw c.in-Ok.ensures.same at c.in-Ok-summary.ensures.row)

pub returns-in-Ok-summary-clause-goes : goal.returns-in-Ok-summary-clause-goes
returns-in-Ok-summary-clause-goes g c = goes_more c.in-Ok.ensures.goes (goes_reads c.in-Ok-summary.ensures.reads)

pub returns-in-Ok-summary-clause-reads : goal.returns-in-Ok-summary-clause-reads
returns-in-Ok-summary-clause-reads g c = λ two. read_more (c.in-Ok.ensures.still two) c.in-Ok-summary.ensures.reads

pub invariant_of-result-clause-sound : goal.invariant_of-result-clause-sound
invariant_of-result-clause-sound g c =
    open_sound _ _ _ _ c.in-Ok-summary.ensures.reads.told_same c.new.ensures.queue c.is_sound.ensures (rw (sym c.in-Ok.ensures.same) at c.requires.marked) c.in-Ok-summary.ensures.row

pub invariant_of-result-clause-counted : goal.invariant_of-result-clause-counted
invariant_of-result-clause-counted g c = counted_open _ _ _ _ c.in-Ok-summary.ensures.reads.told_same c.in-Ok-summary.ensures.row c.in-Ok-summary.ensures.below c.numbers_of.ensures
