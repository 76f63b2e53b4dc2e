use Rattle.mc_model.specs.Kept.{processed}
use Rattle.mc_model.specs.Made.{head_cids}
use Rattle.mc_files.specs.Files.{sections_of}
use Rattle.mc_files.proofs.laws.exports_are_one.Goals as goal

pub returns : goal.returns
returns c = λ kept first second one other. c.cars_are_read.ensures.one first second (head_cids (processed kept)) (sections_of kept) one other
