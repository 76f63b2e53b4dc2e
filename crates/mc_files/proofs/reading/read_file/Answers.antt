use Rattle.mc_files.proofs.BlockFacts.{file_read}
use Rattle.mc_files.proofs.reading.read_file.Goals as goal

pub returns-in-Ok-verify_all-clause-file : goal.returns-in-Ok-verify_all-clause-file
returns-in-Ok-verify_all-clause-file c = file_read c.args.bytes.now c.in-Ok.front c.in-Ok-verify_all.verified c.in-Ok.ensures.front c.in-Ok-verify_all.ensures.taken
