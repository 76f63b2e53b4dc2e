use Rattle.mc_files.proofs.MessageFacts.{message_allowed, message_named}
use Rattle.mc_files.proofs.taking.write_message.Goals as goal

pub returns-clause-named : goal.returns-clause-named
returns-clause-named c = message_named c.casts_are_read_again.ensures c.args.roots.now c.write_cast.result c.have_digests.ensures c.write_cast.ensures

pub returns-clause-allowed : goal.returns-clause-allowed
returns-clause-allowed c = message_allowed c.casts_are_read_again.ensures c.args.roots.now c.write_cast.result c.have_digests.ensures c.write_cast.ensures
