use Rattle.mc_model.proofs.MoveFacts.{stays_sound_over, migrations_same, failed_same, two_stays}
use Rattle.mc_model.proofs.moves.moves_keep.Goals as goal

pub returns-clause-stays : goal.returns-clause-stays
returns-clause-stays c = stays_sound_over

pub returns-clause-migrations : goal.returns-clause-migrations
returns-clause-migrations c = migrations_same

pub returns-clause-failed : goal.returns-clause-failed
returns-clause-failed c = failed_same

pub returns-clause-two : goal.returns-clause-two
returns-clause-two c = two_stays
