use Rattle.mc_runs.proofs.FuseFacts.{fault_is_fuse, fuse_is_fault, no_peer_fault}
use Rattle.mc_runs.proofs.CalmFacts.{calm_fuses, calm_peers, none_owned}
use Rattle.mc_runs.proofs.laws.quiet_faults_are_fuses.Goals as goal

pub returns-clause-peer : goal.returns-clause-peer
returns-clause-peer c = no_peer_fault

pub returns-clause-keeper : goal.returns-clause-keeper
returns-clause-keeper c = fault_is_fuse

pub returns-clause-fired : goal.returns-clause-fired
returns-clause-fired c = fuse_is_fault

pub returns-clause-uncounted : goal.returns-clause-uncounted
returns-clause-uncounted c = none_owned

pub returns-clause-no_peer : goal.returns-clause-no_peer
returns-clause-no_peer c = calm_peers

pub returns-clause-fuses : goal.returns-clause-fuses
returns-clause-fuses c = calm_fuses
