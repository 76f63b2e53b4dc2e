use Rattle.std.proofs.Common.{false, None}
use Rattle.mc_core.specs.Replica.{replica_state}
use Rattle.mc_pull.specs.Bounds.{bounds_of}
use Rattle.mc_pull.specs.Hands.{found_first}
use Rattle.mc_pull.proofs.crew.rounds.round.Given as goal

abbrev pub ghosts-named_round : goal.ghosts-named_round
ghosts-named_round g a =
    let bounds = bounds_of a.limit (found_first g.F.Fetch.offers a.fetches.items) (replica_state g.K.Keeper.told g.K.Keeper.fuse a.replica) in
    record { walks = bounds.walks; kept = bounds.kept; most = bounds.most; found = bounds.found; surely = λ cid. None; exact = false }
