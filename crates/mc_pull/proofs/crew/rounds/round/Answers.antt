use Rattle.mc_core.specs.Replica.{replica_state}
use Rattle.mc_pull.specs.Hands.{found_first}
use Rattle.mc_pull.proofs.RoundFacts.{all_fit, is_under, is_within, may_begin, never_walks, round_told}
use Rattle.mc_pull.proofs.crew.rounds.round.Goals as goal

pub named_round-requires-clause-walks : goal.named_round-requires-clause-walks
named_round-requires-clause-walks g c κs within = never_walks c.args.limit (found_first g.F.Fetch.offers c.args.fetches.items) (replica_state g.K.Keeper.told g.K.Keeper.fuse c.args.replica)

pub named_round-requires-clause-most : goal.named_round-requires-clause-most
named_round-requires-clause-most g c κs within = is_within c.args.limit (found_first g.F.Fetch.offers c.args.fetches.items) (replica_state g.K.Keeper.told g.K.Keeper.fuse c.args.replica)

pub named_round-requires-clause-found : goal.named_round-requires-clause-found
named_round-requires-clause-found g c κs within = may_begin c.found_drains_go_on.ensures.begins c.args.limit (found_first g.F.Fetch.offers c.args.fetches.items) (replica_state g.K.Keeper.told g.K.Keeper.fuse c.args.replica)

pub named_round-requires-clause-limit : goal.named_round-requires-clause-limit
named_round-requires-clause-limit g c κs within = is_under c.args.limit (found_first g.F.Fetch.offers c.args.fetches.items) (replica_state g.K.Keeper.told g.K.Keeper.fuse c.args.replica)

pub named_round-requires-clause-fits : goal.named_round-requires-clause-fits
named_round-requires-clause-fits g c κs within = all_fit c.found_drains_go_on.ensures.begins g.F.Fetch.offers c.args.limit (found_first g.F.Fetch.offers c.args.fetches.items) (replica_state g.K.Keeper.told g.K.Keeper.fuse c.args.replica) c.args.fetches.items c.requires.same

pub returns-clause-leads : goal.returns-clause-leads
returns-clause-leads g c = round_told c.args.limit (found_first g.F.Fetch.offers c.args.fetches.items) _ _ _ c.named_round.ensures.leads
