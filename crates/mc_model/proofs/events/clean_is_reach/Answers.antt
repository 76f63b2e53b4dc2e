use Rattle.mc_model.proofs.Climb.{reached, path_within}
use Rattle.mc_model.proofs.events.clean_is_reach.Goals as goal

pub returns-clause-reached : goal.returns-clause-reached
returns-clause-reached c state sound none = reached state.durable.graph state.durable.order none sound.durable.stored

pub returns-clause-no_more : goal.returns-clause-no_more
returns-clause-no_more c state full d found = path_within state.durable.graph state.durable.order full found.path d found.along
