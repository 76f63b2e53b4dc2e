use Rattle.mc_model.proofs.Deliveries.{delivery_flight, delivery_may, delivery_says, delivery_takes}
use Rattle.mc_model.proofs.draining.deliveries_are_drains.Goals as goal

pub returns-clause-may : goal.returns-clause-may
returns-clause-may c durable run cid found sound flight = delivery_may durable run cid sound flight found

pub returns-clause-takes : goal.returns-clause-takes
returns-clause-takes c bytes_of durable run cid found flight = delivery_takes bytes_of durable run cid flight found

pub returns-clause-says : goal.returns-clause-says
returns-clause-says c = delivery_says

pub returns-clause-flight : goal.returns-clause-flight
returns-clause-flight c = delivery_flight
