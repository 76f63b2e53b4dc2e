use Rattle.mc_car.proofs.PlaceFacts.{no_place, place_bad, place_here}
use Rattle.mc_car.proofs.places.read_place.Goals as goal

pub returns-in-Err-clause-fault : goal.returns-in-Err-clause-fault
returns-in-Err-clause-fault c = no_place c.args.bytes.now c.args.at c.in-Err.fault c.requires c.in-Err.ensures.fault

pub returns-in-Ok-read_cid-clause-place : goal.returns-in-Ok-read_cid-clause-place
returns-in-Ok-read_cid-clause-place c = place_here c.args.bytes.now c.args.at c.in-Ok.span c.in-Ok-read_cid.cid c.requires c.in-Ok.ensures.piece c.in-Ok-read_cid.ensures.named

pub returns-in-Err-read_cid-clause-fault : goal.returns-in-Err-read_cid-clause-fault
returns-in-Err-read_cid-clause-fault c = place_bad c.args.bytes.now c.args.at c.in-Ok.span c.in-Err-read_cid.fault c.requires c.in-Ok.ensures.piece c.in-Err-read_cid.ensures.fault
