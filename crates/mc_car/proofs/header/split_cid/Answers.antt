use Rattle.mc_car.proofs.Headers.{split_none, split_short, split_some}
use Rattle.mc_car.proofs.header.split_cid.Goals as goal

pub returns-then-text-lt-CID_LEN : goal.returns-then-text-lt-CID_LEN
returns-then-text-lt-CID_LEN c = split_short c.args.text.now c.if-text-lt-CID_LEN.true

pub returns-in-Some : goal.returns-in-Some
returns-in-Some c = split_some c.args.text.now c.in-Some.cid c.read_cid.result c.read_cid.ensures c.in-Some.is

pub returns-in-None : goal.returns-in-None
returns-in-None c = split_none c.args.text.now c.read_cid.result c.read_cid.ensures c.in-None.is
