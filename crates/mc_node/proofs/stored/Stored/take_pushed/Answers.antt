use Rattle.mc_worker.specs.declared.ends.ShopError.TheVariants.{KeeperFault, Memory, Spent, Stopped}
use Rattle.std.proofs.Common.{Ok}
use Rattle.mc_node.proofs.FillFacts.{in_seen, in_took}
use Rattle.mc_node.proofs.TakeFacts.{gathers_err, takes_broken, takes_ok, takes_short, takes_spent, takes_stopped}
use Rattle.mc_node.proofs.stored.Stored.take_pushed.Goals as goal

pub returns-in-Ok-clause-does : goal.returns-in-Ok-clause-does
returns-in-Ok-clause-does g c = takes_ok c.args.limit c.args.cid c.in-Ok.count _ _ _ _ (in_seen c.args.limit _ _ _ _ _ _ _ _ _ c.in-Ok.ensures.does)

pub returns-in-Err-Stopped-clause-does : goal.returns-in-Err-Stopped-clause-does
returns-in-Err-Stopped-clause-does g c = takes_stopped c.args.limit c.args.cid _ _ _ _ (gathers_err c.args.limit _ Stopped _ _ _ _ c.in-Err-Stopped.field-0-is (in_seen c.args.limit _ _ _ _ _ _ _ _ _ c.in-Err-Stopped.ensures.does))

pub returns-in-Err-KeeperFault-clause-does : goal.returns-in-Err-KeeperFault-clause-does
returns-in-Err-KeeperFault-clause-does g c = takes_broken c.args.limit c.args.cid _ _ _ _ (gathers_err c.args.limit _ KeeperFault _ _ _ _ c.in-Err-KeeperFault.field-0-is (in_seen c.args.limit _ _ _ _ _ _ _ _ _ c.in-Err-KeeperFault.ensures.does))

pub returns-in-Err-Spent-clause-does : goal.returns-in-Err-Spent-clause-does
returns-in-Err-Spent-clause-does g c = takes_spent c.args.limit c.args.cid _ _ _ _ _ _ (gathers_err c.args.limit _ Spent _ _ _ _ c.in-Err-Spent.field-0-is (in_seen c.args.limit _ _ _ _ _ _ _ _ _ c.in-Err-Spent.ensures.does)) c.give_back.ensures.does

pub returns-in-Err-Memory-clause-does : goal.returns-in-Err-Memory-clause-does
returns-in-Err-Memory-clause-does g c = takes_short c.args.limit c.args.cid _ _ _ _ _ _ (gathers_err c.args.limit _ Memory _ _ _ _ c.in-Err-Memory.field-0-is (in_seen c.args.limit _ _ _ _ _ _ _ _ _ c.in-Err-Memory.ensures.does)) c.give_back-in-Err-Memory.ensures.does

pub returns-in-Ok-clause-took : goal.returns-in-Ok-clause-took
returns-in-Ok-clause-took g c = in_took c.args.limit (Ok c.in-Ok.count) _ _ _ _ _ _ _ _ c.in-Ok.ensures.does
