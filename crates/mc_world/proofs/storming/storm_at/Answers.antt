use Rattle.mc_world.proofs.StormActs.{storm_down, storm_up}
use Rattle.mc_world.proofs.storming.storm_at.Goals as goal

pub returns-in-Up : goal.returns-in-Up
returns-in-Up g c = record { acts = storm_up _ c.args.r c.args.writers c.args.writes c.args.seat c.in-Up.replica _ c.storm-replica.result.1 _ c.in-Up.is c.storm_answer.ensures (record { leads = c.storm-replica.ensures.leads; keeps = c.storm-replica.ensures.keeps; rest = c.storm-replica.ensures.rest; stopped = c.storm-replica.ensures.stopped; still = c.storm-replica.ensures.still }) }

pub returns-in-Down : goal.returns-in-Down
returns-in-Down g c = record { acts = storm_down _ c.args.r c.args.writers c.args.writes c.args.seat _ c.in-Down.is }
