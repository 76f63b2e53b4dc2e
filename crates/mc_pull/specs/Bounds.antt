-- What a round keeps to.
use Rattle.std.specs.Prelude.{ℕ, false, [], Option, Some, None}
use Rattle.mc_fetch.specs.Fits.{Map}
use Rattle.mc_model.specs.Graph.{cids_in}
use Rattle.mc_core.specs.Events.{ReplicaState}
use Rattle.mc_drain.specs.Finds.{found_from}
use Rattle.mc_drain.specs.Leads.{up_to}
use Rattle.mc_node.specs.Works.{Bounds}

-- the bounds of a round from a state, with fetches that find this, to so many processed blocks
abbrev pub bounds_of : ℕ → Option Map → Option ReplicaState → Bounds
bounds_of limit offers None = record { walks = false; most = None; found = None; kept = [] }
bounds_of limit offers (Some s) = record {
  walks = false;
  most = Some (up_to limit s);
  found = found_from s.state.durable.graph offers;
  kept = cids_in s.state.durable.graph;
}
