-- What a round of workers, and the walk of a repair before it, leave to the caller.
use Rattle.std.specs.Prelude.{◌≡◌, ◌+◌, ℕ, Bool, false, List, Option, Some}
use Rattle.mc_base.specs.declared.cid.Cid.{Cid}
use Rattle.mc_fetch.specs.Fits.{Map}
use Rattle.mc_model.specs.Draining.{HasDrained}
use Rattle.mc_model.specs.Events.{GoesOn}
use Rattle.mc_model.specs.Graph.{Vertex, cids_in}
use Rattle.mc_model.specs.Repairing.{HasRepaired}
use Rattle.mc_model.specs.State.{IsSound, IsWhole, wanted_in}
use Rattle.mc_core.specs.Counted.{capped}
use Rattle.mc_core.specs.Events.{ReplicaState}
use Rattle.mc_drain.specs.Finds.{found_from}
use Rattle.mc_drain.specs.Leads.{FuseGoes, LeadsBy, Never, count, up_to}
use Rattle.mc_drain.specs.Repairs.{repair_start}

-- what is found where these blocks are stored and a fetch finds this, and these blocks
abbrev pub FindsFrom : Option Map → List Vertex → Map → List Cid → Type 0
FindsFrom offers graph map kept = (found_from graph offers ≡ Some map) × (kept ≡ cids_in graph)

-- What workers led to from a state with so many processed blocks, with fetches that all tell this, and within a budget;
-- and whether the keeper failed.
pub record HasWorkedFrom (failed : Bool) (before budget : ℕ) (offers : Option Map) (root s : ReplicaState)
    : Type 0 where
  pub counted : before ≡ capped (count root)
  pub leads : LeadsBy failed (up_to (capped (before + budget)) root)
      (FindsFrom offers root.state.durable.graph) Never root s

-- What the beginning of a repair led to: all was recalled, and the walk has come to its end. What is found is the same,
-- the blocks that are processed from here on are those of the repair, and what was wanted still is.
pub record HasWalkedFrom (root s : ReplicaState) : Type 0 where
  pub same : count s ≡ count root
  pub grows : GoesOn root.state.durable s.state.durable
  pub fuse : FuseGoes false 1 root.fuse s.fuse
  pub sound : IsSound s.state
  pub whole : IsWhole s.state.run
  pub finds : (offers : Option Map) (map : Map) → found_from root.state.durable.graph offers ≡ Some map
      → (found_from s.state.durable.graph offers ≡ Some map)
      × HasDrained map (cids_in s.state.durable.graph) root.state.durable (repair_start root) s.state
      × HasRepaired map (cids_in s.state.durable.graph) root.state.durable (wanted_in root.state.run) s.state
