-- Blocks that are stored alone: no event takes them up.
use Rattle.std.specs.Prelude.{◌≡◌, ℕ, ◌||◌, List, [], ◌∷◌, ◌++◌, fold, length, if◌then◌else◌}
use Rattle.mc_model.specs.declared.block.Stored.{Stored}
use Rattle.mc_model.specs.Events.{Event}
use Rattle.mc_model.specs.Graph.{Vertex, has, in_graph}
use Rattle.mc_model.specs.Kept.{cids_of}
use Rattle.mc_inbox.specs.Groups.{store_events}
use Rattle.mc_plan.specs.Events.{ReplicaState}

-- one more, where it is not among these and not stored
abbrev pub with_new : List Vertex → List Stored → Stored → List Stored
with_new graph new item = if has item.cid (cids_of new) || in_graph graph item.cid then new else new ++ item ∷ []

-- those that are not stored, of several with one identifier the first
abbrev pub unstored : List Vertex → List Stored → List Stored
unstored graph items = fold (with_new graph) [] items

-- those of these blocks that are not stored are, in one commit, or there is none, and this is their number
pub record KeepEvents (s : ReplicaState) (items : List Stored) (events : List Event) (count : ℕ) : Type 0 where
  pub are : events ≡ store_events (unstored s.state.durable.graph items)
  pub counts : count ≡ length (unstored s.state.durable.graph items)
