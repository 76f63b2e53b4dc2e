-- What the types of links and deltas say of every value in memory.
use Rattle.std.specs.Prelude.{◌<◌, ◌^◌, List, IsTrue}
use Rattle.std.specs.List.{list_all}
use Rattle.mc_base.specs.declared.cid.Cid.{Cid}
use Rattle.mc_model.specs.declared.delta.Delta.{Delta}
use Rattle.mc_dagpb.specs.Written.{has_digest}
use Rattle.mc_delta.specs.Written.{element_has_text, tomb_has_text}

-- digests have 32 bytes, keys and ids are texts, and the priority has 64 bits
pub record FitsTypes (links : List Cid) (delta : Delta) : Type 0 where
  pub digests : IsTrue (list_all has_digest links)
  pub elements : IsTrue (list_all element_has_text delta.elements)
  pub tombstones : IsTrue (list_all tomb_has_text delta.tombstones)
  pub priority : delta.priority < 2 ^ 64
