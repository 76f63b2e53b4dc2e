-- Bytes that are offered under a content identifier: the block that they are, or the first damage.
use Rattle.std.specs.Prelude.{ℕ, ◌+◌, List, [], ◌∷◌, length, nat_le, not, Bool, if◌then◌else◌, Option, Some, None}
use Rattle.std.specs.Prelude.{Result, Ok, Err, option_map, unwrap_or}
use Rattle.std.specs.Result.{is_ok, result_ok}
use Rattle.std.specs.Str.{bytes_eq}
use Rattle.mc_base.specs.Cid.{cid_digest, digest_of}
use Rattle.mc_base.specs.NodeRead.{NodeFault, NodeText, node_of}
use Rattle.mc_base.specs.declared.cid.Cid.{Cid}
use Rattle.mc_model.specs.declared.block.Block.{Block}
use Rattle.mc_model.specs.declared.delta.Delta.{Delta}
use Rattle.mc_model.specs.DeltaText.{DeltaFault, delta_read}

-- the bytes of a block
abbrev pub block_max : ℕ
block_max = 1048576

-- why bytes are no block under an identifier: too many; of another digest; no node; a link of this index that is no
-- identifier; or data that is no delta, with its first fault
pub data Damage : Type 0 where
  TooLarge : (len : ℕ) → Damage
  WrongDigest : (found : List ℕ) → Damage
  NotDagPb : NodeFault → Damage
  BadLink : (index : ℕ) → Damage
  BadDelta : DeltaFault → Damage

-- the identifier with these 36 bytes
abbrev pub cid_of_bytes : List ℕ → Option Cid
cid_of_bytes bytes = option_map (λ digest. record { 0 = digest }) (cid_digest bytes)

-- one identifier, and those of the links after it
abbrev pub onto_links : ℕ → Option Cid → Result (List Cid) Damage → Result (List Cid) Damage
onto_links index None rest = Err (BadLink index)
onto_links index (Some cid) (Ok cids) = Ok (cid ∷ cids)
onto_links index (Some cid) (Err damage) = Err damage

-- the identifiers of links, or the index of the first that is none, where the first link has this index
abbrev pub links_from : ℕ → List (List ℕ) → Result (List Cid) Damage
links_from index [] = Ok []
links_from index (link ∷ links) = onto_links index (cid_of_bytes link) (links_from (index + 1) links)

-- no elements, no tombstones, and the priority 0
abbrev pub empty_delta : Delta
empty_delta = record { elements = []; tombstones = []; priority = 0 }

-- a text's delta, or the damage that its first fault is
abbrev pub delta_or_damage : Result Delta DeltaFault → Result Delta Damage
delta_or_damage (Ok delta) = Ok delta
delta_or_damage (Err fault) = Err (BadDelta fault)

-- data as a delta: none is the empty delta
abbrev pub data_of : Option (List ℕ) → Result Delta Damage
data_of None = Ok empty_delta
data_of (Some data_bytes) = delta_or_damage (delta_read data_bytes)

-- the block of this identifier with these links and this delta
abbrev pub block_with : Cid → Result (List Cid) Damage → Result Delta Damage → Result Block Damage
block_with cid (Err damage) delta = Err damage
block_with cid (Ok links) (Err damage) = Err damage
block_with cid (Ok links) (Ok delta) = Ok (record { cid = cid; links = links; delta = delta })

-- the block that a node is
abbrev pub block_of_node : Cid → Result NodeText NodeFault → Result Block Damage
block_of_node cid (Err fault) = Err (NotDagPb fault)
block_of_node cid (Ok node) = block_with cid (links_from 0 node.links) (data_of node.payload)

-- the block that the bytes are under the identifier, or the first damage
unfoldable pub offer : Cid → List ℕ → Result Block Damage
offer cid bytes =
    if not (nat_le (length bytes) block_max) then Err (TooLarge (length bytes))
    else (if not (bytes_eq (digest_of bytes) cid.0) then Err (WrongDigest (digest_of bytes))
    else block_of_node cid (node_of bytes))

-- whether the bytes are a block under the identifier
abbrev pub is_good : Cid → List ℕ → Bool
is_good cid bytes = is_ok (offer cid bytes)

-- that block; bytes that are none count as one without links and with the empty delta
abbrev pub block_of : Cid → List ℕ → Block
block_of cid bytes = unwrap_or (result_ok (offer cid bytes)) (record { cid = cid; links = []; delta = empty_delta })
