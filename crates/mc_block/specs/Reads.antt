-- Why there is no block, link or delta; and the links of bytes.
use Rattle.std.specs.Prelude.{◌≡◌, ℕ, List, [], Result, Ok, Err, ⊤, unwrap_or}
use Rattle.std.specs.Result.{result_ok}
use Rattle.mc_base.specs.NodeRead.{NodeFault, NodeText, node_of}
use Rattle.mc_base.specs.declared.cid.Cid.{Cid}
use Rattle.mc_model.specs.Offer as model
use Rattle.mc_block.specs.Faults.{damage_of}
use Rattle.mc_block.specs.declared.fault.BlockError.{BlockError}
use Rattle.mc_block.specs.declared.fault.BlockError.TheVariants.{Damaged, Memory}

-- a damage is the one that the definition gives; want of memory says nothing
abbrev pub IsDamage : {A : Type 0} → Result A model.Damage → BlockError → Type 0
IsDamage defined Memory = ⊤
IsDamage defined (Damaged damage) = defined ≡ Err (damage_of damage)

-- the links of a node, or why there are none
abbrev pub node_links : Result NodeText NodeFault → Result (List Cid) model.Damage
node_links (Err fault) = Err (model.NotDagPb fault)
node_links (Ok node) = model.links_from 0 node.links

-- the links of bytes, or none
abbrev pub named_links : List ℕ → List Cid
named_links bytes = unwrap_or (result_ok (node_links (node_of bytes))) []
