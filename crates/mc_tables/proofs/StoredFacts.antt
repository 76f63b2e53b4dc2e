-- Each node names its block by its place among the stored ones: more stored blocks leave the rows of the nodes.
use Rattle.std.proofs.Common.{◌≡◌, ℕ, zero, suc, ◌<◌, arith, true, List, [], ◌∷◌, ◌++◌, map, length, Option, Some, None, sym, refl, ap, ◌∙◌, subst, length-append}
use Rattle.std.specs.Prelude.{slice_get, nat_lt}
use Rattle.std.specs.HashMap.{HashMap, keys}
use Rattle.std.specs.List.{list_all}
use Rattle.std.specs.Option.{option_map}
use Rattle.std.proofs.lemmas.Bool.{and_parts}
use Rattle.std.proofs.lemmas.List.{get_or_append_left, map-append}
use Rattle.std.proofs.lemmas.Option.{get_or_from_slice_get, unwrap_or-slice_get}
use Rattle.mc_base.specs.declared.cid.Cid.{Cid}
use Rattle.mc_model.specs.declared.block.Stored.{Stored}
use Rattle.mc_model.specs.Kept.{cids_of}
use Rattle.mc_keep.specs.declared.rows.ElementRow.{ElementRow}
use Rattle.mc_tables.specs.declared.elements.Node.{Node}
use Rattle.mc_graph.specs.declared.graph.BlockRow.{BlockRow}
use Rattle.mc_tables.specs.Chains.{are_stored, blocks_of, chain, row_at, row_of_node, rows_in, KeepsNodes}
use Rattle.mc_graph.specs.Graph.{cid_in, graph_of, no_cid, stored_of}
use Rattle.mc_graph.proofs.GraphFacts.{map-push}
use Rattle.mc_graph.proofs.OrderFacts.{within_more, within_push}
use Rattle.mc_graph.proofs.Within.{is_below}

-- the identifiers of the table of blocks are those of the list of them
keys-graph : {S : Type 0} (blocks : HashMap Cid BlockRow S) → keys blocks ≡ cids_of (graph_of blocks)
keys-graph blocks = by blocks.entries
  where
    by : (entries : List (Cid × BlockRow)) → map (λ (entry : Cid × BlockRow). entry.0) entries ≡ cids_of (map stored_of entries)
    by [] = refl
    by (entry ∷ entries) = ap (λ rest. entry.0 ∷ rest) (by entries)

pub keys_same : {S : Type 0} (old new : HashMap Cid BlockRow S) → graph_of new ≡ graph_of old → keys new ≡ keys old
keys_same old new same = keys-graph new ∙ ap cids_of same ∙ sym (keys-graph old)

pub keys_grown : {S : Type 0} (old new : HashMap Cid BlockRow S) (store : List Stored) → graph_of new ≡ graph_of old ++ store → keys new ≡ keys old ++ cids_of store
keys_grown old new store grown =
    keys-graph new ∙ ap cids_of grown ∙ map-append (λ (stored : Stored). stored.cid) (graph_of old) store ∙ ap (λ cids. cids ++ cids_of store) (sym (keys-graph old))

-- what stands at a place is the identifier there
pub cid_there : (cids : List Cid) (place : ℕ) (cid : Cid) → slice_get cids place ≡ Some cid → cid_in cids place ≡ cid
cid_there cids place cid at = unwrap_or-slice_get cids place no_cid ∙ get_or_from_slice_get cids place cid no_cid at

-- one more node, whose block is stored
pub stored_push : (cids : List Cid) (nodes : List Node) (node : Node) → node.block < length cids → are_stored cids nodes ≡ true → are_stored cids (nodes ++ node ∷ []) ≡ true
stored_push cids nodes node below stored =
    ap (list_all (λ place. nat_lt place (length cids))) (map-push (λ (n : Node). n.block) nodes node) ∙ within_push (length cids) node.block (blocks_of nodes) below stored

node_stored : (cids : List Cid) (nodes : List Node) (place : ℕ) (node : Node) → are_stored cids nodes ≡ true → slice_get nodes place ≡ Some node → nat_lt node.block (length cids) ≡ true
node_stored cids [] place node stored got = absurd (let f : None ≡ Some node = got in cc)
node_stored cids (n ∷ nodes) zero node stored got =
    let same : n ≡ node = cc (got) in
    subst (λ (z : Node). nat_lt z.block (length cids) ≡ true) same (and_parts (nat_lt n.block (length cids)) (are_stored cids nodes) stored).0
node_stored cids (n ∷ nodes) (suc place) node stored got = node_stored cids nodes place node (and_parts (nat_lt n.block (length cids)) (are_stored cids nodes) stored).1 got

-- more blocks are stored, and these nodes are of those before
module _ (cids all more : List Cid) (grown : all ≡ cids ++ more) (nodes : List Node) (stored : are_stored cids nodes ≡ true) where
  pub still_stored : are_stored all nodes ≡ true
  still_stored = within_more (length cids) (length all) (blocks_of nodes) (let longer = ap length grown ∙ length-append cids more in omega (arith, longer)) stored

  cid_kept : (place : ℕ) → place < length cids → cid_in all place ≡ cid_in cids place
  cid_kept place below =
      ap (λ (z : List Cid). cid_in z place) grown ∙ unwrap_or-slice_get (cids ++ more) place no_cid ∙ get_or_append_left cids more no_cid place below
      ∙ sym (unwrap_or-slice_get cids place no_cid)

  same_row : (key : List ℕ) (place : ℕ) (node : Node) → slice_get nodes place ≡ Some node → row_of_node all key node ≡ row_of_node cids key node
  same_row key place node got =
      let same = cid_kept node.block (is_below (length cids) node.block (node_stored cids nodes place node stored got)) in
      λ i. record { key = key; cid = same i; priority = node.priority; value = node.value }

  abbrev next : ℕ → Option Node → List Node
  next most found = elim found [ None ↦ [] | Some node ↦ node ∷ chain nodes most node.before ]

  same_chain : (key : List ℕ) (most : ℕ) (at : Option ℕ) → map (row_of_node all key) (chain nodes most at) ≡ map (row_of_node cids key) (chain nodes most at)
  same_chain key zero at = refl
  same_chain key (suc most) None = refl
  same_chain key (suc most) (Some at) = by (λ z. same_chain key most z) (slice_get nodes at) refl
    where
      by : ((z : Option ℕ) → map (row_of_node all key) (chain nodes most z) ≡ map (row_of_node cids key) (chain nodes most z))
          → (found : Option Node) → slice_get nodes at ≡ found → map (row_of_node all key) (next most found) ≡ map (row_of_node cids key) (next most found)
      by go None got = refl
      by go (Some node) got = λ i. same_row key at node got i ∷ go node.before i

  pub rows_grown : (lasts : List ℕ → Option ℕ) (key : List ℕ) → rows_in all nodes lasts key ≡ rows_in cids nodes lasts key
  rows_grown lasts key = same_chain key (length nodes) (lasts key)

  -- what stood at a place is the row that it was
  pub rows_stay : (new : List Node) → KeepsNodes nodes new → (key : List ℕ) (place : ℕ) (row : ElementRow) → row_at cids nodes key place ≡ Some row → row_at all new key place ≡ Some row
  rows_stay new stays key place row is = by (slice_get nodes place) refl is
    where
      by : (found : Option Node) → slice_get nodes place ≡ found → option_map (row_of_node cids key) found ≡ Some row → row_at all new key place ≡ Some row
      by None got e = absurd (let f : None ≡ Some row = e in cc)
      by (Some node) got e = ap (option_map (row_of_node all key)) (stays place node got) ∙ ap (λ (z : ElementRow). Some z) (same_row key place node got) ∙ e
