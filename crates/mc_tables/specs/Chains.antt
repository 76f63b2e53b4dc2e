-- What the table of element rows says: the rows of a key are a chain from its last row to its first, and each row's
-- block is named by its place among the stored ones, whose identifiers these are where a row is made.
use Rattle.std.specs.Prelude.{◌≡◌, ⊤, ℕ, zero, suc, ◌+◌, Bool, true, false, not, ◌&&◌, ◌||◌, nat_eq, nat_lt, List, []}
use Rattle.std.specs.Prelude.{◌∷◌, length, map, filter, slice_get, Option, Some, None}
use Rattle.std.specs.Prelude.{cond}
use Rattle.std.specs.List.{list_all}
use Rattle.std.specs.Str.{bytes_eq}
use Rattle.std.specs.Option.{option_map}
use Rattle.mc_base.specs.declared.cid.Cid.{Cid}
use Rattle.mc_model.specs.Id.{id_text}
use Rattle.mc_keep.specs.declared.rows.ElementRow.{ElementRow}
use Rattle.mc_tables.specs.declared.elements.Node.{Node}
use Rattle.mc_graph.specs.Graph.{cid_in}

-- whether a place is before another, where there is one
abbrev pub is_before : ℕ → Option ℕ → Bool
is_before place None = true
is_before place (Some before) = nat_lt before place

-- whether each node leads to one before it; the first stands at this place
abbrev pub lead_back : ℕ → List Node → Bool
lead_back place [] = true
lead_back place (node ∷ nodes) = is_before place node.before && lead_back (place + 1) nodes

-- the nodes from a place on, at most so many
abbrev pub chain : List Node → ℕ → Option ℕ → List Node
chain nodes zero at = []
chain nodes (suc most) None = []
chain nodes (suc most) (Some at) = elim (slice_get nodes at) [
  | None ↦ []
  | Some node ↦ node ∷ chain nodes most node.before
]

-- whether a node stands on the way from a place, at most so many steps from it
abbrev pub is_on : List Node → ℕ → Option ℕ → ℕ → Bool
is_on nodes zero at place = false
is_on nodes (suc most) None place = false
is_on nodes (suc most) (Some at) place = elim (slice_get nodes at) [
  | None ↦ false
  | Some node ↦ nat_eq at place || is_on nodes most node.before place
]

-- the place to which the node at a place leads
abbrev pub before_at : List Node → ℕ → Option ℕ
before_at nodes place = elim (slice_get nodes place) [ None ↦ None | Some node ↦ node.before ]

-- the node at a place leads to another one
abbrev pub led_to : List Node → ℕ → Option ℕ → List Node
led_to [] place before = []
led_to (node ∷ nodes) zero before = record node { before = before } ∷ nodes
led_to (node ∷ nodes) (suc place) before = node ∷ led_to nodes place before

-- the places of the nodes' blocks among the stored ones
abbrev pub blocks_of : List Node → List ℕ
blocks_of nodes = map (λ (node : Node). node.block) nodes

-- whether each node's block is one of the stored ones
abbrev pub are_stored : List Cid → List Node → Bool
are_stored cids nodes = list_all (λ place. nat_lt place (length cids)) (blocks_of nodes)

-- the row of a node of this key
abbrev pub row_of_node : List Cid → List ℕ → Node → ElementRow
row_of_node cids key node =
    record { key = key; cid = cid_in cids node.block; priority = node.priority; value = node.value }

-- the row of the node at a place, where the node is of this key
abbrev pub row_at : List Cid → List Node → List ℕ → ℕ → Option ElementRow
row_at cids nodes key place = option_map (row_of_node cids key) (slice_get nodes place)

-- what stood at a place still stands there
abbrev pub KeepsNodes : List Node → List Node → Type 0
KeepsNodes old new = (place : ℕ) (node : Node) → slice_get old place ≡ Some node → slice_get new place ≡ Some node

-- the rows of a key, where these are the places of the last ones
abbrev pub rows_in : List Cid → List Node → (List ℕ → Option ℕ) → List ℕ → List ElementRow
rows_in cids nodes lasts key = map (row_of_node cids key) (chain nodes (length nodes) (lasts key))

-- whether a row is of a block whose id is none of the hidden ones
abbrev pub is_live : (List ℕ → Bool) → ElementRow → Bool
is_live hidden row = not (hidden (id_text row.cid.0))

-- the rows of a key from a place on, and those of them that are live
abbrev pub rows_from : List Cid → List Node → List ℕ → Option ℕ → List ElementRow
rows_from cids nodes key at = map (row_of_node cids key) (chain nodes (length nodes) at)

abbrev pub live_from : List Cid → (List ℕ → Bool) → List Node → List ℕ → Option ℕ → List ElementRow
live_from cids hidden nodes key at = filter (is_live hidden) (rows_from cids nodes key at)

-- each node leads to one before it, each key's last node is there, and no node is of two keys
pub record AreChains (nodes : List Node) (lasts : List ℕ → Option ℕ) : Type 0 where
  pub back : lead_back 0 nodes ≡ true
  pub there : (key : List ℕ) → is_before (length nodes) (lasts key) ≡ true
  pub apart : (key other : List ℕ) (place : ℕ) → is_on nodes (length nodes) (lasts key) place ≡ true →
      is_on nodes (length nodes) (lasts other) place ≡ true → key ≡ other

-- the node at the place is on the way of the key
abbrev pub IsOf : List Node → (List ℕ → Option ℕ) → List ℕ → ℕ → Type 0
IsOf nodes lasts key place = is_on nodes (length nodes) (lasts key) place ≡ true

-- where there is a node, it is on the way of the key, and its row is live
abbrev pub IsLiveAt : List Cid → (List ℕ → Bool) → List Node → (List ℕ → Option ℕ) → List ℕ → Option ℕ → Type 0
IsLiveAt cids hidden nodes lasts key None = ⊤
IsLiveAt cids hidden nodes lasts key (Some place) =
    IsOf nodes lasts key place
    × (elim (slice_get nodes place) [ None ↦ false | Some node ↦ is_live hidden (row_of_node cids key node) ] ≡ true)

-- nodes whose rows are hidden may have been passed over, and nothing else
pub record Pruned (cids : List Cid) (hidden : List ℕ → List ℕ → Bool) (old new : List Node) (lasts : List ℕ → Option ℕ)
    : Type 0 where
  pub len : length new ≡ length old
  pub blocks : blocks_of new ≡ blocks_of old
  pub same : (key : List ℕ) (place : ℕ) → row_at cids new key place ≡ row_at cids old key place
  pub live : (key : List ℕ) →
      filter (is_live (hidden key)) (rows_in cids new lasts key)
      ≡ filter (is_live (hidden key)) (rows_in cids old lasts key)

-- the rows of a key with one more row
abbrev pub with_element : List ℕ → List ElementRow → ElementRow → List ElementRow
with_element key rows row = cond (bytes_eq row.key key) (row ∷ rows) rows
