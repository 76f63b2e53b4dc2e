-- The tables are those of the processed blocks; room in them; and what a commit makes of them.
use Rattle.std.specs.Prelude.{◌≡◌, ◌≤◌, ◌+◌, ◌||◌, Option, ℕ, Bool, true, false, List, ◌++◌, filter, fold}
use Rattle.std.specs.Prelude.{unwrap_or, vec_len, vec_capacity}
use Rattle.std.specs.Str.{bytes_eq}
use Rattle.std.specs.List.{list_any, list_all}
use Rattle.std.specs.HashMap.{spare as map_spare, get, keys}
use Rattle.std.specs.HashSet.{spare as set_spare}
use Rattle.std.specs.declared.hash.BuildHasher as build
use Rattle.std.specs.declared.hash.Hasher as hash
use Rattle.mc_base.specs.declared.cid.Cid.{Cid}
use Rattle.mc_model.specs.declared.block.Stored.{Stored}
use Rattle.mc_model.specs.Ascending.{is_once}
use Rattle.mc_model.specs.SameMembers.{SameMembers}
use Rattle.mc_model.specs.Front.{same_cid, is_among, is_gap, head_at}
use Rattle.mc_model.specs.Live.{has_tomb, value_row}
use Rattle.mc_model.specs.declared.block.Block.{Block}
use Rattle.mc_model.specs.Layouts.{covers}
use Rattle.mc_model.specs.Who.{who}
use Rattle.mc_model.specs.Kept.{Kept, IsKept, processed, is_stored, cids_of}
use Rattle.mc_keep.specs.declared.changes.Changes.{Changes}
use Rattle.mc_keep.specs.declared.rows.ElementRow.{ElementRow}
use Rattle.mc_keep.specs.declared.changes.ValueChange.{ValueChange}
use Rattle.mc_keep.specs.Changes.{has_tomb_row, head_after, laid_to, newly_processed, values_after}
use Rattle.mc_keep.specs.Tables.{element_rows, FrontFits}
use Rattle.mc_keep.specs.LiveRows.{live_element_rows}
use Rattle.mc_tables.specs.declared.tables.Tables.{Tables}
use Rattle.mc_tables.specs.Chains.{are_stored, is_live, rows_in, with_element, KeepsNodes}
use Rattle.mc_graph.specs.Front.{are_fresh, closed_by, opened_by}
use Rattle.mc_graph.specs.Graph.{graph_of, order_of}
use Rattle.mc_tables.specs.Places.{last_in, value_in, texts_in}
use Rattle.mc_tombs.specs.Tombs.{has_tomb_in}
use Rattle.mc_graph.specs.Tombs.{with_tomb}
use Rattle.mc_tables.specs.Values.{is_brought, row_in, AreThere, IsCovered}
use Rattle.mc_tables.specs.Winners.{has_value_of, is_met, named_after, named_in}

-- the processed blocks, in order
abbrev pub order_in : {S X : Type 0} {g : build.Ghosts S X} {h : hash.Ghosts X} → Tables S X g h → List Cid
order_in tables = order_of tables.graph.blocks tables.graph.order.items

-- what the tables stand for
abbrev pub kept_in : {S X : Type 0} {g : build.Ghosts S X} {h : hash.Ghosts X} → Tables S X g h → Kept
kept_in tables = record { graph = graph_of tables.graph.blocks; order = order_in tables; mark = tables.mark }

abbrev pub tomb_in : {S X : Type 0} {g : build.Ghosts S X} {h : hash.Ghosts X} → Tables S X g h → List ℕ → List ℕ → Bool
tomb_in tables key id = has_tomb_in tables.tombs.keys.keys tables.tombs.ids.keys tables.tombs.pairs.keys key id

-- the tables are exactly those of what they stand for
pub record Fits {S X : Type 0} {g : build.Ghosts S X} {h : hash.Ghosts X} (tables : Tables S X g h) : Type 0 where
  pub kept : IsKept (kept_in tables)
  pub blocks : are_stored (keys tables.graph.blocks) tables.elements.nodes.items ≡ true
  pub elements : (key : List ℕ) →
      SameMembers
      (filter (is_live (tomb_in tables key))
      (rows_in (keys tables.graph.blocks) tables.elements.nodes.items (last_in tables.elements.keys) key))
      (live_element_rows (processed (kept_in tables)) key)
  pub tombs : (key id : List ℕ) → tomb_in tables key id ≡ has_tomb (processed (kept_in tables)) key id
  pub values : (key : List ℕ) →
      row_in tables.elements.nodes.items (value_in tables.elements.keys) key
      ≡ value_row (processed (kept_in tables)) key
  pub covered : IsCovered (texts_in tables.elements.keys)
      (value_in tables.elements.keys) tables.values.ordered tables.values.pending.items
  pub there : AreThere tables.elements.nodes.items (value_in tables.elements.keys)
  pub gaps : (cid : Cid) → is_among tables.gaps.keys cid ≡ is_gap (processed (kept_in tables)) cid
  pub heads : (cid : Cid) → get same_cid tables.heads cid ≡ head_at (processed (kept_in tables)) cid

-- of each key whose winner row is there the value names a row of the block that gives the value
pub record HasWinners {S X : Type 0} {g : build.Ghosts S X} {h : hash.Ghosts X} (tables : Tables S X g h) : Type 0 where
  pub each : (key : List ℕ) → covers tables.layout key ≡ true →
      named_in (keys tables.graph.blocks) tables.elements.nodes.items (value_in tables.elements.keys) key
      ≡ who (processed (kept_in tables)) key

-- what the tables but those of winners need of changes, also of those of a migration
pub record CoreRows (blocks more : List Block) (changes : Changes) : Type 0 where
  pub elements : SameMembers changes.elements (element_rows more)
  pub tombs : (key id : List ℕ) →
      has_tomb (blocks ++ more) key id ≡ (has_tomb blocks key id || has_tomb_row changes.tombs key id)
  pub values : (key : List ℕ) → value_row (blocks ++ more) key ≡ values_after key (value_row blocks key) changes.values
  pub values_once : is_once (λ (a b : ValueChange). bytes_eq a.key b.key) changes.values ≡ true

pub record TableFits (kept : Kept) (changes : Changes) : Type 0 where
  pub rows : CoreRows (processed kept) (newly_processed kept changes) changes
  pub front : FrontFits (processed kept) (newly_processed kept changes) changes

-- each table has room for so many rows more
pub record RoomFor {S X : Type 0} {g : build.Ghosts S X} {h : hash.Ghosts X} (tables : Tables S X g h) (rows : ℕ)
    : Type 0 where
  pub blocks : rows ≤ map_spare tables.graph.blocks
  pub order : vec_len tables.graph.order + rows ≤ vec_capacity tables.graph.order
  pub gaps : rows ≤ set_spare tables.gaps
  pub heads : rows ≤ map_spare tables.heads
  pub nodes : vec_len tables.elements.nodes + rows ≤ vec_capacity tables.elements.nodes
  pub places : rows ≤ map_spare tables.elements.keys
  pub keys : rows ≤ set_spare tables.tombs.keys
  pub ids : rows ≤ set_spare tables.tombs.ids
  pub pairs : rows ≤ set_spare tables.tombs.pairs
  pub pending : vec_len tables.values.pending + rows ≤ vec_capacity tables.values.pending

-- the blocks to store and to process are new, those to process and those of rows are stored, and the changed values are
-- those of rows
pub record ChangesMeet {S X : Type 0} {g : build.Ghosts S X} {h : hash.Ghosts X} (tables : Tables S X g h)
    (changes : Changes) : Type 0 where
  pub new : list_any (λ (stored : Stored). is_stored (graph_of tables.graph.blocks) stored.cid) changes.store ≡ false
  pub once : is_once same_cid (cids_of changes.store) ≡ true
  pub stored : list_all (is_stored (graph_of tables.graph.blocks ++ changes.store)) changes.marks ≡ true
  pub fresh : are_fresh (order_in tables) changes.marks ≡ true
  pub covered : IsCovered (texts_in tables.elements.keys)
      (value_in tables.elements.keys) tables.values.ordered tables.values.pending.items
  pub elements : list_all
      (λ (row : ElementRow). is_stored (graph_of tables.graph.blocks ++ changes.store) row.cid) changes.elements ≡ true
  pub brought : (cids : List Cid) →
      list_all
      (is_brought
      (λ key. fold (with_element key)
      (rows_in cids tables.elements.nodes.items (last_in tables.elements.keys) key) changes.elements)) changes.values
      ≡ true
  pub met : (cids : List Cid) → cids ≡ keys tables.graph.blocks ++ cids_of changes.store →
      list_all
      (is_met (λ key. values_after key
      (row_in tables.elements.nodes.items (value_in tables.elements.keys) key) changes.values)
      (λ key. fold (with_element key)
      (rows_in cids tables.elements.nodes.items (last_in tables.elements.keys) key) changes.elements)) changes.winners
      ≡ true
  pub there : AreThere tables.elements.nodes.items (value_in tables.elements.keys)

pub record Applied {S X : Type 0} {g : build.Ghosts S X} {h : hash.Ghosts X} (old new : Tables S X g h)
    (changes : Changes) : Type 0 where
  pub graph : graph_of new.graph.blocks ≡ graph_of old.graph.blocks ++ changes.store
  pub order : order_in new ≡ order_in old ++ changes.marks
  pub mark : new.mark ≡ unwrap_or changes.mark old.mark
  pub gaps : (cid : Cid) →
      is_among new.gaps.keys cid
      ≡ fold (opened_by (order_in new) cid)
      (fold (closed_by cid) (is_among old.gaps.keys cid) changes.marks) changes.links
  pub heads : (cid : Cid) →
      get same_cid new.heads cid ≡ head_after cid (get same_cid old.heads cid) changes.heads_out changes.heads_in
  pub elements : (key : List ℕ) →
      rows_in (keys new.graph.blocks) new.elements.nodes.items (last_in new.elements.keys) key
      ≡ fold (with_element key)
      (rows_in (keys new.graph.blocks) old.elements.nodes.items (last_in old.elements.keys) key) changes.elements
  pub blocks : are_stored (keys new.graph.blocks) old.elements.nodes.items ≡ true →
      are_stored (keys new.graph.blocks) new.elements.nodes.items ≡ true
  pub tombs : (key id : List ℕ) → tomb_in new key id ≡ fold (with_tomb key id) (tomb_in old key id) changes.tombs
  pub layout : new.layout ≡ laid_to changes.two changes.upto old.layout
  pub named : (key : List ℕ) → (start : Option Cid)
      × (has_value_of changes.values key ≡ false →
      start ≡ named_in (keys new.graph.blocks) new.elements.nodes.items (value_in old.elements.keys) key)
      × (named_in (keys new.graph.blocks) new.elements.nodes.items (value_in new.elements.keys) key
      ≡ fold (named_after key) start changes.winners)
  pub stays : KeepsNodes old.elements.nodes.items new.elements.nodes.items
  pub values : (key : List ℕ) →
      row_in new.elements.nodes.items (value_in new.elements.keys) key
      ≡ values_after key (row_in new.elements.nodes.items (value_in old.elements.keys) key) changes.values
  pub covered : IsCovered (texts_in new.elements.keys)
      (value_in new.elements.keys) new.values.ordered new.values.pending.items
  pub there : AreThere new.elements.nodes.items (value_in old.elements.keys) →
      AreThere new.elements.nodes.items (value_in new.elements.keys)

-- the rows are the same, and there is no less room
pub record Reserved {S X : Type 0} {g : build.Ghosts S X} {h : hash.Ghosts X} (old new : Tables S X g h) : Type 0 where
  pub graph : graph_of new.graph.blocks ≡ graph_of old.graph.blocks
  pub order : order_in new ≡ order_in old
  pub mark : new.mark ≡ old.mark
  pub layout : new.layout ≡ old.layout
  pub gaps : new.gaps.keys ≡ old.gaps.keys
  pub heads : new.heads.entries ≡ old.heads.entries
  pub elements : (cids : List Cid) (key : List ℕ) →
      rows_in cids new.elements.nodes.items (last_in new.elements.keys) key
      ≡ rows_in cids old.elements.nodes.items (last_in old.elements.keys) key
  pub tombs : (key id : List ℕ) → tomb_in new key id ≡ tomb_in old key id
  pub nodes : new.elements.nodes.items ≡ old.elements.nodes.items
  pub values : (key : List ℕ) → value_in new.elements.keys key ≡ value_in old.elements.keys key
  pub texts : texts_in new.elements.keys ≡ texts_in old.elements.keys
  pub ordered : new.values.ordered ≡ old.values.ordered
  pub pending : new.values.pending.items ≡ old.values.pending.items
  pub blocks_room : map_spare old.graph.blocks ≤ map_spare new.graph.blocks
  pub order_len : vec_len new.graph.order ≡ vec_len old.graph.order
  pub order_room : vec_capacity old.graph.order ≤ vec_capacity new.graph.order
  pub gaps_room : set_spare old.gaps ≤ set_spare new.gaps
  pub heads_room : map_spare old.heads ≤ map_spare new.heads
  pub nodes_len : vec_len new.elements.nodes ≡ vec_len old.elements.nodes
  pub nodes_room : vec_capacity old.elements.nodes ≤ vec_capacity new.elements.nodes
  pub places_room : map_spare old.elements.keys ≤ map_spare new.elements.keys
  pub keys_room : set_spare old.tombs.keys ≤ set_spare new.tombs.keys
  pub ids_room : set_spare old.tombs.ids ≤ set_spare new.tombs.ids
  pub pairs_room : set_spare old.tombs.pairs ≤ set_spare new.tombs.pairs
  pub pending_len : vec_len new.values.pending ≤ vec_len old.values.pending
  pub pending_room : vec_capacity old.values.pending ≤ vec_capacity new.values.pending
