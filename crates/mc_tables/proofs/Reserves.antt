-- What more room leaves fits.
use Rattle.std.proofs.Common.{◌≡◌, ℕ, ◌+◌, ◌≤◌, arith, not, ◌&&◌, ◌||◌, List, length, Option, Some, None, refl, sym, ap, ◌∙◌, subst}
use Rattle.std.specs.BTreeSet.{contains_text}
use Rattle.std.specs.Prelude.{filter, is_some, nat_lt, slice_get, vec_len, vec_capacity}
use Rattle.std.specs.List.{list_all, list_any}
use Rattle.std.specs.Map.{lookup}
use Rattle.std.specs.Option.{option_map, option_and_then}
use Rattle.std.specs.HashMap.{keys, spare as map_spare}
use Rattle.std.specs.declared.hash.BuildHasher as build
use Rattle.std.specs.declared.hash.Hasher as hash
use Rattle.std.proofs.Math.Nat.{le_trans}
use Rattle.mc_base.specs.declared.cid.Cid.{Cid}
use Rattle.mc_model.specs.Front.{same_cid, is_among, is_gap, head_at}
use Rattle.mc_model.specs.Id.{id_text}
use Rattle.mc_model.specs.Live.{has_tomb, value_row}
use Rattle.mc_model.proofs.Members.{any_agree, list_any-filter}
use Rattle.mc_model.specs.Kept.{Kept, IsKept, processed}
use Rattle.mc_keep.specs.declared.rows.ElementRow.{ElementRow}
use Rattle.mc_keep.specs.LiveRows.{live_element_rows, ranked_of}
use Rattle.mc_tables.specs.Places.{last_in, value_in, texts_in}
use Rattle.mc_tables.specs.declared.elements.Elements.{Elements}
use Rattle.mc_tables.specs.declared.tables.Tables.{Tables}
use Rattle.mc_tables.specs.Chains.{are_stored, is_live, row_at, rows_in, Pruned}
use Rattle.mc_tables.specs.declared.elements.Node.{Node}
use Rattle.mc_model.specs.declared.layout.Layout.{Layout}
use Rattle.mc_model.specs.Layouts.{covers}
use Rattle.mc_model.specs.Who.{who}
use Rattle.mc_tables.specs.Winners.{named_in}
use Rattle.mc_tables.specs.Fits.{kept_in, tomb_in, Fits, HasWinners, RoomFor, Reserved}
use Rattle.mc_tables.specs.Values.{ranked_in, waits_in, AreThere, IsCovered}
use Rattle.mc_tables.proofs.StoredFacts.{keys_same}
use Rattle.mc_tables.proofs.ValueFacts.{ranked_row, some_node, there_same}

module _ {S X : Type 0} {g : build.Ghosts S X} {h : hash.Ghosts X} (old new : Tables S X g h) (reserved : Reserved old new) where
  told_same : kept_in new ≡ kept_in old
  told_same = λ i. record { graph = reserved.graph i; order = reserved.order i; mark = reserved.mark i }

  same_cids : keys new.graph.blocks ≡ keys old.graph.blocks
  same_cids = keys_same old.graph.blocks new.graph.blocks reserved.graph

  same_rows : (key : List ℕ) → rows_in (keys new.graph.blocks) new.elements.nodes.items (last_in new.elements.keys) key ≡ rows_in (keys old.graph.blocks) old.elements.nodes.items (last_in old.elements.keys) key
  same_rows key = ap (λ (z : List Cid). rows_in z new.elements.nodes.items (last_in new.elements.keys) key) same_cids ∙ reserved.elements (keys old.graph.blocks) key

  pub fits_reserved : Fits old → Fits new
  fits_reserved fits = record {
    kept = subst IsKept (sym told_same) fits.kept;
    blocks = ap (λ (z : List Cid). are_stored z new.elements.nodes.items) same_cids ∙ ap (are_stored (keys old.graph.blocks)) reserved.nodes ∙ fits.blocks;
    elements = λ key. record {
      same = λ test.
          list_any-filter test (is_live (tomb_in new key)) (rows_in (keys new.graph.blocks) new.elements.nodes.items (last_in new.elements.keys) key)
          ∙ ap (list_any (λ (row : ElementRow). is_live (tomb_in new key) row && test row)) (same_rows key)
          ∙ any_agree (λ (row : ElementRow). is_live (tomb_in new key) row && test row) (λ (row : ElementRow). is_live (tomb_in old key) row && test row) (λ (row : ElementRow). ap (λ t. not t && test row) (reserved.tombs key (id_text row.cid.0))) (rows_in (keys old.graph.blocks) old.elements.nodes.items (last_in old.elements.keys) key)
          ∙ sym (list_any-filter test (is_live (tomb_in old key)) (rows_in (keys old.graph.blocks) old.elements.nodes.items (last_in old.elements.keys) key))
          ∙ (fits.elements key).same test ∙ ap (λ (z : Kept). list_any test (live_element_rows (processed z) key)) (sym told_same);
    };
    tombs = λ key id. reserved.tombs key id ∙ fits.tombs key id ∙ ap (λ (z : Kept). has_tomb (processed z) key id) (sym told_same);
    values = λ key.
        ap (λ z. option_map ranked_in (option_and_then (slice_get z) (value_in new.elements.keys key))) reserved.nodes
        ∙ ap (λ z. option_map ranked_in (option_and_then (slice_get old.elements.nodes.items) z)) (reserved.values key)
        ∙ fits.values key ∙ ap (λ (z : Kept). value_row (processed z) key) (sym told_same);
    covered = record {
      each = λ key has.
          ap (λ z. contains_text z key || waits_in (texts_in new.elements.keys) new.values.pending.items key) reserved.ordered
          ∙ ap (λ z. contains_text old.values.ordered key || waits_in z new.values.pending.items key) reserved.texts
          ∙ ap (λ z. contains_text old.values.ordered key || waits_in (texts_in old.elements.keys) z key) reserved.pending
          ∙ fits.covered.each key (sym (ap is_some (reserved.values key)) ∙ has);
      exact = λ key there. ap is_some (reserved.values key) ∙ fits.covered.exact key (ap (λ z. contains_text z key) (sym reserved.ordered) ∙ there);
    };
    there = there_same old.elements.nodes.items new.elements.nodes.items (value_in old.elements.keys) (value_in new.elements.keys) reserved.nodes reserved.values fits.there;
    gaps = λ cid. ap (λ (z : List Cid). is_among z cid) reserved.gaps ∙ fits.gaps cid ∙ ap (λ (z : Kept). is_gap (processed z) cid) (sym told_same);
    heads = λ cid. ap (λ (z : List (Cid × ℕ)). lookup (same_cid cid) z) reserved.heads ∙ fits.heads cid ∙ ap (λ (z : Kept). head_at (processed z) cid) (sym told_same);
  }

  pub winners_reserved : Fits old → HasWinners old → HasWinners new
  winners_reserved fits held = record {
    each = λ key there.
        ap (λ (z : List Cid). named_in z new.elements.nodes.items (value_in new.elements.keys) key) same_cids
        ∙ ap (λ (z : List Node). named_in (keys old.graph.blocks) z (value_in new.elements.keys) key) reserved.nodes
        ∙ ap (λ z. option_map (λ (row : ElementRow). row.cid) (option_and_then (row_at (keys old.graph.blocks) old.elements.nodes.items key) z)) (reserved.values key)
        ∙ held.each key (ap (λ (y : Layout). covers y key) (sym reserved.layout) ∙ there) ∙ ap (λ (z : Kept). who (processed z) key) (sym told_same);
  }

  pub room_reserved : (rows : ℕ) → RoomFor old rows → RoomFor new rows
  room_reserved rows room = record {
    blocks = le_trans room.blocks reserved.blocks_room;
    order = fewer rows (vec_len new.graph.order) (vec_len old.graph.order) (vec_capacity old.graph.order) (vec_capacity new.graph.order) (let same = reserved.order_len in omega (arith, same)) room.order reserved.order_room;
    gaps = le_trans room.gaps reserved.gaps_room;
    heads = le_trans room.heads reserved.heads_room;
    nodes = le_trans (subst (λ (z : ℕ). z + rows ≤ vec_capacity old.elements.nodes) (sym reserved.nodes_len) room.nodes) reserved.nodes_room;
    places = le_trans room.places reserved.places_room;
    keys = le_trans room.keys reserved.keys_room;
    ids = le_trans room.ids reserved.ids_room;
    pairs = le_trans room.pairs reserved.pairs_room;
    pending = fewer rows (vec_len new.values.pending) (vec_len old.values.pending) (vec_capacity old.values.pending) (vec_capacity new.values.pending) reserved.pending_len room.pending reserved.pending_room;
  }
    where
      fewer : (rows len before room more : ℕ) → len ≤ before → before + rows ≤ room → room ≤ more → len + rows ≤ more
      fewer rows len before room more less fit larger = grind (arith, less, fit, larger)

-- rows that are hidden may be passed over
pub fits_pruned : {S X : Type 0} {g : build.Ghosts S X} {h : hash.Ghosts X} (old : Tables S X g h) (elements : Elements S X g h) → Pruned (keys old.graph.blocks) (tomb_in old) old.elements.nodes.items elements.nodes.items (last_in old.elements.keys)
    → elements.keys ≡ old.elements.keys → Fits old → Fits (record old { elements = elements })
fits_pruned old elements pruned same fits = record {
  kept = fits.kept;
  blocks = ap (list_all (λ place. nat_lt place (length (keys old.graph.blocks)))) pruned.blocks ∙ fits.blocks;
  elements = λ key. record {
    same = λ test.
        ap (λ z. list_any test (filter (is_live (tomb_in old key)) (rows_in (keys old.graph.blocks) elements.nodes.items (last_in z) key))) same
        ∙ ap (list_any test) (pruned.live key) ∙ (fits.elements key).same test;
  };
  tombs = fits.tombs;
  values = λ key.
      ap (λ z. option_map ranked_in (option_and_then (slice_get elements.nodes.items) (value_in z key))) same
      ∙ pruned_value key (value_in old.elements.keys key) ∙ fits.values key;
  covered = subst (λ z. IsCovered (texts_in z) (value_in z) old.values.ordered old.values.pending.items) (sym same) fits.covered;
  there = subst (λ z. AreThere elements.nodes.items (value_in z)) (sym same) (record { each = λ key. pruned_there key (value_in old.elements.keys key) ∙ fits.there.each key });
  gaps = fits.gaps;
  heads = fits.heads;
}
  where
    pruned_value : (key : List ℕ) (value : Option ℕ)
        → option_map ranked_in (option_and_then (slice_get elements.nodes.items) value) ≡ option_map ranked_in (option_and_then (slice_get old.elements.nodes.items) value)
    pruned_value key None = refl
    pruned_value key (Some place) =
        ranked_row (keys old.graph.blocks) key (slice_get elements.nodes.items place) ∙ ap (option_map ranked_of) (pruned.same key place)
        ∙ sym (ranked_row (keys old.graph.blocks) key (slice_get old.elements.nodes.items place))

    pruned_there : (key : List ℕ) (value : Option ℕ) → is_some (option_and_then (slice_get elements.nodes.items) value) ≡ is_some (option_and_then (slice_get old.elements.nodes.items) value)
    pruned_there key None = refl
    pruned_there key (Some place) =
        some_node (keys old.graph.blocks) key (slice_get elements.nodes.items place) ∙ ap is_some (pruned.same key place)
        ∙ sym (some_node (keys old.graph.blocks) key (slice_get old.elements.nodes.items place))

pub room_pruned : {S X : Type 0} {g : build.Ghosts S X} {h : hash.Ghosts X} (old : Tables S X g h) (elements : Elements S X g h) (rows : ℕ) → elements.keys ≡ old.elements.keys
    → vec_len elements.nodes ≡ vec_len old.elements.nodes → vec_capacity elements.nodes ≡ vec_capacity old.elements.nodes → RoomFor old rows → RoomFor (record old { elements = elements }) rows
room_pruned old elements rows keys len capacity room = record {
  blocks = room.blocks;
  order = room.order;
  gaps = room.gaps;
  heads = room.heads;
  nodes = subst (λ z. z + rows ≤ vec_capacity elements.nodes) (sym len) (subst (λ z. vec_len old.elements.nodes + rows ≤ z) (sym capacity) room.nodes);
  places = subst (λ z. rows ≤ map_spare z) (sym keys) room.places;
  keys = room.keys;
  ids = room.ids;
  pairs = room.pairs;
  pending = room.pending;
}

pub winners_pruned : {S X : Type 0} {g : build.Ghosts S X} {h : hash.Ghosts X} (old : Tables S X g h) (elements : Elements S X g h) → Pruned (keys old.graph.blocks) (tomb_in old) old.elements.nodes.items elements.nodes.items (last_in old.elements.keys)
    → elements.keys ≡ old.elements.keys → HasWinners old → HasWinners (record old { elements = elements })
winners_pruned old elements pruned same held = record {
  each = λ key there.
      ap (λ z. named_in (keys old.graph.blocks) elements.nodes.items (value_in z) key) same ∙ one key (value_in old.elements.keys key) ∙ held.each key there;
}
  where
    one : (key : List ℕ) (value : Option ℕ) → option_map (λ (row : ElementRow). row.cid) (option_and_then (row_at (keys old.graph.blocks) elements.nodes.items key) value) ≡ option_map (λ (row : ElementRow). row.cid) (option_and_then (row_at (keys old.graph.blocks) old.elements.nodes.items key) value)
    one key None = refl
    one key (Some place) = ap (option_map (λ (row : ElementRow). row.cid)) (pruned.same key place)
