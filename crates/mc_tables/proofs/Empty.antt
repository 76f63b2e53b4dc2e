-- Empty tables fit.
use Rattle.std.proofs.Common.{◌≡◌, ℕ, Bool, true, false, List, [], None, map, sym, refl, ap, ◌∙◌, subst}
use Rattle.std.specs.Prelude.{filter, is_some, slice_get}
use Rattle.std.specs.List.{list_any}
use Rattle.std.specs.HashMap.{keys as map_keys}
use Rattle.std.specs.Map.{lookup}
use Rattle.std.specs.Option.{option_map, option_and_then}
use Rattle.std.specs.Str.{bytes_eq}
use Rattle.std.specs.String.{string_bytes}
use Rattle.std.specs.Ordering.{is_eq, nat_cmp}
use Rattle.std.specs.Cmp.Lexicographic.{slice_cmp}
use Rattle.std.specs.declared.hash.BuildHasher as build
use Rattle.std.specs.declared.hash.Hasher as hash
use Rattle.mc_model.specs.Front.{same_cid, is_among, is_gap, head_at}
use Rattle.mc_model.specs.Live.{has_tomb, value_row}
use Rattle.mc_model.specs.Kept.{Kept, IsKept, processed}
use Rattle.mc_model.specs.Who.{who}
use Rattle.mc_keep.specs.declared.rows.ElementRow.{ElementRow}
use Rattle.mc_keep.specs.LiveRows.{live_element_rows}
use Rattle.mc_tables.specs.Places.{last_in, value_in}
use Rattle.mc_tables.specs.declared.places.Places.{Places}
use Rattle.mc_tables.specs.declared.tables.Tables.{Tables}
use Rattle.mc_tables.specs.Chains.{are_stored, is_live, row_at, rows_in}
use Rattle.mc_tables.specs.Fits.{kept_in, tomb_in, Fits, HasWinners}
use Rattle.mc_graph.specs.Graph.{cid_in, stored_of}
use Rattle.mc_tombs.specs.Tombs.{same_pair, number_of}
use Rattle.mc_tables.specs.Values.{ranked_in}

abbrev empty : Bool → Kept
empty mark = record { graph = []; order = []; mark = mark }

module _ {S X : Type 0} {g : build.Ghosts S X} {h : hash.Ghosts X} (tables : Tables S X g h)
    (blocks : tables.graph.blocks.entries ≡ []) (order : tables.graph.order.items ≡ []) (gaps : tables.gaps.keys ≡ []) (heads : tables.heads.entries ≡ [])
    (nodes : tables.elements.nodes.items ≡ []) (pairs : tables.tombs.pairs.keys ≡ []) (keys : tables.elements.keys.entries ≡ [])
    (ordered : tables.values.ordered.keys ≡ []) where
  told : kept_in tables ≡ empty tables.mark
  told = λ i. record { graph = ap (map stored_of) blocks i; order = ap (map (cid_in (map_keys tables.graph.blocks))) order i; mark = tables.mark }

  none : processed (kept_in tables) ≡ []
  none = ap processed told

  no_value : (key : List ℕ) → value_in tables.elements.keys key ≡ None
  no_value key = ap (λ z. option_and_then (λ (places : Places). places.value) (lookup (λ k. bytes_eq key (string_bytes k)) z)) keys

  pub fits_empty : Fits tables
  fits_empty = record {
    kept = subst IsKept (sym told) (record { good = refl; stored_once = refl; order_once = refl; stored = refl });
    blocks = ap (are_stored (map_keys tables.graph.blocks)) nodes;
    elements = λ key. record { same = λ test. ap (λ z. list_any test (filter (is_live (tomb_in tables key)) (rows_in (map_keys tables.graph.blocks) z (last_in tables.elements.keys) key))) nodes ∙ ap (λ z. list_any test (live_element_rows z key)) (sym none) };
    tombs = λ key id.
        ap (list_any (same_pair (number_of tables.tombs.keys.keys key, number_of tables.tombs.ids.keys id))) pairs ∙ ap (λ z. has_tomb z key id) (sym none);
    values = λ key. ap (λ z. option_map ranked_in (option_and_then (slice_get tables.elements.nodes.items) z)) (no_value key) ∙ ap (λ z. value_row z key) (sym none);
    covered = record {
      each = λ key some. absurd (let f : false ≡ true = sym (ap is_some (no_value key)) ∙ some in cc);
      exact = λ key there. absurd (let f : false ≡ true = sym (ap (list_any (λ k. is_eq (slice_cmp nat_cmp key (string_bytes k)))) ordered) ∙ there in cc);
    };
    there = record {
      each = λ key. ap (λ z. is_some (option_and_then (slice_get tables.elements.nodes.items) z)) (no_value key) ∙ ap is_some (sym (no_value key));
    };
    gaps = λ cid. ap (λ z. is_among z cid) gaps ∙ ap (λ z. is_gap z cid) (sym none);
    heads = λ cid. ap (lookup (same_cid cid)) heads ∙ ap (λ z. head_at z cid) (sym none);
  }

  pub winners_empty : HasWinners tables
  winners_empty = record {
    each = λ key there.
        ap (λ z. option_map (λ (row : ElementRow). row.cid) (option_and_then (row_at (map_keys tables.graph.blocks) tables.elements.nodes.items key) z)) (no_value key)
        ∙ ap (λ z. who z key) (sym none);
  }
