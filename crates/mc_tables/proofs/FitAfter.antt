-- What a commit leaves fits.
use Rattle.std.proofs.Common.{◌≡◌, ℕ, Bool, true, false, not, List, ◌++◌, map, ◌||◌, ◌&&◌, sym, refl, ap, ◌∙◌, subst}
use Rattle.std.specs.Prelude.{filter, fold}
use Rattle.std.specs.HashMap.{keys}
use Rattle.std.specs.List.{list_any}
use Rattle.std.specs.Str.{bytes_eq}
use Rattle.std.specs.declared.hash.BuildHasher as build
use Rattle.std.specs.declared.hash.Hasher as hash
use Rattle.std.proofs.lemmas.List.Folds.{list_any-append}
use Rattle.std.proofs.lemmas.List.Concat.{flat_map-append}
use Rattle.mc_base.specs.declared.cid.Cid.{Cid}
use Rattle.mc_model.specs.declared.block.Block.{Block}
use Rattle.mc_model.specs.Id.{id_text}
use Rattle.mc_model.specs.SameMembers.{SameMembers}
use Rattle.mc_model.specs.Front.{same_cid, is_among, is_linked, is_processed, is_gap, head_at}
use Rattle.mc_model.specs.Live.{has_tomb, value_row}
use Rattle.mc_model.specs.Kept.{Kept, IsKept, cids_of, processed}
use Rattle.mc_model.proofs.Blocks.{is_processed_has}
use Rattle.mc_model.proofs.Members.{any_agree, list_any-filter}
use Rattle.mc_keep.specs.declared.rows.ElementRow.{ElementRow}
use Rattle.mc_keep.specs.declared.changes.Changes.{Changes}
use Rattle.mc_model.specs.Layouts.{covers, winner_in}
use Rattle.mc_tables.specs.Winners.{has_value_of, named_in}
use Rattle.mc_keep.specs.Changes.{changed, newly_processed, has_tomb_row, has_winner_of, values_after, winners_after, head_after}
use Rattle.mc_keep.specs.LiveRows.{is_shown, live_element_rows}
use Rattle.mc_keep.specs.Tables.{element_row, element_rows, element_rows_of}
use Rattle.mc_tables.specs.Places.{last_in, value_in}
use Rattle.mc_tables.specs.declared.tables.Tables.{Tables}
use Rattle.mc_tables.specs.Chains.{is_live, rows_in, with_element}
use Rattle.mc_graph.specs.Front.{closed_by}
use Rattle.mc_tables.specs.Fits.{kept_in, order_in, tomb_in, Fits, HasWinners, TableFits, Applied}
use Rattle.mc_tables.proofs.Fit.{elements_put, tombs_put, closed_all, opened_all}
use Rattle.mc_tables.proofs.WinnerFacts.{named_kept, none_named, none_won, winner_holds}
use Rattle.mc_tables.proofs.StoredFacts.{keys_grown, rows_grown, rows_stay, still_stored}
use Rattle.mc_tables.proofs.ValueFacts.{row_kept, there_kept}

-- the rows of a key over further blocks
pub rows_of-append : (test : ElementRow → Bool) (key : List ℕ) (blocks more : List Block)
    → list_any test (element_rows_of (blocks ++ more) key) ≡ (list_any test (element_rows_of blocks key) || list_any (λ (row : ElementRow). bytes_eq row.key key && test row) (element_rows more))
rows_of-append test key blocks more =
    list_any-filter test (λ (row : ElementRow). bytes_eq row.key key) (element_rows (blocks ++ more))
    ∙ ap (list_any (λ (row : ElementRow). bytes_eq row.key key && test row)) (flat_map-append (λ (block : Block). map (element_row block) block.delta.elements) blocks more)
    ∙ list_any-append (λ (row : ElementRow). bytes_eq row.key key && test row) (element_rows blocks) (element_rows more)
    ∙ ap (λ t. t || list_any (λ (row : ElementRow). bytes_eq row.key key && test row) (element_rows more)) (sym (list_any-filter test (λ (row : ElementRow). bytes_eq row.key key) (element_rows blocks)))

-- what is processed over further blocks
pub processed_has : (kept : Kept) (changes : Changes) (cid : Cid) → is_processed (processed kept ++ newly_processed kept changes) cid ≡ (is_among kept.order cid || is_among changes.marks cid)
processed_has kept changes cid =
    list_any-append (λ (block : Block). same_cid cid block.cid) (processed kept) (newly_processed kept changes)
    ∙ ap (λ t. t || is_processed (newly_processed kept changes) cid) (is_processed_has kept.graph kept.order cid)
    ∙ ap (λ t. is_among kept.order cid || t) (is_processed_has (kept.graph ++ changes.store) changes.marks cid)

-- a gap over further blocks
gap_more : (linked order marks links : Bool) → (((linked && not order) && not marks) || (links && not (order || marks))) ≡ ((linked || links) && not (order || marks))
gap_more true true marks true = refl
gap_more true true marks false = refl
gap_more true false true true = refl
gap_more true false true false = refl
gap_more true false false links = refl
gap_more false order marks true = refl
gap_more false order marks false = refl

module _ {S X : Type 0} {g : build.Ghosts S X} {h : hash.Ghosts X} (old new : Tables S X g h) (changes : Changes) (fits : Fits old) (applied : Applied old new changes) (meet : TableFits (kept_in old) changes)
    (sound_after : IsKept (changed (kept_in old) changes)) (processed_after : processed (changed (kept_in old) changes) ≡ processed (kept_in old) ++ newly_processed (kept_in old) changes) where
  told_after : kept_in new ≡ changed (kept_in old) changes
  told_after = λ i. record { graph = applied.graph i; order = applied.order i; mark = applied.mark i }

  blocks_after : processed (kept_in new) ≡ processed (kept_in old) ++ newly_processed (kept_in old) changes
  blocks_after = ap processed told_after ∙ processed_after

  grown : keys new.graph.blocks ≡ keys old.graph.blocks ++ cids_of changes.store
  grown = keys_grown old.graph.blocks new.graph.blocks changes.store applied.graph

  rows_after : (key : List ℕ) → rows_in (keys new.graph.blocks) new.elements.nodes.items (last_in new.elements.keys) key
      ≡ fold (with_element key) (rows_in (keys old.graph.blocks) old.elements.nodes.items (last_in old.elements.keys) key) changes.elements
  rows_after key =
      applied.elements key
      ∙ ap (λ (rows : List ElementRow). fold (with_element key) rows changes.elements)
      (rows_grown (keys old.graph.blocks) (keys new.graph.blocks) (cids_of changes.store) grown old.elements.nodes.items fits.blocks (last_in old.elements.keys) key)

  tombs_after : (key id : List ℕ) → tomb_in new key id ≡ has_tomb (processed (kept_in new)) key id
  tombs_after key id =
      applied.tombs key id ∙ tombs_put key id (tomb_in old key id) changes.tombs ∙ ap (λ t. t || has_tomb_row changes.tombs key id) (fits.tombs key id)
      ∙ sym (meet.rows.tombs key id) ∙ ap (λ z. has_tomb z key id) (sym blocks_after)

  -- what is live after the commit was live before it
  still_hidden : (key : List ℕ) (row : ElementRow) → is_live (tomb_in new key) row ≡ true → is_live (tomb_in old key) row ≡ true
  still_hidden key row e = by (tomb_in old key (id_text row.cid.0)) refl
    where
      by : (b : Bool) → tomb_in old key (id_text row.cid.0) ≡ b → not (tomb_in old key (id_text row.cid.0)) ≡ true
      by true gone =
          let f : false ≡ true =
          ap (λ t. not (t || has_tomb_row changes.tombs key (id_text row.cid.0))) (sym gone)
          ∙ ap not (sym (applied.tombs key (id_text row.cid.0) ∙ tombs_put key (id_text row.cid.0) (tomb_in old key (id_text row.cid.0)) changes.tombs)) ∙ e in
          absurd (cc)
      by false free = ap not free

  both : (a b c : Bool) → (b ≡ true → a ≡ true) → (a && (b && c)) ≡ (b && c)
  both a true c up = ap (λ t. t && c) (up refl)
  both true false c up = refl
  both false false c up = refl

  -- whether a row is live after the commit, and passes a test
  abbrev passes : List ℕ → (ElementRow → Bool) → ElementRow → Bool
  passes key test row = is_live (tomb_in new key) row && test row

  old_rows : (key : List ℕ) (test : ElementRow → Bool) → list_any (passes key test) (rows_in (keys old.graph.blocks) old.elements.nodes.items (last_in old.elements.keys) key) ≡ list_any (passes key test) (element_rows_of (processed (kept_in old)) key)
  old_rows key test =
      sym (any_agree (λ row. is_live (tomb_in old key) row && passes key test row) (passes key test) (λ row. both (is_live (tomb_in old key) row) (is_live (tomb_in new key) row) (test row) (still_hidden key row)) (rows_in (keys old.graph.blocks) old.elements.nodes.items (last_in old.elements.keys) key))
      ∙ sym (list_any-filter (passes key test) (is_live (tomb_in old key)) (rows_in (keys old.graph.blocks) old.elements.nodes.items (last_in old.elements.keys) key))
      ∙ (fits.elements key).same (passes key test)
      ∙ list_any-filter (passes key test) (is_shown (processed (kept_in old)) key) (element_rows_of (processed (kept_in old)) key)
      ∙ any_agree (λ row. is_shown (processed (kept_in old)) key row && passes key test row) (passes key test)
      (λ row. ap (λ t. not t && passes key test row) (sym (fits.tombs key (id_text row.cid.0))) ∙ both (is_live (tomb_in old key) row) (is_live (tomb_in new key) row) (test row) (still_hidden key row)) (element_rows_of (processed (kept_in old)) key)

  elements_after : (key : List ℕ) → SameMembers (filter (is_live (tomb_in new key)) (rows_in (keys new.graph.blocks) new.elements.nodes.items (last_in new.elements.keys) key)) (live_element_rows (processed (kept_in new)) key)
  elements_after key = record {
    same = λ test.
        list_any-filter test (is_live (tomb_in new key)) (rows_in (keys new.graph.blocks) new.elements.nodes.items (last_in new.elements.keys) key)
        ∙ ap (list_any (passes key test)) (rows_after key)
        ∙ elements_put (passes key test) key (rows_in (keys old.graph.blocks) old.elements.nodes.items (last_in old.elements.keys) key) changes.elements
        ∙ ap (λ t. t || list_any (λ (row : ElementRow). bytes_eq row.key key && passes key test row) changes.elements) (old_rows key test)
        ∙ ap (λ t. list_any (passes key test) (element_rows_of (processed (kept_in old)) key) || t) (meet.rows.elements.same (λ (row : ElementRow). bytes_eq row.key key && passes key test row))
        ∙ sym (rows_of-append (passes key test) key (processed (kept_in old)) (newly_processed (kept_in old) changes))
        ∙ ap (λ z. list_any (passes key test) (element_rows_of z key)) (sym blocks_after)
        ∙ any_agree (passes key test) (λ row. is_shown (processed (kept_in new)) key row && test row) (λ row. ap (λ t. not t && test row) (tombs_after key (id_text row.cid.0))) (element_rows_of (processed (kept_in new)) key)
        ∙ sym (list_any-filter test (is_shown (processed (kept_in new)) key) (element_rows_of (processed (kept_in new)) key));
  }

  gaps_after : (cid : Cid) → is_among new.gaps.keys cid ≡ is_gap (processed (kept_in new)) cid
  gaps_after cid =
      applied.gaps cid
      ∙ opened_all (order_in new) cid (fold (closed_by cid) (is_among old.gaps.keys cid) changes.marks) changes.links
      ∙ ap (λ t. t || (is_among changes.links cid && not (is_among (order_in new) cid))) (closed_all cid (is_among old.gaps.keys cid) changes.marks)
      ∙ ap (λ t. (t && not (is_among changes.marks cid)) || (is_among changes.links cid && not (is_among (order_in new) cid))) (fits.gaps cid ∙ ap (λ t. is_linked (processed (kept_in old)) cid && not t) (is_processed_has (kept_in old).graph (kept_in old).order cid))
      ∙ ap (λ t. ((is_linked (processed (kept_in old)) cid && not (is_among (order_in old) cid)) && not (is_among changes.marks cid)) || (is_among changes.links cid && not t)) (ap (λ z. is_among z cid) applied.order ∙ list_any-append (same_cid cid) (order_in old) changes.marks)
      ∙ gap_more (is_linked (processed (kept_in old)) cid) (is_among (order_in old) cid) (is_among changes.marks cid) (is_among changes.links cid)
      ∙ ap (λ t. t && not (is_among (order_in old) cid || is_among changes.marks cid)) (sym (meet.front.links cid))
      ∙ ap (λ t. is_linked (processed (kept_in old) ++ newly_processed (kept_in old) changes) cid && not t) (sym (processed_has (kept_in old) changes cid))
      ∙ ap (λ z. is_gap z cid) (sym blocks_after)

  pub fits_after : Fits new
  fits_after = record {
    kept = subst IsKept (sym told_after) sound_after;
    blocks = applied.blocks (still_stored (keys old.graph.blocks) (keys new.graph.blocks) (cids_of changes.store) grown old.elements.nodes.items fits.blocks);
    elements = elements_after;
    tombs = tombs_after;
    values = λ key.
        applied.values key
        ∙ ap (λ z. values_after key z changes.values) (row_kept old.elements.nodes.items new.elements.nodes.items (value_in old.elements.keys) applied.stays fits.there key ∙ fits.values key) ∙ sym (meet.rows.values key) ∙ ap (λ z. value_row z key) (sym blocks_after);
    covered = applied.covered;
    there = applied.there (there_kept old.elements.nodes.items new.elements.nodes.items (value_in old.elements.keys) applied.stays fits.there);
    gaps = gaps_after;
    heads = λ cid. applied.heads cid ∙ ap (λ z. head_after cid z changes.heads_out changes.heads_in) (fits.heads cid) ∙ sym (meet.front.heads cid) ∙ ap (λ z. head_at z cid) (sym blocks_after);
  }

  -- what the values name after the commit are the blocks that give them
  pub winners_after_commit : HasWinners old → ((key : List ℕ) → covers new.layout key ≡ true
      → winner_in new.layout (processed (kept_in old) ++ newly_processed (kept_in old) changes) key ≡ winners_after key (winner_in old.layout (processed (kept_in old)) key) changes.winners)
      → ((key : List ℕ) → has_winner_of changes.winners key ≡ false → has_value_of changes.values key ≡ false) → HasWinners new
  winners_after_commit held won alone = record {
    each = λ key there.
        let named = applied.named key in
        winner_holds old.layout new.layout (processed (kept_in old)) (processed (kept_in new)) key changes.winners
        (named_in (keys old.graph.blocks) old.elements.nodes.items (value_in old.elements.keys) key) named.0
        (named_in (keys new.graph.blocks) new.elements.nodes.items (value_in new.elements.keys) key)
        there
        (ap (λ z. winner_in new.layout z key) blocks_after ∙ won key there)
        (held.each key)
        (λ none. named.1 (alone key none)
        ∙ named_kept (keys old.graph.blocks) (keys new.graph.blocks) old.elements.nodes.items new.elements.nodes.items (value_in old.elements.keys)
        (rows_stay (keys old.graph.blocks) (keys new.graph.blocks) (cids_of changes.store) grown old.elements.nodes.items fits.blocks new.elements.nodes.items applied.stays)
        fits.there key)
        named.2
        (λ none. none_named (keys new.graph.blocks) new.elements.nodes.items (value_in new.elements.keys) key (fits_after.values key ∙ none_won (processed (kept_in new)) key none));
  }
