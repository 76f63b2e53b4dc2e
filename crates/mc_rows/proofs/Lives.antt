-- What lives of the rows of a key, against what lives of the blocks that the rows are of.
use Rattle.std.proofs.Common.{◌≡◌, ℕ, Bool, true, false, not, cond, List, [], ◌∷◌, ◌++◌, map, ◌||◌, ◌&&◌, sym, refl, ap, ◌∙◌, subst}
use Rattle.std.specs.Prelude.{filter, fold, Option, Some, None}
use Rattle.std.specs.List.{list_any}
use Rattle.std.specs.Str.{bytes_eq}
use Rattle.std.proofs.lemmas.List.Concat.{flat_map-append}
use Rattle.std.proofs.lemmas.List.Elements.{filter-append}
use Rattle.std.proofs.lemmas.List.{append-nil}
use Rattle.std.proofs.lemmas.Slice.Eq.{bytes_eq-Decides}
use Rattle.std.proofs.Math.Bool.{or-false}
use Rattle.std.proofs.lemmas.Bool.{and_parts, or_parts, or_right}
use Rattle.mc_base.specs.declared.cid.Cid.{Cid}
use Rattle.mc_model.specs.declared.block.Block.{Block}
use Rattle.mc_model.specs.Front.{same_cid}
use Rattle.mc_model.specs.Id.{id_text}
use Rattle.mc_model.specs.SameMembers.{SameMembers}
use Rattle.mc_model.specs.Rank.{same_ranked}
use Rattle.mc_model.specs.Who.{Placed, same_placed, topmost, higher, live_places, top_row}
use Rattle.mc_model.specs.Live.{has_tomb}
use Rattle.mc_model.proofs.Counts.{cid_is}
use Rattle.mc_model.proofs.Topmost.{topmost_of_fewer, topmost_same, topmost_none, topmost_member, topmost-append}
use Rattle.mc_model.proofs.Members.{same_flat_map, same_filter, same_append, any_agree}
use Rattle.mc_keep.specs.declared.rows.ElementRow.{ElementRow}
use Rattle.mc_keep.specs.declared.rows.TombRow.{TombRow}
use Rattle.mc_keep.specs.Changes.{has_tomb_row}
use Rattle.mc_keep.specs.Tables.{element_row, element_rows, element_rows_of}
use Rattle.mc_keep.specs.LiveRows.{placed_of, is_shown, live_element_rows, place_row, place_rows}
use Rattle.mc_keep.proofs.Lives.{place_rows-element_rows_of, place_rows_any}
use Rattle.mc_rows.specs.Hiding.{hides, rows_with, has_element_of, has_tomb_of, new_row, row_from, Stands}

rows_of_key-append : (blocks more : List Block) (key : List ℕ) → element_rows_of (blocks ++ more) key ≡ element_rows_of blocks key ++ element_rows_of more key
rows_of_key-append blocks more key =
    ap (filter (λ (row : ElementRow). bytes_eq row.key key)) (flat_map-append (λ (block : Block). map (element_row block) block.delta.elements) blocks more)
    ∙ filter-append (λ (row : ElementRow). bytes_eq row.key key) (element_rows blocks) (element_rows more)

-- what is hidden alike lives alike
place_rows_alike : (h h' : List ℕ → Bool) → ((id : List ℕ) → h id ≡ h' id) → (rows : List ElementRow) → place_rows h rows ≡ place_rows h' rows
place_rows_alike h h' same [] = refl
place_rows_alike h h' same (r ∷ rows) =
    ap (λ t. cond t [] (((r.priority, r.value), r.cid) ∷ []) ++ place_rows h rows) (same (id_text r.cid.0))
    ∙ ap (λ rest. place_row h' r ++ rest) (place_rows_alike h h' same rows)

-- where nothing lives, less does not either
nothing_lives : (h h' : List ℕ → Bool) → ((id : List ℕ) → h id ≡ true → h' id ≡ true) → (rows : List ElementRow) → place_rows h rows ≡ [] → place_rows h' rows ≡ []
nothing_lives h h' more [] e = refl
nothing_lives h h' more (r ∷ rows) e =
    elim (h (id_text r.cid.0)) as (λ t. h (id_text r.cid.0) ≡ t → cond t [] (((r.priority, r.value), r.cid) ∷ []) ++ place_rows h rows ≡ [] → place_rows h' (r ∷ rows) ≡ []) [
      | true ↦ λ t f. ap (λ u. cond u [] (((r.priority, r.value), r.cid) ∷ []) ++ place_rows h' rows) (more (id_text r.cid.0) t) ∙ nothing_lives h h' more rows f
      | false ↦ λ t f. absurd (let no : false ≡ true = ap is_empty f in cc)
    ] refl e
  where
    is_empty : List Placed → Bool
    is_empty [] = true
    is_empty (x ∷ xs) = false

-- the new row of a key is its value row over all blocks
pub new_row_is : (blocks more : List Block) (elements : List ElementRow) (tombs : List TombRow) (key : List ℕ) → SameMembers elements (element_rows more)
    → ((id : List ℕ) → hides blocks tombs key id ≡ has_tomb (blocks ++ more) key id) → new_row blocks elements tombs key ≡ top_row (blocks ++ more) key
new_row_is blocks more elements tombs key same alike =
    ap topmost (place_rows_alike (hides blocks tombs key) (has_tomb (blocks ++ more) key) alike (element_rows_of blocks key ++ rows_with elements key))
    ∙ topmost_same
    (place_rows (has_tomb (blocks ++ more) key) (element_rows_of blocks key ++ rows_with elements key))
    (place_rows (has_tomb (blocks ++ more) key) (element_rows_of blocks key ++ element_rows_of more key))
    (same_flat_map (place_row (has_tomb (blocks ++ more) key)) _ _
    (same_append (element_rows_of blocks key) (rows_with elements key) (element_rows_of more key) (same_filter (λ (row : ElementRow). bytes_eq row.key key) elements (element_rows more) same)))
    ∙ ap (λ rows. topmost (place_rows (has_tomb (blocks ++ more) key) rows)) (sym (rows_of_key-append blocks more key))
    ∙ ap topmost (place_rows-element_rows_of (blocks ++ more) (blocks ++ more) key)

-- rows without the key have no row of the key with an id
pub no_tomb_row : (rows : List TombRow) (key id : List ℕ) → has_tomb_of rows key ≡ false → has_tomb_row rows key id ≡ false
no_tomb_row [] key id e = refl
no_tomb_row (r ∷ rows) key id e =
    let parts = or_parts (bytes_eq r.key key) (has_tomb_of rows key) e in
    both_none (bytes_eq r.key key) (bytes_eq r.id id) (has_tomb_row rows key id) parts.0 (no_tomb_row rows key id parts.1)
  where
    both_none : (a b c : Bool) → a ≡ false → c ≡ false → ((a && b) || c) ≡ false
    both_none true b c e f = absurd (cc)
    both_none false b c e f = f

-- without a new tombstone of the key the old row stands
pub untouched_row_stands : (blocks : List Block) (tombs : List TombRow) (key : List ℕ) → has_tomb_of tombs key ≡ false → Stands blocks tombs key
untouched_row_stands blocks tombs key none =
    ap topmost (place_rows_alike (hides blocks tombs key) (has_tomb blocks key) (λ id. ap (λ b. b || has_tomb blocks key id) (no_tomb_row tombs key id none)) (element_rows_of blocks key))
    ∙ ap topmost (place_rows-element_rows_of blocks blocks key)

-- where there was no value there is none
pub no_row_stands : (blocks : List Block) (tombs : List TombRow) (key : List ℕ) → top_row blocks key ≡ None → Stands blocks tombs key
no_row_stands blocks tombs key none =
    ap topmost (nothing_lives (has_tomb blocks key) (hides blocks tombs key) (λ id e. or_right (has_tomb_row tombs key id) (has_tomb blocks key id) e) (element_rows_of blocks key) (place_rows-element_rows_of blocks blocks key ∙ topmost_none (live_places blocks key) none))
    ∙ sym none

-- less lives where more is hidden
fewer_live : (h h' : List ℕ → Bool) → ((id : List ℕ) → h id ≡ true → h' id ≡ true) → (test : Placed → Bool) (rows : List ElementRow) → list_any test (place_rows h rows) ≡ false → list_any test (place_rows h' rows) ≡ false
fewer_live h h' more test rows e = place_rows_any h' test rows ∙ fewer rows (sym (place_rows_any h test rows) ∙ e)
  where
    one : (a a' b : Bool) → (a ≡ true → a' ≡ true) → (not a && b) ≡ false → (not a' && b) ≡ false
    one a true b up f = refl
    one true false b up f = absurd (let no : false ≡ true = up refl in cc)
    one false false b up f = f

    fewer : (rows : List ElementRow) → list_any (λ (row : ElementRow). not (h (id_text row.cid.0)) && test (placed_of row)) rows ≡ false → list_any (λ (row : ElementRow). not (h' (id_text row.cid.0)) && test (placed_of row)) rows ≡ false
    fewer [] f = refl
    fewer (r ∷ rows) f =
        let parts = or_parts (not (h (id_text r.cid.0)) && test (placed_of r)) (list_any (λ (row : ElementRow). not (h (id_text row.cid.0)) && test (placed_of row)) rows) f in
        ap (λ b. b || list_any (λ (row : ElementRow). not (h' (id_text row.cid.0)) && test (placed_of row)) rows) (one (h (id_text r.cid.0)) (h' (id_text r.cid.0)) (test (placed_of r)) (more (id_text r.cid.0)) parts.0)
        ∙ fewer rows parts.1

and_with : (a b t : Bool) → (t ≡ true → a ≡ b) → (a && t) ≡ (b && t)
and_with true true t h = refl
and_with false false t h = refl
and_with true false true h = h refl
and_with true false false h = refl
and_with false true true h = h refl
and_with false true false h = refl

-- where the block that gives the value is not hidden, what counted still does
pub top_row_stands : (blocks : List Block) (tombs : List TombRow) (key : List ℕ) (placed : Placed) → top_row blocks key ≡ Some placed → has_tomb_row tombs key (id_text placed.1.0) ≡ false → Stands blocks tombs key
top_row_stands blocks tombs key placed is none =
    topmost_of_fewer (place_rows (has_tomb blocks key) (element_rows_of blocks key)) (place_rows (hides blocks tombs key) (element_rows_of blocks key)) placed
    top
    (λ test e. fewer_live (has_tomb blocks key) (hides blocks tombs key) (λ id e. or_right (has_tomb_row tombs key id) (has_tomb blocks key id) e) test (element_rows_of blocks key) e)
    (place_rows_any (hides blocks tombs key) (same_placed placed) (element_rows_of blocks key)
    ∙ sym (any_agree (λ (row : ElementRow). not (has_tomb blocks key (id_text row.cid.0)) && same_placed placed (placed_of row)) (λ (row : ElementRow). not (hides blocks tombs key (id_text row.cid.0)) && same_placed placed (placed_of row)) agree (element_rows_of blocks key))
    ∙ sym (place_rows_any (has_tomb blocks key) (same_placed placed) (element_rows_of blocks key))
    ∙ topmost_member (place_rows (has_tomb blocks key) (element_rows_of blocks key)) placed top)
    ∙ sym is
  where
    top : topmost (place_rows (has_tomb blocks key) (element_rows_of blocks key)) ≡ Some placed
    top = ap topmost (place_rows-element_rows_of blocks blocks key) ∙ is

    agree : (row : ElementRow) → (not (has_tomb blocks key (id_text row.cid.0)) && same_placed placed (placed_of row)) ≡ (not (hides blocks tombs key (id_text row.cid.0)) && same_placed placed (placed_of row))
    agree row = and_with (not (has_tomb blocks key (id_text row.cid.0))) (not (hides blocks tombs key (id_text row.cid.0))) (same_placed placed (placed_of row)) (λ e.
        let parts = and_parts (same_ranked placed.0 (placed_of row).0) (same_cid placed.1 row.cid) e in
        ap (λ b. not (b || has_tomb blocks key (id_text row.cid.0))) (sym (ap (λ (c : Cid). has_tomb_row tombs key (id_text c.0)) (sym (cid_is placed.1 row.cid parts.1)) ∙ none)))

-- what the new tombstones leave of the rows that were live
live_shown : (blocks : List Block) (tombs : List TombRow) (key : List ℕ) (rows : List ElementRow) → place_rows (has_tomb_row tombs key) (filter (is_shown blocks key) rows) ≡ place_rows (hides blocks tombs key) rows
live_shown blocks tombs key [] = refl
live_shown blocks tombs key (r ∷ rows) =
    elim (has_tomb blocks key (id_text r.cid.0)) as (λ b. place_rows (has_tomb_row tombs key) (cond (not b) (r ∷ filter (is_shown blocks key) rows) (filter (is_shown blocks key) rows))
    ≡ cond (has_tomb_row tombs key (id_text r.cid.0) || b) [] (placed_of r ∷ []) ++ place_rows (hides blocks tombs key) rows) [
      | true ↦ live_shown blocks tombs key rows ∙ sym (gone (has_tomb_row tombs key (id_text r.cid.0)))
      | false ↦
          ap (λ rest. place_row (has_tomb_row tombs key) r ++ rest) (live_shown blocks tombs key rows)
          ∙ ap (λ t. cond t [] (placed_of r ∷ []) ++ place_rows (hides blocks tombs key) rows) (sym (or-false (has_tomb_row tombs key (id_text r.cid.0))))
    ]
  where
    gone : (t : Bool) → cond (t || true) [] (placed_of r ∷ []) ++ place_rows (hides blocks tombs key) rows ≡ place_rows (hides blocks tombs key) rows
    gone true = refl
    gone false = refl

-- the row from all live old rows, and then the new ones
pub row_anew : (blocks : List Block) (tombs : List TombRow) (key : List ℕ) (rows run : List ElementRow) → SameMembers rows (live_element_rows blocks key)
    → fold higher (topmost (place_rows (has_tomb_row tombs key) rows)) (place_rows (hides blocks tombs key) run) ≡ row_from blocks run tombs key
row_anew blocks tombs key rows run same =
    ap (λ (old : Option Placed). fold higher old (place_rows (hides blocks tombs key) run))
    (topmost_same (place_rows (has_tomb_row tombs key) rows) (place_rows (has_tomb_row tombs key) (live_element_rows blocks key)) (same_flat_map (place_row (has_tomb_row tombs key)) _ _ same)
    ∙ ap topmost (live_shown blocks tombs key (element_rows_of blocks key)))
    ∙ sym (topmost-append (place_rows (hides blocks tombs key) (element_rows_of blocks key)) (place_rows (hides blocks tombs key) run))
    ∙ ap topmost (sym (flat_map-append (place_row (hides blocks tombs key)) (element_rows_of blocks key) run))

-- the row from the old one, and then the new ones
pub row_on : (blocks : List Block) (tombs : List TombRow) (key : List ℕ) (run : List ElementRow) → Stands blocks tombs key
    → fold higher (top_row blocks key) (place_rows (hides blocks tombs key) run) ≡ row_from blocks run tombs key
row_on blocks tombs key run stands =
    ap (λ (old : Option Placed). fold higher old (place_rows (hides blocks tombs key) run)) (sym stands)
    ∙ sym (topmost-append (place_rows (hides blocks tombs key) (element_rows_of blocks key)) (place_rows (hides blocks tombs key) run))
    ∙ ap topmost (sym (flat_map-append (place_row (hides blocks tombs key)) (element_rows_of blocks key) run))

-- a key of which nothing new speaks keeps its row
pub new_row_untouched : (blocks : List Block) (elements : List ElementRow) (tombs : List TombRow) (key : List ℕ) → has_element_of elements key ≡ false → has_tomb_of tombs key ≡ false
    → new_row blocks elements tombs key ≡ top_row blocks key
new_row_untouched blocks elements tombs key none none' =
    ap (λ rows. topmost (place_rows (hides blocks tombs key) (element_rows_of blocks key ++ rows))) (none_kept elements none)
    ∙ ap (λ rows. topmost (place_rows (hides blocks tombs key) rows)) (append-nil (element_rows_of blocks key))
    ∙ untouched_row_stands blocks tombs key none'
  where
    none_kept : (rows : List ElementRow) → has_element_of rows key ≡ false → rows_with rows key ≡ []
    none_kept [] e = refl
    none_kept (r ∷ rows) e =
        elim (bytes_eq r.key key) as (λ t. (t || has_element_of rows key) ≡ false → cond t (r ∷ rows_with rows key) (rows_with rows key) ≡ []) [
          | true ↦ λ h. absurd (let no : true ≡ false = h in cc)
          | false ↦ λ h. none_kept rows h
        ] e
