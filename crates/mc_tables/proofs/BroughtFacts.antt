-- The rows that the changes of a commit bring are of stored blocks, and the values those of rows of their keys.
use Rattle.std.proofs.Common.{◌≡◌, ℕ, ◌<◌, get_or, Bool, true, false, not, cond, List, [], ◌∷◌, ◌++◌, ◌&&◌, ◌||◌, map, length, inl, inr, Option, Some, None, sym, refl, ap, ◌∙◌}
use Rattle.std.specs.Prelude.{fold, is_some, if◌then◌else◌}
use Rattle.std.specs.List.{list_all, list_any}
use Rattle.std.specs.Option.{option_map}
use Rattle.std.specs.HashMap.{keys}
use Rattle.std.specs.Str.{bytes_eq}
use Rattle.std.specs.declared.hash.BuildHasher as build
use Rattle.std.specs.declared.hash.Hasher as hash
use Rattle.std.proofs.lemmas.Bool.{and_from, and_parts, not-true, or_cases, or_left, or_parts, or_right}
use Rattle.std.proofs.lemmas.Cmp.{nat_list_eq_equiv}
use Rattle.std.proofs.lemmas.List.Folds.{list_all_at, list_any-append}
use Rattle.std.proofs.lemmas.Slice.Eq.{bytes_eq-Decides}
use Rattle.mc_base.specs.declared.cid.Cid.{Cid}
use Rattle.mc_model.specs.declared.block.Block.{Block}
use Rattle.mc_model.specs.declared.delta.Element.{Element}
use Rattle.mc_model.specs.Ascending.{is_once}
use Rattle.mc_model.specs.Front.{is_among, is_processed, same_cid}
use Rattle.mc_model.specs.Id.{id_text}
use Rattle.mc_model.specs.Kept.{Kept, cids_of, is_stored, processed}
use Rattle.mc_model.specs.Live.{has_tomb, value_row}
use Rattle.mc_model.specs.Rank.{Ranked, same_ranked}
use Rattle.mc_model.proofs.Blocks.{is_processed_has}
use Rattle.mc_model.proofs.Counts.{cid_is, cid_itself}
use Rattle.mc_model.proofs.Members.{any_agree, list_any-filter}
use Rattle.mc_model.proofs.Topmost.{topmost_member}
use Rattle.mc_model.proofs.WhoFacts.{ranked_in_place, block_in_place, value_is_top}
use Rattle.mc_model.specs.Who.{Placed, same_placed, topmost, top_row, who}
use Rattle.mc_keep.specs.declared.changes.Changes.{Changes}
use Rattle.mc_keep.specs.declared.changes.ValueChange.{ValueChange}
use Rattle.mc_keep.specs.declared.rows.ElementRow.{ElementRow}
use Rattle.mc_keep.specs.declared.rows.RankedValue.{RankedValue}
use Rattle.mc_keep.specs.Changes.{has_tomb_row, newly_processed, ranked_value, value_after, values_after, winners_after}
use Rattle.mc_keep.specs.LiveRows.{is_row_of, is_shown, placed_of, place_rows, ranked_of}
use Rattle.mc_keep.proofs.Lives.{place_rows-element_rows_of, place_rows_any}
use Rattle.mc_keep.specs.declared.changes.WinnerChange.{WinnerChange}
use Rattle.mc_keep.specs.Tables.{element_row, element_rows, element_rows_of, ChangesFit}
use Rattle.mc_tables.specs.Places.{last_in, value_in}
use Rattle.mc_tables.specs.declared.elements.Node.{Node}
use Rattle.mc_tables.specs.declared.tables.Tables.{Tables}
use Rattle.mc_tables.specs.Chains.{chain, is_live, row_of_node, rows_in, with_element}
use Rattle.mc_tables.specs.Fits.{kept_in, tomb_in, Fits, TableFits}
use Rattle.mc_tables.specs.Winners.{has_row_of, is_met}
use Rattle.mc_tables.proofs.StoredFacts.{rows_grown}
use Rattle.mc_tables.proofs.WinnerFacts.{all_met}
use Rattle.mc_tables.specs.Values.{is_brought, ranked_in, row_in, row_with}
use Rattle.mc_tables.proofs.Fit.{elements_put}
use Rattle.mc_tables.proofs.FitAfter.{rows_of-append}
use Rattle.mc_tables.proofs.FoundFacts.{is_found, some_row}

-- an identifier that is one of these passes where all of them do
among_all : (test : Cid → Bool) (cids : List Cid) (cid : Cid) → list_all test cids ≡ true → is_among cids cid ≡ true → test cid ≡ true
among_all test [] cid all among = absurd (let f : false ≡ true = among in cc)
among_all test (c ∷ cids) cid all among =
    let parts = and_parts (test c) (list_all test cids) all in
    elim (or_cases (same_cid cid c) (is_among cids cid) among) [
      | inl here ↦ ap test (cid_is cid c here) ∙ parts.0
      | inr there ↦ among_all test cids cid parts.1 there
    ]

-- the rows of blocks pass where the identifiers of the blocks do
rows_pass : (test : Cid → Bool) (blocks : List Block) → ((cid : Cid) → is_processed blocks cid ≡ true → test cid ≡ true) → list_any (λ (row : ElementRow). not (test row.cid)) (element_rows blocks) ≡ false
rows_pass test [] all = refl
rows_pass test (block ∷ blocks) all =
    list_any-append (λ (row : ElementRow). not (test row.cid)) (map (element_row block) block.delta.elements) (element_rows blocks)
    ∙ ap (λ t. t || list_any (λ (row : ElementRow). not (test row.cid)) (element_rows blocks)) (own block.delta.elements)
    ∙ rows_pass test blocks (λ cid there. all cid (or_right (same_cid cid block.cid) (is_processed blocks cid) there))
  where
    own : (elements : List Element) → list_any (λ (row : ElementRow). not (test row.cid)) (map (element_row block) elements) ≡ false
    own [] = refl
    own (element ∷ elements) =
        ap (λ t. not t || list_any (λ (row : ElementRow). not (test row.cid)) (map (element_row block) elements))
        (all block.cid (or_left (same_cid block.cid block.cid) (is_processed blocks block.cid) (cid_itself block.cid)))
        ∙ own elements

all_pass : (test : ElementRow → Bool) (rows : List ElementRow) → list_any (λ row. not (test row)) rows ≡ false → list_all test rows ≡ true
all_pass test [] none = refl
all_pass test (row ∷ rows) none =
    let parts = or_parts (not (test row)) (list_any (λ r. not (test r)) rows) none in
    and_from (test row) (list_all test rows) (by (test row) parts.0) (all_pass test rows parts.1)
  where
    by : (b : Bool) → not b ≡ false → b ≡ true
    by true e = refl
    by false e = absurd (let f : true ≡ false = e in cc)

-- the rows of the changes are of blocks that are stored after them
pub rows_stored : (kept : Kept) (changes : Changes) → ChangesFit kept changes → list_all (λ (row : ElementRow). is_stored (kept.graph ++ changes.store) row.cid) changes.elements ≡ true
rows_stored kept changes meet =
    let graph = kept.graph ++ changes.store in
    all_pass (λ (row : ElementRow). is_stored graph row.cid) changes.elements
    (meet.rows.elements.same (λ (row : ElementRow). not (is_stored graph row.cid))
    ∙ rows_pass (is_stored graph) (newly_processed kept changes)
    (λ cid there. among_all (is_stored graph) changes.marks cid meet.marks.stored (sym (is_processed_has graph changes.marks cid) ∙ there)))

-- which values the rows of nodes have doesn't depend on the identifiers
any_ranked : (a b : List Cid) (test : Ranked → Bool) (key : List ℕ) (nodes : List Node)
    → list_any (λ (row : ElementRow). test (ranked_of row)) (map (row_of_node a key) nodes) ≡ list_any (λ (row : ElementRow). test (ranked_of row)) (map (row_of_node b key) nodes)
any_ranked a b test key [] = refl
any_ranked a b test key (node ∷ nodes) = ap (λ t. test (ranked_in node) || t) (any_ranked a b test key nodes)

any_with : (a b : List Cid) (ranked : Ranked) (key : List ℕ) (nodes : List Node)
    → is_some (row_with ranked (map (row_of_node a key) nodes)) ≡ is_some (row_with ranked (map (row_of_node b key) nodes))
any_with a b ranked key [] = refl
any_with a b ranked key (node ∷ nodes) =
    elim (same_ranked ranked (ranked_in node)) as (λ t. is_some (cond t (Some (row_of_node a key node)) (row_with ranked (map (row_of_node a key) nodes)))
    ≡ is_some (cond t (Some (row_of_node b key node)) (row_with ranked (map (row_of_node b key) nodes)))) [
      | true ↦ refl
      | false ↦ any_with a b ranked key nodes
    ]

pub brought_any : (a b : List Cid) (nodes : List Node) (lasts : List ℕ → Option ℕ) (changes : List ValueChange)
    → list_all (is_brought (rows_in a nodes lasts)) changes ≡ list_all (is_brought (rows_in b nodes lasts)) changes
brought_any a b nodes lasts [] = refl
brought_any a b nodes lasts (change ∷ changes) = λ i. one change.value i && brought_any a b nodes lasts changes i
  where
    one : (value : Option RankedValue) → elim value as (λ _. Bool) [ None ↦ true | Some r ↦ is_some (row_with (r.priority, r.value) (rows_in a nodes lasts change.key)) ]
        ≡ elim value as (λ _. Bool) [ None ↦ true | Some r ↦ is_some (row_with (r.priority, r.value) (rows_in b nodes lasts change.key)) ]
    one None = refl
    one (Some r) = any_with a b (r.priority, r.value) change.key (chain nodes (length nodes) (lasts change.key))

-- what passes of all items passes of one
pub all_at : {A : Type 0} (test : A → Bool) (xs : List A) (place : ℕ) (x : A) → place < length xs → x ≡ get_or xs place x → list_all test xs ≡ true → test x ≡ true
all_at test xs place x below at all = by (test x) refl
  where
    by : (b : Bool) → test x ≡ b → test x ≡ true
    by true e = e
    by false e = absurd (let f : false ≡ true = sym (list_all_at test xs place x below (ap test (sym at) ∙ e)) ∙ all in cc)

-- changes of other keys leave the value of a key
untouched : (key : List ℕ) (row : Option Ranked) (changes : List ValueChange) → list_any (λ (change : ValueChange). bytes_eq key change.key) changes ≡ false → values_after key row changes ≡ row
untouched key row [] e = refl
untouched key row (change ∷ changes) e =
    let parts = or_parts (bytes_eq key change.key) (list_any (λ (c : ValueChange). bytes_eq key c.key) changes) e in
    ap (λ (b : Bool). values_after key (if b then ranked_value change.value else row) changes) (nat_list_eq_equiv.symm change.key key ∙ parts.0)
    ∙ untouched key row changes parts.1

-- where each value after the changes is that of a row, and no key is changed twice, the changes bring such values
all_brought : (rows : List ℕ → List ElementRow) (old : List ℕ → Option Ranked) (changes : List ValueChange) → is_once (λ (a b : ValueChange). bytes_eq a.key b.key) changes ≡ true
    → ((key : List ℕ) (ranked : Ranked) → values_after key (old key) changes ≡ Some ranked → is_some (row_with ranked (rows key)) ≡ true) → list_all (is_brought rows) changes ≡ true
all_brought rows old [] once are = refl
all_brought rows old (change ∷ changes) once are =
    let parts = and_parts (not (list_any (λ (c : ValueChange). bytes_eq change.key c.key) changes)) (is_once (λ (a b : ValueChange). bytes_eq a.key b.key) changes) once in
    and_from (is_brought rows change) (list_all (is_brought rows) changes)
    (by change.value refl (not-true (list_any (λ (c : ValueChange). bytes_eq change.key c.key) changes) parts.0))
    (all_brought rows (λ key. value_after key (old key) change) changes parts.1 are)
  where
    by : (value : Option RankedValue) → change.value ≡ value → list_any (λ (c : ValueChange). bytes_eq change.key c.key) changes ≡ false
        → elim value as (λ _. Bool) [ None ↦ true | Some r ↦ is_some (row_with (r.priority, r.value) (rows change.key)) ] ≡ true
    by None is e = refl
    by (Some r) is e =
        are change.key (r.priority, r.value)
        (ap (λ (b : Bool). values_after change.key (if b then ranked_value change.value else old change.key) changes) ((bytes_eq-Decides change.key change.key).1 refl)
        ∙ untouched change.key (ranked_value change.value) changes e ∙ ap ranked_value is)

-- a test that passes where another one does
any_up : (a b : ElementRow → Bool) (rows : List ElementRow) → ((row : ElementRow) → a row ≡ true → b row ≡ true) → list_any a rows ≡ true → list_any b rows ≡ true
any_up a b [] up e = e
any_up a b (row ∷ rows) up e = elim (or_cases (a row) (list_any a rows) e) [
  | inl here ↦ or_left (b row) (list_any b rows) (up row here)
  | inr there ↦ or_right (b row) (list_any b rows) (any_up a b rows up there)
]

module _ {S X : Type 0} {g : build.Ghosts S X} {h : hash.Ghosts X} (old : Tables S X g h) (changes : Changes) (fits : Fits old) (meet : TableFits (kept_in old) changes) where
  abbrev blocks : List Block
  blocks = processed (kept_in old)

  abbrev more : List Block
  more = newly_processed (kept_in old) changes

  abbrev rows : List ℕ → List ElementRow
  rows key = rows_in (keys old.graph.blocks) old.elements.nodes.items (last_in old.elements.keys) key

  module _ (key : List ℕ) (has : ElementRow → Bool) where
    -- whether a row passes, and is not hidden after the commit
    abbrev held : ElementRow → Bool
    held row = has row && not (has_tomb (blocks ++ more) key (id_text row.cid.0))

    -- what is not hidden after the commit was not hidden before it
    still_shown : (row : ElementRow) → held row ≡ true → (is_shown blocks key row && has row) ≡ true
    still_shown row e =
        let parts = and_parts (has row) (not (has_tomb (blocks ++ more) key (id_text row.cid.0))) e in
        let free = or_parts (has_tomb blocks key (id_text row.cid.0)) (has_tomb_row changes.tombs key (id_text row.cid.0)) (sym (meet.rows.tombs key (id_text row.cid.0)) ∙ not-true (has_tomb (blocks ++ more) key (id_text row.cid.0)) parts.1) in
        and_from (is_shown blocks key row) (has row) (ap not free.0) parts.0

    old_one : list_any held (element_rows_of blocks key) ≡ true → list_any has (rows key) ≡ true
    old_one e =
        any_up (λ (row : ElementRow). is_live (tomb_in old key) row && has row) has (rows key) (λ row both. (and_parts (is_live (tomb_in old key) row) (has row) both).1)
        (sym (list_any-filter has (is_live (tomb_in old key)) (rows key)) ∙ (fits.elements key).same has ∙ list_any-filter has (is_shown blocks key) (element_rows_of blocks key)
        ∙ any_up held (λ (row : ElementRow). is_shown blocks key row && has row) (element_rows_of blocks key) still_shown e)

    new_one : list_any (λ (row : ElementRow). bytes_eq row.key key && held row) (element_rows more) ≡ true → list_any (λ (row : ElementRow). bytes_eq row.key key && has row) changes.elements ≡ true
    new_one e =
        any_up (λ (row : ElementRow). bytes_eq row.key key && held row) (λ (row : ElementRow). bytes_eq row.key key && has row) changes.elements
        (λ row both. let parts = and_parts (bytes_eq row.key key) (held row) both in
        and_from (bytes_eq row.key key) (has row) parts.0 (and_parts (has row) (not (has_tomb (blocks ++ more) key (id_text row.cid.0))) parts.1).0)
        (meet.rows.elements.same (λ (row : ElementRow). bytes_eq row.key key && held row) ∙ e)

    -- what passes of the live rows after the commit passes of the rows of the table
    reaches : list_any held (element_rows_of (blocks ++ more) key) ≡ true → list_any has (fold (with_element key) (rows key) changes.elements) ≡ true
    reaches e =
        elements_put has key (rows key) changes.elements
        ∙ elim (or_cases (list_any held (element_rows_of blocks key)) (list_any (λ (row : ElementRow). bytes_eq row.key key && held row) (element_rows more)) (sym (rows_of-append held key blocks more) ∙ e)) [
          | inl before ↦ or_left (list_any has (rows key)) (list_any (λ (row : ElementRow). bytes_eq row.key key && has row) changes.elements) (old_one before)
          | inr new ↦ or_right (list_any has (rows key)) (list_any (λ (row : ElementRow). bytes_eq row.key key && has row) changes.elements) (new_one new)
        ]

  module _ (key : List ℕ) (ranked : Ranked) where
    abbrev has_ranked : ElementRow → Bool
    has_ranked row = same_ranked ranked (ranked_of row)

    is_there : (cids : List Cid) → values_after key (row_in old.elements.nodes.items (value_in old.elements.keys) key) changes.values ≡ Some ranked → is_some (row_with ranked (fold (with_element key) (rows_in cids old.elements.nodes.items (last_in old.elements.keys) key) changes.elements)) ≡ true
    is_there cids e =
        let own : List ElementRow = rows_in cids old.elements.nodes.items (last_in old.elements.keys) key in
        let value : value_row (blocks ++ more) key ≡ Some ranked = meet.rows.values key ∙ ap (λ z. values_after key z changes.values) (sym (fits.values key)) ∙ e in
        is_found has_ranked (fold (with_element key) own changes.elements)
        (elements_put has_ranked key own changes.elements
        ∙ elim (or_cases (list_any (held key has_ranked) (element_rows_of blocks key)) (list_any (λ (row : ElementRow). bytes_eq row.key key && held key has_ranked row) (element_rows more))
        (sym (rows_of-append (held key has_ranked) key blocks more) ∙ some_row (blocks ++ more) key ranked value)) [
          | inl before ↦ or_left (list_any has_ranked own) (list_any (λ (row : ElementRow). bytes_eq row.key key && has_ranked row) changes.elements)
              (any_ranked cids (keys old.graph.blocks) (same_ranked ranked) key (chain old.elements.nodes.items (length old.elements.nodes.items) (last_in old.elements.keys key)) ∙ old_one key has_ranked before)
          | inr new ↦ or_right (list_any has_ranked own) (list_any (λ (row : ElementRow). bytes_eq row.key key && has_ranked row) changes.elements) (new_one key has_ranked new)
        ])

  pub are_brought : (cids : List Cid) → list_all (is_brought (λ key. fold (with_element key) (rows_in cids old.elements.nodes.items (last_in old.elements.keys) key) changes.elements)) changes.values ≡ true
  are_brought cids = all_brought (λ key. fold (with_element key) (rows_in cids old.elements.nodes.items (last_in old.elements.keys) key) changes.elements) (row_in old.elements.nodes.items (value_in old.elements.keys)) changes.values meet.rows.values_once (λ key ranked e. is_there key ranked cids e)

  -- a block that gives a value after the commit has a row with it
  won_row : (key : List ℕ) (cid : Cid) → who (blocks ++ more) key ≡ Some cid
      → has_row_of (Some cid) (values_after key (row_in old.elements.nodes.items (value_in old.elements.keys) key) changes.values) (fold (with_element key) (rows key) changes.elements) ≡ true
  won_row key cid won = by (top_row (blocks ++ more) key) refl won
    where
      turn : (h r c : Bool) → (not h && (r && c)) ≡ ((c && r) && not h)
      turn true true true = refl
      turn true true false = refl
      turn true false true = refl
      turn true false false = refl
      turn false true true = refl
      turn false true false = refl
      turn false false true = refl
      turn false false false = refl

      there : (p : Placed) → top_row (blocks ++ more) key ≡ Some p → list_any (is_row_of p.1 p.0) (fold (with_element key) (rows key) changes.elements) ≡ true
      there p is =
          reaches key (is_row_of p.1 p.0)
          (sym (any_agree (λ (row : ElementRow). not (has_tomb (blocks ++ more) key (id_text row.cid.0)) && same_placed p (placed_of row)) (held key (is_row_of p.1 p.0))
          (λ row. turn (has_tomb (blocks ++ more) key (id_text row.cid.0)) (same_ranked p.0 (ranked_of row)) (same_cid p.1 row.cid)) (element_rows_of (blocks ++ more) key))
          ∙ sym (place_rows_any (has_tomb (blocks ++ more) key) (same_placed p) (element_rows_of (blocks ++ more) key))
          ∙ topmost_member (place_rows (has_tomb (blocks ++ more) key) (element_rows_of (blocks ++ more) key)) p (ap topmost (place_rows-element_rows_of (blocks ++ more) (blocks ++ more) key) ∙ is))

      by : (top : Option Placed) → top_row (blocks ++ more) key ≡ top → option_map block_in_place top ≡ Some cid
          → has_row_of (Some cid) (values_after key (row_in old.elements.nodes.items (value_in old.elements.keys) key) changes.values) (fold (with_element key) (rows key) changes.elements) ≡ true
      by None is e = absurd (cc)
      by (Some p) is e =
          let same : p.1 ≡ cid = cc in
          let value : values_after key (row_in old.elements.nodes.items (value_in old.elements.keys) key) changes.values ≡ Some p.0 =
          ap (λ z. values_after key z changes.values) (fits.values key) ∙ sym (meet.rows.values key) ∙ value_is_top (blocks ++ more) key ∙ ap (option_map ranked_in_place) is in
          ap (λ z. has_row_of (Some cid) z (fold (with_element key) (rows key) changes.elements)) value
          ∙ ap (λ (z : Cid). list_any (is_row_of z p.0) (fold (with_element key) (rows key) changes.elements)) (sym same) ∙ there p is

  pub are_met : (start : List ℕ → Option Cid) → is_once (λ (a b : WinnerChange). bytes_eq a.key b.key) changes.winners ≡ true
      → ((key : List ℕ) (cid : Cid) → winners_after key (start key) changes.winners ≡ Some cid → who (blocks ++ more) key ≡ Some cid)
      → (cids : List Cid) → cids ≡ keys old.graph.blocks ++ cids_of changes.store
      → list_all (is_met (λ key. values_after key (row_in old.elements.nodes.items (value_in old.elements.keys) key) changes.values)
      (λ key. fold (with_element key) (rows_in cids old.elements.nodes.items (last_in old.elements.keys) key) changes.elements)) changes.winners ≡ true
  are_met start once won cids grown =
      all_met (λ key. values_after key (row_in old.elements.nodes.items (value_in old.elements.keys) key) changes.values)
      (λ key. fold (with_element key) (rows_in cids old.elements.nodes.items (last_in old.elements.keys) key) changes.elements)
      start changes.winners once
      (λ key cid w.
      ap (λ z. has_row_of (Some cid) (values_after key (row_in old.elements.nodes.items (value_in old.elements.keys) key) changes.values) (fold (with_element key) z changes.elements))
      (rows_grown (keys old.graph.blocks) cids (cids_of changes.store) grown old.elements.nodes.items fits.blocks (last_in old.elements.keys) key)
      ∙ won_row key cid (won key cid w))
