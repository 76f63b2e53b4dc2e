-- The tables of a keeper, as definitions over the processed blocks, and the changes that keep them so.
use Rattle.std.specs.Prelude.{◌≡◌, ◌⊎◌, ◌<◌, ◌^◌, ℕ, Some, None, length, Bool, true, false, ◌||◌, ◌&&◌, List, ◌++◌, map}
use Rattle.std.specs.Prelude.{filter, Option}
use Rattle.std.specs.List.{list_any, list_all, flat_map}
use Rattle.std.specs.Str.{bytes_eq}
use Rattle.mc_base.specs.declared.cid.Cid.{Cid}
use Rattle.mc_model.specs.declared.block.Block.{Block}
use Rattle.mc_model.specs.declared.block.Stored.{Stored}
use Rattle.mc_model.specs.declared.delta.Element.{Element}
use Rattle.mc_model.specs.SameMembers.{SameMembers}
use Rattle.mc_model.specs.Ascending.{is_once}
use Rattle.mc_model.specs.Live.{has_tomb, value_row}
use Rattle.mc_model.specs.Layouts.{winner_in}
use Rattle.mc_model.specs.Who.{who}
use Rattle.mc_model.specs.declared.layout.Layout.{Layout}
use Rattle.mc_model.specs.Front.{same_cid, is_among, is_linked, head_at, gaps}
use Rattle.mc_model.specs.Kept.{Kept, processed, is_stored, cids_of}
use Rattle.mc_model.specs.Offer.{is_good}
use Rattle.mc_keep.specs.declared.rows.ElementRow.{ElementRow}
use Rattle.mc_keep.specs.declared.rows.TombRow.{TombRow}
use Rattle.mc_keep.specs.declared.rows.Summary.{Summary}
use Rattle.mc_keep.specs.declared.rows.HeadRow.{HeadRow}
use Rattle.mc_keep.specs.declared.changes.ValueChange.{ValueChange}
use Rattle.mc_keep.specs.declared.changes.WinnerChange.{WinnerChange}
use Rattle.mc_keep.specs.declared.changes.Changes.{Changes}
use Rattle.mc_keep.specs.Changes.{newly_processed, no_changes, has_tomb_row, values_after, winners_after, has_winner_of, laid, head_after}

-- the row of an element of the block
abbrev pub element_row : Block → Element → ElementRow
element_row block element =
    record { key = element.key; cid = block.cid; priority = block.delta.priority; value = element.value }

abbrev pub element_rows : List Block → List ElementRow
element_rows blocks = flat_map (λ (block : Block). map (element_row block) block.delta.elements) blocks

-- the element rows of a key
abbrev pub element_rows_of : List Block → List ℕ → List ElementRow
element_rows_of blocks key = filter (λ (row : ElementRow). bytes_eq row.key key) (element_rows blocks)

abbrev pub same_element : ElementRow → ElementRow → Bool
same_element a b = bytes_eq a.key b.key && (same_cid a.cid b.cid && bytes_eq a.value b.value)

abbrev pub same_tomb : TombRow → TombRow → Bool
same_tomb a b = bytes_eq a.key b.key && bytes_eq a.id b.id

-- the rows of values, elements and tombstones turn those of `blocks` into those of `blocks` and `more`
pub record RowsFit (blocks more : List Block) (changes : Changes) : Type 0 where
  pub elements : SameMembers changes.elements (element_rows more)
  pub elements_once : is_once same_element changes.elements ≡ true
  pub tombs : (key id : List ℕ) →
      has_tomb (blocks ++ more) key id ≡ (has_tomb blocks key id || has_tomb_row changes.tombs key id)
  pub tombs_new : list_any (λ (row : TombRow). has_tomb blocks row.key row.id) changes.tombs ≡ false
  pub tombs_once : is_once same_tomb changes.tombs ≡ true
  pub values : (key : List ℕ) → value_row (blocks ++ more) key ≡ values_after key (value_row blocks key) changes.values
  pub values_once : is_once (λ (a b : ValueChange). bytes_eq a.key b.key) changes.values ≡ true
  pub winners : (key : List ℕ) → who (blocks ++ more) key ≡ winners_after key (who blocks key) changes.winners
  pub winners_once : is_once (λ (a b : WinnerChange). bytes_eq a.key b.key) changes.winners ≡ true
  -- a changed value comes with its block
  pub winners_with : list_all (λ (change : ValueChange). has_winner_of changes.winners change.key) changes.values ≡ true

-- the rows of links and heads turn those of `blocks` into those of `blocks` and `more`
pub record FrontFits (blocks more : List Block) (changes : Changes) : Type 0 where
  pub links : (cid : Cid) → is_linked (blocks ++ more) cid ≡ (is_linked blocks cid || is_among changes.links cid)
  pub links_new : list_any (is_linked blocks) changes.links ≡ false
  pub links_once : is_once same_cid changes.links ≡ true
  pub heads : (cid : Cid) →
      head_at (blocks ++ more) cid ≡ head_after cid (head_at blocks cid) changes.heads_out changes.heads_in
  pub heads_once : is_once (λ (a b : HeadRow). same_cid a.cid b.cid) changes.heads_in ≡ true

-- the blocks to store are good and new
pub record StoreFits (kept : Kept) (changes : Changes) : Type 0 where
  pub good : list_all (λ (stored : Stored). is_good stored.cid stored.bytes) changes.store ≡ true
  pub new : list_any (λ (stored : Stored). is_stored kept.graph stored.cid) changes.store ≡ false
  pub once : is_once same_cid (cids_of changes.store) ≡ true

-- the blocks to process are stored and not processed
pub record MarksFit (kept : Kept) (changes : Changes) : Type 0 where
  pub stored : list_all (is_stored (kept.graph ++ changes.store)) changes.marks ≡ true
  pub new : list_any (is_among kept.order) changes.marks ≡ false
  pub once : is_once same_cid changes.marks ≡ true

-- what a commit needs
pub record ChangesFit (kept : Kept) (changes : Changes) : Type 0 where
  pub store : StoreFits kept changes
  pub marks : MarksFit kept changes
  pub rows : RowsFit (processed kept) (newly_processed kept changes) changes
  pub ordinary : (changes.two ≡ false) × (changes.upto ≡ None)
  pub front : FrontFits (processed kept) (newly_processed kept changes) changes

-- a commit of a migration: only the layout and the winner rows change, and those are the ones that the layout has then
pub record MigrateFits (layout : Layout) (kept : Kept) (changes : Changes) : Type 0 where
  pub only : changes
      ≡ record no_changes { winners = changes.winners; upto = changes.upto; two = changes.two }
  pub winners : (key : List ℕ) →
      winner_in (laid layout changes) (processed kept) key
      ≡ winners_after key (winner_in layout (processed kept) key) changes.winners
  pub winners_once : is_once (λ (a b : WinnerChange). bytes_eq a.key b.key) changes.winners ≡ true

-- what a keeper takes
abbrev pub Meets : Layout → Kept → Changes → Type 0
Meets layout kept changes = ChangesFit kept changes ⊎ MigrateFits layout kept changes

-- the numbers of a keeper that stands for this
abbrev pub IsSummary : Kept → Summary → Type 0
IsSummary kept summary =
    (summary.processed ≡ length kept.order) × (summary.stored ≡ length kept.graph)
    × (summary.gaps ≡ length (gaps (processed kept))) × (summary.mark ≡ kept.mark)

-- each number has room for as much again
abbrev pub IsSmall : Summary → Type 0
IsSmall summary = (summary.processed < 2 ^ 63) × (summary.stored < 2 ^ 63) × (summary.gaps < 2 ^ 63)
