-- What is kept stands for the blocks that were taken.
use Rattle.std.specs.Prelude.{◌≡◌, ℕ, Bool, false, nat_lt, not, ◌||◌, List, map, length, Option}
use Rattle.std.specs.BinaryHeap.{IsHeap}
use Rattle.std.specs.List.{list_any, flat_map}
use Rattle.mc_model.specs.declared.block.Block.{Block}
use Rattle.std.specs.Str.{bytes_eq}
use Rattle.mc_model.specs.declared.delta.Delta.{Delta}
use Rattle.mc_model.specs.declared.delta.Element.{Element}
use Rattle.mc_model.specs.declared.delta.Tomb.{Tomb}
use Rattle.mc_model.specs.Id.{id_text}
use Rattle.mc_model.specs.Live.{has_tomb, ranked_in}
use Rattle.mc_model.specs.Rank.{Ranked}
use Rattle.mc_live.specs.Order.{row_cmp}
use Rattle.mc_live.specs.Rows.{Entry, IsTopShown, lives, rows_in, shows}
use Rattle.mc_tombs.specs.Tombs.{has_tomb_in}
use Rattle.mc_live.specs.declared.live.Live.{Live}
use Rattle.mc_live.specs.declared.order.Row.{Row}

-- the entries of a key in a block
abbrev pub entry_with : List ℕ → Ranked → Entry
entry_with id ranked = record { priority = ranked.0; value = ranked.1; id = id }

abbrev pub entries_in : List ℕ → Block → List Entry
entries_in key block = map (entry_with (id_text block.cid.0)) (ranked_in key block)

abbrev pub entries : List Block → List ℕ → List Entry
entries blocks key = flat_map (entries_in key) blocks

-- the rows of a key stand for its entries as far as none is hidden, and the first of them is the greatest
pub record KeyStands (hidden : List ℕ → Bool) (ids : List (Option (List ℕ))) (rows : List Row) (all : List Entry)
    : Type 0 where
  pub same : (test : Entry → Bool) → list_any (shows hidden ids test) rows ≡ list_any (lives hidden test) all
  pub heap : IsHeap row_cmp rows
  pub top : IsTopShown hidden ids rows
  pub calls : list_any (λ (row : Row). not (nat_lt row.call (length ids))) rows ≡ false

abbrev pub tomb_in : Live → List ℕ → List ℕ → Bool
tomb_in live key id = has_tomb_in live.tombs.keys.keys live.tombs.ids.keys live.tombs.pairs.keys key id

-- whether an element or a tombstone has the key
abbrev pub touches : Delta → List ℕ → Bool
touches delta key =
    list_any (λ (tomb : Tomb). bytes_eq tomb.key key) delta.tombstones
    || list_any (λ (element : Element). bytes_eq element.key key) delta.elements

-- what is kept stands for these blocks
pub record Stands (blocks : List Block) (live : Live) : Type 0 where
  pub tombs : (key id : List ℕ) → tomb_in live key id ≡ has_tomb blocks key id
  pub keys : (key : List ℕ) →
      KeyStands (has_tomb blocks key) live.calls.items (rows_in live.rows key) (entries blocks key)
