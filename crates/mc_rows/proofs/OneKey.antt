-- The change of what counts of one key.
use Rattle.std.specs.Option.{option_map}
use Rattle.std.proofs.Common.{◌≡◌, ℕ, Bool, false, List, [], ◌∷◌, ◌++◌, refl, sym, ap, ◌∙◌, subst}
use Rattle.std.specs.Prelude.{fold, IfSome, Option, Some, None}
use Rattle.std.proofs.lemmas.List.{append-nil}
use Rattle.std.proofs.lemmas.List.Concat.{flat_map-append}
use Rattle.std.proofs.lemmas.List.Sums.{fold-append}
use Rattle.mc_model.specs.Ascending.{Ascends}
use Rattle.mc_model.specs.Kept.{Kept, processed}
use Rattle.mc_base.specs.declared.cid.Cid.{Cid}
use Rattle.mc_model.specs.Who.{Placed, topmost, higher, top_row, who}
use Rattle.mc_keep.specs.declared.rows.ElementRow.{ElementRow}
use Rattle.mc_keep.specs.declared.rows.TombRow.{TombRow}
use Rattle.mc_keep.specs.Changes.{has_tomb_row}
use Rattle.mc_rows.specs.declared.best.Top.{Top}
use Rattle.mc_rows.specs.declared.best.TopChange.{TopChange}
use Rattle.mc_keep.specs.ElementOrder.{element_cmp}
use Rattle.mc_keep.specs.LiveRows.{live_element_rows, place_row, place_rows}
use Rattle.mc_rows.specs.Hiding.{hides, is_top_hidden, row_from}
use Rattle.mc_rows.proofs.Held.{stands_told}
use Rattle.mc_rows.specs.Values.{IsChange, placed_top}
use Rattle.mc_rows.proofs.Lives.{row_anew, row_on, new_row_untouched}

changed_so : (key : List ℕ) (old old' new new' : Option Placed) (change : Option TopChange) → old ≡ old' → new ≡ new' → IsChange key old new change → IsChange key old' new' change
changed_so key old old' new new' change e f is = subst (λ z. IsChange key old' z change) f (subst (λ z. IsChange key z new change) e is)

-- the topmost with one more row
pub one_more : (hidden : List ℕ → Bool) (start now new : Option Placed) (before rows : List ElementRow) (row : ElementRow) → rows ≡ before ++ row ∷ []
    → now ≡ fold higher start (place_rows hidden before) → new ≡ fold higher now (place_row hidden row) → new ≡ fold higher start (place_rows hidden rows)
one_more hidden start now new before rows row more first next =
    next
    ∙ ap (λ (best : Option Placed). fold higher best (place_row hidden row)) first
    ∙ sym (fold-append higher start (place_rows hidden before) (place_row hidden row))
    ∙ ap (λ (live : List Placed). fold higher start (place_rows hidden before ++ live)) (sym (append-nil (place_row hidden row)))
    ∙ ap (fold higher start) (sym (flat_map-append (place_row hidden) before (row ∷ [])))
    ∙ ap (λ (z : List ElementRow). fold higher start (place_rows hidden z)) (sym more)

pub row_more : (told : Option Kept) (hidden : Kept → List ℕ → Bool) (start now new : Option Placed) (before rows : List ElementRow) (row : ElementRow)
    → rows ≡ before ++ row ∷ []
    → IfSome told (λ kept. now ≡ fold higher start (place_rows (hidden kept) before))
    → IfSome told (λ kept. new ≡ fold higher now (place_row (hidden kept) row))
    → IfSome told (λ kept. new ≡ fold higher start (place_rows (hidden kept) rows))
row_more None hidden start now new before rows row more first next = tt
row_more (Some kept) hidden start now new before rows row more first next = one_more (hidden kept) start now new before rows row more first next

-- a change that was made from all live rows of the key
pub anew_told : (told : Option Kept) (run : List ElementRow) (tombs : List TombRow) (key : List ℕ) (old : Option Top) (rows : List ElementRow) (best found : Option Placed) (change : Option TopChange)
    → IfSome told (λ kept. placed_top old ≡ top_row (processed kept) key)
    → IfSome told (λ kept. Ascends element_cmp rows (live_element_rows (processed kept) key))
    → best ≡ topmost (place_rows (has_tomb_row tombs key) rows)
    → IfSome told (λ kept. found ≡ fold higher best (place_rows (hides (processed kept) tombs key) run))
    → IsChange key (placed_top old) found change
    → IfSome told (λ kept. IsChange key (top_row (processed kept) key) (row_from (processed kept) run tombs key) change)
anew_told None run tombs key old rows best found change is ascends first then made = tt
anew_told (Some kept) run tombs key old rows best found change is ascends first then made =
    changed_so key (placed_top old) (top_row (processed kept) key) found (row_from (processed kept) run tombs key) change
    is
    (then ∙ ap (λ (z : Option Placed). fold higher z (place_rows (hides (processed kept) tombs key) run)) first ∙ row_anew (processed kept) tombs key rows run ascends.members)
    made

-- a change that was made from the old row
pub on_told : (told : Option Kept) (run : List ElementRow) (tombs : List TombRow) (key : List ℕ) (old : Option Top) (best found : Option Placed) (change : Option TopChange)
    → IfSome told (λ kept. placed_top old ≡ top_row (processed kept) key)
    → is_top_hidden tombs key (placed_top old) ≡ false
    → best ≡ placed_top old
    → IfSome told (λ kept. found ≡ fold higher best (place_rows (hides (processed kept) tombs key) run))
    → IsChange key (placed_top old) found change
    → IfSome told (λ kept. IsChange key (top_row (processed kept) key) (row_from (processed kept) run tombs key) change)
on_told None run tombs key old best found change is stands first then made = tt
on_told (Some kept) run tombs key old best found change is stands first then made =
    changed_so key (placed_top old) (top_row (processed kept) key) found (row_from (processed kept) run tombs key) change
    is
    (then ∙ ap (λ (z : Option Placed). fold higher z (place_rows (hides (processed kept) tombs key) run)) (first ∙ is)
    ∙ row_on (processed kept) tombs key run (stands_told (Some kept) tombs key (placed_top old) is stands))
    made

-- the run of the key among all new rows
pub of_all_told : (told : Option Kept) (run rows : List ElementRow) (tombs : List TombRow) (key : List ℕ) (change : Option TopChange) → run ≡ rows
    → IfSome told (λ kept. IsChange key (top_row (processed kept) key) (row_from (processed kept) run tombs key) change)
    → IfSome told (λ kept. IsChange key (top_row (processed kept) key) (row_from (processed kept) rows tombs key) change)
of_all_told told run rows tombs key change e made = subst (λ (z : List ElementRow). IfSome told (λ kept. IsChange key (top_row (processed kept) key) (row_from (processed kept) z tombs key) change)) e made

-- the block of what counts among all live rows of the key
pub winner_told : (told : Option Kept) (key : List ℕ) (rows : List ElementRow) (best : Option Placed) (cid : Option Cid)
    → IfSome told (λ kept. Ascends element_cmp rows (live_element_rows (processed kept) key))
    → best ≡ topmost (place_rows (has_tomb_row [] key) rows)
    → cid ≡ option_map (λ (p : Placed). p.1) best
    → IfSome told (λ kept. cid ≡ who (processed kept) key)
winner_told None key rows best cid ascends first is = tt
winner_told (Some kept) key rows best cid ascends first is =
    is ∙ ap (option_map (λ (p : Placed). p.1)) (first ∙ row_anew (processed kept) [] key rows [] ascends.members ∙ new_row_untouched (processed kept) [] [] key refl refl)
