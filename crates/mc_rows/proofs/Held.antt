-- What counts of a key, as its keeper tells it; and where no new tombstone hides its block, it still counts.
use Rattle.std.proofs.Common.{◌≡◌, ℕ, Bool, true, false, List, Option, Some, None, refl, sym, ap, ◌∙◌, subst}
use Rattle.std.specs.Prelude.{IfSome}
use Rattle.std.specs.Option.{option_map}
use Rattle.mc_base.specs.declared.cid.Cid.{Cid}
use Rattle.mc_model.specs.declared.layout.Layout.{Layout}
use Rattle.mc_model.specs.declared.layout.Layout.TheVariants.{Two}
use Rattle.mc_model.specs.Kept.{Kept, processed}
use Rattle.mc_model.specs.Layouts.{winner_in}
use Rattle.mc_model.specs.Live.{value_row}
use Rattle.mc_model.specs.Rank.{Ranked}
use Rattle.mc_model.specs.Who.{Placed, top_row, who}
use Rattle.mc_model.proofs.WhoFacts.{ranked_in_place, block_in_place, value_is_top}
use Rattle.mc_keep.specs.declared.rows.TombRow.{TombRow}
use Rattle.mc_keep.specs.declared.rows.RankedValue.{RankedValue}
use Rattle.mc_keep.specs.Changes.{ranked_value}
use Rattle.mc_rows.specs.Hiding.{is_top_hidden, Stands}
use Rattle.mc_rows.proofs.Lives.{no_row_stands, top_row_stands}

-- a key without a value, or without a winner, has nothing that counts

no_part : {A : Type 0} (part : Placed → A) (top : Option Placed) → None ≡ option_map part top → None ≡ top
no_part part None e = refl
no_part part (Some p) e = absurd (cc)

none_of : {A : Type 0} (x : Option A) → ((a : A) → x ≡ Some a → ⊥) → x ≡ None
none_of None never = refl
none_of (Some a) never = absurd (never a refl)

pub no_value : (told : Option Kept) (key : List ℕ) (value : Option RankedValue) → ((v : RankedValue) → value ≡ Some v → ⊥) → IfSome told (λ kept. ranked_value value ≡ value_row (processed kept) key)
    → IfSome told (λ kept. None ≡ top_row (processed kept) key)
no_value None key value never is = tt
no_value (Some kept) key value never is = no_part ranked_in_place (top_row (processed kept) key) (sym (ap ranked_value (none_of value never)) ∙ is ∙ value_is_top (processed kept) key)

-- the value with the winner is what counts

both_parts : (top : Option Placed) (ranked : Ranked) (cid : Cid) → Some ranked ≡ option_map ranked_in_place top → Some cid ≡ option_map block_in_place top → Some (ranked, cid) ≡ top
both_parts None ranked cid e f = absurd (cc)
both_parts (Some p) ranked cid e f = λ i. Some (some_is ranked p.0 e i, some_is cid p.1 f i)
  where
    some_is : {A : Type 0} (x y : A) → Some x ≡ Some y → x ≡ y
    some_is x y e = cc

pub both_told : (told : Option Kept) (layout : Layout) (key : List ℕ) (value : Option RankedValue) (found : Option Cid) (v : RankedValue) (cid : Cid) → layout ≡ Two → value ≡ Some v → found ≡ Some cid
    → IfSome told (λ kept. ranked_value value ≡ value_row (processed kept) key)
    → IfSome told (λ kept. found ≡ winner_in layout (processed kept) key)
    → IfSome told (λ kept. Some ((v.priority, v.value), cid) ≡ top_row (processed kept) key)
both_told None layout key value found v cid two e f is won = tt
both_told (Some kept) layout key value found v cid two e f is won =
    both_parts (top_row (processed kept) key) (v.priority, v.value) cid (sym (ap ranked_value e) ∙ is ∙ value_is_top (processed kept) key) (sym f ∙ won ∙ ap (λ (y : Layout). winner_in y (processed kept) key) two)

-- what no new tombstone hides still counts
pub stands_told : (told : Option Kept) (tombs : List TombRow) (key : List ℕ) (top : Option Placed) → IfSome told (λ kept. top ≡ top_row (processed kept) key) → is_top_hidden tombs key top ≡ false
    → IfSome told (λ kept. Stands (processed kept) tombs key)
stands_told None tombs key top is shown = tt
stands_told (Some kept) tombs key None is shown = no_row_stands (processed kept) tombs key (sym is)
stands_told (Some kept) tombs key (Some placed) is shown = top_row_stands (processed kept) tombs key placed (sym is) shown
