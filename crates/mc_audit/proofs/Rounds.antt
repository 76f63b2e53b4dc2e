-- Passes one after another, over rows that are told or not.
use Rattle.std.proofs.Common.{◌≡◌, ℕ, ◌+◌, Bool, false, List, [], length, Option, Some, None, sym, refl, ap, ◌∙◌}
use Rattle.std.specs.Prelude.{IfSome, fold, map}
use Rattle.mc_base.specs.declared.cid.Cid.{Cid}
use Rattle.mc_model.specs.declared.block.Block.{Block}
use Rattle.mc_model.specs.Ascending.{ascending}
use Rattle.mc_model.specs.Front.{is_among}
use Rattle.mc_raw.specs.RowOrder.{row_cmp}
use Rattle.mc_raw.specs.declared.raw.Row.{Row}
use Rattle.mc_keep.specs.declared.rows.HeadRow.{HeadRow}
use Rattle.mc_raw.specs.Raw.{Tables, has_row}
use Rattle.mc_raw.specs.RowTables.{element_table, tomb_table, value_table, winner_table, head_table, link_table}
use Rattle.mc_audit.specs.declared.found.Found.{Found}
use Rattle.mc_audit.specs.declared.blocks.Blocks.{Blocks}
use Rattle.mc_audit.specs.declared.verdict.Place.{Place}
use Rattle.mc_audit.specs.declared.verdict.Verdict.TheVariants.{Differs}
use Rattle.mc_audit.specs.Checks.{AreCids, Marks, IsWhole, marked_blocks, verdict_with}
use Rattle.mc_audit.specs.Found.{Gathers, with_links}
use Rattle.mc_audit.specs.Rows.{blocks_of, head_row_of}
use Rattle.mc_audit.specs.Sound.{in_table, or_then, rows_break, block_break, place_break, mark_break, has_gap, value_break, front_break, later_break, first_break, verdict_of, verdict_by}
use Rattle.mc_audit.proofs.SameTables.{later_same}
use Rattle.mc_audit.proofs.Taken.{ascend_all, digests_all, stored_all, none_of, taken_members, taken_marks}

-- one check after another

pub or_first : (raw : Option Tables) (a b : Tables → Option Place) (place : Place) → IfSome raw (λ t. Some place ≡ a t) → IfSome raw (λ t. Some place ≡ or_then (a t) (b t))
or_first None a b place here = tt
or_first (Some t) a b place here = ap (λ p. or_then p (b t)) here

pub or_last : (raw : Option Tables) (a b : Tables → Option Place) (place : Option Place) → IfSome raw (λ t. None ≡ a t) → IfSome raw (λ t. place ≡ b t) → IfSome raw (λ t. place ≡ or_then (a t) (b t))
or_last None a b place none here = tt
or_last (Some t) a b place none here = here ∙ ap (λ p. or_then p (b t)) none

abbrev pub two : ℕ → List Row → List Row → Tables → Option Place
two table first second t = or_then (in_table table (rows_break 0 (t table) first)) (in_table (table + 1) (rows_break 0 (t (table + 1)) second))

two_same : (table : ℕ) (t : Tables) (xs ys xs' ys' : List Row) → xs ≡ xs' → ys ≡ ys' → two table xs ys t ≡ two table xs' ys' t
two_same table t xs ys xs' ys' e f = ap (λ z. two table z ys t) e ∙ ap (λ z. two table xs' z t) f

-- tables 7 to 9

abbrev pub IsFront : Option Tables → List HeadRow → List Cid → List Cid → Option Place → Type 0
IsFront raw rows keys marked place = IfSome raw (λ t. (blocks : List Block) → rows ≡ map head_row_of blocks → keys ≡ fold with_links [] blocks → Marks marked blocks → place ≡ front_break t blocks)

abbrev MakesHeads : List HeadRow → List Cid → List Row → Type 0
MakesHeads rows keys heads = (blocks : List Block) → rows ≡ map head_row_of blocks → keys ≡ fold with_links [] blocks → heads ≡ head_table blocks

abbrev MakesLinks : List Cid → List Row → Type 0
MakesLinks keys links = (blocks : List Block) → keys ≡ fold with_links [] blocks → links ≡ link_table blocks

apart : (a b c : Option Place) → or_then (or_then a b) c ≡ or_then a (or_then b c)
apart None b c = refl
apart (Some p) b c = refl

pub front_first : (raw : Option Tables) (heads links : List Row) (keys marked : List Cid) (rows : List HeadRow) (place : Place) → MakesHeads rows keys heads → MakesLinks keys links
    → IfSome raw (λ t. Some place ≡ two 7 heads links t) → IsFront raw rows keys marked (Some place)
front_first None heads links keys marked rows place made_heads made_links here = tt
front_first (Some t) heads links keys marked rows place made_heads made_links here = λ blocks h k m.
    ap (λ p. or_then p (in_table 9 (mark_break (has_gap blocks) (t 9)))) (here ∙ two_same 7 t heads links (head_table blocks) (link_table blocks) (made_heads blocks h k) (made_links blocks k))
    ∙ apart (in_table 7 (rows_break 0 (t 7) (head_table blocks))) (in_table 8 (rows_break 0 (t 8) (link_table blocks))) (in_table 9 (mark_break (has_gap blocks) (t 9)))

pub front_then : (raw : Option Tables) (heads links : List Row) (keys marked : List Cid) (rows : List HeadRow) (gap : Bool) (place : Option Place) → MakesHeads rows keys heads → MakesLinks keys links
    → ((blocks : List Block) → keys ≡ fold with_links [] blocks → Marks marked blocks → gap ≡ has_gap blocks)
    → IfSome raw (λ t. None ≡ two 7 heads links t) → IfSome raw (λ t. place ≡ in_table 9 (mark_break gap (t 9))) → IsFront raw rows keys marked place
front_then None heads links keys marked rows gap place made_heads made_links is none here = tt
front_then (Some t) heads links keys marked rows gap place made_heads made_links is none here = λ blocks h k m.
    here ∙ ap (λ g. in_table 9 (mark_break g (t 9))) (is blocks k m)
    ∙ ap (λ p. or_then p (in_table 9 (mark_break (has_gap blocks) (t 9)))) (none ∙ two_same 7 t heads links (head_table blocks) (link_table blocks) (made_heads blocks h k) (made_links blocks k))
    ∙ apart (in_table 7 (rows_break 0 (t 7) (head_table blocks))) (in_table 8 (rows_break 0 (t 8) (link_table blocks))) (in_table 9 (mark_break (has_gap blocks) (t 9)))

-- tables 5 to 9

abbrev pub IsValued : Option Tables → List Row → List Row → List HeadRow → List Cid → List Cid → Option Place → Type 0
IsValued raw elements tombs rows keys marked place = IfSome raw (λ t. (blocks : List Block) → elements ≡ element_table blocks → tombs ≡ tomb_table blocks → rows ≡ map head_row_of blocks
    → keys ≡ fold with_links [] blocks → Marks marked blocks → place ≡ or_then (value_break t blocks) (front_break t blocks))

abbrev Makes : List Row → List Row → List Row → (List Block → List Row) → Type 0
Makes elements tombs made table = (blocks : List Block) → elements ≡ element_table blocks → tombs ≡ tomb_table blocks → made ≡ table blocks

pub value_first : (raw : Option Tables) (elements tombs values winners : List Row) (rows : List HeadRow) (keys marked : List Cid) (place : Place) → Makes elements tombs values value_table → Makes elements tombs winners winner_table
    → IfSome raw (λ t. Some place ≡ two 5 values winners t) → IsValued raw elements tombs rows keys marked (Some place)
value_first None elements tombs values winners rows keys marked place made_values made_winners here = tt
value_first (Some t) elements tombs values winners rows keys marked place made_values made_winners here = λ blocks e d h k m.
    ap (λ p. or_then p (front_break t blocks)) (here ∙ two_same 5 t values winners (value_table blocks) (winner_table blocks) (made_values blocks e d) (made_winners blocks e d))

pub value_then : (raw : Option Tables) (elements tombs values winners : List Row) (rows : List HeadRow) (keys marked : List Cid) (place : Option Place) → Makes elements tombs values value_table → Makes elements tombs winners winner_table
    → IfSome raw (λ t. None ≡ two 5 values winners t) → IsFront raw rows keys marked place → IsValued raw elements tombs rows keys marked place
value_then None elements tombs values winners rows keys marked place made_values made_winners none here = tt
value_then (Some t) elements tombs values winners rows keys marked place made_values made_winners none here = λ blocks e d h k m.
    here blocks h k m
    ∙ ap (λ p. or_then p (front_break t blocks)) (none ∙ two_same 5 t values winners (value_table blocks) (winner_table blocks) (made_values blocks e d) (made_winners blocks e d))

-- tables 3 to 9

abbrev pub IsLater : Option Tables → Found → List Cid → Option Place → Type 0
IsLater raw found marked place = IfSome raw (λ t. (blocks : List Block) → Gathers blocks found → Marks marked blocks → place ≡ later_break t blocks)

pub line_first : (raw : Option Tables) (found : Found) (marked : List Cid) (elements tombs : List Row) (place : Place) → elements ≡ ascending row_cmp found.elements.items → tombs ≡ ascending row_cmp found.tombs.items
    → IfSome raw (λ t. Some place ≡ two 3 elements tombs t) → IsLater raw found marked (Some place)
line_first None found marked elements tombs place e d here = tt
line_first (Some t) found marked elements tombs place e d here = λ blocks g m.
    ap (λ p. or_then p (or_then (value_break t blocks) (front_break t blocks)))
    (here ∙ two_same 3 t elements tombs (element_table blocks) (tomb_table blocks) (e ∙ ap (ascending row_cmp) g.elements) (d ∙ ap (ascending row_cmp) g.tombs))

pub line_then : (raw : Option Tables) (found : Found) (marked : List Cid) (elements tombs : List Row) (place : Option Place) → elements ≡ ascending row_cmp found.elements.items → tombs ≡ ascending row_cmp found.tombs.items
    → IfSome raw (λ t. None ≡ two 3 elements tombs t) → IsValued raw elements tombs found.heads.items found.links.keys marked place → IsLater raw found marked place
line_then None found marked elements tombs place e d none here = tt
line_then (Some t) found marked elements tombs place e d none here = λ blocks g m.
    let all : elements ≡ element_table blocks = e ∙ ap (ascending row_cmp) g.elements in
    let hiding : tombs ≡ tomb_table blocks = d ∙ ap (ascending row_cmp) g.tombs in
    here blocks all hiding g.heads g.links m
    ∙ ap (λ p. or_then p (or_then (value_break t blocks) (front_break t blocks))) (none ∙ two_same 3 t elements tombs (element_table blocks) (tomb_table blocks) all hiding)

-- the verdict

pub verdict_one : (raw : Option Tables) (index : ℕ) → IfSome raw (λ t. block_break 0 None (t 1) ≡ Some index) → IfSome raw (λ t. Differs 1 index ≡ verdict_of t)
verdict_one None index here = tt
verdict_one (Some t) index here =
    sym (ap (λ (found : Option ℕ). verdict_by t (or_then (in_table 1 found) (or_then (in_table 2 (place_break (has_row (t 1)) 0 [] (t 2))) (later_break t (blocks_of t))))) here)

-- all identifiers that are stored have 32 bytes
pub full : (marked : List Cid) (t : Tables) (blocks : Blocks) (count : ℕ) → IsWhole marked t blocks count → (cid : Cid) → (length cid.0 ≡ 32 → ⊥) → is_among blocks.stored.keys cid ≡ false
full marked t blocks count whole cid other = whole.1.stored cid ∙ none_of (t 1) (digests_all 0 None (t 1) whole.0) cid other

-- what is stored is the rows of table 1
stored_is : (marked : List Cid) (t : Tables) (blocks : Blocks) (count : ℕ) → IsWhole marked t blocks count → is_among blocks.stored.keys ≡ has_row (t 1)
stored_is marked t blocks count whole = λ i cid. whole.1.stored cid i

pub verdict_two : (raw : Option Tables) (marked : List Cid) (blocks : Blocks) (count index : ℕ) → IfSome raw (λ t. IsWhole marked t blocks count)
    → IfSome raw (λ t. ((cid : Cid) → (length cid.0 ≡ 32 → ⊥) → is_among blocks.stored.keys cid ≡ false) → place_break (is_among blocks.stored.keys) 0 [] (t 2) ≡ Some index) → IfSome raw (λ t. AreCids marked (t 2) → Differs 2 index ≡ verdict_of t)
verdict_two None marked blocks count index whole here = tt
verdict_two (Some t) marked blocks count index whole here = λ cids.
    sym (ap (λ (found : Option ℕ). verdict_by t (or_then (in_table 1 found) (or_then (in_table 2 (place_break (has_row (t 1)) 0 [] (t 2))) (later_break t (blocks_of t))))) whole.0
    ∙ ap (λ (found : Option ℕ). verdict_by t (or_then (in_table 2 found) (later_break t (blocks_of t))))
    (sym (ap (λ (stored : Cid → Bool). place_break stored 0 [] (t 2)) (stored_is marked t blocks count whole)) ∙ here (full marked t blocks count whole)))

pub verdict_is : (raw : Option Tables) (stored processed : ℕ) (place : Option Place) → IfSome raw (λ t. (processed ≡ length (t 2)) × (stored ≡ length (t 1)) × (place ≡ first_break t)) → IfSome raw (λ t. verdict_with processed stored place ≡ verdict_of t)
verdict_is None stored processed place h = tt
verdict_is (Some t) stored processed place h =
    ap (λ n. verdict_with n stored place) h.0 ∙ ap (λ n. verdict_with (length (t 2)) n place) h.1 ∙ same place ∙ ap (verdict_by t) h.2
  where
    same : (p : Option Place) → verdict_with (length (t 2)) (length (t 1)) p ≡ verdict_by t p
    same None = refl
    same (Some p) = refl

pub verdict_last : (raw : Option Tables) (marked : List Cid) (blocks : Blocks) (stored processed : ℕ) (place : Option Place) → IfSome raw (λ t. IsWhole marked t blocks stored)
    → IfSome raw (λ t. ((cid : Cid) → (length cid.0 ≡ 32 → ⊥) → is_among blocks.stored.keys cid ≡ false) → (place_break (is_among blocks.stored.keys) 0 [] (t 2) ≡ None) × (processed ≡ length (t 2)))
    → IfSome raw (λ t. (all : List Block) → Gathers all blocks.found → Marks marked all → place ≡ later_break t all)
    → IfSome raw (λ t. AreCids marked (t 2) → verdict_with processed stored place ≡ verdict_of t)
verdict_last None marked blocks stored processed place whole placed later = tt
verdict_last (Some t) marked blocks stored processed place whole placed later = λ cids.
    let in_place = placed (full marked t blocks stored whole) in
    let none : place_break (has_row (t 1)) 0 [] (t 2) ≡ None = sym (ap (λ (held : Cid → Bool). place_break held 0 [] (t 2)) (stored_is marked t blocks stored whole)) ∙ in_place.0 in
    let ascend = ascend_all 0 None (t 1) whole.0 in
    let digests = digests_all 0 None (t 1) whole.0 in
    let held = stored_all (t 1) 0 [] (t 2) none in
    verdict_is (Some t) stored processed place (
      in_place.1,
      whole.2,
      later (marked_blocks marked (t 1)) whole.1.gathers (taken_marks (t 1) (t 2) marked ascend digests held cids)
          ∙ sym (later_same (blocks_of t) (marked_blocks marked (t 1)) (taken_members (t 1) (t 2) marked ascend digests held cids) t)
          ∙ sym (ap (λ (found : Option ℕ). or_then (in_table 1 found) (or_then (in_table 2 (place_break (has_row (t 1)) 0 [] (t 2))) (later_break t (blocks_of t)))) whole.0
          ∙ ap (λ (found : Option ℕ). or_then (in_table 2 found) (later_break t (blocks_of t))) none),
    )
