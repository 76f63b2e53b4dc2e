-- One more change of a value row.
use Rattle.std.proofs.Common.{◌≡◌, ℕ, ◌+◌, ◌<◌, length, take, get_or, map, Bool, true, false, cond, not, List, [], ◌∷◌, ◌++◌, ◌||◌, sym, refl, ap, ◌∙◌, subst, arith}
use Rattle.std.specs.Prelude.{fold, IfSome, Option, Some, None}
use Rattle.std.specs.List.{list_any}
use Rattle.std.specs.List.Sorted.{IsStrictlySortedBy}
use Rattle.std.specs.Ordering.{nat_cmp, is_eq}
use Rattle.std.specs.Cmp.Lexicographic.{slice_cmp}
use Rattle.std.specs.Str.{bytes_eq}
use Rattle.std.proofs.lemmas.List.{append-nil, get_or-take, get_or_default, length-take-le, map-append}
use Rattle.std.proofs.lemmas.List.Folds.{list_any-append, list_any_none, list_any_more}
use Rattle.std.proofs.lemmas.Map.Keys.{Less-from_sorted}
use Rattle.std.proofs.lemmas.Map.Text.{is_eq-slice_cmp}
use Rattle.std.proofs.lemmas.Bool.{or_parts, and_from, and_parts}
use Rattle.std.proofs.Math.Bool.{or-false}
use Rattle.std.proofs.lemmas.Slice.Eq.{bytes_eq-Decides}
use lib.Pointwise.{bytes_decides}
use denote.Ref.{Bor}
use Rattle.mc_model.specs.declared.block.Block.{Block}
use Rattle.mc_model.specs.Ascending.{is_once}
use Rattle.mc_model.specs.Kept.{Kept, processed}
use Rattle.mc_model.specs.Who.{Placed, top_row}
use Rattle.mc_model.proofs.Greatest.{fold-append}
use Rattle.mc_keep.specs.declared.rows.ElementRow.{ElementRow}
use Rattle.mc_keep.specs.declared.rows.TombRow.{TombRow}
use Rattle.mc_rows.specs.declared.best.TopChange.{TopChange}
use Rattle.mc_rows.specs.declared.parts.TopChanges.{TopChanges}
use Rattle.mc_rows.specs.Hiding.{new_row}
use Rattle.mc_rows.specs.Values.{IsChange, change_list, has_key, has_change_of, placed_top, top_after, tops_after, value_part, winner_part, ValuesFit, ChangesFit}

itself : (a : List ℕ) → bytes_eq a a ≡ true
itself a = (bytes_decides a a).1 refl

-- no change before speaks of the key
pub not_before : (keys : List (Bor (List ℕ))) (i : ℕ) (d : Bor (List ℕ)) → IsStrictlySortedBy (λ (x y : Bor (List ℕ)). slice_cmp nat_cmp x.now y.now) keys → i < length keys → has_key (take i keys) (get_or keys i d).now ≡ false
not_before keys i d sorted within =
    list_any_none (λ (k : Bor (List ℕ)). bytes_eq k.now (get_or keys i d).now) (take i keys) (λ j e h. apart j e (below j h))
  where
    below : (j : ℕ) → j < length (take i keys) → j < i
    below j h = let n : length (take i keys) ≡ i = length-take-le i keys (omega (arith, within)) in omega (arith, h, n)

    apart : (j : ℕ) (e : Bor (List ℕ)) → j < i → bytes_eq (get_or (take i keys) j e).now (get_or keys i d).now ≡ false
    apart j e h =
        let less : slice_cmp nat_cmp (get_or keys j d).now (get_or keys i d).now ≡ _ = Less-from_sorted (λ (x y : Bor (List ℕ)). slice_cmp nat_cmp x.now y.now) keys j i d sorted h within in
        ap (λ (k : Bor (List ℕ)). bytes_eq k.now (get_or keys i d).now) (get_or-take i keys j e h ∙ default j e d (omega (arith, h, within)))
        ∙ sym (is_eq-slice_cmp (get_or keys j d).now (get_or keys i d).now)
        ∙ ap is_eq less
      where
        default : (j : ℕ) (e d : Bor (List ℕ)) → j < length keys → get_or keys j e ≡ get_or keys j d
        default j e d h = get_or_default keys j e d h

pub unspoken : (key : List ℕ) (row : Option Placed) (changes : List TopChange) → has_change_of changes key ≡ false → tops_after key row changes ≡ row
unspoken key row [] e = refl
unspoken key row (c ∷ changes) e =
    let parts = or_parts (bytes_eq c.key key) (has_change_of changes key) e in
    ap (λ (b : Bool). fold (top_after key) (cond b (placed_top c.top) row) changes) parts.0 ∙ unspoken key row changes parts.1

-- what one more change does to the row of a key
after_push : (key : List ℕ) (row : Option Placed) (changes : List TopChange) (change : TopChange)
    → tops_after key row (changes ++ change ∷ []) ≡ cond (bytes_eq change.key key) (placed_top change.top) (tops_after key row changes)
after_push key row changes change = fold-append (top_after key) row changes (change ∷ [])

-- the row of the key itself
own_row : (key : List ℕ) (old new : Option Placed) (now : List TopChange) (change : Option TopChange) → has_change_of now key ≡ false → IsChange key old new change
    → tops_after key old (now ++ change_list change) ≡ new
own_row key old new now None none is = ap (tops_after key old) (append-nil now) ∙ unspoken key old now none ∙ sym is
own_row key old new now (Some change) none is =
    after_push key old now change
    ∙ ap (λ (b : Bool). cond b (placed_top change.top) (tops_after key old now)) (ap (λ (z : List ℕ). bytes_eq z key) is.key_is ∙ itself key)
    ∙ is.top_is

-- the row of another key
other_row : (key other : List ℕ) (old new row : Option Placed) (now : List TopChange) (change : Option TopChange) → bytes_eq key other ≡ false → IsChange key old new change
    → tops_after other row (now ++ change_list change) ≡ tops_after other row now
other_row key other old new row now None apart is = ap (tops_after other row) (append-nil now)
other_row key other old new row now (Some change) apart is =
    after_push other row now change ∙ ap (λ (b : Bool). cond b (placed_top change.top) (tops_after other row now)) (ap (λ (z : List ℕ). bytes_eq z other) is.key_is ∙ apart)

-- a change speaks of its key alone
speaks_of : (key other : List ℕ) (old new : Option Placed) (change : Option TopChange) → bytes_eq key other ≡ false → IsChange key old new change → has_change_of (change_list change) other ≡ false
speaks_of key other old new None apart is = refl
speaks_of key other old new (Some change) apart is = ap (λ (z : List ℕ). bytes_eq z other || false) is.key_is ∙ ap (λ b. b || false) apart

abbrev same_key : TopChange → TopChange → Bool
same_key a b = bytes_eq a.key b.key

once_push : (changes : List TopChange) (change : TopChange) → is_once same_key changes ≡ true → has_change_of changes change.key ≡ false → is_once same_key (changes ++ change ∷ []) ≡ true
once_push [] change once none = refl
once_push (c ∷ changes) change once none =
    let apart = or_parts (bytes_eq c.key change.key) (has_change_of changes change.key) none in
    let parts = and_parts (not (list_any (same_key c) changes)) (is_once same_key changes) once in
    and_from _ _ (ap not (list_any-append (same_key c) changes (change ∷ []) ∙ ap (λ b. list_any (same_key c) changes || (b || false)) apart.0 ∙ or_nothing (list_any (same_key c) changes)) ∙ parts.0)
    (once_push changes change parts.1 apart.1)
  where
    or_nothing : (a : Bool) → (a || (false || false)) ≡ a
    or_nothing true = refl
    or_nothing false = refl

once_more : (key : List ℕ) (old new : Option Placed) (now : List TopChange) (change : Option TopChange) → is_once same_key now ≡ true → has_change_of now key ≡ false → IsChange key old new change
    → is_once same_key (now ++ change_list change) ≡ true
once_more key old new now None once none is = ap (is_once same_key) (append-nil now) ∙ once
once_more key old new now (Some change) once none is = once_push now change once (ap (has_change_of now) is.key_is ∙ none)

-- the changes fit one more key
fit_more : (blocks : List Block) (elements : List ElementRow) (tombs : List TombRow) (keys : List (Bor (List ℕ))) (i : ℕ) (d : Bor (List ℕ)) (key : List ℕ) (now : List TopChange) (change : Option TopChange)
    → IsStrictlySortedBy (λ (x y : Bor (List ℕ)). slice_cmp nat_cmp x.now y.now) keys → i < length keys → (get_or keys i d).now ≡ key
    → ValuesFit blocks elements tombs (take i keys) now → IsChange key (top_row blocks key) (new_row blocks elements tombs key) change
    → ValuesFit blocks elements tombs (take (i + 1) keys) (now ++ change_list change)
fit_more blocks elements tombs keys i d key now change sorted within at before is = record {
  rows = λ k has. row k (bytes_eq key k) refl (sym (more k) ∙ has);
  rest = λ k none. let parts = or_parts (has_key (take i keys) k) (bytes_eq key k) (sym (more k) ∙ none) in
      list_any-append (λ (c : TopChange). bytes_eq c.key k) now (change_list change)
      ∙ ap (λ b. b || has_change_of (change_list change) k) (before.rest k parts.0)
      ∙ speaks_of key k (top_row blocks key) (new_row blocks elements tombs key) change parts.1 is;
  once = once_more key (top_row blocks key) (new_row blocks elements tombs key) now change before.once unsaid is;
}
  where
    more : (k : List ℕ) → has_key (take (i + 1) keys) k ≡ (has_key (take i keys) k || bytes_eq key k)
    more k = list_any_more (λ (z : Bor (List ℕ)). bytes_eq z.now k) keys i d within ∙ ap (λ (z : List ℕ). has_key (take i keys) k || bytes_eq z k) at

    unsaid : has_change_of now key ≡ false
    unsaid = before.rest key (ap (has_key (take i keys)) (sym at) ∙ not_before keys i d sorted within)

    row : (k : List ℕ) (b : Bool) → bytes_eq key k ≡ b → (has_key (take i keys) k || b) ≡ true → tops_after k (top_row blocks k) (now ++ change_list change) ≡ new_row blocks elements tombs k
    row k true same has =
        subst (λ (z : List ℕ). tops_after z (top_row blocks z) (now ++ change_list change) ≡ new_row blocks elements tombs z) ((bytes_eq-Decides key k).0 same)
        (own_row key (top_row blocks key) (new_row blocks elements tombs key) now change unsaid is)
    row k false apart has =
        other_row key k (top_row blocks key) (new_row blocks elements tombs key) (top_row blocks k) now change apart is ∙ before.rows k (sym (or-false (has_key (take i keys) k)) ∙ has)

-- the rows of the changes with those of one more
map_more : {Row : Type 0} (part : TopChange → Row) (rows new : List Row) (now : List TopChange) (change : Option TopChange) → rows ≡ map part now → new ≡ rows ++ map part (change_list change)
    → new ≡ map part (now ++ change_list change)
map_more part rows new now change is e = e ∙ ap (λ z. z ++ map part (change_list change)) is ∙ sym (map-append part now (change_list change))

pub fit_more_told : (told : Option Kept) (elements : List ElementRow) (tombs : List TombRow) (keys : List (Bor (List ℕ))) (i : ℕ) (key : Bor (List ℕ)) (now new : TopChanges) (change : Option TopChange)
    → IsStrictlySortedBy (λ (x y : Bor (List ℕ)). slice_cmp nat_cmp x.now y.now) keys → i < length keys → key ≡ get_or keys i key
    → IfSome told (λ kept. ChangesFit (processed kept) elements tombs (take i keys) now)
    → IfSome told (λ kept. IsChange key.now (top_row (processed kept) key.now) (new_row (processed kept) elements tombs key.now) change)
    → new.values ≡ now.values ++ map value_part (change_list change) → new.winners ≡ now.winners ++ map winner_part (change_list change)
    → IfSome told (λ kept. ChangesFit (processed kept) elements tombs (take (i + 1) keys) new)
fit_more_told None elements tombs keys i key now new change sorted within at before is v w = tt
fit_more_told (Some kept) elements tombs keys i key now new change sorted within at before is v w = record {
  changes = before.changes ++ change_list change;
  fit = fit_more (processed kept) elements tombs keys i key key.now before.changes change sorted within (ap (λ (z : Bor (List ℕ)). z.now) (sym at)) before.fit is;
  values = map_more value_part now.values new.values before.changes change before.values v;
  winners = map_more winner_part now.winners new.winners before.changes change before.winners w;
}
