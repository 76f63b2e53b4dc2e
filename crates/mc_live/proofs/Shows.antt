-- What rows show of entries, as more is hidden and more is taken.
use Rattle.std.proofs.Common.{◌≡◌, ℕ, zero, suc, ◌<◌, arith, Bool, true, false, not, cond, ◌||◌, ◌&&◌, List, [], ◌∷◌, ◌++◌, length, Option, Some, None, refl, sym, ap, ◌∙◌}
use Rattle.std.specs.Prelude.{filter, nat_lt}
use Rattle.std.specs.List.{list_any}
use Rattle.std.specs.Str.{bytes_eq}
use Rattle.std.proofs.lemmas.Bool.{or_parts}
use Rattle.std.proofs.lemmas.List.Folds.{list_any-append}
use Rattle.std.proofs.lemmas.List.Concat.{flat_map-append}
use Rattle.std.proofs.lemmas.List.{append-nil}
use Rattle.mc_model.specs.declared.block.Block.{Block}
use Rattle.mc_model.specs.declared.delta.Element.{Element}
use Rattle.mc_model.specs.Id.{id_text}
use Rattle.mc_model.specs.Live.{has_tomb, live_among, ranked_in, is_hidden}
use Rattle.mc_model.specs.Rank.{Ranked}
use Rattle.mc_model.proofs.Members.{list_any-map, list_any-filter, any_agree}
use Rattle.mc_live.specs.Rows.{Entry, gives_row, id_at, is_shown, lives, row_lives, row_of, shows}
use Rattle.mc_live.specs.Stands.{entries, entries_in, entry_with}
use Rattle.mc_live.specs.declared.order.Row.{Row}

-- what more hides, hides less than before
module _ (hidden hidden' : List ℕ → Bool) (more : (id : List ℕ) → hidden id ≡ true → hidden' id ≡ true) (test : Entry → Bool) where
  pub lives_more : (entry : Entry) → lives hidden' test entry ≡ lives hidden (lives hidden' test) entry
  lives_more entry = by (hidden entry.id) (hidden' entry.id) (test entry) (more entry.id)
    where
      by : (a b t : Bool) → (a ≡ true → b ≡ true) → (not b && t) ≡ (not a && (not b && t))
      by true true t up = refl
      by true false t up = absurd (let f : false ≡ true = up refl in cc)
      by false b t up = refl

  pub shows_more : (ids : List (Option (List ℕ))) (row : Row) → shows hidden' ids test row ≡ shows hidden ids (lives hidden' test) row
  shows_more ids row = by (id_at ids row.call)
    where
      by : (id : Option (List ℕ)) → row_lives hidden' test row id ≡ row_lives hidden (lives hidden' test) row id
      by None = refl
      by (Some id) = lives_more (record { priority = row.priority; value = row.value; id = id })

-- a row that isn't shown passes no test of what is shown
pub not_shown : (hidden : List ℕ → Bool) (ids : List (Option (List ℕ))) (test : Entry → Bool) (row : Row) → is_shown hidden ids row ≡ false → shows hidden ids test row ≡ false
not_shown hidden ids test row e = by (id_at ids row.call) e
  where
    none : (b t : Bool) → (b && true) ≡ false → (b && t) ≡ false
    none true t e = absurd (cc)
    none false t e = refl

    by : (id : Option (List ℕ)) → row_lives hidden (λ _. true) row id ≡ false → row_lives hidden test row id ≡ false
    by None e = refl
    by (Some id) e = none (not (hidden id)) (test (record { priority = row.priority; value = row.value; id = id })) e

-- the ids of calls before stay, the one of a refused call is none, and the new one is there
pub id_before : (ids : List (Option (List ℕ))) (last : Option (List ℕ)) (call : ℕ) → call < length ids → id_at (ids ++ last ∷ []) call ≡ id_at ids call
id_before [] last call below = absurd (omega (arith, below))
id_before (id ∷ ids) last zero below = refl
id_before (id ∷ ids) last (suc call) below = id_before ids last call (omega (arith, below))

pub id_refused : (ids : List (Option (List ℕ))) (call : ℕ) → id_at (ids ++ None ∷ []) call ≡ id_at ids call
id_refused [] zero = refl
id_refused [] (suc call) = refl
id_refused (id ∷ ids) zero = refl
id_refused (id ∷ ids) (suc call) = id_refused ids call

pub id_taken : (ids : List (Option (List ℕ))) (last : Option (List ℕ)) → id_at (ids ++ last ∷ []) (length ids) ≡ last
id_taken [] last = refl
id_taken (id ∷ ids) last = id_taken ids last

pub id_past : (ids : List (Option (List ℕ))) → id_at ids (length ids) ≡ None
id_past [] = refl
id_past (id ∷ ids) = id_past ids

-- rows of calls before
abbrev pub is_late : ℕ → Row → Bool
is_late calls row = not (nat_lt row.call calls)

is_before : (calls : ℕ) (row : Row) → is_late calls row ≡ false → row.call < calls
is_before calls row e = grind (arith, e)

pub old_rows_show : (hidden : List ℕ → Bool) (ids : List (Option (List ℕ))) (last : Option (List ℕ)) (test : Entry → Bool) (rows : List Row) → list_any (is_late (length ids)) rows ≡ false
    → list_any (shows hidden (ids ++ last ∷ []) test) rows ≡ list_any (shows hidden ids test) rows
old_rows_show hidden ids last test [] none = refl
old_rows_show hidden ids last test (row ∷ rows) none =
    let parts = or_parts (is_late (length ids) row) (list_any (is_late (length ids)) rows) none in
    ap (λ id. row_lives hidden test row id || list_any (shows hidden (ids ++ last ∷ []) test) rows) (id_before ids last row.call (is_before (length ids) row parts.0))
    ∙ ap (λ rest. shows hidden ids test row || rest) (old_rows_show hidden ids last test rows parts.1)

pub refused_rows_show : (hidden : List ℕ → Bool) (ids : List (Option (List ℕ))) (test : Entry → Bool) (rows : List Row) → list_any (shows hidden (ids ++ None ∷ []) test) rows ≡ list_any (shows hidden ids test) rows
refused_rows_show hidden ids test rows = any_agree (shows hidden (ids ++ None ∷ []) test) (shows hidden ids test) (λ row. ap (row_lives hidden test row) (id_refused ids row.call)) rows

-- the rows of a block that is taken show its entries
pub new_rows_show : (hidden : List ℕ → Bool) (ids : List (Option (List ℕ))) (test : Entry → Bool) (block : Block) (key : List ℕ)
    → list_any (gives_row block.delta.priority (length ids) key (shows hidden (ids ++ Some (id_text block.cid.0) ∷ []) test)) block.delta.elements ≡ list_any (lives hidden test) (entries_in key block)
new_rows_show hidden ids test block key =
    let id = id_text block.cid.0 in
    let p = block.delta.priority in
    any_agree (gives_row p (length ids) key (shows hidden (ids ++ Some id ∷ []) test)) (λ (e : Element). bytes_eq e.key key && lives hidden test (entry_with id (p, e.value)))
    (λ e. ap (λ i. bytes_eq e.key key && row_lives hidden test (row_of p (length ids) e) i) (id_taken ids (Some id))) block.delta.elements
    ∙ sym (list_any-filter (λ (e : Element). lives hidden test (entry_with id (p, e.value))) (λ (e : Element). bytes_eq e.key key) block.delta.elements)
    ∙ sym (list_any-map (λ r. lives hidden test (entry_with id r)) (λ (e : Element). (p, e.value)) (filter (λ (e : Element). bytes_eq e.key key) block.delta.elements))
    ∙ sym (list_any-map (lives hidden test) (entry_with id) (ranked_in key block))

-- one more tombstone hides more
pub hides_more : (blocks : List Block) (block : Block) (key id : List ℕ) → has_tomb blocks key id ≡ true → has_tomb (blocks ++ block ∷ []) key id ≡ true
hides_more blocks block key id e = list_any-append _ blocks (block ∷ []) ∙ ap (λ b. b || has_tomb (block ∷ []) key id) e

-- the entries of one block more
pub entries_more : (blocks : List Block) (block : Block) (key : List ℕ) (test : Entry → Bool)
    → list_any test (entries (blocks ++ block ∷ []) key) ≡ (list_any test (entries blocks key) || list_any test (entries_in key block))
entries_more blocks block key test =
    ap (list_any test) (flat_map-append (entries_in key) blocks (block ∷ []))
    ∙ list_any-append test (entries blocks key) (entries_in key block ++ [])
    ∙ ap (λ z. list_any test (entries blocks key) || list_any test z) (append-nil (entries_in key block))

-- what lives of the entries is what lives by the value rule
abbrev pub of_ranked : (Ranked → Bool) → Entry → Bool
of_ranked test entry = test (entry.priority, entry.value)

pub live_shows : (all : List Block) (key : List ℕ) (test : Ranked → Bool) (blocks : List Block) → list_any test (live_among all key blocks) ≡ list_any (lives (has_tomb all key) (of_ranked test)) (entries blocks key)
live_shows all key test [] = refl
live_shows all key test (block ∷ blocks) =
    let id = id_text block.cid.0 in
    list_any-append test (cond (is_hidden all key block) [] (ranked_in key block)) (live_among all key blocks)
    ∙ ap (λ z. z || list_any test (live_among all key blocks)) (by (has_tomb all key id) (ranked_in key block))
    ∙ ap (λ z. z || list_any test (live_among all key blocks)) (sym (list_any-map (lives (has_tomb all key) (of_ranked test)) (entry_with id) (ranked_in key block)))
    ∙ ap (λ z. list_any (lives (has_tomb all key) (of_ranked test)) (entries_in key block) || z) (live_shows all key test blocks)
    ∙ sym (list_any-append (lives (has_tomb all key) (of_ranked test)) (entries_in key block) (entries blocks key))
  where
    by : (b : Bool) (ranked : List Ranked) → list_any test (cond b [] ranked) ≡ list_any (λ (r : Ranked). not b && test r) ranked
    by false ranked = refl
    by true [] = refl
    by true (r ∷ ranked) = by true ranked
