-- What is kept after one block more, or after a block that was refused.
use Rattle.std.proofs.Common.{◌≡◌, ℕ, ◌+◌, ◌<◌, arith, Bool, true, false, not, ◌||◌, ◌&&◌, List, [], ◌∷◌, ◌++◌, length, Option, Some, None, refl, sym, ap, ◌∙◌, subst, length-append}
use Rattle.std.specs.Prelude.{fold, nat_lt}
use Rattle.std.specs.List.{list_any}
use Rattle.std.specs.Str.{bytes_eq}
use Rattle.std.proofs.lemmas.Bool.{or_parts, lt-ltb}
use Rattle.std.proofs.lemmas.List.Folds.{list_any-append}
use Rattle.mc_model.specs.declared.block.Block.{Block}
use Rattle.mc_model.specs.declared.delta.Element.{Element}
use Rattle.mc_model.specs.declared.delta.Tomb.{Tomb}
use Rattle.mc_model.specs.Id.{id_text}
use Rattle.mc_model.specs.Live.{has_tomb, is_tomb}
use Rattle.mc_model.proofs.Members.{any_agree}
use Rattle.mc_live.specs.Prune.{PrunesKeys}
use Rattle.mc_live.specs.Rows.{AddsOf, AddsRows, Entry, IsTopShown, KeepsHeaps, KeepsRows, gives_row, id_at, is_shown, lives, row_lives, rows_in, shows}
use Rattle.mc_live.specs.Stands.{KeyStands, Stands, entries, entries_in, tomb_in, touches}
use Rattle.mc_live.specs.declared.live.Live.{Live}
use Rattle.mc_live.specs.Hiding.{with_tomb}
use Rattle.mc_live.specs.declared.order.Row.{Row}
use Rattle.mc_live.proofs.HeldFacts.{no_heap}
use Rattle.mc_live.proofs.Shows.{entries_more, hides_more, id_before, id_past, id_refused, is_late, lives_more, new_rows_show, not_shown, old_rows_show, refused_rows_show, shows_more}

-- tombstones put in one after another
pub tombs_folded : (key id : List ℕ) (tombs : List Tomb) (there : Bool) → fold (with_tomb key id) there tombs ≡ (list_any (is_tomb key id) tombs || there)
tombs_folded key id [] there = refl
tombs_folded key id (tomb ∷ tombs) there = tombs_folded key id tombs (is_tomb key id tomb || there) ∙ by (is_tomb key id tomb) (list_any (is_tomb key id) tombs) there
  where
    by : (a b c : Bool) → (b || (a || c)) ≡ ((a || b) || c)
    by true true c = refl
    by true false c = refl
    by false b c = refl

or_turn : (a b : Bool) → (a || b) ≡ (b || a)
or_turn true true = refl
or_turn true false = refl
or_turn false true = refl
or_turn false false = refl

or_none : (a : Bool) → (a || false) ≡ a
or_none true = refl
or_none false = refl

pub tombs_more : (blocks : List Block) (block : Block) (key id : List ℕ) → has_tomb (blocks ++ block ∷ []) key id ≡ (list_any (is_tomb key id) block.delta.tombstones || has_tomb blocks key id)
tombs_more blocks block key id =
    list_any-append _ blocks (block ∷ [])
    ∙ ap (λ b. has_tomb blocks key id || b) (or_none (list_any (is_tomb key id) block.delta.tombstones))
    ∙ or_turn (has_tomb blocks key id) (list_any (is_tomb key id) block.delta.tombstones)

-- a block without tombstones of a key hides nothing of it
no_tomb : (key id : List ℕ) (tombs : List Tomb) → list_any (λ (tomb : Tomb). bytes_eq tomb.key key) tombs ≡ false → list_any (is_tomb key id) tombs ≡ false
no_tomb key id [] none = refl
no_tomb key id (tomb ∷ tombs) none =
    let parts = or_parts (bytes_eq tomb.key key) (list_any (λ (tomb : Tomb). bytes_eq tomb.key key) tombs) none in
    by (bytes_eq tomb.key key) (bytes_eq tomb.id id) (list_any (is_tomb key id) tombs) parts.0 (no_tomb key id tombs parts.1)
  where
    by : (a b c : Bool) → a ≡ false → c ≡ false → ((a && b) || c) ≡ false
    by true b c e f = absurd (cc)
    by false b c e f = f

pub untouched_tombs : (blocks : List Block) (block : Block) (key : List ℕ) → touches block.delta key ≡ false → (id : List ℕ) → has_tomb (blocks ++ block ∷ []) key id ≡ has_tomb blocks key id
untouched_tombs blocks block key none id =
    tombs_more blocks block key id
    ∙ ap (λ b. b || has_tomb blocks key id) (no_tomb key id block.delta.tombstones (or_parts (list_any (λ (tomb : Tomb). bytes_eq tomb.key key) block.delta.tombstones) (list_any (λ (element : Element). bytes_eq element.key key) block.delta.elements) none).0)

-- rows of calls before, and of this one
late_next : (calls : ℕ) (row : Row) → is_late (calls + 1) row ≡ true → is_late calls row ≡ true
late_next calls row e = grind (arith, e)

not_late : (calls : ℕ) (row : Row) → row.call ≡ calls → is_late (calls + 1) row ≡ false
not_late calls row e = let below : nat_lt row.call (calls + 1) ≡ true = lt-ltb row.call (calls + 1) (omega (arith, e)) in rw below refl

fewer_pass : (p q : Row → Bool) → ((row : Row) → p row ≡ true → q row ≡ true) → (rows : List Row) → list_any q rows ≡ false → list_any p rows ≡ false
fewer_pass p q more [] none = refl
fewer_pass p q more (row ∷ rows) none =
    let parts = or_parts (q row) (list_any q rows) none in
    ap (λ b. b || list_any p rows) (by (p row) (q row) (more row) parts.0) ∙ fewer_pass p q more rows parts.1
  where
    by : (a b : Bool) → (a ≡ true → b ≡ true) → b ≡ false → a ≡ false
    by true b up e = absurd (let f : true ≡ false = sym (up refl) ∙ e in cc)
    by false b up e = refl

none_given : (elements : List Element) (priority call : ℕ) (key : List ℕ) (test : Row → Bool) → ((row : Row) → row.call ≡ call → test row ≡ false) → list_any (gives_row priority call key test) elements ≡ false
none_given [] priority call key test none = refl
none_given (element ∷ elements) priority call key test none =
    ap (λ b. (bytes_eq element.key key && b) || list_any (gives_row priority call key test) elements) (none (record { priority = priority; value = element.value; call = call }) refl)
    ∙ ap (λ b. b || list_any (gives_row priority call key test) elements) (by (bytes_eq element.key key))
    ∙ none_given elements priority call key test none
  where
    by : (a : Bool) → (a && false) ≡ false
    by true = refl
    by false = refl

-- the first row of a key that nothing touched is shown still
top_stays : (hidden hidden' : List ℕ → Bool) → ((id : List ℕ) → hidden' id ≡ hidden id) → (ids : List (Option (List ℕ))) (last : Option (List ℕ)) (rows : List Row) → list_any (is_late (length ids)) rows ≡ false
    → IsTopShown hidden ids rows → IsTopShown hidden' (ids ++ last ∷ []) rows
top_stays hidden hidden' same ids last [] none top = tt
top_stays hidden hidden' same ids last (row ∷ rows) none top =
    let parts = or_parts (is_late (length ids) row) (list_any (is_late (length ids)) rows) none in
    let before : row.call < length ids = grind (arith, parts.0) in
    ap (row_lives hidden' (λ _. true) row) (id_before ids last row.call before) ∙ by (id_at ids row.call) ∙ top
  where
    by : (id : Option (List ℕ)) → row_lives hidden' (λ _. true) row id ≡ row_lives hidden (λ _. true) row id
    by None = refl
    by (Some id) = ap (λ b. not b && true) (same id)

-- one key after a block that was taken
module _ (blocks : List Block) (block : Block) (key : List ℕ) (ids : List (Option (List ℕ))) (old mid new : List ℕ → List Row) where
  abbrev hidden : List ℕ → Bool
  hidden = has_tomb blocks key

  abbrev hidden' : List ℕ → Bool
  hidden' = has_tomb (blocks ++ block ∷ []) key

  abbrev ids' : List (Option (List ℕ))
  ids' = ids ++ Some (id_text block.cid.0) ∷ []

  pub key_taken : (tombs : List ℕ → List ℕ → Bool) → ((id : List ℕ) → tombs key id ≡ hidden' id) → KeyStands hidden ids (old key) (entries blocks key)
      → AddsRows block.delta.priority (length ids) block.delta.elements old mid → KeepsHeaps old mid → KeepsRows (λ key. list_any (λ (element : Element). bytes_eq element.key key) block.delta.elements) old mid
      → PrunesKeys tombs ids' (touches block.delta) mid new → KeyStands hidden' ids' (new key) (entries (blocks ++ block ∷ []) key)
  key_taken tombs told stands adds heaps others prunes = record {
    same = λ test.
        prunes.rest key (shows hidden' ids' test) (λ row e. not_shown hidden' ids' test row (ap (λ h. is_shown h ids' row) (sym hides) ∙ e))
        ∙ adds key (shows hidden' ids' test)
        ∙ ap (λ b. b || list_any (shows hidden' ids' test) (old key)) (new_rows_show hidden' ids test block key)
        ∙ ap (λ b. list_any (lives hidden' test) (entries_in key block) || b) (old_rows_show hidden' ids (Some (id_text block.cid.0)) test (old key) stands.calls ∙ any_agree (shows hidden' ids test) (shows hidden ids (lives hidden' test)) (shows_more hidden hidden' more test ids) (old key) ∙ stands.same (lives hidden' test)
        ∙ sym (any_agree (lives hidden' test) (lives hidden (lives hidden' test)) (lives_more hidden hidden' more test) (entries blocks key)))
        ∙ or_turn (list_any (lives hidden' test) (entries_in key block)) (list_any (lives hidden' test) (entries blocks key))
        ∙ sym (entries_more blocks block key (lives hidden' test));
    heap = prunes.heaps key (heaps key stands.heap);
    top = top_by (touches block.delta key) refl;
    calls = ap (λ n. list_any (is_late n) (new key)) len
        ∙ prunes.fewer key (is_late (length ids + 1))
        (adds key (is_late (length ids + 1))
        ∙ ap (λ b. b || list_any (is_late (length ids + 1)) (old key)) (none_given block.delta.elements block.delta.priority (length ids) key (is_late (length ids + 1)) (λ row e. not_late (length ids) row e))
        ∙ fewer_pass (is_late (length ids + 1)) (is_late (length ids)) (late_next (length ids)) (old key) stands.calls);
  }
    where
      hides : tombs key ≡ hidden'
      hides = λ i id. told id i

      more : (id : List ℕ) → hidden id ≡ true → hidden' id ≡ true
      more id e = hides_more blocks block key id e

      len : length ids' ≡ length ids + 1
      len = length-append ids (Some (id_text block.cid.0) ∷ [])

      top_by : (b : Bool) → touches block.delta key ≡ b → IsTopShown hidden' ids' (new key)
      top_by true e = subst (λ h. IsTopShown h ids' (new key)) hides (prunes.top key e)
      top_by false e =
          let parts = or_parts (list_any (λ (tomb : Tomb). bytes_eq tomb.key key) block.delta.tombstones) (list_any (λ (element : Element). bytes_eq element.key key) block.delta.elements) e in
          let same : new key ≡ old key = prunes.others key e ∙ others key parts.1 in
          subst (IsTopShown hidden' ids') (sym same) (top_stays hidden hidden' (untouched_tombs blocks block key e) ids (Some (id_text block.cid.0)) (old key) stands.calls stands.top)

-- one key after a block that was refused
pub key_refused : (hidden : List ℕ → Bool) (all : List Entry) (block : Block) (key : List ℕ) (ids : List (Option (List ℕ))) (old mid new : List ℕ → List Row) (tombs : List ℕ → List ℕ → Bool)
    → ((id : List ℕ) → tombs key id ≡ hidden id) → KeyStands hidden ids (old key) all → AddsOf (length ids) old mid → KeepsHeaps old mid
    → KeepsRows (λ key. list_any (λ (element : Element). bytes_eq element.key key) block.delta.elements) old mid
    → PrunesKeys tombs (ids ++ None ∷ []) (touches block.delta) mid new → KeyStands hidden (ids ++ None ∷ []) (new key) all
key_refused hidden all block key ids old mid new tombs told stands adds heaps others prunes = record {
  same = λ test.
      prunes.rest key (shows hidden (ids ++ None ∷ []) test) (λ row e. not_shown hidden (ids ++ None ∷ []) test row (ap (λ h. is_shown h (ids ++ None ∷ []) row) (sym hides) ∙ e))
      ∙ adds key (shows hidden (ids ++ None ∷ []) test) (λ row e. ap (row_lives hidden test row) (id_refused ids row.call ∙ ap (id_at ids) e ∙ id_past ids))
      ∙ refused_rows_show hidden ids test (old key)
      ∙ stands.same test;
  heap = prunes.heaps key (heaps key stands.heap);
  top = top_by (touches block.delta key) refl;
  calls = ap (λ n. list_any (is_late n) (new key)) len
      ∙ prunes.fewer key (is_late (length ids + 1)) (adds key (is_late (length ids + 1)) (not_late (length ids)) ∙ fewer_pass (is_late (length ids + 1)) (is_late (length ids)) (late_next (length ids)) (old key) stands.calls);
}
  where
    hides : tombs key ≡ hidden
    hides = λ i id. told id i

    len : length (ids ++ None ∷ []) ≡ length ids + 1
    len = length-append ids (None ∷ [])

    top_by : (b : Bool) → touches block.delta key ≡ b → IsTopShown hidden (ids ++ None ∷ []) (new key)
    top_by true e = subst (λ h. IsTopShown h (ids ++ None ∷ []) (new key)) hides (prunes.top key e)
    top_by false e =
        let parts = or_parts (list_any (λ (tomb : Tomb). bytes_eq tomb.key key) block.delta.tombstones) (list_any (λ (element : Element). bytes_eq element.key key) block.delta.elements) e in
        let same : new key ≡ old key = prunes.others key e ∙ others key parts.1 in
        subst (IsTopShown hidden (ids ++ None ∷ [])) (sym same) (top_stays hidden hidden (λ id. refl) ids None (old key) stands.calls stands.top)

-- all keys
pub stands_taken : (blocks : List Block) (block : Block) (was now : Live) (mid : List ℕ → List Row) → Stands blocks was
    → ((key id : List ℕ) → tomb_in now key id ≡ (list_any (is_tomb key id) block.delta.tombstones || tomb_in was key id)) → now.calls.items ≡ was.calls.items ++ Some (id_text block.cid.0) ∷ []
    → AddsRows block.delta.priority (length was.calls.items) block.delta.elements (rows_in was.rows) mid → KeepsHeaps (rows_in was.rows) mid
    → KeepsRows (λ key. list_any (λ (element : Element). bytes_eq element.key key) block.delta.elements) (rows_in was.rows) mid
    → PrunesKeys (tomb_in now) now.calls.items (touches block.delta) mid (rows_in now.rows) → Stands (blocks ++ block ∷ []) now
stands_taken blocks block was now mid stands told ids adds heaps others prunes = record {
  tombs = tombs;
  keys = λ key. subst (λ z. KeyStands (has_tomb (blocks ++ block ∷ []) key) z (rows_in now.rows key) (entries (blocks ++ block ∷ []) key)) (sym ids)
      (key_taken blocks block key was.calls.items (rows_in was.rows) mid (rows_in now.rows) (tomb_in now) (tombs key) (stands.keys key) adds heaps others
      (subst (λ z. PrunesKeys (tomb_in now) z (touches block.delta) mid (rows_in now.rows)) ids prunes));
}
  where
    tombs : (key id : List ℕ) → tomb_in now key id ≡ has_tomb (blocks ++ block ∷ []) key id
    tombs key id = told key id ∙ ap (λ b. list_any (is_tomb key id) block.delta.tombstones || b) (stands.tombs key id) ∙ sym (tombs_more blocks block key id)

pub stands_refused : (blocks : List Block) (block : Block) (was now : Live) (mid : List ℕ → List Row) → Stands blocks was
    → ((key id : List ℕ) → tomb_in now key id ≡ tomb_in was key id) → now.calls.items ≡ was.calls.items ++ None ∷ []
    → AddsOf (length was.calls.items) (rows_in was.rows) mid → KeepsHeaps (rows_in was.rows) mid
    → KeepsRows (λ key. list_any (λ (element : Element). bytes_eq element.key key) block.delta.elements) (rows_in was.rows) mid
    → PrunesKeys (tomb_in now) now.calls.items (touches block.delta) mid (rows_in now.rows) → Stands blocks now
stands_refused blocks block was now mid stands told ids adds heaps others prunes = record {
  tombs = λ key id. told key id ∙ stands.tombs key id;
  keys = λ key. subst (λ z. KeyStands (has_tomb blocks key) z (rows_in now.rows key) (entries blocks key)) (sym ids)
      (key_refused (has_tomb blocks key) (entries blocks key) block key was.calls.items (rows_in was.rows) mid (rows_in now.rows) (tomb_in now) (λ id. told key id ∙ stands.tombs key id) (stands.keys key) adds heaps others
      (subst (λ z. PrunesKeys (tomb_in now) z (touches block.delta) mid (rows_in now.rows)) ids prunes));
}

-- where nothing but room is another
pub stands_same : (blocks : List Block) (was now : Live) → Stands blocks was → ((key id : List ℕ) → tomb_in now key id ≡ tomb_in was key id) → now.calls.items ≡ was.calls.items → now.rows ≡ was.rows → Stands blocks now
stands_same blocks was now stands told ids rows = record {
  tombs = λ key id. told key id ∙ stands.tombs key id;
  keys = λ key. subst (λ z. KeyStands (has_tomb blocks key) now.calls.items (rows_in z key) (entries blocks key)) (sym rows) (subst (λ z. KeyStands (has_tomb blocks key) z (rows_in was.rows key) (entries blocks key)) (sym ids) (stands.keys key));
}

-- nothing was taken
pub stands_empty : (now : Live) → ((key id : List ℕ) → tomb_in now key id ≡ false) → now.calls.items ≡ [] → ((key : List ℕ) → rows_in now.rows key ≡ []) → Stands [] now
stands_empty now tombs ids rows = record {
  tombs = tombs;
  keys = λ key. subst (λ z. KeyStands (has_tomb [] key) now.calls.items z (entries [] key)) (sym (rows key)) (record { same = λ test. refl; heap = no_heap; top = tt; calls = refl });
}
