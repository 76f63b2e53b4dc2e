-- What a change of one key does to the table of value rows, and to its keys in order.
use Rattle.std.proofs.Common.{◌≡◌, ℕ, Bool, true, false, cond, ◌||◌, ◌&&◌, List, [], ◌∷◌, ◌++◌, Option, Some, None, inl, inr, sym, refl, ap, ◌∙◌, subst}
use Rattle.std.specs.Prelude.{is_some, slice_get}
use Rattle.std.specs.Str.{bytes_eq}
use Rattle.std.specs.Option.{option_map, option_and_then}
use Rattle.std.specs.BTreeSet.{BTreeSet, contains_text}
use Rattle.std.specs.HashMap.{HashMap}
use Rattle.std.specs.declared.string.String.{String}
use Rattle.std.proofs.lemmas.List.Folds.{list_any-append}
use Rattle.std.proofs.lemmas.Bool.{or_right, or_left, or_cases}
use Rattle.std.proofs.lemmas.Slice.Eq.{bytes_eq-Decides}
use Rattle.mc_base.specs.declared.cid.Cid.{Cid}
use Rattle.mc_model.specs.Rank.{Ranked}
use Rattle.mc_keep.specs.declared.rows.ElementRow.{ElementRow}
use Rattle.mc_keep.specs.LiveRows.{ranked_of}
use Rattle.mc_tables.specs.declared.elements.Node.{Node}
use Rattle.mc_tables.specs.Chains.{row_at, row_of_node, KeepsNodes}
use Rattle.mc_tables.specs.Places.{is_named, stands_at, has_value_at, texts_in, value_in, KeepsTexts}
use Rattle.mc_tables.specs.declared.places.Places.{Places}
use Rattle.mc_tables.specs.Values.{ranked_in, row_in, row_with, waits_in, AreThere, IsCovered}
use Rattle.mc_tables.proofs.FoundFacts.{found_is}

more : (a b c : Bool) → (a || b) ≡ true → (a || (b || c)) ≡ true
more true b c e = refl
more false b c e = or_left b c e

-- a key that has a value, and those that had one
module _ {Y : Type 0} (texts : List (String Y)) (old new : List ℕ → Option ℕ) (ordered : BTreeSet (String Y)) (pending : List ℕ) (key : List ℕ)
    (set : (other : List ℕ) → is_some (new other) ≡ cond (bytes_eq key other) true (is_some (old other))) where
  covered_where : (all : List ℕ) → ((other : List ℕ) → key ≡ other → (contains_text ordered other || waits_in texts all other) ≡ true)
      → ((other : List ℕ) → (contains_text ordered other || waits_in texts pending other) ≡ true → (contains_text ordered other || waits_in texts all other) ≡ true)
      → IsCovered texts old ordered pending → IsCovered texts new ordered all
  covered_where all here kept covered = record {
    each = λ other has. by other (bytes_eq key other) refl (sym (set other) ∙ has);
    exact = λ other there. set other ∙ still (bytes_eq key other) (is_some (old other)) (covered.exact other there);
  }
    where
      still : (b has : Bool) → has ≡ true → cond b true has ≡ true
      still true has e = refl
      still false has e = e

      by : (other : List ℕ) (b : Bool) → bytes_eq key other ≡ b → cond (bytes_eq key other) true (is_some (old other)) ≡ true → (contains_text ordered other || waits_in texts all other) ≡ true
      by other true e has = here other ((bytes_eq-Decides key other).0 e)
      by other false e has = kept other (covered.each other (sym (ap (λ t. cond t true (is_some (old other))) e) ∙ has))

  -- a new key is covered by its place among those that wait
  pub covered_new : (number : ℕ) → stands_at texts key number ≡ true → IsCovered texts old ordered pending → IsCovered texts new ordered (pending ++ number ∷ [])
  covered_new number stands covered =
      covered_where (pending ++ number ∷ [])
      (λ other same. subst (λ (z : List ℕ). (contains_text ordered z || waits_in texts (pending ++ number ∷ []) z) ≡ true) same
      (or_right (contains_text ordered key) (waits_in texts (pending ++ number ∷ []) key)
      (list_any-append (stands_at texts key) pending (number ∷ []) ∙ or_right (waits_in texts pending key) (stands_at texts key number || false) (or_left (stands_at texts key number) false stands))))
      (λ other e. ap (λ t. contains_text ordered other || t) (list_any-append (stands_at texts other) pending (number ∷ [])) ∙ more (contains_text ordered other) (waits_in texts pending other) (stands_at texts other number || false) e)
      covered

  -- and one that had a value is covered
  pub covered_had : is_some (old key) ≡ true → IsCovered texts old ordered pending → IsCovered texts new ordered pending
  covered_had had covered = covered_where pending (λ other same. covered.each other (ap (λ z. is_some (old z)) (sym same) ∙ had)) (λ other e. e) covered

-- keys that keep their places are covered as before
module _ {Y : Type 0} (texts new : List (String Y)) (keeps : KeepsTexts texts new) where
  stands_kept : (key : List ℕ) (place : ℕ) → stands_at texts key place ≡ true → stands_at new key place ≡ true
  stands_kept key place e = by (slice_get texts place) refl
    where
      by : (found : Option (String Y)) → slice_get texts place ≡ found → stands_at new key place ≡ true
      by None is = absurd (let f : false ≡ true = sym (ap (is_named key) is) ∙ e in cc)
      by (Some text) is = ap (is_named key) (keeps place text is) ∙ sym (ap (is_named key) is) ∙ e

  waits_kept : (pending : List ℕ) (key : List ℕ) → waits_in texts pending key ≡ true → waits_in new pending key ≡ true
  waits_kept [] key e = e
  waits_kept (place ∷ pending) key e = elim (or_cases (stands_at texts key place) (waits_in texts pending key) e) [
    | inl here ↦ or_left (stands_at new key place) (waits_in new pending key) (stands_kept key place here)
    | inr later ↦ or_right (stands_at new key place) (waits_in new pending key) (waits_kept pending key later)
  ]

  pub covered_kept : (values new_values : List ℕ → Option ℕ) (ordered : BTreeSet (String Y)) (pending : List ℕ) → ((key : List ℕ) → new_values key ≡ values key) → IsCovered texts values ordered pending → IsCovered new new_values ordered pending
  covered_kept values new_values ordered pending same covered = record {
    each = λ key has. by (contains_text ordered key) key (covered.each key (ap is_some (sym (same key)) ∙ has));
    exact = λ key there. ap is_some (same key) ∙ covered.exact key there;
  }
    where
      by : (b : Bool) (key : List ℕ) → (b || waits_in texts pending key) ≡ true → (b || waits_in new pending key) ≡ true
      by true key e = refl
      by false key e = waits_kept pending key e

-- the value of a node is that of its row
pub ranked_row : (cids : List Cid) (key : List ℕ) (node : Option Node) → option_map ranked_in node ≡ option_map ranked_of (option_map (row_of_node cids key) node)
ranked_row cids key None = refl
ranked_row cids key (Some node) = refl

-- what the value of a key is once its place is set, or gone
module _ (nodes : List Node) (old new : List ℕ → Option ℕ) (key : List ℕ) where
  pub row_set : (cids : List Cid) (place : ℕ) (ranked : Ranked) (rows : List ElementRow) → row_at cids nodes key place ≡ row_with ranked rows → is_some (row_with ranked rows) ≡ true
      → ((other : List ℕ) → new other ≡ cond (bytes_eq key other) (Some place) (old other))
      → (other : List ℕ) → row_in nodes new other ≡ cond (bytes_eq key other) (Some ranked) (row_in nodes old other)
  row_set cids place ranked rows at some set other = ap (λ value. option_map ranked_in (option_and_then (slice_get nodes) value)) (set other) ∙ by (bytes_eq key other)
    where
      found : (row : Option ElementRow) → row_with ranked rows ≡ row → is_some row ≡ true → option_map ranked_of row ≡ Some ranked
      found None is e = absurd (let f : false ≡ true = e in cc)
      found (Some row) is e = ap (λ (z : Ranked). Some z) (sym (found_is ranked rows row is))

      by : (b : Bool) → option_map ranked_in (option_and_then (slice_get nodes) (cond b (Some place) (old other))) ≡ cond b (Some ranked) (row_in nodes old other)
      by true = ranked_row cids key (slice_get nodes place) ∙ ap (option_map ranked_of) at ∙ found (row_with ranked rows) refl some
      by false = refl

-- what stays where it stood has the values that it had
node_kept : (nodes new : List Node) → KeepsNodes nodes new → (place : ℕ) (node : Option Node) → slice_get nodes place ≡ node → is_some node ≡ true → slice_get new place ≡ node
node_kept nodes new stays place None is e = absurd (let f : false ≡ true = e in cc)
node_kept nodes new stays place (Some node) is e = stays place node is

pub row_kept : (nodes new : List Node) (values : List ℕ → Option ℕ) → KeepsNodes nodes new → AreThere nodes values → (key : List ℕ) → row_in new values key ≡ row_in nodes values key
row_kept nodes new values stays there key = by (values key) (there.each key)
  where
    by : (value : Option ℕ) → is_some (option_and_then (slice_get nodes) value) ≡ is_some value → option_map ranked_in (option_and_then (slice_get new) value) ≡ option_map ranked_in (option_and_then (slice_get nodes) value)
    by None e = refl
    by (Some place) e = ap (option_map ranked_in) (node_kept nodes new stays place (slice_get nodes place) refl e)

pub there_kept : (nodes new : List Node) (values : List ℕ → Option ℕ) → KeepsNodes nodes new → AreThere nodes values → AreThere new values
there_kept nodes new values stays there = record { each = λ key. by (values key) (there.each key) }
  where
    by : (value : Option ℕ) → is_some (option_and_then (slice_get nodes) value) ≡ is_some value → is_some (option_and_then (slice_get new) value) ≡ is_some value
    by None e = refl
    by (Some place) e = ap is_some (node_kept nodes new stays place (slice_get nodes place) refl e) ∙ e

-- the same rows at the same places
pub there_same : (nodes new_nodes : List Node) (old new : List ℕ → Option ℕ) → new_nodes ≡ nodes → ((key : List ℕ) → new key ≡ old key) → AreThere nodes old → AreThere new_nodes new
there_same nodes new_nodes old new kept same there = record {
  each = λ key.
      ap (λ v. is_some (option_and_then (slice_get new_nodes) v)) (same key)
      ∙ ap (λ (z : List Node). is_some (option_and_then (slice_get z) (old key))) kept ∙ there.each key ∙ ap is_some (sym (same key));
}

-- a node has a value, and a row
some_value : (node : Option Node) → is_some (option_map ranked_in node) ≡ is_some node
some_value None = refl
some_value (Some node) = refl

pub some_node : (cids : List Cid) (key : List ℕ) (node : Option Node) → is_some node ≡ is_some (option_map (row_of_node cids key) node)
some_node cids key None = refl
some_node cids key (Some node) = refl

-- keys that have the values that they had
pub there_valued : (nodes new_nodes : List Node) (old new : List ℕ → Option ℕ) → ((key : List ℕ) → row_in new_nodes new key ≡ row_in nodes old key) → ((key : List ℕ) → is_some (new key) ≡ is_some (old key)) → AreThere nodes old → AreThere new_nodes new
there_valued nodes new_nodes old new rows has there = record {
  each = λ key.
      sym (some_value (option_and_then (slice_get new_nodes) (new key))) ∙ ap is_some (rows key)
      ∙ some_value (option_and_then (slice_get nodes) (old key)) ∙ there.each key ∙ sym (has key);
}

-- a key's value is set to a place with a row
pub there_set : (cids : List Cid) (nodes : List Node) (old new : List ℕ → Option ℕ) (key : List ℕ) (place : ℕ) → is_some (row_at cids nodes key place) ≡ true
    → ((other : List ℕ) → new other ≡ cond (bytes_eq key other) (Some place) (old other)) → AreThere nodes old → AreThere nodes new
there_set cids nodes old new key place some set there = record {
  each = λ other. ap (λ v. is_some (option_and_then (slice_get nodes) v)) (set other) ∙ by other (bytes_eq key other) ∙ ap is_some (sym (set other));
}
  where
    by : (other : List ℕ) (b : Bool) → is_some (option_and_then (slice_get nodes) (cond b (Some place) (old other))) ≡ is_some (cond b (Some place) (old other))
    by other true = some_node cids key (slice_get nodes place) ∙ some
    by other false = there.each other

-- a key's value goes
pub there_without : (nodes : List Node) (old new : List ℕ → Option ℕ) (key : List ℕ) → ((other : List ℕ) → new other ≡ cond (bytes_eq key other) None (old other)) → AreThere nodes old → AreThere nodes new
there_without nodes old new key gone there = record {
  each = λ other. ap (λ v. is_some (option_and_then (slice_get nodes) v)) (gone other) ∙ by other (bytes_eq key other) ∙ ap is_some (sym (gone other));
}
  where
    by : (other : List ℕ) (b : Bool) → is_some (option_and_then (slice_get nodes) (cond b None (old other))) ≡ is_some (cond b None (old other))
    by other true = refl
    by other false = there.each other

-- a key that is put into order, where it has a value, needs to wait no more
pub covered_moved : {Y S : Type 0} (keys : HashMap (String Y) Places S) (ordered new : BTreeSet (String Y)) (pending all : List ℕ) (number : ℕ)
    → all ≡ pending ++ number ∷ []
    → ((other : List ℕ) → contains_text new other ≡ cond (has_value_at keys other number) true (contains_text ordered other))
    → IsCovered (texts_in keys) (value_in keys) ordered all → IsCovered (texts_in keys) (value_in keys) new pending
covered_moved {Y = Y} keys ordered new pending all number e updates covered = record {
  each = λ other has.
      ap (λ t. t || waits_in texts pending other) (updates other)
      ∙ ap (λ t. cond (stands_at texts other number && t) true (contains_text ordered other) || waits_in texts pending other) has
      ∙ by other (stands_at texts other number)
      (ap (λ t. contains_text ordered other || t) (sym (list_any-append (stands_at texts other) pending (number ∷ [])))
      ∙ ap (λ z. contains_text ordered other || waits_in texts z other) (sym e) ∙ covered.each other has);
  exact = λ other there. still (stands_at texts other number) (is_some (value_in keys other)) (contains_text ordered other) (covered.exact other) (sym (updates other) ∙ there);
}
  where
    texts : List (String Y)
    texts = texts_in keys

    last : (a b : Bool) → (a || (b || (false || false))) ≡ true → (a || b) ≡ true
    last true b h = refl
    last false true h = refl
    last false false h = h

    by : (other : List ℕ) (b : Bool) → (contains_text ordered other || (waits_in texts pending other || (b || false))) ≡ true → (cond (b && true) true (contains_text ordered other) || waits_in texts pending other) ≡ true
    by other true h = refl
    by other false h = last (contains_text ordered other) (waits_in texts pending other) h

    still : (stands has there : Bool) → (there ≡ true → has ≡ true) → cond (stands && has) true there ≡ true → has ≡ true
    still true true there exact h = refl
    still true false there exact h = exact h
    still false has there exact h = exact h

-- a key that loses its value needs not be in order
pub covered_without : {Y : Type 0} (texts : List (String Y)) (old values : List ℕ → Option ℕ) (ordered new : BTreeSet (String Y)) (pending : List ℕ) (key : List ℕ)
    → ((other : List ℕ) → values other ≡ cond (bytes_eq key other) None (old other))
    → ((other : List ℕ) → contains_text new other ≡ cond (bytes_eq key other) false (contains_text ordered other))
    → IsCovered texts old ordered pending → IsCovered texts values new pending
covered_without texts old values ordered new pending key gone without covered = record {
  each = λ other has. by other (bytes_eq key other) refl (sym (ap is_some (gone other)) ∙ has);
  exact = λ other there. ap is_some (gone other) ∙ still (bytes_eq key other) (old other) (contains_text ordered other) (covered.exact other) (sym (without other) ∙ there);
}
  where
    still : (b : Bool) (value : Option ℕ) (there : Bool) → (there ≡ true → is_some value ≡ true) → cond b false there ≡ true → is_some (cond b None value) ≡ true
    still true value there exact h = absurd (let f : false ≡ true = h in cc)
    still false value there exact h = exact h

    by : (other : List ℕ) (b : Bool) → bytes_eq key other ≡ b → is_some (cond (bytes_eq key other) None (old other)) ≡ true → (contains_text new other || waits_in texts pending other) ≡ true
    by other true e has = absurd (let f : false ≡ true = sym (ap (λ t. is_some (cond t None (old other))) e) ∙ has in cc)
    by other false e has =
        ap (λ t. t || waits_in texts pending other) (without other ∙ ap (λ t. cond t false (contains_text ordered other)) e)
        ∙ covered.each other (sym (ap (λ t. is_some (cond t None (old other))) e) ∙ has)

-- keys that wait in another order are covered as before
pub covered_sorted : {Y : Type 0} (texts : List (String Y)) (values : List ℕ → Option ℕ) (ordered : BTreeSet (String Y)) (pending new : List ℕ)
    → ((key : List ℕ) → waits_in texts new key ≡ waits_in texts pending key) → IsCovered texts values ordered pending → IsCovered texts values ordered new
covered_sorted texts values ordered pending new same covered = record {
  each = λ key has. ap (λ t. contains_text ordered key || t) (same key) ∙ covered.each key has;
  exact = covered.exact;
}

-- where no key waits, the keys in order are those that have a row with a value
pub rows_in_order : {Y : Type 0} (nodes : List Node) (texts : List (String Y)) (values : List ℕ → Option ℕ) (ordered : BTreeSet (String Y)) (rows : List ℕ → Option Ranked)
    → AreThere nodes values → IsCovered texts values ordered [] → ((key : List ℕ) → row_in nodes values key ≡ rows key) → (key : List ℕ) → is_some (rows key) ≡ contains_text ordered key
rows_in_order nodes texts values ordered rows there covered same key =
    ap is_some (sym (same key)) ∙ some_value (option_and_then (slice_get nodes) (values key)) ∙ there.each key
    ∙ both (is_some (values key)) (contains_text ordered key) (covered.each key) (covered.exact key)
  where
    both : (a b : Bool) → (a ≡ true → (b || false) ≡ true) → (b ≡ true → a ≡ true) → a ≡ b
    both true true up down = refl
    both true false up down = sym (up refl)
    both false true up down = down refl
    both false false up down = refl
