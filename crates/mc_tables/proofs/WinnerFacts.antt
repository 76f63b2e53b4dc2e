-- The block of the row that a key's value names.
use Rattle.std.proofs.Common.{◌≡◌, ℕ, Bool, true, false, not, cond, List, [], ◌∷◌, ◌||◌, Option, Some, None, refl, sym, ap, ◌∙◌, subst}
use Rattle.std.specs.Prelude.{fold, is_some, slice_get}
use Rattle.std.specs.List.{list_any, list_all}
use Rattle.std.specs.Option.{option_map, option_and_then}
use Rattle.std.specs.Str.{bytes_eq}
use Rattle.std.proofs.lemmas.Bool.{and_from, and_parts, or_parts, not-true}
use Rattle.std.proofs.lemmas.Cmp.{nat_list_eq_equiv}
use Rattle.std.proofs.lemmas.Slice.Eq.{bytes_eq-Decides}
use Rattle.mc_base.specs.declared.cid.Cid.{Cid}
use Rattle.mc_model.specs.declared.layout.Layout.{Layout}
use Rattle.mc_model.specs.declared.block.Block.{Block}
use Rattle.mc_model.specs.Ascending.{is_once}
use Rattle.mc_model.specs.Front.{same_cid}
use Rattle.mc_model.specs.Layouts.{covers, winner_in}
use Rattle.mc_model.specs.Rank.{Ranked, same_ranked}
use Rattle.mc_model.specs.Live.{value_row}
use Rattle.mc_model.specs.Who.{Placed, top_row, who}
use Rattle.mc_model.proofs.WhoFacts.{ranked_in_place, block_in_place, value_is_top}
use Rattle.mc_model.proofs.Counts.{cid_is}
use Rattle.mc_model.proofs.Greatest.{one_ranked}
use Rattle.mc_keep.specs.declared.rows.ElementRow.{ElementRow}
use Rattle.mc_keep.specs.declared.changes.ValueChange.{ValueChange}
use Rattle.mc_keep.specs.declared.changes.WinnerChange.{WinnerChange}
use Rattle.mc_keep.specs.Changes.{has_winner_of, winner_after, winners_after}
use Rattle.mc_keep.specs.LiveRows.{is_row_of, ranked_of}
use Rattle.mc_tables.specs.declared.elements.Node.{Node}
use Rattle.mc_tables.specs.Chains.{row_at, row_of_node, rows_in}
use Rattle.mc_graph.specs.Graph.{cid_in}
use Rattle.std.specs.BTreeSet.{BTreeSet}
use Rattle.std.specs.declared.string.String.{String}
use Rattle.mc_tables.specs.Values.{ranked_in, row_in, AreThere, IsCovered}
use Rattle.mc_tables.specs.Winners.{has_row_of, has_value_of, is_met, named_after, named_by, named_in, row_with_cid}
use Rattle.mc_tables.proofs.FoundFacts.{found_row, is_found}
use Rattle.mc_tables.proofs.ValueFacts.{ranked_row}

-- the block of a node is that of its row
pub node_named : (cids : List Cid) (nodes : List Node) (key : List ℕ) (value : Option ℕ)
    → option_map (λ (node : Node). cid_in cids node.block) (option_and_then (slice_get nodes) value) ≡ option_map (λ (row : ElementRow). row.cid) (option_and_then (row_at cids nodes key) value)
node_named cids nodes key None = refl
node_named cids nodes key (Some place) = by (slice_get nodes place)
  where
    by : (node : Option Node) → option_map (λ (node : Node). cid_in cids node.block) node ≡ option_map (λ (row : ElementRow). row.cid) (option_map (row_of_node cids key) node)
    by None = refl
    by (Some node) = refl

-- where no block gives a key a value it has none
pub none_won : (blocks : List Block) (key : List ℕ) → who blocks key ≡ None → value_row blocks key ≡ None
none_won blocks key e = value_is_top blocks key ∙ ap (option_map ranked_in_place) (by (top_row blocks key) e)
  where
    by : (top : Option Placed) → option_map block_in_place top ≡ None → top ≡ None
    by None e = refl
    by (Some p) e = absurd (cc)

-- a key without a value names no block
pub none_named : (cids : List Cid) (nodes : List Node) (values : List ℕ → Option ℕ) (key : List ℕ) → row_in nodes values key ≡ None → named_in cids nodes values key ≡ None
none_named cids nodes values key none = sym (node_named cids nodes key (values key)) ∙ by (option_and_then (slice_get nodes) (values key)) none
  where
    by : (node : Option Node) → option_map ranked_in node ≡ None → option_map (λ (node : Node). cid_in cids node.block) node ≡ None
    by None e = refl
    by (Some node) e = absurd (cc)

-- what stands where it stood names the block that it named
pub named_kept : (cids all : List Cid) (nodes new : List Node) (values : List ℕ → Option ℕ) → ((key : List ℕ) (place : ℕ) (row : ElementRow) → row_at cids nodes key place ≡ Some row → row_at all new key place ≡ Some row)
    → AreThere nodes values → (key : List ℕ) → named_in all new values key ≡ named_in cids nodes values key
named_kept cids all nodes new values stays there key = by (values key) (there.each key)
  where
    at : (place : ℕ) (node : Option Node) → slice_get nodes place ≡ node → is_some node ≡ true → option_map (λ (row : ElementRow). row.cid) (row_at all new key place) ≡ option_map (λ (row : ElementRow). row.cid) (option_map (row_of_node cids key) node)
    at place None got some = absurd (let f : false ≡ true = some in cc)
    at place (Some node) got some = ap (option_map (λ (row : ElementRow). row.cid)) (stays key place (row_of_node cids key node) (ap (option_map (row_of_node cids key)) got))

    by : (value : Option ℕ) → is_some (option_and_then (slice_get nodes) value) ≡ is_some value
        → option_map (λ (row : ElementRow). row.cid) (option_and_then (row_at all new key) value) ≡ option_map (λ (row : ElementRow). row.cid) (option_and_then (row_at cids nodes key) value)
    by None e = refl
    by (Some place) e = at place (slice_get nodes place) refl e

-- a row of the block with the value is found where there is one
pub row_of_block : (cid : Cid) (ranked : Ranked) (rows : List ElementRow) (row : ElementRow) → row_with_cid cid ranked rows ≡ Some row → (row.cid ≡ cid) × (same_ranked ranked (ranked_of row) ≡ true)
row_of_block cid ranked rows row e =
    let parts = and_parts (same_cid cid row.cid) (same_ranked ranked (ranked_of row)) (found_row (is_row_of cid ranked) rows row e) in
    (sym (cid_is cid row.cid parts.0), parts.1)

-- changes of winners in turn

pub unnamed : (key : List ℕ) (start : Option Cid) (changes : List WinnerChange) → has_winner_of changes key ≡ false → fold (named_after key) start changes ≡ start
unnamed key start [] e = refl
unnamed key start (c ∷ changes) e =
    let parts = or_parts (bytes_eq c.key key) (has_winner_of changes key) e in
    ap (λ b. fold (named_after key) (cond b (named_by c.cid start) start) changes) parts.0 ∙ unnamed key start changes parts.1

pub unwon : (key : List ℕ) (start : Option Cid) (changes : List WinnerChange) → has_winner_of changes key ≡ false → winners_after key start changes ≡ start
unwon key start [] e = refl
unwon key start (c ∷ changes) e =
    let parts = or_parts (bytes_eq c.key key) (has_winner_of changes key) e in
    ap (λ b. winners_after key (cond b c.cid start) changes) parts.0 ∙ unwon key start changes parts.1

-- the last change that names a block decides
pub named_last : (key : List ℕ) (start named : Option Cid) (cid : Cid) (changes : List WinnerChange) → has_winner_of changes key ≡ true → winners_after key start changes ≡ Some cid → fold (named_after key) named changes ≡ Some cid
named_last key start named cid [] has won = absurd (let f : false ≡ true = has in cc)
named_last key start named cid (c ∷ changes) has won = by (λ e. named_last key (winner_after key start c) (named_after key named c) cid changes e won) (has_winner_of changes key) refl
  where
    here : (b : Bool) → bytes_eq c.key key ≡ b → has_winner_of changes key ≡ false → fold (named_after key) (cond b (named_by c.cid named) named) changes ≡ Some cid
    here true e rest =
        unnamed key (named_by c.cid named) changes rest
        ∙ ap (λ (z : Option Cid). named_by z named) (sym (unwon key c.cid changes rest) ∙ sym (ap (λ b. winners_after key (cond b c.cid start) changes) e) ∙ won)
    here false e rest = absurd (let f : false ≡ true = sym (ap (λ b. b || has_winner_of changes key) e ∙ rest) ∙ has in cc)

    by : (has_winner_of changes key ≡ true → fold (named_after key) (named_after key named c) changes ≡ Some cid) → (b : Bool) → has_winner_of changes key ≡ b → fold (named_after key) (named_after key named c) changes ≡ Some cid
    by later true e = later e
    by later false e = here (bytes_eq c.key key) refl e

-- what the value names after changes is the block that gives it
pub winner_holds : (old new : Layout) (blocks after : List Block) (key : List ℕ) (changes : List WinnerChange) (before start named : Option Cid)
    → covers new key ≡ true
    → winner_in new after key ≡ winners_after key (winner_in old blocks key) changes
    → (covers old key ≡ true → before ≡ who blocks key)
    → (has_winner_of changes key ≡ false → start ≡ before)
    → named ≡ fold (named_after key) start changes
    → (who after key ≡ None → named ≡ None)
    → named ≡ who after key
winner_holds old new blocks after key changes before start named there won held same is gone = by (has_winner_of changes key) refl
  where
    whole : who after key ≡ winners_after key (winner_in old blocks key) changes
    whole = sym (ap (λ b. cond b (who after key) None) there) ∙ won

    none : (b : Bool) → covers old key ≡ b → has_winner_of changes key ≡ false → named ≡ who after key
    none true c e =
        is ∙ unnamed key start changes e ∙ same e ∙ held c
        ∙ sym (whole ∙ unwon key (winner_in old blocks key) changes e ∙ ap (λ b. cond b (who blocks key) None) c)
    none false c e =
        let gone_now : who after key ≡ None = whole ∙ unwon key (winner_in old blocks key) changes e ∙ ap (λ b. cond b (who blocks key) None) c in
        gone gone_now ∙ sym gone_now

    some : (cid : Option Cid) → winners_after key (winner_in old blocks key) changes ≡ cid → has_winner_of changes key ≡ true → named ≡ who after key
    some None w has = gone (whole ∙ w) ∙ sym (whole ∙ w)
    some (Some cid) w has = is ∙ named_last key (winner_in old blocks key) start cid changes has w ∙ sym (whole ∙ w)

    by : (b : Bool) → has_winner_of changes key ≡ b → named ≡ who after key
    by true e = some (winners_after key (winner_in old blocks key) changes) refl e
    by false e = none (covers old key) refl e

-- a changed value comes with its block
pub no_value_change : (values : List ValueChange) (winners : List WinnerChange) (key : List ℕ) → list_all (λ (change : ValueChange). has_winner_of winners change.key) values ≡ true
    → has_winner_of winners key ≡ false → has_value_of values key ≡ false
no_value_change [] winners key all none = refl
no_value_change (v ∷ values) winners key all none =
    let parts = and_parts (has_winner_of winners v.key) (list_all (λ (change : ValueChange). has_winner_of winners change.key) values) all in
    ap (λ b. b || has_value_of values key) (by (bytes_eq v.key key) refl parts.0) ∙ no_value_change values winners key parts.1 none
  where
    by : (b : Bool) → bytes_eq v.key key ≡ b → has_winner_of winners v.key ≡ true → b ≡ false
    by true e has = let f : true ≡ false = sym has ∙ ap (has_winner_of winners) ((bytes_eq-Decides v.key key).0 e) ∙ none in absurd (cc)
    by false e has = refl

-- the changes meet rows where each block that comes of them has one
won_alone : (key : List ℕ) (start : Option Cid) (changes : List WinnerChange) → list_any (λ (change : WinnerChange). bytes_eq key change.key) changes ≡ false → winners_after key start changes ≡ start
won_alone key start [] e = refl
won_alone key start (c ∷ changes) e =
    let parts = or_parts (bytes_eq key c.key) (list_any (λ (change : WinnerChange). bytes_eq key change.key) changes) e in
    ap (λ b. winners_after key (cond b c.cid start) changes) (nat_list_eq_equiv.symm c.key key ∙ parts.0) ∙ won_alone key start changes parts.1

pub all_met : (values : List ℕ → Option Ranked) (rows : List ℕ → List ElementRow) (start : List ℕ → Option Cid) (changes : List WinnerChange) → is_once (λ (a b : WinnerChange). bytes_eq a.key b.key) changes ≡ true
    → ((key : List ℕ) (cid : Cid) → winners_after key (start key) changes ≡ Some cid → has_row_of (Some cid) (values key) (rows key) ≡ true) → list_all (is_met values rows) changes ≡ true
all_met values rows start [] once are = refl
all_met values rows start (c ∷ changes) once are =
    let parts = and_parts (not (list_any (λ (d : WinnerChange). bytes_eq c.key d.key) changes)) (is_once (λ (a b : WinnerChange). bytes_eq a.key b.key) changes) once in
    and_from (is_met values rows c) (list_all (is_met values rows) changes)
    (by c.cid refl (not-true (list_any (λ (d : WinnerChange). bytes_eq c.key d.key) changes) parts.0))
    (all_met values rows (λ key. winner_after key (start key) c) changes parts.1 are)
  where
    by : (cid : Option Cid) → c.cid ≡ cid → list_any (λ (d : WinnerChange). bytes_eq c.key d.key) changes ≡ false → has_row_of cid (values c.key) (rows c.key) ≡ true
    by None is e = refl
    by (Some cid) is e =
        are c.key cid
        (ap (λ b. winners_after c.key (cond b c.cid (start c.key)) changes) ((bytes_eq-Decides c.key c.key).1 refl)
        ∙ won_alone c.key c.cid changes e ∙ is)

-- a value is set to a row of the block
pub record IsRowOf (cid : Cid) (value : Option Ranked) (rows : List ElementRow) : Type 0 where
  pub ranked : Ranked
  pub row : ElementRow
  pub is_value : value ≡ Some ranked
  pub found : row_with_cid cid ranked rows ≡ Some row

pub row_of_value : (cid : Cid) (value : Option Ranked) (rows : List ElementRow) → has_row_of (Some cid) value rows ≡ true → IsRowOf cid value rows
row_of_value cid None rows e = absurd (let f : false ≡ true = e in cc)
row_of_value cid (Some ranked) rows e = by (row_with_cid cid ranked rows) refl (is_found (is_row_of cid ranked) rows e)
  where
    by : (row : Option ElementRow) → row_with_cid cid ranked rows ≡ row → is_some (row_with_cid cid ranked rows) ≡ true → IsRowOf cid (Some ranked) rows
    by None is some = absurd (let f : false ≡ true = sym (ap is_some is) ∙ some in cc)
    by (Some row) is some = record { ranked = ranked; row = row; is_value = refl; found = is }

module _ (cids : List Cid) (nodes : List Node) (lasts old new : List ℕ → Option ℕ) (key : List ℕ) (cid : Cid) (place : ℕ) (met : has_row_of (Some cid) (row_in nodes old key) (rows_in cids nodes lasts key) ≡ true)
    (at : row_at cids nodes key place ≡ option_and_then (λ ranked. row_with_cid cid ranked (rows_in cids nodes lasts key)) (row_in nodes old key))
    (set : (other : List ℕ) → new other ≡ cond (bytes_eq key other) (Some place) (old other)) where
  abbrev own : IsRowOf cid (row_in nodes old key) (rows_in cids nodes lasts key)
  own = row_of_value cid (row_in nodes old key) (rows_in cids nodes lasts key) met

  stands : row_at cids nodes key place ≡ Some own.row
  stands = at ∙ ap (option_and_then (λ ranked. row_with_cid cid ranked (rows_in cids nodes lasts key))) own.is_value ∙ own.found

  is_of : (own.row.cid ≡ cid) × (same_ranked own.ranked (ranked_of own.row) ≡ true)
  is_of = row_of_block cid own.ranked (rows_in cids nodes lasts key) own.row own.found

  pub set_named : (other : List ℕ) → named_in cids nodes new other ≡ cond (bytes_eq key other) (Some cid) (named_in cids nodes old other)
  set_named other = ap (λ (v : Option ℕ). option_map (λ (row : ElementRow). row.cid) (option_and_then (row_at cids nodes other) v)) (set other) ∙ by (bytes_eq key other)
    where
      by : (b : Bool) → option_map (λ (row : ElementRow). row.cid) (option_and_then (row_at cids nodes other) (cond b (Some place) (old other))) ≡ cond b (Some cid) (named_in cids nodes old other)
      by true =
          sym (node_named cids nodes other (Some place)) ∙ node_named cids nodes key (Some place) ∙ ap (option_map (λ (row : ElementRow). row.cid)) stands ∙ ap (λ (c : Cid). Some c) is_of.0
      by false = refl

  pub set_rows : (other : List ℕ) → row_in nodes new other ≡ row_in nodes old other
  set_rows other = ap (λ value. option_map ranked_in (option_and_then (slice_get nodes) value)) (set other) ∙ by (bytes_eq key other) refl
    where
      by : (b : Bool) → bytes_eq key other ≡ b → option_map ranked_in (option_and_then (slice_get nodes) (cond b (Some place) (old other))) ≡ row_in nodes old other
      by true e =
          ranked_row cids key (slice_get nodes place) ∙ ap (option_map ranked_of) stands
          ∙ ap (λ (r : Ranked). Some r) (sym (one_ranked own.ranked (ranked_of own.row) is_of.1)) ∙ sym own.is_value ∙ ap (row_in nodes old) ((bytes_eq-Decides key other).0 e)
      by false e = refl

  pub set_has : (other : List ℕ) → is_some (new other) ≡ is_some (old other)
  set_has other = ap is_some (set other) ∙ by (bytes_eq key other) refl
    where
      had : (value : Option ℕ) → option_map ranked_in (option_and_then (slice_get nodes) value) ≡ Some own.ranked → true ≡ is_some value
      had None e = absurd (let f : None ≡ Some own.ranked = e in cc)
      had (Some at) e = refl

      by : (b : Bool) → bytes_eq key other ≡ b → is_some (cond b (Some place) (old other)) ≡ is_some (old other)
      by true e = had (old key) own.is_value ∙ ap (λ z. is_some (old z)) ((bytes_eq-Decides key other).0 e)
      by false e = refl

-- a key whose value names the block already needs no change
pub named_still : (cids : List Cid) (nodes : List Node) (values : List ℕ → Option ℕ) (key : List ℕ) (cid : Cid) → named_in cids nodes values key ≡ Some cid
    → (other : List ℕ) → named_in cids nodes values other ≡ cond (bytes_eq key other) (Some cid) (named_in cids nodes values other)
named_still cids nodes values key cid named other = by (bytes_eq key other) refl
  where
    by : (b : Bool) → bytes_eq key other ≡ b → named_in cids nodes values other ≡ cond b (Some cid) (named_in cids nodes values other)
    by true e = ap (named_in cids nodes values) (sym ((bytes_eq-Decides key other).0 e)) ∙ named
    by false e = refl

-- where a row is due one is found
pub no_row : (cid : Cid) (value : Option Ranked) (rows : List ElementRow) → has_row_of (Some cid) value rows ≡ true → None ≡ option_and_then (λ ranked. row_with_cid cid ranked rows) value → ⊥
no_row cid value rows met none =
    let own = row_of_value cid value rows met in
    let f : None ≡ Some own.row = none ∙ ap (option_and_then (λ ranked. row_with_cid cid ranked rows)) own.is_value ∙ own.found in
    absurd (cc)

-- keys that have a value as before are covered as before
pub covered_still : {Y : Type 0} (texts new_texts : List (String Y)) (old new : List ℕ → Option ℕ) (ordered : BTreeSet (String Y)) (pending : List ℕ) → new_texts ≡ texts → ((key : List ℕ) → is_some (new key) ≡ is_some (old key))
    → IsCovered texts old ordered pending → IsCovered new_texts new ordered pending
covered_still texts new_texts old new ordered pending same alike covered = subst (λ z. IsCovered z new ordered pending) (sym same) (record {
  each = λ key has. covered.each key (sym (alike key) ∙ has);
  exact = λ key there. alike key ∙ covered.exact key there;
})
