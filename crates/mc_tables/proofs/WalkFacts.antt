-- A walk along the chain of a key, from its last row to its first.
use Rattle.std.proofs.Common.{◌≡◌, ℕ, ◌<◌, Bool, true, false, cond, List, [], ◌∷◌, map, length, Option, Some, sym, ap, ◌∙◌, subst, get_or, ltb}
use Rattle.std.specs.Prelude.{slice_get, find}
use Rattle.std.specs.Option.{option_map}
use Rattle.mc_base.specs.declared.cid.Cid.{Cid}
use Rattle.mc_keep.specs.declared.rows.ElementRow.{ElementRow}
use Rattle.mc_tables.specs.declared.elements.Node.{Node}
use Rattle.mc_tables.specs.Chains.{AreChains, row_at, row_of_node, rows_in, rows_from, is_before, lead_back}
use Rattle.mc_tables.proofs.ChainFacts.{steps_left, chain_step, chain_done, got_at, is_none}

-- what is wanted of all rows of a key is what is made of those from a place on
pub record IsWalking (cids : List Cid) {A : Type 0} (nodes : List Node) (key : List ℕ) (wanted : A) (made : List ElementRow → A) (at : Option ℕ) : Type 0 where
  pub rows : wanted ≡ made (rows_from cids nodes key at)
  pub there : is_before (length nodes) at ≡ true

-- at a node there is its row, and then those from the place before
pub record IsAtNode (cids : List Cid) {A : Type 0} (nodes : List Node) (key : List ℕ) (wanted : A) (made : List ElementRow → A) (at : Option ℕ) (node : Node) : Type 0 where
  pub rows : wanted ≡ made (row_of_node cids key node ∷ rows_from cids nodes key node.before)
  pub there : is_before (length nodes) node.before ≡ true
  pub fewer : steps_left node.before < steps_left at

module _ {A : Type 0} {cids : List Cid} {nodes : List Node} {key : List ℕ} where
  pub walk_begins : (made : List ElementRow → A) {lasts : List ℕ → Option ℕ} {at : Option ℕ} → AreChains nodes lasts → at ≡ lasts key
      → IsWalking cids nodes key (made (rows_in cids nodes lasts key)) made at
  walk_begins made {lasts = lasts} chains last = record {
    rows = ap (λ (place : Option ℕ). made (rows_from cids nodes key place)) (sym last);
    there = ap (is_before (length nodes)) last ∙ chains.there key;
  }

  -- `seen` is the slice of the nodes, in which the one at the place was got
  pub walk_steps : {wanted : A} {made : List ElementRow → A} {at : Option ℕ} {place : ℕ} {node : Node} {seen : List Node} → lead_back 0 nodes ≡ true → IsWalking cids nodes key wanted made at
      → at ≡ Some place → seen ≡ nodes → true ≡ ltb place (length seen) → node ≡ get_or seen place node → IsAtNode cids nodes key wanted made at node
  walk_steps {made = made} {place = place} {node = node} {seen = seen} back walking is same within found =
      let got = subst (λ (slice : List Node). slice_get slice place ≡ Some node) same (got_at seen place node within found) in
      let there = subst (λ (z : Option ℕ). is_before (length nodes) z ≡ true) is walking.there in
      let step = chain_step nodes back (length nodes) place node there got in
      record {
        rows = walking.rows ∙ ap (λ (z : Option ℕ). made (rows_from cids nodes key z)) is ∙ ap (λ (rest : List Node). made (map (row_of_node cids key) rest)) step.0;
        there = step.1;
        fewer = subst (λ (z : Option ℕ). steps_left node.before < steps_left z) (sym is) step.2;
      }

  pub walk_ends : {wanted : A} {made : List ElementRow → A} {at : Option ℕ} → IsWalking cids nodes key wanted made at → ((place : ℕ) → at ≡ Some place → ⊥) → wanted ≡ made []
  walk_ends {made = made} {at = at} walking never =
      walking.rows ∙ ap (λ (z : Option ℕ). made (rows_from cids nodes key z)) (is_none at never) ∙ ap (λ (rest : List Node). made (map (row_of_node cids key) rest)) (chain_done nodes (length nodes))

-- a search passes by a row that fails, and ends at one that passes
module _ {cids : List Cid} {nodes : List Node} {key : List ℕ} {wanted : Option ElementRow} {at : Option ℕ} {node : Node} (test : ElementRow → Bool) (step : IsAtNode cids nodes key wanted (find test) at node) where
  pub row_passed : test (row_of_node cids key node) ≡ false → IsWalking cids nodes key wanted (find test) node.before
  row_passed fails = record {
    rows = step.rows ∙ ap (λ (b : Bool). cond b (Some (row_of_node cids key node)) (find test (rows_from cids nodes key node.before))) fails;
    there = step.there;
  }

  pub row_here : (place : ℕ) → slice_get nodes place ≡ Some node → test (row_of_node cids key node) ≡ true → row_at cids nodes key place ≡ wanted
  row_here place got passes =
      ap (option_map (row_of_node cids key)) got
      ∙ sym (step.rows ∙ ap (λ (b : Bool). cond b (Some (row_of_node cids key node)) (find test (rows_from cids nodes key node.before))) passes)
