-- Chains of nodes: what one more node leaves of them.
use Rattle.std.proofs.Common.{◌≡◌, ℕ, zero, suc, ◌+◌, ◌<◌, ◌≤◌, ◌||◌, ◌⊎◌, inl, inr, arith, Bool, true, false, cond, List, [], ◌∷◌, ◌++◌, map, length, Option, Some, None, sym, refl, ap, ◌∙◌, subst, length-append, ltb, get_or}
use Rattle.std.specs.Prelude.{slice_get, nat_eq}
use Rattle.std.specs.Str.{bytes_eq}
use Rattle.std.proofs.lemmas.Bool.Decides.{nat_tests}
use Rattle.std.proofs.lemmas.Bool.{and_from, and_parts, or_cases}
use Rattle.std.proofs.lemmas.Option.{slice_get_within}
use Rattle.std.proofs.lemmas.Slice.Eq.{bytes_eq-Decides}
use Rattle.mc_base.specs.declared.cid.Cid.{Cid}
use Rattle.mc_keep.specs.declared.rows.ElementRow.{ElementRow}
use Rattle.mc_graph.proofs.Within.{get_push, is_below}
use Rattle.mc_tables.specs.declared.elements.Node.{Node}
use Rattle.mc_tables.specs.Chains.{is_before, is_on, lead_back, chain, row_of_node, rows_in, AreChains, KeepsNodes}

pub before_later : (place later : ℕ) (at : Option ℕ) → place ≤ later → is_before place at ≡ true → is_before later at ≡ true
before_later place later None l e = refl
before_later place later (Some at) l e = grind (arith, nat_tests, e, l)

-- a node leads to one before its place
leads_back : (first place : ℕ) (nodes : List Node) (node : Node) → lead_back first nodes ≡ true → slice_get nodes place ≡ Some node → is_before (first + place) node.before ≡ true
leads_back first place [] node back got = absurd (let f : None ≡ Some node = got in cc)
leads_back first zero (n ∷ nodes) node back got =
    let same : n ≡ node = cc (got) in
    subst (λ z. is_before z node.before ≡ true) (omega arith) (subst (λ z. is_before first z.before ≡ true) same (and_parts (is_before first n.before) (lead_back (first + 1) nodes) back).0)
leads_back first (suc place) (n ∷ nodes) node back got =
    let parts = and_parts (is_before first n.before) (lead_back (first + 1) nodes) back in
    subst (λ z. is_before z node.before ≡ true) (omega arith) (leads_back (first + 1) place nodes node parts.1 got)

-- one more node leads back too
pub back_push : (first : ℕ) (nodes : List Node) (node : Node) → lead_back first nodes ≡ true → is_before (first + length nodes) node.before ≡ true → lead_back first (nodes ++ node ∷ []) ≡ true
back_push first [] node back before = and_from (is_before first node.before) true (subst (λ z. is_before z node.before ≡ true) (omega arith) before) refl
back_push first (n ∷ nodes) node back before =
    let parts = and_parts (is_before first n.before) (lead_back (first + 1) nodes) back in
    and_from (is_before first n.before) (lead_back (first + 1) (nodes ++ node ∷ [])) parts.0
    (back_push (first + 1) nodes node parts.1 (subst (λ z. is_before z node.before ≡ true) (omega arith) before))

get_last : {A : Type 0} (xs : List A) (y : A) → slice_get (xs ++ y ∷ []) (length xs) ≡ Some y
get_last [] y = refl
get_last (x ∷ xs) y = get_last xs y

module _ (nodes : List Node) (back : lead_back 0 nodes ≡ true) where
  -- the node at a place leads to one before that place
  pub node_leads : (place : ℕ) (node : Node) → slice_get nodes place ≡ Some node → is_before place node.before ≡ true
  node_leads place node got = subst (λ z. is_before z node.before ≡ true) (omega arith) (leads_back 0 place nodes node back got)

  abbrev next : List Node → ℕ → Option Node → List Node
  next all most found = elim found [ None ↦ [] | Some node ↦ node ∷ chain all most node.before ]

  -- one more node is in none of the old chains
  pub chain_push : (node : Node) (most : ℕ) (at : Option ℕ) → is_before (length nodes) at ≡ true → chain (nodes ++ node ∷ []) most at ≡ chain nodes most at
  chain_push node zero at e = refl
  chain_push node (suc most) None e = refl
  chain_push node (suc most) (Some at) e =
      let below = is_below (length nodes) at e in
      ap (λ found. next (nodes ++ node ∷ []) most found) (get_push nodes node at below)
      ∙ by (λ at' f. chain_push node most at' f) (slice_get nodes at) refl (omega (arith, below))
    where
      by : ((at' : Option ℕ) → is_before (length nodes) at' ≡ true → chain (nodes ++ node ∷ []) most at' ≡ chain nodes most at')
          → (found : Option Node) → slice_get nodes at ≡ found → at ≤ length nodes → next (nodes ++ node ∷ []) most found ≡ next nodes most found
      by go None got l = refl
      by go (Some n) got l = ap (λ rest. n ∷ rest) (go n.before (before_later at (length nodes) n.before l (node_leads at n got)))

  -- a chain ends within as many steps as its place counts
  pub chain_more : (most more : ℕ) (at : Option ℕ) → is_before most at ≡ true → most ≤ more → chain nodes most at ≡ chain nodes more at
  chain_more zero zero at e l = refl
  chain_more zero (suc more) None e l = refl
  chain_more zero (suc more) (Some at) e l = absurd (let below = is_below 0 at e in omega (arith, below))
  chain_more (suc most) zero at e l = absurd (omega (arith, l))
  chain_more (suc most) (suc more) None e l = refl
  chain_more (suc most) (suc more) (Some at) e l =
      let below = is_below (suc most) at e in
      by (λ at' f. chain_more most more at' f (omega (arith, l))) (slice_get nodes at) refl (omega (arith, below))
    where
      by : ((at' : Option ℕ) → is_before most at' ≡ true → chain nodes most at' ≡ chain nodes more at')
          → (found : Option Node) → slice_get nodes at ≡ found → at ≤ most → next nodes most found ≡ next nodes more found
      by go None got a = refl
      by go (Some n) got a = ap (λ rest. n ∷ rest) (go n.before (before_later at most n.before a (node_leads at n got)))

  abbrev on_next : List Node → ℕ → ℕ → ℕ → Option Node → Bool
  on_next all most at place found = elim found [ None ↦ false | Some node ↦ nat_eq at place || is_on all most node.before place ]

  -- one more node is on none of the old ways
  on_push : (node : Node) (most : ℕ) (at : Option ℕ) (place : ℕ) → is_before (length nodes) at ≡ true → is_on (nodes ++ node ∷ []) most at place ≡ is_on nodes most at place
  on_push node zero at place e = refl
  on_push node (suc most) None place e = refl
  on_push node (suc most) (Some at) place e =
      let below = is_below (length nodes) at e in
      ap (λ found. on_next (nodes ++ node ∷ []) most at place found) (get_push nodes node at below)
      ∙ by (λ at' f. on_push node most at' place f) (slice_get nodes at) refl (omega (arith, below))
    where
      by : ((at' : Option ℕ) → is_before (length nodes) at' ≡ true → is_on (nodes ++ node ∷ []) most at' place ≡ is_on nodes most at' place)
          → (found : Option Node) → slice_get nodes at ≡ found → at ≤ length nodes → on_next (nodes ++ node ∷ []) most at place found ≡ on_next nodes most at place found
      by go None got l = refl
      by go (Some n) got l = ap (λ rest. nat_eq at place || rest) (go n.before (before_later at (length nodes) n.before l (node_leads at n got)))

  -- a way ends within as many steps as its place counts
  pub on_more : (most more : ℕ) (at : Option ℕ) (place : ℕ) → is_before most at ≡ true → most ≤ more → is_on nodes most at place ≡ is_on nodes more at place
  on_more zero zero at place e l = refl
  on_more zero (suc more) None place e l = refl
  on_more zero (suc more) (Some at) place e l = absurd (let below = is_below 0 at e in omega (arith, below))
  on_more (suc most) zero at place e l = absurd (omega (arith, l))
  on_more (suc most) (suc more) None place e l = refl
  on_more (suc most) (suc more) (Some at) place e l =
      let below = is_below (suc most) at e in
      by (λ at' f. on_more most more at' place f (omega (arith, l))) (slice_get nodes at) refl (omega (arith, below))
    where
      by : ((at' : Option ℕ) → is_before most at' ≡ true → is_on nodes most at' place ≡ is_on nodes more at' place)
          → (found : Option Node) → slice_get nodes at ≡ found → at ≤ most → on_next nodes most at place found ≡ on_next nodes more at place found
      by go None got a = refl
      by go (Some n) got a = ap (λ rest. nat_eq at place || rest) (go n.before (before_later at most n.before a (node_leads at n got)))

  -- what is on a way is below its end
  on_below : (bound most : ℕ) (at : Option ℕ) (place : ℕ) → is_before bound at ≡ true → is_on nodes most at place ≡ true → place < bound
  on_below bound zero at place b e = absurd (let f : false ≡ true = e in cc)
  on_below bound (suc most) None place b e = absurd (let f : false ≡ true = e in cc)
  on_below bound (suc most) (Some at) place b e = by (λ at' c f. on_below bound most at' place c f) (slice_get nodes at) refl (is_below bound at b) e
    where
      by : ((at' : Option ℕ) → is_before bound at' ≡ true → is_on nodes most at' place ≡ true → place < bound)
          → (found : Option Node) → slice_get nodes at ≡ found → at < bound → on_next nodes most at place found ≡ true → place < bound
      by go None got l f = absurd (let g : false ≡ true = f in cc)
      by go (Some n) got l f = elim (or_cases (nat_eq at place) (is_on nodes most n.before place) f) [
        | inl same ↦ grind (arith, nat_tests, same, l)
        | inr later ↦ go n.before (before_later at bound n.before (omega (arith, l)) (node_leads at n got)) later
      ]

-- one more node leaves what stands at each place
pub push_keeps : (nodes : List Node) (node : Node) → KeepsNodes nodes (nodes ++ node ∷ [])
push_keeps nodes node = λ place n got. get_push nodes node place (slice_get_within nodes place n got) ∙ got

-- the table after one more row
pub record IsRowPut (cids : List Cid) (nodes new_nodes : List Node) (lasts new_lasts : List ℕ → Option ℕ) (row : ElementRow) : Type 0 where
  pub chains : AreChains new_nodes new_lasts
  pub rows : (key : List ℕ) → rows_in cids new_nodes new_lasts key ≡ cond (bytes_eq row.key key) (row ∷ rows_in cids nodes lasts key) (rows_in cids nodes lasts key)

module _ (cids : List Cid) (nodes : List Node) (lasts new_lasts : List ℕ → Option ℕ) (key : List ℕ) (node : Node) (chains : AreChains nodes lasts)
    (leads : node.before ≡ lasts key)
    (updates : (other : List ℕ) → new_lasts other ≡ cond (bytes_eq key other) (Some (length nodes)) (lasts other)) where
  longer : length (nodes ++ node ∷ []) ≡ suc (length nodes)
  longer = length-append nodes (node ∷ []) ∙ omega arith

  before_end : is_before (length nodes) node.before ≡ true
  before_end = ap (is_before (length nodes)) leads ∙ chains.there key

  abbrev OnAfter : List ℕ → ℕ → Type 0
  OnAfter other place = ((key ≡ other) × (place ≡ length nodes)) ⊎ (is_on nodes (length nodes) (lasts other) place ≡ true)

  -- what is on the way of a key is the new node, or was there before
  on_after : (other : List ℕ) (place : ℕ) → is_on (nodes ++ node ∷ []) (length (nodes ++ node ∷ [])) (new_lasts other) place ≡ true → OnAfter other place
  on_after other place e =
      by (bytes_eq key other) refl
      (ap (λ z. is_on (nodes ++ node ∷ []) (suc (length nodes)) z place) (sym (updates other)) ∙ ap (λ z. is_on (nodes ++ node ∷ []) z (new_lasts other) place) (sym longer) ∙ e)
    where
      own : key ≡ other → (nat_eq (length nodes) place || is_on (nodes ++ node ∷ []) (length nodes) node.before place) ≡ true → OnAfter other place
      own same f = elim (or_cases (nat_eq (length nodes) place) (is_on (nodes ++ node ∷ []) (length nodes) node.before place) f) [
        | inl new ↦ inl (same, grind (arith, nat_tests, new))
        | inr old ↦ inr (
            ap (λ z. is_on nodes (length nodes) z place) (sym (leads ∙ ap lasts same))
            ∙ sym (on_push nodes chains.back node (length nodes) node.before place before_end) ∙ old)
      ]

      by : (b : Bool) → bytes_eq key other ≡ b → is_on (nodes ++ node ∷ []) (suc (length nodes)) (cond b (Some (length nodes)) (lasts other)) place ≡ true → OnAfter other place
      by true same f = own ((bytes_eq-Decides key other).0 same) (ap (λ found. on_next nodes chains.back (nodes ++ node ∷ []) (length nodes) (length nodes) place found) (sym (get_last nodes node)) ∙ f)
      by false other' f = inr (
          on_more nodes chains.back (length nodes) (suc (length nodes)) (lasts other) place (chains.there other) (omega arith)
          ∙ sym (on_push nodes chains.back node (suc (length nodes)) (lasts other) place (chains.there other)) ∙ f)

  still_apart : (a b : List ℕ) (place : ℕ) → OnAfter a place → OnAfter b place → a ≡ b
  still_apart a b place (inl x) (inl y) = sym x.0 ∙ y.0
  still_apart a b place (inl x) (inr y) = absurd (let at = x.1 in let below = on_below nodes chains.back (length nodes) (length nodes) (lasts b) place (chains.there b) y in omega (arith, at, below))
  still_apart a b place (inr x) (inl y) = absurd (let at = y.1 in let below = on_below nodes chains.back (length nodes) (length nodes) (lasts a) place (chains.there a) x in omega (arith, at, below))
  still_apart a b place (inr x) (inr y) = chains.apart a b place x y

  still_chains : AreChains (nodes ++ node ∷ []) new_lasts
  still_chains = record {
    back = back_push 0 nodes node chains.back (subst (λ z. is_before z node.before ≡ true) (omega arith) before_end);
    there = λ other. ap (is_before (length (nodes ++ node ∷ []))) (updates other) ∙ ap (λ z. is_before z (cond (bytes_eq key other) (Some (length nodes)) (lasts other))) longer ∙ by other (bytes_eq key other);
    apart = λ a b place x y. still_apart a b place (on_after a place x) (on_after b place y);
  }
    where
      by : (other : List ℕ) (b : Bool) → is_before (suc (length nodes)) (cond b (Some (length nodes)) (lasts other)) ≡ true
      by other true = grind (arith, nat_tests)
      by other false = before_later (length nodes) (suc (length nodes)) (lasts other) (omega arith) (chains.there other)

  at_key : (other : List ℕ) → bytes_eq key other ≡ true → map (row_of_node cids other) (chain (nodes ++ node ∷ []) (suc (length nodes)) (Some (length nodes))) ≡ row_of_node cids key node ∷ rows_in cids nodes lasts other
  at_key other e =
      let same : key ≡ other = (bytes_eq-Decides key other).0 e in
      ap (λ found. map (row_of_node cids other) (next nodes chains.back (nodes ++ node ∷ []) (length nodes) found)) (get_last nodes node)
      ∙ ap (λ rest. row_of_node cids other node ∷ map (row_of_node cids other) rest) (chain_push nodes chains.back node (length nodes) node.before before_end ∙ ap (chain nodes (length nodes)) (leads ∙ ap lasts same))
      ∙ ap (λ z. row_of_node cids z node ∷ rows_in cids nodes lasts other) (sym same)

  elsewhere : (other : List ℕ) → map (row_of_node cids other) (chain (nodes ++ node ∷ []) (suc (length nodes)) (lasts other)) ≡ rows_in cids nodes lasts other
  elsewhere other =
      ap (map (row_of_node cids other)) (chain_push nodes chains.back node (suc (length nodes)) (lasts other) (chains.there other)
      ∙ sym (chain_more nodes chains.back (length nodes) (suc (length nodes)) (lasts other) (chains.there other) (omega arith)))

  pub row_put : IsRowPut cids nodes (nodes ++ node ∷ []) lasts new_lasts (row_of_node cids key node)
  row_put = record {
    chains = still_chains;
    rows = λ other.
        ap (λ z. map (row_of_node cids other) (chain (nodes ++ node ∷ []) z (new_lasts other))) longer
        ∙ ap (λ z. map (row_of_node cids other) (chain (nodes ++ node ∷ []) (suc (length nodes)) z)) (updates other)
        ∙ by other (bytes_eq key other) refl;
  }
    where
      by : (other : List ℕ) (b : Bool) → bytes_eq key other ≡ b → map (row_of_node cids other) (chain (nodes ++ node ∷ []) (suc (length nodes)) (cond b (Some (length nodes)) (lasts other))) ≡ cond b (row_of_node cids key node ∷ rows_in cids nodes lasts other) (rows_in cids nodes lasts other)
      by other true e = at_key other e
      by other false e = elsewhere other

-- how many steps a chain can still go
abbrev pub steps_left : Option ℕ → ℕ
steps_left None = 0
steps_left (Some at) = at + 1

pub fewer_steps : (place : ℕ) (before : Option ℕ) → is_before place before ≡ true → steps_left before < place + 1
fewer_steps place None e = omega arith
fewer_steps place (Some at) e = let below = is_below place at e in omega (arith, below)

pub chain_done : (nodes : List Node) (most : ℕ) → chain nodes most None ≡ []
chain_done nodes zero = refl
chain_done nodes (suc most) = refl

-- one step of a walk
pub chain_step : (nodes : List Node) → lead_back 0 nodes ≡ true → (most place : ℕ) (node : Node) → is_before most (Some place) ≡ true → slice_get nodes place ≡ Some node
    → (chain nodes most (Some place) ≡ node ∷ chain nodes most node.before) × (is_before most node.before ≡ true) × (steps_left node.before < place + 1)
chain_step nodes back zero place node there got = absurd (let below = is_below 0 place there in omega (arith, below))
chain_step nodes back (suc most) place node there got =
    let below = is_below (suc most) place there in
    let leads = node_leads nodes back place node got in (
      ap (λ found. elim found as (λ _. List Node) [ None ↦ [] | Some n ↦ n ∷ chain nodes most n.before ]) got
          ∙ ap (λ rest. node ∷ rest) (chain_more nodes back most (suc most) node.before (before_later place most node.before (omega (arith, below)) leads) (omega arith)),
      before_later place (suc most) node.before (omega (arith, below)) leads,
      fewer_steps place node.before leads,
    )

-- what `get` of a slice gives
pub got_at : {A : Type 0} (xs : List A) (i : ℕ) (x : A) → true ≡ ltb i (length xs) → x ≡ get_or xs i x → slice_get xs i ≡ Some x
got_at [] i x e f = absurd (let below : i < 0 = grind (arith, nat_tests, e) in omega (arith, below))
got_at (y ∷ xs) zero x e f = ap (λ z. Some z) (sym f)
got_at (y ∷ xs) (suc i) x e f = got_at xs i x (let below : i < length xs = grind (arith, nat_tests, e) in grind (arith, nat_tests, below)) f

pub is_none : (at : Option ℕ) → ((x : ℕ) → at ≡ Some x → ⊥) → at ≡ None
is_none None never = refl
is_none (Some x) never = absurd (never x refl)

-- the same last rows are the same chains
pub same_chains : (nodes new_nodes : List Node) (lasts new_lasts : List ℕ → Option ℕ) → new_nodes ≡ nodes
    → ((key : List ℕ) → new_lasts key ≡ lasts key) → AreChains nodes lasts → AreChains new_nodes new_lasts
same_chains nodes new_nodes lasts new_lasts e same chains = record {
  back = ap (lead_back 0) e ∙ chains.back;
  there = λ key. ap (λ z. is_before (length z) (new_lasts key)) e ∙ ap (is_before (length nodes)) (same key) ∙ chains.there key;
  apart = λ a b place x y. chains.apart a b place (back a place x) (back b place y);
}
  where
    back : (key : List ℕ) (place : ℕ) → is_on new_nodes (length new_nodes) (new_lasts key) place ≡ true → is_on nodes (length nodes) (lasts key) place ≡ true
    back key place f = ap (λ z. is_on nodes (length nodes) z place) (sym (same key)) ∙ ap (λ z. is_on z (length z) (new_lasts key) place) (sym e) ∙ f

pub same_rows : (cids : List Cid) → (nodes new_nodes : List Node) (lasts new_lasts : List ℕ → Option ℕ) → new_nodes ≡ nodes
    → ((key : List ℕ) → new_lasts key ≡ lasts key) → (key : List ℕ) → rows_in cids new_nodes new_lasts key ≡ rows_in cids nodes lasts key
same_rows cids nodes new_nodes lasts new_lasts e same key =
    ap (λ z. map (row_of_node cids key) (chain z (length z) (new_lasts key))) e ∙ ap (λ z. map (row_of_node cids key) (chain nodes (length nodes) z)) (same key)
