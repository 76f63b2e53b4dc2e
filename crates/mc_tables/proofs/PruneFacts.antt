-- A walk along the ways of a key that passes over its hidden rows.
use Rattle.std.proofs.Common.{◌≡◌, ℕ, arith, Bool, true, false, cond, List, [], ◌∷◌, ◌++◌, map, length, get_or, ltb, Option, Some, None, sym, refl, ap, ◌∙◌, subst, append_assoc}
use Rattle.std.specs.Prelude.{slice_get, filter}
use Rattle.std.proofs.lemmas.Bool.Decides.{nat_tests}
use Rattle.std.proofs.lemmas.Option.{slice_get_within, slice_get-get_or}
use Rattle.mc_base.specs.declared.cid.Cid.{Cid}
use Rattle.mc_keep.specs.declared.rows.ElementRow.{ElementRow}
use Rattle.mc_graph.proofs.Within.{is_below}
use Rattle.mc_tables.specs.declared.elements.Node.{Node}
use Rattle.mc_tables.specs.Chains.{before_at, is_before, is_live, is_on, lead_back, led_to, live_from, row_of_node, rows_in, AreChains, IsLiveAt, IsOf, Pruned}
use Rattle.mc_tables.proofs.ChainFacts.{chain_done, chain_step, got_at, node_leads}
use Rattle.mc_tables.proofs.PassFacts.{is_passed, leads_to_own, on_first, passed_chains, IsPassed}

-- the node that leads to a place
record Leading (nodes : List Node) (place after : ℕ) : Type 0 where
  node : Node
  got : slice_get nodes place ≡ Some node
  leads : node.before ≡ Some after

leading : (nodes : List Node) (place after : ℕ) → before_at nodes place ≡ Some after → Leading nodes place after
leading nodes place after e = by (slice_get nodes place) refl e
  where
    by : (found : Option Node) → slice_get nodes place ≡ found → elim found as (λ _. Option ℕ) [ None ↦ None | Some n ↦ n.before ] ≡ Some after → Leading nodes place after
    by None got f = absurd (let g : None ≡ Some after = f in cc)
    by (Some n) got f = record { node = n; got = got; leads = f }

before_got : (nodes : List Node) (place : ℕ) (node : Node) → slice_get nodes place ≡ Some node → before_at nodes place ≡ node.before
before_got nodes place node got = ap (λ (found : Option Node). elim found as (λ _. Option ℕ) [ None ↦ None | Some n ↦ n.before ]) got

-- what `get` of the slice of the nodes gives
pub got_in : (nodes seen : List Node) (place : ℕ) (node : Node) → seen ≡ nodes → true ≡ ltb place (length seen) → node ≡ get_or seen place node → slice_get nodes place ≡ Some node
got_in nodes seen place node same within found = subst (λ (slice : List Node). slice_get slice place ≡ Some node) same (got_at seen place node within found)

pub leads_before : (nodes : List Node) (lasts : List ℕ → Option ℕ) (place after : ℕ) → AreChains nodes lasts → before_at nodes place ≡ Some after → is_before place (Some after) ≡ true
leads_before nodes lasts place after chains leads =
    let lead = leading nodes place after leads in
    subst (λ z. is_before place z ≡ true) lead.leads (node_leads nodes chains.back place lead.node lead.got)

-- the ways stay ways
pub chains_passed : (nodes new : List Node) (lasts : List ℕ → Option ℕ) (place after : ℕ) → AreChains nodes lasts → before_at nodes place ≡ Some after
    → new ≡ led_to nodes place (before_at nodes after) → AreChains new lasts
chains_passed nodes new lasts place after chains leads is =
    let lead = leading nodes place after leads in
    let far = slice_get_within nodes place lead.node lead.got in
    let near = is_below place after (subst (λ z. is_before place z ≡ true) lead.leads (node_leads nodes chains.back place lead.node lead.got)) in
    let passed = get_or nodes after lead.node in
    let got : slice_get nodes after ≡ Some passed = slice_get-get_or nodes after lead.node (omega (arith, far, near)) in
    subst (λ z. AreChains z lasts) (sym (is ∙ ap (led_to nodes place) (before_got nodes after passed got)))
    (passed_chains nodes chains.back place after lead.node passed lead.got lead.leads got lasts chains)

pub one_passed : (cids : List Cid) → (hidden : List ℕ → List ℕ → Bool) (key : List ℕ) (nodes new : List Node) (lasts : List ℕ → Option ℕ) (place after : ℕ) (passed : Node) → AreChains nodes lasts
    → IsOf nodes lasts key place → before_at nodes place ≡ Some after → slice_get nodes after ≡ Some passed → is_live (hidden key) (row_of_node cids key passed) ≡ false
    → new ≡ led_to nodes place (before_at nodes after) → IsPassed cids hidden key nodes new lasts place
one_passed cids hidden key nodes new lasts place after passed chains on leads got gone is =
    let lead = leading nodes place after leads in
    subst (λ z. IsPassed cids hidden key nodes z lasts place) (sym (is ∙ ap (led_to nodes place) (before_got nodes after passed got)))
    (is_passed nodes chains.back place after lead.node passed lead.got lead.leads got lasts chains cids hidden key on gone)

-- what a walk from a node to the next live one leaves
pub record IsPruning (cids : List Cid) (hidden : List ℕ → List ℕ → Bool) (key : List ℕ) (first nodes : List Node) (lasts : List ℕ → Option ℕ) (place : ℕ) : Type 0 where
  pub pruned : Pruned cids hidden first nodes lasts
  pub on : IsOf nodes lasts key place
  pub rest : live_from cids (hidden key) nodes key (before_at nodes place) ≡ live_from cids (hidden key) first key (before_at first place)

pub pruned_none : (cids : List Cid) → (hidden : List ℕ → List ℕ → Bool) (nodes : List Node) (lasts : List ℕ → Option ℕ) → Pruned cids hidden nodes nodes lasts
pruned_none cids hidden nodes lasts = record { len = refl; blocks = refl; same = λ key place. refl; live = λ key. refl }

pub pruned_then : {cids : List Cid} {hidden : List ℕ → List ℕ → Bool} {first nodes new : List Node} {lasts : List ℕ → Option ℕ} → Pruned cids hidden first nodes lasts → Pruned cids hidden nodes new lasts → Pruned cids hidden first new lasts
pruned_then a b = record { len = b.len ∙ a.len; blocks = b.blocks ∙ a.blocks; same = λ key place. b.same key place ∙ a.same key place; live = λ key. b.live key ∙ a.live key }

pub pruning_begins : (cids : List Cid) → (hidden : List ℕ → List ℕ → Bool) (key : List ℕ) (nodes : List Node) (lasts : List ℕ → Option ℕ) (place : ℕ) → IsOf nodes lasts key place → IsPruning cids hidden key nodes nodes lasts place
pruning_begins cids hidden key nodes lasts place on = record { pruned = pruned_none cids hidden nodes lasts; on = on; rest = refl }

pub pruning_goes : {cids : List Cid} {hidden : List ℕ → List ℕ → Bool} {key : List ℕ} {first nodes new : List Node} {lasts : List ℕ → Option ℕ} {place : ℕ} → IsPruning cids hidden key first nodes lasts place
    → IsPassed cids hidden key nodes new lasts place → IsPruning cids hidden key first new lasts place
pruning_goes before passed = record { pruned = pruned_then before.pruned passed.pruned; on = passed.on; rest = passed.rest ∙ before.rest }

live_found : (cids : List Cid) → (hidden : List ℕ → Bool) (key : List ℕ) (nodes : List Node) (place : ℕ) (node : Node) → slice_get nodes place ≡ Some node → is_live hidden (row_of_node cids key node) ≡ true
    → elim (slice_get nodes place) as (λ _. Bool) [ None ↦ false | Some n ↦ is_live hidden (row_of_node cids key n) ] ≡ true
live_found cids hidden key nodes place node got live = ap (λ (found : Option Node). elim found as (λ _. Bool) [ None ↦ false | Some n ↦ is_live hidden (row_of_node cids key n) ]) got ∙ live

-- the next live one
pub next_is_live : (cids : List Cid) → (hidden : List ℕ → Bool) (key : List ℕ) (nodes : List Node) (lasts : List ℕ → Option ℕ) (place after : ℕ) (node : Node) → AreChains nodes lasts → IsOf nodes lasts key place
    → before_at nodes place ≡ Some after → slice_get nodes after ≡ Some node → is_live hidden (row_of_node cids key node) ≡ true → IsLiveAt cids hidden nodes lasts key (Some after)
next_is_live cids hidden key nodes lasts place after node chains on leads got live =
    let lead = leading nodes place after leads in
    (leads_to_own nodes chains.back place after lead.node node lead.got lead.leads got lasts chains key on, live_found cids hidden key nodes after node got live)

-- the last node of the key
pub last_is_on : (key : List ℕ) (nodes : List Node) (lasts : List ℕ → Option ℕ) (place : ℕ) (node : Node) → AreChains nodes lasts → lasts key ≡ Some place → slice_get nodes place ≡ Some node → IsOf nodes lasts key place
last_is_on key nodes lasts place node chains last got =
    ap (λ z. is_on nodes (length nodes) z place) last ∙ on_first (length nodes) nodes place node (subst (λ z. is_before (length nodes) z ≡ true) last (chains.there key)) got

pub last_is_live : (cids : List Cid) → (hidden : List ℕ → Bool) (key : List ℕ) (nodes : List Node) (lasts : List ℕ → Option ℕ) (place : ℕ) (node : Node) → AreChains nodes lasts → lasts key ≡ Some place → slice_get nodes place ≡ Some node
    → is_live hidden (row_of_node cids key node) ≡ true → IsLiveAt cids hidden nodes lasts key (Some place)
last_is_live cids hidden key nodes lasts place node chains last got live = (last_is_on key nodes lasts place node chains last got, live_found cids hidden key nodes place node got live)

-- the live rows from a node on
live_step : (cids : List Cid) → (hidden : List ℕ → Bool) (key : List ℕ) (nodes : List Node) (place : ℕ) (node : Node) (b : Bool) → lead_back 0 nodes ≡ true → slice_get nodes place ≡ Some node → is_live hidden (row_of_node cids key node) ≡ b
    → live_from cids hidden nodes key (Some place) ≡ cond b (row_of_node cids key node ∷ live_from cids hidden nodes key node.before) (live_from cids hidden nodes key node.before)
live_step cids hidden key nodes place node b back got live =
    let there : is_before (length nodes) (Some place) ≡ true = let far = slice_get_within nodes place node got in grind (arith, nat_tests, far) in
    ap (λ rest. filter (is_live hidden) (map (row_of_node cids key) rest)) (chain_step nodes back (length nodes) place node there got).0
    ∙ ap (λ t. cond t (row_of_node cids key node ∷ live_from cids hidden nodes key node.before) (live_from cids hidden nodes key node.before)) live

pub live_ends : (cids : List Cid) → (hidden : List ℕ → Bool) (key : List ℕ) (nodes : List Node) → live_from cids hidden nodes key None ≡ []
live_ends cids hidden key nodes = ap (λ rest. filter (is_live hidden) (map (row_of_node cids key) rest)) (chain_done nodes (length nodes))

-- what a hidden last row leaves to the next ones
pub last_is_gone : (cids : List Cid) → (hidden : List ℕ → Bool) (key : List ℕ) (nodes : List Node) (lasts : List ℕ → Option ℕ) (place : ℕ) (node : Node) → AreChains nodes lasts → lasts key ≡ Some place → slice_get nodes place ≡ Some node
    → is_live hidden (row_of_node cids key node) ≡ false → live_from cids hidden nodes key (before_at nodes place) ≡ filter (is_live hidden) (rows_in cids nodes lasts key)
last_is_gone cids hidden key nodes lasts place node chains last got gone =
    ap (live_from cids hidden nodes key) (before_got nodes place node got)
    ∙ sym (live_step cids hidden key nodes place node false chains.back got gone)
    ∙ ap (live_from cids hidden nodes key) (sym last)

-- the rows that were listed, and those from a place on, are the live rows of the key
pub record IsListing (cids : List Cid) (hidden : List ℕ → List ℕ → Bool) (key : List ℕ) (first nodes : List Node) (lasts : List ℕ → Option ℕ) (rows : List ElementRow) (at : Option ℕ) : Type 0 where
  pub pruned : Pruned cids hidden first nodes lasts
  pub rows_are : rows ++ live_from cids (hidden key) nodes key at ≡ filter (is_live (hidden key)) (rows_in cids first lasts key)
  pub live : IsLiveAt cids (hidden key) nodes lasts key at

-- `slot` is what the place of a live node has
live_there : (cids : List Cid) → (hidden : List ℕ → Bool) (key : List ℕ) (nodes : List Node) (place : ℕ) (node : Node) → slice_get nodes place ≡ Some node
    → elim (slice_get nodes place) as (λ _. Bool) [ None ↦ false | Some n ↦ is_live hidden (row_of_node cids key n) ] ≡ true → is_live hidden (row_of_node cids key node) ≡ true
live_there cids hidden key nodes place node got live = ap (λ (found : Option Node). elim found as (λ _. Bool) [ None ↦ false | Some n ↦ is_live hidden (row_of_node cids key n) ]) (sym got) ∙ live

pub listing_goes : {cids : List Cid} {hidden : List ℕ → List ℕ → Bool} {key : List ℕ} {first nodes new : List Node} {lasts : List ℕ → Option ℕ} {rows more : List ElementRow} {place : ℕ} {node : Node} {next : Option ℕ}
    → AreChains nodes lasts → IsListing cids hidden key first nodes lasts rows (Some place) → slice_get nodes place ≡ Some node → more ≡ rows ++ row_of_node cids key node ∷ []
    → Pruned cids hidden nodes new lasts → IsLiveAt cids (hidden key) new lasts key next → live_from cids (hidden key) new key next ≡ live_from cids (hidden key) nodes key (before_at nodes place)
    → IsListing cids hidden key first new lasts more next
listing_goes {cids = cids} {hidden = hidden} {key = key} {nodes = nodes} {new = new} {rows = rows} {place = place} {node = node} {next = next} chains listing got pushed pruned live rest =
    record {
      pruned = pruned_then listing.pruned pruned;
      rows_are =
          ap (λ (z : List ElementRow). z ++ live_from cids (hidden key) new key next) pushed
          ∙ append_assoc rows (row_of_node cids key node ∷ []) (live_from cids (hidden key) new key next)
          ∙ ap (λ (z : List ElementRow). rows ++ row_of_node cids key node ∷ z) (rest ∙ ap (live_from cids (hidden key) nodes key) (before_got nodes place node got))
          ∙ ap (λ (z : List ElementRow). rows ++ z) (sym (live_step cids (hidden key) key nodes place node true chains.back got (live_there cids (hidden key) key nodes place node got listing.live.1)))
          ∙ listing.rows_are;
      live = live;
    }
