-- What is left of the ways where a node leads past the next one.
use Rattle.std.proofs.Common.{◌≡◌, ℕ, zero, suc, ◌+◌, ◌<◌, ◌≤◌, ◌||◌, inl, inr, arith, Bool, true, false, cond, List, [], ◌∷◌, map, length, set, Option, Some, None, sym, refl, ap, ◌∙◌, subst}
use Rattle.std.specs.Prelude.{slice_get, nat_eq, filter}
use Rattle.std.specs.Option.{option_map}
use Rattle.std.proofs.lemmas.Bool.Decides.{nat_tests}
use Rattle.std.proofs.lemmas.Bool.{cases_lt, and_from, and_parts, or_cases, or_left, or_right, or_parts}
use Rattle.std.proofs.lemmas.Option.{slice_get_within}
use Rattle.mc_base.specs.declared.cid.Cid.{Cid}
use Rattle.mc_keep.specs.declared.rows.ElementRow.{ElementRow}
use Rattle.mc_graph.proofs.Within.{is_below}
use Rattle.mc_tables.specs.declared.elements.Node.{Node}
use Rattle.mc_tables.specs.Chains.{before_at, blocks_of, chain, is_before, is_live, is_on, lead_back, led_to, live_from, row_at, row_of_node, AreChains, IsOf, Pruned}
use Rattle.mc_tables.proofs.ChainFacts.{before_later, node_leads, on_more, chain_step, fewer_steps, steps_left}

get_led_here : (nodes : List Node) (place : ℕ) (before : Option ℕ) (node : Node) → slice_get nodes place ≡ Some node → slice_get (led_to nodes place before) place ≡ Some (record node { before = before })
get_led_here [] place before node got = absurd (let f : None ≡ Some node = got in cc)
get_led_here (n ∷ nodes) zero before node got = let same : n ≡ node = cc (got) in ap (λ (z : Node). Some (record z { before = before })) same
get_led_here (n ∷ nodes) (suc place) before node got = get_led_here nodes place before node got

get_led_other : (nodes : List Node) (place other : ℕ) (before : Option ℕ) → (place ≡ other → ⊥) → slice_get (led_to nodes place before) other ≡ slice_get nodes other
get_led_other [] place other before apart = refl
get_led_other (n ∷ nodes) zero zero before apart = absurd (apart refl)
get_led_other (n ∷ nodes) zero (suc other) before apart = refl
get_led_other (n ∷ nodes) (suc place) zero before apart = refl
get_led_other (n ∷ nodes) (suc place) (suc other) before apart = get_led_other nodes place other before (λ same. apart (ap (λ (z : ℕ). suc z) same))

-- the nodes that are written are those that lead so
pub led_is_set : (nodes : List Node) (place : ℕ) (before : Option ℕ) (node : Node) → slice_get nodes place ≡ Some node → set nodes place (record node { before = before }) ≡ led_to nodes place before
led_is_set [] place before node got = absurd (let f : None ≡ Some node = got in cc)
led_is_set (n ∷ nodes) zero before node got = let same : n ≡ node = cc (got) in ap (λ (z : Node). record z { before = before } ∷ nodes) (sym same)
led_is_set (n ∷ nodes) (suc place) before node got = ap (λ rest. n ∷ rest) (led_is_set nodes place before node got)

pub led_nowhere : (nodes : List Node) (place : ℕ) (before : Option ℕ) → slice_get nodes place ≡ None → nodes ≡ led_to nodes place before
led_nowhere [] place before got = refl
led_nowhere (n ∷ nodes) zero before got = absurd (let f : Some n ≡ None = got in cc)
led_nowhere (n ∷ nodes) (suc place) before got = ap (λ rest. n ∷ rest) (led_nowhere nodes place before got)

pub past_all : (place len count : ℕ) → len ≡ count → (place < len → false ≡ true) → count ≤ place
past_all place len count same never = elim (cases_lt place len) [
  | inl below ↦ absurd (let f = never below in cc)
  | inr past ↦ omega (arith, same, past)
]

pub led_length : (nodes : List Node) (place : ℕ) (before : Option ℕ) → length (led_to nodes place before) ≡ length nodes
led_length [] place before = refl
led_length (n ∷ nodes) zero before = refl
led_length (n ∷ nodes) (suc place) before = ap (λ (z : ℕ). suc z) (led_length nodes place before)

pub led_blocks : (nodes : List Node) (place : ℕ) (before : Option ℕ) → blocks_of (led_to nodes place before) ≡ blocks_of nodes
led_blocks [] place before = refl
led_blocks (n ∷ nodes) zero before = refl
led_blocks (n ∷ nodes) (suc place) before = ap (λ blocks. n.block ∷ blocks) (led_blocks nodes place before)

led_back : (first place : ℕ) (nodes : List Node) (before : Option ℕ) → lead_back first nodes ≡ true → is_before (first + place) before ≡ true → lead_back first (led_to nodes place before) ≡ true
led_back first place [] before back leads = refl
led_back first zero (n ∷ nodes) before back leads =
    let parts = and_parts (is_before first n.before) (lead_back (first + 1) nodes) back in
    and_from (is_before first before) (lead_back (first + 1) nodes) (subst (λ z. is_before z before ≡ true) (omega arith) leads) parts.1
led_back first (suc place) (n ∷ nodes) before back leads =
    let parts = and_parts (is_before first n.before) (lead_back (first + 1) nodes) back in
    and_from (is_before first n.before) (lead_back (first + 1) (led_to nodes place before)) parts.0
    (led_back (first + 1) place nodes before parts.1 (subst (λ z. is_before z before ≡ true) (omega arith) leads))

equal_places : (a b : ℕ) → nat_eq a b ≡ true → a ≡ b
equal_places a b e = grind (arith, nat_tests, e)

other_places : (a b : ℕ) → nat_eq a b ≡ false → a ≡ b → ⊥
other_places a b e same = grind (arith, nat_tests, e, same)

itself : (a : ℕ) → nat_eq a a ≡ true
itself a = grind (arith, nat_tests)

abbrev next : List Node → ℕ → Option Node → List Node
next nodes most found = elim found [ None ↦ [] | Some node ↦ node ∷ chain nodes most node.before ]

abbrev on_next : List Node → ℕ → ℕ → ℕ → Option Node → Bool
on_next nodes most at place found = elim found [ None ↦ false | Some node ↦ nat_eq at place || is_on nodes most node.before place ]

-- one step of a way
on_step : (nodes : List Node) → lead_back 0 nodes ≡ true → (most at place : ℕ) (node : Node) → is_before most (Some at) ≡ true → slice_get nodes at ≡ Some node
    → is_on nodes most (Some at) place ≡ (nat_eq at place || is_on nodes most node.before place)
on_step nodes back zero at place node there got = absurd (let below = is_below 0 at there in omega (arith, below))
on_step nodes back (suc most) at place node there got =
    let below = is_below (suc most) at there in
    ap (on_next nodes most at place) got
    ∙ ap (λ rest. nat_eq at place || rest) (on_more nodes back most (suc most) node.before place (before_later at most node.before (omega (arith, below)) (node_leads nodes back at node got)) (omega arith))

pub on_first : (most : ℕ) (nodes : List Node) (place : ℕ) (node : Node) → is_before most (Some place) ≡ true → slice_get nodes place ≡ Some node → is_on nodes most (Some place) place ≡ true
on_first zero nodes place node there got = absurd (let below = is_below 0 place there in omega (arith, below))
on_first (suc most) nodes place node there got = ap (on_next nodes most place place) got ∙ or_left (nat_eq place place) (is_on nodes most node.before place) (itself place)

-- the live rows of nodes, and those with one more
abbrev lives : List Cid → (List ℕ → Bool) → List ℕ → List Node → List ElementRow
lives cids hidden key nodes = filter (is_live hidden) (map (row_of_node cids key) nodes)

abbrev onto : List Cid → (List ℕ → Bool) → List ℕ → Node → List ElementRow → List ElementRow
onto cids hidden key node rest = cond (is_live hidden (row_of_node cids key node)) (row_of_node cids key node ∷ rest) rest

-- after one row of the key, which is hidden, was passed over at the node at this place
pub record IsPassed (cids : List Cid) (hidden : List ℕ → List ℕ → Bool) (key : List ℕ) (nodes new : List Node) (lasts : List ℕ → Option ℕ) (place : ℕ) : Type 0 where
  pub pruned : Pruned cids hidden nodes new lasts
  pub on : IsOf new lasts key place
  pub rest : live_from cids (hidden key) new key (before_at new place) ≡ live_from cids (hidden key) nodes key (before_at nodes place)
  pub fewer : steps_left (before_at new place) < steps_left (before_at nodes place)

-- the node at `place` leads past the one at `after`, to which it led
module _ (nodes : List Node) (back : lead_back 0 nodes ≡ true) (place after : ℕ) (node passed : Node)
    (got : slice_get nodes place ≡ Some node) (leads : node.before ≡ Some after) (got_passed : slice_get nodes after ≡ Some passed) where
  abbrev new : List Node
  new = led_to nodes place passed.before

  below : after < place
  below = is_below place after (subst (λ z. is_before place z ≡ true) leads (node_leads nodes back place node got))

  before_passed : is_before after passed.before ≡ true
  before_passed = node_leads nodes back after passed got_passed

  here : slice_get new place ≡ Some (record node { before = passed.before })
  here = get_led_here nodes place passed.before node got

  there_after : (most : ℕ) → is_before (suc most) (Some place) ≡ true → is_before most (Some after) ≡ true
  there_after most e = let far = is_below (suc most) place e in let near = below in grind (arith, nat_tests, far, near)

  there_passed : (most : ℕ) → is_before (suc most) (Some place) ≡ true → is_before most passed.before ≡ true
  there_passed most e = let far = is_below (suc most) place e in let near = below in before_later after most passed.before (omega (arith, far, near)) before_passed

  -- the live rows of the key on the way from a place stay
  live_kept : (cids : List Cid) → (hidden : List ℕ → Bool) (key : List ℕ) → is_live hidden (row_of_node cids key passed) ≡ false → (most : ℕ) (at : Option ℕ) → is_before most at ≡ true
      → lives cids hidden key (chain new most at) ≡ lives cids hidden key (chain nodes most at)
  live_kept cids hidden key gone zero at e = refl
  live_kept cids hidden key gone (suc most) None e = refl
  live_kept cids hidden key gone (suc most) (Some at) e = by (nat_eq place at) refl (λ z f. live_kept cids hidden key gone most z f)
    where
      at_place : is_before (suc most) (Some place) ≡ true → ((z : Option ℕ) → is_before most z ≡ true → lives cids hidden key (chain new most z) ≡ lives cids hidden key (chain nodes most z))
          → lives cids hidden key (chain new (suc most) (Some place)) ≡ lives cids hidden key (chain nodes (suc most) (Some place))
      at_place f go =
          ap (λ found. lives cids hidden key (next new most found)) here
          ∙ ap (onto cids hidden key node) (go passed.before (there_passed most f) ∙ ap (λ b. cond b (row_of_node cids key passed ∷ lives cids hidden key (chain nodes most passed.before)) (lives cids hidden key (chain nodes most passed.before))) (sym gone)
          ∙ ap (lives cids hidden key) (sym (chain_step nodes back most after passed (there_after most f) got_passed).0) ∙ ap (λ z. lives cids hidden key (chain nodes most z)) (sym leads))
          ∙ ap (λ found. lives cids hidden key (next nodes most found)) (sym got)

      elsewhere : (found : Option Node) → slice_get nodes at ≡ found → at ≤ most → ((z : Option ℕ) → is_before most z ≡ true → lives cids hidden key (chain new most z) ≡ lives cids hidden key (chain nodes most z))
          → lives cids hidden key (next new most found) ≡ lives cids hidden key (next nodes most found)
      elsewhere None is l go = refl
      elsewhere (Some other) is l go = ap (onto cids hidden key other) (go other.before (before_later at most other.before l (node_leads nodes back at other is)))

      by : (b : Bool) → nat_eq place at ≡ b → ((z : Option ℕ) → is_before most z ≡ true → lives cids hidden key (chain new most z) ≡ lives cids hidden key (chain nodes most z))
          → lives cids hidden key (chain new (suc most) (Some at)) ≡ lives cids hidden key (chain nodes (suc most) (Some at))
      by true same go =
          let is = equal_places place at same in
          subst (λ (z : ℕ). lives cids hidden key (chain new (suc most) (Some z)) ≡ lives cids hidden key (chain nodes (suc most) (Some z))) is (at_place (subst (λ (z : ℕ). is_before (suc most) (Some z) ≡ true) (sym is) e) go)
      by false differ go =
          let far = is_below (suc most) at e in
          ap (λ found. lives cids hidden key (next new most found)) (get_led_other nodes place at passed.before (other_places place at differ)) ∙ elsewhere (slice_get nodes at) refl (omega (arith, far)) go

  on_itself : (most : ℕ) → is_on nodes (suc most) (Some place) place ≡ true
  on_itself most = ap (on_next nodes most place place) got ∙ or_left (nat_eq place place) (is_on nodes most node.before place) (itself place)

  -- a way that the node is not on stays
  chain_kept : (most : ℕ) (at : Option ℕ) → is_on nodes most at place ≡ false → chain new most at ≡ chain nodes most at
  chain_kept zero at off = refl
  chain_kept (suc most) None off = refl
  chain_kept (suc most) (Some at) off = by (nat_eq place at) refl (λ z f. chain_kept most z f)
    where
      elsewhere : (found : Option Node) → on_next nodes most at place found ≡ false → ((z : Option ℕ) → is_on nodes most z place ≡ false → chain new most z ≡ chain nodes most z) → next new most found ≡ next nodes most found
      elsewhere None f go = refl
      elsewhere (Some other) f go = ap (λ rest. other ∷ rest) (go other.before (or_parts (nat_eq at place) (is_on nodes most other.before place) f).1)

      by : (b : Bool) → nat_eq place at ≡ b → ((z : Option ℕ) → is_on nodes most z place ≡ false → chain new most z ≡ chain nodes most z) → chain new (suc most) (Some at) ≡ chain nodes (suc most) (Some at)
      by true same go =
          let none : true ≡ false = sym (on_itself most) ∙ subst (λ (z : ℕ). is_on nodes (suc most) (Some z) place ≡ false) (sym (equal_places place at same)) off in
          absurd (cc)
      by false differ go = ap (next new most) (get_led_other nodes place at passed.before (other_places place at differ)) ∙ elsewhere (slice_get nodes at) off go

  -- what is on a way now was there before
  on_fewer : (most : ℕ) (at : Option ℕ) (asked : ℕ) → is_before most at ≡ true → is_on new most at asked ≡ true → is_on nodes most at asked ≡ true
  on_fewer zero at asked e on = on
  on_fewer (suc most) None asked e on = on
  on_fewer (suc most) (Some at) asked e on = by (nat_eq place at) refl (λ z f g. on_fewer most z asked f g)
    where
      at_place : is_before (suc most) (Some place) ≡ true → is_on new (suc most) (Some place) asked ≡ true → ((z : Option ℕ) → is_before most z ≡ true → is_on new most z asked ≡ true → is_on nodes most z asked ≡ true)
          → is_on nodes (suc most) (Some place) asked ≡ true
      at_place f there go =
          ap (on_next nodes most place asked) got
          ∙ elim (or_cases (nat_eq place asked) (is_on new most passed.before asked) (ap (on_next new most place asked) (sym here) ∙ there)) [
            | inl same ↦ or_left (nat_eq place asked) (is_on nodes most node.before asked) same
            | inr later ↦ or_right (nat_eq place asked) (is_on nodes most node.before asked)
                (ap (λ z. is_on nodes most z asked) leads ∙ on_step nodes back most after asked passed (there_after most f) got_passed
                ∙ or_right (nat_eq after asked) (is_on nodes most passed.before asked) (go passed.before (there_passed most f) later))
          ]

      elsewhere : (found : Option Node) → slice_get nodes at ≡ found → at ≤ most → on_next new most at asked found ≡ true → ((z : Option ℕ) → is_before most z ≡ true → is_on new most z asked ≡ true → is_on nodes most z asked ≡ true)
          → on_next nodes most at asked found ≡ true
      elsewhere None is l there go = there
      elsewhere (Some other) is l there go = elim (or_cases (nat_eq at asked) (is_on new most other.before asked) there) [
        | inl same ↦ or_left (nat_eq at asked) (is_on nodes most other.before asked) same
        | inr later ↦ or_right (nat_eq at asked) (is_on nodes most other.before asked) (go other.before (before_later at most other.before l (node_leads nodes back at other is)) later)
      ]

      by : (b : Bool) → nat_eq place at ≡ b → ((z : Option ℕ) → is_before most z ≡ true → is_on new most z asked ≡ true → is_on nodes most z asked ≡ true) → is_on nodes (suc most) (Some at) asked ≡ true
      by true same go =
          let is = equal_places place at same in
          subst (λ (z : ℕ). is_on nodes (suc most) (Some z) asked ≡ true) is
          (at_place (subst (λ (z : ℕ). is_before (suc most) (Some z) ≡ true) (sym is) e) (subst (λ (z : ℕ). is_on new (suc most) (Some z) asked ≡ true) (sym is) on) go)
      by false differ go =
          let far = is_below (suc most) at e in
          elsewhere (slice_get nodes at) refl (omega (arith, far)) (ap (on_next new most at asked) (sym (get_led_other nodes place at passed.before (other_places place at differ))) ∙ on) go

  -- the node stays on the ways that it was on
  on_stays : (most : ℕ) (at : Option ℕ) → is_on nodes most at place ≡ true → is_on new most at place ≡ true
  on_stays zero at on = on
  on_stays (suc most) None on = on
  on_stays (suc most) (Some at) on = by (nat_eq place at) refl (λ z f. on_stays most z f)
    where
      elsewhere : (found : Option Node) → on_next nodes most at place found ≡ true → ((z : Option ℕ) → is_on nodes most z place ≡ true → is_on new most z place ≡ true) → on_next new most at place found ≡ true
      elsewhere None f go = f
      elsewhere (Some other) f go = elim (or_cases (nat_eq at place) (is_on nodes most other.before place) f) [
        | inl same ↦ or_left (nat_eq at place) (is_on new most other.before place) same
        | inr later ↦ or_right (nat_eq at place) (is_on new most other.before place) (go other.before later)
      ]

      by : (b : Bool) → nat_eq place at ≡ b → ((z : Option ℕ) → is_on nodes most z place ≡ true → is_on new most z place ≡ true) → is_on new (suc most) (Some at) place ≡ true
      by true same go =
          subst (λ (z : ℕ). is_on new (suc most) (Some z) place ≡ true) (equal_places place at same)
          (ap (on_next new most place place) here ∙ or_left (nat_eq place place) (is_on new most passed.before place) (itself place))
      by false differ go = ap (on_next new most at place) (get_led_other nodes place at passed.before (other_places place at differ)) ∙ elsewhere (slice_get nodes at) on go

  -- the next node is on the ways that the node is on
  on_leads : (most : ℕ) (at : Option ℕ) → is_before most at ≡ true → is_on nodes most at place ≡ true → is_on nodes most at after ≡ true
  on_leads zero at e on = absurd (let f : false ≡ true = on in cc)
  on_leads (suc most) None e on = absurd (let f : false ≡ true = on in cc)
  on_leads (suc most) (Some at) e on = by (nat_eq place at) refl (λ z f g. on_leads most z f g)
    where
      at_place : is_before (suc most) (Some place) ≡ true → is_on nodes (suc most) (Some place) after ≡ true
      at_place f =
          ap (on_next nodes most place after) got
          ∙ or_right (nat_eq place after) (is_on nodes most node.before after)
          (ap (λ z. is_on nodes most z after) leads ∙ on_step nodes back most after after passed (there_after most f) got_passed ∙ or_left (nat_eq after after) (is_on nodes most passed.before after) (itself after))

      elsewhere : (place ≡ at → ⊥) → (found : Option Node) → slice_get nodes at ≡ found → at ≤ most → on_next nodes most at place found ≡ true → ((z : Option ℕ) → is_before most z ≡ true → is_on nodes most z place ≡ true → is_on nodes most z after ≡ true)
          → on_next nodes most at after found ≡ true
      elsewhere apart None is l there go = absurd (let f : false ≡ true = there in cc)
      elsewhere apart (Some other) is l there go = elim (or_cases (nat_eq at place) (is_on nodes most other.before place) there) [
        | inl same ↦ absurd (apart (sym (equal_places at place same)))
        | inr later ↦ or_right (nat_eq at after) (is_on nodes most other.before after) (go other.before (before_later at most other.before l (node_leads nodes back at other is)) later)
      ]

      by : (b : Bool) → nat_eq place at ≡ b → ((z : Option ℕ) → is_before most z ≡ true → is_on nodes most z place ≡ true → is_on nodes most z after ≡ true) → is_on nodes (suc most) (Some at) after ≡ true
      by true same go =
          let is = equal_places place at same in
          subst (λ (z : ℕ). is_on nodes (suc most) (Some z) after ≡ true) is (at_place (subst (λ (z : ℕ). is_before (suc most) (Some z) ≡ true) (sym is) e))
      by false differ go = let far = is_below (suc most) at e in elsewhere (other_places place at differ) (slice_get nodes at) refl (omega (arith, far)) on go

  module _ (lasts : List ℕ → Option ℕ) (chains : AreChains nodes lasts) where
    pub leads_to_own : (key : List ℕ) → IsOf nodes lasts key place → IsOf nodes lasts key after
    leads_to_own key on = on_leads (length nodes) (lasts key) (chains.there key) on

    fewer : (key : List ℕ) (asked : ℕ) → IsOf new lasts key asked → IsOf nodes lasts key asked
    fewer key asked on =
        on_fewer (length nodes) (lasts key) asked (chains.there key) (ap (λ (z : ℕ). is_on new z (lasts key) asked) (sym (led_length nodes place passed.before)) ∙ on)

    pub passed_chains : AreChains new lasts
    passed_chains = record {
      back = led_back 0 place nodes passed.before back (let near = below in before_later after (0 + place) passed.before (omega (arith, near)) before_passed);
      there = λ key. ap (λ (z : ℕ). is_before z (lasts key)) (led_length nodes place passed.before) ∙ chains.there key;
      apart = λ a b asked x y. chains.apart a b asked (fewer a asked x) (fewer b asked y);
    }

    -- where the row that is passed over is a hidden one of the key
    module _ (cids : List Cid) (hidden : List ℕ → List ℕ → Bool) (key : List ℕ) (on : IsOf nodes lasts key place) (gone : is_live (hidden key) (row_of_node cids key passed) ≡ false) where
      lives_kept : (other : List ℕ) → lives cids (hidden other) other (chain new (length nodes) (lasts other)) ≡ lives cids (hidden other) other (chain nodes (length nodes) (lasts other))
      lives_kept other = by (is_on nodes (length nodes) (lasts other) place) refl
        where
          by : (b : Bool) → is_on nodes (length nodes) (lasts other) place ≡ b
              → lives cids (hidden other) other (chain new (length nodes) (lasts other)) ≡ lives cids (hidden other) other (chain nodes (length nodes) (lasts other))
          by true there =
              subst (λ (z : List ℕ). lives cids (hidden z) z (chain new (length nodes) (lasts z)) ≡ lives cids (hidden z) z (chain nodes (length nodes) (lasts z)))
              (chains.apart key other place on there) (live_kept cids (hidden key) key gone (length nodes) (lasts key) (chains.there key))
          by false off = ap (lives cids (hidden other) other) (chain_kept (length nodes) (lasts other) off)

      in_nodes : is_before (length nodes) (Some after) ≡ true
      in_nodes = let near = below in let far = slice_get_within nodes place node got in grind (arith, nat_tests, near, far)

      new_before : before_at new place ≡ passed.before
      new_before = ap (λ (found : Option Node). elim found as (λ _. Option ℕ) [ None ↦ None | Some n ↦ n.before ]) here

      old_before : before_at nodes place ≡ Some after
      old_before = ap (λ (found : Option Node). elim found as (λ _. Option ℕ) [ None ↦ None | Some n ↦ n.before ]) got ∙ leads

      rest_kept : live_from cids (hidden key) new key (before_at new place) ≡ live_from cids (hidden key) nodes key (before_at nodes place)
      rest_kept =
          ap (live_from cids (hidden key) new key) new_before
          ∙ ap (λ (z : ℕ). lives cids (hidden key) key (chain new z passed.before)) (led_length nodes place passed.before)
          ∙ live_kept cids (hidden key) key gone (length nodes) passed.before (let near = slice_get_within nodes after passed got_passed in before_later after (length nodes) passed.before (omega (arith, near)) before_passed)
          ∙ ap (λ b. cond b (row_of_node cids key passed ∷ lives cids (hidden key) key (chain nodes (length nodes) passed.before)) (lives cids (hidden key) key (chain nodes (length nodes) passed.before))) (sym gone)
          ∙ ap (lives cids (hidden key) key) (sym (chain_step nodes back (length nodes) after passed in_nodes got_passed).0)
          ∙ ap (live_from cids (hidden key) nodes key) (sym old_before)

      -- what stands at each place
      rows_stay : (other : List ℕ) (at : ℕ) → row_at cids new other at ≡ row_at cids nodes other at
      rows_stay other at = by (nat_eq place at) refl
        where
          by : (b : Bool) → nat_eq place at ≡ b → row_at cids new other at ≡ row_at cids nodes other at
          by true same = subst (λ (z : ℕ). row_at cids new other z ≡ row_at cids nodes other z) (equal_places place at same) (ap (option_map (row_of_node cids other)) here ∙ ap (option_map (row_of_node cids other)) (sym got))
          by false differ = ap (option_map (row_of_node cids other)) (get_led_other nodes place at passed.before (other_places place at differ))

      pub is_passed : IsPassed cids hidden key nodes new lasts place
      is_passed = record {
        pruned = record {
          len = led_length nodes place passed.before;
          blocks = led_blocks nodes place passed.before;
          same = rows_stay;
          live = λ other. ap (λ (z : ℕ). lives cids (hidden other) other (chain new z (lasts other))) (led_length nodes place passed.before) ∙ lives_kept other;
        };
        on = ap (λ (z : ℕ). is_on new z (lasts key) place) (led_length nodes place passed.before) ∙ on_stays (length nodes) (lasts key) on;
        rest = rest_kept;
        fewer = subst (λ z. steps_left z < steps_left (before_at nodes place)) (sym new_before) (subst (λ z. steps_left passed.before < steps_left z) (sym old_before) (fewer_steps after passed.before before_passed));
      }
