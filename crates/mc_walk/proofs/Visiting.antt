-- While a walk goes on its visits are of the positions in order, and of the blocks that stood there at its beginning.
use Rattle.std.proofs.Common.{◌≡◌, ℕ, ◌+◌, ◌-◌, ◌≤◌, ◌<◌, suc, true, List, [], ◌∷◌, ◌++◌, Option, Some, None, sym, refl, ap, ◌∙◌, arith, length, subst}
use Rattle.std.specs.Prelude.{take, drop}
use Rattle.std.specs.List.{list_all, range_with_len}
use Rattle.std.proofs.lemmas.List.{take-append-le, drop-append-le, append_assoc, append-nil, length-drop}
use Rattle.std.proofs.Math.Seq.{take-add, take-length}
use Rattle.std.proofs.lemmas.Bool.{and_parts}
use Rattle.mc_base.specs.declared.cid.Cid.{Cid}
use Rattle.mc_model.specs.Events.{Event, Store, Process, Hear, Want, GiveBack, Missing, Bad, Requeue, WalkBegin, WalkVisit, WalkEnd, Batch, Stop, Open, IsVisiting, IsVisited, MayRun, MayCome, MayComeAll, visited, runs, after}
use Rattle.mc_model.specs.State.{Durable, Running, State, Walk}
use Rattle.mc_walk.specs.Visits.{position_in, position_by, positions, block_in, block_at, blocks, keeps_walking, walk_in, running, IsWalking, IsWalked, IsSoFar}

-- the order goes on from the blocks that a walk began with
abbrev IsGrown : List Cid → List Cid → Type 0
IsGrown start order = (more : List Cid) × (order ≡ start ++ more)

-- what one event does to a walk over n positions that is at v
record Steps (start : List Cid) (n v : ℕ) (durable : Durable) (run : Running) (event : Event) : Type 0 where
  next : ℕ
  low : v ≤ next
  high : next ≤ n
  walk : walk_in (runs durable run event).run ≡ Some (n, next)
  grown : IsGrown start (runs durable run event).durable.order
  each : (k : ℕ) → next ≤ k → position_by (Some run) event ++ range_with_len next (k - next) ≡ range_with_len v (k - v)
  there : take v start ++ block_at durable (Some run) event ≡ take next start

stays : (start : List Cid) (n v : ℕ) (durable : Durable) (run : Running) (event : Event) → v ≤ n → walk_in (runs durable run event).run ≡ Some (n, v) → IsGrown start (runs durable run event).durable.order
    → position_by (Some run) event ≡ [] → block_at durable (Some run) event ≡ [] → Steps start n v durable run event
stays start n v durable run event low e g p b = record {
  next = v;
  low = omega arith;
  high = low;
  walk = e;
  grown = g;
  each = λ k le. ap (λ (ps : List ℕ). ps ++ range_with_len v (k - v)) p;
  there = ap (λ (bs : List Cid). take v start ++ bs) b ∙ append-nil (take v start);
}

stood : (start order : List Cid) (v : ℕ) → v < length start → IsGrown start order → take 1 (drop v order) ≡ take 1 (drop v start)
stood start order v less (more, e) =
    ap (λ (z : List Cid). take 1 (drop v z)) e
    ∙ ap (take 1) (drop-append-le v start more (omega (arith, less)))
    ∙ take-append-le 1 (drop v start) more (omega (arith, less, length-drop v start))

visits : (start : List Cid) (n v : ℕ) (durable : Durable) (run : Running) → v < n → n ≤ length start → run.walk ≡ Some (n, v) → IsGrown start durable.order → Steps start n v durable run WalkVisit
visits start n v durable run less within e (more, g) = record {
  next = v + 1;
  low = omega arith;
  high = omega (arith, less);
  walk = ap (λ (w : Option Walk). walk_in (visited durable run w).run) e;
  grown = (more, ap (λ (w : Option Walk). (visited durable run w).durable.order) e ∙ g);
  each = λ k le. ap (λ (w : Option Walk). position_in w ++ range_with_len (v + 1) (k - (v + 1))) e ∙ further k le;
  there =
      ap (λ (w : Option Walk). take v start ++ block_in durable w) e
      ∙ ap (λ (bs : List Cid). take v start ++ bs) (stood start durable.order v (omega (arith, less, within)) (more, g))
      ∙ sym (take-add v 1 start);
}
  where
    further : (k : ℕ) → v + 1 ≤ k → v ∷ range_with_len (v + 1) (k - (v + 1)) ≡ range_with_len v (k - v)
    further k le = let e : suc (k - (v + 1)) ≡ k - v = omega (arith, le) in ap (range_with_len v) e

steps : (start : List Cid) (n v : ℕ) (durable : Durable) (run : Running) (event : Event) → v ≤ n → n ≤ length start → run.walk ≡ Some (n, v) → IsGrown start durable.order
    → MayRun durable run event → keeps_walking event ≡ true → Steps start n v durable run event
steps start n v durable run (Store blocks) low within e g may k = stays start n v durable run (Store blocks) low e g refl refl
steps start n v durable run (Process cids) low within e g may k =
    stays start n v durable run (Process cids) low e (g.0 ++ cids, ap (λ (z : List Cid). z ++ cids) g.1 ∙ append_assoc start g.0 cids) refl refl
steps start n v durable run (Hear cids) low within e g may k = stays start n v durable run (Hear cids) low e g refl refl
steps start n v durable run Want low within e g may k = stays start n v durable run Want low e g refl refl
steps start n v durable run (GiveBack c) low within e g may k = stays start n v durable run (GiveBack c) low e g refl refl
steps start n v durable run (Missing c) low within e g may k = stays start n v durable run (Missing c) low e g refl refl
steps start n v durable run (Bad c damage) low within e g may k = stays start n v durable run (Bad c damage) low e g refl refl
steps start n v durable run Requeue low within e g may k = stays start n v durable run Requeue low e g refl refl
steps start n v durable run WalkBegin low within e g may k = absurd (let no : Some (n, v) ≡ None = sym e ∙ may.1 in cc)
steps start n v durable run WalkVisit low within e g may k = visits start n v durable run (subst IsVisiting e may) within e g
steps start n v durable run WalkEnd low within e g may k = absurd (cc)
steps start n v durable run (Batch batch) low within e g may k = stays start n v durable run (Batch batch) low e g refl refl
steps start n v durable run Stop low within e g may k = absurd (cc)
steps start n v durable run Open low within e g may k = absurd may

-- what events do to it
record Goes (start : List Cid) (n v : ℕ) (state : State) (events : List Event) : Type 0 where
  next : ℕ
  low : v ≤ next
  high : next ≤ n
  walk : walk_in (after state events).run ≡ Some (n, next)
  each : positions state events ≡ range_with_len v (next - v)
  there : take v start ++ blocks state events ≡ take next start

joined : (start : List Cid) (n v : ℕ) (durable : Durable) (run : Running) (event : Event) (events : List Event) (s : Steps start n v durable run event)
    → Goes start n s.next (runs durable run event) events → Goes start n v (record { durable = durable; run = Some run }) (event ∷ events)
joined start n v durable run event events s r = record {
  next = r.next;
  low = omega (arith, s.low, r.low);
  high = r.high;
  walk = r.walk;
  each = ap (λ (ps : List ℕ). position_by (Some run) event ++ ps) r.each ∙ s.each r.next r.low;
  there =
      sym (append_assoc (take v start) (block_at durable (Some run) event) (blocks (runs durable run event) events))
      ∙ ap (λ (bs : List Cid). bs ++ blocks (runs durable run event) events) s.there
      ∙ r.there;
}

goes : (start : List Cid) (n v : ℕ) (durable : Durable) (run : Option Running) (events : List Event) → v ≤ n → n ≤ length start → walk_in run ≡ Some (n, v) → IsGrown start durable.order
    → MayComeAll (record { durable = durable; run = run }) events → list_all keeps_walking events ≡ true → Goes start n v (record { durable = durable; run = run }) events
goes start n v durable None events low within e g may k = absurd (cc)
goes start n v durable (Some run) [] low within e g may k =
    let z : 0 ≡ v - v = omega arith in
    record { next = v; low = omega arith; high = low; walk = e; each = ap (range_with_len v) z; there = append-nil (take v start) }
goes start n v durable (Some run) (event ∷ events) low within e g may k =
    let s = steps start n v durable run event low within e g may.0 (and_parts _ _ k).0 in
    joined start n v durable run event events s
    (goes start n s.next (runs durable run event).durable (runs durable run event).run events s.high within s.walk s.grown may.1 (and_parts _ _ k).1)

pub so_far : (durable : Durable) (run : Running) (events : List Event) → IsWalking durable run events → IsSoFar durable run events
so_far durable run events w =
    let begun : Running = record run { walk = Some (length durable.order, 0) } in
    let r = goes durable.order (length durable.order) 0 durable (Some begun) events (omega arith) (omega arith) refl ([], sym (append-nil durable.order)) w.may.1 w.goes in
    let z : r.next - 0 ≡ r.next = omega arith in
    record { visited = r.next; within = r.high; walk = r.walk; each = r.each ∙ ap (range_with_len 0) z; there = r.there }

ended : (durable : Durable) (run : Option Running) (n v : ℕ) → walk_in run ≡ Some (n, v) → MayCome durable run WalkEnd → v ≡ n
ended durable None n v e may = absurd may
ended durable (Some run) n v e may = subst IsVisited e may

all_visited : (durable : Durable) (run : Running) (events : List Event) → (w : IsWalked durable run events) → (so_far durable run events w.walking).visited ≡ length durable.order
all_visited durable run events w =
    let state = after (running durable run) (WalkBegin ∷ events) in
    ended state.durable state.run _ _ (so_far durable run events w.walking).walk w.ends

pub all_positions : (durable : Durable) (run : Running) (events : List Event) → IsWalked durable run events → positions (running durable run) (WalkBegin ∷ events) ≡ range_with_len 0 (length durable.order)
all_positions durable run events w = (so_far durable run events w.walking).each ∙ ap (range_with_len 0) (all_visited durable run events w)

pub all_blocks : (durable : Durable) (run : Running) (events : List Event) → IsWalked durable run events → blocks (running durable run) (WalkBegin ∷ events) ≡ durable.order
all_blocks durable run events w =
    (so_far durable run events w.walking).there ∙ ap (λ (k : ℕ). take k durable.order) (all_visited durable run events w) ∙ take-length durable.order
