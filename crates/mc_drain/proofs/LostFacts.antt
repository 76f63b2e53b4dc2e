-- What becomes missing or bad.
use Rattle.std.proofs.Common.{◌≡◌, ◌⊎◌, ℕ, Bool, true, false, not, cond, ◌||◌, List, [], ◌∷◌, ◌++◌, find, filter, Option, Some, None, Result, Ok, Err, refl, sym, ap, ◌∙◌, subst, inl, inr}
use Rattle.std.specs.Prelude.{IfSome, is_some}
use Rattle.std.specs.Option.{option_map}
use Rattle.std.proofs.lemmas.Bool.{false≢true, or_cases}
use Rattle.std.proofs.lemmas.List.Folds.{list_any-append}
use Rattle.mc_base.specs.Told.{Told}
use Rattle.mc_base.specs.declared.cid.Cid.{Cid}
use Rattle.mc_fetch.specs.Fits.{Map}
use Rattle.mc_fetch.specs.Offers.{IsSurely}
use Rattle.mc_fetch.specs.declared.job.Delivered.{Delivered}
use Rattle.mc_fetch.specs.declared.job.Delivered.TheVariants.{Processed, Missing, Bad, Known}
use Rattle.mc_fetch.specs.declared.job.Found.{Found as FoundAs}
use Rattle.mc_fetch.specs.declared.job.Found.TheVariants.{Bytes}
use Rattle.mc_fetch.specs.declared.job.Job.{Job}
use Rattle.mc_model.specs.Draining.{bytes_in, offers_of, queue_in}
use Rattle.mc_model.specs.Events.{GoesOn}
use Rattle.mc_model.specs.Found.{found_as, found_reading, is_found}
use Rattle.mc_model.specs.Front.{same_cid}
use Rattle.mc_model.specs.Graph.{Vertex, has, in_graph}
use Rattle.mc_model.specs.Offer.{Damage, offer}
use Rattle.mc_model.specs.State.{IsSound, Running, wanted_in}
use Rattle.mc_model.specs.Wanted.{Queue, bad_cids, give_back, recall, start_first, to_bad, to_missing, to_waiting, want, wanted, without}
use Rattle.mc_model.proofs.Counts.{cid_is, has-append}
use Rattle.mc_model.proofs.Takings.{stored_found}
use Rattle.mc_core.specs.AnswersTo.{IsAnswerTo}
use Rattle.mc_core.specs.Events.{ReplicaState}
use Rattle.mc_core.specs.Jobs.{WantsAfter, found_in, tried_first}
use Rattle.mc_core.specs.Uptakes.{wants}
use Rattle.mc_drain.specs.Finds.{Finds, first_bytes, surely_from}
use Rattle.mc_drain.specs.Leads.{Leads}
use Rattle.mc_drain.specs.Lost.{AreLost, IsLost, Nobody, Sticks, StuckFor, StuckOf, is_stuck}
use Rattle.mc_drain.specs.Words.{Begins, IsBroken, IsNoBlock, NoneStuck, is_keeper}
use Rattle.mc_drain.specs.Works.{NoneLost}
use Rattle.mc_drain.specs.declared.end.DrainEnd.{DrainEnd}
use Rattle.mc_drain.specs.declared.end.DrainEnd.TheVariants as end
use Rattle.mc_drain.proofs.TurnFacts.{found_same}
use Rattle.mc_worker.specs.Lookups.{bytes_of}

-- one after another, and for more

pub sticks_then : (P : Cid → Type 0) (q mid left : Queue) → Sticks P q mid → Sticks P mid left → Sticks P q left
sticks_then P q mid left first next = λ c e. elim (next c e) [ inl was ↦ first c was | inr p ↦ inr p ]

pub sticks_weaker : (P Q : Cid → Type 0) (q left : Queue) → ((c : Cid) → P c → Q c) → Sticks P q left → Sticks Q q left
sticks_weaker P Q q left weaker sticks = λ c e. elim (sticks c e) [ inl was ↦ inl was | inr p ↦ inr (weaker c p) ]

nobody_any : (P : Cid → Type 0) (c : Cid) → Nobody c → P c
nobody_any P c none = absurd none

pub sticks_free : (P : Cid → Type 0) (q left : Queue) → Sticks Nobody q left → Sticks P q left
sticks_free P q left = sticks_weaker Nobody P q left (nobody_any P)

-- what is stuck is the same
pub stuck_same : (P : Cid → Type 0) (q left : Queue) → left.missing ≡ q.missing → left.bad ≡ q.bad → Sticks P q left
stuck_same P q left missing bad = λ c e. inl (ap (λ (cids : List Cid). has c cids || has c (bad_cids q.bad)) (sym missing) ∙ ap (λ (b : List (Cid × ℕ)). has c left.missing || has c (bad_cids b)) (sym bad) ∙ e)

start_missing : (q : Queue) (waiting : List Cid) → ((start_first q waiting).missing ≡ q.missing) × ((start_first q waiting).bad ≡ q.bad)
start_missing q [] = (refl, refl)
start_missing q (c ∷ rest) = (refl, refl)

tried_missing : (q : Queue) (waiting : List Cid) → ((tried_first q waiting).missing ≡ q.missing) × ((tried_first q waiting).bad ≡ q.bad)
tried_missing q [] = (refl, refl)
tried_missing q (c ∷ rest) = (refl, refl)

-- a job that begins
pub begun_sticks : (q left : Queue) (job : Option Job) → Begins q left job → Sticks Nobody q left
begun_sticks q left None begins = stuck_same Nobody q left (ap (λ (x : Queue). x.missing) begins.1) (ap (λ (x : Queue). x.bad) begins.1)
begun_sticks q left (Some job) begins =
    let same = start_missing q q.waiting in
    stuck_same Nobody q left (ap (λ (x : Queue). x.missing) begins.1 ∙ same.0) (ap (λ (x : Queue). x.bad) begins.1 ∙ same.1)

-- one that was tried, and all that was recalled
pub tried_sticks : (q mid left : Queue) → mid ≡ tried_first q q.waiting → left ≡ recall mid → Sticks Nobody q left
tried_sticks q mid left tried recalled =
    let same = tried_missing q q.waiting in
    stuck_same Nobody q left (ap (λ (x : Queue). x.missing) recalled ∙ ap (λ (x : Queue). x.missing) tried ∙ same.0) (ap (λ (x : Queue). x.bad) recalled ∙ ap (λ (x : Queue). x.bad) tried ∙ same.1)

pub recalled_sticks : (P : Cid → Type 0) (q mid left : Queue) (cid : Cid) → mid ≡ give_back q cid → left ≡ recall mid → Sticks P q left
recalled_sticks P q mid left cid back recalled =
    stuck_same P q left (ap (λ (x : Queue). x.missing) recalled ∙ ap (λ (x : Queue). x.missing) back) (ap (λ (x : Queue). x.bad) recalled ∙ ap (λ (x : Queue). x.bad) back)

pub back_sticks : (q left : Queue) (cid : Cid) (b : Bool) → left ≡ cond b (give_back q cid) q → Sticks Nobody q left
back_sticks q left cid true is = stuck_same Nobody q left (ap (λ (x : Queue). x.missing) is) (ap (λ (x : Queue). x.bad) is)
back_sticks q left cid false is = stuck_same Nobody q left (ap (λ (x : Queue). x.missing) is) (ap (λ (x : Queue). x.bad) is)

-- a want of memory
pub broken_memory : (stop : DrainEnd) → IsBroken stop → is_keeper stop ≡ false → stop ≡ end.Memory
broken_memory end.Idle broken well = absurd broken
broken_memory end.Spent broken well = absurd broken
broken_memory end.KeeperFault broken well = absurd (false≢true (sym well))
broken_memory end.PeerFault broken well = absurd broken
broken_memory end.Memory broken well = refl

-- a delivery

want_stuck : (q : Queue) (c : Cid) → ((want [] q c).missing ≡ q.missing) × ((want [] q c).bad ≡ q.bad)
want_stuck q c = elim (has c (wanted q)) as (λ t. ((cond t q (to_waiting q c)).missing ≡ q.missing) × ((cond t q (to_waiting q c)).bad ≡ q.bad)) [ true ↦ (refl, refl) | false ↦ (refl, refl) ]

wants_stuck : (cids : List Cid) (q : Queue) → ((wants q cids).missing ≡ q.missing) × ((wants q cids).bad ≡ q.bad)
wants_stuck [] q = (refl, refl)
wants_stuck (c ∷ cids) q =
    let rest = wants_stuck cids (want [] q c) in let here = want_stuck q c in (rest.0 ∙ here.0, rest.1 ∙ here.1)

filter_has : (test : Cid → Bool) (c : Cid) (xs : List Cid) → has c (filter test xs) ≡ true → has c xs ≡ true
filter_has test c [] e = e
filter_has test c (x ∷ xs) e =
    (elim (test x) as (λ t. has c (cond t (x ∷ filter test xs) (filter test xs)) ≡ true → (same_cid c x || has c xs) ≡ true) [
      | true ↦ λ h. over (same_cid c x) (filter_has test c xs) h
      | false ↦ λ h. or_so (same_cid c x) (has c xs) (filter_has test c xs h)
    ]) e
  where
    or_so : (a b : Bool) → b ≡ true → (a || b) ≡ true
    or_so true b is = refl
    or_so false b is = is

    over : (a : Bool) → (has c (filter test xs) ≡ true → has c xs ≡ true) → (a || has c (filter test xs)) ≡ true → (a || has c xs) ≡ true
    over true rest h = refl
    over false rest h = rest h

filter_bad : (test : Cid → Bool) (c : Cid) (xs : List (Cid × ℕ)) → has c (bad_cids (filter (λ (b : Cid × ℕ). test b.0) xs)) ≡ true → has c (bad_cids xs) ≡ true
filter_bad test c [] e = e
filter_bad test c (x ∷ xs) e =
    (elim (test x.0) as (λ t. has c (bad_cids (cond t (x ∷ filter (λ (b : Cid × ℕ). test b.0) xs) (filter (λ (b : Cid × ℕ). test b.0) xs))) ≡ true → (same_cid c x.0 || has c (bad_cids xs)) ≡ true) [
      | true ↦ λ h. over (same_cid c x.0) (filter_bad test c xs) h
      | false ↦ λ h. or_so (same_cid c x.0) (has c (bad_cids xs)) (filter_bad test c xs h)
    ]) e
  where
    or_so : (a b : Bool) → b ≡ true → (a || b) ≡ true
    or_so true b is = refl
    or_so false b is = is

    over : (a : Bool) → (has c (bad_cids (filter (λ (b : Cid × ℕ). test b.0) xs)) ≡ true → has c (bad_cids xs) ≡ true) → (a || has c (bad_cids (filter (λ (b : Cid × ℕ). test b.0) xs))) ≡ true → (a || has c (bad_cids xs)) ≡ true
    over true rest h = refl
    over false rest h = rest h

either_stuck : (c : Cid) (q : Queue) → (has c q.missing ≡ true) ⊎ (has c (bad_cids q.bad) ≡ true) → is_stuck c q ≡ true
either_stuck c q (inl e) = ap (λ b. b || has c (bad_cids q.bad)) e
either_stuck c q (inr e) = over (has c q.missing) (has c (bad_cids q.bad)) e
  where
    over : (a b : Bool) → b ≡ true → (a || b) ≡ true
    over true b is = refl
    over false b is = is

without_stuck : (q : Queue) (cids : List Cid) (c : Cid) → is_stuck c (without q cids) ≡ true → is_stuck c q ≡ true
without_stuck q cids c e = either_stuck c q (elim (or_cases (has c (without q cids).missing) (has c (bad_cids (without q cids).bad)) e) [
  | inl m ↦ inl (filter_has (λ d. not (has d cids)) c q.missing m)
  | inr b ↦ inr (filter_bad (λ d. not (has d cids)) c q.bad b)
])

bad_more : (xs : List (Cid × ℕ)) (b : Cid × ℕ) → bad_cids (xs ++ b ∷ []) ≡ bad_cids xs ++ b.0 ∷ []
bad_more [] b = refl
bad_more (x ∷ xs) b = ap (λ l. x.0 ∷ l) (bad_more xs b)

last_is : (c cid : Cid) → has c (cid ∷ []) ≡ true → c ≡ cid
last_is c cid e = elim (or_cases (same_cid c cid) false e) [ inl same ↦ cid_is c cid same | inr none ↦ absurd (false≢true none) ]

missing_stuck : (q : Queue) (cid c : Cid) → is_stuck c (to_missing q cid) ≡ true → (is_stuck c q ≡ true) ⊎ (c ≡ cid)
missing_stuck q cid c e = elim (or_cases (has c (q.missing ++ cid ∷ [])) (has c (bad_cids q.bad)) e) [
  | inl m ↦ elim (or_cases (has c q.missing) (has c (cid ∷ [])) (sym (has-append c q.missing (cid ∷ [])) ∙ m)) [
    | inl was ↦ inl (either_stuck c q (inl was))
    | inr new ↦ inr (last_is c cid new)
  ]
  | inr b ↦ inl (either_stuck c q (inr b))
]

bad_stuck : (q : Queue) (cid : Cid) (number : ℕ) (c : Cid) → is_stuck c (to_bad q cid number) ≡ true → (is_stuck c q ≡ true) ⊎ (c ≡ cid)
bad_stuck q cid number c e = elim (or_cases (has c q.missing) (has c (bad_cids (q.bad ++ (cid, number) ∷ []))) e) [
  | inl m ↦ inl (either_stuck c q (inl m))
  | inr b ↦ elim (or_cases (has c (bad_cids q.bad)) (has c (cid ∷ [])) (sym (has-append c (bad_cids q.bad) (cid ∷ [])) ∙ ap (has c) (sym (bad_more q.bad (cid, number))) ∙ b)) [
    | inl was ↦ inl (either_stuck c q (inr was))
    | inr new ↦ inr (last_is c cid new)
  ]
]

pub delivered_sticks : (delivered : Delivered) (q left : Queue) (cid : Cid) (found : Option (List ℕ)) → WantsAfter delivered q left cid → IsAnswerTo cid found delivered → Sticks (StuckOf cid found) q left
delivered_sticks (Processed position) q left cid found after answer =
    let same = wants_stuck after.0 (without q (cid ∷ [])) in
    λ c e. inl (without_stuck q (cid ∷ []) c (
    ap (λ (cids : List Cid). has c cids || has c (bad_cids (without q (cid ∷ [])).bad)) (sym (ap (λ (x : Queue). x.missing) after.1 ∙ same.0))
    ∙ ap (λ (b : List (Cid × ℕ)). has c left.missing || has c (bad_cids b)) (sym (ap (λ (x : Queue). x.bad) after.1 ∙ same.1)) ∙ e
    ))
delivered_sticks Missing q left cid found after answer = λ c e. elim (missing_stuck q cid c (ap (is_stuck c) (sym after) ∙ e)) [
  | inl was ↦ inl was
  | inr same ↦ inr (same, subst (IsNoBlock cid) (sym answer) tt)
]
delivered_sticks (Bad damage) q left cid found after answer = λ c e. elim (bad_stuck q cid damage c (ap (is_stuck c) (sym after) ∙ e)) [
  | inl was ↦ inl was
  | inr same ↦ inr (same, subst (IsNoBlock cid) (sym answer.2) (answer.1, answer.3))
]
delivered_sticks Known q left cid found after answer = λ c e. inl (ap (is_stuck c) (sym after) ∙ e)

-- what is found for a job

pub no_good : (cid : Cid) (sure found : Option (List ℕ)) → IsSurely sure found → IsNoBlock cid found → is_found (found_as cid sure) ≡ false
no_good cid None found is none = refl
no_good cid (Some bytes) found is none =
    let here : IsNoBlock cid (Some bytes) = subst (IsNoBlock cid) is none in
    ap (λ (r : Result _ Damage). is_found (found_reading r)) here.1

pub own_sticks : (surely : Map) (cid now c : Cid) (own found : Option (List ℕ)) → now ≡ cid → IfSome own (λ bytes. found ≡ Some bytes) → (own ≡ None → IsSurely (surely cid) found) → StuckOf now found c → StuckFor surely cid own c
own_sticks surely cid now c None found same own sure stuck = (stuck.0 ∙ same, no_good cid (surely cid) found (sure refl) (subst (λ (d : Cid). IsNoBlock d found) same stuck.1))
own_sticks surely cid now c (Some bytes) found same own sure stuck = (stuck.0 ∙ same, subst (IsNoBlock cid) own (subst (λ (d : Cid). IsNoBlock d found) same stuck.1))

abbrev found_of : {E : Type 0} → Result FoundAs E → Option (List ℕ)
found_of (Ok found) = found_in found
found_of (Err error) = None

own_found : (E X : Type 0) (own : Option (List ℕ)) (found : FoundAs) → IfSome own (λ bytes. (◌≡◌ {A = Result FoundAs E} (Ok found) (Ok (Bytes bytes))) × X) → IfSome own (λ bytes. found_in found ≡ Some bytes)
own_found E X None found h = tt
own_found E X (Some bytes) found h = ap found_of h.0

pub looked_sticks : (E X : Type 0) (surely : Map) (cid now : Cid) (own : Option (List ℕ)) (found : FoundAs) (q left : Queue) → now ≡ cid → IfSome own (λ bytes. (◌≡◌ {A = Result FoundAs E} (Ok found) (Ok (Bytes bytes))) × X) → (own ≡ None → IsSurely (surely cid) (bytes_of found))
    → Sticks (StuckOf now (found_in found)) q left → Sticks (StuckFor surely cid own) q left
looked_sticks E X surely cid now own found q left same owned sure sticks =
    sticks_weaker (StuckOf now (found_in found)) (StuckFor surely cid own) q left
    (λ c stuck. own_sticks surely cid now c own (found_in found) same (own_found E X own found owned) (λ e. subst (IsSurely (surely cid)) (found_same found) (sure e)) stuck) sticks

-- what is stored is a block

bytes_unstored : (graph : List Vertex) (c : Cid) → in_graph graph c ≡ false → bytes_in graph c ≡ None
bytes_unstored [] c e = refl
bytes_unstored (v ∷ graph) c e =
    (elim (same_cid c v.cid) as (λ t. (t || in_graph graph c) ≡ false → option_map (λ (w : Vertex). w.bytes) (cond t (Some v) (find (λ (w : Vertex). same_cid c w.cid) graph)) ≡ None) [
      | true ↦ λ h. absurd (false≢true (sym h))
      | false ↦ λ h. bytes_unstored graph c h
    ]) e

unstored_bytes : (graph : List Vertex) (c : Cid) → bytes_in graph c ≡ None → in_graph graph c ≡ false
unstored_bytes [] c e = refl
unstored_bytes (v ∷ graph) c e =
    (elim (same_cid c v.cid) as (λ t. option_map (λ (w : Vertex). w.bytes) (cond t (Some v) (find (λ (w : Vertex). same_cid c w.cid) graph)) ≡ None → (t || in_graph graph c) ≡ false) [
      | true ↦ λ h. absurd (false≢true (ap is_some (sym h)))
      | false ↦ λ h. unstored_bytes graph c h
    ]) e

stored_there : (graph : List Vertex) (c : Cid) (bytes : List ℕ) → bytes_in graph c ≡ Some bytes → in_graph graph c ≡ true
stored_there graph c bytes e = (elim (in_graph graph c) as (λ t. in_graph graph c ≡ t → t ≡ true) [
  | true ↦ λ h. refl
  | false ↦ λ h. absurd (false≢true (ap is_some (sym (bytes_unstored graph c h) ∙ e)))
]) refl

lost_for : (surely : Map) (s : ReplicaState) (cid : Cid) (own : Option (List ℕ)) → IsSound s.state → own ≡ bytes_in s.state.durable.graph cid → (c : Cid) → StuckFor surely cid own c → IsLost surely s.state.durable.graph c
lost_for surely s cid None sound is c stuck = subst (IsLost surely s.state.durable.graph) (sym stuck.0) (record { unsure = stuck.1; unstored = unstored_bytes s.state.durable.graph cid (sym is) })
lost_for surely s cid (Some bytes) sound is c stuck =
    let graph : List Vertex = s.state.durable.graph in
    let good = stored_found (λ (d : Cid). bytes_in graph d) graph sound.durable.good (λ d other e. e) cid (stored_there graph cid bytes (sym is)) in
    let found : is_found (found_as cid (Some bytes)) ≡ true = ap (λ (o : Option (List ℕ)). is_found (found_as cid o)) is ∙ ap is_found good in
    let none : is_found (found_as cid (Some bytes)) ≡ false = ap (λ (r : Result _ Damage). is_found (found_reading r)) stuck.1.1 in
    absurd (false≢true (sym none ∙ found))

pub turn_sticks : (surely : Map) (failed : Bool) (cid : Cid) (own : Option (List ℕ)) (a : Option ReplicaState) (q mid left : Queue) → IfSome a (λ s. IsSound s.state) → IfSome a (λ s. own ≡ bytes_in s.state.durable.graph cid)
    → Sticks Nobody q mid → (failed ≡ false → Sticks (StuckFor surely cid own) mid left) → IfSome a (λ s. failed ≡ false → Sticks (IsLost surely s.state.durable.graph) q left)
turn_sticks surely failed cid own None q mid left sound is first next = tt
turn_sticks surely failed cid own (Some s) q mid left sound is first next = λ e.
    sticks_then (IsLost surely s.state.durable.graph) q mid left (sticks_free (IsLost surely s.state.durable.graph) q mid first)
    (sticks_weaker (StuckFor surely cid own) (IsLost surely s.state.durable.graph) mid left (lost_for surely s cid own sound is) (next e))

pub free_sticks : (surely : Map) (failed : Bool) (a : Option ReplicaState) (q left : Queue) → (failed ≡ false → Sticks Nobody q left) → IfSome a (λ s. failed ≡ false → Sticks (IsLost surely s.state.durable.graph) q left)
free_sticks surely failed None q left free = tt
free_sticks surely failed (Some s) q left free = λ e. sticks_free (IsLost surely s.state.durable.graph) q left (free e)

-- turns one after another

stored_less : (graph more : List Vertex) (c : Cid) → in_graph (graph ++ more) c ≡ false → in_graph graph c ≡ false
stored_less graph more c e = over (in_graph graph c) (in_graph more c) (sym (list_any-append (λ (vertex : Vertex). same_cid c vertex.cid) graph more) ∙ e)
  where
    over : (a b : Bool) → (a || b) ≡ false → a ≡ false
    over true b h = h
    over false b h = refl

lost_back : (surely : Map) (s mid : ReplicaState) (c : Cid) → GoesOn s.state.durable mid.state.durable → IsLost surely mid.state.durable.graph c → IsLost surely s.state.durable.graph c
lost_back surely s mid c grows lost = record {
  unsure = lost.unsure;
  unstored = stored_less s.state.durable.graph grows.stored c (ap (λ (graph : List Vertex). in_graph graph c) (sym grows.graph) ∙ lost.unstored);
}

-- where a part has led from the first state to the next
pub lost_then : (surely now : Map) (most : ReplicaState → ℕ) (P : Map → List Cid → Type 0) (failed : Bool) (a m : Option ReplicaState) (q mid left : Queue) → now ≡ surely → Told a m (λ s new. Leads false (most s) P s new) → IfSome a (λ s. Sticks (IsLost surely s.state.durable.graph) q mid)
    → IfSome m (λ s. failed ≡ false → Sticks (IsLost now s.state.durable.graph) mid left) → IfSome a (λ s. failed ≡ false → Sticks (IsLost surely s.state.durable.graph) q left)
lost_then surely now most P failed None m q mid left same leads first next = tt
lost_then surely now most P failed (Some s) None q mid left same leads first next = absurd leads
lost_then surely now most P failed (Some s) (Some there) q mid left same leads first next = λ e.
    sticks_then (IsLost surely s.state.durable.graph) q mid left first
    (sticks_weaker (IsLost now there.state.durable.graph) (IsLost surely s.state.durable.graph) mid left
    (λ c lost. lost_back surely s there c leads.grows (subst (λ (map : Map). IsLost map there.state.durable.graph c) same lost)) (next e))

pub lost_start : (surely : Map) (a : Option ReplicaState) (q : Queue) → IfSome a (λ s. Sticks (IsLost surely s.state.durable.graph) q q)
lost_start surely None q = tt
lost_start surely (Some s) q = λ c e. inl e

pub lost_end : (surely : Map) (failed : Bool) (a : Option ReplicaState) (q left : Queue) → failed ≡ false → IfSome a (λ s. failed ≡ false → Sticks (IsLost surely s.state.durable.graph) q left) → IfSome a (λ s. Sticks (IsLost surely s.state.durable.graph) q left)
lost_end surely failed None q left well sticks = tt
lost_end surely failed (Some s) q left well sticks = sticks well

pub lost_on : (surely : Map) (failed : Bool) (a : Option ReplicaState) (q left : Queue) → IfSome a (λ s. Sticks (IsLost surely s.state.durable.graph) q left) → IfSome a (λ s. failed ≡ false → Sticks (IsLost surely s.state.durable.graph) q left)
lost_on surely failed None q left sticks = tt
lost_on surely failed (Some s) q left sticks = λ e. sticks

-- from where nothing was missing or bad

none_stuck : (c : Cid) (q : Queue) → NoneStuck q → is_stuck c q ≡ false
none_stuck c q none = ap (λ (cids : List Cid). has c cids || has c (bad_cids q.bad)) none.0 ∙ ap (λ (b : List (Cid × ℕ)). has c (bad_cids b)) none.1

pub all_lost : (surely : Map) (most : ReplicaState → ℕ) (P : Map → List Cid → Type 0) (failed : Bool) (a m : Option ReplicaState) (mid left : Queue) → NoneStuck mid → Told a m (λ s new. Leads false (most s) P s new) → IfSome m (λ s. failed ≡ false → Sticks (IsLost surely s.state.durable.graph) mid left)
    → IfSome a (λ s. failed ≡ false → AreLost surely s.state.durable.graph left)
all_lost surely most P failed None m mid left none leads sticks = tt
all_lost surely most P failed (Some s) None mid left none leads sticks = absurd leads
all_lost surely most P failed (Some s) (Some there) mid left none leads sticks = λ e c stuck. elim (sticks e c stuck) [
  | inl was ↦ absurd (false≢true (sym (none_stuck c mid none) ∙ was))
  | inr lost ↦ lost_back surely s there c leads.grows lost
]

-- the same where a drain began later, of what is wanted then
pub lost_at : (surely : Map) (root s new : ReplicaState) (q : Queue) → GoesOn root.state.durable s.state.durable → AreLost surely s.state.durable.graph q → queue_in new.state.run ≡ q → AreLost surely root.state.durable.graph (queue_in new.state.run)
lost_at surely root s new q grows lost shows = λ c e. lost_back surely root s c grows (lost c (ap (is_stuck c) (sym shows) ∙ e))

-- own bytes go first, and what is stored is not lost
pub none_lost : (finds : Finds) (graph : List Vertex) (q : Queue) → AreLost finds.surely graph q → NoneLost (offers_of (surely_from graph finds)) q
none_lost finds graph q lost = λ c e. let one = lost c e in
    ap (λ (own : Option (List ℕ)). is_found (found_as c (first_bytes own (finds.surely c)))) (bytes_unstored graph c one.unstored) ∙ one.unsure

-- nothing waits, and nothing is in flight
pub drained_so : (map : Map) (run : Option Running) → NoneLost (offers_of map) (queue_in run) → (queue_in run).waiting ≡ [] → (queue_in run).flight ≡ [] → (c : Cid) → has c (wanted_in run) ≡ true → is_found (offers_of map c) ≡ false
drained_so map None none waiting flight = λ c e. absurd (false≢true e)
drained_so map (Some run) none waiting flight = λ c e. none c (
    sym (has-append c run.queue.missing (bad_cids run.queue.bad))
    ∙ ap (λ (w : List Cid). has c (w ++ ([] ++ (run.queue.missing ++ bad_cids run.queue.bad)))) (sym waiting)
    ∙ ap (λ (f : List Cid). has c (run.queue.waiting ++ (f ++ (run.queue.missing ++ bad_cids run.queue.bad)))) (sym flight) ∙ e
    )
