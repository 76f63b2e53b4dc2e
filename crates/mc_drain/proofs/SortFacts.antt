-- What waits at the limit is parted.
use Rattle.std.proofs.Common.{◌≡◌, ◌<◌, ◌+◌, ℕ, suc, true, false, List, [], ◌∷◌, ◌++◌, length, Option, Some, None, refl, sym, ap, ◌∙◌, subst, arith, inl, inr, ◌⊎◌}
use Rattle.std.specs.Prelude.{IfSome, is_some}
use Rattle.std.proofs.lemmas.Bool.{false≢true, or_cases}
use Rattle.std.proofs.lemmas.List.{append_assoc, append-nil}
use Rattle.mc_base.specs.Told.{Told}
use Rattle.mc_base.specs.declared.cid.Cid.{Cid}
use Rattle.mc_fetch.specs.Fits.{Map}
use Rattle.mc_fetch.specs.Offers.{HasDigest}
use Rattle.mc_fetch.specs.declared.job.Found.{Found}
use Rattle.mc_model.specs.Draining.{HasDrained, bytes_in, offers_of}
use Rattle.mc_model.specs.Found.{found_as, is_found}
use Rattle.mc_model.specs.Front.{same_cid}
use Rattle.mc_model.specs.Graph.{has}
use Rattle.mc_model.specs.State.{Durable}
use Rattle.mc_model.specs.Wanted.{Queue, start_first}
use Rattle.mc_model.proofs.Counts.{cid_is, has-append}
use Rattle.mc_queue.specs.Parts.{first_of}
use Rattle.mc_worker.specs.Lookups.{LooksUp}
use Rattle.mc_core.specs.Events.{ReplicaState}
use Rattle.mc_core.specs.Jobs.{found_in}
use Rattle.mc_drain.specs.declared.end.DrainEnd.{DrainEnd}
use Rattle.mc_drain.specs.declared.end.DrainEnd.TheVariants.{Spent}
use Rattle.mc_drain.specs.Leads.{Leads, count}
use Rattle.mc_drain.specs.Words.{AllGood, Fetched, FetchedFor, FoundFor, IsNoBlock, SortsFirst, Sorts}
use Rattle.mc_drain.proofs.CallFacts.{own_fits}
use Rattle.mc_drain.proofs.TurnFacts.{looked}

-- while they are looked at: those that are left stand before those that came back
pub record IsSorting (offers : Option Map) (s : ReplicaState) (waiting : List Cid) (left : ℕ) : Type 0 where
  pub rest : List Cid
  pub goods : List Cid
  pub is : waiting ≡ rest ++ goods
  pub enough : length rest ≡ left
  pub good : AllGood (Fetched offers) s goods

pub sorting_start : (offers : Option Map) (s : ReplicaState) (waiting : List Cid) (left : ℕ) → left ≡ length waiting → IsSorting offers s waiting left
sorting_start offers s waiting left len = record {
  rest = waiting;
  goods = [];
  is = sym (append-nil waiting);
  enough = sym len;
  good = λ map kept f old start h c e. absurd (false≢true e);
}

rest_on : (rest goods more : List Cid) (x : Cid) (xs : List Cid) → 0 < length rest → rest ++ goods ≡ x ∷ xs → (r : List Cid) × (suc (length r) ≡ length rest) × (xs ++ more ≡ r ++ (goods ++ more))
rest_on [] goods more x xs some e = absurd (omega (arith, some))
rest_on (y ∷ r) goods more x xs some e = let tail : r ++ goods ≡ xs = cc e in (r, refl, ap (λ l. l ++ more) (sym tail) ∙ append_assoc r goods more)

-- one more was looked at
pub sorting_on : (offers : Option Map) (s mid : ReplicaState) (before after : List Cid) (left less : ℕ) → IsSorting offers s before left → 0 < left → less + 1 ≡ left → SortsFirst offers mid before after
    → ((map : Map) (kept : List Cid) → Fetched offers map kept → (old : Durable) (start : List Cid) → HasDrained map kept old start s.state → HasDrained map kept old start mid.state) → IsSorting offers s after less
sorting_on offers s mid before after left less h some next one come =
    let on = rest_on h.rest h.goods one.goods one.first one.rest (let e = h.enough in omega (arith, e, some)) (sym h.is ∙ one.was) in
    record {
      rest = on.0;
      goods = h.goods ++ one.goods;
      is = one.is ∙ on.2;
      enough = let a = on.1 in let b = h.enough in omega (arith, a, b, next);
      good = λ map kept f old start d c e. elim (or_cases (has c h.goods) (has c one.goods) (sym (has-append c h.goods one.goods) ∙ e)) [
        | inl p ↦ h.good map kept f old start d c p
        | inr p ↦ one.good map kept f old start (come map kept f old start d) c p
      ];
    }

-- all were
pub sorted_all : (offers : Option Map) (s : ReplicaState) (waiting : List Cid) (left : ℕ) → IsSorting offers s waiting left → left ≡ 0 → AllGood (Fetched offers) s waiting
sorted_all offers s waiting left h none = subst (AllGood (Fetched offers) s) (sym (h.is ∙ ap (λ r. r ++ h.goods) (empty h.rest (h.enough ∙ none)))) h.good
  where
    empty : (r : List Cid) → length r ≡ 0 → r ≡ []
    empty [] e = refl
    empty (x ∷ xs) e = absurd (omega (arith, e))

-- a good block came back
pub good_sorts : (cid : Cid) (found : Option (List ℕ)) (result : Option DrainEnd) (before after : List Cid) (a : Option ReplicaState) → after ≡ before ++ cid ∷ [] → is_found (found_as cid found) ≡ true → IfSome a (λ s. result ≡ None → Sorts (FoundFor cid found) before after)
good_sorts cid found result before after None is good = tt
good_sorts cid found result before after (Some s) is good = λ none. record {
  goods = cid ∷ [];
  is = is;
  good = λ map kept p c e. one map p c (or_cases (same_cid c cid) false e);
}
  where
    one : (map : Map) → map cid ≡ found → (c : Cid) → (same_cid c cid ≡ true) ⊎ (false ≡ true) → is_found (offers_of map c) ≡ true
    one map p c (inl e) = subst (λ (d : Cid). is_found (offers_of map d) ≡ true) (sym (cid_is c cid e)) (ap (λ (bytes : Option (List ℕ)). is_found (found_as cid bytes)) p ∙ good)
    one map p c (inr e) = absurd (false≢true e)

-- no block came back
pub none_sorts : (P : Map → List Cid → Type 0) (before after : List Cid) → after ≡ before → Sorts P before after
none_sorts P before after is = record { goods = []; is = is ∙ sym (append-nil before); good = λ map kept p c e. absurd (false≢true e) }

pub bad_sorts : (cid : Cid) (found : Option (List ℕ)) (result : Option DrainEnd) (before after : List Cid) (a : Option ReplicaState) → IsNoBlock cid found → IfSome a (λ s. result ≡ None → IsNoBlock cid found → after ≡ before)
    → IfSome a (λ s. result ≡ None → Sorts (FoundFor cid found) before after)
bad_sorts cid found result before after None none stuck = tt
bad_sorts cid found result before after (Some s) none stuck = λ e. none_sorts (FoundFor cid found) before after (stuck e none)

sorts_weaker : (P Q : Map → List Cid → Type 0) (before after : List Cid) → ((map : Map) (kept : List Cid) → Q map kept → P map kept) → Sorts P before after → Sorts Q before after
sorts_weaker P Q before after weaker s = record { goods = s.goods; is = s.is; good = λ map kept q. s.good map kept (weaker map kept q) }

-- what was looked up for a job, and then sorted
pub job_sorts : (offers : Option Map) (cid cid_now : Cid) (own : Option (List ℕ)) (found : Found) (result : Option DrainEnd) (before after : List Cid) (a : Option ReplicaState) → cid_now ≡ cid → LooksUp offers cid own found
    → IfSome a (λ s. result ≡ None → Sorts (FoundFor cid_now (found_in found)) before after) → IfSome a (λ s. result ≡ None → Sorts (FetchedFor offers cid own) before after)
job_sorts offers cid cid_now own found result before after None same looks sorts = tt
job_sorts offers cid cid_now own found result before after (Some s) same looks sorts = λ e. sorts_weaker (FoundFor cid_now (found_in found)) (FetchedFor offers cid own) before after (looked offers cid cid_now own found same looks) (sorts e)

first_rest : (q : Queue) (cid : Cid) → Some cid ≡ first_of q.waiting → (rest : List Cid) × (q.waiting ≡ cid ∷ rest)
first_rest q cid first = over q.waiting refl
  where
    over : (waiting : List Cid) → q.waiting ≡ waiting → (rest : List Cid) × (q.waiting ≡ cid ∷ rest)
    over [] e = absurd (let n : Some cid ≡ None = first ∙ ap first_of e in cc n)
    over (d ∷ rest) e = (rest, e ∙ ap (λ (x : Cid). x ∷ rest) (let n : Some cid ≡ Some d = first ∙ ap first_of e in sym (cc n)))

-- the first that waited was looked at
pub first_sorts : (offers : Option Map) (cid : Cid) (own : Option (List ℕ)) (result : Option DrainEnd) (q mid left : Queue) (a m : Option ReplicaState) → Some cid ≡ first_of q.waiting → mid ≡ start_first q q.waiting → IfSome own (HasDigest cid)
    → IfSome a (λ s. own ≡ bytes_in s.state.durable.graph cid) → (is_some a ≡ true → is_some m ≡ true) → IfSome m (λ s. result ≡ None → Sorts (FetchedFor offers cid own) mid.waiting left.waiting)
    → IfSome a (λ s. result ≡ None → SortsFirst offers s q.waiting left.waiting)
first_sorts offers cid own result q mid left None m first is digest from tells sorts = tt
first_sorts offers cid own result q mid left (Some s) None first is digest from tells sorts = absurd (false≢true (tells refl))
first_sorts offers cid own result q mid left (Some s) (Some now) first is digest from tells sorts = λ e.
    let cut = first_rest q cid first in
    let one = sorts e in
    record {
      first = cid;
      rest = cut.0;
      goods = one.goods;
      was = cut.1;
      is = one.is ∙ ap (λ (w : List Cid). w ++ one.goods) (ap (λ (x : Queue). x.waiting) (is ∙ ap (λ (w : List Cid). start_first q w) cut.1));
      good = λ map kept f old start h. one.good map kept (f, own_fits map kept s.state.durable.graph cid own h.stored h.own from digest);
    }

-- the keeper tells afterwards too
pub tells_on : (P : ReplicaState → ReplicaState → Type 0) (a b : Option ReplicaState) → Told a b P → is_some a ≡ true → is_some b ≡ true
tells_on P None b t e = absurd (false≢true e)
tells_on P (Some s) None t e = absurd t
tells_on P (Some s) (Some new) t e = refl

-- while they are looked at, where the keeper tells
pub start_told : (offers : Option Map) (a : Option ReplicaState) (waiting : List Cid) (left : ℕ) → left ≡ length waiting → IfSome a (λ s. IsSorting offers s waiting left)
start_told offers None waiting left is = tt
start_told offers (Some s) waiting left is = sorting_start offers s waiting left is

pub sorting_told : (offers now : Option Map) (result : Option DrainEnd) (a m : Option ReplicaState) (before after : List Cid) (left less : ℕ) → now ≡ offers → result ≡ None → 0 < left → less + 1 ≡ left → Told a m (λ s mid. Leads false (count s) (Fetched offers) s mid)
    → IfSome a (λ s. IsSorting offers s before left) → IfSome m (λ s. result ≡ None → SortsFirst now s before after) → IfSome a (λ s. IsSorting offers s after less)
sorting_told offers now result None m before after left less same none some next come h one = tt
sorting_told offers now result (Some s) None before after left less same none some next come h one = absurd come
sorting_told offers now result (Some s) (Some mid) before after left less same none some next come h one =
    sorting_on offers s mid before after left less h some next (subst (λ (o : Option Map). SortsFirst o mid before after) same (one none)) (λ map kept f old start d. come.goes refl map kept f old start d)

pub sorted_told : (offers : Option Map) (result : Option DrainEnd) (a : Option ReplicaState) (waiting : List Cid) (left : ℕ) → left ≡ 0 → IfSome a (λ s. IsSorting offers s waiting left) → IfSome a (λ s. result ≡ None → AllGood (Fetched offers) s waiting)
sorted_told offers result None waiting left none h = tt
sorted_told offers result (Some s) waiting left none h = λ e. sorted_all offers s waiting left h none

pub good_told : (offers : Option Map) (turn : Option DrainEnd) (end : DrainEnd) (a : Option ReplicaState) (waiting : List Cid) → turn ≡ None → IfSome a (λ s. turn ≡ None → AllGood (Fetched offers) s waiting) → IfSome a (λ s. end ≡ Spent → AllGood (Fetched offers) s waiting)
good_told offers turn end None waiting none h = tt
good_told offers turn end (Some s) waiting none h = λ e. h none
