-- The bounds of a round, and what it leads to.
use Rattle.std.proofs.Common.{◌≡◌, ◌≤◌, ℕ, Bool, true, false, List, All, Option, Some, None, refl, sym, ap, subst, arith}
use Rattle.std.specs.Prelude.{is_some, unwrap_or}
use Rattle.mc_base.specs.Told.{Told}
use Rattle.mc_base.specs.declared.cid.Cid.{Cid}
use Rattle.mc_fetch.specs.Fits.{FetchFits, Map}
use Rattle.mc_fetch.specs.Offers.{Offered, found_by}
use Rattle.mc_model.specs.Draining.{bytes_in}
use Rattle.mc_model.specs.Graph.{has}
use Rattle.mc_core.specs.Events.{ReplicaState}
use Rattle.mc_drain.specs.Finds.{found_from}
use Rattle.mc_drain.specs.Leads.{Leads, count, up_to}
use Rattle.mc_drain.specs.Rounds.{FindsFrom}
use Rattle.mc_drain.proofs.GoOnFacts.{leads_itself}
use Rattle.mc_drain.proofs.WorkFacts.{BeginsLaw, begun}
use Rattle.mc_node.specs.Ties.{IsWithin, StoresFound}
use Rattle.mc_node.specs.Works.{Bounds, IsKnown, IsUnder, WorkersLead, bound_of}
use Rattle.mc_pull.specs.Bounds.{bounds_of}

at_least : (most : Option ℕ) (s : ReplicaState) → IsWithin most (Some s) → count s ≤ bound_of most (count s)
at_least None s within = omega arith
at_least (Some n) s within = within n refl s refl

-- nobody has worked
pub unled : (limit : Bounds) (stopped : Bool) (a b : Option ReplicaState) → b ≡ a → stopped ≡ false → IsWithin limit.most a → Told a b (λ s new. WorkersLead limit stopped s new)
unled limit stopped a b same up within = subst (λ (o : Option ReplicaState). Told a o (λ s new. WorkersLead limit stopped s new)) (sym same) (subst (λ (f : Bool). Told a a (λ s new. WorkersLead limit f s new)) (sym up) (still a within))
  where
    still : (a : Option ReplicaState) → IsWithin limit.most a → Told a a (λ s new. WorkersLead limit false s new)
    still None within = tt
    still (Some s) within = leads_itself (bound_of limit.most (count s)) (IsKnown limit) (IsKnown limit) s (at_least limit.most s within)

is_same : (s x : ReplicaState) → Some s ≡ Some x → s ≡ x
is_same s x e = ap (λ (o : Option ReplicaState). unwrap_or o s) e

is_number : (m n : ℕ) → Some m ≡ Some n → m ≡ n
is_number m n e = ap (λ (o : Option ℕ). unwrap_or o m) e

-- the bounds hold where the round begins

pub may_begin : BeginsLaw → (limit : ℕ) (offers : Option Map) (a : Option ReplicaState) → StoresFound (bounds_of limit offers a) a
may_begin begins limit offers None = λ map is. absurd (cc is)
may_begin begins limit offers (Some s) = λ map is.
    let first = (begun begins s offers map is).0 in
    record {
      tells = refl;
      found = λ x e. subst (λ (y : ReplicaState). (c : Cid) (bytes : List ℕ) → bytes_in y.state.durable.graph c ≡ Some bytes → map c ≡ Some bytes) (is_same s x e) first.stored;
      own = λ x e. subst (λ (y : ReplicaState). (c : Cid) → has c (bounds_of limit offers (Some s)).kept ≡ true → is_some (bytes_in y.state.durable.graph c) ≡ true) (is_same s x e) first.own;
    }

pub is_within : (limit : ℕ) (offers : Option Map) (a : Option ReplicaState) → IsWithin (bounds_of limit offers a).most a
is_within limit offers None = λ n is. absurd (cc is)
is_within limit offers (Some s) = λ n is x e. let m = is_number (up_to limit s) n is in let c = ap count (is_same s x e) in omega (arith, m, c)

pub never_walks : (limit : ℕ) (offers : Option Map) (a : Option ReplicaState) → (bounds_of limit offers a).walks ≡ false
never_walks limit offers None = refl
never_walks limit offers (Some s) = refl

pub is_under : (limit : ℕ) (offers : Option Map) (a : Option ReplicaState) → IsUnder (bounds_of limit offers a).most limit
is_under limit offers None = λ n is. absurd (cc is)
is_under limit offers (Some s) = λ n is. let m = is_number (up_to limit s) n is in omega (arith, m)

fits_told : BeginsLaw → (s : ReplicaState) (offers found : Option Map) (kept : List Cid) → found ≡ found_from s.state.durable.graph offers → kept ≡ (bounds_of 0 offers (Some s)).kept → FetchFits found kept offers
fits_told begins s offers None kept is of = tt
fits_told begins s offers (Some map) kept is of = subst (λ (cids : List Cid). FetchFits (Some map) cids offers) (sym of) (begun begins s offers map (sym is)).1

first_fits : BeginsLaw → (limit : ℕ) (offers : Option Map) (a : Option ReplicaState) → FetchFits (bounds_of limit offers a).found (bounds_of limit offers a).kept offers
first_fits begins limit offers None = tt
first_fits begins limit offers (Some s) = fits_told begins s offers (found_from s.state.durable.graph offers) (bounds_of limit offers (Some s)).kept refl refl

pub all_fit : {F : Type 0} → BeginsLaw → (told : F → Option Offered) (limit : ℕ) (offers : Option Map) (a : Option ReplicaState) (fetches : List F) → All (λ f. found_by (told f) ≡ offers) fetches
    → All (λ f. FetchFits (bounds_of limit offers a).found (bounds_of limit offers a).kept (found_by (told f))) fetches
all_fit begins told limit offers a fetches same = λ k d less.
    subst (λ (o : Option Map). FetchFits (bounds_of limit offers a).found (bounds_of limit offers a).kept o) (sym (same k d less)) (first_fits begins limit offers a)

-- what a round leads to, where the keeper tells
pub round_told : (limit : ℕ) (offers : Option Map) (failed : Bool) (a b : Option ReplicaState) → Told a b (λ s new. WorkersLead (bounds_of limit offers a) failed s new)
    → Told a b (λ s new. Leads failed (up_to limit s) (FindsFrom offers s.state.durable.graph) s new)
round_told limit offers failed None b leads = tt
round_told limit offers failed (Some s) None leads = absurd leads
round_told limit offers failed (Some s) (Some new) leads = leads
