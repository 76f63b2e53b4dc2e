-- What the caller did alone, and then a round.
use Rattle.std.proofs.Common.{◌≡◌, ◌≤◌, ◌||◌, ℕ, Bool, true, false, List, Option, Some, None, refl, sym, ap, ◌∙◌, subst, arith}
use Rattle.std.specs.Prelude.{is_some}
use Rattle.std.proofs.lemmas.Bool.{false≢true}
use Rattle.mc_base.specs.Told.{Told}
use Rattle.mc_base.specs.declared.cid.Cid.{Cid}
use Rattle.mc_fetch.specs.Fits.{Map}
use Rattle.mc_model.specs.Draining.{HasDrained, bytes_in}
use Rattle.mc_model.specs.Events.{GoesOn}
use Rattle.mc_model.specs.Graph.{Vertex, cids_in, has}
use Rattle.mc_model.specs.State.{Durable}
use Rattle.mc_core.specs.Events.{ReplicaState}
use Rattle.mc_drain.specs.Finds.{first_bytes, found_from}
use Rattle.mc_drain.specs.Leads.{Always, Leads, LeadsBy, Never, count, up_to}
use Rattle.mc_drain.specs.Rounds.{FindsFrom}
use Rattle.mc_drain.specs.Words.{Fetched}
use Rattle.mc_drain.proofs.GoOnFacts.{leads_go_on, leads_itself}
use Rattle.mc_drain.proofs.StoredFacts.{bytes_front}
use Rattle.mc_drain.proofs.WorkFacts.{BeginsLaw, begun, kept_bytes, some_is}
use Rattle.mc_pull.proofs.WorkFacts.{Led, requeued_led}

-- a replica that ran has stopped where its keeper failed
pub stops_by : (failed old new : Bool) → new ≡ (failed || old) → old ≡ false → new ≡ failed
stops_by true old new is up = is
stops_by false old new is up = is ∙ up

-- nobody has worked
pub unshared : (limit : ℕ) (offers : Option Map) (stopped : Bool) (a : Option ReplicaState) → stopped ≡ false → Told a a (λ s new. Led stopped limit offers s new)
unshared limit offers stopped None up = tt
unshared limit offers stopped (Some s) up =
    subst (λ (f : Bool). Led f limit offers s s) (sym up) (leads_itself (up_to limit s) (FindsFrom offers s.state.durable.graph) Never s (omega arith))

-- what is stored stays so
grown_bytes : (old new : Durable) → GoesOn old new → (c : Cid) (bytes : List ℕ) → bytes_in old.graph c ≡ Some bytes → bytes_in new.graph c ≡ Some bytes
grown_bytes old new grows c bytes e = subst (λ (graph : List Vertex). bytes_in graph c ≡ Some bytes) (sym grows.graph) (bytes_front old.graph grows.stored c bytes e)

grown_own : (old new : Durable) → GoesOn old new → (c : Cid) → is_some (bytes_in old.graph c) ≡ true → is_some (bytes_in new.graph c) ≡ true
grown_own old new grows c e = (elim (bytes_in old.graph c) as (λ o. bytes_in old.graph c ≡ o → is_some o ≡ true → is_some (bytes_in new.graph c) ≡ true) [
  | None ↦ λ is s. absurd (false≢true s)
  | Some bytes ↦ λ is s. ap is_some (grown_bytes old new grows c bytes is)
]) refl e

-- what is found is the same after a drain: what it stored are the bytes that are found
same_bytes : (root mid : ReplicaState) (offered map : Map) → GoesOn root.state.durable mid.state.durable → (λ c. first_bytes (bytes_in root.state.durable.graph c) (offered c)) ≡ map
    → ((c : Cid) (bytes : List ℕ) → bytes_in mid.state.durable.graph c ≡ Some bytes → map c ≡ Some bytes) → (c : Cid) → first_bytes (bytes_in mid.state.durable.graph c) (offered c) ≡ map c
same_bytes root mid offered map grows is stored c =
    (elim (bytes_in mid.state.durable.graph c) as (λ o. bytes_in mid.state.durable.graph c ≡ o → first_bytes o (offered c) ≡ map c) [
      | Some bytes ↦ λ now. sym (stored c bytes now)
      | None ↦ λ now. (elim (bytes_in root.state.durable.graph c) as (λ o. bytes_in root.state.durable.graph c ≡ o → offered c ≡ map c) [
        | Some bytes ↦ λ was. absurd (false≢true (ap is_some (sym now ∙ grown_bytes root.state.durable mid.state.durable grows c bytes was)))
        | None ↦ λ was. ap (λ o. first_bytes o (offered c)) (sym was) ∙ ap (λ (m : Map). m c) is
      ]) refl
    ]) refl

same_found : (root mid : ReplicaState) (offers : Option Map) (map : Map) → GoesOn root.state.durable mid.state.durable → found_from root.state.durable.graph offers ≡ Some map
    → ((c : Cid) (bytes : List ℕ) → bytes_in mid.state.durable.graph c ≡ Some bytes → map c ≡ Some bytes) → found_from mid.state.durable.graph offers ≡ Some map
same_found root mid None map grows is stored = absurd (false≢true (ap is_some is))
same_found root mid (Some offered) map grows is stored =
    let was = some_is (λ c. first_bytes (bytes_in root.state.durable.graph c) (offered c)) map is in
    ap Some (λ i c. same_bytes root mid offered map grows was stored c i)

-- calls over what is found from a later state are calls over what is found from an earlier one
pub from_later : (failed : Bool) (most : ℕ) (offers : Option Map) (root mid new : ReplicaState) → GoesOn root.state.durable mid.state.durable → LeadsBy failed most (FindsFrom offers mid.state.durable.graph) Never mid new
    → LeadsBy failed most (FindsFrom offers root.state.durable.graph) Never mid new
from_later failed most offers root mid new grown next = record {
  grows = next.grows;
  few = next.few;
  fuse = next.fuse;
  goes = λ well map kept p old start h. back map kept p old start h (next.goes well map (cids_in mid.state.durable.graph) (same_found root mid offers map grown p.0 h.stored, refl) old start (forth map kept old start h));
  parts = λ well map kept never. absurd never;
  breaks = λ e map kept p old start h. next.breaks e map (cids_in mid.state.durable.graph) (same_found root mid offers map grown p.0 h.stored, refl) old start (forth map kept old start h);
  whatever = next.whatever;
}
  where
    forth : (map : Map) (kept : List Cid) (old : Durable) (start : List Cid) → HasDrained map kept old start mid.state → HasDrained map (cids_in mid.state.durable.graph) old start mid.state
    forth map kept old start h = record { draining = h.draining; stored = h.stored; taken = h.taken; own = kept_bytes mid.state.durable.graph }

    back : (map : Map) (kept : List Cid) → FindsFrom offers root.state.durable.graph map kept → (old : Durable) (start : List Cid) → HasDrained map kept old start mid.state → HasDrained map (cids_in mid.state.durable.graph) old start new.state → HasDrained map kept old start new.state
    back map kept p old start h after = record { draining = after.draining; stored = after.stored; taken = after.taken; own = λ c e. grown_own mid.state.durable new.state.durable next.grows c (h.own c e) }

module _ (begins : BeginsLaw) where
  -- what the caller led to alone
  led_alone : (failed : Bool) (limit : ℕ) (offers : Option Map) (s new : ReplicaState) → Leads failed (up_to limit s) (Fetched offers) s new → Led failed limit offers s new
  led_alone failed limit offers s new alone = record {
    grows = alone.grows;
    few = alone.few;
    fuse = alone.fuse;
    goes = λ well map kept p. alone.goes well map kept (fetched map kept p);
    parts = λ well map kept never. absurd never;
    breaks = λ e map kept p. alone.breaks e map kept (fetched map kept p);
    whatever = alone.whatever;
  }
    where
      fetched : (map : Map) (kept : List Cid) → FindsFrom offers s.state.durable.graph map kept → Fetched offers map kept
      fetched map kept p = subst (λ (cids : List Cid). Fetched offers map cids) (sym p.1) (begun begins s offers map p.0).1

  -- and nobody else worked
  pub alone_told : (failed stopped : Bool) (limit : ℕ) (offers : Option Map) (a b : Option ReplicaState) → stopped ≡ failed → Told a b (λ s new. Leads failed (up_to limit s) (Fetched offers) s new) → Told a b (λ s new. Led stopped limit offers s new)
  alone_told failed stopped limit offers None b is t = tt
  alone_told failed stopped limit offers (Some s) None is t = absurd t
  alone_told failed stopped limit offers (Some s) (Some new) is t = subst (λ (f : Bool). Led f limit offers s new) (sym is) (led_alone failed limit offers s new t)

  -- and then a round
  shared : (failed : Bool) (limit : ℕ) (offers : Option Map) (a m b : Option ReplicaState) → Told a m (λ s new. Leads false (up_to limit s) (Fetched offers) s new) → Told m b (λ s new. Led failed limit offers s new) → Told a b (λ s new. Led failed limit offers s new)
  shared failed limit offers None m b first next = tt
  shared failed limit offers (Some s) None b first next = absurd first
  shared failed limit offers (Some s) (Some mid) None first next = absurd next
  shared failed limit offers (Some s) (Some mid) (Some new) first next =
      leads_go_on failed (up_to limit s) (up_to limit mid) (up_to limit s) (FindsFrom offers s.state.durable.graph) (FindsFrom offers s.state.durable.graph) Never s mid new (led_alone false limit offers s mid first)
      (from_later failed (up_to limit mid) offers s mid new first.grows next) (let few = first.few in omega (arith, few)) (λ map kept old start p h. p)

  pub shared_told : (failed : Bool) (limit : ℕ) (offers now : Option Map) (a m r b : Option ReplicaState) → now ≡ offers → Told a m (λ s new. Leads false (up_to limit s) (Fetched offers) s new)
      → Told m r (λ s new. Leads false (count s) Always s new) → Told m r (λ s new. new.state.durable ≡ s.state.durable) → Told r b (λ s new. Leads failed (up_to limit s) (FindsFrom now s.state.durable.graph) s new)
      → Told a b (λ s new. Led failed limit offers s new)
  shared_told failed limit offers now a m r b same first again stays next =
      shared failed limit offers a m b first (subst (λ (o : Option Map). Told m b (λ s new. Led failed limit o s new)) same (requeued_led failed limit now m r b again stays next))
