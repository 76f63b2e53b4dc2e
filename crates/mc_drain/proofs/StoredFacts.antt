-- What a drain asks of events where what is found are the bytes that are stored at last.
use Rattle.std.proofs.Common.{◌≡◌, ℕ, Bool, true, false, cond, ◌||◌, List, [], ◌∷◌, ◌++◌, find, Option, Some, None, Result, Ok, Err, refl, sym, ap, ◌∙◌, subst}
use Rattle.std.specs.Prelude.{is_some}
use Rattle.std.specs.Option.{option_map}
use Rattle.std.proofs.lemmas.Bool.{false≢true}
use Rattle.mc_base.specs.declared.cid.Cid.{Cid}
use Rattle.mc_fetch.specs.Fits.{Map}
use Rattle.mc_model.specs.declared.block.Block.{Block}
use Rattle.mc_model.specs.Draining.{IsFoundFor, TakesAll, bytes_in, delivery, taken_up}
use Rattle.mc_model.specs.Events.{Event, GoesOn, after}
use Rattle.mc_model.specs.Front.{same_cid}
use Rattle.mc_model.specs.Graph.{Vertex, in_graph}
use Rattle.mc_model.specs.Offer.{Damage, offer}
use Rattle.mc_model.specs.State.{Durable, Running, State, vertex_of}
use Rattle.mc_model.proofs.Counts.{cid_is}
use Rattle.mc_core.specs.Events.{ReplicaState}
use Rattle.mc_drain.specs.Leads.{DrainsOn, StoredIn}

-- the bytes of a block where more is stored behind, or before
pub bytes_front : (graph more : List Vertex) (c : Cid) (bytes : List ℕ) → bytes_in graph c ≡ Some bytes → bytes_in (graph ++ more) c ≡ Some bytes
bytes_front [] more c bytes e = absurd (false≢true (ap is_some e))
bytes_front (v ∷ graph) more c bytes e =
    elim (same_cid c v.cid) as (λ t. option_map (λ (w : Vertex). w.bytes) (cond t (Some v) (find (λ (w : Vertex). same_cid c w.cid) graph)) ≡ Some bytes
    → option_map (λ (w : Vertex). w.bytes) (cond t (Some v) (find (λ (w : Vertex). same_cid c w.cid) (graph ++ more))) ≡ Some bytes) [
      | true ↦ λ h. h
      | false ↦ λ h. bytes_front graph more c bytes h
    ] e

pub bytes_behind : (graph more : List Vertex) (c : Cid) (bytes : List ℕ) → in_graph graph c ≡ false → bytes_in more c ≡ Some bytes → bytes_in (graph ++ more) c ≡ Some bytes
bytes_behind [] more c bytes none e = e
bytes_behind (v ∷ graph) more c bytes none e =
    elim (same_cid c v.cid) as (λ t. (t || in_graph graph c) ≡ false → option_map (λ (w : Vertex). w.bytes) (cond t (Some v) (find (λ (w : Vertex). same_cid c w.cid) (graph ++ more))) ≡ Some bytes) [
      | true ↦ λ n. absurd (false≢true (sym n))
      | false ↦ λ n. bytes_behind graph more c bytes n e
    ] none

-- what is stored at last has the bytes of what was stored before
pub stored_back : (map : Map) (old new : Durable) → GoesOn old new → StoredIn map new → StoredIn map old
stored_back map old new grows h = λ c bytes e. h c bytes (subst (λ (graph : List Vertex). bytes_in graph c ≡ Some bytes) (sym grows.graph) (bytes_front old.graph grows.stored c bytes e))

-- calls one after another, and none
pub drains_then : (s mid new : ReplicaState) → GoesOn mid.state.durable new.state.durable → DrainsOn s mid → DrainsOn mid new → DrainsOn s new
drains_then s mid new grows first next = λ map kept h old start d. next map kept h old start (first map kept (stored_back map mid.state.durable new.state.durable grows h) old start d)

pub drains_itself : (s : ReplicaState) → DrainsOn s s
drains_itself s = λ map kept h old start d. d

-- what is asked of the events of a call
abbrev pub StoredAsked : State → List Event → Type 0
StoredAsked state events = (map : Map) → StoredIn map (after state events).durable → TakesAll map state events

one_is : (c d : Cid) (bytes other : List ℕ) → bytes_in (vertex_of (record { cid = c; bytes = bytes }) ∷ []) d ≡ Some other → same_cid d c ≡ true
one_is c d bytes other e =
    (elim (same_cid d c) as (λ t. option_map (λ (w : Vertex). w.bytes) (cond t (Some (vertex_of (record { cid = c; bytes = bytes }))) None) ≡ Some other → t ≡ true) [
      | true ↦ λ h. refl
      | false ↦ λ h. absurd (false≢true (ap is_some h))
    ]) e

-- a delivery takes what it stores
pub delivery_stored : (durable : Durable) (run : Running) (c : Cid) (found : Option (List ℕ)) → ((bytes_of : Map) → IsFoundFor bytes_of c found → TakesAll bytes_of (record { durable = durable; run = Some run }) (delivery durable.graph c found))
    → StoredAsked (record { durable = durable; run = Some run }) (delivery durable.graph c found)
delivery_stored durable run c None takes = λ map h. takes map tt
delivery_stored durable run c (Some bytes) takes = λ map h. up map (in_graph durable.graph c) (offer c bytes) refl (takes (λ (d : Cid). Some bytes) refl) h
  where
    up : (map : Map) (stored : Bool) (reading : Result Block Damage) → in_graph durable.graph c ≡ stored → TakesAll (λ (d : Cid). Some bytes) (record { durable = durable; run = Some run }) (taken_up stored c bytes reading)
        → StoredIn map (after (record { durable = durable; run = Some run }) (taken_up stored c bytes reading)).durable → TakesAll map (record { durable = durable; run = Some run }) (taken_up stored c bytes reading)
    up map stored (Err damage) is t h = (tt, tt)
    up map true (Ok block) is t h = t
    up map false (Ok block) is t h = (
      λ d other e. ((t.0 d other e).0, h d other (bytes_behind durable.graph (vertex_of (record { cid = c; bytes = bytes }) ∷ []) d other (ap (in_graph durable.graph) (cid_is d c (one_is c d bytes other e)) ∙ is) e)),
      t.1,
    )
