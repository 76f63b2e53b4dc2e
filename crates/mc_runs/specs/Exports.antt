-- An export that is imported and drained.
use Rattle.std.specs.Prelude.{◌≡◌, ◌↔◌, ℕ, true, false, List, [], Option, Some, IfSome, slice_get}
use Rattle.std.specs.Option.{option_and_then}
use Rattle.mc_base.specs.declared.cid.Cid.{Cid}
use Rattle.mc_model.specs.Drain.{IsClosed}
use Rattle.mc_model.specs.Draining.{offers_of, queue_in}
use Rattle.mc_model.specs.Found.{Offers, found_links, is_found}
use Rattle.mc_model.specs.Graph.{HasNoCycle, Vertex, gaps_in, has, heads_in, links_in}
use Rattle.mc_model.specs.Kept.{Kept, nothing_kept}
use Rattle.mc_model.specs.State.{vertices}
use Rattle.mc_model.specs.Wanted.{wanted}
use Rattle.mc_seats.specs.Works.{offered_by}
use Rattle.mc_seats.specs.Worlds.{AtPlace, Place, WorldState, peers_of}

-- The closure from nothing of the heads of what was processed, in any order, over offers in which each processed block
-- is good and no gap is, where no block leads back to itself, is what was processed.
abbrev pub ExportsArrive : Type 0
ExportsArrive =
    (graph : List Vertex) (order start : List Cid) (found : Offers) → HasNoCycle graph →
    ((c : Cid) → has c start ≡ has c (heads_in graph order)) →
    ((c : Cid) → has c order ≡ true → is_found (found c) ≡ true) →
    ((c : Cid) → has c order ≡ true → found_links (found c) ≡ links_in graph c) →
    ((c : Cid) → has c (gaps_in graph order) ≡ true → is_found (found c) ≡ false) →
    (c : Cid) → IsClosed found [] start c ↔ (has c order ≡ true)

-- what the keeper of the replica with this number tells
abbrev pub keeps_at : WorldState → ℕ → Option Kept
keeps_at w r = option_and_then (λ (p : Place). p.content) (slice_get w.places r)

-- a replica tells that it holds nothing, and wants nothing
pub record IsBare (w : WorldState) (r : ℕ) : Type 0 where
  pub holds_none : keeps_at w r ≡ Some nothing_kept
  pub wants_none : AtPlace w r (λ p. wanted (queue_in p.run) ≡ [])

-- the peers of a replica, where all of them tell, have no good offer for a block
abbrev pub IsUnoffered : WorldState → ℕ → Cid → Type 0
IsUnoffered w r c = IfSome (offered_by (peers_of w r)) (λ offered. is_found (offers_of offered c) ≡ false)

-- nor for any gap of these blocks
abbrev pub HasNoOffers : Kept → WorldState → ℕ → Type 0
HasNoOffers kept w r = (c : Cid) → has c (gaps_in (vertices kept.graph) kept.order) ≡ true → IsUnoffered w r c

-- a replica tells that it has processed the same blocks
pub record HasArrived (kept : Kept) (w : WorldState) (r : ℕ) : Type 0 where
  pub now : Kept
  pub tells : keeps_at w r ≡ Some now
  pub same : (c : Cid) → has c now.order ≡ has c kept.order
