-- What peers offer, what their desks count, and what calls leave of them.
use Rattle.std.specs.Prelude.{◌≡◌, ⊤, ℕ, ◌+◌, ◌-◌, ◌^◌, ◌≤◌, min, Bool, true, false, ◌&&◌, List, [], ◌∷◌, map, Option}
use Rattle.std.specs.Prelude.{Some, None, IfSome}
use Rattle.std.specs.List.{flat_map, list_all, sum_by}
use Rattle.std.specs.Option.{option_map}
use Rattle.mc_base.specs.declared.cid.Cid.{Cid}
use Rattle.mc_model.specs.Found.{PeerOffers}
use Rattle.mc_model.specs.Kept.{Kept, bytes_at}
use Rattle.mc_keep.specs.Causes.{CountGoes}
use Rattle.mc_keep.specs.Plan.{DeskSchedule}
use Rattle.mc_fetch.specs.declared.peers.PeerView.{PeerView}
use Rattle.mc_fetch.specs.declared.plants.Planted.{Planted}
use Rattle.mc_fetch.specs.Offers.{Offered}
use Rattle.mc_fetch.specs.Plants.{planted_at}

-- what a replica with these planted offers and this content offers for a block
abbrev pub offers_at : List Planted → Kept → Cid → PeerOffers
offers_at planted kept cid = record { planted = planted_at planted cid; stored = bytes_at kept.graph cid }

-- the two places of a peer
abbrev pub peer_places : PeerOffers → List (Option (List ℕ))
peer_places peer = peer.planted ∷ peer.stored ∷ []

-- one more peer, where each of them tells
abbrev pub onto_peers : Option (Cid → PeerOffers) → Option (List (Cid → PeerOffers)) → Option (List (Cid → PeerOffers))
onto_peers None peers = None
onto_peers (Some peer) None = None
onto_peers (Some peer) (Some peers) = Some (peer ∷ peers)

-- the places of the peers, one peer after the other
abbrev pub places_of : List (Cid → PeerOffers) → Offered
places_of peers cid = flat_map peer_places (map (λ (peer : Cid → PeerOffers). peer cid) peers)

-- what a peer has stored, where its keeper tells, before what stands behind; and nothing is known else
abbrev pub onto_stored : Option Kept → Cid → List (Option (List ℕ)) → List (Option (List ℕ))
onto_stored None cid behind = []
onto_stored (Some kept) cid behind = bytes_at kept.graph cid ∷ behind

module _ {K Desk : Type 0} (told : K → Option Kept) where
  -- what a peer offers, where its keeper tells
  abbrev pub told_at : PeerView K Desk → Option (Cid → PeerOffers)
  told_at view = option_map (offers_at view.planted.now) (told view.keeper.now)

  -- what the peers offer, where all their keepers tell
  abbrev pub peers_told : List (PeerView K Desk) → Option (List (Cid → PeerOffers))
  peers_told [] = Some []
  peers_told (view ∷ views) = onto_peers (told_at view) (peers_told views)

  -- what is known of an answer of one of the two places of a peer: that it is the planted offer, and the stored block
  -- where its keeper tells
  abbrev pub PlaceIs : Bool → PeerView K Desk → Cid → Option (List ℕ) → Type 0
  PlaceIs true view cid bytes = bytes ≡ planted_at view.planted.now cid
  PlaceIs false view cid bytes = IfSome (told view.keeper.now) (λ kept. bytes ≡ bytes_at kept.graph cid)

  -- what the leading places offer for a block: those of the peers in front of the first whose keeper is silent, and what
  -- is planted at that one
  abbrev pub leading_told : Cid → List (PeerView K Desk) → List (Option (List ℕ))
  leading_told cid [] = []
  leading_told cid (view ∷ views) =
      planted_at view.planted.now cid ∷ onto_stored (told view.keeper.now) cid (leading_told cid views)

  -- and what their places offer
  abbrev pub offers_told : List (PeerView K Desk) → Option Offered
  offers_told views = option_map places_of (peers_told views)

module _ {K Desk : Type 0} (faults : Desk → ℕ) where
  -- a count with that of one desk more
  abbrev pub capped_with : ℕ → PeerView K Desk → ℕ
  capped_with count view = min (count + faults view.desk) (2 ^ 64 - 1)

  -- the sum of the desks' counts, at most the last value of 64 bits
  abbrev pub faults_of : List (PeerView K Desk) → ℕ
  faults_of views = min (sum_by (λ (view : PeerView K Desk). faults view.desk) views) (2 ^ 64 - 1)

module _ {K Desk : Type 0} (quiet : K → Bool) (quiet_desk : Desk → Bool) where
  abbrev pub is_quiet : PeerView K Desk → Bool
  is_quiet view = quiet view.keeper.now && quiet_desk view.desk

  -- whether no desk's count is known ever to rise
  abbrev pub are_quiet : List (PeerView K Desk) → Bool
  are_quiet views = list_all is_quiet views

-- the numbers of the reads that are planned to fail are the same
abbrev pub SamePlan : Option DeskSchedule → Option DeskSchedule → Type 0
SamePlan None new = ⊤
SamePlan (Some old) new = option_map (λ (schedule : DeskSchedule). schedule.reads) new ≡ Some old.reads

-- What calls leave of a view: its keeper and what is planted are the same, its desk's count never falls, and what is
-- quiet stays so and counts nothing.
pub record ViewGoes {K Desk : Type 0} (quiet : K → Bool) (quiet_desk : Desk → Bool) (faults : Desk → ℕ)
    (desk_schedule : Desk → Option DeskSchedule) (old new : PeerView K Desk) : Type 0 where
  pub keeper : new.keeper ≡ old.keeper
  pub planted : new.planted ≡ old.planted
  pub later : faults old.desk ≤ faults new.desk
  pub still_quiet : quiet old.keeper.now ≡ true → quiet_desk old.desk ≡ true
      → (quiet_desk new.desk ≡ true) × (faults new.desk ≡ faults old.desk)
  pub plan : SamePlan (desk_schedule old.desk) (desk_schedule new.desk)

-- What one call leaves of the view that it asks: the same, and its desk's count rose exactly where it failed.
pub record ViewAsks {K Desk : Type 0} (quiet : K → Bool) (quiet_desk : Desk → Bool) (faults : Desk → ℕ)
    (desk_schedule : Desk → Option DeskSchedule) (failed : Bool) (old new : PeerView K Desk) : Type 0 where
  pub goes : ViewGoes quiet quiet_desk faults desk_schedule old new
  pub count : CountGoes failed (faults old.desk) (faults new.desk)
  pub calm : quiet old.keeper.now ≡ true → quiet_desk old.desk ≡ true → failed ≡ false
