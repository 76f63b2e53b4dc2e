-- What a step of a replica finds among its peers, and what it does with it.
use Rattle.std.specs.Prelude.{◌≡◌, ⊤, ℕ, Bool, true, false, List, [], ◌∷◌, map, Option, Some, None, is_some}
use Rattle.std.specs.List.{list_all}
use Rattle.std.specs.Option.{option_map}
use Rattle.mc_base.specs.declared.cid.Cid.{Cid}
use Rattle.mc_fetch.specs.declared.job.Delivered.{Delivered}
use Rattle.mc_fetch.specs.declared.job.Delivered.TheVariants as delivered
use Rattle.mc_fetch.specs.declared.plants.Planted.{Planted}
use Rattle.mc_fetch.specs.Peers.{offers_at, onto_peers}
use Rattle.mc_fetch.specs.Plants.{planted_at}
use Rattle.mc_model.specs.Draining.{delivery}
use Rattle.mc_model.specs.Events.{Event, Want}
use Rattle.mc_model.specs.Found.{PeerOffers, found_bytes, offers_from}
use Rattle.mc_model.specs.Kept.{Kept, bytes_at}
use Rattle.mc_model.specs.State.{kept_of}
use Rattle.mc_core.specs.Events.{ReplicaState}
use Rattle.mc_core.specs.Jobs.{IsDelivered, first_waiting}
use Rattle.mc_script.specs.declared.reply.Reply.{Reply}
use Rattle.mc_script.specs.declared.reply.Reply.TheVariants.{Processed, Missing, Bad, Idle}
use Rattle.mc_seats.specs.Worlds.{Place}

-- what a replica offers for each block, where its content is told
abbrev pub offers_of_place : Place → Option (Cid → PeerOffers)
offers_of_place place = option_map (offers_at place.planted) place.content

-- what these offer, where all their contents are told
abbrev pub offers_of : List Place → Option (List (Cid → PeerOffers))
offers_of [] = Some []
offers_of (place ∷ places) = onto_peers (offers_of_place place) (offers_of places)

-- what is planted for a block, and nothing that is stored
abbrev pub planted_alone : List Planted → Cid → PeerOffers
planted_alone planted c = record { planted = planted_at planted c; stored = None }

-- one more in front: where its content isn't told it offers what is planted there, and those behind it count no more
abbrev pub onto_front : List Planted → Option Kept → List (Cid → PeerOffers) → List (Cid → PeerOffers)
onto_front planted None offers = planted_alone planted ∷ []
onto_front planted (Some kept) offers = offers_at planted kept ∷ offers

-- what those offer that stand in front of the first whose content isn't told, and what is planted at that one
abbrev pub front_offers : List Place → List (Cid → PeerOffers)
front_offers [] = []
front_offers (place ∷ places) = onto_front place.planted place.content (front_offers places)

-- whether all their contents are told
abbrev pub all_tell : List Place → Bool
all_tell places = list_all (λ (place : Place). is_some place.content) places

-- the first bytes that have the digest of a block: of its own ones, and then of those that are offered in front
abbrev pub first_in_front : Option (List ℕ) → List Place → Cid → Option (List ℕ)
first_in_front own peers c =
    found_bytes (offers_from own (map (λ (offers : Cid → PeerOffers). offers c) (front_offers peers))) c

-- what is found, by what is found in front: the same where that is something, and else nothing where all tell
abbrev pub Decides : Option (List ℕ) → Bool → Option (List ℕ) → Type 0
Decides (Some bytes) told found = found ≡ Some bytes
Decides None true found = found ≡ None
Decides None false found = ⊤

-- these bytes, or none, are found for a block with these own ones among its peers. One that is silent silences what it
-- has stored and those behind it alone.
abbrev pub IsFoundIn : Option (List ℕ) → List Place → Cid → Option (List ℕ) → Type 0
IsFoundIn own peers c found = Decides (first_in_front own peers c) (all_tell peers) found

-- the own ones are those that are stored
abbrev pub IsFound : Kept → List Place → Cid → Option (List ℕ) → Type 0
IsFound kept peers c found = IsFoundIn (bytes_at kept.graph c) peers c found

-- what is answered for a delivery
abbrev pub IsStepReply : Delivered → Reply → Type 0
IsStepReply (delivered.Processed position) reply = reply ≡ Processed
IsStepReply delivered.Missing reply = reply ≡ Missing
IsStepReply (delivered.Bad damage) reply = reply ≡ Bad damage
IsStepReply delivered.Known reply = ⊥

-- one job: what is found for the first block that waits is delivered
pub record StepsWith (peers : List Place) (s : ReplicaState) (events : List Event) (reply : Reply) : Type 0 where
  pub cid : Cid
  pub found : Option (List ℕ)
  pub delivered : Delivered
  pub first : first_waiting s ≡ Some cid
  pub is_found : IsFound (kept_of s.state.durable) peers cid found
  pub job : events ≡ Want ∷ delivery s.state.durable.graph cid found
  pub becomes : IsDelivered s.state.durable cid found delivered
  pub says : IsStepReply delivered reply

-- or nothing, where no block waits
abbrev pub StepEvents : List Place → ReplicaState → List Event → Reply → Type 0
StepEvents peers s events Idle = (first_waiting s ≡ None) × (events ≡ [])
StepEvents peers s events reply = StepsWith peers s events reply
