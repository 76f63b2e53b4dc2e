-- What is found among the sites that a replica fetches from, and what calls through their desks leave of these.
use Rattle.std.specs.Prelude.{◌≡◌, ◌≤◌, ◌<◌, ◌&&◌, ℕ, Bool, true, cond, List, [], ◌∷◌, Option, Some, slice_get, nat_eq}
use Rattle.std.specs.Prelude.{◌-◌, ◌^◌, length}
use Rattle.std.specs.List.{AllZip, list_all, sum_by}
use Rattle.std.specs.Option.{option_map}
use Rattle.mc_base.specs.declared.cid.Cid.{Cid}
use Rattle.mc_fetch.specs.Fits.{Map}
use Rattle.mc_fetch.specs.Offers.{found_by, surely_by}
use Rattle.mc_drain.specs.Finds.{Finds}
use Rattle.mc_fetch.specs.Peers.{SamePlan, offers_at, onto_peers, onto_stored, places_of}
use Rattle.mc_fetch.specs.Plants.{planted_at}
use Rattle.mc_keep.specs.Calls.{Members}
use Rattle.mc_lend.specs.declared.site.Site.{Site}
use Rattle.mc_model.specs.Found.{PeerOffers}
use Rattle.mc_model.specs.Kept.{Kept}

module _ {K : Type 0} (told : K → Option Kept) where
  -- what a replica at a site offers for each block, where its keeper tells
  abbrev pub told_at : Site K → Option (Cid → PeerOffers)
  told_at site = option_map (offers_at site.planted.now) (told site.keeper.now)

  -- what those offer that are fetched from, where all their keepers tell
  abbrev pub sites_told : List (Site K) → Option (List (Cid → PeerOffers))
  sites_told [] = Some []
  sites_told (site ∷ sites) = cond site.peer (onto_peers (told_at site) (sites_told sites)) (sites_told sites)

  -- and what is found among them for each block: the first offer that has its digest
  abbrev pub found_at : List (Site K) → Option Map
  found_at sites = found_by (option_map places_of (sites_told sites))

  -- what those offer for a block that are fetched from: those in front of the first whose keeper is silent, and what is
  -- planted at that one
  abbrev pub leading_sites : List (Site K) → Cid → List (Option (List ℕ))
  leading_sites [] cid = []
  leading_sites (site ∷ sites) cid = cond site.peer
      (planted_at site.planted.now cid ∷ onto_stored (told site.keeper.now) cid (leading_sites sites cid))
      (leading_sites sites cid)

  -- and all that is found among them
  abbrev pub finds_at : List (Site K) → Finds
  finds_at sites = record { all = found_at sites; surely = surely_by (leading_sites sites) }

module _ {K D : Type 0} (k : Members K D) (desk_faults : D → ℕ) where
  -- whether a desk is known never to fail, and has not
  abbrev pub is_calm : D → Bool
  is_calm desk = k.quiet_desk desk && nat_eq (desk_faults desk) 0

  -- whether the keepers at all sites are known never to fail by themselves
  abbrev pub are_quiet : List (Site K) → Bool
  are_quiet sites = list_all (λ (site : Site K). k.quiet site.keeper.now) sites

  -- What calls leave of a desk: its count never falls, the reads that are planned to fail are the same, and where the
  -- keepers are quiet and it is, it stays so and counts nothing.
  pub record DeskGoes (quiet : Bool) (old new : D) : Type 0 where
    pub grows : desk_faults old ≤ desk_faults new
    pub plan : SamePlan (k.desk_schedule old) (k.desk_schedule new)
    pub still : quiet ≡ true → k.quiet_desk old ≡ true
        → (k.quiet_desk new ≡ true) × (desk_faults new ≡ desk_faults old)

  -- What calls leave of the desks of one replica: each stands at its place, they are as many, their counts never fall,
  -- and where the keepers are quiet what is calm stays calm.
  pub record DeskListGoes (quiet : Bool) (old new : List D) : Type 0 where
    pub each : AllZip (DeskGoes quiet) old new
    pub many : length new ≡ length old
    pub later : sum_by desk_faults old ≤ sum_by desk_faults new
    pub calm : quiet ≡ true → list_all is_calm old ≡ true → list_all is_calm new ≡ true

  -- the same of the desks of all sites
  abbrev pub DesksGo : List (Site K) → List (List D) → List (List D) → Type 0
  DesksGo sites olds news = AllZip (DeskListGoes (are_quiet sites)) olds news

module _ {D : Type 0} (desk_faults : D → ℕ) where
  -- the counts of all desks together
  abbrev pub counts_of : List (List D) → ℕ
  counts_of lists = sum_by (λ (list : List D). sum_by desk_faults list) lists

  -- no desk has failed: each counts what it did, where all counts together don't come to the last value of 64 bits
  abbrev pub NoneFailed : List (List D) → List (List D) → Type 0
  NoneFailed olds news = counts_of olds < 2 ^ 64 - 1
      → AllZip (AllZip (λ old new. desk_faults new ≡ desk_faults old)) olds news

-- a desk of one that is fetched from has failed once more
pub record DeskRose {D : Type 0} (desk_faults : D → ℕ) (marks : List Bool) (olds news : List (List D)) : Type 0 where
  pub at : ℕ
  pub old : List D
  pub new : List D
  pub marked : slice_get marks at ≡ Some true
  pub stood : slice_get olds at ≡ Some old
  pub stands : slice_get news at ≡ Some new
  pub rose : sum_by desk_faults old < sum_by desk_faults new
