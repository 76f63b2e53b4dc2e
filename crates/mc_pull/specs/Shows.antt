-- Whether one fault more shows in the count of a fetch.
use Rattle.std.specs.Prelude.{◌<◌, ◌-◌, ◌^◌, ⊤, ℕ, Bool, List, [], ◌∷◌, nat_lt}
use Rattle.std.specs.List.{list_all}
use Rattle.mc_fetch.specs.Peers.{faults_of}
use Rattle.mc_fetch.specs.Views.{views_of}
use Rattle.mc_fetch.specs.declared.peers.PeerFetch.{PeerFetch}

module _ {K D : Type 0} (desk_faults : D → ℕ) where
  abbrev pub shows : PeerFetch K D → Bool
  shows fetch = nat_lt (faults_of desk_faults (views_of fetch)) (2 ^ 64 - 1)

  -- in those of all
  abbrev pub all_show : List (PeerFetch K D) → Bool
  all_show fetches = list_all shows fetches

  abbrev pub AllShow : List (PeerFetch K D) → Type 0
  AllShow [] = ⊤
  AllShow (fetch ∷ fetches) = (faults_of desk_faults (views_of fetch) < 2 ^ 64 - 1) × AllShow fetches
