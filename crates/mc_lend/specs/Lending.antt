-- What is lent of the desks of some replicas, and what comes back.
use Rattle.std.specs.Prelude.{◌≡◌, ◌≤◌, ⊤, ℕ, Bool, true, false, List, [], ◌∷◌, filter, map, length}
use Rattle.std.specs.List.{AllZip}
use Rattle.mc_fetch.specs.declared.peers.PeerFetch.{PeerFetch}
use Rattle.mc_fetch.specs.declared.peers.PeerView.{PeerView}
use Rattle.mc_fetch.specs.Views.{views_of}
use Rattle.mc_lend.specs.declared.site.Site.{Site}

-- lists, of which the marked ones have these in front, one each
abbrev pub with_firsts : {D : Type 0} → List Bool → List D → List (List D) → List (List D)
with_firsts [] firsts lists = lists
with_firsts (mark ∷ marks) firsts [] = []
with_firsts (false ∷ marks) firsts (list ∷ lists) = list ∷ with_firsts marks firsts lists
with_firsts (true ∷ marks) [] (list ∷ lists) = list ∷ with_firsts marks [] lists
with_firsts (true ∷ marks) (first ∷ firsts) (list ∷ lists) = (first ∷ list) ∷ with_firsts marks firsts lists

-- so they have all of these in turn, the first of them foremost
abbrev pub with_all : {D : Type 0} → List Bool → List (List D) → List (List D) → List (List D)
with_all marks [] lists = lists
with_all marks (firsts ∷ more) lists = with_firsts marks firsts (with_all marks more lists)

-- whether a replica is fetched from
abbrev pub is_peer : {K : Type 0} → Site K → Bool
is_peer site = site.peer

abbrev pub marks_of : {K : Type 0} → List (Site K) → List Bool
marks_of sites = map is_peer sites

-- those that are fetched from
abbrev pub peers_in : {K : Type 0} → List (Site K) → List (Site K)
peers_in sites = filter is_peer sites

-- a view of the replica at this site
pub record IsViewOf {K D : Type 0} (site : Site K) (view : PeerView K D) : Type 0 where
  pub keeper : view.keeper.now ≡ site.keeper.now
  pub planted : view.planted.now ≡ site.planted.now

-- a view of each of those that are fetched from
abbrev pub AreViewsOf : {K D : Type 0} → List (Site K) → List (PeerView K D) → Type 0
AreViewsOf sites views = AllZip IsViewOf (peers_in sites) views

-- the desks of views, and of fetches
abbrev pub desks_in : {K D : Type 0} → List (PeerView K D) → List D
desks_in {K} {D} views = map (λ (view : PeerView K D). view.desk) views

abbrev pub desks_of : {K D : Type 0} → PeerFetch K D → List D
desks_of fetch = desks_in (views_of fetch)

abbrev pub desks_lent : {K D : Type 0} → List (PeerFetch K D) → List (List D)
desks_lent {K} {D} fetches = map (λ (fetch : PeerFetch K D). desks_of fetch) fetches

-- each fetch reads all those that are fetched from
abbrev pub AreFetches : {K D : Type 0} → List (Site K) → List (PeerFetch K D) → Type 0
AreFetches sites [] = ⊤
AreFetches sites (fetch ∷ fetches) = AreViewsOf sites (views_of fetch) × AreFetches sites fetches

-- a peer has so many desks
abbrev pub HaveAt : {D : Type 0} → ℕ → Bool → List D → Type 0
HaveAt count false list = ⊤
HaveAt count true list = count ≤ length list

abbrev pub HaveDesks : {D : Type 0} → ℕ → List Bool → List (List D) → Type 0
HaveDesks count [] [] = ⊤
HaveDesks count [] (list ∷ lists) = ⊥
HaveDesks count (mark ∷ marks) [] = ⊥
HaveDesks count (mark ∷ marks) (list ∷ lists) = HaveAt count mark list × HaveDesks count marks lists
