-- The desks of replicas while some are lent.
use Rattle.std.specs.Prelude.{◌≡◌, ◌≤◌, ⊤, ℕ, ◌+◌, Bool, true, false, List, [], ◌∷◌, ◌++◌, length, map, vec_len}
use Rattle.std.specs.Prelude.{vec_capacity, Vec}
use Rattle.mc_fetch.specs.declared.peers.PeerFetch.{PeerFetch}
use Rattle.mc_fetch.specs.declared.peers.PeerView.{PeerView}
use Rattle.mc_fetch.specs.Views.{views_of}
use Rattle.mc_lend.specs.declared.site.Site.{Site}
use Rattle.mc_lend.specs.Lending.{AreFetches, AreViewsOf, IsViewOf, desks_in, desks_lent, marks_of, peers_in, with_all}
use Rattle.mc_lend.specs.Lending.{with_firsts}

-- the desks that are there
abbrev pub lists_of : {D Z : Type 0} → List (Vec D Z) → List (List D)
lists_of {D} {Z} rows = map (λ (row : Vec D Z). row.items) rows

-- so many desks are there, and there is room for so many more, where the replica is fetched from
abbrev pub HoldsAt : {D Z : Type 0} → ℕ → ℕ → Bool → Vec D Z → Type 0
HoldsAt there out false row = ⊤
HoldsAt there out true row = (there ≤ vec_len row) × (vec_len row + out ≤ vec_capacity row)

abbrev pub Holds : {D Z : Type 0} → ℕ → ℕ → List Bool → List (Vec D Z) → Type 0
Holds there out [] [] = ⊤
Holds there out [] (row ∷ rows) = ⊥
Holds there out (mark ∷ marks) [] = ⊥
Holds there out (mark ∷ marks) (row ∷ rows) = HoldsAt there out mark row × Holds there out marks rows

-- one desk of a row is lent, where it is marked
abbrev pub LendsBy : {K D : Type 0} → Bool → Site K → List D → List D → List (PeerView K D) → List (PeerView K D) →
    Type 0
LendsBy false site old new views now = (new ≡ old) × (now ≡ views)
LendsBy {K} {D} true site old new views now =
    (view : PeerView K D) × (now ≡ views ++ view ∷ []) × (old ≡ view.desk ∷ new) × IsViewOf site view

-- one desk of each marked row is lent
pub record Lends {K D : Type 0} (sites : List (Site K)) (olds news : List (List D)) (views now : List (PeerView K D))
    : Type 0 where
  pub more : List (PeerView K D)
  pub added : now ≡ views ++ more
  pub lent : olds ≡ with_firsts (marks_of sites) (desks_in more) news
  pub of : AreViewsOf sites more

-- the desk of the first view comes back to a row, where it is marked
abbrev pub ReturnsBy : {K D : Type 0} → Bool → List D → List D → List (PeerView K D) → List (PeerView K D) → Type 0
ReturnsBy false old new views left = (new ≡ old) × (left ≡ views)
ReturnsBy {K} {D} true old new views left = (view : PeerView K D) × (views ≡ view ∷ left) × (new ≡ view.desk ∷ old)

-- each marked row gets one
abbrev pub Returns : {K D : Type 0} → List (Site K) → List (List D) → List (List D) → List (PeerView K D) → Type 0
Returns sites olds news views = news ≡ with_firsts (marks_of sites) (desks_in views) olds

-- a row has no more than its room
abbrev pub AllFit : {D Z : Type 0} → List (Vec D Z) → Type 0
AllFit [] = ⊤
AllFit (row ∷ rows) = (vec_len row ≤ vec_capacity row) × (vec_len row ≡ length row.items) × AllFit rows

abbrev pub is_empty_list : {D : Type 0} → List D → Bool
is_empty_list [] = true
is_empty_list (x ∷ xs) = false

-- some fetches more are made of the desks
pub record LendsAll {K D : Type 0} (sites : List (Site K)) (olds news : List (List D))
    (fetches now : List (PeerFetch K D)) : Type 0 where
  pub more : List (PeerFetch K D)
  pub added : now ≡ fetches ++ more
  pub lent : olds ≡ with_all (marks_of sites) (desks_lent more) news
  pub of : AreFetches sites more

-- each fetch has as many views as there are peers
abbrev pub AllViewed : {K D : Type 0} → List (Site K) → List (PeerFetch K D) → Type 0
AllViewed sites [] = ⊤
AllViewed sites (fetch ∷ fetches) = (length (peers_in sites) ≡ length (views_of fetch)) × AllViewed sites fetches

-- so many fetches were made of the desks, and these rows are left
pub record IsLent {K D Z : Type 0} (count : ℕ) (sites : List (Site K)) (desks : List (List D))
    (fetches : List (PeerFetch K D)) (rows : List (Vec D Z)) : Type 0 where
  pub many : length fetches ≡ count
  pub lent : desks ≡ with_all (marks_of sites) (desks_lent fetches) (lists_of rows)
  pub of : AreFetches sites fetches
  pub holds : Holds 0 count (marks_of sites) rows
