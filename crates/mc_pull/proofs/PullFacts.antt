-- The desks of a work and of a repair over peers, which are lent, asked, and come back.
use Rattle.std.proofs.Common.{◌≡◌, ◌≤◌, ◌^◌, ◌-◌, ℕ, Bool, true, All, List, [], ◌∷◌, length, Option, sym, ap, ◌∙◌, subst, arith}
use Rattle.std.specs.Prelude.{Vec, nat_lt}
use Rattle.std.specs.List.{AllZip}
use Rattle.std.proofs.lemmas.Bool.Decides.{nat_tests}
use Rattle.std.proofs.lemmas.Bool.{and_parts}
use Rattle.mc_pull.specs.Hands.{FetchLeft, SomeRose, first_finds, found_first}
use Rattle.mc_fetch.specs.Calls.{Members as Asked}
use Rattle.mc_fetch.specs.Offers.{found_by}
use Rattle.mc_fetch.specs.Peers.{faults_of, leading_told, offers_told}
use Rattle.mc_fetch.specs.Views.{views_of}
use Rattle.mc_fetch.specs.declared.peers.PeerFetch.{PeerFetch}
use Rattle.mc_keep.specs.Calls.{Members}
use Rattle.mc_keep.specs.Plan.{DeskSchedule}
use Rattle.mc_model.specs.Kept.{Kept}
use Rattle.mc_lend.specs.Lending.{desks_lent, marks_of, with_all}
use Rattle.mc_lend.specs.Rows.{AllViewed, Holds, IsLent, lists_of}
use Rattle.mc_lend.specs.declared.site.Site.{Site}
use Rattle.mc_pull.specs.Pulls.{DeskRose, DesksGo, finds_at, found_at}
use Rattle.mc_pull.specs.Shows.{AllShow, all_show}
use Rattle.mc_pull.proofs.DeskFacts.{AskedViews, all_found, all_viewed, desks_go, first_finds_at, first_found, left_many, views_asked}
use Rattle.mc_pull.proofs.RiseFacts.{desk_rose}

-- a fault more shows in the count of each
pub show_all : {K D : Type 0} (desk_faults : D → ℕ) (fetches : List (PeerFetch K D)) → all_show desk_faults fetches ≡ true → AllShow desk_faults fetches
show_all desk_faults [] e = tt
show_all desk_faults (fetch ∷ fetches) e =
    let both = and_parts (nat_lt (faults_of desk_faults (views_of fetch)) (2 ^ 64 - 1)) (all_show desk_faults fetches) e in
    (let first = both.0 in grind (arith, nat_tests, first), show_all desk_faults fetches both.1)

module _ {K D Z : Type 0} (told : K → Option Kept) (count : ℕ) (sites : List (Site K)) (desks : List (List D)) (lent fetches : List (PeerFetch K D)) (rows : List (Vec D Z)) (is : fetches ≡ lent) (made : IsLent count sites desks lent rows) where
  -- the fetches are those that were made
  pub are_lent : IsLent count sites desks fetches rows
  are_lent = subst (λ (l : List (PeerFetch K D)). IsLent count sites desks l rows) (sym is) made

  pub finds_first : 1 ≤ count → found_first (λ (fetch : PeerFetch K D). offers_told told (views_of fetch)) fetches ≡ found_at told sites
  finds_first some = first_found told sites fetches (let m = are_lent.many in omega (arith, m, some)) are_lent.of

  pub all_first : 1 ≤ count → first_finds (λ (fetch : PeerFetch K D). offers_told told (views_of fetch)) (λ (fetch : PeerFetch K D) cid. leading_told told cid (views_of fetch)) fetches ≡ finds_at told sites
  all_first some = first_finds_at told sites fetches (let m = are_lent.many in omega (arith, m, some)) are_lent.of

  pub find_same : 1 ≤ count → All (λ fetch. found_by (offers_told told (views_of fetch)) ≡ found_first (λ (fetch : PeerFetch K D). offers_told told (views_of fetch)) fetches) fetches
  find_same some = all_found told sites fetches (found_first (λ (fetch : PeerFetch K D). offers_told told (views_of fetch)) fetches) (finds_first some) are_lent.of

  -- they come back with their desks
  module _ (quiet : K → Bool) (quiet_desk : D → Bool) (desk_faults : D → ℕ) (plan : D → Option DeskSchedule) (f : Asked (PeerFetch K D)) (each : (old new : PeerFetch K D) → f.follows old new → AskedViews quiet quiet_desk desk_faults plan old new) (asked now : List (PeerFetch K D)) (left : AllZip (FetchLeft f) fetches asked) (same : now ≡ asked) where
    viewed : AllZip (AskedViews quiet quiet_desk desk_faults plan) fetches asked
    viewed = views_asked quiet quiet_desk desk_faults plan f each fetches asked left

    pub rows_hold : Holds 0 (length now) (marks_of sites) rows
    rows_hold = subst (λ (n : ℕ). Holds 0 n (marks_of sites) rows) (sym (ap length same ∙ left_many f fetches asked left ∙ are_lent.many)) are_lent.holds

    pub views_stay : AllViewed sites now
    views_stay = subst (AllViewed sites) (sym same) (all_viewed quiet quiet_desk desk_faults plan sites fetches asked are_lent.of viewed)

    pub one_rose : (back : List (List D)) → back ≡ with_all (marks_of sites) (desks_lent now) (lists_of rows) → AllShow desk_faults fetches
        → SomeRose (λ (fetch : PeerFetch K D). faults_of desk_faults (views_of fetch)) fetches asked → DeskRose desk_faults (marks_of sites) desks back
    one_rose back e shows rose = desk_rose quiet quiet_desk desk_faults plan count sites desks back rows fetches asked are_lent.of viewed are_lent.holds are_lent.lent
        (e ∙ ap (λ (l : List (PeerFetch K D)). with_all (marks_of sites) (desks_lent l) (lists_of rows)) same) shows rose

  pub all_desks_go : (k : Members K D) (desk_faults : D → ℕ) (f : Asked (PeerFetch K D)) → ((old new : PeerFetch K D) → f.follows old new → AskedViews k.quiet k.quiet_desk desk_faults k.desk_schedule old new)
      → (asked now : List (PeerFetch K D)) → AllZip (FetchLeft f) fetches asked → now ≡ asked → (back : List (List D)) → back ≡ with_all (marks_of sites) (desks_lent now) (lists_of rows) → DesksGo k desk_faults sites desks back
  all_desks_go k desk_faults f each asked now left same back e =
      desks_go k desk_faults sites desks back rows fetches asked are_lent.of (views_asked k.quiet k.quiet_desk desk_faults k.desk_schedule f each fetches asked left) are_lent.lent
      (e ∙ ap (λ (l : List (PeerFetch K D)). with_all (marks_of sites) (desks_lent l) (lists_of rows)) same)
