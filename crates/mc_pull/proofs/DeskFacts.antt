-- What calls through a fetch leave of the desks that were lent to it.
use Rattle.std.proofs.Common.{◌≡◌, ◌≤◌, ◌<◌, ℕ, zero, suc, Bool, true, false, cond, All, List, [], ◌∷◌, length, slice_index_or, Option, Some, None, refl, sym, ap, ◌∙◌, subst, arith}
use Rattle.std.specs.Prelude.{nat_eq, Vec}
use Rattle.std.specs.List.{AllZip, list_all}
use Rattle.std.specs.Option.{option_map}
use Rattle.std.proofs.lemmas.Bool.Decides.{nat_tests}
use Rattle.std.proofs.lemmas.Bool.{and_from, and_parts}
use Rattle.std.proofs.lemmas.List.Sums.{sum_by-cons}
use Rattle.mc_base.specs.declared.cid.Cid.{Cid}
use Rattle.mc_drain.specs.Finds.{finds_by}
use Rattle.mc_pull.specs.Hands.{FetchLeft, first_finds, found_first}
use Rattle.mc_fetch.specs.Calls.{Members as Asked}
use Rattle.mc_fetch.specs.Fits.{Map}
use Rattle.mc_fetch.specs.Offers.{first_offer, found_by}
use Rattle.mc_fetch.specs.Peers.{SamePlan, ViewGoes, leading_told, offers_at, offers_told, onto_peers, onto_stored, peers_told, places_of}
use Rattle.mc_fetch.specs.declared.peers.PeerFetch.{PeerFetch}
use Rattle.mc_fetch.specs.declared.peers.PeerView.{PeerView}
use Rattle.mc_fetch.specs.declared.plants.Planted.{Planted}
use Rattle.mc_fetch.specs.Plants.{planted_at}
use Rattle.mc_fetch.specs.Views.{views_of}
use Rattle.mc_keep.specs.Calls.{Members}
use Rattle.mc_keep.specs.Plan.{DeskSchedule}
use Rattle.mc_lend.specs.Lending.{AreFetches, AreViewsOf, IsViewOf, desks_in, desks_lent, marks_of, peers_in, with_all, with_firsts}
use Rattle.mc_lend.specs.Rows.{AllViewed, lists_of}
use Rattle.mc_lend.specs.declared.site.Site.{Site}
use Rattle.mc_model.specs.Found.{PeerOffers}
use Rattle.mc_model.specs.Kept.{Kept}
use Rattle.mc_pull.specs.Pulls.{DeskGoes, DeskListGoes, DesksGo, are_quiet, finds_at, found_at, is_calm, leading_sites, sites_told, told_at}

-- ---- how many views there are

pub as_many : {A B : Type 0} (R : A → B → Type 0) (xs : List A) (ys : List B) → AllZip R xs ys → length xs ≡ length ys
as_many R [] [] all = refl
as_many R [] (y ∷ ys) all = absurd all
as_many R (x ∷ xs) [] all = absurd all
as_many R (x ∷ xs) (y ∷ ys) all = ap suc (as_many R xs ys all.1)

-- ---- what the peers offer

module _ {K D : Type 0} (told : K → Option Kept) where
  one_told : (site : Site K) (view : PeerView K D) → IsViewOf site view → option_map (offers_at view.planted.now) (told view.keeper.now) ≡ told_at told site
  one_told site view of = ap (λ (planted : List Planted). option_map (offers_at planted) (told view.keeper.now)) of.planted ∙ ap (λ (keeper : K). option_map (offers_at site.planted.now) (told keeper)) of.keeper

  abbrev SameTold : List (Site K) → List (PeerView K D) → Type 0
  SameTold sites views = peers_told told views ≡ sites_told told sites

  told_by : (mark : Bool) (site : Site K) (sites : List (Site K)) (views : List (PeerView K D)) → AllZip IsViewOf (cond mark (site ∷ peers_in sites) (peers_in sites)) views → ((rest : List (PeerView K D)) → AreViewsOf sites rest → SameTold sites rest)
      → peers_told told views ≡ cond mark (onto_peers (told_at told site) (sites_told told sites)) (sites_told told sites)
  told_by false site sites views of rest = rest views of
  told_by true site sites [] of rest = absurd of
  told_by true site sites (view ∷ views) of rest = ap (λ (one : Option (Cid → PeerOffers)). onto_peers one (peers_told told views)) (one_told site view of.0) ∙ ap (λ (others : Option (List (Cid → PeerOffers))). onto_peers (told_at told site) others) (rest views of.1)

  told_same : (sites : List (Site K)) (views : List (PeerView K D)) → AreViewsOf sites views → SameTold sites views
  told_same [] [] of = refl
  told_same [] (view ∷ views) of = absurd of
  told_same (site ∷ sites) views of = told_by site.peer site sites views of (λ rest. told_same sites rest)

  pub found_same : (sites : List (Site K)) (views : List (PeerView K D)) → AreViewsOf sites views → found_by (offers_told told views) ≡ found_at told sites
  found_same sites views of = ap (λ (peers : Option (List (Cid → PeerOffers))). found_by (option_map places_of peers)) (told_same sites views of)

  -- and what the leading places offer
  abbrev SameLed : List (Site K) → List (PeerView K D) → Type 0
  SameLed sites views = (cid : Cid) → leading_told told cid views ≡ leading_sites told sites cid

  led_by : (mark : Bool) (site : Site K) (sites : List (Site K)) (views : List (PeerView K D)) → AllZip IsViewOf (cond mark (site ∷ peers_in sites) (peers_in sites)) views → ((rest : List (PeerView K D)) → AreViewsOf sites rest → SameLed sites rest)
      → (cid : Cid) → leading_told told cid views ≡ cond mark (planted_at site.planted.now cid ∷ onto_stored (told site.keeper.now) cid (leading_sites told sites cid)) (leading_sites told sites cid)
  led_by false site sites views of rest cid = rest views of cid
  led_by true site sites [] of rest cid = absurd of
  led_by true site sites (view ∷ views) of rest cid =
      ap (λ (planted : List Planted). planted_at planted cid ∷ onto_stored (told view.keeper.now) cid (leading_told told cid views)) of.0.planted
      ∙ ap (λ (keeper : K). planted_at site.planted.now cid ∷ onto_stored (told keeper) cid (leading_told told cid views)) of.0.keeper
      ∙ ap (λ (behind : List (Option (List ℕ))). planted_at site.planted.now cid ∷ onto_stored (told site.keeper.now) cid behind) (rest views of.1 cid)

  led_same : (sites : List (Site K)) (views : List (PeerView K D)) → AreViewsOf sites views → SameLed sites views
  led_same [] [] of = λ cid. refl
  led_same [] (view ∷ views) of = absurd of
  led_same (site ∷ sites) views of = λ cid. led_by site.peer site sites views of (λ rest. led_same sites rest) cid

  finds_same : (sites : List (Site K)) (views : List (PeerView K D)) → AreViewsOf sites views → finds_by (offers_told told views) (λ cid. leading_told told cid views) ≡ finds_at told sites
  finds_same sites views of =
      let all = found_same sites views of in
      let led = led_same sites views of in λ i. record { all = all i; surely = λ cid. first_offer cid (led cid i) }

  -- all fetches find the same
  pub all_found : (sites : List (Site K)) (fetches : List (PeerFetch K D)) (found : Option Map) → found ≡ found_at told sites → AreFetches sites fetches → All (λ fetch. found_by (offers_told told (views_of fetch)) ≡ found) fetches
  all_found sites [] found is of = λ at d less. absurd (omega (arith, less))
  all_found sites (fetch ∷ fetches) found is of = λ at d less. place at d less (λ n below. all_found sites fetches found is of.1 n d below)
    where
      place : (at : ℕ) (d : PeerFetch K D) → at < length (fetch ∷ fetches) → ((n : ℕ) → n < length fetches → found_by (offers_told told (views_of (slice_index_or fetches n d))) ≡ found)
          → found_by (offers_told told (views_of (slice_index_or (fetch ∷ fetches) at d))) ≡ found
      place zero d less rest = found_same sites (views_of fetch) of.0 ∙ sym is
      place (suc at) d less rest = rest at (omega (arith, less))

  pub first_found : (sites : List (Site K)) (fetches : List (PeerFetch K D)) → 1 ≤ length fetches → AreFetches sites fetches → found_first (λ (fetch : PeerFetch K D). offers_told told (views_of fetch)) fetches ≡ found_at told sites
  first_found sites [] some of = absurd (omega (arith, some))
  first_found sites (fetch ∷ fetches) some of = found_same sites (views_of fetch) of.0

  pub first_finds_at : (sites : List (Site K)) (fetches : List (PeerFetch K D)) → 1 ≤ length fetches → AreFetches sites fetches
      → first_finds (λ (fetch : PeerFetch K D). offers_told told (views_of fetch)) (λ (fetch : PeerFetch K D) cid. leading_told told cid (views_of fetch)) fetches ≡ finds_at told sites
  first_finds_at sites [] some of = absurd (omega (arith, some))
  first_finds_at sites (fetch ∷ fetches) some of = finds_same sites (views_of fetch) of.0

-- ---- what calls leave of the views

module _ {K D : Type 0} (quiet : K → Bool) (quiet_desk : D → Bool) (desk_faults : D → ℕ) (plan : D → Option DeskSchedule) where
  abbrev pub AskedViews : PeerFetch K D → PeerFetch K D → Type 0
  AskedViews old new = AllZip (ViewGoes quiet quiet_desk desk_faults plan) (views_of old) (views_of new)

  -- as many views as there are peers, also once the fetches were asked
  pub all_viewed : (sites : List (Site K)) (fetches asked : List (PeerFetch K D)) → AreFetches sites fetches → AllZip AskedViews fetches asked → AllViewed sites asked
  all_viewed sites [] [] of all = tt
  all_viewed sites [] (new ∷ asked) of all = absurd all
  all_viewed sites (fetch ∷ fetches) [] of all = absurd all
  all_viewed sites (fetch ∷ fetches) (new ∷ asked) of all =
      (as_many IsViewOf (peers_in sites) (views_of fetch) of.0 ∙ as_many (ViewGoes quiet quiet_desk desk_faults plan) (views_of fetch) (views_of new) all.0, all_viewed sites fetches asked of.1 all.1)

abbrev AskedOf : {K D : Type 0} → Members K D → (D → ℕ) → PeerFetch K D → PeerFetch K D → Type 0
AskedOf k desk_faults = AskedViews k.quiet k.quiet_desk desk_faults k.desk_schedule

-- ---- what becomes of the desks

same_plan : (plan : Option DeskSchedule) → SamePlan plan plan
same_plan None = tt
same_plan (Some plan) = refl

module _ {K D : Type 0} (k : Members K D) (desk_faults : D → ℕ) where
  abbrev Goes : PeerView K D → PeerView K D → Type 0
  Goes = ViewGoes k.quiet k.quiet_desk desk_faults k.desk_schedule

  abbrev ListGoes : Bool → List D → List D → Type 0
  ListGoes = DeskListGoes k desk_faults

  same_desk : (quiet : Bool) (desk : D) → DeskGoes k desk_faults quiet desk desk
  same_desk quiet desk = record { grows = omega arith; plan = same_plan (k.desk_schedule desk); still = λ q s. (s, refl) }

  same_desks : (quiet : Bool) (list : List D) → AllZip (DeskGoes k desk_faults quiet) list list
  same_desks quiet [] = tt
  same_desks quiet (desk ∷ list) = (same_desk quiet desk, same_desks quiet list)

  pub same_list : (quiet : Bool) (list : List D) → ListGoes quiet list list
  same_list quiet list = record { each = same_desks quiet list; many = refl; later = omega arith; calm = λ q c. c }

  pub same_lists : (quiet : Bool) (lists : List (List D)) → AllZip (ListGoes quiet) lists lists
  same_lists quiet [] = tt
  same_lists quiet (list ∷ lists) = (same_list quiet list, same_lists quiet lists)

  -- where the lists are as they were
  pub still_go : (sites : List (Site K)) (olds news : List (List D)) → news ≡ olds → DesksGo k desk_faults sites olds news
  still_go sites olds news same = subst (DesksGo k desk_faults sites olds) (sym same) (same_lists (are_quiet k desk_faults sites) olds)

  no_faults : (n : ℕ) → nat_eq n 0 ≡ true → n ≡ 0
  no_faults n e = grind (arith, nat_tests, e)

  first_calm : (old new : PeerView K D) → Goes old new → k.quiet old.keeper.now ≡ true → is_calm k desk_faults old.desk ≡ true → is_calm k desk_faults new.desk ≡ true
  first_calm old new goes quiet calm =
      let stays = goes.still_quiet quiet (and_parts (k.quiet_desk old.desk) (nat_eq (desk_faults old.desk) 0) calm).0 in
      and_from (k.quiet_desk new.desk) (nat_eq (desk_faults new.desk) 0) stays.0 (ap (λ (n : ℕ). nat_eq n 0) stays.1 ∙ (and_parts (k.quiet_desk old.desk) (nat_eq (desk_faults old.desk) 0) calm).1)

  first_goes : (quiet : Bool) (site : Site K) (old new : PeerView K D) (row now : List D) → (quiet ≡ true → k.quiet site.keeper.now ≡ true) → IsViewOf site old → Goes old new → ListGoes quiet row now → ListGoes quiet (old.desk ∷ row) (new.desk ∷ now)
  first_goes quiet site old new row now of_quiet of goes rest = record {
    each = (record { grows = goes.later; plan = goes.plan; still = λ q s. goes.still_quiet (ap k.quiet of.keeper ∙ of_quiet q) s }, rest.each);
    many = ap suc rest.many;
    later = let a = sum_by-cons desk_faults old.desk row in let b = sum_by-cons desk_faults new.desk now in let later = goes.later in omega (arith, a, b, later, rest.later);
    calm = λ q c. and_from (is_calm k desk_faults new.desk) (list_all (is_calm k desk_faults) now)
        (first_calm old new goes (ap k.quiet of.keeper ∙ of_quiet q) (and_parts (is_calm k desk_faults old.desk) (list_all (is_calm k desk_faults) row) c).0)
        (rest.calm q (and_parts (is_calm k desk_faults old.desk) (list_all (is_calm k desk_faults) row) c).1);
  }

  abbrev ListsGo : Bool → List (Site K) → List (List D) → List (List D) → Type 0
  ListsGo quiet sites rows now = (views news : List (PeerView K D)) → AreViewsOf sites views → AllZip Goes views news → AllZip (ListGoes quiet) (with_firsts (marks_of sites) (desks_in views) rows) (with_firsts (marks_of sites) (desks_in news) now)

  lists_by : (quiet mark : Bool) (site : Site K) (sites : List (Site K)) (row now : List D) (rows nows : List (List D)) → (quiet ≡ true → k.quiet site.keeper.now ≡ true) → ListGoes quiet row now → ListsGo quiet sites rows nows
      → (views news : List (PeerView K D)) → AllZip IsViewOf (cond mark (site ∷ peers_in sites) (peers_in sites)) views → AllZip Goes views news
      → AllZip (ListGoes quiet) (with_firsts (mark ∷ marks_of sites) (desks_in views) (row ∷ rows)) (with_firsts (mark ∷ marks_of sites) (desks_in news) (now ∷ nows))
  lists_by quiet false site sites row now rows nows of_quiet one rest views news of goes = (one, rest views news of goes)
  lists_by quiet true site sites row now rows nows of_quiet one rest [] news of goes = absurd of
  lists_by quiet true site sites row now rows nows of_quiet one rest (view ∷ views) [] of goes = absurd goes
  lists_by quiet true site sites row now rows nows of_quiet one rest (view ∷ views) (new ∷ news) of goes = (first_goes quiet site view new row now of_quiet of.0 goes.0 one, rest views news of.1 goes.1)

  lists_go : (quiet : Bool) (sites : List (Site K)) (rows nows : List (List D)) → (quiet ≡ true → are_quiet k desk_faults sites ≡ true) → AllZip (ListGoes quiet) rows nows → ListsGo quiet sites rows nows
  lists_go quiet [] rows nows of_quiet all views news of goes = all
  lists_go quiet (site ∷ sites) [] [] of_quiet all views news of goes = tt
  lists_go quiet (site ∷ sites) [] (now ∷ nows) of_quiet all views news of goes = absurd all
  lists_go quiet (site ∷ sites) (row ∷ rows) [] of_quiet all views news of goes = absurd all
  lists_go quiet (site ∷ sites) (row ∷ rows) (now ∷ nows) of_quiet all views news of goes =
      lists_by quiet site.peer site sites row now rows nows (λ q. (and_parts (k.quiet site.keeper.now) (are_quiet k desk_faults sites) (of_quiet q)).0) all.0
      (lists_go quiet sites rows nows (λ q. (and_parts (k.quiet site.keeper.now) (are_quiet k desk_faults sites) (of_quiet q)).1) all.1) views news of goes

  -- the desks of all fetches, once they were asked
  pub all_go : (quiet : Bool) (sites : List (Site K)) (fetches asked : List (PeerFetch K D)) (rows : List (List D)) → (quiet ≡ true → are_quiet k desk_faults sites ≡ true) → AreFetches sites fetches → AllZip (AskedOf k desk_faults) fetches asked
      → AllZip (ListGoes quiet) (with_all (marks_of sites) (desks_lent fetches) rows) (with_all (marks_of sites) (desks_lent asked) rows)
  all_go quiet sites [] [] rows of_quiet of all = same_lists quiet rows
  all_go quiet sites [] (new ∷ asked) rows of_quiet of all = absurd all
  all_go quiet sites (fetch ∷ fetches) [] rows of_quiet of all = absurd all
  all_go quiet sites (fetch ∷ fetches) (new ∷ asked) rows of_quiet of all =
      lists_go quiet sites (with_all (marks_of sites) (desks_lent fetches) rows) (with_all (marks_of sites) (desks_lent asked) rows) of_quiet
      (all_go quiet sites fetches asked rows of_quiet of.1 all.1) (views_of fetch) (views_of new) of.0 all.0

  -- and they came back
  pub desks_go : {Z : Type 0} (sites : List (Site K)) (olds news : List (List D)) (rows : List (Vec D Z)) (fetches asked : List (PeerFetch K D)) → AreFetches sites fetches → AllZip (AskedOf k desk_faults) fetches asked
      → olds ≡ with_all (marks_of sites) (desks_lent fetches) (lists_of rows) → news ≡ with_all (marks_of sites) (desks_lent asked) (lists_of rows) → DesksGo k desk_faults sites olds news
  desks_go sites olds news rows fetches asked of goes was is =
      subst (λ (lists : List (List D)). DesksGo k desk_faults sites lists news) (sym was)
      (subst (λ (lists : List (List D)). DesksGo k desk_faults sites (with_all (marks_of sites) (desks_lent fetches) (lists_of rows)) lists) (sym is)
      (all_go (are_quiet k desk_faults sites) sites fetches asked (lists_of rows) (λ q. q) of goes))

-- ---- fetches that were asked

module _ {K D : Type 0} (quiet : K → Bool) (quiet_desk : D → Bool) (desk_faults : D → ℕ) (plan : D → Option DeskSchedule) where
  -- what their follows says of the views
  pub views_asked : (f : Asked (PeerFetch K D)) → ((old new : PeerFetch K D) → f.follows old new → AskedViews quiet quiet_desk desk_faults plan old new) → (fetches asked : List (PeerFetch K D)) → AllZip (FetchLeft f) fetches asked → AllZip (AskedViews quiet quiet_desk desk_faults plan) fetches asked
  views_asked f each [] [] all = tt
  views_asked f each [] (new ∷ asked) all = absurd all
  views_asked f each (fetch ∷ fetches) [] all = absurd all
  views_asked f each (fetch ∷ fetches) (new ∷ asked) all = (each fetch new all.0.asked.followed, views_asked f each fetches asked all.1)

-- they are as many
pub left_many : {F : Type 0} (f : Asked F) (fetches asked : List F) → AllZip (FetchLeft f) fetches asked → length asked ≡ length fetches
left_many f fetches asked all = sym (as_many (FetchLeft f) fetches asked all)
