-- What holds of peers by the definitions: the laws of a fetch.
use Rattle.std.proofs.Common.{◌≡◌, ◌≤◌, ◌+◌, ℕ, suc, ◌*◌, arith, Bool, List, [], ◌∷◌, Option, Some, None, refl, ap, ◌∙◌, length}
use Rattle.std.specs.Prelude.{IfSome}
use Rattle.std.specs.List.{AllZip}
use Rattle.std.specs.Option.{option_map}
use Rattle.mc_base.specs.declared.cid.Cid.{Cid}
use Rattle.mc_model.specs.Found.{PeerOffers}
use Rattle.mc_model.specs.Kept.{Kept, bytes_at}
use Rattle.mc_keep.specs.Plan.{DeskSchedule}
use Rattle.mc_fetch.specs.declared.peers.PeerView.{PeerView}
use Rattle.mc_fetch.specs.Peers.{leading_told, onto_peers, onto_stored, places_of, told_at, peers_told, offers_told, SamePlan, ViewGoes, offers_at}
use Rattle.mc_fetch.specs.Plants.{planted_at}

-- two places for each peer

placed_peers : (peers : List (Cid → PeerOffers)) (cid : Cid) → length (places_of peers cid) ≡ 2 * length peers
placed_peers [] cid = refl
placed_peers (peer ∷ peers) cid = omega (arith, placed_peers peers cid)

onto_length : (peer : Option (Cid → PeerOffers)) (peers : Option (List (Cid → PeerOffers))) (n : ℕ) →
    IfSome peers (λ ps. length ps ≡ n) → IfSome (onto_peers peer peers) (λ ps. length ps ≡ suc n)
onto_length None peers n h = tt
onto_length (Some peer) None n h = tt
onto_length (Some peer) (Some peers) n h = ap suc h

placed_from : (peers : Option (List (Cid → PeerOffers))) (n : ℕ) → IfSome peers (λ ps. length ps ≡ n) →
    IfSome (option_map places_of peers) (λ offered. (cid : Cid) → length (offered cid) ≡ 2 * n)
placed_from None n h = tt
placed_from (Some peers) n h = λ cid. placed_peers peers cid ∙ ap (λ k. 2 * k) h

module _ {K Desk : Type 0} (told : K → Option Kept) where
  told_length : (views : List (PeerView K Desk)) → IfSome (peers_told told views) (λ ps. length ps ≡ length views)
  told_length [] = refl
  told_length (view ∷ views) =
      onto_length (told_at told view) (peers_told told views) (length views) (told_length views)

  pub all_placed : (views : List (PeerView K Desk)) →
      IfSome (offers_told told views) (λ offered. (cid : Cid) → length (offered cid) ≡ 2 * length views)
  all_placed views = placed_from (peers_told told views) (length views) (told_length views)

-- where all peers tell, all places are leading ones, and no more than there are

few_onto : (kept : Option Kept) (cid : Cid) (behind : List (Option (List ℕ))) (n : ℕ) → length behind ≤ 2 * n
    → length (onto_stored kept cid behind) ≤ 2 * n + 1
few_onto None cid behind n few = omega arith
few_onto (Some kept) cid behind n few = omega (arith, few)

module _ {K Desk : Type 0} (told : K → Option Kept) where
  abbrev AreLed : Option (List (Cid → PeerOffers)) → List (PeerView K Desk) → Type 0
  AreLed peers views = IfSome peers (λ ps. (cid : Cid) → leading_told told cid views ≡ places_of ps cid)

  one_led : (view : PeerView K Desk) (views : List (PeerView K Desk)) (kept : Option Kept)
      (peers : Option (List (Cid → PeerOffers))) → told view.keeper.now ≡ kept → AreLed peers views
      → AreLed (onto_peers (option_map (offers_at view.planted.now) kept) peers) (view ∷ views)
  one_led view views None peers is led = tt
  one_led view views (Some kept) None is led = tt
  one_led view views (Some kept) (Some peers) is led = λ cid.
      ap (λ k. planted_at view.planted.now cid ∷ onto_stored k cid (leading_told told cid views)) is
      ∙ ap (λ behind. planted_at view.planted.now cid ∷ bytes_at kept.graph cid ∷ behind) (led cid)

  each_led : (views : List (PeerView K Desk)) → AreLed (peers_told told views) views
  each_led [] = λ cid. refl
  each_led (view ∷ views) = one_led view views (told view.keeper.now) (peers_told told views) refl (each_led views)

  led_from : (views : List (PeerView K Desk)) (peers : Option (List (Cid → PeerOffers))) → AreLed peers views
      → IfSome (option_map places_of peers) (λ offered. (cid : Cid) → leading_told told cid views ≡ offered cid)
  led_from views None led = tt
  led_from views (Some peers) led = led

  pub all_led : (views : List (PeerView K Desk)) →
      IfSome (offers_told told views) (λ offered. (cid : Cid) → leading_told told cid views ≡ offered cid)
  all_led views = led_from views (peers_told told views) (each_led views)

  pub few_led : (cid : Cid) (views : List (PeerView K Desk)) → length (leading_told told cid views) ≤ 2 * length views
  few_led cid [] = omega arith
  few_led cid (view ∷ views) =
      let few = few_onto (told view.keeper.now) cid (leading_told told cid views) (length views) (few_led cid views) in
      omega (arith, few)

-- no call, and calls in turn

plan_stays : (plan : Option DeskSchedule) → SamePlan plan plan
plan_stays None = tt
plan_stays (Some plan) = refl

plan_goes_on : (first second third : Option DeskSchedule) → SamePlan first second → SamePlan second third →
    SamePlan first third
plan_goes_on None second third p q = tt
plan_goes_on (Some first) None third p q = absurd (cc p)
plan_goes_on (Some first) (Some second) third p q = q ∙ p

module _ {K Desk : Type 0} (quiet : K → Bool) (quiet_desk : Desk → Bool) (faults : Desk → ℕ)
    (desk_schedule : Desk → Option DeskSchedule) where
  abbrev Goes : PeerView K Desk → PeerView K Desk → Type 0
  Goes = ViewGoes quiet quiet_desk faults desk_schedule

  pub view_stays : (view : PeerView K Desk) → Goes view view
  view_stays view = record {
    keeper = refl;
    planted = refl;
    later = omega arith;
    still_quiet = λ k d. (d, refl);
    plan = plan_stays (desk_schedule view.desk);
  }

  view_goes_on : (first second third : PeerView K Desk) → Goes first second → Goes second third → Goes first third
  view_goes_on first second third p q = record {
    keeper = q.keeper ∙ p.keeper;
    planted = q.planted ∙ p.planted;
    later = omega (arith, p.later, q.later);
    still_quiet = λ k d. let mid = p.still_quiet k d in let after =
        q.still_quiet (ap (λ keeper. quiet keeper.now) p.keeper ∙ k) mid.0 in (after.0, after.1 ∙ mid.1);
    plan = plan_goes_on (desk_schedule first.desk) (desk_schedule second.desk) (desk_schedule third.desk) p.plan q.plan;
  }

  pub views_stay : (views : List (PeerView K Desk)) → AllZip Goes views views
  views_stay [] = tt
  views_stay (view ∷ views) = (view_stays view, views_stay views)

  pub views_go_on : (first second third : List (PeerView K Desk)) → AllZip Goes first second →
      AllZip Goes second third → AllZip Goes first third
  views_go_on [] [] [] p q = tt
  views_go_on (x ∷ xs) [] zs p q = absurd p
  views_go_on [] (y ∷ ys) zs p q = absurd p
  views_go_on (x ∷ xs) (y ∷ ys) [] p q = absurd q
  views_go_on [] [] (z ∷ zs) p q = absurd q
  views_go_on (x ∷ xs) (y ∷ ys) (z ∷ zs) p q = (view_goes_on x y z p.0 q.0, views_go_on xs ys zs p.1 q.1)
