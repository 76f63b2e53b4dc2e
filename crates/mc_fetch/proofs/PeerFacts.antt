-- Peers as the places of a fetch.
use Rattle.std.proofs.Common.{◌≡◌, ℕ, suc, zero, ◌+◌, ◌-◌, ◌*◌, ◌/◌, ◌%◌, ◌^◌, arith, Bool, true, false, true≢false, cond, nat_eq, List, [], ◌∷◌, ◌++◌, append_assoc, Option, Some, None, Result, Ok, Err, refl, sym, ap, ◌∙◌, subst, length, length-set, set}
use Rattle.std.specs.Prelude.{⊤, IfSome, IfOk, min, fold, slice_get, is_some, unwrap_or}
use Rattle.std.specs.List.{AllZip, flat_map}
use Rattle.std.specs.Option.{option_map}
use Rattle.std.proofs.lemmas.Bool.{and_parts, and_from}
use Rattle.std.proofs.lemmas.Bool.Decides.{nat_tests}
use Rattle.std.proofs.lemmas.List.Sums.{get_or-le-sum_by, sum_by-set}
use Rattle.std.proofs.lemmas.Option.{get_or_from_slice_get, slice_get_within}
use Rattle.mc_base.specs.declared.cid.Cid.{Cid}
use Rattle.mc_model.specs.Found.{PeerOffers, peer_list, option_list, offers_from}
use Rattle.mc_model.specs.Kept.{Kept, bytes_at}
use Rattle.mc_keep.specs.Causes.{CountGoes}
use Rattle.mc_keep.specs.Plan.{DeskSchedule}
use Rattle.mc_fetch.specs.declared.error.FetchError.{FetchError}
use Rattle.mc_fetch.specs.declared.peers.PeerView.{PeerView}
use Rattle.mc_fetch.specs.Frame.{AsksAt}
use Rattle.mc_fetch.specs.Offers.{IsLeading, listed}
use Rattle.mc_fetch.specs.Peers.{peer_places, onto_peers, places_of, told_at, peers_told, offers_told, offers_at, capped_with, faults_of, leading_told, onto_stored, PlaceIs, is_quiet, are_quiet, ViewGoes, ViewAsks}
use Rattle.mc_fetch.specs.Plants.{planted_at}
use Rattle.mc_fetch.specs.PeerLaws.{view_stays, views_stay}

pub offered_in_order : (peers : List PeerOffers) → listed (flat_map peer_places peers) ≡ offers_from None peers
offered_in_order [] = refl
offered_in_order (peer ∷ peers) =
    ap (λ rest. option_list peer.planted ++ (option_list peer.stored ++ rest)) (offered_in_order peers)
    ∙ sym (append_assoc (option_list peer.planted) (option_list peer.stored) (flat_map peer_list peers))

-- the place of a peer's planted offer, or of its stored one

abbrev at_place : Bool → PeerOffers → Option (List ℕ)
at_place planted peer = cond planted peer.planted peer.stored

first_place : (planted : Bool) (peer : PeerOffers) (rest : List (Option (List ℕ))) (bytes : Option (List ℕ)) → bytes ≡ at_place planted peer
    → slice_get (peer.planted ∷ peer.stored ∷ rest) (cond planted 0 1) ≡ Some bytes
first_place true peer rest bytes e = ap Some (sym e)
first_place false peer rest bytes e = ap Some (sym e)

later_place : (place k : ℕ) (a b : Option (List ℕ)) (rest : List (Option (List ℕ))) (offer : Option (Option (List ℕ))) → slice_get rest (2 * place + k) ≡ offer → slice_get (a ∷ b ∷ rest) (2 * suc place + k) ≡ offer
later_place place k a b rest offer e =
    let number : suc (suc (2 * place + k)) ≡ 2 * suc place + k = omega arith in
    subst (λ (z : ℕ). slice_get (a ∷ b ∷ rest) z ≡ offer) number e

abbrev Places : Option (List (Cid → PeerOffers)) → Cid → ℕ → Option (List ℕ) → Type 0
Places peers cid place bytes = IfSome (option_map places_of peers) (λ offered. slice_get (offered cid) place ≡ Some bytes)

here : (peer : Option (Cid → PeerOffers)) (peers : Option (List (Cid → PeerOffers))) (cid : Cid) (planted : Bool) (bytes : Option (List ℕ)) → IfSome peer (λ p. bytes ≡ at_place planted (p cid))
    → Places (onto_peers peer peers) cid (cond planted 0 1) bytes
here None peers cid planted bytes e = tt
here (Some peer) None cid planted bytes e = tt
here (Some peer) (Some peers) cid planted bytes e = first_place planted (peer cid) (places_of peers cid) bytes e

later : (peer : Option (Cid → PeerOffers)) (peers : Option (List (Cid → PeerOffers))) (cid : Cid) (place k : ℕ) (bytes : Option (List ℕ)) → Places peers cid (2 * place + k) bytes
    → Places (onto_peers peer peers) cid (2 * suc place + k) bytes
later None peers cid place k bytes e = tt
later (Some peer) None cid place k bytes e = tt
later (Some peer) (Some peers) cid place k bytes e = later_place place k (peer cid).planted (peer cid).stored (places_of peers cid) (Some bytes) e

-- what is known of a place of a peer, by what it has planted and stored
abbrev IsPlace : Option Kept → Cid → Option (List ℕ) → Bool → Option (List ℕ) → Type 0
IsPlace kept cid plant true bytes = bytes ≡ plant
IsPlace kept cid plant false bytes = IfSome kept (λ k. bytes ≡ bytes_at k.graph cid)

none_behind : (place k : ℕ) (planted offer : Option (List ℕ)) → slice_get (planted ∷ []) (2 * suc place + k) ≡ Some offer → ◌≡◌ {A = Option (Option (List ℕ))} None (Some offer)
none_behind place k planted offer at =
    let number : 2 * suc place + k ≡ suc (suc (2 * place + k)) = omega arith in
    subst (λ (z : ℕ). slice_get (planted ∷ []) z ≡ Some offer) number at

-- a place's number is that of its peer twice, and one more where it is the second
halves : (place : ℕ) → 2 * (place / 2) + cond (nat_eq (place % 2) 0) 0 1 ≡ place
halves place = grind (arith, nat_tests)

told_nothing : {A : Type 0} (told : Option A) → IfSome told (λ a. ⊤)
told_nothing None = tt
told_nothing (Some a) = tt

led_behind : (kept : Option Kept) (cid : Cid) (behind : List (Option (List ℕ))) (place k : ℕ) (planted bytes : Option (List ℕ)) → IsLeading behind (2 * place + k) bytes
    → IsLeading (planted ∷ onto_stored kept cid behind) (2 * suc place + k) bytes
led_behind None cid behind place k planted bytes is = λ offer at. absurd (true≢false (sym (ap is_some (none_behind place k planted offer at))))
led_behind (Some kept) cid behind place k planted bytes is =
    let number : suc (suc (2 * place + k)) ≡ 2 * suc place + k = omega arith in
    subst (λ (z : ℕ). IsLeading (planted ∷ bytes_at kept.graph cid ∷ behind) z bytes) number is

led_here : (kept : Option Kept) (cid : Cid) (behind : List (Option (List ℕ))) (planted : Bool) (plant bytes : Option (List ℕ)) → IsPlace kept cid plant planted bytes
    → IsLeading (plant ∷ onto_stored kept cid behind) (cond planted 0 1) bytes
led_here kept cid behind true plant bytes is = λ offer at. is ∙ ap (λ o. unwrap_or o plant) at
led_here None cid behind false plant bytes is = λ offer at. absurd (true≢false (sym (ap is_some at)))
led_here (Some kept) cid behind false plant bytes is = λ offer at. is ∙ ap (λ o. unwrap_or o (bytes_at kept.graph cid)) at

module _ {K Desk : Type 0} (told : K → Option Kept) where
  at_peer : (views : List (PeerView K Desk)) (place : ℕ) (view : PeerView K Desk) → slice_get views place ≡ Some view → (cid : Cid) (planted : Bool) (bytes : Option (List ℕ))
      → IfSome (told_at told view) (λ p. bytes ≡ at_place planted (p cid)) → Places (peers_told told views) cid (2 * place + cond planted 0 1) bytes
  at_peer [] place view is cid planted bytes e = absurd (true≢false (sym (ap is_some is)))
  at_peer (first ∷ views) zero view is cid planted bytes e =
      let number : cond planted 0 1 ≡ 2 * 0 + cond planted 0 1 = omega arith in
      subst (λ (z : ℕ). Places (peers_told told (first ∷ views)) cid z bytes) number
      (here (told_at told first) (peers_told told views) cid planted bytes (subst (λ (v : PeerView K Desk). IfSome (told_at told v) (λ p. bytes ≡ at_place planted (p cid))) (sym (ap (λ o. unwrap_or o first) is)) e))
  at_peer (first ∷ views) (suc place) view is cid planted bytes e =
      later (told_at told first) (peers_told told views) cid place (cond planted 0 1) bytes (at_peer views place view is cid planted bytes e)

  is_place : (planted : Bool) (view : PeerView K Desk) (cid : Cid) (bytes : Option (List ℕ)) → PlaceIs told planted view cid bytes → IsPlace (told view.keeper.now) cid (planted_at view.planted.now cid) planted bytes
  is_place true view cid bytes is = is
  is_place false view cid bytes is = is

  led_at : (views : List (PeerView K Desk)) (place : ℕ) (view : PeerView K Desk) → slice_get views place ≡ Some view → (cid : Cid) (planted : Bool) (bytes : Option (List ℕ)) → PlaceIs told planted view cid bytes
      → IsLeading (leading_told told cid views) (2 * place + cond planted 0 1) bytes
  led_at [] place view is cid planted bytes e = absurd (true≢false (sym (ap is_some is)))
  led_at (first ∷ views) zero view is cid planted bytes e =
      let number : cond planted 0 1 ≡ 2 * 0 + cond planted 0 1 = omega arith in
      subst (λ (z : ℕ). IsLeading (leading_told told cid (first ∷ views)) z bytes) number
      (led_here (told first.keeper.now) cid (leading_told told cid views) planted (planted_at first.planted.now cid) bytes
      (is_place planted first cid bytes (subst (λ (v : PeerView K Desk). PlaceIs told planted v cid bytes) (sym (ap (λ o. unwrap_or o first) is)) e)))
  led_at (first ∷ views) (suc place) view is cid planted bytes e =
      led_behind (told first.keeper.now) cid (leading_told told cid views) place (cond planted 0 1) (planted_at first.planted.now cid) bytes (led_at views place view is cid planted bytes e)

  pub offer_led : (views : List (PeerView K Desk)) (place : ℕ) (view : PeerView K Desk) → slice_get views (place / 2) ≡ Some view → (cid : Cid) (result : Result (Option (List ℕ)) FetchError)
      → IfOk result (PlaceIs told (nat_eq (place % 2) 0) view cid) → IfOk result (IsLeading (leading_told told cid views) place)
  offer_led views place view is cid (Ok bytes) e =
      subst (λ (z : ℕ). IsLeading (leading_told told cid views) z bytes) (halves place) (led_at views (place / 2) view is cid (nat_eq (place % 2) 0) bytes e)
  offer_led views place view is cid (Err error) e = tt

  pub offer_told : (views : List (PeerView K Desk)) (place : ℕ) (view : PeerView K Desk) → slice_get views (place / 2) ≡ Some view → (cid : Cid) (result : Result (Option (List ℕ)) FetchError)
      → IfSome (told_at told view) (λ p. IfOk result (λ bytes. bytes ≡ cond (nat_eq (place % 2) 0) (p cid).planted (p cid).stored))
      → IfSome (offers_told told views) (λ offered. IfOk result (λ bytes. slice_get (offered cid) place ≡ Some bytes))
  offer_told views place view is cid (Ok bytes) e =
      subst (λ (z : ℕ). Places (peers_told told views) cid z bytes) (halves place) (at_peer views (place / 2) view is cid (nat_eq (place % 2) 0) bytes e)
  offer_told views place view is cid (Err error) e = told_nothing (offers_told told views)

-- one view is another, and the others are as they were

module _ {K Desk : Type 0} (told : K → Option Kept) (quiet : K → Bool) (quiet_desk : Desk → Bool) (faults : Desk → ℕ) (desk_schedule : Desk → Option DeskSchedule) where
  abbrev Goes : PeerView K Desk → PeerView K Desk → Type 0
  Goes = ViewGoes quiet quiet_desk faults desk_schedule

  told_same : (old new : PeerView K Desk) → Goes old new → told_at told new ≡ told_at told old
  told_same old new goes = λ i. option_map (offers_at (goes.planted i).now) (told (goes.keeper i).now)

  first_is : (first view : PeerView K Desk) → ◌≡◌ {A = Option (PeerView K Desk)} (Some first) (Some view) → first ≡ view
  first_is first view is = ap (λ o. unwrap_or o first) is

  told_set : (views : List (PeerView K Desk)) (place : ℕ) (old new : PeerView K Desk) → slice_get views place ≡ Some old → Goes old new → peers_told told (set views place new) ≡ peers_told told views
  told_set [] place old new is goes = refl
  told_set (first ∷ views) zero old new is goes = ap (λ peer. onto_peers peer (peers_told told views)) (told_same old new goes ∙ sym (ap (told_at told) (first_is first old is)))
  told_set (first ∷ views) (suc place) old new is goes = ap (onto_peers (told_at told first)) (told_set views place old new is goes)

  onto_same : (cid : Cid) (old new : PeerView K Desk) (behind : List (Option (List ℕ))) → Goes old new
      → planted_at new.planted.now cid ∷ onto_stored (told new.keeper.now) cid behind ≡ planted_at old.planted.now cid ∷ onto_stored (told old.keeper.now) cid behind
  onto_same cid old new behind goes = λ i. planted_at (goes.planted i).now cid ∷ onto_stored (told (goes.keeper i).now) cid behind

  led_set : (cid : Cid) (views : List (PeerView K Desk)) (place : ℕ) (old new : PeerView K Desk) → slice_get views place ≡ Some old → Goes old new → leading_told told cid (set views place new) ≡ leading_told told cid views
  led_set cid [] place old new is goes = refl
  led_set cid (first ∷ views) zero old new is goes =
      onto_same cid first new (leading_told told cid views) (subst (λ (view : PeerView K Desk). Goes view new) (sym (first_is first old is)) goes)
  led_set cid (first ∷ views) (suc place) old new is goes =
      ap (λ behind. planted_at first.planted.now cid ∷ onto_stored (told first.keeper.now) cid behind) (led_set cid views place old new is goes)

  stays_quiet : (old new : PeerView K Desk) → Goes old new → is_quiet quiet quiet_desk old ≡ true → is_quiet quiet quiet_desk new ≡ true
  stays_quiet old new goes q =
      let parts = and_parts (quiet old.keeper.now) (quiet_desk old.desk) q in
      and_from _ _ (ap (λ keeper. quiet keeper.now) goes.keeper ∙ parts.0) (goes.still_quiet parts.0 parts.1).0

  quiet_set : (views : List (PeerView K Desk)) (place : ℕ) (old new : PeerView K Desk) → slice_get views place ≡ Some old → Goes old new → are_quiet quiet quiet_desk views ≡ true → are_quiet quiet quiet_desk (set views place new) ≡ true
  quiet_set [] place old new is goes q = q
  quiet_set (first ∷ views) zero old new is goes q =
      let parts = and_parts (is_quiet quiet quiet_desk first) (are_quiet quiet quiet_desk views) q in
      and_from _ _ (stays_quiet old new goes (ap (is_quiet quiet quiet_desk) (sym (first_is first old is)) ∙ parts.0)) parts.1
  quiet_set (first ∷ views) (suc place) old new is goes q =
      let parts = and_parts (is_quiet quiet quiet_desk first) (are_quiet quiet quiet_desk views) q in
      and_from _ _ parts.0 (quiet_set views place old new is goes parts.1)

  quiet_at : (views : List (PeerView K Desk)) (place : ℕ) (view : PeerView K Desk) → slice_get views place ≡ Some view → are_quiet quiet quiet_desk views ≡ true → is_quiet quiet quiet_desk view ≡ true
  quiet_at [] place view is q = absurd (true≢false (sym (ap is_some is)))
  quiet_at (first ∷ views) zero view is q = ap (is_quiet quiet quiet_desk) (sym (first_is first view is)) ∙ (and_parts (is_quiet quiet quiet_desk first) (are_quiet quiet quiet_desk views) q).0
  quiet_at (first ∷ views) (suc place) view is q = quiet_at views place view is (and_parts (is_quiet quiet quiet_desk first) (are_quiet quiet quiet_desk views) q).1

  goes_set : (views : List (PeerView K Desk)) (place : ℕ) (old new : PeerView K Desk) → slice_get views place ≡ Some old → Goes old new → AllZip Goes views (set views place new)
  goes_set [] place old new is goes = tt
  goes_set (first ∷ views) zero old new is goes = (subst (λ (view : PeerView K Desk). Goes view new) (sym (first_is first old is)) goes, views_stay quiet quiet_desk faults desk_schedule views)
  goes_set (first ∷ views) (suc place) old new is goes = (view_stays quiet quiet_desk faults desk_schedule first, goes_set views place old new is goes)

  count_set : (views : List (PeerView K Desk)) (place : ℕ) (old new : PeerView K Desk) (failed : Bool) → slice_get views place ≡ Some old → CountGoes failed (faults old.desk) (faults new.desk)
      → CountGoes failed (faults_of faults views) (faults_of faults (set views place new))
  count_set views place old new failed is goes =
      let count : PeerView K Desk → ℕ = λ view. faults view.desk in
      let within = slice_get_within views place old is in
      let sum = sum_by-set count views place new old within in
      let part = get_or-le-sum_by count views place old within in
      let same = ap count (get_or_from_slice_get views place old old is) in
      let up = goes.later in
      record {
        later = omega (arith, sum, part, same, up);
        still = λ f. let still = goes.still f in omega (arith, sum, part, same, still);
        rose = λ f. let rose = goes.rose f in omega (arith, sum, part, same, rose);
      }

  -- one call of one of them
  pub asks_set : (views : List (PeerView K Desk)) (place : ℕ) (old new : PeerView K Desk) (failed : Bool) → slice_get views place ≡ Some old → ViewAsks quiet quiet_desk faults desk_schedule failed old new
      → AsksAt (offers_told told) (λ (views : List (PeerView K Desk)) (cid : Cid). leading_told told cid views) (λ (views : List (PeerView K Desk)). 2 * length views) (are_quiet quiet quiet_desk) (faults_of faults) (AllZip Goes) failed views (set views place new)
  asks_set views place old new failed is asks = record {
    offers_same = ap (option_map places_of) (told_set views place old new is asks.goes);
    leading_same = λ i cid. led_set cid views place old new is asks.goes i;
    places_same = ap (λ (n : ℕ). 2 * n) (length-set views place new);
    faults_go = count_set views place old new failed is asks.count;
    still_quiet = quiet_set views place old new is asks.goes;
    calm = λ q. let parts = and_parts (quiet old.keeper.now) (quiet_desk old.desk) (quiet_at views place old is q) in asks.calm parts.0 parts.1;
    followed = goes_set views place old new is asks.goes;
  }

-- the counts of desks, one after the other, are their sum

least_twice : (a x most : ℕ) → min (min a most + x) most ≡ min (a + x) most
least_twice a x most = grind (arith, nat_tests)

module _ {K Desk : Type 0} (faults : Desk → ℕ) where
  abbrev plus : ℕ → PeerView K Desk → ℕ
  plus count view = count + faults view.desk

  fold_least : (views : List (PeerView K Desk)) (a : ℕ) → fold (capped_with faults) (min a (2 ^ 64 - 1)) views ≡ min (fold plus a views) (2 ^ 64 - 1)
  fold_least [] a = refl
  fold_least (view ∷ views) a =
      ap (λ (z : ℕ). fold (capped_with faults) z views) (least_twice a (faults view.desk) (2 ^ 64 - 1)) ∙ fold_least views (a + faults view.desk)

  pub fold_capped : (views : List (PeerView K Desk)) → fold (capped_with faults) 0 views ≡ faults_of faults views
  fold_capped views = fold_least views 0
