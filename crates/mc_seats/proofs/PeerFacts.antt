-- What is asked of peers, one after another.
use Rattle.std.proofs.Common.{◌≡◌, ℕ, zero, suc, ◌+◌, ◌-◌, ◌^◌, ◌≤◌, ◌<◌, arith, Bool, true, false, cond, ◌&&◌, List, [], ◌∷◌, ◌++◌, append-nil, get_or, length, map, set, drop, Option, Some, None, Result, Ok, Err, refl, sym, ap, ◌∙◌, subst}
use Rattle.std.specs.Prelude.{IfOk, IfSome, is_some, min, nat_eq, slice_get, unwrap_or, find}
use Rattle.std.specs.List.{AllZip, flat_map, list_all, sum_by}
use Rattle.std.specs.Str.{bytes_eq}
use Rattle.std.specs.Option.{option_map, option_or}
use Rattle.std.proofs.Math.ListN.{drop_of_length-le}
use Rattle.std.proofs.Math.Seq.{drop-cons}
use Rattle.std.proofs.lemmas.Bool.{and_parts, and_from, eqb-true}
use Rattle.std.proofs.lemmas.List.{length-map}
use Rattle.std.proofs.lemmas.List.Folds.{find-append}
use Rattle.std.proofs.lemmas.List.Sums.{sum_by-cons}
use Rattle.std.proofs.lemmas.Option.{get_or_from_slice_get, slice_get-map, slice_get_read, slice_get_within}
use Rattle.mc_base.specs.Causes.{Rose}
use Rattle.mc_base.specs.Cid.{digest_of}
use Rattle.mc_base.specs.declared.cid.Cid.{Cid}
use Rattle.mc_base.specs.declared.counted.Counted as counted
use Rattle.mc_fetch.specs.declared.error.FetchError.{FetchError}
use Rattle.mc_fetch.specs.declared.peers.PeerView.{PeerView}
use Rattle.mc_fetch.specs.declared.plants.Planted.{Planted}
use Rattle.mc_fetch.specs.Offers.{first_offer, listed, matching}
use Rattle.mc_fetch.specs.Plants.{planted_at}
use Rattle.mc_fetch.specs.Peers.{ViewGoes, faults_of, offers_at, offers_told, onto_peers, peer_places, places_of}
use Rattle.mc_keep.specs.Calls.{Members}
use Rattle.mc_keep.specs.Causes.{CountGoes}
use Rattle.mc_keep.specs.declared.keeper.Keeper as keeper
use Rattle.mc_model.specs.Found.{PeerOffers, found_bytes, offers_from, option_list, peer_list}
use Rattle.mc_model.specs.Kept.{Kept, bytes_at}
use Rattle.mc_seats.specs.declared.links.Link.{Link}
use Rattle.mc_seats.specs.declared.seat.Held.{Held}
use Rattle.mc_seats.specs.declared.seat.Held.TheVariants.{Up, Down}
use Rattle.mc_seats.specs.declared.seat.Seat.{Seat}
use Rattle.mc_seats.specs.Desked.{is_desked, is_full_list}
use Rattle.mc_seats.specs.Fetching.{Decides, IsFoundIn, all_tell, first_in_front, front_offers, onto_front, planted_alone}
use Rattle.mc_seats.specs.Keepers.{desk_count, is_calm_desk, is_calm_keeper, keeper_in, keeper_of}
use Rattle.mc_seats.specs.Record.{RoseIn}
use Rattle.mc_seats.specs.StepParts.{AllDesksGo, DesksAsk, DesksGo, IsOffered, IsOfferedAt, IsOfferedBy, IsToldAt, PeerFailed, are_calm, desks_in_views, is_peer_at, peers_among}
use Rattle.mc_seats.specs.Words.{place}
use Rattle.mc_seats.specs.Worlds.{Place, is_marked, peer_row, picked, place_with}
use Rattle.mc_seats.proofs.BeginFacts.{never}
use Rattle.mc_seats.proofs.StayFacts.{list_stays, list_then}

-- what one peer offers

offered_alone : (told : Option Kept) (planted : List Planted) (cid : Cid) (bytes : Option (List ℕ)) → IfSome (option_map places_of (onto_peers (option_map (offers_at planted) told) (Some []))) (λ offered. bytes ≡ first_offer cid (offered cid))
    → IfSome told (λ kept. bytes ≡ first_offer cid (peer_places (offers_at planted kept cid)))
offered_alone None planted cid bytes is = tt
offered_alone (Some kept) planted cid bytes is = is

module _ {K D : Type 0} (k : Members K D) where
  pub offered_one : (keeper : K) (planted : List Planted) (cid : Cid) (views : List (PeerView K D)) (view : PeerView K D) (result : Result (Option (List ℕ)) FetchError) → views ≡ view ∷ [] → view.keeper.now ≡ keeper → view.planted.now ≡ planted
      → IfSome (offers_told k.told views) (λ offered. IfOk result (λ bytes. bytes ≡ first_offer cid (offered cid))) → IfOk result (IsToldAt k keeper planted cid)
  offered_one keeper planted cid views view (Err error) is at there found = tt
  offered_one keeper planted cid views view (Ok bytes) is at there found =
      offered_alone (k.told keeper) planted cid bytes
      (subst (λ (ps : List Planted). IfSome (option_map places_of (onto_peers (option_map (offers_at ps) (k.told keeper)) (Some []))) (λ offered. bytes ≡ first_offer cid (offered cid))) there
      (subst (λ (x : K). IfSome (option_map places_of (onto_peers (option_map (offers_at view.planted.now) (k.told x)) (Some []))) (λ offered. bytes ≡ first_offer cid (offered cid))) at
      (subst (λ (vs : List (PeerView K D)). IfSome (offers_told k.told vs) (λ offered. bytes ≡ first_offer cid (offered cid))) is found)))

  -- a call through the first of some desks

  module _ (desk_faults : D → ℕ) where
    abbrev Goes : PeerView K D → PeerView K D → Type 0
    Goes = ViewGoes k.quiet k.quiet_desk desk_faults k.desk_schedule

    rose_first : (before now rest old new : ℕ) → before ≤ now → old ≡ before + rest → new ≡ now + rest → Rose (min (0 + before) (2 ^ 64 - 1)) (min (0 + now) (2 ^ 64 - 1)) → Rose old new
    rose_first before now rest old new later is is_new rose = grind (arith, later, is, is_new, rose)

    asked_view : (quiet failed : Bool) (old new : PeerView K D) (rest : List D) → k.quiet old.keeper.now ≡ quiet → Goes old new → CountGoes failed (faults_of desk_faults (old ∷ [])) (faults_of desk_faults (new ∷ []))
        → DesksAsk k desk_faults quiet failed (old.desk ∷ rest) (new.desk ∷ rest)
    asked_view quiet failed old new rest is goes counts = record {
      goes = record {
        each = (record { later = goes.later; plan = goes.plan }, list_stays k desk_faults rest);
        full = λ e. e;
        later = let later = goes.later in let was = sum_by-cons desk_faults old.desk rest in let now = sum_by-cons desk_faults new.desk rest in omega (arith, later, was, now);
        calm = λ q all.
            let parts = and_parts (is_calm_desk k desk_faults old.desk) (list_all (is_calm_desk k desk_faults) rest) all in
            let calm = and_parts (k.quiet_desk old.desk) (nat_eq (desk_faults old.desk) 0) parts.0 in
            let still = goes.still_quiet (is ∙ q) calm.0 in
            and_from _ _ (and_from _ _ still.0 (ap (λ n. nat_eq n 0) still.1 ∙ calm.1)) parts.1;
      };
      rose = λ f. rose_first (desk_faults old.desk) (desk_faults new.desk) (sum_by desk_faults rest) _ _ goes.later (sum_by-cons desk_faults old.desk rest) (sum_by-cons desk_faults new.desk rest) (counts.rose f);
    }

    asked_all : (quiet failed : Bool) (view : PeerView K D) (left : List (PeerView K D)) (desk : D) (rest : List D) → k.quiet view.keeper.now ≡ quiet → AllZip Goes (view ∷ []) left → CountGoes failed (faults_of desk_faults (view ∷ [])) (faults_of desk_faults left)
        → desks_in_views left ≡ desk ∷ [] → DesksAsk k desk_faults quiet failed (view.desk ∷ rest) (desk ∷ rest)
    asked_all quiet failed view [] desk rest is goes counts desks = absurd goes
    asked_all quiet failed view (new ∷ []) desk rest is goes counts desks =
        subst (λ (d : D). DesksAsk k desk_faults quiet failed (view.desk ∷ rest) (d ∷ rest)) (ap (λ l. unwrap_or (slice_get l 0) desk) desks) (asked_view quiet failed view new rest is goes.0 counts)
    asked_all quiet failed view (new ∷ more ∷ others) desk rest is goes counts desks = absurd goes.1

    pub asked_one : (keeper : K) (failed : Bool) (views left : List (PeerView K D)) (view : PeerView K D) (desk : D) (rest olds news : List D) → views ≡ view ∷ [] → view.keeper.now ≡ keeper → AllZip Goes views left
        → CountGoes failed (faults_of desk_faults views) (faults_of desk_faults left) → desks_in_views left ≡ desk ∷ [] → olds ≡ view.desk ∷ rest → news ≡ desk ∷ rest → DesksAsk k desk_faults (k.quiet keeper) failed olds news
    asked_one keeper failed views left view desk rest olds news is at goes counts desks old new =
        subst (λ (l : List D). DesksAsk k desk_faults (k.quiet keeper) failed l news) (sym old)
        (subst (λ (l : List D). DesksAsk k desk_faults (k.quiet keeper) failed (view.desk ∷ rest) l) (sym new)
        (asked_all (k.quiet keeper) failed view left desk rest (ap k.quiet at) (subst (λ vs. AllZip Goes vs left) is goes) (subst (λ vs. CountGoes failed (faults_of desk_faults vs) (faults_of desk_faults left)) is counts) desks))

    -- no call was made
    pub ask_none : (quiet : Bool) (desks : List D) → DesksAsk k desk_faults quiet false desks desks
    ask_none quiet desks = record { goes = record { each = list_stays k desk_faults desks; full = λ e. e; later = omega arith; calm = λ q all. all }; rose = λ f. never (sym f) }

-- What is found among the places from this number on.
abbrev pub Finds : List Link → ℕ → ℕ → Cid → List Place → Option (List ℕ) → Type 0
Finds down r number cid places found = IsFoundIn None (picked (peer_row down r number places) places) cid found

abbrev with_digest : Cid → List ℕ → Bool
with_digest cid bytes = bytes_eq (digest_of bytes) cid.0

same_list : (peer : PeerOffers) → listed (peer_places peer) ≡ peer_list peer
same_list peer = ap (λ l. option_list peer.planted ++ l) (append-nil (option_list peer.stored))

first_then : (cid : Cid) (peer : PeerOffers) (peers : List PeerOffers) → found_bytes (offers_from None (peer ∷ peers)) cid ≡ option_or (first_offer cid (peer_places peer)) (found_bytes (offers_from None peers) cid)
first_then cid peer peers =
    find-append (with_digest cid) (peer_list peer) (flat_map peer_list peers) ∙ ap (λ l. option_or (find (with_digest cid) l) (find (with_digest cid) (flat_map peer_list peers))) (sym (same_list peer))

-- what is planted is asked for first

first_is : (cid : Cid) (bytes : List ℕ) (more : List (Option (List ℕ))) → first_offer cid (Some bytes ∷ more) ≡ option_or (matching cid (Some bytes)) (first_offer cid more)
first_is cid bytes more = elim (with_digest cid bytes) as (λ t. cond t (Some bytes) (first_offer cid more) ≡ option_or (cond t (Some bytes) None) (first_offer cid more)) [
  | true ↦ refl
  | false ↦ refl
]

planted_first : (cid : Cid) (planted : Option (List ℕ)) (more : List (Option (List ℕ))) → first_offer cid (planted ∷ more) ≡ option_or (matching cid planted) (first_offer cid more)
planted_first cid None more = refl
planted_first cid (Some bytes) more = first_is cid bytes more

pub offered_planted : (content : Option Kept) (planted : List Planted) (cid : Cid) (bytes : List ℕ) → Some bytes ≡ matching cid (planted_at planted cid) → IsOffered planted content cid (Some bytes)
offered_planted None planted cid bytes is =
    subst (λ (o : Option (List ℕ)). Decides o false (Some bytes)) (ap (λ (o : Option (List ℕ)). option_or o None) is ∙ sym (planted_first cid (planted_at planted cid) (None ∷ []))) refl
offered_planted (Some kept) planted cid bytes is = let stored = bytes_at kept.graph cid in
    ap (λ (o : Option (List ℕ)). option_or o (first_offer cid (stored ∷ []))) is ∙ sym (planted_first cid (planted_at planted cid) (stored ∷ []))

pub asks_unplanted : {E : Type 0} (content : Option Kept) (planted : List Planted) (cid : Cid) (result : Result (Option (List ℕ)) E) → matching cid (planted_at planted cid) ≡ None → IfOk result (λ found. IfSome content (λ kept. found ≡ first_offer cid (peer_places (offers_at planted kept cid)))) → IfOk result (λ found. IsOffered planted content cid found)
asks_unplanted content planted cid (Err error) none offered = tt
asks_unplanted None planted cid (Ok found) none offered = subst (λ (o : Option (List ℕ)). Decides o false found) (ap (λ (o : Option (List ℕ)). option_or o None) (sym none) ∙ sym (planted_first cid (planted_at planted cid) (None ∷ []))) tt
asks_unplanted (Some kept) planted cid (Ok found) none offered = offered

module _ (down : List Link) (r : ℕ) (cid : Cid) where
  -- one that r doesn't fetch from
  finds_past : (number : ℕ) (p : Place) (places : List Place) (found : Option (List ℕ)) → is_peer_at down r number p ≡ false → Finds down r (number + 1) cid places found → Finds down r number cid (p ∷ places) found
  finds_past number p places found is found_is =
      subst (λ (mark : Bool). IsFoundIn None (picked (mark ∷ peer_row down r (number + 1) places) (p ∷ places)) cid found) (sym is) found_is

  -- one that it fetches from
  finds_here : (number : ℕ) (p : Place) (places : List Place) (found : Option (List ℕ)) → is_peer_at down r number p ≡ true → IsFoundIn None (p ∷ picked (peer_row down r (number + 1) places) places) cid found → Finds down r number cid (p ∷ places) found
  finds_here number p places found is found_is =
      subst (λ (mark : Bool). IsFoundIn None (picked (mark ∷ peer_row down r (number + 1) places) (p ∷ places)) cid found) (sym is) found_is

  abbrev Offers : Place → Option (List ℕ) → Type 0
  Offers p bytes = IsOffered p.planted p.content cid bytes

  -- in front of others, one that tells decides where it offers the block, and else they do
  -- what is planted at one that is silent is found where it has the digest, and else anything may be
  silent_in : (front bytes rest found : Option (List ℕ)) (tell : Bool) → Decides front false bytes → Decides (option_or bytes rest) tell found → Decides (option_or front None) false found
  silent_in None bytes rest found tell offered is = tt
  silent_in (Some front) bytes rest found tell offered is = subst (λ (o : Option (List ℕ)). Decides (option_or o rest) tell found) offered is

  offers_in : (planted : List Planted) (content : Option Kept) (peers : List Place) (bytes found : Option (List ℕ)) → IsOffered planted content cid bytes → Decides (option_or bytes (first_in_front None peers cid)) (all_tell peers) found
      → Decides (found_bytes (offers_from None (map (λ (offers : Cid → PeerOffers). offers cid) (onto_front planted content (front_offers peers)))) cid) (is_some content && all_tell peers) found
  offers_in planted None peers bytes found offered is =
      subst (λ (x : Option (List ℕ)). Decides x false found) (sym (first_then cid (planted_alone planted cid) []))
      (silent_in (first_offer cid (peer_places (planted_alone planted cid))) bytes (first_in_front None peers cid) found (all_tell peers) offered is)
  offers_in planted (Some kept) peers bytes found offered is =
      subst (λ (x : Option (List ℕ)). Decides x (all_tell peers) found)
      (ap (λ (o : Option (List ℕ)). option_or o (first_in_front None peers cid)) offered ∙ sym (first_then cid (offers_at planted kept cid) (map (λ (offers : Cid → PeerOffers). offers cid) (front_offers peers)))) is

  onto_none : (p : Place) (peers : List Place) (found : Option (List ℕ)) → Offers p None → IsFoundIn None peers cid found → IsFoundIn None (p ∷ peers) cid found
  onto_none p peers found none is = offers_in p.planted p.content peers None found none is

  onto_some : (p : Place) (peers : List Place) (bytes : List ℕ) → Offers p (Some bytes) → IsFoundIn None (p ∷ peers) cid (Some bytes)
  onto_some p peers bytes some = offers_in p.planted p.content peers (Some bytes) (Some bytes) some refl

  -- so far nothing was found: what is found from here on is what is found
  abbrev pub SoFar : List Place → ℕ → Type 0
  SoFar places at = (found : Option (List ℕ)) → Finds down r at cid (drop at places) found → Finds down r 0 cid places found

  drop_at : (places : List Place) (at : ℕ) (p : Place) → slice_get places at ≡ Some p → drop at places ≡ p ∷ drop (at + 1) places
  drop_at places at p is =
      drop-cons places at p (slice_get_within places at p is) ∙ ap (λ q. q ∷ drop (suc at) places) (get_or_from_slice_get places at p p is) ∙ ap (λ n. p ∷ drop n places) (let number : suc at ≡ at + 1 = omega arith in number)

  at_here : (places : List Place) (at : ℕ) (p : Place) (found : Option (List ℕ)) → slice_get places at ≡ Some p → Finds down r at cid (p ∷ drop (at + 1) places) found → Finds down r at cid (drop at places) found
  at_here places at p found is here = subst (λ (l : List Place). Finds down r at cid l found) (sym (drop_at places at p is)) here

  pub so_far_past : (places : List Place) (at : ℕ) (p : Place) → slice_get places at ≡ Some p → is_peer_at down r at p ≡ false → SoFar places at → SoFar places (at + 1)
  so_far_past places at p is out so_far found rest = so_far found (at_here places at p found is (finds_past at p (drop (at + 1) places) found out rest))

  pub so_far_none : (places : List Place) (at : ℕ) (p : Place) → slice_get places at ≡ Some p → is_peer_at down r at p ≡ true → Offers p None → SoFar places at → SoFar places (at + 1)
  so_far_none places at p is mark none so_far found rest =
      so_far found (at_here places at p found is (finds_here at p (drop (at + 1) places) found mark (onto_none p (picked (peer_row down r (at + 1) (drop (at + 1) places)) (drop (at + 1) places)) found none rest)))

  pub so_far_some : (places : List Place) (at : ℕ) (p : Place) (bytes : List ℕ) → slice_get places at ≡ Some p → is_peer_at down r at p ≡ true → Offers p (Some bytes) → SoFar places at → IsOfferedBy (peers_among down r places) cid (Some bytes)
  so_far_some places at p bytes is mark some so_far =
      so_far (Some bytes) (at_here places at p (Some bytes) is (finds_here at p (drop (at + 1) places) (Some bytes) mark (onto_some p (picked (peer_row down r (at + 1) (drop (at + 1) places)) (drop (at + 1) places)) bytes some)))

  pub so_far_all : (places : List Place) (at : ℕ) → length places ≤ at → SoFar places at → IsOfferedBy (peers_among down r places) cid None
  so_far_all places at end so_far = so_far None (subst (λ (l : List Place). Finds down r at cid l None) (sym (drop_of_length-le places end)) refl)

  -- the mark of a place
  marked : (number at : ℕ) (places : List Place) (p : Place) → slice_get places at ≡ Some p → slice_get (peer_row down r number places) at ≡ Some (is_peer_at down r (number + at) p)
  marked number at [] p is = never (sym (ap is_some is))
  marked number zero (q ∷ places) p is = ap Some (ap (λ (s : Place). is_peer_at down r number s) (ap (λ o. unwrap_or o q) is) ∙ ap (λ n. is_peer_at down r n p) (let same : number ≡ number + 0 = omega arith in same))
  marked number (suc at) (q ∷ places) p is = marked (number + 1) at places p is ∙ ap (λ n. Some (is_peer_at down r n p)) (let same : number + 1 + at ≡ number + suc at = omega arith in same)

  pub marked_at : (at : ℕ) (places : List Place) (p : Place) → slice_get places at ≡ Some p → is_peer_at down r at p ≡ true → is_marked (peer_row down r 0 places) at ≡ true
  marked_at at places p is mark = ap (λ o. unwrap_or o false) (marked 0 at places p is) ∙ ap (λ n. is_peer_at down r n p) (let same : 0 + at ≡ at = omega arith in same) ∙ mark

-- the desks of all

module _ {K D : Type 0} (k : Members K D) (desk_faults : D → ℕ) where
  go_none : (quiet : Bool) (desks : List D) → DesksGo k desk_faults quiet desks desks
  go_none quiet desks = record { each = list_stays k desk_faults desks; full = λ e. e; later = omega arith; calm = λ q all. all }

  go_then : (quiet : Bool) (old mid new : List D) → DesksGo k desk_faults quiet old mid → DesksGo k desk_faults quiet mid new → DesksGo k desk_faults quiet old new
  go_then quiet old mid new p q = record {
    each = list_then k desk_faults old mid new p.each q.each;
    full = λ e. q.full (p.full e);
    later = omega (arith, p.later, q.later);
    calm = λ e all. q.calm e (p.calm e all);
  }

  pub go_quiet : (quiet quiet2 : Bool) (old new : List D) → (quiet2 ≡ true → quiet ≡ true) → DesksGo k desk_faults quiet old new → DesksGo k desk_faults quiet2 old new
  go_quiet quiet quiet2 old new more p = record { each = p.each; full = p.full; later = p.later; calm = λ e all. p.calm (more e) all }

  pub all_still : (quiet : Bool) (desks : List (List D)) → AllDesksGo k desk_faults quiet desks desks
  all_still quiet [] = tt
  all_still quiet (list ∷ desks) = (go_none quiet list, all_still quiet desks)

  pub all_set : (quiet : Bool) (olds news : List (List D)) (at : ℕ) (mid new : List D) → AllDesksGo k desk_faults quiet olds news → slice_get news at ≡ Some mid → DesksGo k desk_faults quiet mid new → AllDesksGo k desk_faults quiet olds (set news at new)
  all_set quiet [] [] at mid new goes is go = tt
  all_set quiet [] (n ∷ news) at mid new goes is go = absurd goes
  all_set quiet (o ∷ olds) [] at mid new goes is go = absurd goes
  all_set quiet (o ∷ olds) (n ∷ news) zero mid new goes is go = (go_then quiet o n new goes.0 (subst (λ (l : List D). DesksGo k desk_faults quiet l new) (sym (ap (λ s. unwrap_or s n) is)) go), goes.1)
  all_set quiet (o ∷ olds) (n ∷ news) (suc at) mid new goes is go = (goes.0, all_set quiet olds news at mid new goes.1 is go)

  rose_desks : (first before now : ℕ) → first ≤ before → Rose before now → Rose (min first (2 ^ 64 - 1)) (min now (2 ^ 64 - 1))
  rose_desks first before now later rose = grind (arith, later, rose)

  pub all_rose : (quiet : Bool) (olds news : List (List D)) (at : ℕ) (mid new : List D) → AllDesksGo k desk_faults quiet olds news → slice_get news at ≡ Some mid → Rose (sum_by desk_faults mid) (sum_by desk_faults new)
      → RoseIn (desk_count desk_faults) olds (set news at new) at
  all_rose quiet [] [] at mid new goes is rose = never (sym (ap is_some is))
  all_rose quiet [] (n ∷ news) at mid new goes is rose = absurd goes
  all_rose quiet (o ∷ olds) [] at mid new goes is rose = absurd goes
  all_rose quiet (o ∷ olds) (n ∷ news) zero mid new goes is rose =
      rose_desks (sum_by desk_faults o) (sum_by desk_faults n) (sum_by desk_faults new) goes.0.later (subst (λ (l : List D). Rose (sum_by desk_faults l) (sum_by desk_faults new)) (sym (ap (λ s. unwrap_or s n) is)) rose)
  all_rose quiet (o ∷ olds) (n ∷ news) (suc at) mid new goes is rose = all_rose quiet olds news at mid new goes.1 is rose

  all_full : (quiet : Bool) (olds news : List (List D)) → AllDesksGo k desk_faults quiet olds news → list_all is_full_list olds ≡ true → list_all is_full_list news ≡ true
  all_full quiet [] [] goes all = refl
  all_full quiet [] (n ∷ news) goes all = absurd goes
  all_full quiet (o ∷ olds) [] goes all = absurd goes
  all_full quiet (o ∷ olds) (n ∷ news) goes all =
      let parts = and_parts (is_full_list o) (list_all is_full_list olds) all in
      and_from _ _ (goes.0.full parts.0) (all_full quiet olds news goes.1 parts.1)

  all_long : (quiet : Bool) (olds news : List (List D)) → AllDesksGo k desk_faults quiet olds news → length olds ≡ length news
  all_long quiet [] [] goes = refl
  all_long quiet [] (n ∷ news) goes = absurd goes
  all_long quiet (o ∷ olds) [] goes = absurd goes
  all_long quiet (o ∷ olds) (n ∷ news) goes = ap suc (all_long quiet olds news goes.1)

  -- each replica has its desks again
  pub still_desked : (quiet : Bool) (count : ℕ) (olds news : List (List D)) → AllDesksGo k desk_faults quiet olds news → is_desked count olds ≡ true → is_desked count news ≡ true
  still_desked quiet count olds news goes desked =
      let parts = and_parts (nat_eq count (length olds)) (list_all is_full_list olds) desked in
      and_from _ _ (ap (λ n. nat_eq count n) (sym (all_long quiet olds news goes)) ∙ parts.0) (all_full quiet olds news goes parts.1)

-- of a list all of which pass, each one does
pub each_passes : {A : Type 0} (test : A → Bool) (xs : List A) (at : ℕ) (x : A) → list_all test xs ≡ true → slice_get xs at ≡ Some x → test x ≡ true
each_passes test [] at x all is = never (sym (ap is_some is))
each_passes test (y ∷ xs) zero x all is = ap test (sym (ap (λ o. unwrap_or o y) is)) ∙ (and_parts (test y) (list_all test xs) all).0
each_passes test (y ∷ xs) (suc at) x all is = each_passes test xs at x (and_parts (test y) (list_all test xs) all).1 is

pub desked_parts : {D : Type 0} (count : ℕ) (desks : List (List D)) → is_desked count desks ≡ true → (count ≡ length desks) × (list_all is_full_list desks ≡ true)
desked_parts count desks desked = let parts = and_parts (nat_eq count (length desks)) (list_all is_full_list desks) desked in (eqb-true count (length desks) parts.0, parts.1)

-- a replica whose keeper is calm
pub quiet_at : {K D : Type 0} {g : keeper.Ghosts K D} {h : counted.Ghosts K} {i : counted.Ghosts D} (k : Members K D) (seats : List (Seat K D g h i)) (at : ℕ) (seat : Seat K D g h i) → slice_get seats at ≡ Some seat
    → are_calm k seats ≡ true → k.quiet (keeper_of seat) ≡ true
quiet_at {K = K} {D = D} {g = g} {h = h} {i = i} k seats at seat is all =
    (and_parts (k.quiet (keeper_of seat)) (nat_eq (k.own (keeper_of seat)) 0) (each_passes (λ (seat : Seat K D g h i). is_calm_keeper k (keeper_of seat)) seats at seat all is)).0

-- Those before this one were asked, and nothing was found.
pub record IsAsking {K D : Type 0} {g : keeper.Ghosts K D} {h : counted.Ghosts K} {i : counted.Ghosts D} (k : Members K D) (desk_faults : D → ℕ) (down : List Link) (r : ℕ) (cid : Cid)
    (seats : List (Seat K D g h i)) (olds news : List (List D)) (at : ℕ) : Type 0 where
  pub goes : AllDesksGo k desk_faults (are_calm k seats) olds news
  pub desked : is_desked (length seats) news ≡ true
  pub so_far : SoFar down r cid (map (place k) seats) at

-- What is told at a replica in its seat, and planted there.

content_of : {K D : Type 0} {g : keeper.Ghosts K D} {h : counted.Ghosts K} {i : counted.Ghosts D} (k : Members K D) (planted : List Planted) (held : Held K D g h i) → (place_with k.told k.fuse planted held).content ≡ k.told (keeper_in held)
content_of k planted (Up replica) = refl
content_of k planted (Down idle) = refl

planted_of : {K D : Type 0} {g : keeper.Ghosts K D} {h : counted.Ghosts K} {i : counted.Ghosts D} (k : Members K D) (planted : List Planted) (held : Held K D g h i) → (place_with k.told k.fuse planted held).planted ≡ planted
planted_of k planted (Up replica) = refl
planted_of k planted (Down idle) = refl

module _ {K D : Type 0} {g : keeper.Ghosts K D} {h : counted.Ghosts K} {i : counted.Ghosts D} (k : Members K D) (desk_faults : D → ℕ) (down : List Link) (r : ℕ) (cid : Cid) (seats : List (Seat K D g h i)) (olds news : List (List D)) (at : ℕ) where
  abbrev Places : List Place
  Places = map (place k) seats

  abbrev Asking : List (List D) → ℕ → Type 0
  Asking = IsAsking k desk_faults down r cid seats olds

  -- none is asked yet
  pub asking_starts : is_desked (length seats) olds ≡ true → Asking olds 0
  asking_starts desked = record { goes = all_still k desk_faults (are_calm k seats) olds; desked = desked; so_far = λ found is. is }

  module _ (asking : Asking news at) where
    pub asking_ends : length seats ≤ at → IsOfferedBy (peers_among down r Places) cid None
    asking_ends end = so_far_all down r cid Places at (let long = length-map seats (place k) in omega (arith, long, end)) asking.so_far

    module _ (seat : Seat K D g h i) (stands : slice_get seats at ≡ Some seat) where
      there : slice_get Places at ≡ Some (place k seat)
      there = slice_get-map (place k) seats at ∙ ap (option_map (place k)) stands

      pub asking_past : (after : List (List D)) → after ≡ news → (peer : Bool) → peer ≡ is_peer_at down r at (place k seat) → peer ≡ false → Asking after (at + 1)
      asking_past after is peer same none = subst (λ (l : List (List D)). Asking l (at + 1)) (sym is) (record { goes = asking.goes; desked = asking.desked; so_far = so_far_past down r cid Places at (place k seat) there (sym same ∙ none) asking.so_far })

      offers_there : (bytes : Option (List ℕ)) → IsOfferedAt k (keeper_of seat) seat.planted cid bytes → IsOffered (place k seat).planted (place k seat).content cid bytes
      offers_there bytes offered =
          subst (λ (ps : List Planted). IsOffered ps (place k seat).content cid bytes) (sym (planted_of k seat.planted seat.held))
          (subst (λ (told : Option Kept). IsOffered seat.planted told cid bytes) (sym (content_of k seat.planted seat.held)) offered)

      module _ (mid new : List D) (failed : Bool) (mid_is : slice_get news at ≡ Some mid) (asks : DesksAsk k desk_faults (k.quiet (keeper_of seat)) failed mid new) where
        pub asking_desks : AllDesksGo k desk_faults (are_calm k seats) olds (set news at new)
        asking_desks = all_set k desk_faults (are_calm k seats) olds news at mid new asking.goes mid_is
            (go_quiet k desk_faults (k.quiet (keeper_of seat)) (are_calm k seats) mid new (quiet_at k seats at seat stands) asks.goes)

        module _ (peer : Bool) (same : peer ≡ is_peer_at down r at (place k seat)) (one : peer ≡ true) where
          mark : is_peer_at down r at (place k seat) ≡ true
          mark = sym same ∙ one

          pub asking_none : (after : List (List D)) → after ≡ set news at new → IsOfferedAt k (keeper_of seat) seat.planted cid None → Asking after (at + 1)
          asking_none after is none = subst (λ (l : List (List D)). Asking l (at + 1)) (sym is) (record {
            goes = asking_desks;
            desked = desked_set;
            so_far = so_far_none down r cid Places at (place k seat) there mark (offers_there None none) asking.so_far;
          })
            where
              desked_set : is_desked (length seats) (set news at new) ≡ true
              desked_set = still_desked k desk_faults (are_calm k seats) (length seats) news (set news at new)
                  (all_set k desk_faults (are_calm k seats) news news at mid new (all_still k desk_faults (are_calm k seats) news) mid_is
                  (go_quiet k desk_faults (k.quiet (keeper_of seat)) (are_calm k seats) mid new (quiet_at k seats at seat stands) asks.goes)) asking.desked

          pub asking_some : (bytes : List ℕ) → IsOfferedAt k (keeper_of seat) seat.planted cid (Some bytes) → IsOfferedBy (peers_among down r Places) cid (Some bytes)
          asking_some bytes some = so_far_some down r cid Places at (place k seat) bytes there mark (offers_there (Some bytes) some) asking.so_far

          pub asking_failed : failed ≡ true → PeerFailed desk_faults (peer_row down r 0 Places) olds (set news at new)
          asking_failed fails = record {
            at = at;
            among = marked_at down r cid at Places (place k seat) there mark;
            rose = all_rose k desk_faults (are_calm k seats) olds news at mid new asking.goes mid_is (asks.rose fails);
          }

pub desk_there : {D : Type 0} (count at : ℕ) (desks : List (List D)) (list : List D) → is_desked count desks ≡ true → at < count → list ≡ get_or desks at list → slice_get desks at ≡ Some list
desk_there count at desks list desked within is = slice_get_read desks count at list (desked_parts count desks desked).0 within is

pub full_there : {D : Type 0} (count at : ℕ) (desks : List (List D)) (list : List D) → is_desked count desks ≡ true → slice_get desks at ≡ Some list → is_full_list list ≡ true
full_there count at desks list desked is = each_passes is_full_list desks at list (desked_parts count desks desked).1 is
