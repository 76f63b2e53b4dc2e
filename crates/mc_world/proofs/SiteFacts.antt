-- The sites of the other replicas, and what is found and left among them.
use Rattle.std.proofs.Common.{◌≡◌, ◌∙◌, ◌+◌, ℕ, Bool, true, false, cond, ◌&&◌, not, List, [], ◌∷◌, ◌++◌, length, map, set, Option, Some, None, refl, sym, ap, subst, arith}
use Rattle.std.specs.Prelude.{slice_get}
use Rattle.std.specs.List.{flat_map, insert, list_any, remove}
use Rattle.std.specs.Option.{option_map}
use Rattle.std.proofs.lemmas.Bool.{and_from, and_parts, eq-eqb}
use Rattle.std.proofs.lemmas.List.{append-nil, append_assoc}
use Rattle.mc_base.specs.Causes.{Rose}
use Rattle.mc_base.specs.declared.cid.Cid.{Cid}
use Rattle.mc_base.specs.declared.counted.Counted as counted
use Rattle.mc_drain.specs.Finds.{Finds}
use Rattle.mc_fetch.specs.Offers.{found_by, listed, surely_by}
use Rattle.mc_fetch.specs.Peers.{offers_at, onto_peers, onto_stored, places_of}
use Rattle.mc_fetch.specs.Plants.{planted_at}
use Rattle.mc_fetch.specs.declared.plants.Planted.{Planted}
use Rattle.mc_keep.specs.Calls.{Members}
use Rattle.mc_keep.specs.declared.keeper.Keeper as keeper
use Rattle.mc_lend.specs.Lending.{marks_of}
use Rattle.mc_lend.specs.declared.site.Site.{Site}
use Rattle.mc_model.specs.Found.{PeerOffers, found_bytes, offers_from, option_list, peer_list}
use Rattle.mc_model.specs.Kept.{Kept, bytes_at}
use Rattle.mc_pull.specs.Pulls.{DeskRose, DesksGo, are_quiet, finds_at, found_at, leading_sites, sites_told, told_at}
use Rattle.mc_seats.specs.declared.links.Link.{Link}
use Rattle.mc_seats.specs.declared.seat.Held.{Held}
use Rattle.mc_seats.specs.declared.seat.Held.TheVariants.{Up, Down}
use Rattle.mc_seats.specs.declared.seat.Seat.{Seat}
use Rattle.mc_seats.specs.Fetching.{first_in_front, front_offers, offers_of, offers_of_place, onto_front}
use Rattle.mc_seats.specs.Keepers.{is_calm_keeper, keeper_in, keeper_of}
use Rattle.mc_world.specs.Pulling.{AddsSites, AreSites, IsSite, PullsAmong, PullsKeeper}
use Rattle.mc_seats.specs.StepParts.{are_calm, is_peer_at, peers_among}
use Rattle.mc_seats.specs.Words.{place}
use Rattle.mc_seats.specs.Works.{finds_of, offered_by}
use Rattle.mc_seats.specs.Worlds.{Place, is_linked, is_up, joins, peer_row, picked, place_with}

unlinked : (down : List Link) (r : ℕ) → is_linked down r r ≡ false
unlinked down r = ap (λ b. not b && not (list_any (joins r r) down)) (eq-eqb r r refl)

-- a thing in the middle of a list

get_middle : {A : Type 0} (before : List A) (x : A) (after : List A) → slice_get (before ++ x ∷ after) (length before) ≡ Some x
get_middle [] x after = refl
get_middle (y ∷ before) x after = get_middle before x after

set_middle : {A : Type 0} (before : List A) (x y : A) (after : List A) → set (before ++ x ∷ after) (length before) y ≡ before ++ y ∷ after
set_middle [] x y after = refl
set_middle (z ∷ before) x y after = ap (λ l. z ∷ l) (set_middle before x y after)

insert_middle : {A : Type 0} (before after : List A) (x : A) → insert (before ++ after) (length before) x ≡ before ++ x ∷ after
insert_middle [] [] x = refl
insert_middle [] (y ∷ after) x = refl
insert_middle (y ∷ before) after x = ap (λ l. y ∷ l) (insert_middle before after x)

pub insert_at : {A : Type 0} (xs before after : List A) (at : ℕ) (x : A) → xs ≡ before ++ after → length before ≡ at → insert xs at x ≡ before ++ x ∷ after
insert_at xs before after at x is many = ap (λ l. insert l at x) is ∙ ap (λ n. insert (before ++ after) n x) (sym many) ∙ insert_middle before after x

module _ {K : Type 0} (told : K → Option Kept) where
  told_step : (mark : Bool) (site : Site K) (sites : List (Site K)) (p : Place) (row : List Bool) (places : List Place) → site.peer ≡ mark → told_at told site ≡ offers_of_place p → sites_told told sites ≡ offers_of (picked row places)
      → sites_told told (site ∷ sites) ≡ offers_of (picked (mark ∷ row) (p ∷ places))
  told_step true site sites p row places is one rest = ap (λ b. cond b (onto_peers (told_at told site) (sites_told told sites)) (sites_told told sites)) is ∙ (λ j. onto_peers (one j) (rest j))
  told_step false site sites p row places is one rest = ap (λ b. cond b (onto_peers (told_at told site) (sites_told told sites)) (sites_told told sites)) is ∙ rest

-- what leading ones offer, as the sites and as the places have it

abbrev in_front : List Place → Cid → List (List ℕ)
in_front peers c = offers_from None (map (λ (offers : Cid → PeerOffers). offers c) (front_offers peers))

one_led : (planted : List Planted) (kept : Option Kept) (behind : List (Option (List ℕ))) (offers : List (Cid → PeerOffers)) (c : Cid) → listed behind ≡ flat_map peer_list (map (λ (o : Cid → PeerOffers). o c) offers)
    → listed (planted_at planted c ∷ onto_stored kept c behind) ≡ flat_map peer_list (map (λ (o : Cid → PeerOffers). o c) (onto_front planted kept offers))
one_led planted None behind offers c e = sym (ap (λ (l : List (List ℕ)). l ++ []) (append-nil (option_list (planted_at planted c))))
one_led planted (Some kept) behind offers c e =
    ap (λ (l : List (List ℕ)). option_list (planted_at planted c) ++ (option_list (bytes_at kept.graph c) ++ l)) e
    ∙ sym (append_assoc (option_list (planted_at planted c)) (option_list (bytes_at kept.graph c)) (flat_map peer_list (map (λ (o : Cid → PeerOffers). o c) offers)))

module _ {K : Type 0} (told : K → Option Kept) where
  led_step : (mark : Bool) (site : Site K) (sites : List (Site K)) (p : Place) (row : List Bool) (places : List Place) → site.peer ≡ mark → site.planted.now ≡ p.planted → told site.keeper.now ≡ p.content → ((c : Cid) → listed (leading_sites told sites c) ≡ in_front (picked row places) c)
      → (c : Cid) → listed (leading_sites told (site ∷ sites) c) ≡ in_front (picked (mark ∷ row) (p ∷ places)) c
  led_step true site sites p row places is planted content rest = λ c.
      ap (λ b. listed (cond b (planted_at site.planted.now c ∷ onto_stored (told site.keeper.now) c (leading_sites told sites c)) (leading_sites told sites c))) is
      ∙ ap (λ (ps : List Planted). listed (planted_at ps c ∷ onto_stored (told site.keeper.now) c (leading_sites told sites c))) planted
      ∙ ap (λ (kept : Option Kept). listed (planted_at p.planted c ∷ onto_stored kept c (leading_sites told sites c))) content
      ∙ one_led p.planted p.content (leading_sites told sites c) (front_offers (picked row places)) c (rest c)
  led_step false site sites p row places is planted content rest = λ c.
      ap (λ b. listed (cond b (planted_at site.planted.now c ∷ onto_stored (told site.keeper.now) c (leading_sites told sites c)) (leading_sites told sites c))) is ∙ rest c

module _ {K D : Type 0} {g : keeper.Ghosts K D} {h : counted.Ghosts K} {i : counted.Ghosts D} (k : Members K D) (down : List Link) (r : ℕ) where
  abbrev Places : List (Seat K D g h i) → List Place
  Places seats = map (place k) seats

  -- no site, and one more
  pub adds_none : (number : ℕ) (seats : List (Seat K D g h i)) (olds : List (Site K)) → length seats ≡ 0 → AddsSites k down r number seats olds olds
  adds_none number [] olds none = record { more = []; added = sym (append-nil olds); of = tt }
  adds_none number (seat ∷ seats) olds none = absurd (omega (arith, none))

  pub adds_more : (number : ℕ) (seat : Seat K D g h i) (seats : List (Seat K D g h i)) (olds mid news : List (Site K)) (site : Site K) → mid ≡ olds ++ site ∷ [] → IsSite k down r number seat site → AddsSites k down r (number + 1) seats mid news → AddsSites k down r number (seat ∷ seats) olds news
  adds_more number seat seats olds mid news site one is rest = record {
    more = site ∷ rest.more;
    added = rest.added ∙ ap (λ (l : List (Site K)). l ++ rest.more) one ∙ append_assoc olds (site ∷ []) rest.more;
    of = (is, rest.of);
  }

  -- what one offers
  content_of : (held : Held K D g h i) (planted : List Planted) → (place_with k.told k.fuse planted held).content ≡ k.told (keeper_in held)
  content_of (Up replica) planted = refl
  content_of (Down idle) planted = refl

  planted_of : (held : Held K D g h i) (planted : List Planted) → (place_with k.told k.fuse planted held).planted ≡ planted
  planted_of (Up replica) planted = refl
  planted_of (Down idle) planted = refl

  one_offers : (number : ℕ) (seat : Seat K D g h i) (site : Site K) → IsSite k down r number seat site → told_at k.told site ≡ offers_of_place (place k seat)
  one_offers number seat site is =
      ap (λ (planted : List Planted). option_map (offers_at planted) (k.told site.keeper.now)) is.planted_same ∙ ap (λ (keeper : K). option_map (offers_at seat.planted) (k.told keeper)) is.keeper_same
      ∙ (λ j. option_map (offers_at (sym (planted_of seat.held seat.planted) j)) (sym (content_of seat.held seat.planted) j))

  abbrev SaysOffers : ℕ → List (Seat K D g h i) → List (Site K) → Type 0
  SaysOffers number seats sites = sites_told k.told sites ≡ offers_of (picked (peer_row down r number (Places seats)) (Places seats))

  rest_told : (number : ℕ) (seats : List (Seat K D g h i)) (sites : List (Site K)) → AreSites k down r number seats sites → SaysOffers number seats sites
  rest_told number [] [] of = refl
  rest_told number [] (site ∷ sites) of = absurd of
  rest_told number (seat ∷ seats) [] of = absurd of
  rest_told number (seat ∷ seats) (site ∷ sites) of =
      told_step k.told (is_peer_at down r number (place k seat)) site sites (place k seat) (peer_row down r (number + 1) (Places seats)) (Places seats) of.0.peer_is (one_offers number seat site of.0) (rest_told (number + 1) seats sites of.1)

  all_told : (number at : ℕ) (before : List (Seat K D g h i)) (x : Seat K D g h i) (after : List (Seat K D g h i)) (first last : List (Site K)) → at ≡ number + length before → is_linked down r at ≡ false → AreSites k down r number before first → AreSites k down r (at + 1) after last
      → SaysOffers number (before ++ x ∷ after) (first ++ last)
  all_told number at [] x after [] last is out of of2 =
      let same : at ≡ number = omega (arith, is) in
      subst (λ (n : ℕ). sites_told k.told last ≡ offers_of (picked ((is_linked down r n && is_up (place k x).run) ∷ peer_row down r (n + 1) (Places after)) (place k x ∷ Places after))) same
      (rest_told (at + 1) after last of2 ∙ sym (ap (λ m. offers_of (picked ((m && is_up (place k x).run) ∷ peer_row down r (at + 1) (Places after)) (place k x ∷ Places after))) out))
  all_told number at [] x after (site ∷ first) last is out of of2 = absurd of
  all_told number at (seat ∷ before) x after [] last is out of of2 = absurd of
  all_told number at (seat ∷ before) x after (site ∷ first) last is out of of2 =
      told_step k.told (is_peer_at down r number (place k seat)) site (first ++ last) (place k seat) (peer_row down r (number + 1) (Places (before ++ x ∷ after))) (Places (before ++ x ∷ after)) of.0.peer_is (one_offers number seat site of.0)
      (all_told (number + 1) at before x after first last (omega (arith, is)) out of.1 of2)

  -- and what leading ones offer

  abbrev SaysLed : ℕ → List (Seat K D g h i) → List (Site K) → Type 0
  SaysLed number seats sites = (c : Cid) → listed (leading_sites k.told sites c) ≡ in_front (picked (peer_row down r number (Places seats)) (Places seats)) c

  led_at : (number : ℕ) (seat : Seat K D g h i) (seats : List (Seat K D g h i)) (site : Site K) (sites : List (Site K)) → IsSite k down r number seat site → SaysLed (number + 1) seats sites → SaysLed number (seat ∷ seats) (site ∷ sites)
  led_at number seat seats site sites is rest =
      led_step k.told (is_peer_at down r number (place k seat)) site sites (place k seat) (peer_row down r (number + 1) (Places seats)) (Places seats) is.peer_is
      (is.planted_same ∙ sym (planted_of seat.held seat.planted)) (ap k.told is.keeper_same ∙ sym (content_of seat.held seat.planted)) rest

  rest_led : (number : ℕ) (seats : List (Seat K D g h i)) (sites : List (Site K)) → AreSites k down r number seats sites → SaysLed number seats sites
  rest_led number [] [] of = λ c. refl
  rest_led number [] (site ∷ sites) of = absurd of
  rest_led number (seat ∷ seats) [] of = absurd of
  rest_led number (seat ∷ seats) (site ∷ sites) of = led_at number seat seats site sites of.0 (rest_led (number + 1) seats sites of.1)

  all_led : (number at : ℕ) (before : List (Seat K D g h i)) (x : Seat K D g h i) (after : List (Seat K D g h i)) (first last : List (Site K)) → at ≡ number + length before → is_linked down r at ≡ false → AreSites k down r number before first → AreSites k down r (at + 1) after last
      → SaysLed number (before ++ x ∷ after) (first ++ last)
  all_led number at [] x after [] last is out of of2 =
      let same : at ≡ number = omega (arith, is) in
      subst (λ (n : ℕ). (c : Cid) → listed (leading_sites k.told last c) ≡ in_front (picked ((is_linked down r n && is_up (place k x).run) ∷ peer_row down r (n + 1) (Places after)) (place k x ∷ Places after)) c) same
      (λ c. rest_led (at + 1) after last of2 c ∙ sym (ap (λ m. in_front (picked ((m && is_up (place k x).run) ∷ peer_row down r (at + 1) (Places after)) (place k x ∷ Places after)) c) out))
  all_led number at [] x after (site ∷ first) last is out of of2 = absurd of
  all_led number at (seat ∷ before) x after [] last is out of of2 = absurd of
  all_led number at (seat ∷ before) x after (site ∷ first) last is out of of2 =
      led_at number seat (before ++ x ∷ after) site (first ++ last) of.0 (all_led (number + 1) at before x after first last (omega (arith, is)) out of.1 of2)

  -- which of them are fetched from

  rest_marks : (number : ℕ) (seats : List (Seat K D g h i)) (sites : List (Site K)) → AreSites k down r number seats sites → marks_of sites ≡ peer_row down r number (Places seats)
  rest_marks number [] [] of = refl
  rest_marks number [] (site ∷ sites) of = absurd of
  rest_marks number (seat ∷ seats) [] of = absurd of
  rest_marks number (seat ∷ seats) (site ∷ sites) of = (λ j. of.0.peer_is j ∷ rest_marks (number + 1) seats sites of.1 j)

  all_marks : (number at : ℕ) (before : List (Seat K D g h i)) (x : Seat K D g h i) (after : List (Seat K D g h i)) (first last : List (Site K)) → at ≡ number + length before → AreSites k down r number before first → AreSites k down r (at + 1) after last
      → marks_of (first ++ last) ≡ remove (peer_row down r number (Places (before ++ x ∷ after))) (length before)
  all_marks number at [] x after [] last is of of2 = let same : at ≡ number = omega (arith, is) in subst (λ (n : ℕ). marks_of last ≡ peer_row down r (n + 1) (Places after)) same (rest_marks (at + 1) after last of2)
  all_marks number at [] x after (site ∷ first) last is of of2 = absurd of
  all_marks number at (seat ∷ before) x after [] last is of of2 = absurd of
  all_marks number at (seat ∷ before) x after (site ∷ first) last is of of2 = (λ j. of.0.peer_is j ∷ all_marks (number + 1) at before x after first last (omega (arith, is)) of.1 of2 j)

  -- where all keepers are calm, theirs are quiet

  module _ (desk_faults : D → ℕ) where
    abbrev calm_seat : Seat K D g h i → Bool
    calm_seat seat = is_calm_keeper k (keeper_of seat)

    one_quiet : (number : ℕ) (seat : Seat K D g h i) (site : Site K) → IsSite k down r number seat site → calm_seat seat ≡ true → k.quiet site.keeper.now ≡ true
    one_quiet number seat site is calm = ap k.quiet is.keeper_same ∙ (and_parts _ _ calm).0

    rest_quiet : (number : ℕ) (seats : List (Seat K D g h i)) (sites : List (Site K)) → AreSites k down r number seats sites → are_calm k seats ≡ true → are_quiet k desk_faults sites ≡ true
    rest_quiet number [] [] of calm = refl
    rest_quiet number [] (site ∷ sites) of calm = absurd of
    rest_quiet number (seat ∷ seats) [] of calm = absurd of
    rest_quiet number (seat ∷ seats) (site ∷ sites) of calm =
        let parts = and_parts (calm_seat seat) (are_calm k seats) calm in
        and_from _ _ (one_quiet number seat site of.0 parts.0) (rest_quiet (number + 1) seats sites of.1 parts.1)

    all_quiet : (number at : ℕ) (before : List (Seat K D g h i)) (x : Seat K D g h i) (after : List (Seat K D g h i)) (first last : List (Site K)) → AreSites k down r number before first → AreSites k down r at after last → are_calm k (before ++ x ∷ after) ≡ true
        → are_quiet k desk_faults (first ++ last) ≡ true
    all_quiet number at [] x after [] last of of2 calm = rest_quiet at after last of2 (and_parts (calm_seat x) (are_calm k after) calm).1
    all_quiet number at [] x after (site ∷ first) last of of2 calm = absurd of
    all_quiet number at (seat ∷ before) x after [] last of of2 calm = absurd of
    all_quiet number at (seat ∷ before) x after (site ∷ first) last of of2 calm =
        let parts = and_parts (calm_seat seat) (are_calm k (before ++ x ∷ after)) calm in
        and_from _ _ (one_quiet number seat site of.0 parts.0) (all_quiet (number + 1) at before x after first last of.1 of2 parts.1)

  -- the sites of all others
  module _ (before : List (Seat K D g h i)) (x : Seat K D g h i) (after : List (Seat K D g h i)) (start mid sites : List (Site K)) (olds : List (Seat K D g h i)) (at : length before ≡ r) (was : olds ≡ before ++ x ∷ after) (none : start ≡ []) (one : AddsSites k down r 0 before start mid) (two : AddsSites k down r (r + 1) after mid sites) where
    all_sites : sites ≡ one.more ++ two.more
    all_sites = two.added ∙ ap (λ (l : List (Site K)). l ++ two.more) (one.added ∙ ap (λ (l : List (Site K)). l ++ one.more) none)

    pub marks_among : marks_of sites ≡ remove (peer_row down r 0 (Places olds)) r
    marks_among =
        ap (λ (l : List (Site K)). marks_of l) all_sites ∙ all_marks 0 r before x after one.more two.more (let e = at in omega (arith, e)) one.of two.of
        ∙ ap (λ (n : ℕ). remove (peer_row down r 0 (Places (before ++ x ∷ after))) n) at ∙ ap (λ (l : List (Seat K D g h i)). remove (peer_row down r 0 (Places l)) r) (sym was)

    found_among : found_at k.told sites ≡ offered_by (peers_among down r (Places olds))
    found_among =
        ap (λ (l : List (Site K)). found_at k.told l) all_sites
        ∙ ap (λ (peers : Option (List (Cid → PeerOffers))). found_by (option_map places_of peers)) (all_told 0 r before x after one.more two.more (let e = at in omega (arith, e)) (unlinked down r) one.of two.of)
        ∙ ap (λ (l : List (Seat K D g h i)). offered_by (peers_among down r (Places l))) (sym was)

    led_among : (c : Cid) → surely_by (leading_sites k.told sites) c ≡ first_in_front None (peers_among down r (Places olds)) c
    led_among c =
        ap (λ (l : List (Site K)). found_bytes (listed (leading_sites k.told l c)) c) all_sites
        ∙ ap (λ (l : List (List ℕ)). found_bytes l c) (all_led 0 r before x after one.more two.more (let e = at in omega (arith, e)) (unlinked down r) one.of two.of c)
        ∙ ap (λ (l : List (Seat K D g h i)). first_in_front None (peers_among down r (Places l)) c) (sym was)

    finds_among : finds_at k.told sites ≡ finds_of (peers_among down r (Places olds))
    finds_among = λ j. record { all = found_among j; surely = λ c. led_among c j }

    pub among : (desk_faults : D → ℕ) (By : Finds → Type 0 → Place → Place → Type 0) (failed faulted : Bool) (y : Seat K D g h i) (news : List (Seat K D g h i)) (desks left : List (List D)) → news ≡ before ++ y ∷ after
        → By (finds_at k.told sites) (Rose (k.own (keeper_of x)) (k.own (keeper_of y))) (place k x) (place k y) → PullsKeeper k failed (keeper_of x) (keeper_of y) → DesksGo k desk_faults sites desks left → (faulted ≡ true → DeskRose desk_faults (marks_of sites) desks left)
        → PullsAmong k down r desk_faults By failed faulted olds news desks left
    among desk_faults By failed faulted y news desks left is pulls of_keeper goes rose = record {
      old = x;
      new = y;
      stands = ap (λ (l : List (Seat K D g h i)). slice_get l r) was ∙ ap (λ (n : ℕ). slice_get (before ++ x ∷ after) n) (sym at) ∙ get_middle before x after;
      after = is ∙ sym (set_middle before x y after) ∙ ap (λ (n : ℕ). set (before ++ x ∷ after) n y) at ∙ ap (λ (l : List (Seat K D g h i)). set l r y) (sym was);
      pulls = subst (λ (finds : Finds). By finds (Rose (k.own (keeper_of x)) (k.own (keeper_of y))) (place k x) (place k y)) finds_among pulls;
      of_keeper = of_keeper;
      quiet = are_quiet k desk_faults sites;
      still = λ calm. ap (λ (l : List (Site K)). are_quiet k desk_faults l) all_sites ∙ all_quiet desk_faults 0 (r + 1) before x after one.more two.more one.of two.of (ap (λ (l : List (Seat K D g h i)). are_calm k l) (sym was) ∙ calm);
      of_desks = goes;
      rose = λ e. subst (λ (marks : List Bool). DeskRose desk_faults marks desks left) marks_among (rose e);
    }
