-- One job of a replica among others: from its parts to the step of the world.
use Rattle.std.proofs.Common.{◌≡◌, ℕ, zero, suc, ◌+◌, ◌-◌, ◌^◌, ◌≤◌, ◌<◌, arith, Bool, true, false, cond, ◌&&◌, ◌||◌, List, [], ◌∷◌, get_or, length, map, set, Option, Some, None, Result, Ok, Err, refl, sym, ap, ◌∙◌, subst, inl, inr}
use Rattle.std.specs.Prelude.{⊤, IfOk, IfSome, ◌⊎◌, is_some, not, min, find, nat_lt, slice_get, unwrap_or}
use Rattle.std.specs.List.{flat_map, list_all, list_any, sum_by}
use Rattle.std.specs.Option.{option_and_then, option_map}
use Rattle.std.specs.Str.{bytes_eq}
use Rattle.std.proofs.lemmas.Bool.{and_parts, and_from, eq-eqb}
use Rattle.std.proofs.lemmas.Bool.Decides.{nat_tests}
use Rattle.std.proofs.lemmas.List.{map-set}
use Rattle.std.proofs.lemmas.List.Sums.{get_or-le-sum_by, sum_by-cons, sum_by-set}
use Rattle.std.proofs.lemmas.Option.{get_or_from_slice_get, slice_get-map, slice_get_within}
use Rattle.std.proofs.lemmas.Slice.Eq.{bytes_eq-Decides}
use Rattle.mc_base.specs.Causes.{Rose}
use Rattle.mc_base.specs.Cid.{digest_of}
use Rattle.mc_base.specs.declared.cid.Cid.{Cid}
use Rattle.mc_base.specs.declared.counted.Counted as counted
use Rattle.mc_core.specs.Events.{ReplicaState, state_of}
use Rattle.mc_fetch.specs.Causes.{is_peer_fault}
use Rattle.mc_fetch.specs.Offers.{HasDigest}
use Rattle.mc_fetch.specs.declared.error.FetchError.{FetchError}
use Rattle.mc_fetch.specs.declared.error.FetchError.TheVariants.{Failed, Memory as FetchMemory}
use Rattle.mc_fetch.specs.declared.job.Job.{Job}
use Rattle.mc_keep.specs.Calls.{Members}
use Rattle.mc_keep.specs.declared.keeper.Keeper as keeper
use Rattle.mc_model.specs.Found.{PeerOffers, found_bytes, offers_from, peer_list}
use Rattle.mc_model.specs.Kept.{Kept, bytes_at}
use Rattle.mc_model.specs.Draining.{queue_in}
use Rattle.mc_model.specs.State.{Running, durable_of, kept_of}
use Rattle.mc_core.specs.Jobs.{first_waiting}
use Rattle.mc_script.specs.declared.command.Command.TheVariants.{Step}
use Rattle.mc_script.specs.declared.reply.Reply.{Reply}
use Rattle.mc_script.specs.declared.reply.Reply.TheVariants.{FaultPeer}
use Rattle.mc_seats.specs.declared.error.ActError.{ActError}
use Rattle.mc_seats.specs.declared.error.ActError.TheVariants.{BadLine, Memory}
use Rattle.mc_seats.specs.declared.links.Link.{Link}
use Rattle.mc_seats.specs.declared.seat.Seat.{Seat}
use Rattle.mc_seats.specs.declared.world.World.{World}
use Rattle.mc_seats.specs.Asks.{is_named}
use Rattle.mc_seats.specs.Fetching.{Decides, IsFound, IsFoundIn, all_tell, front_offers}
use Rattle.mc_seats.specs.Keepers.{AllLater, IsPaid, WorldGoes, armed_at, armed_in, desk_count, desks_in, is_calm, is_calm_desk, is_calm_keeper, keeper_of, own_in}
use Rattle.mc_seats.specs.Effects.{AsksAt, DoneAt, RefusedAt}
use Rattle.mc_seats.specs.Record.{RoseAt, RoseIn}
use Rattle.mc_seats.specs.Step.{CutShort, GivesBack, LeavesStep, PeerBreaks, Row, ShortAt, ShortIn, answers_fault, first_stored, is_fault}
use Rattle.mc_seats.specs.StepParts.{AllDesksGo, BacksAt, Begun, BeginsAt, BeginsJob, DeliversAt, IsFlying, IsFoundAt, IsFoundFor, IsOfferedBy, PeerFailed, SameButDesks, StepRow, are_calm, given_up_of, peers_among}
use Rattle.mc_seats.specs.Words.{ActsOn, DeskRose, KeeperGoes, KeeperRose, OwnRose, PlaceRow, place, state}
use Rattle.mc_seats.specs.Worlds.{AtPlace, Moved, Place, WorldState, is_down, is_linked, is_marked, is_up, joins, peer_row, peers_of, picked, state_at}
use Rattle.mc_seats.proofs.BeginFacts.{allowed_at, is_no_error, never, short_is_not_bad, waits}
use Rattle.mc_seats.proofs.DeliverFacts.{in_flight}
use Rattle.mc_seats.proofs.GoesFacts.{keeper_same, keeper_then}
use Rattle.mc_seats.proofs.PeerFacts.{all_still}
use Rattle.mc_seats.proofs.StayFacts.{all_go}
use Rattle.mc_acts.proofs.LiftFacts.{later_same, later_set}

-- what is found is the first with the digest

module _ (w : WorldState) (r : ℕ) (cid : Cid) where
  -- own bytes with the digest
  pub own_found : (bytes : List ℕ) → HasDigest cid bytes → IsFoundFor w r (Some bytes) cid (Some bytes)
  own_found bytes digest kept own =
      let peers = map (λ (offers : Cid → PeerOffers). offers cid) (front_offers (peers_of w r)) in
      let first : found_bytes (offers_from (Some bytes) peers) cid ≡ Some bytes =
      ap (λ t. cond t (Some bytes) (find (λ bytes. bytes_eq (digest_of bytes) cid.0) (flat_map peer_list peers))) ((bytes_eq-Decides (digest_of bytes) cid.0).1 digest) in
      subst (λ (stored : Option (List ℕ)). IsFoundIn stored (peers_of w r) cid (Some bytes)) own
      (subst (λ (x : Option (List ℕ)). Decides x (all_tell (peers_of w r)) (Some bytes)) (sym first) refl)

  -- or what the peers offer
  pub peers_found : (own found : Option (List ℕ)) → own ≡ None → IsOfferedBy (peers_of w r) cid found → IsFoundFor w r own cid found
  peers_found own found none offered kept is = subst (λ (stored : Option (List ℕ)). IsFoundIn stored (peers_of w r) cid found) (sym none ∙ is) offered

-- the marks and the peers are the same, whatever stands in the place of r

unlinked : (down : List Link) (r : ℕ) → is_linked down r (0 + r) ≡ false
unlinked down r = ap (λ b. not b && not (list_any (joins r (0 + r)) down)) (eq-eqb r (0 + r) (let same : r ≡ 0 + r = omega arith in same))

module _ (down : List Link) (r : ℕ) (q : Place) where
  row_set : (number at : ℕ) (places : List Place) → is_linked down r (number + at) ≡ false → peer_row down r number (set places at q) ≡ peer_row down r number places
  row_set number at [] out = refl
  row_set number zero (p ∷ places) out =
      let here : is_linked down r number ≡ false = ap (is_linked down r) (let same : number ≡ number + 0 = omega arith in same) ∙ out in
      ap (λ b. (b && is_up q.run) ∷ peer_row down r (number + 1) places) here ∙ sym (ap (λ b. (b && is_up p.run) ∷ peer_row down r (number + 1) places) here)
  row_set number (suc at) (p ∷ places) out =
      ap (λ row. (is_linked down r number && is_up p.run) ∷ row) (row_set (number + 1) at places (ap (is_linked down r) (let same : number + 1 + at ≡ number + suc at = omega arith in same) ∙ out))

  row_out : (number at : ℕ) (places : List Place) → is_linked down r (number + at) ≡ false → is_marked (peer_row down r number places) at ≡ false
  row_out number at [] out = refl
  row_out number zero (p ∷ places) out = ap (λ b. b && is_up p.run) (ap (is_linked down r) (let same : number ≡ number + 0 = omega arith in same) ∙ out)
  row_out number (suc at) (p ∷ places) out = row_out (number + 1) at places (ap (is_linked down r) (let same : number + 1 + at ≡ number + suc at = omega arith in same) ∙ out)

  picked_set : (row : List Bool) (places : List Place) (at : ℕ) → is_marked row at ≡ false → picked row (set places at q) ≡ picked row places
  picked_set [] places at out = refl
  picked_set (mark ∷ row) [] at out = refl
  picked_set (true ∷ row) (p ∷ places) zero out = never out
  picked_set (false ∷ row) (p ∷ places) zero out = refl
  picked_set (true ∷ row) (p ∷ places) (suc at) out = ap (λ l. p ∷ l) (picked_set row places at out)
  picked_set (false ∷ row) (p ∷ places) (suc at) out = picked_set row places at out

  pub same_row : (places : List Place) → peer_row down r 0 (set places r q) ≡ peer_row down r 0 places
  same_row places = row_set 0 r places (unlinked down r)

  pub same_peers : (places : List Place) → peers_among down r (set places r q) ≡ peers_among down r places
  same_peers places = ap (λ row. picked row (set places r q)) (same_row places) ∙ picked_set (peer_row down r 0 places) places r (row_out 0 r places (unlinked down r))

-- a thing in its place in a list

set_twice : {A : Type 0} (xs : List A) (r : ℕ) (y z : A) → set (set xs r y) r z ≡ set xs r z
set_twice [] r y z = refl
set_twice (x ∷ xs) zero y z = refl
set_twice (x ∷ xs) (suc r) y z = ap (λ l. x ∷ l) (set_twice xs r y z)

get_set : {A : Type 0} (xs : List A) (r : ℕ) (x y : A) → slice_get xs r ≡ Some x → slice_get (set xs r y) r ≡ Some y
get_set [] r x y is = never (sym (ap is_some is))
get_set (z ∷ xs) zero x y is = refl
get_set (z ∷ xs) (suc r) x y is = get_set xs r x y is

set_same : {A : Type 0} (xs : List A) (r : ℕ) (x : A) → slice_get xs r ≡ Some x → set xs r x ≡ xs
set_same [] r x is = refl
set_same (z ∷ xs) zero x is = ap (λ y. y ∷ xs) (sym (ap (λ o. unwrap_or o z) is))
set_same (z ∷ xs) (suc r) x is = ap (λ l. z ∷ l) (set_same xs r x is)

-- the thing that was put there is there
pub there_again : {A : Type 0} (xs mid : List A) (r : ℕ) (x y z : A) → slice_get xs r ≡ Some x → mid ≡ set xs r y → z ≡ get_or mid r z → z ≡ y
there_again xs mid r x y z stands is at = at ∙ get_or_from_slice_get mid r y z (ap (λ l. slice_get l r) is ∙ get_set xs r x y stands)

named_itself : (r : ℕ) → is_named (r ∷ []) r ≡ true
named_itself r = ap (λ b. b || false) (eq-eqb r r refl)

-- sums of counts of replicas and of desks

seat_sums : (sum sum2 own own2 armed armed2 one one2 : ℕ) (faults : ℕ) → sum2 + one ≡ sum + one2 → one ≤ sum → (armed2 + own ≡ armed + own2) → IsPaid faults 0 one own one2 own2 → IsPaid faults 0 sum armed sum2 armed2
seat_sums sum sum2 own own2 armed armed2 one one2 faults sums within arms paid = record {
  later = let later = paid.later in omega (arith, sums, later);
  paid = elim paid.paid [
    | inl enough ↦ inl (omega (arith, sums, arms, enough))
    | inr last ↦ inr (omega (arith, sums, within, last))
  ];
}

add_desks : (faults own armed own2 armed2 desks desks2 : ℕ) → desks ≤ desks2 → IsPaid faults 0 own armed own2 armed2 → IsPaid faults 0 (own + desks) armed (own2 + desks2) armed2
add_desks faults own armed own2 armed2 desks desks2 later paid = record {
  later = let more = paid.later in omega (arith, later, more);
  paid = elim paid.paid [
    | inl enough ↦ inl (omega (arith, later, enough))
    | inr last ↦ inr (omega (arith, later, last))
  ];
}

add_fault : (own armed own2 armed2 desks desks2 : ℕ) → Rose desks desks2 → desks ≤ desks2 → own ≤ own2 → (own + 0 + armed2 ≤ own2 + armed + 0) ⊎ (2 ^ 64 - 1 ≤ own2) → IsPaid 1 0 (own + desks) armed (own2 + desks2) armed2
add_fault own armed own2 armed2 desks desks2 rose later more (inl enough) = record { later = omega (arith, later, more); paid = grind (arith, rose, later, more, enough) }
add_fault own armed own2 armed2 desks desks2 rose later more (inr last) = record { later = omega (arith, later, more); paid = inr (omega (arith, last)) }

module _ {K D : Type 0} (k : Members K D) (desk_faults : D → ℕ) where
  desks_later : (quiet : Bool) (olds news : List (List D)) → AllDesksGo k desk_faults quiet olds news → desks_in desk_faults olds ≤ desks_in desk_faults news
  desks_later quiet [] [] goes = omega arith
  desks_later quiet [] (n ∷ news) goes = absurd goes
  desks_later quiet (o ∷ olds) [] goes = absurd goes
  desks_later quiet (o ∷ olds) (n ∷ news) goes =
      let was = sum_by-cons (λ (list : List D). sum_by desk_faults list) o olds in
      let now = sum_by-cons (λ (list : List D). sum_by desk_faults list) n news in
      let first = goes.0.later in
      let others = desks_later quiet olds news goes.1 in
      omega (arith, was, now, first, others)

  each_desks_later : (quiet : Bool) (olds news : List (List D)) → AllDesksGo k desk_faults quiet olds news → AllLater (λ (list : List D). sum_by desk_faults list) olds news
  each_desks_later quiet [] [] goes = tt
  each_desks_later quiet [] (n ∷ news) goes = absurd goes
  each_desks_later quiet (o ∷ olds) [] goes = absurd goes
  each_desks_later quiet (o ∷ olds) (n ∷ news) goes = (goes.0.later, each_desks_later quiet olds news goes.1)

  rose_some : (first now : ℕ) → Rose (min first (2 ^ 64 - 1)) (min now (2 ^ 64 - 1)) → Rose first now
  rose_some first now rose = grind (arith, rose)

  rose_sum : (one one2 rest rest2 sum sum2 : ℕ) → sum ≡ one + rest → sum2 ≡ one2 + rest2 → one ≤ one2 → rest ≤ rest2 → Rose one one2 → Rose sum sum2
  rose_sum one one2 rest rest2 sum sum2 is is2 later more rose = grind (arith, is, is2, later, more, rose)

  rose_rest : (one one2 rest rest2 sum sum2 : ℕ) → sum ≡ one + rest → sum2 ≡ one2 + rest2 → one ≤ one2 → rest ≤ rest2 → Rose rest rest2 → Rose sum sum2
  rose_rest one one2 rest rest2 sum sum2 is is2 later more rose = grind (arith, is, is2, later, more, rose)

  desks_rose : (quiet : Bool) (olds news : List (List D)) (at : ℕ) → AllDesksGo k desk_faults quiet olds news → RoseIn (desk_count desk_faults) olds news at → Rose (desks_in desk_faults olds) (desks_in desk_faults news)
  desks_rose quiet [] [] at goes rose = absurd rose
  desks_rose quiet [] (n ∷ news) at goes rose = absurd goes
  desks_rose quiet (o ∷ olds) [] at goes rose = absurd goes
  desks_rose quiet (o ∷ olds) (n ∷ news) zero goes rose =
      rose_sum (sum_by desk_faults o) (sum_by desk_faults n) (desks_in desk_faults olds) (desks_in desk_faults news) _ _ (sum_by-cons (λ (list : List D). sum_by desk_faults list) o olds) (sum_by-cons (λ (list : List D). sum_by desk_faults list) n news)
      goes.0.later (desks_later quiet olds news goes.1) (rose_some (sum_by desk_faults o) (sum_by desk_faults n) rose)
  desks_rose quiet (o ∷ olds) (n ∷ news) (suc at) goes rose =
      rose_rest (sum_by desk_faults o) (sum_by desk_faults n) (desks_in desk_faults olds) (desks_in desk_faults news) _ _ (sum_by-cons (λ (list : List D). sum_by desk_faults list) o olds) (sum_by-cons (λ (list : List D). sum_by desk_faults list) n news)
      goes.0.later (desks_later quiet olds news goes.1) (desks_rose quiet olds news at goes.1 rose)

  desks_calm : (quiet : Bool) (olds news : List (List D)) → AllDesksGo k desk_faults quiet olds news → quiet ≡ true → list_all (λ (list : List D). list_all (is_calm_desk k desk_faults) list) olds ≡ true
      → list_all (λ (list : List D). list_all (is_calm_desk k desk_faults) list) news ≡ true
  desks_calm quiet [] [] goes is all = refl
  desks_calm quiet [] (n ∷ news) goes is all = absurd goes
  desks_calm quiet (o ∷ olds) [] goes is all = absurd goes
  desks_calm quiet (o ∷ olds) (n ∷ news) goes is all =
      let parts = and_parts (list_all (is_calm_desk k desk_faults) o) (list_all (λ (list : List D). list_all (is_calm_desk k desk_faults) list) olds) all in
      and_from _ _ (goes.0.calm is parts.0) (desks_calm quiet olds news goes.1 is parts.1)

-- of a list all of which pass, with another in one place
passes_set : {A : Type 0} (test : A → Bool) (xs : List A) (r : ℕ) (x y : A) → slice_get xs r ≡ Some x → (test x ≡ true → test y ≡ true) → list_all test xs ≡ true → list_all test (set xs r y) ≡ true
passes_set test [] r x y is still all = refl
passes_set test (z ∷ xs) zero x y is still all =
    let parts = and_parts (test z) (list_all test xs) all in
    and_from _ _ (still (ap test (sym (ap (λ o. unwrap_or o z) is)) ∙ parts.0)) parts.1
passes_set test (z ∷ xs) (suc r) x y is still all =
    let parts = and_parts (test z) (list_all test xs) all in
    and_from _ _ parts.0 (passes_set test xs r x y is still parts.1)

pub calm_set : {K D : Type 0} {g : keeper.Ghosts K D} {h : counted.Ghosts K} {i : counted.Ghosts D} (k : Members K D) {faults : ℕ} (seats : List (Seat K D g h i)) (r : ℕ) (x y : Seat K D g h i) → slice_get seats r ≡ Some x
    → KeeperGoes k faults 0 (keeper_of x) (keeper_of y) → are_calm k seats ≡ true → are_calm k (set seats r y) ≡ true
calm_set {K = K} {D = D} {g = g} {h = h} {i = i} k seats r x y is goes all = passes_set (λ (seat : Seat K D g h i). is_calm_keeper k (keeper_of seat)) seats r x y is goes.calm all

-- the step of a world, of which one replica and some desks are others
module _ {K D : Type 0} {g : keeper.Ghosts K D} {h : counted.Ghosts K} {i : counted.Ghosts D} (k : Members K D) (desk_faults : D → ℕ) (r : ℕ) (old new : World K D g h i) (x y : Seat K D g h i)
    (stands : slice_get old.seats.items r ≡ Some x) (after : new.seats.items ≡ set old.seats.items r y) where
  abbrev W : World K D g h i → WorldState
  W = state k desk_faults

  there : slice_get (W old).places r ≡ Some (place k x)
  there = slice_get-map (place k) old.seats.items r ∙ ap (option_map (place k)) stands

  places_after : (W new).places ≡ set (W old).places r (place k y)
  places_after = ap (map (place k)) after ∙ map-set (place k) old.seats.items r y

  at_place : (P : Place → Type 0) → P (place k x) → AtPlace (W old) r P
  at_place P holds = subst (λ (o : Option Place). IfSome o P) (sym there) holds

  rose_at : (count : K → ℕ) → RoseIn (λ (seat : Seat K D g h i). count (keeper_of seat)) old.seats.items new.seats.items r ≡ Rose (count (keeper_of x)) (count (keeper_of y))
  rose_at count = λ j. RoseAt (λ (seat : Seat K D g h i). count (keeper_of seat)) (stands j) ((ap (λ l. slice_get l r) after ∙ get_set old.seats.items r x y stands) j)

  moved : (P : Place → Place → Type 0) → P (place k x) (place k y) → Moved r (W old).places (W new).places P
  moved P holds = record { old = place k x; new = place k y; stands = there; after = places_after; holds = holds }

  module _ (around : (W new).around ≡ (W old).around) where
    abbrev Rows : Reply → Type 0
    Rows reply = Row (W old) (Step r) (KeeperRose k desk_faults old new) (OwnRose k desk_faults old new) (DeskRose k desk_faults old new) reply (W new)

    row_in : (reply : Reply) → StepRow k (W old) r (keeper_of x) (keeper_of y) (place k x) (place k y) reply → Rows reply
    row_in reply (inl (inl refused)) = inl (inl (inl (record {
      cause = at_place (λ p. RefusedAt (W old) p (Step r) (Some reply)) refused.0;
      same = λ j. record { places = (places_after ∙ ap (λ p. set (W old).places r p) refused.1 ∙ set_same (W old).places r (place k x) there) j; around = around j };
    })))
    row_in reply (inl (inr done)) = inl (inl (inr (record {
      allowed = at_place (λ p. RefusedAt (W old) p (Step r) None) done.0;
      moved = moved (λ p q. DoneAt (W old) (Step r) p q reply) done.1;
      says = tt;
      around = around;
    })))
    row_in reply (inr cut) = inl (inr (record {
      at = r;
      among = named_itself r;
      asked = at_place (AsksAt (W old) (Step r)) cut.2;
      cause = subst (λ (T : Type 0). T) (sym (rose_at k.faults)) cut.1;
      says = cut.3;
      moved = moved (CutShort (W old) (Step r) (OwnRose k desk_faults old new r)) (subst (λ (T : Type 0). CutShort (W old) (Step r) T (place k x) (place k y)) (sym (rose_at k.own)) cut.4);
      around = around;
    }))

    pub rows_in : (result : Result Reply ActError) → IfOk result (StepRow k (W old) r (keeper_of x) (keeper_of y) (place k x) (place k y)) → IfOk result Rows
    rows_in (Ok reply) row = row_in reply row
    rows_in (Err error) row = tt

    -- a desk of a peer failed
    pub failed_in : (row : List Bool) → IfSome (state_at (place k x)) (λ s. first_stored s ≡ None) → row ≡ peer_row (W old).around.down r 0 (W old).places → PeerFailed desk_faults row old.desks.items new.desks.items → RefusedAt (W old) (place k x) (Step r) None → GivesBack (place k x) (place k y) → Rows FaultPeer
    failed_in row lacks is failed allowed back = inr (record {
      at = failed.at;
      lacks = at_place (λ p. IfSome (state_at p) (λ s. first_stored s ≡ None)) lacks;
      among = ap (λ l. is_marked l failed.at) (sym is) ∙ failed.among;
      allowed = at_place (λ p. RefusedAt (W old) p (Step r) None) allowed;
      cause = failed.rose;
      says = refl;
      moved = moved (PeerBreaks (W old) (Step r)) back;
      around = around;
    })

    pub short_in : ShortAt (Step r) (place k x) (place k y) → LeavesStep (W old) (Step r) (W new)
    short_in short = record {
      there = within (W old).places r (place k x) there;
      moved = moved (ShortIn (W old) (Step r)) short;
      around = around;
    }
      where
        within : (places : List Place) (r : ℕ) (p : Place) → slice_get places r ≡ Some p → nat_lt r (length places) ≡ true
        within places r p is = let low = slice_get_within places r p is in grind (arith, nat_tests, low)

  paid_in : (faults : ℕ) → KeeperGoes k faults 0 (keeper_of x) (keeper_of y) → IsPaid faults 0 (own_in k old.seats.items) (armed_in k old.seats.items) (own_in k new.seats.items) (armed_in k new.seats.items)
  paid_in faults goes =
      subst (λ (news : List (Seat K D g h i)). IsPaid faults 0 (own_in k old.seats.items) (armed_in k old.seats.items) (own_in k news) (armed_in k news)) (sym after)
      (seat_sums _ _ _ _ _ _ _ _ faults
      (own_set) (own_within) (armed_set) goes.paid)
    where
      own_at : Seat K D g h i → ℕ
      own_at seat = k.own (keeper_of seat)

      armed : Seat K D g h i → ℕ
      armed seat = armed_at k (keeper_of seat)

      low : r < length old.seats.items
      low = slice_get_within old.seats.items r x stands

      own_set : own_in k (set old.seats.items r y) + k.own (keeper_of x) ≡ own_in k old.seats.items + k.own (keeper_of y)
      own_set = ap (λ (z : Seat K D g h i). own_in k (set old.seats.items r y) + k.own (keeper_of z)) (sym (get_or_from_slice_get old.seats.items r x x stands)) ∙ sum_by-set (λ (seat : Seat K D g h i). k.own (keeper_of seat)) old.seats.items r y x low

      own_within : k.own (keeper_of x) ≤ own_in k old.seats.items
      own_within = subst (λ (z : Seat K D g h i). k.own (keeper_of z) ≤ own_in k old.seats.items) (get_or_from_slice_get old.seats.items r x x stands) (get_or-le-sum_by (λ (seat : Seat K D g h i). k.own (keeper_of seat)) old.seats.items r x low)

      armed_set : armed_in k (set old.seats.items r y) + armed_at k (keeper_of x) ≡ armed_in k old.seats.items + armed_at k (keeper_of y)
      armed_set = ap (λ (z : Seat K D g h i). armed_in k (set old.seats.items r y) + armed_at k (keeper_of z)) (sym (get_or_from_slice_get old.seats.items r x x stands)) ∙ sum_by-set (λ (seat : Seat K D g h i). armed_at k (keeper_of seat)) old.seats.items r y x low

  module _ (quiet : Bool) (still : are_calm k old.seats.items ≡ true → quiet ≡ true) (desks : AllDesksGo k desk_faults quiet old.desks.items new.desks.items) where
    calm_in : {faults : ℕ} → KeeperGoes k faults 0 (keeper_of x) (keeper_of y) → is_calm k desk_faults old ≡ true → is_calm k desk_faults new ≡ true
    calm_in goes all =
        let parts = and_parts (are_calm k old.seats.items) (list_all (λ (list : List D). list_all (is_calm_desk k desk_faults) list) old.desks.items) all in
        and_from _ _ (ap (are_calm k) after ∙ calm_set k old.seats.items r x y stands goes parts.0) (desks_calm k desk_faults quiet old.desks.items new.desks.items desks (still parts.0) parts.1)

    own_later_in : {faults : ℕ} → KeeperGoes k faults 0 (keeper_of x) (keeper_of y) → AllLater (λ (seat : Seat K D g h i). k.own (keeper_of seat)) old.seats.items new.seats.items
    own_later_in goes = subst (λ (l : List (Seat K D g h i)). AllLater (λ (seat : Seat K D g h i). k.own (keeper_of seat)) old.seats.items l) (sym after)
        (later_set (λ (seat : Seat K D g h i). k.own (keeper_of seat)) old.seats.items old.seats.items r x y (later_same (λ (seat : Seat K D g h i). k.own (keeper_of seat)) old.seats.items) stands goes.paid.later)

    pub goes_in : (faults : ℕ) → KeeperGoes k faults 0 (keeper_of x) (keeper_of y) → WorldGoes k desk_faults faults 0 old new
    goes_in faults goes = record {
      paid = add_desks faults _ _ _ _ _ _ (desks_later k desk_faults quiet old.desks.items new.desks.items desks) (paid_in faults goes);
      calm = calm_in goes;
      own_later = own_later_in goes;
      desks_later = each_desks_later k desk_faults quiet old.desks.items new.desks.items desks;
      desks_stay = all_go k desk_faults quiet old.desks.items new.desks.items desks;
    }

    pub goes_failed : (row : List Bool) → PeerFailed desk_faults row old.desks.items new.desks.items → KeeperGoes k 0 0 (keeper_of x) (keeper_of y) → WorldGoes k desk_faults 1 0 old new
    goes_failed row failed goes =
        let paid = paid_in 0 goes in
        record {
          paid = add_fault _ _ _ _ _ _ (desks_rose k desk_faults quiet old.desks.items new.desks.items failed.at desks failed.rose) (desks_later k desk_faults quiet old.desks.items new.desks.items desks) paid.later paid.paid;
          calm = calm_in goes;
          own_later = own_later_in goes;
          desks_later = each_desks_later k desk_faults quiet old.desks.items new.desks.items desks;
          desks_stay = all_go k desk_faults quiet old.desks.items new.desks.items desks;
        }

-- a job that has begun is in flight
pub flying : (cid : Cid) (p q : Place) → Begun cid p q → IsFlying cid q
flying cid p q begun = subst (λ (place : Place). IsFlying cid place) (sym begun.after) (in_flight begun.run.queue cid begun.rest begun.waits)

-- what was found for it, by what it began with
found_at : (w w2 : WorldState) (r : ℕ) (p : Place) (own found : Option (List ℕ)) (cid : Cid) → peers_of w2 r ≡ peers_of w r → IfSome (state_at p) (λ s. own ≡ bytes_at (kept_of s.state.durable).graph cid) → IsFoundFor w2 r own cid found → IsFoundAt w r p cid found
found_at w w2 r p own found cid same stored is = over (state_at p) stored
  where
    over : (s : Option ReplicaState) → IfSome s (λ s. own ≡ bytes_at (kept_of s.state.durable).graph cid) → IfSome s (λ s. IsFound (kept_of s.state.durable) (peers_of w r) cid found)
    over None stored = tt
    over (Some s) stored = subst (λ (peers : List Place). IsFound (kept_of s.state.durable) peers cid found) same (is (kept_of s.state.durable) stored)

-- a job without bytes began for a block that is not stored
not_stored : (p q : Place) (job : Job) → BeginsJob job p q → job.own ≡ None → IfSome (state_at p) (λ s. first_stored s ≡ None)
not_stored p q job begins none = over p.content p.run begins.begun.runs begins.stored
  where
    over : (content : Option Kept) (run : Option Running) → run ≡ Some begins.begun.run → IfSome (state_of content p.fuse run) (λ s. job.own ≡ bytes_at (kept_of s.state.durable).graph job.cid) → IfSome (state_of content p.fuse run) (λ s. first_stored s ≡ None)
    over None run runs stored = tt
    over (Some kept) run runs stored =
        let Found : List Cid → Option (List ℕ) = λ l. option_and_then (bytes_at (kept_of (durable_of kept)).graph) (first_waiting (waits l)) in
        ap (λ (run : Option Running). Found (queue_in run).waiting) runs ∙ ap Found begins.begun.waits ∙ sym stored ∙ none

-- The worlds of a step: where it began, once the job has begun, once the bytes are found, and at its end.
pub record Stages {K D : Type 0} {g : keeper.Ghosts K D} {h : counted.Ghosts K} {i : counted.Ghosts D} (k : Members K D) (r : ℕ) (old mid found new : World K D g h i) (x y z : Seat K D g h i) : Type 0 where
  pub stands : slice_get old.seats.items r ≡ Some x
  pub begun_seats : mid.seats.items ≡ set old.seats.items r y
  pub begun_desks : mid.desks.items ≡ old.desks.items
  pub begun_bag : mid.bag ≡ old.bag
  pub begun_down : mid.down ≡ old.down
  pub begun_entries : mid.entries ≡ old.entries
  pub same : SameButDesks mid found
  pub ended_seats : new.seats.items ≡ set found.seats.items r z
  pub ended_desks : new.desks.items ≡ found.desks.items
  pub ended_bag : new.bag ≡ found.bag
  pub ended_down : new.down ≡ found.down
  pub ended_entries : new.entries ≡ found.entries

module _ {K D : Type 0} {g : keeper.Ghosts K D} {h : counted.Ghosts K} {i : counted.Ghosts D} (k : Members K D) (desk_faults : D → ℕ) (r : ℕ) where
  abbrev Acts : Result Reply ActError → World K D g h i → World K D g h i → Type 0
  Acts result old new = ActsOn k desk_faults (Step r) result old new

  -- no job begins

  module _ (old new : World K D g h i) (x y : Seat K D g h i) (stands : slice_get old.seats.items r ≡ Some x) (after : new.seats.items ≡ set old.seats.items r y)
      (desks : new.desks.items ≡ old.desks.items) (around : (state k desk_faults new).around ≡ (state k desk_faults old).around) (entries : new.entries ≡ old.entries) where
    same_desks : AllDesksGo k desk_faults true old.desks.items new.desks.items
    same_desks = subst (λ (l : List (List D)). AllDesksGo k desk_faults true old.desks.items l) (sym desks) (all_still k desk_faults true old.desks.items)

    acts_reply : (reply : Reply) → BeginsAt k (Ok (Err reply)) (place k x) (place k y) (keeper_of x) (keeper_of y) → Acts (Ok reply) old new
    acts_reply reply begins = record {
      row = row_in k desk_faults r old new x y stands after around reply (begins.early (state k desk_faults old) r);
      short = λ e. is_no_error e;
      not_bad = λ e. is_no_error e;
      goes = goes_in k desk_faults r old new x y stands after true (λ e. refl) same_desks (cond (is_fault reply) 1 0) begins.goes;
      entries_same = entries;
    }

    pub acts_early : (said : Result Job Reply) (reply : Reply) → said ≡ Err reply → BeginsAt k (Ok said) (place k x) (place k y) (keeper_of x) (keeper_of y) → Acts (Ok reply) old new
    acts_early said reply is begins = acts_reply reply (subst (λ (said : Result Job Reply). BeginsAt k (Ok said) (place k x) (place k y) (keeper_of x) (keeper_of y)) is begins)

    pub acts_short : (error : ActError) → BeginsAt k (Err error) (place k x) (place k y) (keeper_of x) (keeper_of y) → Acts (Err error) old new
    acts_short BadLine begins = absurd (begins.not_bad refl)
    acts_short Memory begins = record {
      row = tt;
      short = λ e. short_in k desk_faults r old new x y stands after around (begins.short r refl);
      not_bad = λ e. short_is_not_bad e;
      goes = goes_in k desk_faults r old new x y stands after true (λ e. refl) same_desks 0 begins.goes;
      entries_same = entries;
    }

  -- one begins, and ends

  module _ (old mid found new : World K D g h i) (x y z : Seat K D g h i) (stages : Stages k r old mid found new x y z) (job : Job) (said : Result Job Reply) (is_said : said ≡ Ok job)
      (begun : BeginsAt k (Ok said) (place k x) (place k y) (keeper_of x) (keeper_of y)) (desks : AllDesksGo k desk_faults (are_calm k mid.seats.items) mid.desks.items found.desks.items) where
    begins : BeginsAt k (Ok (Ok job)) (place k x) (place k y) (keeper_of x) (keeper_of y)
    begins = subst (λ (said : Result Job Reply). BeginsAt k (Ok said) (place k x) (place k y) (keeper_of x) (keeper_of y)) is_said begun

    after : new.seats.items ≡ set old.seats.items r z
    after = stages.ended_seats ∙ ap (λ l. set l r z) (ap (λ v. v.items) stages.same.seats_same ∙ stages.begun_seats) ∙ set_twice old.seats.items r y z

    around : (state k desk_faults new).around ≡ (state k desk_faults old).around
    around = λ j. record {
      bag = (stages.ended_bag ∙ stages.same.bag_same ∙ stages.begun_bag) j;
      down = (ap (λ v. v.items) (stages.ended_down ∙ stages.same.down_same ∙ stages.begun_down)) j;
    }

    entries : new.entries ≡ old.entries
    entries = stages.ended_entries ∙ stages.same.entries_same ∙ stages.begun_entries

    still : are_calm k old.seats.items ≡ true → are_calm k mid.seats.items ≡ true
    still calm = ap (are_calm k) stages.begun_seats ∙ calm_set k old.seats.items r x y stages.stands begins.goes calm

    all_desks : AllDesksGo k desk_faults (are_calm k mid.seats.items) old.desks.items new.desks.items
    all_desks = subst (λ (l : List (List D)). AllDesksGo k desk_faults (are_calm k mid.seats.items) old.desks.items l) (sym stages.ended_desks)
        (subst (λ (l : List (List D)). AllDesksGo k desk_faults (are_calm k mid.seats.items) l found.desks.items) stages.begun_desks desks)

    mid_places : (state k desk_faults mid).places ≡ set (state k desk_faults old).places r (place k y)
    mid_places = ap (map (place k)) stages.begun_seats ∙ map-set (place k) old.seats.items r y

    peers_mid : peers_of (state k desk_faults mid) r ≡ peers_of (state k desk_faults old) r
    peers_mid = (λ j. peers_among (ap (λ v. v.items) stages.begun_down j) r (mid_places j)) ∙ same_peers old.down.items r (place k y) (state k desk_faults old).places

    row_mid : peer_row mid.down.items r 0 (state k desk_faults mid).places ≡ peer_row old.down.items r 0 (state k desk_faults old).places
    row_mid = (λ j. peer_row (ap (λ v. v.items) stages.begun_down j) r 0 (mid_places j)) ∙ same_row old.down.items r (place k y) (state k desk_faults old).places

    no_more : (n : ℕ) → 0 + n ≡ n
    no_more n = omega arith

    then_goes : (faults : ℕ) → KeeperGoes k faults 0 (keeper_of y) (keeper_of z) → KeeperGoes k faults 0 (keeper_of x) (keeper_of z)
    then_goes faults goes = subst (λ n. KeeperGoes k n 0 (keeper_of x) (keeper_of z)) (no_more faults) (keeper_then begins.goes goes)

    -- by a delivery
    pub acts_done : (bytes : Option (List ℕ)) (result : Result Reply ActError) (y2 : Seat K D g h i) → y2 ≡ y → IsFoundFor (state k desk_faults mid) r job.own job.cid bytes
        → DeliversAt k job.cid bytes result (place k y2) (place k z) (keeper_of y2) (keeper_of z) → Acts result old new
    acts_done bytes result y2 is is_found delivered = done result (subst (λ (s : Seat K D g h i). DeliversAt k job.cid bytes result (place k s) (place k z) (keeper_of s) (keeper_of z)) is delivered)
      where
        done : (result : Result Reply ActError) → DeliversAt k job.cid bytes result (place k y) (place k z) (keeper_of y) (keeper_of z) → Acts result old new
        done result delivers = record {
          row = rows_in k desk_faults r old new x z stages.stands after around result
              (subst (λ n. IfOk result (PlaceRow (state k desk_faults old) (Step r) (Rose n (k.faults (keeper_of z))) (Rose (k.own (keeper_of x)) (k.own (keeper_of z))) (place k x) (place k z))) begins.begins.1.faults_same
              (subst (λ n. IfOk result (PlaceRow (state k desk_faults old) (Step r) (Rose (k.faults (keeper_of y)) (k.faults (keeper_of z))) (Rose n (k.own (keeper_of z))) (place k x) (place k z))) begins.begins.1.own_same
              (delivers.row (state k desk_faults old) r (place k x) begins.begins.0.begun
              (found_at (state k desk_faults old) (state k desk_faults mid) r (place k x) job.own bytes job.cid peers_mid begins.begins.0.stored is_found))));
          short = λ e. short_in k desk_faults r old new x z stages.stands after around (delivers.short r (place k x) begins.begins.0.begun e);
          not_bad = delivers.not_bad;
          goes = goes_in k desk_faults r old new x z stages.stands after (are_calm k mid.seats.items) still all_desks (cond (answers_fault result) 1 0) (then_goes (cond (answers_fault result) 1 0) delivers.goes);
          entries_same = entries;
        }

    -- or given back
    pub acts_back : (error : FetchError) (y2 : Seat K D g h i) (result : Result Reply ActError) → y2 ≡ y → result ≡ given_up_of error
        → (is_peer_fault {T = ⊤} (Err error) ≡ true → PeerFailed desk_faults (peer_row mid.down.items r 0 (map (place k) mid.seats.items)) mid.desks.items found.desks.items)
        → (is_peer_fault {T = ⊤} (Err error) ≡ true → job.own ≡ None)
        → BacksAt k job.cid (place k y2) (place k z) (keeper_of y2) (keeper_of z) → Acts result old new
    acts_back error y2 result is says failed lacks backed = subst (λ (result : Result Reply ActError). Acts result old new) (sym says)
        (by_error error failed lacks (subst (λ (s : Seat K D g h i). BacksAt k job.cid (place k s) (place k z) (keeper_of s) (keeper_of z)) is backed))
      where
        goes_back : BacksAt k job.cid (place k y) (place k z) (keeper_of y) (keeper_of z) → KeeperGoes k 0 0 (keeper_of x) (keeper_of z)
        goes_back backs = then_goes 0 (keeper_same backs.same)

        failed_old : (row : List Bool) → PeerFailed desk_faults row mid.desks.items found.desks.items → PeerFailed desk_faults row old.desks.items new.desks.items
        failed_old row fails = subst (λ (l : List (List D)). PeerFailed desk_faults row old.desks.items l) (sym stages.ended_desks)
            (subst (λ (l : List (List D)). PeerFailed desk_faults row l found.desks.items) stages.begun_desks fails)

        down_not : is_down (place k x).run ≡ false
        down_not = ap is_down begins.begins.0.begun.runs

        by_error : (error : FetchError) → (is_peer_fault {T = ⊤} (Err error) ≡ true → PeerFailed desk_faults (peer_row mid.down.items r 0 (map (place k) mid.seats.items)) mid.desks.items found.desks.items)
            → (is_peer_fault {T = ⊤} (Err error) ≡ true → job.own ≡ None)
            → BacksAt k job.cid (place k y) (place k z) (keeper_of y) (keeper_of z) → Acts (given_up_of error) old new
        by_error Failed failed lacks backs =
            let fails = failed_old (peer_row mid.down.items r 0 (map (place k) mid.seats.items)) (failed refl) in
            record {
              row = failed_in k desk_faults r old new x z stages.stands after around (peer_row mid.down.items r 0 (map (place k) mid.seats.items)) (not_stored (place k x) (place k y) job begins.begins.0 (lacks refl)) row_mid fails
                  (allowed_at (state k desk_faults old) (place k x).content (place k x).fuse (place k x).run (place k x).planted r down_not) (backs.back (place k x) begins.begins.0.begun);
              short = λ e. is_no_error e;
              not_bad = λ e. is_no_error e;
              goes = goes_failed k desk_faults r old new x z stages.stands after (are_calm k mid.seats.items) still all_desks (peer_row mid.down.items r 0 (map (place k) mid.seats.items)) fails (goes_back backs);
              entries_same = entries;
            }
        by_error FetchMemory failed lacks backs = record {
          row = tt;
          short = λ e. short_in k desk_faults r old new x z stages.stands after around (backs.short r (place k x) begins.begins.0.begun);
          not_bad = λ e. short_is_not_bad e;
          goes = goes_in k desk_faults r old new x z stages.stands after (are_calm k mid.seats.items) still all_desks 0 (goes_back backs);
          entries_same = entries;
        }
