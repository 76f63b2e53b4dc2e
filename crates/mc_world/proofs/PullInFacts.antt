-- A work or a repair of a replica among others: from its parts to the step of the world.
use Rattle.std.proofs.Common.{◌≡◌, ◌∙◌, ℕ, zero, suc, ◌-◌, ◌^◌, ◌≤◌, ◌<◌, arith, Bool, true, false, List, [], ◌∷◌, length, map, set, Option, Some, None, refl, sym, ap, subst, inl, inr}
use Rattle.std.specs.Prelude.{nat_eq, IfSome, is_some, min, nat_lt, slice_get, unwrap_or}
use Rattle.std.specs.List.{AllZip, insert, remove, sum_by}
use Rattle.std.specs.Option.{option_map}
use Rattle.std.proofs.lemmas.Bool.{false≢true}
use Rattle.std.proofs.lemmas.Bool.Decides.{nat_tests}
use Rattle.std.proofs.lemmas.List.{map-set}
use Rattle.std.proofs.lemmas.Option.{slice_get-map, slice_get_within}
use Rattle.mc_base.specs.Causes.{Rose}
use Rattle.mc_base.specs.declared.counted.Counted as counted
use Rattle.mc_keep.specs.Calls.{Members}
use Rattle.mc_keep.specs.declared.keeper.Keeper as keeper
use Rattle.mc_pull.specs.Pulls.{DeskGoes, DeskListGoes, DeskRose as ListRose}
use Rattle.mc_script.specs.declared.command.Command.{Command}
use Rattle.mc_script.specs.declared.reply.Reply.{Reply}
use Rattle.mc_script.specs.declared.reply.Reply.TheVariants.{FaultKeeper, FaultPeer}
use Rattle.mc_seats.specs.declared.seat.Seat.{Seat}
use Rattle.mc_seats.specs.declared.world.World.{World}
use Rattle.mc_seats.specs.Asks.{focus, is_named, is_there, may_fail}
use Rattle.mc_seats.specs.Desked.{desks_each, is_full_list}
use Rattle.mc_seats.specs.Keepers.{DeskStays, desk_count, keeper_of}
use Rattle.mc_seats.specs.Effects.{AsksAt, DoneAt, RefusedAt}
use Rattle.mc_seats.specs.Record.{RoseAt, RoseIn}
use Rattle.mc_seats.specs.Doing.{doing}
use Rattle.mc_seats.specs.Step.{Asks, CutShort, LeavesStep, PeerBreaks, Refuses, Row, Says, Sets, ShortIn, asks_peer, lacks_by}
use Rattle.mc_seats.specs.StepParts.{AllDesksGo, DesksGo, PeerFailed}
use Rattle.mc_seats.specs.Words.{DeskRose, KeeperRose, OwnRose, place, state}
use Rattle.mc_seats.specs.Worlds.{AtPlace, Moved, MovedAt, Place, WorldState, is_marked, peer_row}
use Rattle.mc_seats.proofs.SeatFacts.{get_of_set, set_of_get}
use Rattle.mc_seats.proofs.StayFacts.{list_stays}

-- where a thing stands in a list, of which another was taken out
abbrev skip : ℕ → ℕ → ℕ
skip zero at = suc at
skip (suc r) zero = zero
skip (suc r) (suc at) = suc (skip r at)

none_is : {A P : Type 0} {x : A} → None ≡ Some x → P
none_is e = absurd (false≢true (ap is_some e))

get_removed : {A : Type 0} (xs : List A) (r at : ℕ) → slice_get (remove xs r) at ≡ slice_get xs (skip r at)
get_removed [] zero at = refl
get_removed [] (suc r) at = refl
get_removed (x ∷ xs) zero at = refl
get_removed (x ∷ xs) (suc r) zero = refl
get_removed (x ∷ xs) (suc r) (suc at) = get_removed xs r at

get_inserted : {A : Type 0} (ys : List A) (r at : ℕ) (x : A) → r ≤ length ys → slice_get (insert ys r x) (skip r at) ≡ slice_get ys at
get_inserted ys zero at x within = refl
get_inserted [] (suc r) at x within = absurd (omega (arith, within))
get_inserted (y ∷ ys) (suc r) zero x within = refl
get_inserted (y ∷ ys) (suc r) (suc at) x within = get_inserted ys r at x (omega (arith, within))

-- the desks of all, where those of one were taken out meanwhile

full_of : {D : Type 0} (xs ys : List D) → length ys ≡ length xs → is_full_list xs ≡ true → is_full_list ys ≡ true
full_of xs ys many is = ap (λ n. nat_eq n desks_each) many ∙ is

module _ {K D : Type 0} (k : Members K D) (desk_faults : D → ℕ) where
  each_stays : (quiet : Bool) (olds news : List D) → AllZip (DeskGoes k desk_faults quiet) olds news → AllZip (DeskStays k desk_faults) olds news
  each_stays quiet [] [] goes = tt
  each_stays quiet [] (new ∷ news) goes = absurd goes
  each_stays quiet (old ∷ olds) [] goes = absurd goes
  each_stays quiet (old ∷ olds) (new ∷ news) goes = (record { later = goes.0.grows; plan = goes.0.plan }, each_stays quiet olds news goes.1)

  pub lists_go : (quiet : Bool) (desks left : List (List D)) → AllZip (DeskListGoes k desk_faults quiet) desks left → AllDesksGo k desk_faults quiet desks left
  lists_go quiet [] [] goes = tt
  lists_go quiet [] (n ∷ left) goes = absurd goes
  lists_go quiet (o ∷ desks) [] goes = absurd goes
  lists_go quiet (o ∷ desks) (n ∷ left) goes = (record { each = each_stays quiet o n goes.0.each; full = full_of o n goes.0.many; later = goes.0.later; calm = goes.0.calm }, lists_go quiet desks left goes.1)

  same_desks : (quiet : Bool) (old new : List D) → new ≡ old → DesksGo k desk_faults quiet old new
  same_desks quiet old new same = subst (DesksGo k desk_faults quiet old) (sym same) (record { each = list_stays k desk_faults old; full = λ e. e; later = omega arith; calm = λ q e. e })

  pub insert_go : (quiet : Bool) (xs ys : List (List D)) (r : ℕ) (x : List D) → slice_get xs r ≡ Some x → AllDesksGo k desk_faults quiet (remove xs r) ys → AllDesksGo k desk_faults quiet xs (insert ys r x)
  insert_go quiet [] ys r x stands goes = none_is stands
  insert_go quiet (z ∷ xs) ys zero x stands goes = (same_desks quiet z x (sym (ap (λ o. unwrap_or o z) stands)), goes)
  insert_go quiet (z ∷ xs) [] (suc r) x stands goes = absurd goes
  insert_go quiet (z ∷ xs) (y ∷ ys) (suc r) x stands goes = (goes.0, insert_go quiet xs ys r x stands goes.1)

  long : (quiet : Bool) (desks left : List (List D)) → AllZip (DeskListGoes k desk_faults quiet) desks left → length left ≡ length desks
  long quiet [] [] goes = refl
  long quiet [] (n ∷ left) goes = absurd goes
  long quiet (o ∷ desks) [] goes = absurd goes
  long quiet (o ∷ desks) (n ∷ left) goes = ap suc (long quiet desks left goes.1)

  counts_rose : (a b : ℕ) → a < b → Rose (min a (2 ^ 64 - 1)) (min b (2 ^ 64 - 1))
  counts_rose a b less = grind (arith, less)

  removed_long : {A : Type 0} (xs : List A) (r : ℕ) (x : A) → slice_get xs r ≡ Some x → r ≤ length (remove xs r)
  removed_long [] r x stands = none_is stands
  removed_long (z ∷ xs) zero x stands = omega arith
  removed_long (z ∷ xs) (suc r) x stands = let less = removed_long xs r x stands in omega (arith, less)

  pub peer_failed : (quiet : Bool) (marks : List Bool) (olds left : List (List D)) (r : ℕ) (list : List D) → slice_get olds r ≡ Some list → AllZip (DeskListGoes k desk_faults quiet) (remove olds r) left → ListRose desk_faults (remove marks r) (remove olds r) left
      → PeerFailed desk_faults marks olds (insert left r list)
  peer_failed quiet marks olds left r list stands goes rose = record {
    at = skip r rose.at;
    among = ap (λ o. unwrap_or o false) (sym (get_removed marks r rose.at) ∙ rose.marked);
    rose = subst (λ (o : Option (List D)). RoseAt (desk_count desk_faults) o (slice_get (insert left r list) (skip r rose.at))) (get_removed olds r rose.at)
        (subst (λ (o : Option (List D)). RoseAt (desk_count desk_faults) (slice_get (remove olds r) rose.at) o) (sym (get_inserted left r rose.at list (let less = removed_long olds r list stands in let many = long quiet (remove olds r) left goes in omega (arith, less, many))))
        (subst (λ (o : Option (List D)). RoseAt (desk_count desk_faults) o (slice_get left rose.at)) (sym rose.stood)
        (subst (λ (o : Option (List D)). RoseAt (desk_count desk_faults) (Some rose.old) o) (sym rose.stands) (counts_rose (sum_by desk_faults rose.old) (sum_by desk_faults rose.new) rose.rose))));
  }

-- the rows of a world
module _ {K D : Type 0} {g : keeper.Ghosts K D} {h : counted.Ghosts K} {i : counted.Ghosts D} (k : Members K D) (desk_faults : D → ℕ) (r : ℕ) (old new : World K D g h i) (x y : Seat K D g h i)
    (stands : slice_get old.seats.items r ≡ Some x) (after : new.seats.items ≡ set old.seats.items r y) (around : (state k desk_faults new).around ≡ (state k desk_faults old).around) where
  abbrev W : World K D g h i → WorldState
  W = state k desk_faults

  there : slice_get (W old).places r ≡ Some (place k x)
  there = slice_get-map (place k) old.seats.items r ∙ ap (option_map (place k)) stands

  places_after : (W new).places ≡ set (W old).places r (place k y)
  places_after = ap (map (place k)) after ∙ map-set (place k) old.seats.items r y

  at_place : (P : Place → Type 0) → P (place k x) → AtPlace (W old) r P
  at_place P holds = subst (λ (o : Option Place). IfSome o P) (sym there) holds

  rose_at : (count : K → ℕ) → Rose (count (keeper_of x)) (count (keeper_of y)) → RoseIn (λ (seat : Seat K D g h i). count (keeper_of seat)) old.seats.items new.seats.items r
  rose_at count rose =
      subst (λ (o : Option (Seat K D g h i)). RoseAt (λ (seat : Seat K D g h i). count (keeper_of seat)) o (slice_get new.seats.items r)) (sym stands)
      (subst (λ (o : Option (Seat K D g h i)). RoseAt (λ (seat : Seat K D g h i). count (keeper_of seat)) (Some x) o) (sym (ap (λ l. slice_get l r) after ∙ get_of_set old.seats.items r x y stands)) rose)

  own_is : RoseIn (λ (seat : Seat K D g h i). k.own (keeper_of seat)) old.seats.items new.seats.items r ≡ Rose (k.own (keeper_of x)) (k.own (keeper_of y))
  own_is = λ j. RoseAt (λ (seat : Seat K D g h i). k.own (keeper_of seat)) (stands j) ((ap (λ l. slice_get l r) after ∙ get_of_set old.seats.items r x y stands) j)

  moved : (P : Place → Place → Type 0) → P (place k x) (place k y) → Moved r (W old).places (W new).places P
  moved P holds = record { old = place k x; new = place k y; stands = there; after = places_after; holds = holds }

  module _ (command : Command) (of : focus command ≡ Some r) where
    moved_at : (P : Place → Place → Type 0) → P (place k x) (place k y) → MovedAt (focus command) (W old).places (W new).places P
    moved_at P holds = subst (λ (o : Option ℕ). MovedAt o (W old).places (W new).places P) (sym of) (moved P holds)

    abbrev Rows : Reply → Type 0
    Rows reply = Row (W old) command (KeeperRose k desk_faults old new) (OwnRose k desk_faults old new) (DeskRose k desk_faults old new) reply (W new)

    pub row_refused : (reply : Reply) → (AtPlace (W old) r (λ p. RefusedAt (W old) p command (Some reply)) → Refuses (W old) command (Some reply)) → RefusedAt (W old) (place k x) command (Some reply) → place k y ≡ place k x → Rows reply
    row_refused reply refuses refused same = inl (inl (inl (record {
      cause = refuses (at_place (λ p. RefusedAt (W old) p command (Some reply)) refused);
      same = λ j. record { places = (places_after ∙ ap (λ p. set (W old).places r p) same ∙ set_of_get (W old).places r (place k x) there) j; around = around j };
    })))

    pub row_done : (reply : Reply) → (AtPlace (W old) r (λ p. RefusedAt (W old) p command None) → Refuses (W old) command None) → Says (W old) command reply → Sets (W old) command reply (W new).around → RefusedAt (W old) (place k x) command None
        → DoneAt (W old) command (place k x) (place k y) reply → Rows reply
    row_done reply refuses says sets allowed done = inl (inl (inr (record {
      allowed = refuses (at_place (λ p. RefusedAt (W old) p command None) allowed);
      moved = moved_at (λ p q. DoneAt (W old) command p q reply) done;
      says = says;
      around = sets;
    })))

    pub row_cut : (AtPlace (W old) r (AsksAt (W old) command) → Asks (W old) command) → is_named (may_fail command) r ≡ true → AsksAt (W old) command (place k x) → Rose (k.faults (keeper_of x)) (k.faults (keeper_of y))
        → CutShort (W old) command (Rose (k.own (keeper_of x)) (k.own (keeper_of y))) (place k x) (place k y) → Rows FaultKeeper
    row_cut asks named asked cause cut = inl (inr (record {
      at = r;
      among = named;
      asked = asks (at_place (AsksAt (W old) command) asked);
      cause = rose_at k.faults cause;
      says = refl;
      moved = moved (CutShort (W old) command (OwnRose k desk_faults old new r)) (subst (λ (T : Type 0). CutShort (W old) command T (place k x) (place k y)) (sym own_is) cut);
      around = around;
    }))

    pub row_peer : lacks_by (W old) (doing command) → (AtPlace (W old) r (λ p. RefusedAt (W old) p command None) → Refuses (W old) command None) → ((at : ℕ) → is_marked (peer_row (W old).around.down r 0 (W old).places) at ≡ true → asks_peer (W old) command at ≡ true)
        → RefusedAt (W old) (place k x) command None → PeerFailed desk_faults (peer_row (W old).around.down r 0 (W old).places) old.desks.items new.desks.items → PeerBreaks (W old) command (place k x) (place k y) → Rows FaultPeer
    row_peer lacks refuses peer allowed failed breaks = inr (record {
      at = failed.at;
      among = peer failed.at failed.among;
      lacks = lacks;
      allowed = refuses (at_place (λ p. RefusedAt (W old) p command None) allowed);
      cause = failed.rose;
      says = refl;
      moved = moved_at (PeerBreaks (W old) command) breaks;
      around = around;
    })

    pub short_row : (nat_lt r (length (W old).places) ≡ true → is_there (W old) command ≡ true) → ShortIn (W old) command (place k x) (place k y) → LeavesStep (W old) command (W new)
    short_row here short = record {
      there = here (within (W old).places r (place k x) there);
      moved = moved_at (ShortIn (W old) command) short;
      around = around;
    }
      where
        within : (places : List Place) (r : ℕ) (p : Place) → slice_get places r ≡ Some p → nat_lt r (length places) ≡ true
        within places r p is = let low = slice_get_within places r p is in grind (arith, nat_tests, low)
