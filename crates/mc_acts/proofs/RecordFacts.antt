-- The entry of a line.
use Rattle.std.proofs.Common.{◌≡◌, ◌<◌, ◌++◌, ◌+◌, ℕ, zero, suc, Bool, true, false, true≢false, List, [], ◌∷◌, Option, Some, None, Ok, Err, refl, sym, subst, ap, inl, inr, ◌∙◌, arith, length, nat_lt}
use Rattle.std.specs.Prelude.{◌==◌, ◌||◌, ◌&&◌, ◌↔◌, cond, IfSome, map, nat_eq}
use Rattle.std.specs.List.{list_all, list_any, slice_get, sum_by}
use Rattle.std.specs.Option.{option_map}
use Rattle.std.proofs.lemmas.Bool.Decides.{nat_tests}
use Rattle.std.proofs.lemmas.Bool.{eq-eqb, eqb-true, ltb-true}
use Rattle.std.proofs.lemmas.List.Sums.{sum_by-cons}
use Rattle.std.proofs.lemmas.Option.{slice_get-map}
use Rattle.mc_base.specs.Causes.{Rose}
use Rattle.mc_base.specs.declared.counted.Counted as counted
use Rattle.mc_core.specs.Events.{ReplicaState}
use Rattle.mc_keep.specs.Calls.{Members}
use Rattle.mc_keep.specs.declared.keeper.Keeper as keeper
use Rattle.mc_script.specs.declared.command.Command.{Command}
use Rattle.mc_script.specs.declared.command.Command.TheVariants.{Del, Import, Step as StepOf, Storm}
use Rattle.mc_script.specs.declared.reply.Reply.{Reply}
use Rattle.mc_seats.specs.declared.bag.Bag.{Bag}
use Rattle.mc_seats.specs.declared.error.ActError.TheVariants.{Memory}
use Rattle.mc_seats.specs.declared.entry.LineEntry.{LineEntry}
use Rattle.mc_acts.specs.declared.record.Counts.{Counts}
use Rattle.mc_seats.specs.declared.seat.Seat.{Seat}
use Rattle.mc_seats.specs.declared.world.World.{World}
use Rattle.mc_seats.specs.Asks.{among_by, arms, focus, focus_by, has_car, has_message, is_named, is_there}
use Rattle.mc_seats.specs.Doing.{At, Doing, Hears, Imports, doing}
use Rattle.mc_acts.specs.Counting.{HasRecord, desk_counts, entry_since, firsts, keeper_counts, risen_from, rises, seconds}
use Rattle.mc_seats.specs.Keepers.{AllLater, DesksStay, IsPaid, WorldGoes, armed_in, counted_in, desk_count, desks_in, is_calm, is_calm_desk, is_calm_keeper, keeper_of, own_in}
use Rattle.mc_seats.specs.Effects.{Leaves}
use Rattle.mc_seats.specs.Record.{NamesRisen, RoseAt, RoseIn}
use Rattle.mc_seats.specs.Step.{LeavesStep, Row, ShortIn, is_fault}
use Rattle.mc_seats.specs.Words.{ActsOn, DeskRose, KeeperRose, Names, OwnRose, Records, Shortens, state}
use Rattle.mc_seats.specs.Worlds.{MovedAt, WorldState, places_of}
use Rattle.mc_seats.proofs.SeatFacts.{both, fewer, first, paid_none, rest, set_of_get}
use Rattle.mc_acts.proofs.LiftFacts.{later_same, short_self}
use Rattle.mc_seats.proofs.WorkedFacts.{cut_map, short_still}
use Rattle.mc_seats.proofs.StayFacts.{all_stay}

-- whether the counts at a place rose

abbrev rises_at : Option ℕ → Option ℕ → Bool
rises_at None new = false
rises_at (Some old) None = false
rises_at (Some old) (Some new) = rises old new

rises_rose : (old new : ℕ) → (rises old new ≡ true) ↔ Rose old new
rises_rose old new = (λ is. grind (arith, nat_tests, is), λ rose. grind (arith, nat_tests, rose))

any_append : (test : ℕ → Bool) (xs ys : List ℕ) → list_any test (xs ++ ys) ≡ (list_any test xs || list_any test ys)
any_append test [] ys = refl
any_append test (x ∷ xs) ys = elim (test x) as (λ b. (b || list_any test (xs ++ ys)) ≡ ((b || list_any test xs) || list_any test ys)) [ true ↦ refl | false ↦ any_append test xs ys ]

not_below : (n m : ℕ) → m < n → (n == m) ≡ false
not_below n m below = grind (arith, nat_tests, below)

none_below : (n m : ℕ) (olds news : List ℕ) → m < n → is_named (risen_from n olds news) m ≡ false
none_below n m [] news below = refl
none_below n m (old ∷ olds) [] below = refl
none_below n m (old ∷ olds) (new ∷ news) below =
    let next = none_below (n + 1) m olds news (omega (arith, below)) in
    any_append (λ k. k == m) (cond (rises old new) (n ∷ []) []) (risen_from (n + 1) olds news)
    ∙ (elim (rises old new) as (λ b. (list_any (λ k. k == m) (cond b (n ∷ []) []) || is_named (risen_from (n + 1) olds news) m) ≡ false) [
      | true ↦ ap (λ b. (b || false) || is_named (risen_from (n + 1) olds news) m) (not_below n m below) ∙ next
      | false ↦ next
    ])

named_from : (n r : ℕ) (olds news : List ℕ) → is_named (risen_from n olds news) (n + r) ≡ rises_at (slice_get olds r) (slice_get news r)
named_from n r [] news = none_at (slice_get news r)
  where
    none_at : (new : Option ℕ) → false ≡ rises_at None new
    none_at new = refl
named_from n r (old ∷ olds) [] = none_new (slice_get (old ∷ olds) r)
  where
    none_new : (o : Option ℕ) → false ≡ rises_at o None
    none_new None = refl
    none_new (Some o) = refl
named_from n zero (old ∷ olds) (new ∷ news) =
    let none = none_below (n + 1) (n + 0) olds news (omega arith) in
    any_append (λ k. k == n + 0) (cond (rises old new) (n ∷ []) []) (risen_from (n + 1) olds news)
    ∙ (elim (rises old new) as (λ b. (list_any (λ k. k == n + 0) (cond b (n ∷ []) []) || is_named (risen_from (n + 1) olds news) (n + 0)) ≡ b) [
      | true ↦ ap (λ b. (b || false) || is_named (risen_from (n + 1) olds news) (n + 0)) (eq-eqb n (n + 0) (omega arith))
      | false ↦ none
    ])
named_from n (suc r) (old ∷ olds) (new ∷ news) =
    let next = named_from (n + 1) r olds news in
    any_append (λ k. k == n + suc r) (cond (rises old new) (n ∷ []) []) (risen_from (n + 1) olds news)
    ∙ (elim (rises old new) as (λ b. (list_any (λ k. k == n + suc r) (cond b (n ∷ []) []) || is_named (risen_from (n + 1) olds news) (n + suc r)) ≡ rises_at (slice_get olds r) (slice_get news r)) [
      | true ↦ ap (λ b. (b || false) || is_named (risen_from (n + 1) olds news) (n + suc r)) (differ n r) ∙ here next
      | false ↦ here next
    ])
  where
    differ : (n r : ℕ) → (n == n + suc r) ≡ false
    differ n r = grind (arith, nat_tests)

    here : is_named (risen_from (n + 1) olds news) (n + 1 + r) ≡ rises_at (slice_get olds r) (slice_get news r) → is_named (risen_from (n + 1) olds news) (n + suc r) ≡ rises_at (slice_get olds r) (slice_get news r)
    here next = subst (λ (m : ℕ). is_named (risen_from (n + 1) olds news) m ≡ rises_at (slice_get olds r) (slice_get news r)) (omega arith) next

rises_counts : {A : Type 0} (count : A → ℕ) (old new : Option A) → (rises_at (option_map count old) (option_map count new) ≡ true) ↔ RoseAt count old new
rises_counts count None new = (λ is. absurd (true≢false (sym is)), λ rose. absurd rose)
rises_counts count (Some old) None = (λ is. absurd (true≢false (sym is)), λ rose. absurd rose)
rises_counts count (Some old) (Some new) = rises_rose (count old) (count new)

pub names_risen : {A : Type 0} (count : A → ℕ) (olds news : List A) → NamesRisen count olds news (risen_from 0 (map count olds) (map count news))
names_risen count olds news r =
    let same : is_named (risen_from 0 (map count olds) (map count news)) r ≡ rises_at (option_map count (slice_get olds r)) (option_map count (slice_get news r)) =
    subst (λ (m : ℕ). is_named (risen_from 0 (map count olds) (map count news)) m ≡ rises_at (slice_get (map count olds) r) (slice_get (map count news) r)) (omega arith) (named_from 0 r (map count olds) (map count news))
    ∙ (λ t. rises_at (slice_get-map count olds r t) (slice_get-map count news r t)) in
    let decides = rises_counts count (slice_get olds r) (slice_get news r) in
    (λ is. decides.0 (sym same ∙ is), λ rose. same ∙ decides.1 rose)

-- a row under other words

pub row_under : (w w2 : WorldState) (command : Command) (Keeper Own Desk KeeperAfter OwnAfter DeskAfter : ℕ → Type 0) (reply : Reply) → ((r : ℕ) → Keeper r → KeeperAfter r) → ((r : ℕ) → Own r → OwnAfter r) → ((r : ℕ) → Desk r → DeskAfter r) → Row w command Keeper Own Desk reply w2 → Row w command KeeperAfter OwnAfter DeskAfter reply w2
row_under w w2 command Keeper Own Desk KeeperAfter OwnAfter DeskAfter reply f g h (inl (inl calm)) = inl (inl calm)
row_under w w2 command Keeper Own Desk KeeperAfter OwnAfter DeskAfter reply f g h (inl (inr fault)) = inl (inr (record {
  at = fault.at;
  among = fault.among;
  asked = fault.asked;
  cause = f fault.at fault.cause;
  says = fault.says;
  moved = record { old = fault.moved.old; new = fault.moved.new; stands = fault.moved.stands; after = fault.moved.after; holds = cut_map w command (Own fault.at) (OwnAfter fault.at) fault.moved.old fault.moved.new (g fault.at) fault.moved.holds };
  around = fault.around;
}))
row_under w w2 command Keeper Own Desk KeeperAfter OwnAfter DeskAfter reply f g h (inr fault) = inr (record {
  at = fault.at;
  among = fault.among;
  lacks = fault.lacks;
  allowed = fault.allowed;
  cause = h fault.at fault.cause;
  says = fault.says;
  moved = fault.moved;
  around = fault.around;
})

-- counts that are all zero do not rise

zero_stays : (old new : ℕ) → nat_eq old 0 ≡ true → nat_eq new 0 ≡ true → rises old new ≡ false
zero_stays old new is now = grind (arith, nat_tests, is, now)

none_rise : (n : ℕ) (olds news : List ℕ) → list_all (λ c. nat_eq c 0) olds ≡ true → list_all (λ c. nat_eq c 0) news ≡ true → risen_from n olds news ≡ []
none_rise n [] news zeros nows = refl
none_rise n (old ∷ olds) [] zeros nows = refl
none_rise n (old ∷ olds) (new ∷ news) zeros nows =
    (λ t. cond (zero_stays old new (first (nat_eq old 0) (list_all (λ c. nat_eq c 0) olds) zeros) (first (nat_eq new 0) (list_all (λ c. nat_eq c 0) news) nows) t) (n ∷ []) [] ++ risen_from (n + 1) olds news)
    ∙ none_rise (n + 1) olds news (rest (nat_eq old 0) (list_all (λ c. nat_eq c 0) olds) zeros) (rest (nat_eq new 0) (list_all (λ c. nat_eq c 0) news) nows)

zero_all : {A : Type 0} (quiet : A → Bool) (count : A → ℕ) (xs : List A) → list_all (λ x. quiet x && nat_eq (count x) 0) xs ≡ true → list_all (λ c. nat_eq c 0) (map count xs) ≡ true
zero_all quiet count [] is = refl
zero_all quiet count (x ∷ xs) is =
    both (nat_eq (count x) 0) (list_all (λ c. nat_eq c 0) (map count xs))
    (rest (quiet x) (nat_eq (count x) 0) (first (quiet x && nat_eq (count x) 0) (list_all (λ y. quiet y && nat_eq (count y) 0) xs) is))
    (zero_all quiet count xs (rest (quiet x && nat_eq (count x) 0) (list_all (λ y. quiet y && nat_eq (count y) 0) xs) is))

zero_sum : {A : Type 0} (quiet : A → Bool) (count : A → ℕ) (xs : List A) → list_all (λ x. quiet x && nat_eq (count x) 0) xs ≡ true → sum_by count xs ≡ 0
zero_sum quiet count [] is = refl
zero_sum quiet count (x ∷ xs) is =
    let here = eqb-true (count x) 0 (rest (quiet x) (nat_eq (count x) 0) (first (quiet x && nat_eq (count x) 0) (list_all (λ y. quiet y && nat_eq (count y) 0) xs) is)) in
    let others = zero_sum quiet count xs (rest (quiet x && nat_eq (count x) 0) (list_all (λ y. quiet y && nat_eq (count y) 0) xs) is) in
    sum_by-cons count x xs ∙ (λ t. here t + others t)

zero_lists : {A : Type 0} (quiet : A → Bool) (count : A → ℕ) (lists : List (List A)) → list_all (λ xs. list_all (λ x. quiet x && nat_eq (count x) 0) xs) lists ≡ true → list_all (λ c. nat_eq c 0) (map (desk_count count) lists) ≡ true
zero_lists quiet count [] is = refl
zero_lists quiet count (xs ∷ lists) is =
    both (nat_eq (desk_count count xs) 0) (list_all (λ c. nat_eq c 0) (map (desk_count count) lists))
    (zero_is (zero_sum quiet count xs (first (list_all (λ x. quiet x && nat_eq (count x) 0) xs) (list_all (λ ys. list_all (λ x. quiet x && nat_eq (count x) 0) ys) lists) is)))
    (zero_lists quiet count lists (rest (list_all (λ x. quiet x && nat_eq (count x) 0) xs) (list_all (λ ys. list_all (λ x. quiet x && nat_eq (count x) 0) ys) lists) is))
  where
    zero_is : sum_by count xs ≡ 0 → nat_eq (desk_count count xs) 0 ≡ true
    zero_is none = eq-eqb (desk_count count xs) 0 (omega (arith, none))

-- what a command leaves where nothing was done

leaves_self : (command : Command) (s : ReplicaState) → Leaves command s s
leaves_self (Del r key) s = inl refl
leaves_self (StepOf r) s = inl refl
leaves_self (Storm r writers writes) s = inl refl
leaves_self (Import r car) s = ([], inl refl)
leaves_self command s = refl

focus_within : (count : ℕ) (bag : Bag) (d : Doing) → among_by count bag d ≡ true → IfSome (focus_by d) (λ r. r < count)
focus_within count bag (At r (Hears message)) there = ltb-true r count (first (nat_lt r count) (has_message bag message) there)
focus_within count bag (At r (Imports car)) there = ltb-true r count (first (nat_lt r count) (has_car bag car) there)
focus_within count bag (At r act) there = ltb-true r count there
focus_within count bag d there = tt

pub get_within : {A : Type 0} (xs : List A) (r : ℕ) → r < length xs → (x : A) × (slice_get xs r ≡ Some x)
get_within [] r within = absurd (omega (arith, within))
get_within (x ∷ xs) zero within = (x, refl)
get_within (x ∷ xs) (suc r) within = get_within xs r (omega (arith, within))

moved_self : {A : Type 0} (o : Option ℕ) (xs : List A) (P : A → A → Type 0) → IfSome o (λ r. r < length xs) → ((x : A) → P x x) → MovedAt o xs xs P
moved_self None xs P within self = refl
moved_self (Some r) xs P within self =
    let x = get_within xs r within in
    record { old = x.0; new = x.0; stands = x.1; after = sym (set_of_get xs r x.0 x.1); holds = self x.0 }

pub leaves_itself : (w : WorldState) (command : Command) → is_there w command ≡ true → LeavesStep w command w
leaves_itself w command there = record {
  there = there;
  moved = moved_self (focus command) w.places (ShortIn w command) (focus_within (length w.places) w.around.bag (doing command) there) (λ p. short_still w command p (short_self command p p (leaves_self command) refl));
  around = refl;
}

module _ {K D : Type 0} {g : keeper.Ghosts K D} {h : counted.Ghosts K} {i : counted.Ghosts D} (k : Members K D) (desk_faults : D → ℕ) where
  -- a world that is the same but for its record

  same_world : (entries : List LineEntry) (old new : World K D g h i) → HasRecord entries old new → state k desk_faults new ≡ state k desk_faults old
  same_world entries old new same = λ t. record { places = places_of k.told k.fuse (same.seats_same t).items; around = record { bag = same.bag_same t; down = (same.down_same t).items } }

  pub goes_on : (faults arming : ℕ) (w0 w1 w2 : World K D g h i) (entries : List LineEntry) → HasRecord entries w1 w2 → WorldGoes k desk_faults faults arming w0 w1 → WorldGoes k desk_faults faults arming w0 w2
  goes_on faults arming w0 w1 w2 entries same goes = record {
    paid = subst (λ (n : ℕ). IsPaid faults arming (counted_in k desk_faults w0) (armed_in k w0.seats.items) n (armed_in k w2.seats.items)) (sym counts)
        (subst (λ (n : ℕ). IsPaid faults arming (counted_in k desk_faults w0) (armed_in k w0.seats.items) (counted_in k desk_faults w1) n) (sym arms_same) goes.paid);
    calm = λ is. subst (λ b. b ≡ true) (sym calms) (goes.calm is);
    own_later = subst (λ (l : List (Seat K D g h i)). AllLater (λ (seat : Seat K D g h i). k.own (keeper_of seat)) w0.seats.items l) (λ t. (sym same.seats_same t).items) goes.own_later;
    desks_later = subst (λ (l : List (List D)). AllLater (λ (list : List D). sum_by desk_faults list) w0.desks.items l) (λ t. (sym same.desks_same t).items) goes.desks_later;
    desks_stay = subst (DesksStay k desk_faults w0.desks.items) (λ t. (sym same.desks_same t).items) goes.desks_stay;
  }
    where
      counts : counted_in k desk_faults w2 ≡ counted_in k desk_faults w1
      counts = λ t. own_in k (same.seats_same t).items + desks_in desk_faults (same.desks_same t).items

      arms_same : armed_in k w2.seats.items ≡ armed_in k w1.seats.items
      arms_same = λ t. armed_in k (same.seats_same t).items

      calms : is_calm k desk_faults w2 ≡ is_calm k desk_faults w1
      calms = λ t. list_all (λ (seat : Seat K D g h i). is_calm_keeper k (keeper_of seat)) (same.seats_same t).items && list_all (λ (list : List D). list_all (is_calm_desk k desk_faults) list) (same.desks_same t).items

  abbrev faults_at : Seat K D g h i → ℕ
  faults_at seat = k.faults (keeper_of seat)

  abbrev own_at : Seat K D g h i → ℕ
  own_at seat = k.own (keeper_of seat)

  row_on : (w0 w1 w2 : World K D g h i) (entries : List LineEntry) (command : Command) (reply : Reply) → HasRecord entries w1 w2
      → Row (state k desk_faults w0) command (KeeperRose k desk_faults w0 w1) (OwnRose k desk_faults w0 w1) (DeskRose k desk_faults w0 w1) reply (state k desk_faults w1)
      → Row (state k desk_faults w0) command (KeeperRose k desk_faults w0 w2) (OwnRose k desk_faults w0 w2) (DeskRose k desk_faults w0 w2) reply (state k desk_faults w2)
  row_on w0 w1 w2 entries command reply same row =
      subst (λ (w : WorldState). Row (state k desk_faults w0) command (KeeperRose k desk_faults w0 w2) (OwnRose k desk_faults w0 w2) (DeskRose k desk_faults w0 w2) reply w) (sym (same_world entries w1 w2 same))
      (row_under (state k desk_faults w0) (state k desk_faults w1) command (KeeperRose k desk_faults w0 w1) (OwnRose k desk_faults w0 w1) (DeskRose k desk_faults w0 w1) (KeeperRose k desk_faults w0 w2) (OwnRose k desk_faults w0 w2) (DeskRose k desk_faults w0 w2) reply
      (λ r rose. subst (λ v. RoseIn (λ (seat : Seat K D g h i). k.faults (keeper_of seat)) w0.seats.items v r) (λ t. (sym same.seats_same t).items) rose)
      (λ r rose. subst (λ v. RoseIn (λ (seat : Seat K D g h i). k.own (keeper_of seat)) w0.seats.items v r) (λ t. (sym same.seats_same t).items) rose)
      (λ r rose. subst (λ v. RoseIn (desk_count desk_faults) w0.desks.items v r) (λ t. (sym same.desks_same t).items) rose)
      row)

  names_of : (before : Counts) (w0 w1 w2 : World K D g h i) (entries : List LineEntry) (faults arming : ℕ)
      → firsts before.keepers.items ≡ keeper_counts k.faults w0.seats.items → seconds before.keepers.items ≡ keeper_counts k.own w0.seats.items → before.desks.items ≡ desk_counts desk_faults w0.desks.items
      → HasRecord entries w1 w2 → WorldGoes k desk_faults faults arming w0 w1 → Names k desk_faults (entry_since k.faults k.own desk_faults before w1) w0 w2
  names_of before w0 w1 w2 entries faults arming keepers owns desks same goes = record {
    keepers = subst (λ l. NamesRisen (λ (seat : Seat K D g h i). k.faults (keeper_of seat)) w0.seats.items w2.seats.items l) keepers_are (names_risen (λ (seat : Seat K D g h i). k.faults (keeper_of seat)) w0.seats.items w2.seats.items);
    owns = subst (λ l. NamesRisen (λ (seat : Seat K D g h i). k.own (keeper_of seat)) w0.seats.items w2.seats.items l) owns_are (names_risen (λ (seat : Seat K D g h i). k.own (keeper_of seat)) w0.seats.items w2.seats.items);
    desks = subst (λ l. NamesRisen (desk_count desk_faults) w0.desks.items w2.desks.items l) desks_are (names_risen (desk_count desk_faults) w0.desks.items w2.desks.items);
    calm = λ is. (
      (λ t. risen_from 0 (owns t) (keeper_counts k.own w1.seats.items))
          ∙ none_rise 0 (keeper_counts k.own w0.seats.items) (keeper_counts k.own w1.seats.items) (zero_all (λ (seat : Seat K D g h i). k.quiet (keeper_of seat)) own_at w0.seats.items (first _ _ is)) (zero_all (λ (seat : Seat K D g h i). k.quiet (keeper_of seat)) own_at w1.seats.items (first _ _ (goes.calm is))),
      (λ t. risen_from 0 (desks t) (desk_counts desk_faults w1.desks.items))
          ∙ none_rise 0 (desk_counts desk_faults w0.desks.items) (desk_counts desk_faults w1.desks.items) (zero_lists k.quiet_desk desk_faults w0.desks.items (rest _ _ is)) (zero_lists k.quiet_desk desk_faults w1.desks.items (rest _ _ (goes.calm is))),
    );
  }
    where
      keepers_are : risen_from 0 (keeper_counts k.faults w0.seats.items) (keeper_counts k.faults w2.seats.items) ≡ risen_from 0 (firsts before.keepers.items) (keeper_counts k.faults w1.seats.items)
      keepers_are = λ t. risen_from 0 (sym keepers t) (keeper_counts k.faults (same.seats_same t).items)

      owns_are : risen_from 0 (keeper_counts k.own w0.seats.items) (keeper_counts k.own w2.seats.items) ≡ risen_from 0 (seconds before.keepers.items) (keeper_counts k.own w1.seats.items)
      owns_are = λ t. risen_from 0 (sym owns t) (keeper_counts k.own (same.seats_same t).items)

      desks_are : risen_from 0 (desk_counts desk_faults w0.desks.items) (desk_counts desk_faults w2.desks.items) ≡ risen_from 0 before.desks.items (desk_counts desk_faults w1.desks.items)
      desks_are = λ t. risen_from 0 (sym desks t) (desk_counts desk_faults (same.desks_same t).items)

  -- a command that is answered and recorded
  pub act_line : (before : Counts) (w0 w1 w2 : World K D g h i) (command : Command) (reply : Reply)
      → firsts before.keepers.items ≡ keeper_counts k.faults w0.seats.items → seconds before.keepers.items ≡ keeper_counts k.own w0.seats.items → before.desks.items ≡ desk_counts desk_faults w0.desks.items
      → is_there (state k desk_faults w0) command ≡ true → ActsOn k desk_faults command (Ok reply) w0 w1 → HasRecord (w1.entries ++ entry_since k.faults k.own desk_faults before w1 ∷ []) w1 w2
      → Records k desk_faults command w0 w2 reply
  act_line before w0 w1 w2 command reply keepers owns desks there acts same =
      let names = names_of before w0 w1 w2 _ _ _ keepers owns desks same acts.goes in
      record {
        entry = entry_since k.faults k.own desk_faults before w1;
        grows = same.entries_are ∙ ap (λ l. l ++ entry_since k.faults k.own desk_faults before w1 ∷ []) acts.entries_same;
        holds = (
          names,
          record {
            there = there;
            row = row_under (state k desk_faults w0) (state k desk_faults w2) command (KeeperRose k desk_faults w0 w2) (OwnRose k desk_faults w0 w2) (DeskRose k desk_faults w0 w2) _ _ _ reply
                (λ r. (names.keepers r).1) (λ r. (names.owns r).1) (λ r. (names.desks r).1) (row_on w0 w1 w2 _ command reply same acts.row);
          },
        );
      }

  -- one that is answered, and not recorded for want of memory
  pub act_unrecorded : (w0 w1 w2 : World K D g h i) (command : Command) (reply : Reply) → is_there (state k desk_faults w0) command ≡ true → ActsOn k desk_faults command (Ok reply) w0 w1 → HasRecord w1.entries w1 w2 → Shortens k desk_faults command w0 w2
  act_unrecorded w0 w1 w2 command reply there acts same = record {
    left = inr (reply, there, row_on w0 w1 w2 _ command reply same acts.row, goes_on _ _ w0 w1 w2 _ same acts.goes);
    entries_same = same.entries_are ∙ acts.entries_same;
  }

  -- one that is not answered for want of memory
  pub act_left : (w0 w1 : World K D g h i) (command : Command) → ActsOn k desk_faults command (Err Memory) w0 w1 → Shortens k desk_faults command w0 w1
  act_left w0 w1 command acts = record { left = inl (acts.short refl); entries_same = acts.entries_same }

  pub act_not_begun : (w : World K D g h i) (command : Command) → is_there (state k desk_faults w) command ≡ true → Shortens k desk_faults command w w
  act_not_begun w command there = record { left = inl (leaves_itself (state k desk_faults w) command there); entries_same = refl }

  -- counts over a command that may lack its entry: what is armed pays without it too
  pub act_goes : (w0 w1 w2 : World K D g h i) (command : Command) (reply : Reply) (entries : List LineEntry) → ActsOn k desk_faults command (Ok reply) w0 w1 → HasRecord entries w1 w2 → WorldGoes k desk_faults (cond (is_fault reply) 1 0) (arms command) w0 w2
  act_goes w0 w1 w2 command reply entries acts same = goes_on _ _ w0 w1 w2 entries same acts.goes

  pub fewer_faults : (faults arming : ℕ) (w0 w1 : World K D g h i) → WorldGoes k desk_faults faults arming w0 w1 → WorldGoes k desk_faults 0 arming w0 w1
  fewer_faults faults arming w0 w1 goes = record { paid = fewer faults arming _ _ _ _ goes.paid; calm = goes.calm; own_later = goes.own_later; desks_later = goes.desks_later; desks_stay = goes.desks_stay }

  pub nothing_goes : (arming : ℕ) (w : World K D g h i) → WorldGoes k desk_faults 0 arming w w
  nothing_goes arming w = record {
    paid = paid_none arming _ _;
    calm = λ is. is;
    own_later = later_same (λ (seat : Seat K D g h i). k.own (keeper_of seat)) w.seats.items;
    desks_later = later_same (λ (list : List D). sum_by desk_faults list) w.desks.items;
    desks_stay = all_stay k desk_faults w.desks.items;
  }
