-- From what a command did at a seat to what it did in a world.
use Rattle.std.proofs.Common.{◌≡◌, ◌++◌, arith, not, ◌&&◌, ℕ, Bool, true, false, true≢false, List, [], ◌∷◌, Option, Some, None, Result, Ok, Err, refl, sym, subst, ap, inl, inr, ◌∙◌, ◌<◌, ◌≤◌, length, map, nat_lt, set, zero, suc}
use Rattle.std.specs.Prelude.{⊤, ◌||◌, ◌+◌, ◌-◌, cond, IfOk, IfSome, IsErrOf, unwrap_or}
use Rattle.std.specs.List.{list_all, slice_get, sum_by}
use Rattle.std.specs.Option.{option_map}
use Rattle.std.specs.Result.{is_ok}
use Rattle.std.proofs.lemmas.Bool.{eq-eqb, lt-ltb, ltb-true}
use Rattle.std.proofs.lemmas.Bool.Decides.{nat_tests}
use Rattle.std.proofs.lemmas.List.{length-map, map-set}
use Rattle.std.proofs.lemmas.Option.{slice_get-map}
use Rattle.mc_base.specs.Causes.{Rose}
use Rattle.mc_base.specs.Told.{Told}
use Rattle.mc_base.specs.declared.counted.Counted as counted
use Rattle.mc_keep.specs.Calls.{Members}
use Rattle.mc_keep.specs.declared.keeper.Keeper as keeper
use Rattle.mc_model.specs.Kept.{Kept}
use Rattle.mc_model.specs.State.{Running, kept_of}
use Rattle.mc_core.specs.Events.{ReplicaState, state_of}
use Rattle.mc_core.specs.Exact.{stop_front}
use Rattle.mc_core.specs.Hears.{written_cast}
use Rattle.mc_core.specs.Reads.{read_refusal}
use Rattle.mc_core.specs.Refusals.{Is, running_refusal}
use Rattle.mc_script.specs.declared.command.Command.{Command}
use Rattle.mc_script.specs.declared.command.Command.TheVariants.{Cast, Export, Hear, Import}
use Rattle.mc_script.specs.declared.reply.Reply.{Reply}
use Rattle.mc_script.specs.declared.reply.Reply.TheVariants.{Car, FaultKeeper, Message, RefusedRoots}
use Rattle.mc_seats.specs.declared.error.ActError.{ActError}
use Rattle.mc_seats.specs.declared.error.ActError.TheVariants.{BadLine, Memory}
use Rattle.mc_files.specs.Files.{IsExport}
use Rattle.mc_seats.specs.declared.bag.Bag.{Bag}
use Rattle.mc_seats.specs.declared.seat.Seat.{Seat}
use Rattle.mc_seats.specs.declared.world.World.{World}
use Rattle.mc_seats.specs.Arming.{arming}
use Rattle.mc_seats.specs.Asks.{among_by, arms, fail_by, focus, focus_by, has_car, has_message, has_text, is_among, is_named, is_there, may_by, text_at}
use Rattle.mc_seats.specs.Calls.{calls_by, is_call}
use Rattle.mc_seats.specs.Doing.{Act, At, Calls, Casts, Doing, Exports, Tends, doing}
use Rattle.mc_seats.specs.Tending.{fuses}
use Rattle.mc_seats.specs.Keepers.{AllLater, IsPaid, WorldGoes, armed_at, armed_in, desk_count, desks_in, is_calm_desk, is_calm_keeper, keeper_of, own_in}
use Rattle.mc_seats.specs.Effects.{AsksAt, DoneAt, Leaves, RefusedAt, asks_by, refused_by}
use Rattle.mc_seats.specs.Record.{RoseAt, RoseIn}
use Rattle.mc_seats.specs.Step.{CutShort, LeavesStep, Row, Says, Sets, ShortAt, ShortIn, StillRuns, answers_fault, asked_by, is_fault, refuses_by, says_by, sets_by}
use Rattle.mc_seats.specs.Words.{ActsOn, AsksActs, EarlyRow, FitsExport, IsCastOf, KeeperGoes, Says as SaysKept, SeatActsIn, SeatRow, can_fail, has_some, place, state}
use Rattle.mc_seats.specs.Worlds.{AtPlace, MovedAt, Place, WorldState, is_down, places_of, state_at}
use Rattle.mc_seats.proofs.SeatFacts.{all_of_set, both, first, get_of_set, paid_beside, paid_none, paid_of_set, rest, set_of_get}
use Rattle.mc_seats.proofs.WorkedFacts.{pull_by, short_from}
use Rattle.mc_seats.proofs.StayFacts.{same_stay}

-- a command of one replica
pub record OneBy (w : WorldState) (d : Doing) (r : ℕ) : Type 0 where
  pub focused : focus_by d ≡ Some r
  pub refuses : (due : Option Reply) → AtPlace w r (λ p. refused_by w p d due) → refuses_by w d due
  pub asks : AtPlace w r (asks_by w d) → asked_by w d
  pub may : has_some (fail_by d) ≡ true → is_named (fail_by d) r ≡ true
  pub plain : pull_by d ≡ false

abbrev pub OfOne : WorldState → Command → ℕ → Type 0
OfOne w command r = OneBy w (doing command) r

pub named_itself : (r : ℕ) → is_named (r ∷ []) r ≡ true
named_itself r = ap (λ b. b || false) (eq-eqb r r refl)

pub never : {P : Type 0} → false ≡ true → P
never e = absurd (true≢false (sym e))

named_where : (may : Bool) (r : ℕ) → has_some (cond may (r ∷ []) []) ≡ true → is_named (cond may (r ∷ []) []) r ≡ true
named_where true r can = named_itself r
named_where false r can = never can

pub one_of : (w : WorldState) (r : ℕ) (act : Act) → pull_by (At r act) ≡ false → OneBy w (At r act) r
one_of w r act plain = record { focused = refl; refuses = λ due a. a; asks = λ a. a; may = named_where (may_by act) r; plain = plain }

one_for : (w : WorldState) (d : Doing) → calls_by d ≡ true → OneBy w d (unwrap_or (focus_by d) 0)
one_for w (At r (Calls call)) is = one_of w r (Calls call) refl
one_for w d is = never is

pub call_is : (w : WorldState) (command : Command) → is_call command ≡ true → OfOne w command (unwrap_or (focus command) 0)
call_is w command = one_for w (doing command)

-- one that changes nothing around
sets_for : (d : Doing) → calls_by d ≡ true → (w : WorldState) (reply : Reply) → sets_by w d reply w.around
sets_for (At r (Calls call)) is w reply = refl
sets_for d is w reply = never is

pub call_sets : (command : Command) → is_call command ≡ true → (w : WorldState) (reply : Reply) → Sets w command reply w.around
call_sets command = sets_for (doing command)

says_for : (d : Doing) → calls_by d ≡ true → (w : WorldState) (reply : Reply) → says_by w d reply
says_for (At r (Calls call)) is w reply = tt
says_for d is w reply = never is

pub call_says : (command : Command) → is_call command ≡ true → (w : WorldState) (reply : Reply) → Says w command reply
call_says command = says_for (doing command)

-- a cast is not refused at a replica that runs
cast_allowed : (w : WorldState) (p : Place) → is_down p.run ≡ false → RefusedAt w p (Cast 0) None
cast_allowed w p up = (ap (λ b. stop_front b None) up, allowed p.content)
  where
    running : (run : Option Running) → is_down run ≡ false → running_refusal run (λ r. None) ≡ None
    running None up = absurd (true≢false up)
    running (Some run) up = refl

    allowed : (told : Option Kept) → IfSome (state_of told p.fuse p.run) (λ s. Is (read_refusal s) None)
    allowed None = tt
    allowed (Some kept) = sym (running p.run up)

pub arm_is : (w : WorldState) (r commit : ℕ) (after : Bool) → OfOne w (arming r commit after) r
arm_is w r commit true = one_of w r (Tends (fuses commit true)) refl
arm_is w r commit false = one_of w r (Tends (fuses commit false)) refl

pub arm_sets : (r commit : ℕ) (after : Bool) (w : WorldState) (reply : Reply) → Sets w (arming r commit after) reply w.around
arm_sets r commit true w reply = refl
arm_sets r commit false w reply = refl

pub arm_says : (r commit : ℕ) (after : Bool) (w : WorldState) (reply : Reply) → Says w (arming r commit after) reply
arm_says r commit true w reply = tt
arm_says r commit false w reply = tt

pub arm_there : (count : ℕ) (bag : Bag) (r commit : ℕ) (after : Bool) → nat_lt r count ≡ true → is_among count bag (arming r commit after) ≡ true
arm_there count bag r commit true there = there
arm_there count bag r commit false there = there

-- a command of one replica that is there names one of the seats
at_for : (count : ℕ) (bag : Bag) (d : Doing) → calls_by d ≡ true → among_by count bag d ≡ true → unwrap_or (focus_by d) 0 < count
at_for count bag (At r (Calls call)) is there = ltb-true r count there
at_for count bag d is there = never is

pub call_within : {A : Type 0} (f : A → Place) (xs : List A) (bag : Bag) (command : Command) → is_call command ≡ true → is_among (length (map f xs)) bag command ≡ true → unwrap_or (focus command) 0 < length xs
call_within f xs bag command is there = subst (λ (n : ℕ). unwrap_or (focus command) 0 < n) (length-map xs f) (at_for (length (map f xs)) bag (doing command) is there)

pub hear_within : {A : Type 0} (f : A → Place) (xs : List A) (bag : Bag) (r message : ℕ) → is_among (length (map f xs)) bag (Hear r message) ≡ true → r < length xs
hear_within f xs bag r message there = subst (λ (n : ℕ). r < n) (length-map xs f) (ltb-true r (length (map f xs)) (first (nat_lt r (length (map f xs))) (has_message bag message) there))

pub heard_within : {A : Type 0} (f : A → Place) (xs : List A) (bag : Bag) (r message : ℕ) → is_among (length (map f xs)) bag (Hear r message) ≡ true → has_message bag message ≡ true
heard_within f xs bag r message there = rest (nat_lt r (length (map f xs))) (has_message bag message) there

has_within : (count message : ℕ) → (nat_lt 0 message && not (nat_lt count message)) ≡ true → message - 1 < count
has_within count message is = grind (arith, nat_tests, is)

pub text_within : (texts : List (List ℕ)) (number : ℕ) → has_text texts number ≡ true → number - 1 < length texts
text_within texts number is = has_within (length texts) number is

-- the text of a number is that at its place
pub text_is : (texts : List (List ℕ)) (number : ℕ) (text : List ℕ) → slice_get texts (number - 1) ≡ Some text → text_at texts number ≡ text
text_is texts number text stands = ap (λ (o : Option (List ℕ)). unwrap_or o []) stands

-- of a file
pub import_within : {A : Type 0} (f : A → Place) (xs : List A) (bag : Bag) (r car : ℕ) → is_among (length (map f xs)) bag (Import r car) ≡ true → r < length xs
import_within f xs bag r car there = subst (λ (n : ℕ). r < n) (length-map xs f) (ltb-true r (length (map f xs)) (first (nat_lt r (length (map f xs))) (has_car bag car) there))

pub imported_within : {A : Type 0} (f : A → Place) (xs : List A) (bag : Bag) (r car : ℕ) → is_among (length (map f xs)) bag (Import r car) ≡ true → has_car bag car ≡ true
imported_within f xs bag r car there = rest (nat_lt r (length (map f xs))) (has_car bag car) there

-- a number below that of the seats is that of a replica
pub within_places : {A : Type 0} (f : A → Place) (xs : List A) (n r : ℕ) → n ≡ length xs → r < n → nat_lt r (length (map f xs)) ≡ true
within_places f xs n r len within = lt-ltb r (length (map f xs)) (subst (λ (m : ℕ). r < m) (len ∙ sym (length-map xs f)) within)

pub at_place : (w : WorldState) (r : ℕ) (p : Place) (P : Place → Type 0) → slice_get w.places r ≡ Some p → P p → AtPlace w r P
at_place w r p P stands holds = subst (λ (o : Option Place). IfSome o P) (sym stands) holds

pub no_err : {T E : Type 0} (value : T) (error : E) → IsErrOf (Ok value) error → ⊥
no_err value error is = true≢false (ap is_ok is)

pub memory_is_not_bad : {T : Type 0} → IsErrOf {T = T} (Err Memory) BadLine → ⊥
memory_is_not_bad {T} is = true≢false (ap memory is)
  where
    memory : Result T ActError → Bool
    memory (Err Memory) = true
    memory result = false

pub ok_map : {T E : Type 0} (result : Result T E) (P Q : T → Type 0) → ((value : T) → P value → Q value) → IfOk result P → IfOk result Q
ok_map (Ok value) P Q f holds = f value holds
ok_map (Err error) P Q f holds = tt

-- counts that have not fallen

pub later_same : {A : Type 0} (count : A → ℕ) (xs : List A) → AllLater count xs xs
later_same count [] = tt
later_same count (x ∷ xs) = (omega arith, later_same count xs)

pub later_set : {A : Type 0} (count : A → ℕ) (olds mids : List A) (r : ℕ) (x y : A) → AllLater count olds mids → slice_get mids r ≡ Some x → count x ≤ count y → AllLater count olds (set mids r y)
later_set count [] [] r x y all stands later = tt
later_set count [] (m ∷ mids) r x y all stands later = absurd all
later_set count (o ∷ olds) [] r x y all stands later = absurd all
later_set count (o ∷ olds) (m ∷ mids) zero x y all stands later =
    let was = all.0 in let same = ap (λ s. count (unwrap_or s m)) stands in (omega (arith, was, same, later), all.1)
later_set count (o ∷ olds) (m ∷ mids) (suc r) x y all stands later = (all.0, later_set count olds mids r x y all.1 stands later)

-- a command that has left a replica as it was
still_runs : (run : Option Running) → StillRuns run run
still_runs None = refl
still_runs (Some run) = (refl, refl, refl)

told_self : (p : Option ReplicaState) (L : ReplicaState → ReplicaState → Type 0) → ((s : ReplicaState) → L s s) → Told p p L
told_self None L self = tt
told_self (Some s) L self = self s

pub short_self : (command : Command) (p q : Place) → ((s : ReplicaState) → Leaves command s s) → q ≡ p → ShortAt command p q
short_self command p q self same = subst (λ (x : Place). ShortAt command p x) (sym same) (record { runs = still_runs p.run; silent = λ is. is; planted_same = refl; told = told_self (state_at p) (Leaves command) self })

module _ {K D : Type 0} {g : keeper.Ghosts K D} {h : counted.Ghosts K} {i : counted.Ghosts D} (k : Members K D) (desk_faults : D → ℕ) where
  pub stands_at : (xs : List (Seat K D g h i)) (r : ℕ) (x : Seat K D g h i) → slice_get xs r ≡ Some x → slice_get (places_of k.told k.fuse xs) r ≡ Some (place k x)
  stands_at xs r x is = slice_get-map (place k) xs r ∙ ap (option_map (place k)) is

  pub set_at : (xs news : List (Seat K D g h i)) (r : ℕ) (y : Seat K D g h i) → news ≡ set xs r y → places_of k.told k.fuse news ≡ set (places_of k.told k.fuse xs) r (place k y)
  set_at xs news r y is = ap (λ (l : List (Seat K D g h i)). places_of k.told k.fuse l) is ∙ map-set (place k) xs r y

  pub same_at : (xs news : List (Seat K D g h i)) (r : ℕ) (x y : Seat K D g h i) → slice_get xs r ≡ Some x → news ≡ set xs r y → place k y ≡ place k x → places_of k.told k.fuse news ≡ places_of k.told k.fuse xs
  same_at xs news r x y stands after same = set_at xs news r y after ∙ ap (λ p. set (places_of k.told k.fuse xs) r p) same ∙ set_of_get (places_of k.told k.fuse xs) r (place k x) (stands_at xs r x stands)

  pub rose_in : (f : Seat K D g h i → ℕ) (xs news : List (Seat K D g h i)) (r : ℕ) (x y : Seat K D g h i) → slice_get xs r ≡ Some x → news ≡ set xs r y → Rose (f x) (f y) → RoseIn f xs news r
  rose_in f xs news r x y stands after rose = subst (λ (o : Option (Seat K D g h i)). RoseAt f (slice_get xs r) o) (sym (ap (λ l. slice_get l r) after ∙ get_of_set xs r x y stands)) (subst (λ (o : Option (Seat K D g h i)). RoseAt f o (Some y)) (sym stands) rose)

  -- two worlds that differ in one seat
  pub record OneMoved (r : ℕ) (x y : Seat K D g h i) (old new : World K D g h i) : Type 0 where
    pub stands : slice_get old.seats.items r ≡ Some x
    pub seats : new.seats.items ≡ set old.seats.items r y
    pub desks : new.desks.items ≡ old.desks.items
    pub bag : new.bag ≡ old.bag
    pub down : new.down.items ≡ old.down.items
    pub entries : new.entries ≡ old.entries

  around_same : (old new : World K D g h i) → new.bag ≡ old.bag → new.down.items ≡ old.down.items → (state k desk_faults new).around ≡ (state k desk_faults old).around
  around_same old new bag down = λ t. record { bag = bag t; down = down t }

  same_state : (old new : World K D g h i) → (state k desk_faults new).places ≡ (state k desk_faults old).places → (state k desk_faults new).around ≡ (state k desk_faults old).around → state k desk_faults new ≡ state k desk_faults old
  same_state old new places around = λ t. record { places = places t; around = around t }

  -- nothing is counted where the replicas and their desks are as they were
  pub around_goes : (arming : ℕ) (old new : World K D g h i) → new.seats.items ≡ old.seats.items → new.desks.items ≡ old.desks.items → WorldGoes k desk_faults 0 arming old new
  around_goes arming old new seats desks = record {
    paid = subst (λ (n : ℕ). IsPaid 0 arming (own_in k old.seats.items + desks_in desk_faults old.desks.items) (armed_in k old.seats.items) n (armed_in k new.seats.items)) (λ t. own_in k (sym seats t) + desks_in desk_faults (sym desks t))
        (subst (λ (n : ℕ). IsPaid 0 arming (own_in k old.seats.items + desks_in desk_faults old.desks.items) (armed_in k old.seats.items) (own_in k old.seats.items + desks_in desk_faults old.desks.items) n) (λ t. armed_in k (sym seats t)) (paid_none arming (own_in k old.seats.items + desks_in desk_faults old.desks.items) (armed_in k old.seats.items)));
    calm = λ is. both _ _
        (subst (λ (l : List (Seat K D g h i)). list_all (λ (seat : Seat K D g h i). is_calm_keeper k (keeper_of seat)) l ≡ true) (sym seats) (first _ _ is))
        (subst (λ (l : List (List D)). list_all (λ (list : List D). list_all (is_calm_desk k desk_faults) list) l ≡ true) (sym desks) (rest _ _ is));
    own_later = subst (λ (l : List (Seat K D g h i)). AllLater (λ (seat : Seat K D g h i). k.own (keeper_of seat)) old.seats.items l) (sym seats) (later_same (λ (seat : Seat K D g h i). k.own (keeper_of seat)) old.seats.items);
    desks_later = subst (λ (l : List (List D)). AllLater (λ (list : List D). sum_by desk_faults list) old.desks.items l) (sym desks) (later_same (λ (list : List D). sum_by desk_faults list) old.desks.items);
    desks_stay = same_stay k desk_faults old.desks.items new.desks.items desks;
  }

  -- and no fault is answered
  pub around_says : (arming : ℕ) (reply : Reply) (old new : World K D g h i) → is_fault reply ≡ false → new.seats.items ≡ old.seats.items → new.desks.items ≡ old.desks.items → WorldGoes k desk_faults (cond (is_fault reply) 1 0) arming old new
  around_says arming reply old new plain seats desks = subst (λ (b : Bool). WorldGoes k desk_faults (cond b 1 0) arming old new) (sym plain) (around_goes arming old new seats desks)

  -- what its keeper counts is what the world counts
  pub goes_of : (r : ℕ) (x y : Seat K D g h i) (old new : World K D g h i) → slice_get old.seats.items r ≡ Some x → new.seats.items ≡ set old.seats.items r y → new.desks.items ≡ old.desks.items → (faults arming : ℕ) → KeeperGoes k faults arming (keeper_of x) (keeper_of y) → WorldGoes k desk_faults faults arming old new
  goes_of r x y old new stands seats desks faults arming goes = record {
    paid = subst (λ (n : ℕ). IsPaid faults arming (own_in k old.seats.items + desks_sum old.desks.items) (armed_in k old.seats.items) n (armed_in k new.seats.items)) (λ t. own_in k new.seats.items + desks_sum (sym desks t)) paid_old;
    calm = λ is. both _ _
        (subst (λ (l : List (Seat K D g h i)). list_all (λ (seat : Seat K D g h i). is_calm_keeper k (keeper_of seat)) l ≡ true) (sym seats) (all_of_set (λ (seat : Seat K D g h i). is_calm_keeper k (keeper_of seat)) old.seats.items r x y stands goes.calm (first _ _ is)))
        (subst (λ (l : List (List D)). list_all (λ (list : List D). list_all (is_calm_desk k desk_faults) list) l ≡ true) (sym desks) (rest _ _ is));
    own_later = subst (λ (l : List (Seat K D g h i)). AllLater (λ (seat : Seat K D g h i). k.own (keeper_of seat)) old.seats.items l) (sym seats)
        (later_set (λ (seat : Seat K D g h i). k.own (keeper_of seat)) old.seats.items old.seats.items r x y (later_same (λ (seat : Seat K D g h i). k.own (keeper_of seat)) old.seats.items) stands goes.paid.later);
    desks_later = subst (λ (l : List (List D)). AllLater (λ (list : List D). sum_by desk_faults list) old.desks.items l) (sym desks) (later_same (λ (list : List D). sum_by desk_faults list) old.desks.items);
    desks_stay = same_stay k desk_faults old.desks.items new.desks.items desks;
  }
    where
      desks_sum : List (List D) → ℕ
      desks_sum lists = desks_in desk_faults lists

      paid_seats : IsPaid faults arming (own_in k old.seats.items) (armed_in k old.seats.items) (own_in k new.seats.items) (armed_in k new.seats.items)
      paid_seats = subst (λ (l : List (Seat K D g h i)). IsPaid faults arming (own_in k old.seats.items) (armed_in k old.seats.items) (own_in k l) (armed_in k l)) (sym seats)
          (paid_of_set (λ (seat : Seat K D g h i). k.own (keeper_of seat)) (λ (seat : Seat K D g h i). armed_at k (keeper_of seat)) faults arming old.seats.items r x y stands goes.paid)

      paid_old : IsPaid faults arming (own_in k old.seats.items + desks_sum old.desks.items) (armed_in k old.seats.items) (own_in k new.seats.items + desks_sum old.desks.items) (armed_in k new.seats.items)
      paid_old = paid_beside faults arming (own_in k old.seats.items) (armed_in k old.seats.items) (own_in k new.seats.items) (armed_in k new.seats.items) (desks_sum old.desks.items) paid_seats

  module _ {r : ℕ} {x y : Seat K D g h i} {old new : World K D g h i} (command : Command) (moved : OneMoved r x y old new) (one : OfOne (state k desk_faults old) command r) where
    refused_in : (reply : Reply) → RefusedAt (state k desk_faults old) (place k x) command (Some reply) × (place k y ≡ place k x) → Row (state k desk_faults old) command (RoseIn (λ (seat : Seat K D g h i). k.faults (keeper_of seat)) old.seats.items new.seats.items) (RoseIn (λ (seat : Seat K D g h i). k.own (keeper_of seat)) old.seats.items new.seats.items) (RoseIn (desk_count desk_faults) old.desks.items new.desks.items) reply (state k desk_faults new)
    refused_in reply refused = inl (inl (inl (record {
      cause = one.refuses (Some reply) (at_place (state k desk_faults old) r (place k x) (λ p. RefusedAt (state k desk_faults old) p command (Some reply)) (stands_at old.seats.items r x moved.stands) refused.0);
      same = same_state old new (same_at old.seats.items new.seats.items r x y moved.stands moved.seats refused.1) (around_same old new moved.bag moved.down);
    })))

    done_in : (reply : Reply) → ((reply : Reply) → Sets (state k desk_faults old) command reply (state k desk_faults old).around) → ((reply : Reply) → Says (state k desk_faults old) command reply) → RefusedAt (state k desk_faults old) (place k x) command None × DoneAt (state k desk_faults old) command (place k x) (place k y) reply → Row (state k desk_faults old) command (RoseIn (λ (seat : Seat K D g h i). k.faults (keeper_of seat)) old.seats.items new.seats.items) (RoseIn (λ (seat : Seat K D g h i). k.own (keeper_of seat)) old.seats.items new.seats.items) (RoseIn (desk_count desk_faults) old.desks.items new.desks.items) reply (state k desk_faults new)
    done_in reply sets says done = inl (inl (inr (record {
      allowed = one.refuses None (at_place (state k desk_faults old) r (place k x) (λ p. RefusedAt (state k desk_faults old) p command None) (stands_at old.seats.items r x moved.stands) done.0);
      moved = subst (λ (o : Option ℕ). MovedAt o (places_of k.told k.fuse old.seats.items) (places_of k.told k.fuse new.seats.items) (λ p q. DoneAt (state k desk_faults old) command p q reply)) (sym one.focused)
          (record { old = place k x; new = place k y; stands = stands_at old.seats.items r x moved.stands; after = set_at old.seats.items new.seats.items r y moved.seats; holds = done.1 });
      says = says reply;
      around = subst (λ a. Sets (state k desk_faults old) command reply a) (sym (around_same old new moved.bag moved.down)) (sets reply);
    })))

    own_is : RoseIn (λ (seat : Seat K D g h i). k.own (keeper_of seat)) old.seats.items new.seats.items r ≡ Rose (k.own (keeper_of x)) (k.own (keeper_of y))
    own_is = λ t. RoseAt (λ (seat : Seat K D g h i). k.own (keeper_of seat)) (moved.stands t) ((ap (λ l. slice_get l r) moved.seats ∙ get_of_set old.seats.items r x y moved.stands) t)

    cut_in : (reply : Reply) → (can_fail command ≡ true) × Rose (k.faults (keeper_of x)) (k.faults (keeper_of y)) × AsksAt (state k desk_faults old) command (place k x) × (reply ≡ FaultKeeper)
        × CutShort (state k desk_faults old) command (Rose (k.own (keeper_of x)) (k.own (keeper_of y))) (place k x) (place k y) → Row (state k desk_faults old) command (RoseIn (λ (seat : Seat K D g h i). k.faults (keeper_of seat)) old.seats.items new.seats.items) (RoseIn (λ (seat : Seat K D g h i). k.own (keeper_of seat)) old.seats.items new.seats.items) (RoseIn (desk_count desk_faults) old.desks.items new.desks.items) reply (state k desk_faults new)
    cut_in reply cut = inl (inr (record {
      at = r;
      among = one.may cut.0;
      asked = one.asks (at_place (state k desk_faults old) r (place k x) (AsksAt (state k desk_faults old) command) (stands_at old.seats.items r x moved.stands) cut.2);
      cause = rose_in (λ seat. k.faults (keeper_of seat)) old.seats.items new.seats.items r x y moved.stands moved.seats cut.1;
      says = cut.3;
      moved = record {
        old = place k x;
        new = place k y;
        stands = stands_at old.seats.items r x moved.stands;
        after = set_at old.seats.items new.seats.items r y moved.seats;
        holds = subst (λ (T : Type 0). CutShort (state k desk_faults old) command T (place k x) (place k y)) (sym own_is) cut.4;
      };
      around = around_same old new moved.bag moved.down;
    }))

    pub row_in : (reply : Reply) → ((reply : Reply) → Sets (state k desk_faults old) command reply (state k desk_faults old).around) → ((reply : Reply) → Says (state k desk_faults old) command reply) → SeatRow k (state k desk_faults old) command x y reply → Row (state k desk_faults old) command (RoseIn (λ (seat : Seat K D g h i). k.faults (keeper_of seat)) old.seats.items new.seats.items) (RoseIn (λ (seat : Seat K D g h i). k.own (keeper_of seat)) old.seats.items new.seats.items) (RoseIn (desk_count desk_faults) old.desks.items new.desks.items) reply (state k desk_faults new)
    row_in reply sets says (inl (inl refused)) = refused_in reply refused
    row_in reply sets says (inl (inr done)) = done_in reply sets says done
    row_in reply sets says (inr cut) = cut_in reply cut

    -- what is answered where nothing is done
    pub early_in : (reply : Reply) → EarlyRow (state k desk_faults old) command (Rose (k.faults (keeper_of x)) (k.faults (keeper_of y))) (Rose (k.own (keeper_of x)) (k.own (keeper_of y))) (place k x) (place k y) reply → Row (state k desk_faults old) command (RoseIn (λ (seat : Seat K D g h i). k.faults (keeper_of seat)) old.seats.items new.seats.items) (RoseIn (λ (seat : Seat K D g h i). k.own (keeper_of seat)) old.seats.items new.seats.items) (RoseIn (desk_count desk_faults) old.desks.items new.desks.items) reply (state k desk_faults new)
    early_in reply (inl refused) = refused_in reply refused
    early_in reply (inr cut) = cut_in reply cut

    pub goes_in : (faults arming : ℕ) → KeeperGoes k faults arming (keeper_of x) (keeper_of y) → WorldGoes k desk_faults faults arming old new
    goes_in faults arming goes = goes_of r x y old new moved.stands moved.seats moved.desks faults arming goes

    pub short_in : is_there (state k desk_faults old) command ≡ true → ShortAt command (place k x) (place k y) → LeavesStep (state k desk_faults old) command (state k desk_faults new)
    short_in there short = record {
      there = there;
      moved = subst (λ (o : Option ℕ). MovedAt o (places_of k.told k.fuse old.seats.items) (places_of k.told k.fuse new.seats.items) (ShortIn (state k desk_faults old) command)) (sym one.focused)
          (record { old = place k x; new = place k y; stands = stands_at old.seats.items r x moved.stands; after = set_at old.seats.items new.seats.items r y moved.seats; holds = short_from (state k desk_faults old) command one.plain (place k x) (place k y) short });
      around = around_same old new moved.bag moved.down;
    }

    -- nothing was done for want of memory, or what a call left
    pub lift_short : is_there (state k desk_faults old) command ≡ true → ShortAt command (place k x) (place k y) → KeeperGoes k 0 (arms command) (keeper_of x) (keeper_of y) → ActsOn k desk_faults command (Err Memory) old new
    lift_short there short goes = record {
      row = tt;
      short = λ _. short_in there short;
      not_bad = memory_is_not_bad;
      goes = goes_in 0 (arms command) goes;
      entries_same = moved.entries;
    }

    -- what a command of one replica did at its seat is what it did in the world
    pub lift : (Where : WorldState → Type 0) (result : Result Reply ActError) → ((w : WorldState) (reply : Reply) → Sets w command reply w.around) → ((w : WorldState) (reply : Reply) → Says w command reply) → is_there (state k desk_faults old) command ≡ true → Where (state k desk_faults old) → SeatActsIn k Where command result x y → ActsOn k desk_faults command result old new
    lift Where result sets says there stands acts = record {
      row = ok_map result _ _ (λ reply. row_in reply (sets (state k desk_faults old)) (says (state k desk_faults old))) (acts.row (state k desk_faults old) stands);
      short = λ is. short_in there (acts.short is);
      not_bad = acts.not_bad;
      goes = goes_in (cond (answers_fault result) 1 0) (arms command) acts.goes;
      entries_same = moved.entries;
    }

  -- a command of one replica that changes what is around
  pub row_around : (r : ℕ) (x y : Seat K D g h i) (old new : World K D g h i) (command : Command) (one : OfOne (state k desk_faults old) command r) (reply : Reply) → slice_get old.seats.items r ≡ Some x → new.seats.items ≡ set old.seats.items r y
      → Says (state k desk_faults old) command reply → Sets (state k desk_faults old) command reply (state k desk_faults new).around → RefusedAt (state k desk_faults old) (place k x) command None → DoneAt (state k desk_faults old) command (place k x) (place k y) reply
      → Row (state k desk_faults old) command (RoseIn (λ (seat : Seat K D g h i). k.faults (keeper_of seat)) old.seats.items new.seats.items) (RoseIn (λ (seat : Seat K D g h i). k.own (keeper_of seat)) old.seats.items new.seats.items) (RoseIn (desk_count desk_faults) old.desks.items new.desks.items) reply (state k desk_faults new)
  row_around r x y old new command one reply stands seats says sets refused done = inl (inl (inr (record {
    allowed = one.refuses None (at_place (state k desk_faults old) r (place k x) (λ p. RefusedAt (state k desk_faults old) p command None) (stands_at old.seats.items r x stands) refused);
    moved = subst (λ (o : Option ℕ). MovedAt o (places_of k.told k.fuse old.seats.items) (places_of k.told k.fuse new.seats.items) (λ p q. DoneAt (state k desk_faults old) command p q reply)) (sym one.focused)
        (record { old = place k x; new = place k y; stands = stands_at old.seats.items r x stands; after = set_at old.seats.items new.seats.items r y seats; holds = done });
    says = says;
    around = sets;
  })))

  -- such a command, which no fault cut short
  acts_around : (r : ℕ) (x y : Seat K D g h i) (old new : World K D g h i) (command : Command) (one : OfOne (state k desk_faults old) command r) (reply : Reply) → slice_get old.seats.items r ≡ Some x → new.seats.items ≡ set old.seats.items r y
      → new.desks.items ≡ old.desks.items → new.entries ≡ old.entries → is_fault reply ≡ false → arms command ≡ 0 → KeeperGoes k 0 0 (keeper_of x) (keeper_of y)
      → Says (state k desk_faults old) command reply → Sets (state k desk_faults old) command reply (state k desk_faults new).around → RefusedAt (state k desk_faults old) (place k x) command None → DoneAt (state k desk_faults old) command (place k x) (place k y) reply
      → ActsOn k desk_faults command (Ok reply) old new
  acts_around r x y old new command one reply stands seats desks entries plain none goes says sets refused done = record {
    row = row_around r x y old new command one reply stands seats says sets refused done;
    short = λ no. absurd (no_err reply Memory no);
    not_bad = no_err reply BadLine;
    goes = subst (λ (n : ℕ). WorldGoes k desk_faults (cond (is_fault reply) 1 0) n old new) (sym none) (subst (λ (b : Bool). WorldGoes k desk_faults (cond b 1 0) 0 old new) (sym plain) (goes_of r x y old new stands seats desks 0 0 goes));
    entries_same = entries;
  }

  -- a message is sent
  pub cast_sent : (r : ℕ) (x y : Seat K D g h i) (old new : World K D g h i) (text : List ℕ) (reply : Reply)
      → slice_get old.seats.items r ≡ Some x → new.seats.items ≡ set old.seats.items r y → new.desks.items ≡ old.desks.items → new.down.items ≡ old.down.items → new.entries ≡ old.entries
      → new.bag.cars ≡ old.bag.cars → (new.bag.messages ≡ old.bag.messages ++ text ∷ []) × (reply ≡ Message (length old.bag.messages + 1)) → SaysKept (λ text. ⊤) IsCastOf text (place k x) (place k y) → KeeperGoes k 0 0 (keeper_of x) (keeper_of y)
      → ActsOn k desk_faults (Cast r) (Ok reply) old new
  cast_sent r x y old new text reply stands seats desks down entries cars sent says goes =
      acts_around r x y old new (Cast r) (one_of (state k desk_faults old) r Casts refl) reply stands seats desks entries (ap is_fault sent.1) refl goes tt
      (record {
        text = text;
        is_text = at_place (state k desk_faults old) r (place k x) (λ p. IfSome (state_at p) (λ s. text ≡ written_cast (kept_of s.state.durable))) (stands_at old.seats.items r x stands) says.says;
        numbered = sent.1;
        sent = λ t. record { bag = record { messages = sent.0 t; cars = cars t }; down = down t };
      })
      (cast_allowed (state k desk_faults old) (place k x) says.up) says.same

  -- a file is made
  pub export_filed : (r : ℕ) (x y : Seat K D g h i) (old new : World K D g h i) (text : List ℕ) (reply : Reply)
      → slice_get old.seats.items r ≡ Some x → new.seats.items ≡ set old.seats.items r y → new.desks.items ≡ old.desks.items → new.down.items ≡ old.down.items → new.entries ≡ old.entries
      → new.bag.messages ≡ old.bag.messages → (new.bag.cars ≡ old.bag.cars ++ text ∷ []) × (reply ≡ Car (length old.bag.cars + 1) (length text)) → SaysKept FitsExport IsExport (Ok text) (place k x) (place k y) → KeeperGoes k 0 0 (keeper_of x) (keeper_of y)
      → ActsOn k desk_faults (Export r) (Ok reply) old new
  export_filed r x y old new text reply stands seats desks down entries messages sent says goes =
      acts_around r x y old new (Export r) (one_of (state k desk_faults old) r Exports refl) reply stands seats desks entries (ap is_fault sent.1) refl goes tt
      (inl (record {
        text = text;
        is_text = at_place (state k desk_faults old) r (place k x) (λ p. IfSome (state_at p) (λ s. IsExport (kept_of s.state.durable) (Ok text))) (stands_at old.seats.items r x stands) says.says;
        numbered = sent.1;
        filed = λ t. record { bag = record { messages = messages t; cars = sent.0 t }; down = down t };
      }))
      (cast_allowed (state k desk_faults old) (place k x) says.up) says.same

  -- or the heads are too many for one
  pub export_many : (r : ℕ) (x y : Seat K D g h i) (old new : World K D g h i) (number : ℕ) → OneMoved r x y old new → SaysKept FitsExport IsExport (Err number) (place k x) (place k y) → KeeperGoes k 0 0 (keeper_of x) (keeper_of y)
      → ActsOn k desk_faults (Export r) (Ok (RefusedRoots number)) old new
  export_many r x y old new number moved says goes =
      acts_around r x y old new (Export r) (one_of (state k desk_faults old) r Exports refl) (RefusedRoots number) moved.stands moved.seats moved.desks moved.entries refl refl goes tt
      (inr (record {
        number = number;
        is_number = at_place (state k desk_faults old) r (place k x) (λ p. IfSome (state_at p) (λ s. IsExport (kept_of s.state.durable) (Err number))) (stands_at old.seats.items r x moved.stands) says.says;
        many = says.fits;
        says = refl;
        same = around_same old new moved.bag moved.down;
      }))
      (cast_allowed (state k desk_faults old) (place k x) says.up) says.same

  module _ {T : Type 0} {Fits : T → Type 0} {P : Kept → T → Type 0} (asks : ℕ → Command) {r : ℕ} {x y : Seat K D g h i} {old new : World K D g h i} (moved : OneMoved r x y old new) (one : OfOne (state k desk_faults old) (asks r) r)
      (none : arms (asks r) ≡ 0) (self : (s : ReplicaState) → Leaves (asks r) s s) (there : is_there (state k desk_faults old) (asks r) ≡ true) where
    -- memory was wanting to make what is asked for, or to keep it
    pub asked_err : (error : ActError) → AsksActs k Fits P asks (Err error) x y → ActsOn k desk_faults (asks r) (Err error) old new
    asked_err Memory acts = lift_short (asks r) moved one there (acts.short refl r) (subst (λ (n : ℕ). KeeperGoes k 0 n (keeper_of x) (keeper_of y)) (sym none) acts.goes)
    asked_err BadLine acts = absurd (acts.not_bad refl)

    pub asked_unsent : (value : T) → AsksActs k Fits P asks (Ok (Ok value)) x y → ActsOn k desk_faults (asks r) (Err Memory) old new
    asked_unsent value acts = lift_short (asks r) moved one there (short_self (asks r) (place k x) (place k y) self acts.sent.same) (subst (λ (n : ℕ). KeeperGoes k 0 n (keeper_of x) (keeper_of y)) (sym none) acts.goes)

    pub asked_early : (reply : Reply) → AsksActs k Fits P asks (Ok (Err reply)) x y → ActsOn k desk_faults (asks r) (Ok reply) old new
    asked_early reply acts = record {
      row = early_in (asks r) moved one reply (acts.early (state k desk_faults old) r);
      short = λ no. absurd (no_err reply Memory no);
      not_bad = no_err reply BadLine;
      goes = goes_in (asks r) moved one (cond (is_fault reply) 1 0) (arms (asks r)) (subst (λ (n : ℕ). KeeperGoes k (cond (is_fault reply) 1 0) n (keeper_of x) (keeper_of y)) (sym none) acts.goes);
      entries_same = moved.entries;
    }
