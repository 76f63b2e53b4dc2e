-- The parts of a world, opened one after another, and put together again.
use Rattle.std.proofs.Common.{◌≡◌, ◌≤◌, ◌+◌, ℕ, suc, Bool, true, false, true≢false, ◌&&◌, cond, List, [], ◌∷◌, ◌++◌, length, Option, refl, sym, ap, subst, ◌∙◌, arith, append_assoc}
use Rattle.std.specs.Prelude.{nat_eq, is_some, map, IfOk, Result, Ok, Err}
use Rattle.std.specs.List.{list_all, sum_by}
use Rattle.std.proofs.lemmas.Bool.Decides.{nat_tests}
use Rattle.std.proofs.lemmas.List.{append-nil}
use Rattle.std.proofs.lemmas.List.Sums.{sum_by-append, sum_by-cons}
use Rattle.mc_base.specs.Causes.{Rose}
use Rattle.mc_base.specs.declared.counted.Counted as counted
use Rattle.mc_keep.specs.Calls.{Members}
use Rattle.mc_keep.specs.declared.fuse.Fuse.{Fuse}
use Rattle.mc_keep.specs.declared.keeper.Keeper as keeper
use Rattle.mc_core.specs.declared.replica.OpenCause.{OpenCause}
use Rattle.mc_core.specs.declared.replica.OpenCause.TheVariants.{Memory}
use Rattle.mc_seats.specs.declared.seat.Seat.{Seat}
use Rattle.mc_seats.specs.declared.world.Part.{Part}
use Rattle.mc_seats.specs.declared.world.World.{World}
use Rattle.mc_seats.specs.Desked.{AreDesksOf, desks_each, is_desked, is_full_list}
use Rattle.mc_seats.specs.Keepers.{armed_at, armed_in, counted_in, desks_in, is_calm, is_calm_desk, is_calm_keeper, keeper_of, own_in}
use Rattle.mc_seats.specs.Openings.{AreFresh, AreLeft, AreOpened, AreRefused, HaveOwnDesks, IsBack, IsOpened, are_calm, owns_of, parts_of, starts_of}
use Rattle.mc_seats.specs.Worlds.{no_bag}
use Rattle.mc_seats.specs.Words.{place, state}
use Rattle.mc_seats.specs.Starts.{AreStarts, IsFirst}
use Rattle.mc_seats.proofs.StayFacts.{of_none}

pub both_true : {a b : Bool} → a ≡ true → b ≡ true → (a && b) ≡ true
both_true {a = true} e f = f
both_true {a = false} e f = e

pub first_true : (a b : Bool) → (a && b) ≡ true → a ≡ true
first_true true b e = refl
first_true false b e = e

pub second_true : (a b : Bool) → (a && b) ≡ true → b ≡ true
second_true true b e = e
second_true false b e = absurd (true≢false (sym e))

pub none_of_length : {A : Type 0} (xs : List A) → length xs ≡ 0 → xs ≡ []
none_of_length [] none = refl
none_of_length (x ∷ xs) none = absurd (omega (arith, none))

sum_same : {A B : Type 0} (f : A → ℕ) (h : B → ℕ) (x : A) (xs : List A) (y : B) (ys : List B) → f x ≡ h y → sum_by f xs ≡ sum_by h ys → sum_by f (x ∷ xs) ≡ sum_by h (y ∷ ys)
sum_same f h x xs y ys e more = omega (arith, e, more, sum_by-cons f x xs, sum_by-cons h y ys)

sum_none : {A : Type 0} (f : A → ℕ) (x : A) (xs : List A) → f x ≡ 0 → sum_by f xs ≡ 0 → sum_by f (x ∷ xs) ≡ 0
sum_none f x xs e more = omega (arith, e, more, sum_by-cons f x xs)

sum_both : {A B C : Type 0} (f : A → ℕ) (h : B → ℕ) (q : C → ℕ) (x : A) (xs : List A) (y : B) (ys : List B) (z : C) (zs : List C) → f x ≡ q z → h y ≡ 0 → sum_by f xs + sum_by h ys ≡ sum_by q zs → sum_by f (x ∷ xs) + sum_by h (y ∷ ys) ≡ sum_by q (z ∷ zs)
sum_both f h q x xs y ys z zs e zero_is more = omega (arith, e, zero_is, more, sum_by-cons f x xs, sum_by-cons h y ys, sum_by-cons q z zs)

-- a sum of which one part rose
rose_in : {A : Type 0} (f : A → ℕ) (taken taken_now : List A) (one one_now : A) (rest : List A) → sum_by f taken_now ≡ sum_by f taken → Rose (f one) (f one_now) → Rose (sum_by f (taken ++ one ∷ rest)) (sum_by f (taken_now ++ one_now ∷ rest))
rose_in f taken taken_now one one_now rest same rose = omega (arith, same, rose, sum_by-append f taken (one ∷ rest), sum_by-append f taken_now (one_now ∷ rest), sum_by-cons f one rest, sum_by-cons f one_now rest)

module _ {K D : Type 0} {g : keeper.Ghosts K D} {h : counted.Ghosts K} {i : counted.Ghosts D} where
  -- one replica more
  parts_push : (seats : List (Seat K D g h i)) (desks : List (List D)) (seat : Seat K D g h i) (last : List D) → length seats ≡ length desks
      → parts_of (seats ++ seat ∷ []) (desks ++ last ∷ []) ≡ parts_of seats desks ++ record { keeper = keeper_of seat; desks = last } ∷ []
  parts_push [] [] seat last same = refl
  parts_push (first ∷ seats) (front ∷ desks) seat last same = ap (λ (l : List (Part K D)). record { keeper = keeper_of first; desks = front } ∷ l) (parts_push seats desks seat last (omega (arith, same)))
  parts_push [] (front ∷ desks) seat last same = absurd (omega (arith, same))
  parts_push (first ∷ seats) [] seat last same = absurd (omega (arith, same))

  -- the last replica is put before the parts
  pub join_one : (all : List (Part K D)) (seats_old seats : List (Seat K D g h i)) (seat : Seat K D g h i) (desks_old desks : List (List D)) (last : List D) (parts parts_new : List (Part K D)) → length seats ≡ length desks
      → seats_old ≡ seats ++ seat ∷ [] → desks_old ≡ desks ++ last ∷ [] → parts_new ≡ record { keeper = keeper_of seat; desks = last } ∷ parts
      → all ≡ parts_of seats_old desks_old ++ parts → all ≡ parts_of seats desks ++ parts_new
  join_one all seats_old seats seat desks_old desks last parts parts_new same out out_desks back is =
      is ∙ ap (λ (l : List (Seat K D g h i)). parts_of l desks_old ++ parts) out ∙ ap (λ (l : List (List D)). parts_of (seats ++ seat ∷ []) l ++ parts) out_desks
      ∙ ap (λ (l : List (Part K D)). l ++ parts) (parts_push seats desks seat last same) ∙ append_assoc (parts_of seats desks) (record { keeper = keeper_of seat; desks = last } ∷ []) parts
      ∙ ap (λ (l : List (Part K D)). parts_of seats desks ++ l) (sym back)

module _ {K D : Type 0} (k : Members K D) where
  left_self : (parts : List (Part K D)) → AreFresh k.told k.fuse parts → AreLeft k parts parts
  left_self [] fresh = tt
  left_self (part ∷ parts) fresh = let none = ap length fresh.0.no_desks in (record { told_same = refl; no_fuse = fresh.0.no_fuse; own_later = omega arith; few = omega (arith, none); of_keeper = of_none k.desk_schedule (k.schedule part.keeper) part.desks fresh.0.no_desks }, left_self parts fresh.1)

  left_append : (parts lefts more more_left : List (Part K D)) → AreLeft k parts lefts → AreLeft k more more_left → AreLeft k (parts ++ more) (lefts ++ more_left)
  left_append [] [] more more_left first second = second
  left_append (part ∷ parts) (left ∷ lefts) more more_left first second = (first.0, left_append parts lefts more more_left first.1 second)
  left_append [] (left ∷ lefts) more more_left first second = absurd first
  left_append (part ∷ parts) [] more more_left first second = absurd first

  -- nothing was opened, for want of memory
  pub refused_first : (parts : List (Part K D)) → AreFresh k.told k.fuse parts → AreRefused k Memory parts parts
  refused_first parts fresh = record {
    left = left_self parts fresh;
    rose = λ e. absurd (cc);
    calm = λ calm e. cc;
  }

module _ {K D : Type 0} {g : keeper.Ghosts K D} {h : counted.Ghosts K} {i : counted.Ghosts D} (k : Members K D) (desk_faults : D → ℕ) where
  opened_push : (parts : List (Part K D)) (seats : List (Seat K D g h i)) (desks : List (List D)) (part : Part K D) (seat : Seat K D g h i) (last : List D) → AreOpened k desk_faults parts seats desks → IsOpened k desk_faults part seat last
      → AreOpened k desk_faults (parts ++ part ∷ []) (seats ++ seat ∷ []) (desks ++ last ∷ [])
  opened_push [] [] [] part seat last all one = (one, tt)
  opened_push (first ∷ parts) (next ∷ seats) (front ∷ desks) part seat last all one = (all.0, opened_push parts seats desks part seat last all.1 one)
  opened_push [] [] (front ∷ desks) part seat last all one = absurd all
  opened_push [] (next ∷ seats) desks part seat last all one = absurd all
  opened_push (first ∷ parts) [] desks part seat last all one = absurd all
  opened_push (first ∷ parts) (next ∷ seats) [] part seat last all one = absurd all

  pub opened_length : (parts : List (Part K D)) (seats : List (Seat K D g h i)) (desks : List (List D)) → AreOpened k desk_faults parts seats desks → length seats ≡ length desks
  opened_length [] [] [] all = refl
  opened_length (first ∷ parts) (next ∷ seats) (front ∷ desks) all = ap suc (opened_length parts seats desks all.1)
  opened_length [] [] (front ∷ desks) all = absurd all
  opened_length [] (next ∷ seats) desks all = absurd all
  opened_length (first ∷ parts) [] desks all = absurd all
  opened_length (first ∷ parts) (next ∷ seats) [] all = absurd all

  -- all are handed back
  opened_left : (parts : List (Part K D)) (seats : List (Seat K D g h i)) (desks : List (List D)) → AreOpened k desk_faults parts seats desks → AreLeft k parts (parts_of seats desks)
  opened_left [] [] [] all = tt
  opened_left (first ∷ parts) (next ∷ seats) (front ∷ desks) all =
      (record { told_same = all.0.told_same; no_fuse = all.0.no_fuse; own_later = omega (arith, all.0.own_same); few = omega (arith, all.0.many); of_keeper = all.0.of_keeper }, opened_left parts seats desks all.1)
  opened_left [] [] (front ∷ desks) all = absurd all
  opened_left [] (next ∷ seats) desks all = absurd all
  opened_left (first ∷ parts) [] desks all = absurd all
  opened_left (first ∷ parts) (next ∷ seats) [] all = absurd all

  opened_owns : (parts : List (Part K D)) (seats : List (Seat K D g h i)) (desks : List (List D)) → AreOpened k desk_faults parts seats desks → owns_of k (parts_of seats desks) ≡ owns_of k parts
  opened_owns [] [] [] all = refl
  opened_owns (first ∷ parts) (next ∷ seats) (front ∷ desks) all = sum_same (λ (p : Part K D). k.own p.keeper) (λ (p : Part K D). k.own p.keeper) (record { keeper = keeper_of next; desks = front }) (parts_of seats desks) first parts all.0.own_same (opened_owns parts seats desks all.1)
  opened_owns [] [] (front ∷ desks) all = absurd all
  opened_owns [] (next ∷ seats) desks all = absurd all
  opened_owns (first ∷ parts) [] desks all = absurd all
  opened_owns (first ∷ parts) (next ∷ seats) [] all = absurd all

  -- each has its desks
  pub opened_desked : (parts : List (Part K D)) (seats : List (Seat K D g h i)) (desks : List (List D)) → AreOpened k desk_faults parts seats desks → is_desked (length seats) desks ≡ true
  opened_desked parts seats desks all = both_true (same (length seats) (length desks) (opened_length parts seats desks all)) (each parts seats desks all)
    where
      same : (m n : ℕ) → m ≡ n → nat_eq m n ≡ true
      same m n e = grind (arith, e)

      each : (parts : List (Part K D)) (seats : List (Seat K D g h i)) (desks : List (List D)) → AreOpened k desk_faults parts seats desks → list_all is_full_list desks ≡ true
      each [] [] [] all = refl
      each (first ∷ parts) (next ∷ seats) (front ∷ desks) all = both_true (ap (λ n. nat_eq n desks_each) all.0.many) (each parts seats desks all.1)
      each [] [] (front ∷ desks) all = absurd all
      each [] (next ∷ seats) desks all = absurd all
      each (first ∷ parts) [] desks all = absurd all
      each (first ∷ parts) (next ∷ seats) [] all = absurd all

  -- made by its keeper
  pub opened_own : (parts : List (Part K D)) (seats : List (Seat K D g h i)) (desks : List (List D)) → AreOpened k desk_faults parts seats desks → HaveOwnDesks k parts desks
  opened_own [] [] [] all = tt
  opened_own (first ∷ parts) (next ∷ seats) (front ∷ desks) all = (all.0.of_keeper, opened_own parts seats desks all.1)
  opened_own [] [] (front ∷ desks) all = absurd all
  opened_own [] (next ∷ seats) desks all = absurd all
  opened_own (first ∷ parts) [] desks all = absurd all
  opened_own (first ∷ parts) (next ∷ seats) [] all = absurd all

  -- what a world of them stands for, and counts
  pub opened_starts : (parts : List (Part K D)) (seats : List (Seat K D g h i)) (desks : List (List D)) → AreOpened k desk_faults parts seats desks → AreStarts (starts_of k.told parts) (map (place k) seats)
  opened_starts [] [] [] all = tt
  opened_starts (first ∷ parts) (next ∷ seats) (front ∷ desks) all = (all.0.start, opened_starts parts seats desks all.1)
  opened_starts [] [] (front ∷ desks) all = absurd all
  opened_starts [] (next ∷ seats) desks all = absurd all
  opened_starts (first ∷ parts) [] desks all = absurd all
  opened_starts (first ∷ parts) (next ∷ seats) [] all = absurd all

  pub opened_counts : (parts : List (Part K D)) (seats : List (Seat K D g h i)) (desks : List (List D)) → AreOpened k desk_faults parts seats desks → own_in k seats + desks_in desk_faults desks ≡ owns_of k parts
  opened_counts [] [] [] all = refl
  opened_counts (first ∷ parts) (next ∷ seats) (front ∷ desks) all = sum_both (λ (seat : Seat K D g h i). k.own (keeper_of seat)) (λ (list : List D). sum_by desk_faults list) (λ (p : Part K D). k.own p.keeper) next seats front desks first parts
      all.0.own_same all.0.new_desks.no_faults (opened_counts parts seats desks all.1)
  opened_counts [] [] (front ∷ desks) all = absurd all
  opened_counts [] (next ∷ seats) desks all = absurd all
  opened_counts (first ∷ parts) [] desks all = absurd all
  opened_counts (first ∷ parts) (next ∷ seats) [] all = absurd all

  pub opened_unarmed : (parts : List (Part K D)) (seats : List (Seat K D g h i)) (desks : List (List D)) → AreOpened k desk_faults parts seats desks → armed_in k seats ≡ 0
  opened_unarmed [] [] [] all = refl
  opened_unarmed (first ∷ parts) (next ∷ seats) (front ∷ desks) all =
      sum_none (λ (seat : Seat K D g h i). armed_at k (keeper_of seat)) next seats (ap {B = ℕ} (λ (f : Option Fuse). cond (is_some f) 1 0) all.0.no_fuse) (opened_unarmed parts seats desks all.1)
  opened_unarmed [] [] (front ∷ desks) all = absurd all
  opened_unarmed [] (next ∷ seats) desks all = absurd all
  opened_unarmed (first ∷ parts) [] desks all = absurd all
  opened_unarmed (first ∷ parts) (next ∷ seats) [] all = absurd all

  pub opened_calm : (parts : List (Part K D)) (seats : List (Seat K D g h i)) (desks : List (List D)) → AreOpened k desk_faults parts seats desks → are_calm k parts ≡ true
      → (list_all (λ (seat : Seat K D g h i). is_calm_keeper k (keeper_of seat)) seats ≡ true) × (list_all (λ (list : List D). list_all (is_calm_desk k desk_faults) list) desks ≡ true)
  opened_calm [] [] [] all calm = (refl, refl)
  opened_calm (first ∷ parts) (next ∷ seats) (front ∷ desks) all calm =
      let more = opened_calm parts seats desks all.1 (second_true _ _ calm) in let quiet = first_true _ _ (first_true _ _ calm) in (
        both_true (both_true (all.0.still_quiet quiet) (ap (λ n. nat_eq n 0) all.0.own_same ∙ second_true (k.quiet first.keeper) _ (first_true _ _ calm))) more.0,
        both_true (all.0.new_desks.calm quiet) more.1,
      )
  opened_calm [] [] (front ∷ desks) all calm = absurd all
  opened_calm [] (next ∷ seats) desks all calm = absurd all
  opened_calm (first ∷ parts) [] desks all calm = absurd all
  opened_calm (first ∷ parts) (next ∷ seats) [] all calm = absurd all

  -- where the loop over the parts stands
  pub record IsOpening (all parts : List (Part K D)) (seats : List (Seat K D g h i)) (desks : List (List D)) : Type 0 where
    pub taken : List (Part K D)
    pub split : all ≡ taken ++ parts
    pub opened : AreOpened k desk_faults taken seats desks
    pub fresh : AreFresh k.told k.fuse parts
    pub calm : are_calm k all ≡ true → are_calm k parts ≡ true

  pub opening_begins : (all : List (Part K D)) (seats : List (Seat K D g h i)) (desks : List (List D)) → seats ≡ [] → desks ≡ [] → AreFresh k.told k.fuse all → IsOpening all all seats desks
  opening_begins all seats desks none none_desks fresh = record {
    taken = [];
    split = refl;
    opened = subst (λ (l : List (Seat K D g h i)). AreOpened k desk_faults [] l desks) (sym none) (subst (λ (l : List (List D)). AreOpened {g = g} {h = h} {i = i} k desk_faults [] [] l) (sym none_desks) tt);
    fresh = fresh;
    calm = λ e. e;
  }

  pub opening_more : (all parts rest : List (Part K D)) (seats : List (Seat K D g h i)) (desks : List (List D)) (part : Part K D) (seat : Seat K D g h i) (last : List D) → IsOpening all parts seats desks → parts ≡ part ∷ rest → IsOpened k desk_faults part seat last
      → IsOpening all rest (seats ++ seat ∷ []) (desks ++ last ∷ [])
  opening_more all parts rest seats desks part seat last opening out one = record {
    taken = opening.taken ++ part ∷ [];
    split = opening.split ∙ ap (λ (l : List (Part K D)). opening.taken ++ l) out ∙ sym (append_assoc opening.taken (part ∷ []) rest);
    opened = opened_push opening.taken seats desks part seat last opening.opened one;
    fresh = (subst (AreFresh k.told k.fuse) out opening.fresh).1;
    calm = λ e. second_true (is_calm_keeper k part.keeper) _ (sym (ap (are_calm k) out) ∙ opening.calm e);
  }

  pub opening_done : (all parts : List (Part K D)) (seats : List (Seat K D g h i)) (desks : List (List D)) → IsOpening all parts seats desks → length parts ≡ 0 → AreOpened k desk_faults all seats desks
  opening_done all [] seats desks opening none = subst (λ (l : List (Part K D)). AreOpened k desk_faults l seats desks) (sym (opening.split ∙ append-nil opening.taken)) opening.opened
  opening_done all (part ∷ parts) seats desks opening none = absurd (omega (arith, none))

  pub opening_refused : (cause : OpenCause) (all parts rest : List (Part K D)) (seats : List (Seat K D g h i)) (desks : List (List D)) (part left : Part K D) → IsOpening all parts seats desks → parts ≡ part ∷ rest → IsBack k cause part.keeper left.keeper → length left.desks ≤ desks_each
      → AreDesksOf k.desk_schedule (k.schedule part.keeper) left.desks → AreRefused k cause all (parts_of seats desks ++ left ∷ rest)
  opening_refused cause all parts rest seats desks part left opening out back few of_keeper = record {
    left = subst (λ (l : List (Part K D)). AreLeft k l (parts_of seats desks ++ left ∷ rest)) (sym split)
        (left_append k opening.taken (parts_of seats desks) (part ∷ rest) (left ∷ rest) (opened_left opening.taken seats desks opening.opened)
        (record { told_same = back.told_same; no_fuse = back.no_fuse; own_later = back.own_later; few = few; of_keeper = of_keeper }, left_self k rest fresh.1));
    rose = λ e. subst (λ (l : List (Part K D)). Rose (owns_of k l) (owns_of k (parts_of seats desks ++ left ∷ rest))) (sym split)
        (rose_in (λ (p : Part K D). k.own p.keeper) opening.taken (parts_of seats desks) part left rest (opened_owns opening.taken seats desks opening.opened) (back.rose e));
    calm = λ e f. back.calm (first_true _ _ (sym (ap (are_calm k) out) ∙ opening.calm e)) f;
  }
    where
      split : all ≡ opening.taken ++ part ∷ rest
      split = opening.split ∙ ap (λ (l : List (Part K D)). opening.taken ++ l) out

      fresh : AreFresh k.told k.fuse (part ∷ rest)
      fresh = subst (AreFresh k.told k.fuse) out opening.fresh

pub counts_of_desked : {D : Type 0} (count : ℕ) (desks : List (List D)) → is_desked count desks ≡ true → count ≡ length desks
counts_of_desked count desks is = let same : nat_eq count (length desks) ≡ true = first_true (nat_eq count (length desks)) (list_all is_full_list desks) is in grind (arith, nat_tests, same)

-- what is said of a world that was made of parts
module _ {K D : Type 0} {g : keeper.Ghosts K D} {h : counted.Ghosts K} {i : counted.Ghosts D} (k : Members K D) (desk_faults : D → ℕ) (all parts : List (Part K D)) (same : parts ≡ all) where
  pub world_first : {E : Type 0} (result : Result (World K D g h i) E) → IfOk result (λ world. AreOpened k desk_faults parts world.seats.items world.desks.items) → IfOk result (λ world. (world.bag ≡ no_bag) × (world.down.items ≡ [])) → IfOk result (λ world. IsFirst (starts_of k.told all) (state k desk_faults world))
  world_first (Ok world) made bare = (subst (λ (l : List (Part K D)). AreStarts (starts_of k.told l) (map (place k) world.seats.items)) same (opened_starts k desk_faults parts world.seats.items world.desks.items made), λ i. record { bag = bare.0 i; down = bare.1 i })
  world_first (Err refused) made bare = tt

  pub world_counted : {E : Type 0} (result : Result (World K D g h i) E) → IfOk result (λ world. AreOpened k desk_faults parts world.seats.items world.desks.items) → IfOk result (λ world. counted_in k desk_faults world ≡ owns_of k all)
  world_counted (Ok world) made = opened_counts k desk_faults parts world.seats.items world.desks.items made ∙ ap (owns_of k) same
  world_counted (Err refused) made = tt

  pub world_unarmed : {E : Type 0} (result : Result (World K D g h i) E) → IfOk result (λ world. AreOpened k desk_faults parts world.seats.items world.desks.items) → IfOk result (λ world. armed_in k world.seats.items ≡ 0)
  world_unarmed (Ok world) made = opened_unarmed k desk_faults parts world.seats.items world.desks.items made
  world_unarmed (Err refused) made = tt

  pub world_calm : {E : Type 0} (result : Result (World K D g h i) E) → IfOk result (λ world. AreOpened k desk_faults parts world.seats.items world.desks.items) → IfOk result (λ world. are_calm k all ≡ true → is_calm k desk_faults world ≡ true)
  world_calm (Ok world) made = λ calm. let both = opened_calm k desk_faults parts world.seats.items world.desks.items made (ap (are_calm k) same ∙ calm) in both_true both.0 both.1
  world_calm (Err refused) made = tt

  pub world_own : {E : Type 0} (result : Result (World K D g h i) E) → IfOk result (λ world. AreOpened k desk_faults parts world.seats.items world.desks.items) → IfOk result (λ world. HaveOwnDesks k all world.desks.items)
  world_own (Ok world) made = subst (λ (l : List (Part K D)). HaveOwnDesks k l world.desks.items) same (opened_own k desk_faults parts world.seats.items world.desks.items made)
  world_own (Err refused) made = tt
