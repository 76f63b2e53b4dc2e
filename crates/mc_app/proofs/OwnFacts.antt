-- A keeper or a desk that failed by itself is counted.
use Rattle.std.proofs.Common.{◌≡◌, ◌≤◌, ◌<◌, ◌+◌, ◌-◌, ◌^◌, ℕ, zero, suc, Bool, true, false, cond, List, [], ◌∷◌, Option, Some, None, refl, ap, arith, inl, inr}
use Rattle.std.specs.Prelude.{◌⊎◌, ◌&&◌, ◌||◌, ◌==◌, min, slice_get}
use Rattle.std.specs.List.{sum_by}
use Rattle.std.proofs.lemmas.Bool.{cases_lt, eq-eqb, eqb-true}
use Rattle.std.proofs.lemmas.List.Sums.{sum_by-cons}
use Rattle.mc_base.specs.Causes.{Rose}
use Rattle.mc_base.specs.declared.counted.Counted as counted
use Rattle.mc_keep.specs.Calls.{Members}
use Rattle.mc_keep.specs.declared.keeper.Keeper as keeper
use Rattle.mc_runs.specs.Runs.{IsWithin, names_none}
use Rattle.mc_seats.specs.declared.seat.Seat.{Seat}
use Rattle.mc_seats.specs.declared.world.World.{World}
use Rattle.mc_seats.specs.Asks.{is_named}
use Rattle.mc_seats.specs.Keepers.{AllLater, WorldGoes, counted_in, desk_count, keeper_of}
use Rattle.mc_seats.specs.Record.{RoseAt, RoseIn}
use Rattle.mc_seats.specs.Words.{DeskRose, OwnRose}

-- whether a list names a number

pub named_first : (n : ℕ) (ns : List ℕ) → is_named (n ∷ ns) n ≡ true
named_first n ns = ap (λ (b : Bool). b || is_named ns n) (eq-eqb n n refl)

pub named_one : (n r : ℕ) → is_named (n ∷ []) r ≡ true → n ≡ r
named_one n r e = eqb-true n r (left (n == r) e)
  where
    left : (b : Bool) → (b || false) ≡ true → b ≡ true
    left true e = refl
    left false e = e

-- a count rose, or didn't

rose_or : (before now : ℕ) → Rose before now ⊎ (Rose before now → ⊥)
rose_or before now = over (cases_lt now (min (before + 1) (2 ^ 64 - 1)))
  where
    over : (now < min (before + 1) (2 ^ 64 - 1)) ⊎ (min (before + 1) (2 ^ 64 - 1) ≤ now) → Rose before now ⊎ (Rose before now → ⊥)
    over (inl below) = inr (λ rose. absurd (omega (arith, below, rose)))
    over (inr rose) = inl rose

pub rises_or : {A : Type 0} (count : A → ℕ) (olds news : List A) (r : ℕ) → RoseIn count olds news r ⊎ (RoseIn count olds news r → ⊥)
rises_or count olds news r = over (slice_get olds r) (slice_get news r)
  where
    over : (old new : Option _) → RoseAt count old new ⊎ (RoseAt count old new → ⊥)
    over None new = inr (λ rose. rose)
    over (Some old) None = inr (λ rose. rose)
    over (Some old) (Some new) = rose_or (count old) (count new)

-- where one of some counts rose, and none fell, their sum rose

sum_later : {A : Type 0} (count : A → ℕ) (olds news : List A) → AllLater count olds news → sum_by count olds ≤ sum_by count news
sum_later count [] [] later = omega arith
sum_later count [] (new ∷ news) later = absurd later
sum_later count (old ∷ olds) [] later = absurd later
sum_later count (old ∷ olds) (new ∷ news) later =
    let was = sum_by-cons count old olds in
    let now = sum_by-cons count new news in
    let first = later.0 in
    let others = sum_later count olds news later.1 in
    omega (arith, was, now, first, others)

first_rose : (one one2 rest rest2 sum sum2 : ℕ) → sum ≡ one + rest → sum2 ≡ one2 + rest2 → one ≤ one2 → rest ≤ rest2 → Rose one one2 → Rose sum sum2
first_rose one one2 rest rest2 sum sum2 is is2 later more rose = omega (arith, is, is2, later, more, rose)

rest_rose : (one one2 rest rest2 sum sum2 : ℕ) → sum ≡ one + rest → sum2 ≡ one2 + rest2 → one ≤ one2 → rest ≤ rest2 → Rose rest rest2 → Rose sum sum2
rest_rose one one2 rest rest2 sum sum2 is is2 later more rose = omega (arith, is, is2, later, more, rose)

sum_rose : {A : Type 0} (count read : A → ℕ) → ((old new : A) → Rose (read old) (read new) → Rose (count old) (count new)) → (olds news : List A) (r : ℕ) → AllLater count olds news → RoseIn read olds news r → Rose (sum_by count olds) (sum_by count news)
sum_rose count read weaker [] news r later rose = absurd rose
sum_rose count read weaker (old ∷ olds) [] r later rose = absurd later
sum_rose count read weaker (old ∷ olds) (new ∷ news) zero later rose =
    first_rose (count old) (count new) (sum_by count olds) (sum_by count news) _ _ (sum_by-cons count old olds) (sum_by-cons count new news) later.0 (sum_later count olds news later.1) (weaker old new rose)
sum_rose count read weaker (old ∷ olds) (new ∷ news) (suc r) later rose =
    rest_rose (count old) (count new) (sum_by count olds) (sum_by count news) _ _ (sum_by-cons count old olds) (sum_by-cons count new news) later.0 (sum_later count olds news later.1) (sum_rose count read weaker olds news r later.1 rose)

-- an entry that names one is paid

entry_paid : (before now : ℕ) (own desks : List ℕ) → ((r : ℕ) → is_named own r ≡ true → Rose before now) → ((r : ℕ) → is_named desks r ≡ true → Rose before now) → before ≤ now → IsWithin before now (cond (names_none own && names_none desks) 0 1)
entry_paid before now [] [] owns desked later = omega (arith, later)
entry_paid before now (n ∷ own) desks owns desked later = owns n (named_first n own)
entry_paid before now [] (n ∷ desks) owns desked later = desked n (named_first n desks)

module _ {K D : Type 0} {g : keeper.Ghosts K D} {h : counted.Ghosts K} {i : counted.Ghosts D} (k : Members K D) (desk_faults : D → ℕ) {faults arming : ℕ} {old new : World K D g h i} (goes : WorldGoes k desk_faults faults arming old new) where
  owns_rose : (r : ℕ) → OwnRose k desk_faults old new r → Rose (counted_in k desk_faults old) (counted_in k desk_faults new)
  owns_rose r rose =
      let own = sum_rose (λ (seat : Seat K D g h i). k.own (keeper_of seat)) (λ (seat : Seat K D g h i). k.own (keeper_of seat)) (λ x y rose. rose) old.seats.items new.seats.items r goes.own_later rose in
      let desks = sum_later (λ (list : List D). sum_by desk_faults list) old.desks.items new.desks.items goes.desks_later in
      omega (arith, own, desks)

  desks_rose : (r : ℕ) → DeskRose k desk_faults old new r → Rose (counted_in k desk_faults old) (counted_in k desk_faults new)
  desks_rose r rose =
      let own = sum_later (λ (seat : Seat K D g h i). k.own (keeper_of seat)) old.seats.items new.seats.items goes.own_later in
      let desks = sum_rose (λ (list : List D). sum_by desk_faults list) (desk_count desk_faults) (λ x y rose. uncapped (sum_by desk_faults x) (sum_by desk_faults y) rose) old.desks.items new.desks.items r goes.desks_later rose in
      omega (arith, own, desks)
    where
      uncapped : (before now : ℕ) → Rose (min before (2 ^ 64 - 1)) (min now (2 ^ 64 - 1)) → Rose before now
      uncapped before now rose = omega (arith, rose)

  pub own_paid : (own desks : List ℕ) → ((r : ℕ) → is_named own r ≡ true → OwnRose k desk_faults old new r) → ((r : ℕ) → is_named desks r ≡ true → DeskRose k desk_faults old new r) → IsWithin (counted_in k desk_faults old) (counted_in k desk_faults new) (cond (names_none own && names_none desks) 0 1)
  own_paid own desks owns desked = entry_paid _ _ own desks (λ r named. owns_rose r (owns r named)) (λ r named. desks_rose r (desked r named)) goes.paid.later
