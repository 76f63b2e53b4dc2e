-- A comparison of two replicas as what it does in a world.
use Rattle.std.proofs.Common.{◌≡◌, ◌≤◌, ◌+◌, ◌-◌, ℕ, zero, suc, Bool, true, false, true≢false, ◌&&◌, List, [], ◌∷◌, Option, Some, None, Result, Ok, Err, refl, sym, ap, subst, ◌∙◌, inl, inr, ◌⊎◌, ◌<◌, length, set, arith}
use Rattle.std.specs.Prelude.{◌^◌, ◌↔◌, ◌||◌, ◌==◌, IfSome, is_some, unwrap_or}
use Rattle.std.specs.List.{AllZip, list_all, slice_get, sum_by}
use Rattle.std.specs.Option.{option_and_then, option_map, option_or}
use Rattle.std.proofs.lemmas.Bool.{eq-eqb, ltb-true}
use Rattle.std.proofs.lemmas.List.{length-map, length-set}
use Rattle.std.proofs.lemmas.List.Sums.{sum_by-cons}
use Rattle.mc_base.specs.Causes.{Rose}
use Rattle.mc_base.specs.Told.{Told}
use Rattle.mc_base.specs.declared.cid.Cid.{Cid}
use Rattle.mc_base.specs.declared.counted.Counted as counted
use Rattle.mc_keep.specs.Calls.{Members}
use Rattle.mc_keep.specs.declared.fuse.Fuse.{Fuse}
use Rattle.mc_keep.specs.declared.keeper.Keeper as keeper
use Rattle.mc_model.specs.Events.{Event}
use Rattle.mc_model.specs.Graph.{has}
use Rattle.mc_model.specs.Kept.{Kept}
use Rattle.mc_model.specs.State.{Running}
use Rattle.mc_model.proofs.Counts.{all_has, has_all}
use Rattle.mc_core.specs.Calls.{Faults}
use Rattle.mc_core.specs.Events.{ReplicaState, state_of}
use Rattle.mc_script.specs.declared.command.Command.TheVariants.{Same as SameOf}
use Rattle.mc_script.specs.declared.reply.Reply.{Reply}
use Rattle.mc_script.specs.declared.reply.Reply.TheVariants.{FaultKeeper, Same, Stopped}
use Rattle.mc_seats.specs.declared.bag.Bag.{Bag}
use Rattle.mc_seats.specs.declared.error.ActError.TheVariants.{BadLine, Memory}
use Rattle.mc_acts.specs.declared.sames.CompareError.{CompareError}
use Rattle.mc_acts.specs.declared.sames.CompareError.TheVariants.{Fault, TooMany}
use Rattle.mc_seats.specs.declared.seat.Held.TheVariants.{Up, Down}
use Rattle.mc_seats.specs.declared.seat.Seat.{Seat}
use Rattle.mc_seats.specs.declared.world.World.{World}
use Rattle.mc_seats.specs.Asks.{is_among, is_named, is_there}
use Rattle.mc_seats.specs.Keepers.{AllLater, IsPaid, WorldGoes, armed_at, armed_in, desks_in, is_calm_desk, is_calm_keeper, keeper_in, keeper_of, own_in}
use Rattle.mc_seats.specs.Effects.{EventsOf, stop_reply}
use Rattle.mc_seats.specs.Record.{RoseAt, RoseIn}
use Rattle.mc_acts.specs.Sames.{AllStay, Compares, FailsAt, IfBoth, IsUpAt, SeatStays, all_in, both_up, content_at, is_up_seat, up_at}
use Rattle.mc_seats.specs.Step.{CutShort, SameProcessed, either_reply}
use Rattle.mc_seats.specs.Words.{ActsOn, place, state}
use Rattle.mc_seats.specs.Worlds.{Around, AtPlace, Place, is_up, place_with, places_of, state_at}
use Rattle.mc_seats.proofs.GoesFacts.{paid_then}
use Rattle.mc_acts.proofs.LiftFacts.{around_goes, at_place, later_same, later_set, memory_is_not_bad, no_err, set_at, stands_at}
use Rattle.mc_acts.proofs.RecordFacts.{get_within}
use Rattle.mc_acts.proofs.SameFacts.{length_stays, places_stay, up_read}
use Rattle.mc_seats.proofs.SeatFacts.{all_of_set, both, first, get_of_set, paid_beside, paid_none, paid_of_set, rest}
use Rattle.mc_seats.proofs.StayFacts.{same_stay}

-- two lists with the same members

pub same_members : (xs ys : List Cid) → ((all_in xs ys ≡ true) × (all_in ys xs ≡ true)) ↔ ((c : Cid) → has c xs ≡ has c ys)
same_members xs ys = (
  λ all c. both_ways (has c xs) (has c ys) (all_has (λ d. has d ys) xs all.0 c) (all_has (λ d. has d xs) ys all.1 c),
  λ same. (has_all (λ d. has d ys) xs (λ c is. sym (same c) ∙ is), has_all (λ d. has d xs) ys (λ c is. same c ∙ is)),
)
  where
    both_ways : (a b : Bool) → (a ≡ true → b ≡ true) → (b ≡ true → a ≡ true) → a ≡ b
    both_ways true b f g = sym (f refl)
    both_ways false true f g = g refl
    both_ways false false f g = refl

-- what is read of a list and of what it was

pub zip_get : {A : Type 0} (R : A → A → Type 0) (xs ys : List A) (n : ℕ) (y : A) → AllZip R xs ys → slice_get ys n ≡ Some y → (x : A) × (slice_get xs n ≡ Some x) × R x y
zip_get R [] [] n y zip is = absurd (true≢false (sym (ap is_some is)))
zip_get R [] (z ∷ ys) n y zip is = absurd zip
zip_get R (x ∷ xs) [] n y zip is = absurd zip
zip_get R (x ∷ xs) (z ∷ ys) zero y zip is = (x, refl, subst (λ a. R x a) (ap (λ o. unwrap_or o z) is) zip.0)
zip_get R (x ∷ xs) (z ∷ ys) (suc n) y zip is = zip_get R xs ys n y zip.1 is

paid_plus : (f1 a1 f2 a2 x ax y ay xs axs ys ays : ℕ) → IsPaid f1 a1 x ax y ay → IsPaid f2 a2 xs axs ys ays → IsPaid (f1 + f2) (a1 + a2) (x + xs) (ax + axs) (y + ys) (ay + ays)
paid_plus f1 a1 f2 a2 x ax y ay xs axs ys ays p q =
    let first_later = p.later in
    let rest_later = q.later in
    record {
      later = omega (arith, first_later, rest_later);
      paid = elim p.paid as (λ _. (x + xs + (f1 + f2) + (ay + ays) ≤ y + ys + (ax + axs) + (a1 + a2)) ⊎ (2 ^ 64 - 1 ≤ y + ys)) [
        | inl paid ↦ elim q.paid as (λ _. (x + xs + (f1 + f2) + (ay + ays) ≤ y + ys + (ax + axs) + (a1 + a2)) ⊎ (2 ^ 64 - 1 ≤ y + ys)) [
          | inl more ↦ inl (omega (arith, paid, more))
          | inr full ↦ inr (omega (arith, full))
        ]
        | inr full ↦ inr (omega (arith, full))
      ];
    }

-- a fault of a read cuts nothing short

cut_read : (P : ReplicaState → List Event → Reply → Type 0) (own : Type 0) (told : Option Kept) (fuse : Option Fuse) (run : Option Running) → own → Told (state_of told fuse run) (state_of told fuse None) (λ s new. Faults (λ events reply. P s events reply) own s new)
cut_read P own None fuse run rose = tt
cut_read P own (Some kept) fuse run rose = record { events = []; begins = inl refl; breaks = record { so_far = []; rest = []; split = refl; may = tt; fate = (rose, refl) } }

-- what is read at a place since an earlier moment rose

rose_from : {A : Type 0} (f : A → ℕ) (olds mids news : List A) (n : ℕ) (x y z : A) → slice_get olds n ≡ Some x → slice_get mids n ≡ Some y → news ≡ set mids n z → f x ≤ f y → Rose (f y) (f z) → RoseIn f olds news n
rose_from f olds mids news n x y z is mid after later rose =
    subst (λ (o : Option _). RoseAt f (slice_get olds n) o) (sym (ap (λ l. slice_get l n) after ∙ get_of_set mids n y z mid))
    (subst (λ (o : Option _). RoseAt f o (Some z)) (sym is) (omega (arith, later, rose)))

or_right : (b : Bool) {c : Bool} → c ≡ true → (b || c) ≡ true
or_right true is = refl
or_right false is = is

-- a replica that doesn't run, of two

one_stopped : (run run2 : Option Running) → (is_up run && is_up run2) ≡ false → option_or (stop_reply run) (stop_reply run2) ≡ Some Stopped
one_stopped None run2 not_both = refl
one_stopped (Some run) None not_both = refl
one_stopped (Some run) (Some run2) not_both = absurd (true≢false not_both)

-- what is told of two places

over_contents : (p q : Place) (said : Bool) (first_told second_told : Option Kept) → first_told ≡ p.content → second_told ≡ q.content
    → IfBoth first_told second_told (λ s t. (said ≡ true) ↔ ((all_in s.order t.order ≡ true) × (all_in t.order s.order ≡ true))) → IfSome (state_at p) (λ s. IfSome (state_at q) (λ t. (said ≡ true) ↔ SameProcessed s t))
over_contents p q said first_told second_told a b both_say = over p.content q.content p.fuse q.fuse p.run q.run (subst (λ (o : Option Kept). IfBoth p.content o (λ s t. (said ≡ true) ↔ ((all_in s.order t.order ≡ true) × (all_in t.order s.order ≡ true)))) b (subst (λ (o : Option Kept). IfBoth o second_told (λ s t. (said ≡ true) ↔ ((all_in s.order t.order ≡ true) × (all_in t.order s.order ≡ true)))) a both_say))
  where
    over : (told told2 : Option Kept) (fuse fuse2 : Option Fuse) (run run2 : Option Running) → IfBoth told told2 (λ s t. (said ≡ true) ↔ ((all_in s.order t.order ≡ true) × (all_in t.order s.order ≡ true)))
        → IfSome (state_of told fuse run) (λ s. IfSome (state_of told2 fuse2 run2) (λ t. (said ≡ true) ↔ SameProcessed s t))
    over None told2 fuse fuse2 run run2 both_say = tt
    over (Some s) None fuse fuse2 run run2 both_say = tt
    over (Some s) (Some t) fuse fuse2 run run2 both_say =
        let members = same_members s.order t.order in
        (λ is. members.0 (both_say.0 is), λ same. both_say.1 (members.1 same))

module _ {K D : Type 0} {g : keeper.Ghosts K D} {h : counted.Ghosts K} {i : counted.Ghosts D} (k : Members K D) (desk_faults : D → ℕ) where
  abbrev own_at : Seat K D g h i → ℕ
  own_at seat = k.own (keeper_of seat)

  abbrev armed_of : Seat K D g h i → ℕ
  armed_of seat = armed_at k (keeper_of seat)

  abbrev calm_of : Seat K D g h i → Bool
  calm_of seat = is_calm_keeper k (keeper_of seat)

  -- what reads leave of the counts

  paid_stay : (xs ys : List (Seat K D g h i)) → AllStay k xs ys → IsPaid 0 0 (own_in k xs) (armed_in k xs) (own_in k ys) (armed_in k ys)
  paid_stay [] [] stay = paid_none 0 0 0
  paid_stay [] (y ∷ ys) stay = absurd stay
  paid_stay (x ∷ xs) [] stay = absurd stay
  paid_stay (x ∷ xs) (y ∷ ys) stay = subst (λ n. IsPaid 0 0 n (armed_in k (x ∷ xs)) (own_in k (y ∷ ys)) (armed_in k (y ∷ ys))) (sym (sum_by-cons own_at x xs))
      (subst (λ n. IsPaid 0 0 (own_at x + own_in k xs) n (own_in k (y ∷ ys)) (armed_in k (y ∷ ys))) (sym (sum_by-cons armed_of x xs))
      (subst (λ n. IsPaid 0 0 (own_at x + own_in k xs) (armed_of x + armed_in k xs) n (armed_in k (y ∷ ys))) (sym (sum_by-cons own_at y ys))
      (subst (λ n. IsPaid 0 0 (own_at x + own_in k xs) (armed_of x + armed_in k xs) (own_at y + own_in k ys) n) (sym (sum_by-cons armed_of y ys))
      (paid_plus 0 0 0 0 (own_at x) (armed_of x) (own_at y) (armed_of y) (own_in k xs) (armed_in k xs) (own_in k ys) (armed_in k ys) stay.0.goes.paid (paid_stay xs ys stay.1)))))

  calm_stay : (xs ys : List (Seat K D g h i)) → AllStay k xs ys → list_all calm_of xs ≡ true → list_all calm_of ys ≡ true
  calm_stay [] [] stay is = is
  calm_stay [] (y ∷ ys) stay is = absurd stay
  calm_stay (x ∷ xs) [] stay is = absurd stay
  calm_stay (x ∷ xs) (y ∷ ys) stay is = both (calm_of y) (list_all calm_of ys) (stay.0.goes.calm (first (calm_of x) (list_all calm_of xs) is)) (calm_stay xs ys stay.1 (rest (calm_of x) (list_all calm_of xs) is))

  own_stay : (xs ys : List (Seat K D g h i)) → AllStay k xs ys → AllLater own_at xs ys
  own_stay [] [] stay = tt
  own_stay [] (y ∷ ys) stay = absurd stay
  own_stay (x ∷ xs) [] stay = absurd stay
  own_stay (x ∷ xs) (y ∷ ys) stay = (stay.0.goes.paid.later, own_stay xs ys stay.1)

  -- two worlds that differ in reads, and perhaps in a last read that failed
  pub record OnlyRead (old new : World K D g h i) : Type 0 where
    pub desks : new.desks.items ≡ old.desks.items
    pub bag : new.bag ≡ old.bag
    pub down : new.down.items ≡ old.down.items
    pub entries : new.entries ≡ old.entries

  around_read : (old new : World K D g h i) → OnlyRead old new → (state k desk_faults new).around ≡ (state k desk_faults old).around
  around_read old new same = λ t. record { bag = same.bag t; down = same.down t }

  goes_by : (faults : ℕ) (old new : World K D g h i) → OnlyRead old new → IsPaid faults 0 (own_in k old.seats.items) (armed_in k old.seats.items) (own_in k new.seats.items) (armed_in k new.seats.items)
      → (list_all calm_of old.seats.items ≡ true → list_all calm_of new.seats.items ≡ true) → AllLater own_at old.seats.items new.seats.items → WorldGoes k desk_faults faults 0 old new
  goes_by faults old new same paid calm later = record {
    paid = subst (λ (l : List (List D)). IsPaid faults 0 (own_in k old.seats.items + desks_in desk_faults old.desks.items) (armed_in k old.seats.items) (own_in k new.seats.items + desks_in desk_faults l) (armed_in k new.seats.items)) (sym same.desks)
        (paid_beside faults 0 (own_in k old.seats.items) (armed_in k old.seats.items) (own_in k new.seats.items) (armed_in k new.seats.items) (desks_in desk_faults old.desks.items) paid);
    calm = λ is. both _ _ (calm (first _ _ is)) (subst (λ (l : List (List D)). list_all (λ (list : List D). list_all (is_calm_desk k desk_faults) list) l ≡ true) (sym same.desks) (rest _ _ is));
    own_later = later;
    desks_later = subst (λ (l : List (List D)). AllLater (λ (list : List D). sum_by desk_faults list) old.desks.items l) (sym same.desks) (later_same (λ (list : List D). sum_by desk_faults list) old.desks.items);
    desks_stay = same_stay k desk_faults old.desks.items new.desks.items same.desks;
  }

  goes_read : (old new : World K D g h i) → OnlyRead old new → AllStay k old.seats.items new.seats.items → WorldGoes k desk_faults 0 0 old new
  goes_read old new same stay = goes_by 0 old new same (paid_stay old.seats.items new.seats.items stay) (calm_stay old.seats.items new.seats.items stay) (own_stay old.seats.items new.seats.items stay)

  goes_failed : (at : ℕ) (old new : World K D g h i) → OnlyRead old new → FailsAt k at old.seats.items new.seats.items → WorldGoes k desk_faults 1 0 old new
  goes_failed at old new same fails = goes_by 1 old new same
      (paid_then 0 0 1 0 (own_in k old.seats.items) (armed_in k old.seats.items) (own_in k fails.mid) (armed_in k fails.mid) (own_in k new.seats.items) (armed_in k new.seats.items) (paid_stay old.seats.items fails.mid fails.stay)
      (subst (λ (l : List (Seat K D g h i)). IsPaid 1 0 (own_in k fails.mid) (armed_in k fails.mid) (own_in k l) (armed_in k l)) (sym fails.falls.after) (paid_of_set own_at armed_of 1 0 fails.mid at fails.falls.old fails.falls.new fails.falls.stands fails.falls.holds.goes.paid)))
      (λ is. subst (λ (l : List (Seat K D g h i)). list_all calm_of l ≡ true) (sym fails.falls.after) (all_of_set calm_of fails.mid at fails.falls.old fails.falls.new fails.falls.stands fails.falls.holds.goes.calm (calm_stay old.seats.items fails.mid fails.stay is)))
      (subst (λ (l : List (Seat K D g h i)). AllLater own_at old.seats.items l) (sym fails.falls.after) (later_set own_at old.seats.items fails.mid at fails.falls.old fails.falls.new (own_stay old.seats.items fails.mid fails.stay) fails.falls.stands fails.falls.holds.goes.paid.later))

  -- neither of the two is refused

  stop_of : (xs : List (Seat K D g h i)) (r other : ℕ) → IsUpAt k.told k.fuse xs r → IsUpAt k.told k.fuse xs other → r < length xs → other < length xs → either_reply (slice_get (places_of k.told k.fuse xs) r) (slice_get (places_of k.told k.fuse xs) other) ≡ None
  stop_of xs r other up up_other below below_other =
      let x = get_within xs r below in
      let y = get_within xs other below_other in
      (λ t. either_reply (stands_at k desk_faults xs r x.0 x.1 t) (stands_at k desk_faults xs other y.0 y.1 t))
      ∙ neither (place k x.0).run (place k y.0).run (up_read k.told k.fuse xs r x.0 x.1 up) (up_read k.told k.fuse xs other y.0 y.1 up_other)
    where
      neither : (run run2 : Option Running) → is_up run ≡ true → is_up run2 ≡ true → option_or (stop_reply run) (stop_reply run2) ≡ None
      neither None run2 up up2 = absurd (true≢false (sym up))
      neither (Some run) None up up2 = absurd (true≢false (sym up2))
      neither (Some run) (Some run2) up up2 = refl

  -- what is answered by what is told

  content_place : (x : Seat K D g h i) → (place k x).content ≡ k.told (keeper_of x)
  content_place x = elim x.held as (λ held. (place_with k.told k.fuse x.planted held).content ≡ k.told (keeper_in held)) [ Up replica ↦ refl | Down idle ↦ refl ]

  says_same : (xs : List (Seat K D g h i)) (around : Around) (r other : ℕ) (said : Bool) → r < length xs → other < length xs
      → IfBoth (content_at k.told xs r) (content_at k.told xs other) (λ s t. (said ≡ true) ↔ ((all_in s.order t.order ≡ true) × (all_in t.order s.order ≡ true)))
      → AtPlace (record { places = places_of k.told k.fuse xs; around = around }) r (λ p. AtPlace (record { places = places_of k.told k.fuse xs; around = around }) other (λ q. IfSome (state_at p) (λ s. IfSome (state_at q) (λ t. (said ≡ true) ↔ SameProcessed s t))))
  says_same xs around r other said below below_other both_say =
      let x = get_within xs r below in
      let y = get_within xs other below_other in
      at_place (record { places = places_of k.told k.fuse xs; around = around }) r (place k x.0) _ (stands_at k desk_faults xs r x.0 x.1)
      (at_place (record { places = places_of k.told k.fuse xs; around = around }) other (place k y.0) _ (stands_at k desk_faults xs other y.0 y.1)
      (over_contents (place k x.0) (place k y.0) said (content_at k.told xs r) (content_at k.told xs other)
      (ap (λ (o : Option (Seat K D g h i)). option_and_then (λ (seat : Seat K D g h i). k.told (keeper_of seat)) o) x.1 ∙ sym (content_place x.0))
      (ap (λ (o : Option (Seat K D g h i)). option_and_then (λ (seat : Seat K D g h i). k.told (keeper_of seat)) o) y.1 ∙ sym (content_place y.0)) both_say))

  module _ {r other : ℕ} {old new : World K D g h i} (same : OnlyRead old new) (below : r < length old.seats.items) (below_other : other < length old.seats.items) (up : IsUpAt k.told k.fuse old.seats.items r) (up_other : IsUpAt k.told k.fuse old.seats.items other) where
    -- they were compared
    pub same_done : (said : Bool) → AllStay k old.seats.items new.seats.items → IfBoth (content_at k.told old.seats.items r) (content_at k.told old.seats.items other) (λ s t. (said ≡ true) ↔ ((all_in s.order t.order ≡ true) × (all_in t.order s.order ≡ true)))
        → ActsOn k desk_faults (SameOf r other) (Ok (Same said)) old new
    same_done said stay both_say = record {
      row = inl (inl (inr (record {
        allowed = sym (stop_of old.seats.items r other up up_other below below_other);
        moved = places_stay k old.seats.items new.seats.items stay;
        says = (said, refl, says_same old.seats.items (state k desk_faults old).around r other said below below_other both_say);
        around = around_read old new same;
      })));
      short = λ no. absurd (no_err (Same said) Memory no);
      not_bad = no_err (Same said) BadLine;
      goes = goes_read old new same stay;
      entries_same = same.entries;
    }

    -- more blocks are processed than can be counted
    pub same_short : AllStay k old.seats.items new.seats.items → is_there (state k desk_faults old) (SameOf r other) ≡ true → ActsOn k desk_faults (SameOf r other) (Err Memory) old new
    same_short stay there = record {
      row = tt;
      short = λ is. record { there = there; moved = places_stay k old.seats.items new.seats.items stay; around = around_read old new same };
      not_bad = memory_is_not_bad;
      goes = goes_read old new same stay;
      entries_same = same.entries;
    }

    -- a keeper failed
    pub same_failed : (at : ℕ) → (at ≡ r) ⊎ (at ≡ other) → FailsAt k at old.seats.items new.seats.items → ActsOn k desk_faults (SameOf r other) (Ok FaultKeeper) old new
    same_failed at among fails =
        let x = zip_get (SeatStays k) old.seats.items fails.mid at fails.falls.old fails.stay fails.falls.stands in
        record {
          row = inl (inr (record {
            at = at;
            among = named_of among;
            asked = stop_of old.seats.items r other up up_other below below_other;
            cause = rose_from (λ (seat : Seat K D g h i). k.faults (keeper_of seat)) old.seats.items fails.mid new.seats.items at x.0 fails.falls.old fails.falls.new x.1 fails.falls.stands fails.falls.after x.2.later fails.falls.holds.rose;
            says = refl;
            moved = record {
              old = place k x.0;
              new = place k fails.falls.new;
              stands = stands_at k desk_faults old.seats.items at x.0 x.1;
              after = set_at k desk_faults fails.mid new.seats.items at fails.falls.new fails.falls.after ∙ ap (λ ps. set ps at (place k fails.falls.new)) (places_stay k old.seats.items fails.mid fails.stay);
              holds = subst (λ (q : Place). CutShort (state k desk_faults old) (SameOf r other) (RoseIn (λ (seat : Seat K D g h i). k.own (keeper_of seat)) old.seats.items new.seats.items at) (place k x.0) q)
                  (sym (fails.falls.holds.falls ∙ ap (λ (p : Place). record p { run = None }) x.2.same))
                  (record {
                    down = refl;
                    silent = λ is. is;
                    planted_same = refl;
                    why = inr (rose_from own_at old.seats.items fails.mid new.seats.items at x.0 fails.falls.old fails.falls.new x.1 fails.falls.stands fails.falls.after x.2.goes.paid.later fails.falls.holds.own_rose);
                    told = cut_read (λ s events reply. EventsOf (state k desk_faults old) s (SameOf r other) events reply) _ (place k x.0).content (place k x.0).fuse (place k x.0).run
                        (rose_from own_at old.seats.items fails.mid new.seats.items at x.0 fails.falls.old fails.falls.new x.1 fails.falls.stands fails.falls.after x.2.goes.paid.later fails.falls.holds.own_rose);
                  });
            };
            around = around_read old new same;
          }));
          short = λ no. absurd (no_err FaultKeeper Memory no);
          not_bad = no_err FaultKeeper BadLine;
          goes = goes_failed at old new same fails;
          entries_same = same.entries;
        }
      where
        named_of : (at ≡ r) ⊎ (at ≡ other) → is_named (r ∷ other ∷ []) at ≡ true
        named_of (inl e) = subst (λ n. is_named (r ∷ other ∷ []) n ≡ true) (sym e) (ap (λ b. b || ((other == r) || false)) (eq-eqb r r refl))
        named_of (inr e) = subst (λ n. is_named (r ∷ other ∷ []) n ≡ true) (sym e) (or_right (r == other) (ap (λ b. b || false) (eq-eqb other other refl)))

  -- two replicas run, or not both

  pub up_first : (xs : List (Seat K D g h i)) (r other : ℕ) → both_up k.told k.fuse xs r other ≡ true → IsUpAt k.told k.fuse xs r
  up_first xs r other is = up_of (slice_get xs r) (first (up_at k.told k.fuse xs r) (up_at k.told k.fuse xs other) is)
    where
      up_of : (o : Option (Seat K D g h i)) → unwrap_or (option_map (is_up_seat k.told k.fuse) o) false ≡ true → IfSome o (λ seat. is_up_seat k.told k.fuse seat ≡ true)
      up_of None is = tt
      up_of (Some x) is = is

  pub up_second : (xs : List (Seat K D g h i)) (r other : ℕ) → both_up k.told k.fuse xs r other ≡ true → IsUpAt k.told k.fuse xs other
  up_second xs r other is = up_of (slice_get xs other) (rest (up_at k.told k.fuse xs r) (up_at k.told k.fuse xs other) is)
    where
      up_of : (o : Option (Seat K D g h i)) → unwrap_or (option_map (is_up_seat k.told k.fuse) o) false ≡ true → IfSome o (λ seat. is_up_seat k.told k.fuse seat ≡ true)
      up_of None is = tt
      up_of (Some x) is = is

  -- one of them doesn't run
  pub same_stopped : (r other : ℕ) (world : World K D g h i) (x y : Seat K D g h i) → slice_get world.seats.items r ≡ Some x → slice_get world.seats.items other ≡ Some y → (is_up_seat k.told k.fuse x && is_up_seat k.told k.fuse y) ≡ false
      → ActsOn k desk_faults (SameOf r other) (Ok Stopped) world world
  same_stopped r other world x y stands stands_other not_both = record {
    row = inl (inl (inl (record { cause = sym ((λ t. either_reply (stands_at k desk_faults world.seats.items r x stands t) (stands_at k desk_faults world.seats.items other y stands_other t)) ∙ one_stopped (place k x).run (place k y).run not_both); same = refl })));
    short = λ no. absurd (no_err Stopped Memory no);
    not_bad = no_err Stopped BadLine;
    goes = around_goes k desk_faults 0 world world refl refl;
    entries_same = refl;
  }

  pub same_refused : (r other : ℕ) (world : World K D g h i) → r < length world.seats.items → other < length world.seats.items → both_up k.told k.fuse world.seats.items r other ≡ false → ActsOn k desk_faults (SameOf r other) (Ok Stopped) world world
  same_refused r other world below below_other not_both =
      let x = get_within world.seats.items r below in
      let y = get_within world.seats.items other below_other in
      same_stopped r other world x.0 y.0 x.1 y.1
      ((λ t. unwrap_or (option_map (is_up_seat k.told k.fuse) (sym x.1 t)) false && unwrap_or (option_map (is_up_seat k.told k.fuse) (sym y.1 t)) false) ∙ not_both)

  pub same_within : (xs : List (Seat K D g h i)) (bag : Bag) (r other : ℕ) → is_among (length (places_of k.told k.fuse xs)) bag (SameOf r other) ≡ true → (r < length xs) × (other < length xs)
  same_within xs bag r other there =
      let len = length-map xs (place k) in
      (subst (λ (n : ℕ). r < n) len (ltb-true r (length (places_of k.told k.fuse xs)) (first _ _ there)), subst (λ (n : ℕ). other < n) len (ltb-true other (length (places_of k.told k.fuse xs)) (rest _ _ there)))

pub compares_length : {K D T : Type 0} {g : keeper.Ghosts K D} {h : counted.Ghosts K} {i : counted.Ghosts D} (k : Members K D) (r other : ℕ) (result : Result T CompareError) (xs ys : List (Seat K D g h i)) → Compares k r other result xs ys → length xs ≡ length ys
compares_length k r other (Ok value) xs ys acts = sym (length_stays k xs ys acts)
compares_length k r other (Err TooMany) xs ys acts = sym (length_stays k xs ys acts)
compares_length k r other (Err (Fault at)) xs ys acts = sym (ap length acts.1.falls.after ∙ length-set acts.1.mid at acts.1.falls.new ∙ length_stays k xs acts.1.mid acts.1.stay)
