-- Desks that stay at their places, and the plans that they have.
use Rattle.std.proofs.Common.{◌≡◌, ◌+◌, ℕ, zero, suc, Bool, true, true≢false, List, [], ◌∷◌, ◌++◌, length, drop, Option, Some, None, Ok, refl, sym, ap, subst, ◌∙◌, arith}
use Rattle.std.specs.Prelude.{⊤, is_some}
use Rattle.std.specs.List.{AllZip}
use Rattle.std.proofs.Math.Seq.{drop-nil}
use Rattle.mc_fetch.specs.Peers.{SamePlan}
use Rattle.mc_keep.specs.Calls.{Members}
use Rattle.mc_keep.specs.Plan.{CallsGo, DeskAsPlanned, DeskSchedule, Schedule, first_plan, with_desk}
use Rattle.mc_seats.specs.Desked.{AreDesksOf, HavePlans, HavePlansOf, reads_of}
use Rattle.mc_seats.specs.Keepers.{DeskStays, DesksStay}
use Rattle.mc_seats.specs.StepParts.{AllDesksGo}

same_plan : (plan : Option DeskSchedule) → SamePlan plan plan
same_plan None = tt
same_plan (Some plan) = refl

plan_then : (a b c : Option DeskSchedule) → SamePlan a b → SamePlan b c → SamePlan a c
plan_then None b c p q = tt
plan_then (Some a) None c p q = absurd (true≢false (sym (ap is_some p)))
plan_then (Some a) (Some b) c p q = q ∙ p

module _ {K D : Type 0} (k : Members K D) (desk_faults : D → ℕ) where
  stays : (desk : D) → DeskStays k desk_faults desk desk
  stays desk = record { later = omega arith; plan = same_plan (k.desk_schedule desk) }

  stays_then : (a b c : D) → DeskStays k desk_faults a b → DeskStays k desk_faults b c → DeskStays k desk_faults a c
  stays_then a b c p q = record { later = omega (arith, p.later, q.later); plan = plan_then (k.desk_schedule a) (k.desk_schedule b) (k.desk_schedule c) p.plan q.plan }

  pub list_stays : (desks : List D) → AllZip (DeskStays k desk_faults) desks desks
  list_stays [] = tt
  list_stays (desk ∷ desks) = (stays desk, list_stays desks)

  pub list_then : (xs ys zs : List D) → AllZip (DeskStays k desk_faults) xs ys → AllZip (DeskStays k desk_faults) ys zs → AllZip (DeskStays k desk_faults) xs zs
  list_then [] [] [] p q = tt
  list_then (x ∷ xs) (y ∷ ys) (z ∷ zs) p q = (stays_then x y z p.0 q.0, list_then xs ys zs p.1 q.1)
  list_then [] (y ∷ ys) zs p q = absurd p
  list_then (x ∷ xs) [] zs p q = absurd p
  list_then [] [] (z ∷ zs) p q = absurd q
  list_then (x ∷ xs) (y ∷ ys) [] p q = absurd q

  lists_stay : (desks : List (List D)) → AllZip (AllZip (DeskStays k desk_faults)) desks desks
  lists_stay [] = tt
  lists_stay (list ∷ desks) = (list_stays list, lists_stay desks)

  lists_then : (xs ys zs : List (List D)) → AllZip (AllZip (DeskStays k desk_faults)) xs ys → AllZip (AllZip (DeskStays k desk_faults)) ys zs → AllZip (AllZip (DeskStays k desk_faults)) xs zs
  lists_then [] [] [] p q = tt
  lists_then (x ∷ xs) (y ∷ ys) (z ∷ zs) p q = (list_then x y z p.0 q.0, lists_then xs ys zs p.1 q.1)
  lists_then [] (y ∷ ys) zs p q = absurd p
  lists_then (x ∷ xs) [] zs p q = absurd p
  lists_then [] [] (z ∷ zs) p q = absurd q
  lists_then (x ∷ xs) (y ∷ ys) [] p q = absurd q

  lists_go : (quiet : Bool) (olds news : List (List D)) → AllDesksGo k desk_faults quiet olds news → AllZip (AllZip (DeskStays k desk_faults)) olds news
  lists_go quiet [] [] goes = tt
  lists_go quiet [] (new ∷ news) goes = absurd goes
  lists_go quiet (old ∷ olds) [] goes = absurd goes
  lists_go quiet (old ∷ olds) (new ∷ news) goes = (goes.0.each, lists_go quiet olds news goes.1)

  pub all_stay : (desks : List (List D)) → DesksStay k desk_faults desks desks
  all_stay desks = record { each = lists_stay desks }

  pub same_stay : (olds news : List (List D)) → news ≡ olds → DesksStay k desk_faults olds news
  same_stay olds news same = subst (DesksStay k desk_faults olds) (sym same) (all_stay olds)

  pub all_then : (xs ys zs : List (List D)) → DesksStay k desk_faults xs ys → DesksStay k desk_faults ys zs → DesksStay k desk_faults xs zs
  all_then xs ys zs p q = record { each = lists_then xs ys zs p.each q.each }

  pub all_go : (quiet : Bool) (olds news : List (List D)) → AllDesksGo k desk_faults quiet olds news → DesksStay k desk_faults olds news
  all_go quiet olds news goes = record { each = lists_go quiet olds news goes }

  -- desks that stay have the plans that they had
  reads_stay : (a b : Option DeskSchedule) (plan : List ℕ) → SamePlan a b → reads_of a ≡ Some plan → reads_of b ≡ Some plan
  reads_stay None b plan same is = absurd (true≢false (sym (ap is_some is)))
  reads_stay (Some a) b plan same is = same ∙ is

  plans_stay : (plans : List (List ℕ)) (olds news : List D) → AllZip (DeskStays k desk_faults) olds news → HavePlans k.desk_schedule plans olds → HavePlans k.desk_schedule plans news
  plans_stay plans [] [] stay have = tt
  plans_stay plans [] (new ∷ news) stay have = absurd stay
  plans_stay plans (old ∷ olds) [] stay have = absurd stay
  plans_stay plans (old ∷ olds) (new ∷ news) stay have = (reads_stay (k.desk_schedule old) (k.desk_schedule new) (first_plan plans) stay.0.plan have.0, plans_stay (drop 1 plans) olds news stay.1 have.1)

  still_of : (schedule : Option Schedule) (olds news : List D) → AllZip (DeskStays k desk_faults) olds news → HavePlansOf k.desk_schedule schedule olds → HavePlansOf k.desk_schedule schedule news
  still_of None olds news stay have = tt
  still_of (Some schedule) olds news stay have = plans_stay schedule.desks olds news stay have

  pub of_still : (schedule : Option Schedule) (olds news : List D) → AllZip (DeskStays k desk_faults) olds news → AreDesksOf k.desk_schedule schedule olds → AreDesksOf k.desk_schedule schedule news
  of_still schedule olds news stay of = record { planned = still_of schedule olds news stay of.planned }

module _ {D : Type 0} (desk_schedule : D → Option DeskSchedule) where
  pub none_have : (schedule : Option Schedule) → HavePlansOf desk_schedule schedule []
  none_have None = tt
  none_have (Some schedule) = tt

  -- no desk was made yet
  pub of_none : (schedule : Option Schedule) (desks : List D) → desks ≡ [] → AreDesksOf desk_schedule schedule desks
  of_none schedule desks none = subst (AreDesksOf desk_schedule schedule) (sym none) (record { planned = none_have schedule })

  -- calls leave what is planned for the desks
  pub have_before : (a b : Option Schedule) (failed : Bool) (desks : List D) → CallsGo a b failed → HavePlansOf desk_schedule b desks → HavePlansOf desk_schedule a desks
  have_before None b failed desks goes have = tt
  have_before (Some a) b failed desks goes have = subst (λ (s : Option Schedule). HavePlansOf desk_schedule s desks) goes.counted have

  -- so many of the plans are taken
  abbrev pub LeftOf : Option Schedule → ℕ → Option Schedule → Type 0
  LeftOf None taken now = ⊤
  LeftOf (Some schedule) taken now = (left : Schedule) × (now ≡ Some left) × (left.desks ≡ drop taken schedule.desks)

  pub none_left : (schedule : Option Schedule) → LeftOf schedule 0 schedule
  none_left None = tt
  none_left (Some schedule) = (schedule, refl, refl)

  drop_one : {A : Type 0} (n : ℕ) (xs : List A) → drop (suc n) xs ≡ drop n (drop 1 xs)
  drop_one n [] = sym (drop-nil n)
  drop_one n (x ∷ xs) = refl

  one_dropped : {A : Type 0} (n : ℕ) (xs : List A) → drop 1 (drop n xs) ≡ drop (suc n) xs
  one_dropped zero xs = refl
  one_dropped (suc n) [] = refl
  one_dropped (suc n) (x ∷ xs) = one_dropped n xs

  have_push : (plans : List (List ℕ)) (desks : List D) (desk : D) → HavePlans desk_schedule plans desks → reads_of (desk_schedule desk) ≡ Some (first_plan (drop (length desks) plans)) → HavePlans desk_schedule plans (desks ++ desk ∷ [])
  have_push plans [] desk have is = (is, tt)
  have_push plans (first ∷ desks) desk have is = (have.0, have_push (drop 1 plans) desks desk have.1 (is ∙ ap (λ (l : List (List ℕ)). Some (first_plan l)) (drop_one (length desks) plans)))

  -- one desk more was made, by the next plan
  pub made_push : (a b c : Option Schedule) (desks : List D) (desk : D) (count : ℕ) → length desks ≡ count → LeftOf a count b → HavePlansOf desk_schedule a desks → DeskAsPlanned desk_schedule b c (Ok desk) → HavePlansOf desk_schedule a (desks ++ desk ∷ []) × LeftOf a (count + 1) c
  made_push None b c desks desk count many left have planned = (tt, tt)
  made_push (Some a) b c desks desk count many left have planned =
      let next_count : suc count ≡ count + 1 = omega arith in
      let next : DeskAsPlanned desk_schedule (Some left.0) c (Ok desk) = subst (λ (s : Option Schedule). DeskAsPlanned desk_schedule s c (Ok desk)) left.1 planned in (
        have_push a.desks desks desk have (ap reads_of next.2 ∙ ap (λ (l : List (List ℕ)). Some (first_plan l)) (left.2 ∙ ap (λ (n : ℕ). drop n a.desks) (sym many))),
        (with_desk true left.0, next.0, ap (λ (l : List (List ℕ)). drop 1 l) left.2 ∙ one_dropped count a.desks ∙ ap (λ (n : ℕ). drop n a.desks) next_count),
      )
