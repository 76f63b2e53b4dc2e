-- How a run ends, and what its keepers tell then.
use Rattle.std.proofs.Common.{true, ◌≡◌, ◌≤◌, ◌+◌, ◌-◌, ◌^◌, ℕ, List, [], ◌∷◌, length, Option, None, Some, Result, refl, sym, ◌∙◌, ap, subst, arith, inl, inr, false}
use Rattle.std.specs.Prelude.{map, min, take}
use Rattle.std.specs.List.{AllByRecursion, AllZip, list_all, sum_by}
use Rattle.std.proofs.Math.Seq.{take-length}
use Rattle.std.proofs.lemmas.List.{length-map}
use Rattle.std.proofs.lemmas.List.Sums.{sum_by-cons}
use Rattle.mc_base.specs.Causes.{Rose}
use Rattle.mc_base.specs.Told.{Told}
use Rattle.mc_base.specs.declared.counted.Counted as counted
use Rattle.mc_keep.specs.Calls.{Members}
use Rattle.mc_keep.specs.declared.error.KeepError.{KeepError}
use Rattle.mc_keep.specs.declared.keeper.Keeper as keeper
use Rattle.mc_keepers.specs.declared.keepers.KeeperPlan.{KeeperPlan}
use Rattle.mc_model.specs.Events.{opened}
use Rattle.mc_model.specs.Kept.{Kept}
use Rattle.mc_model.specs.State.{Running, durable_of}
use Rattle.mc_model.specs.Wanted.{no_queue}
use Rattle.mc_core.specs.declared.replica.OpenCause.{OpenCause}
use Rattle.mc_core.specs.declared.replica.OpenCause.TheVariants as causes
use Rattle.mc_seats.specs.declared.seat.Held.{Held}
use Rattle.mc_seats.specs.declared.seat.Held.TheVariants.{Up, Down}
use Rattle.mc_seats.specs.declared.seat.Seat.{Seat}
use Rattle.mc_seats.specs.declared.world.Part.{Part}
use Rattle.mc_seats.specs.Keepers.{DeskStays, DesksStay, desks_in, keeper_in, keeper_of, own_in}
use Rattle.mc_seats.specs.Openings.{AreLeft, AreRefused, HaveOwnDesks, counted_of, owns_of, parts_of, starts_of}
use Rattle.mc_app.specs.Generating.{IsStoppedShort}
use Rattle.mc_app.specs.Outcome.{AreOwnDesks, EndsAt, HandsBack, HasAll, HasSome, MadeFrom, Outcome, TakenFrom, TakesSome, TakesSuch, unopened_status}
use Rattle.mc_app.specs.Keeping.{AreOwnParts, ArePlain, EndsParts, HaveAll, IsOwnPart, TakesParts, desks_of, made_of}
use Rattle.mc_app.proofs.KeepingFacts.{fused_members, taken_told, told_in, told_of}
use Rattle.mc_keep.specs.Plan.{Schedule}
use Rattle.mc_keep.specs.declared.fused.Fused.{Fused}
use Rattle.mc_seats.specs.Desked.{AreDesksOf, desks_each, is_full_list}
use Rattle.mc_seats.proofs.OpeningFacts.{first_true, second_true}
use Rattle.mc_seats.proofs.StayFacts.{of_still}
use Rattle.std.proofs.lemmas.Bool.{eqb-true}
use Rattle.mc_seats.specs.Effects.{OpensAs}
use Rattle.mc_runs.specs.Runs.{Answer, MayAnswer}
use Rattle.mc_app.specs.LineWords.{MayEnd}
use Rattle.mc_seats.specs.Keepers.{Tally}
use Rattle.mc_seats.specs.Words.{place}
use Rattle.mc_seats.specs.Worlds.{Place, WorldState, no_bag, place_with}
use Rattle.mc_app.specs.declared.status.Status.{Status}
use Rattle.mc_app.specs.declared.status.Status.TheVariants as status
use Rattle.mc_app.proofs.RunFacts.{gives_up_first, nothing_said, nothing_yet, untouched}
use Rattle.mc_seats.specs.Starts.{AreStarts, IsFirst}

-- a replica that was opened over what a keeper tells
abbrev opens_run : Option Kept → Option Running
opens_run None = Some (record { queue = no_queue; walk = None; batch = None; whole = false })
opens_run (Some kept) = Some (opened (durable_of kept))

abbrev start_place : Option Kept → Place
start_place told = record { content = told; fuse = None; run = opens_run told; planted = [] }

-- a first world over what some keepers tell
abbrev first_world : List (Option Kept) → WorldState
first_world starts = record { places = map start_place starts; around = record { bag = no_bag; down = [] } }

is_first : (starts : List (Option Kept)) → IsFirst starts (first_world starts)
is_first starts = (all starts, refl)
  where
    runs : (told : Option Kept) → OpensAs told (opens_run told)
    runs None = (false, refl)
    runs (Some kept) = refl

    all : (starts : List (Option Kept)) → AreStarts starts (map start_place starts)
    all [] = tt
    all (told ∷ starts) = (record { content = refl; no_fuse = refl; nothing_planted = refl; opened = runs told }, all starts)

module _ {K D : Type 0} {g : keeper.Ghosts K D} {h : counted.Ghosts K} {i : counted.Ghosts D} (k : Members K D) (desk_faults : D → ℕ) where
  content_in : (planted : List _) (held : Held K D g h i) → (place_with k.told k.fuse planted held).content ≡ k.told (keeper_in held)
  content_in planted (Up replica) = refl
  content_in planted (Down idle) = refl

  -- what the keepers of a world tell, and what they have counted
  pub parts_told : (seats : List (Seat K D g h i)) (desks : List (List D)) → length seats ≡ length desks → starts_of k.told (parts_of seats desks) ≡ map (λ (p : Place). p.content) (map (place k) seats)
  parts_told [] [] same = refl
  parts_told (seat ∷ seats) (first ∷ desks) same =
      ap (λ t. t ∷ starts_of k.told (parts_of seats desks)) (sym (content_in seat.planted seat.held)) ∙ ap (λ l. (place k seat).content ∷ l) (parts_told seats desks (omega (arith, same)))
  parts_told [] (first ∷ desks) same = absurd (omega (arith, same))
  parts_told (seat ∷ seats) [] same = absurd (omega (arith, same))

  -- each with all its desks
  each_full : (seats : List (Seat K D g h i)) (desks : List (List D)) → list_all is_full_list desks ≡ true → AllByRecursion (λ (part : Part K D). length part.desks ≡ desks_each) (parts_of seats desks)
  each_full [] desks full = tt
  each_full (seat ∷ seats) [] full = tt
  each_full (seat ∷ seats) (first ∷ desks) full = (eqb-true (length first) desks_each (first_true (is_full_list first) (list_all is_full_list desks) full), each_full seats desks (second_true (is_full_list first) (list_all is_full_list desks) full))

  pub parts_full : (seats : List (Seat K D g h i)) (desks : List (List D)) → list_all is_full_list desks ≡ true → HaveAll (parts_of seats desks)
  parts_full seats desks full = record { each = each_full seats desks full }

  pub parts_desks : (seats : List (Seat K D g h i)) (desks : List (List D)) → length seats ≡ length desks → desks_of (parts_of seats desks) ≡ desks
  parts_desks [] [] same = refl
  parts_desks (seat ∷ seats) (first ∷ desks) same = ap (λ l. first ∷ l) (parts_desks seats desks (omega (arith, same)))
  parts_desks [] (first ∷ desks) same = absurd (omega (arith, same))
  parts_desks (seat ∷ seats) [] same = absurd (omega (arith, same))

  pub parts_counted : (seats : List (Seat K D g h i)) (desks : List (List D)) → length seats ≡ length desks → counted_of k desk_faults (parts_of seats desks) ≡ own_in k seats + desks_in desk_faults desks
  parts_counted [] [] same = refl
  parts_counted (seat ∷ seats) (first ∷ desks) same =
      let more = parts_counted seats desks (omega (arith, same)) in
      let all = sum_by-cons (λ (p : Part K D). k.own p.keeper + sum_by desk_faults p.desks) (record { keeper = keeper_of seat; desks = first }) (parts_of seats desks) in
      let owns = sum_by-cons (λ (s : Seat K D g h i). k.own (keeper_of s)) seat seats in
      let counts = sum_by-cons (λ (list : List D). sum_by desk_faults list) first desks in omega (arith, more, all, owns, counts)
  parts_counted [] (first ∷ desks) same = absurd (omega (arith, same))
  parts_counted (seat ∷ seats) [] same = absurd (omega (arith, same))

module _ {K D : Type 0} (k : Members K D) where
  -- parts that are handed back tell the same
  left_told : (parts lefts : List (Part K D)) → AreLeft k parts lefts → starts_of k.told lefts ≡ starts_of k.told parts
  left_told [] [] left = refl
  left_told (part ∷ parts) (back ∷ lefts) left = ap (λ t. t ∷ starts_of k.told lefts) left.0.told_same ∙ ap (λ l. k.told part.keeper ∷ l) (left_told parts lefts left.1)
  left_told [] (back ∷ lefts) left = absurd left
  left_told (part ∷ parts) [] left = absurd left

  left_own : (parts lefts : List (Part K D)) → AreLeft k parts lefts → AllZip (IsOwnPart k) parts lefts
  left_own [] [] left = tt
  left_own (part ∷ parts) (back ∷ lefts) left = ((left.0.few, left.0.of_keeper), left_own parts lefts left.1)
  left_own [] (back ∷ lefts) left = absurd left
  left_own (part ∷ parts) [] left = absurd left

  own_each : (desk_faults : D → ℕ) (parts backs : List (Part K D)) (desks : List (List D)) → HaveOwnDesks k parts desks → AllZip (AllZip (DeskStays k desk_faults)) desks (desks_of backs) → AllByRecursion (λ (part : Part K D). length part.desks ≡ desks_each) backs → AllZip (IsOwnPart k) parts backs
  own_each desk_faults [] [] [] own stay full = tt
  own_each desk_faults (part ∷ parts) (back ∷ backs) (list ∷ desks) own stay full =
      let many = full.0 in ((omega (arith, many), of_still k desk_faults (k.schedule part.keeper) list back.desks stay.0 own.0), own_each desk_faults parts backs desks own.1 stay.1 full.1)
  own_each desk_faults [] backs (list ∷ desks) own stay full = absurd own
  own_each desk_faults (part ∷ parts) backs [] own stay full = absurd own
  own_each desk_faults [] (back ∷ backs) [] own stay full = absurd stay
  own_each desk_faults (part ∷ parts) [] (list ∷ desks) own stay full = absurd stay

  -- each desk of a world that was made stands at its place
  pub own_parts : (desk_faults : D → ℕ) (parts backs : List (Part K D)) (desks : List (List D)) → HaveOwnDesks k parts desks → DesksStay k desk_faults desks (desks_of backs) → HaveAll backs → AreOwnParts k parts backs
  own_parts desk_faults parts backs desks own stay full = record { each = own_each desk_faults parts backs desks own stay.each full.each }

  owns_within : (desk_faults : D → ℕ) (parts : List (Part K D)) → owns_of k parts ≤ counted_of k desk_faults parts
  owns_within desk_faults [] = omega arith
  owns_within desk_faults (part ∷ parts) =
      let more = owns_within desk_faults parts in
      let owns = sum_by-cons (λ (p : Part K D). k.own p.keeper) part parts in
      let all = sum_by-cons (λ (p : Part K D). k.own p.keeper + sum_by desk_faults p.desks) part parts in omega (arith, more, owns, all)

  module _ (desk_faults : D → ℕ) (cause : OpenCause) (parts lefts : List (Part K D)) (refused : AreRefused k cause parts lefts) where
    -- nothing was read or written, and the parts tell the same
    pub refused_outcome : (end : Status) (first old : Option (List ℕ)) (calm : Type 0) → end ≡ unopened_status cause → Told first first (λ script left. Outcome end script left (IsFirst (starts_of k.told parts)) (MayAnswer calm 0 (counted_of k desk_faults lefts)) (EndsParts k.told end (starts_of k.told parts) lefts) old old)
    refused_outcome end first old calm is = subst (λ (s : Status). Told first first (λ script left. Outcome s script left (IsFirst (starts_of k.told parts)) (MayAnswer calm 0 (counted_of k desk_faults lefts)) (EndsParts k.told s (starts_of k.told parts) lefts) old old)) (sym is) (by_cause cause)
      where
        by_cause : (cause : OpenCause) → Told first first (λ script left. Outcome (unopened_status cause) script left (IsFirst (starts_of k.told parts)) (MayAnswer calm 0 (counted_of k desk_faults lefts)) (EndsParts k.told (unopened_status cause) (starts_of k.told parts) lefts) old old)
        by_cause causes.KeeperFault = untouched first old
        by_cause causes.Memory = gives_up_first (IsFirst (starts_of k.told parts)) (MayAnswer calm 0 (counted_of k desk_faults lefts)) (EndsParts k.told status.Memory (starts_of k.told parts) lefts) (first_world (starts_of k.told parts)) first old
            (is_first (starts_of k.told parts)) (nothing_said calm 0 (counted_of k desk_faults lefts) (omega arith)) (inr (refl, is_first (starts_of k.told parts), left_told parts lefts refused.left))

    -- so is it of a generated script
    pub refused_short : (end : Status) (script : List ℕ) (calm : Type 0) → end ≡ status.Memory → IsStoppedShort script (IsFirst (starts_of k.told parts)) (MayAnswer calm 0 (counted_of k desk_faults lefts)) (EndsParts k.told end (starts_of k.told parts) lefts)
    refused_short end script calm is = record {
      progress = nothing_yet script (IsFirst (starts_of k.told parts)) (first_world (starts_of k.told parts)) (MayAnswer calm 0 (counted_of k desk_faults lefts)) (is_first (starts_of k.told parts)) (nothing_said calm 0 (counted_of k desk_faults lefts) (omega arith));
      last = inl (inr (is, is_first (starts_of k.told parts), left_told parts lefts refused.left));
    }

    pub refused_own : AreOwnParts k parts lefts
    refused_own = record { each = left_own parts lefts refused.left }

    is_cause : (cause : OpenCause) → unopened_status cause ≡ status.KeeperFault → cause ≡ causes.KeeperFault
    is_cause causes.KeeperFault e = refl
    is_cause causes.Memory e = absurd (cc)

    pub refused_told : starts_of k.told lefts ≡ starts_of k.told parts
    refused_told = left_told parts lefts refused.left

    pub refused_rose : (end : Status) → end ≡ unopened_status cause → owns_of k parts ≡ 0 → end ≡ status.KeeperFault → Rose 0 (counted_of k desk_faults lefts)
    refused_rose end is none e = let rose = refused.rose (is_cause cause (sym is ∙ e)) in let within = owns_within desk_faults lefts in omega (arith, none, rose, within)

-- what may be answered, where nothing was counted before
pub may_fresh : (calm : Type 0) (first : Tally) (count now : ℕ) (lines : List (List ℕ)) (answers : List (Option Answer)) → first.count ≡ 0 → first.armed ≡ 0 → now ≡ count → (calm → first.calm ≡ true) → MayEnd first count lines answers → MayAnswer calm 0 now lines answers
may_fresh calm first count now lines answers none unarmed same stays may =
    let paid = may.paid in
    let own_paid = may.own_paid in record {
      paid = omega (arith, none, unarmed, same, paid);
      own_paid = omega (arith, none, same, own_paid);
      own_none = λ c. may.own_none (stays c);
    }

-- and where the keepers are given back
pub may_lost : (calm still : Type 0) (count lost mid after : ℕ) (lines : List (List ℕ)) (answers : List (Option Answer)) → mid ≡ lost → min (mid + count) (2 ^ 64 - 1) ≤ after → (calm → still) → MayAnswer still 0 count lines answers → MayAnswer calm lost after lines answers
may_lost calm still count lost mid after lines answers same later stays may =
    let paid = may.paid in
    let own_paid = may.own_paid in record {
      paid = omega (arith, same, later, paid);
      own_paid = omega (arith, same, later, own_paid);
      own_none = λ c. may.own_none (stays c);
    }

-- under a weaker word for calm
pub may_calm : (calm still : Type 0) (before now : ℕ) (lines : List (List ℕ)) (answers : List (Option Answer)) → (calm → still) → MayAnswer still before now lines answers → MayAnswer calm before now lines answers
may_calm calm still before now lines answers stays may = record { paid = may.paid; own_paid = may.own_paid; own_none = λ c. may.own_none (stays c) }

module _ {M K D : Type 0} (makes : M → KeeperPlan → ℕ → Result K KeepError → M → Type 0) (takes : M → K → List D → M → Type 0) (k : Members K D) (plan : KeeperPlan) where
  abbrev Own : K → List D → Type 0
  Own = AreOwnDesks k.schedule k.desk_schedule

  abbrev Fit : (K → List D → Type 0) → List (Part (Fused K) D) → List (Part (Fused K) D) → Type 0
  Fit Fits parts backs = AllZip (λ (made : K) (back : Part (Fused K) D). Fits made back.desks) (made_of parts) backs

  own_of : (part back : Part (Fused K) D) → (fused_members k).schedule part.keeper ≡ k.schedule part.keeper.keeper → AreDesksOf k.desk_schedule ((fused_members k).schedule part.keeper) back.desks → Own part.keeper.keeper back.desks
  own_of part back plain own = subst (λ (s : Option Schedule). AreDesksOf k.desk_schedule s back.desks) plain own

  fit_some : (parts backs : List (Part (Fused K) D)) → AllByRecursion (λ (part : Part (Fused K) D). (fused_members k).schedule part.keeper ≡ k.schedule part.keeper.keeper) parts → AllZip (IsOwnPart (fused_members k)) parts backs → Fit (HasSome Own) parts backs
  fit_some [] [] plain own = tt
  fit_some (part ∷ parts) (back ∷ backs) plain own = ((own.0.0, own_of part back plain.0 own.0.1), fit_some parts backs plain.1 own.1)
  fit_some [] (back ∷ backs) plain own = absurd own
  fit_some (part ∷ parts) [] plain own = absurd own

  fit_all : (parts backs : List (Part (Fused K) D)) → AllByRecursion (λ (part : Part (Fused K) D). (fused_members k).schedule part.keeper ≡ k.schedule part.keeper.keeper) parts → AllZip (IsOwnPart (fused_members k)) parts backs
      → AllByRecursion (λ (back : Part (Fused K) D). length back.desks ≡ desks_each) backs → Fit (HasAll Own) parts backs
  fit_all [] [] plain own full = tt
  fit_all (part ∷ parts) (back ∷ backs) plain own full = ((full.0, own_of part back plain.0 own.0.1), fit_all parts backs plain.1 own.1 full.1)
  fit_all [] (back ∷ backs) plain own full = absurd own
  fit_all (part ∷ parts) [] plain own full = absurd own

  -- all keepers were made that tell this
  all_told : (starts : List (Option Kept)) (parts : List (Part (Fused K) D)) → starts_of (told_in k.told) parts ≡ starts → map k.told (made_of parts) ≡ take (length (made_of parts)) starts
  all_told starts parts same =
      let told_is : map k.told (made_of parts) ≡ starts = told_of k.told parts ∙ same in
      let many : length starts ≡ length (made_of parts) = ap length (sym told_is) ∙ length-map (made_of parts) k.told in
      told_is ∙ sym (take-length starts) ∙ ap (λ n. take n starts) many

  module _ (starts : List (Option Kept)) (parts backs : List (Part (Fused K) D)) (first made last : M) (from : MadeFrom makes plan 0 first (made_of parts) made) (plain : ArePlain (fused_members k).schedule k.schedule parts)
      (begins : starts_of (told_in k.told) parts ≡ starts) (own : AreOwnParts (fused_members k) parts backs) (taken : TakesParts takes made backs last) where
    -- whatever those tell that were taken back
    such : (contents : List (Option Kept)) → starts_of (told_in k.told) backs ≡ contents → TakesSuch makes takes k.told Own plan first starts last (made_of parts) contents
    such contents tell = (
      made,
      made,
      from,
      all_told starts parts begins,
      inl refl,
      subst (λ (l : List (Option Kept)). TakenFrom takes k.told (HasSome Own) made (made_of parts) l last) tell (taken_told takes k.told (HasSome Own) (made_of parts) made last backs (fit_some parts backs plain.each own.each) taken),
    )

    pub all_handed : HandsBack makes takes k.told Own plan first starts last
    all_handed = (made_of parts, starts_of (told_in k.told) backs, such (starts_of (told_in k.told) backs) refl)

    -- all were taken back as they were made
    pub all_taken : starts_of (told_in k.told) backs ≡ starts → TakesSome makes takes k.told Own plan first starts last
    all_taken same = (made_of parts, such (map k.told (made_of parts)) (same ∙ sym (told_of k.told parts ∙ begins)))

    -- the keepers of the last world are given back
    pub ends_taken : (end : Status) (given : List (Option Kept)) (w : WorldState) → given ≡ starts → EndsParts (told_in k.told) end given backs w → EndsAt makes takes k.told Own plan first end starts last w
    ends_taken end given w same (inl (ends, full)) = inl (
      made_of parts,
      made,
      from,
      told_of k.told parts ∙ begins,
      subst (λ (l : List (Option Kept)). TakenFrom takes k.told (HasAll Own) made (made_of parts) l last) (sym ends) (taken_told takes k.told (HasAll Own) (made_of parts) made last backs (fit_all parts backs plain.each own.each full.each) taken),
    )
    ends_taken end given w same (inr (is, at_first, back)) =
        inr (is, subst (λ (l : List (Option Kept)). IsFirst l w) same at_first, all_taken (back ∙ same))

  pub some_handed : (starts : List (Option Kept)) (first last : M) → TakesSome makes takes k.told Own plan first starts last → HandsBack makes takes k.told Own plan first starts last
  some_handed starts first last some = (some.0, map k.told some.0, some.1)

  -- not all keepers were made
  pub unmade_outcome : (cause : OpenCause) (end : Status) (starts : List (Option Kept)) (before last : M) (calm : Type 0) (lost lost_now : ℕ) (first old : Option (List ℕ)) → end ≡ unopened_status cause → TakesSome makes takes k.told Own plan before starts last → min lost (2 ^ 64 - 1) ≤ lost_now
      → Told first first (λ script left. Outcome end script left (IsFirst starts) (MayAnswer calm lost lost_now) (EndsAt makes takes k.told Own plan before end starts last) old old)
  unmade_outcome cause end starts before last calm lost lost_now first old is taken later = subst (λ (s : Status). Told first first (λ script left. Outcome s script left (IsFirst starts) (MayAnswer calm lost lost_now) (EndsAt makes takes k.told Own plan before s starts last) old old)) (sym is) (by_cause cause)
    where
      by_cause : (cause : OpenCause) → Told first first (λ script left. Outcome (unopened_status cause) script left (IsFirst starts) (MayAnswer calm lost lost_now) (EndsAt makes takes k.told Own plan before (unopened_status cause) starts last) old old)
      by_cause causes.KeeperFault = untouched first old
      by_cause causes.Memory = gives_up_first (IsFirst starts) (MayAnswer calm lost lost_now) (EndsAt makes takes k.told Own plan before status.Memory starts last) (first_world starts) first old (is_first starts) (nothing_said calm lost lost_now later) (inr (refl, is_first starts, taken))

  pub unmade_short : (end : Status) (script : List ℕ) (starts : List (Option Kept)) (before last : M) (calm : Type 0) (lost lost_now : ℕ) → TakesSome makes takes k.told Own plan before starts last → min lost (2 ^ 64 - 1) ≤ lost_now → end ≡ status.Memory
      → IsStoppedShort script (IsFirst starts) (MayAnswer calm lost lost_now) (EndsAt makes takes k.told Own plan before end starts last)
  unmade_short end script starts before last calm lost lost_now taken later is = record {
    progress = nothing_yet script (IsFirst starts) (first_world starts) (MayAnswer calm lost lost_now) (is_first starts) (nothing_said calm lost lost_now later);
    last = inl (inr (is, is_first starts, taken));
  }
