-- The keepers of a run, made and given back one after another.
use Rattle.std.proofs.Common.{◌≡◌, ◌≤◌, ◌<◌, ◌+◌, ◌-◌, ◌^◌, ℕ, zero, suc, Bool, true, List, [], ◌∷◌, ◌++◌, length, length-append, take, Option, Result, Ok, Err, refl, sym, ap, subst, ◌∙◌, inl, inr, arith, append_assoc}
use Rattle.std.specs.Prelude.{map, min}
use Rattle.std.specs.List.{AllByRecursion, AllZip, sum_by}
use Rattle.std.proofs.lemmas.List.{append-nil}
use Rattle.std.proofs.lemmas.List.Folds.{list_all-append}
use Rattle.std.proofs.lemmas.List.Sums.{sum_by-append, sum_by-cons}
use Rattle.mc_keep.specs.Calls.{Members}
use Rattle.mc_keep.specs.Plan.{Schedule}
use Rattle.mc_keep.specs.Fused.{faults_in, quiet_in, schedule_in}
use Rattle.mc_keep.specs.declared.error.KeepError.{KeepError}
use Rattle.mc_keep.specs.declared.fuse.Fuse.{Fuse}
use Rattle.mc_keep.specs.declared.fused.Fused.{Fused}
use Rattle.mc_keepers.specs.declared.keepers.KeeperPlan.{KeeperPlan}
use Rattle.mc_model.specs.Kept.{Kept}
use Rattle.mc_seats.specs.declared.world.Part.{Part}
use Rattle.mc_seats.specs.Keepers.{is_calm_keeper}
use Rattle.mc_seats.specs.Openings.{AreFresh, IsFresh, are_calm, owns_of, starts_of}
use Rattle.mc_app.specs.Keeping.{ArePlain, TakesParts, made_of}
use Rattle.mc_app.specs.Outcome.{AreOwnDesks, HasSome, MadeFrom, TakenFrom, TakesSome, starts_from}
use Rattle.mc_seats.proofs.OpeningFacts.{both_true}
use Rattle.mc_seats.proofs.StayFacts.{of_none}

-- what a fused keeper tells, by the one inside
abbrev pub told_in : {K : Type 0} → (K → Option Kept) → Fused K → Option Kept
told_in told fused = told fused.keeper

-- the count of a part
abbrev pub count_in : {K D : Type 0} → (K → ℕ) → (D → ℕ) → Part (Fused K) D → ℕ
count_in faults desk_faults part = faults part.keeper.keeper + sum_by desk_faults part.desks

-- parts that are given back one after the other

module _ {M K D : Type 0} (takes : M → K → List D → M → Type 0) where
  taken_push : (first mid last : M) (parts : List (Part (Fused K) D)) (part : Part (Fused K) D) → TakesParts takes first parts mid → takes mid part.keeper.keeper part.desks last → TakesParts takes first (parts ++ part ∷ []) last
  taken_push first mid last [] part from next = (last, subst (λ (m : M). takes m part.keeper.keeper part.desks last) from next, refl)
  taken_push first mid last (front ∷ parts) part from next = (from.0, from.1, taken_push from.0 mid last parts part from.2 next)

  module _ (faults : K → ℕ) (desk_faults : D → ℕ) (lost : M → ℕ) where
    -- where the loop stands that gives keepers back
    pub record IsGivingBack (first : M) (all parts : List (Part (Fused K) D)) (now : M) : Type 0 where
      pub taken : List (Part (Fused K) D)
      pub split : all ≡ taken ++ parts
      pub from : TakesParts takes first taken now
      pub done : ℕ
      pub total : done + sum_by (count_in faults desk_faults) parts ≡ sum_by (count_in faults desk_faults) all
      pub later : min (lost first + done) (2 ^ 64 - 1) ≤ lost now

    pub back_begins : (first : M) (all : List (Part (Fused K) D)) → IsGivingBack first all all first
    back_begins first all = record { taken = []; split = refl; from = refl; done = 0; total = omega arith; later = omega arith }

    pub back_more : (first mid last : M) (all parts rest : List (Part (Fused K) D)) (part : Part (Fused K) D) (keeper : K) → IsGivingBack first all parts mid → parts ≡ part ∷ rest → keeper ≡ part.keeper.keeper → takes mid keeper part.desks last
        → lost last ≡ min (lost mid + faults keeper + sum_by desk_faults part.desks) (2 ^ 64 - 1) → IsGivingBack first all rest last
    back_more first mid last all parts rest part keeper back out is next count =
        let sum : sum_by (count_in faults desk_faults) parts ≡ (faults part.keeper.keeper + sum_by desk_faults part.desks) + sum_by (count_in faults desk_faults) rest = ap (λ (l : List (Part (Fused K) D)). sum_by (count_in faults desk_faults) l) out ∙ sum_by-cons (count_in faults desk_faults) part rest in
        let same : faults keeper ≡ faults part.keeper.keeper = ap faults is in
        record {
          taken = back.taken ++ part ∷ [];
          split = back.split ∙ ap (λ (l : List (Part (Fused K) D)). back.taken ++ l) out ∙ sym (append_assoc back.taken (part ∷ []) rest);
          from = taken_push first mid last back.taken part back.from (subst (λ (k : K). takes mid k part.desks last) is next);
          done = back.done + (faults part.keeper.keeper + sum_by desk_faults part.desks);
          total = omega (arith, back.total, sum);
          later = omega (arith, back.later, count, same);
        }

    pub back_taken : (first last : M) (all parts : List (Part (Fused K) D)) → IsGivingBack first all parts last → length parts ≡ 0 → TakesParts takes first all last
    back_taken first last all [] back none = subst (λ (l : List (Part (Fused K) D)). TakesParts takes first l last) (sym (back.split ∙ append-nil back.taken)) back.from
    back_taken first last all (part ∷ parts) back none = absurd (omega (arith, none))

    pub back_lost : (first last : M) (all parts : List (Part (Fused K) D)) → IsGivingBack first all parts last → length parts ≡ 0 → min (lost first + sum_by (count_in faults desk_faults) all) (2 ^ 64 - 1) ≤ lost last
    back_lost first last all [] back none = omega (arith, back.later, back.total)
    back_lost first last all (part ∷ parts) back none = absurd (omega (arith, none))

  -- each is taken back for one that was made
  pub taken_told : (told : K → Option Kept) (Fits : K → List D → Type 0) (keepers : List K) (first last : M) (backs : List (Part (Fused K) D)) → AllZip (λ (made : K) (back : Part (Fused K) D). Fits made back.desks) keepers backs → TakesParts takes first backs last
      → TakenFrom takes told Fits first keepers (starts_of (told_in told) backs) last
  taken_told told Fits [] first last [] fit taken = taken
  taken_told told Fits [] first last (back ∷ backs) fit taken = absurd fit
  taken_told told Fits (made ∷ keepers) first last [] fit taken = absurd fit
  taken_told told Fits (made ∷ keepers) first last (back ∷ backs) fit taken = (back.keeper.keeper, back.desks, taken.0, taken.1, refl, fit.0, taken_told told Fits keepers taken.0 last backs fit.1 taken.2)

made_append : {K D : Type 0} (parts : List (Part (Fused K) D)) (part : Part (Fused K) D) → made_of (parts ++ part ∷ []) ≡ made_of parts ++ part.keeper.keeper ∷ []
made_append [] part = refl
made_append (front ∷ parts) part = ap (λ l. front.keeper.keeper ∷ l) (made_append parts part)

many_more : {K D : Type 0} (count : ℕ) (parts : List (Part (Fused K) D)) (part : Part (Fused K) D) → length (made_of parts) ≡ count → length (made_of (parts ++ part ∷ [])) ≡ count + 1
many_more count parts part many = ap length (made_append parts part) ∙ length-append (made_of parts) (part.keeper.keeper ∷ []) ∙ ap (λ n. n + 1) many

-- keepers that are made one after the other
module _ {M K : Type 0} (makes : M → KeeperPlan → ℕ → Result K KeepError → M → Type 0) (plan : KeeperPlan) where
  made_next : (index : ℕ) (first mid last : M) (keepers : List K) (keeper : K) → MadeFrom makes plan index first keepers mid → makes mid plan (index + length keepers) (Ok keeper) last → MadeFrom makes plan index first (keepers ++ keeper ∷ []) last
  made_next index first mid last [] keeper made next =
      let here : index + 0 ≡ index = omega arith in (last, subst (λ (m : M). makes m plan index (Ok keeper) last) made (subst (λ (n : ℕ). makes mid plan n (Ok keeper) last) here next), refl)
  made_next index first mid last (front ∷ keepers) keeper made next =
      let there : index + suc (length keepers) ≡ index + 1 + length keepers = omega arith in
      (made.0, made.1, made_next (index + 1) made.0 mid last keepers keeper made.2 (subst (λ (n : ℕ). makes mid plan n (Ok keeper) last) there next))

  pub made_more : {D : Type 0} (count : ℕ) (first mid last : M) (parts : List (Part (Fused K) D)) (part : Part (Fused K) D) → MadeFrom makes plan 0 first (made_of parts) mid → length (made_of parts) ≡ count → makes mid plan count (Ok part.keeper.keeper) last → MadeFrom makes plan 0 first (made_of (parts ++ part ∷ [])) last
  made_more count first mid last parts part made many next =
      let here : count ≡ 0 + length (made_of parts) = omega (arith, many) in
      subst (λ (l : List K). MadeFrom makes plan 0 first l last) (sym (made_append parts part))
      (made_next 0 first mid last (made_of parts) part.keeper.keeper made (subst (λ (n : ℕ). makes mid plan n (Ok part.keeper.keeper) last) here next))

-- the members of a fused keeper, by those of the one inside
abbrev pub fused_members : {K D : Type 0} → Members K D → Members (Fused K) D
fused_members k = record {
  faults = faults_in k.faults;
  told = told_in k.told;
  layout = λ fused. k.layout fused.keeper;
  spare = λ fused. k.spare fused.keeper;
  fuse = λ fused. fused.fuse;
  own = λ fused. k.faults fused.keeper;
  quiet = quiet_in k.fuse k.quiet;
  quiet_desk = k.quiet_desk;
  schedule = schedule_in k.fuse k.schedule;
  desk_schedule = k.desk_schedule;
}

starts_push : (start : ℕ → Option Kept) (number count : ℕ) → starts_from start number (suc count) ≡ starts_from start number count ++ start (number + count) ∷ []
starts_push start number zero = ap (λ n. start n ∷ []) (omega arith)
starts_push start number (suc count) = ap (λ l. start number ∷ l) (starts_push start (number + 1) count ∙ ap (λ n. starts_from start (number + 1) count ++ start n ∷ []) (omega arith))

starts_one_more : (start : ℕ → Option Kept) (count : ℕ) → starts_from start 0 (count + 1) ≡ starts_from start 0 count ++ start count ∷ []
starts_one_more start count =
    let next : suc count ≡ count + 1 = omega arith in
    let last : 0 + count ≡ count = omega arith in
    ap (λ n. starts_from start 0 n) (sym next) ∙ starts_push start 0 count ∙ ap (λ n. starts_from start 0 count ++ start n ∷ []) last

pub take_starts : (start : ℕ → Option Kept) (number count some : ℕ) → some ≤ count → take some (starts_from start number count) ≡ starts_from start number some
take_starts start number count zero few = refl
take_starts start number zero (suc some) few = absurd (omega (arith, few))
take_starts start number (suc count) (suc some) few = ap (λ l. start number ∷ l) (take_starts start (number + 1) count some (omega (arith, few)))

starts_append : {K D : Type 0} (told : K → Option Kept) (parts : List (Part K D)) (part : Part K D) → starts_of told (parts ++ part ∷ []) ≡ starts_of told parts ++ told part.keeper ∷ []
starts_append told [] part = refl
starts_append told (first ∷ parts) part = ap (λ l. told first.keeper ∷ l) (starts_append told parts part)

fresh_append : {K D : Type 0} (told : K → Option Kept) (fuse : K → Option Fuse) (parts : List (Part K D)) (part : Part K D) → AreFresh told fuse parts → IsFresh told fuse part → AreFresh told fuse (parts ++ part ∷ [])
fresh_append told fuse [] part all one = (one, tt)
fresh_append told fuse (first ∷ parts) part all one = (all.0, fresh_append told fuse parts part all.1 one)

plain_push : {K D : Type 0} (planned : Fused K → Option Schedule) (schedule : K → Option Schedule) (parts : List (Part (Fused K) D)) (part : Part (Fused K) D) → AllByRecursion (λ (p : Part (Fused K) D). planned p.keeper ≡ schedule p.keeper.keeper) parts → planned part.keeper ≡ schedule part.keeper.keeper
    → AllByRecursion (λ (p : Part (Fused K) D). planned p.keeper ≡ schedule p.keeper.keeper) (parts ++ part ∷ [])
plain_push planned schedule [] part all one = (one, tt)
plain_push planned schedule (front ∷ parts) part all one = (all.0, plain_push planned schedule parts part all.1 one)

module _ {K D : Type 0} (k : Members (Fused K) D) (schedule : K → Option Schedule) where
  -- where the loop stands that makes keepers
  pub record IsMaking (start : ℕ → Option Kept) (quiet : Bool) (parts : List (Part (Fused K) D)) (count : ℕ) : Type 0 where
    pub starts : starts_of k.told parts ≡ starts_from start 0 count
    pub fresh : AreFresh k.told k.fuse parts
    pub counted : owns_of k parts ≡ 0
    pub calm : quiet ≡ true → are_calm k parts ≡ true
    pub plain : ArePlain k.schedule schedule parts
    pub many : length (made_of parts) ≡ count

  pub making_begins : (start : ℕ → Option Kept) (quiet : Bool) (parts : List (Part (Fused K) D)) → parts ≡ [] → IsMaking start quiet parts 0
  making_begins start quiet parts none = subst (λ (l : List (Part (Fused K) D)). IsMaking start quiet l 0) (sym none) (record { starts = refl; fresh = tt; counted = refl; calm = λ e. refl; plain = record { each = tt }; many = refl })

  pub making_more : (start start_now : ℕ → Option Kept) (quiet quiet_now : Bool) (parts : List (Part (Fused K) D)) (count : ℕ) (part : Part (Fused K) D) → IsMaking start quiet parts count → ((index : ℕ) → start_now index ≡ start index) → quiet_now ≡ quiet
      → k.told part.keeper ≡ start_now count → IsFresh k.told k.fuse part → k.own part.keeper ≡ 0 → (quiet_now ≡ true → is_calm_keeper k part.keeper ≡ true) → k.schedule part.keeper ≡ schedule part.keeper.keeper → IsMaking start quiet (parts ++ part ∷ []) (count + 1)
  making_more start start_now quiet quiet_now parts count part making same same_quiet told fresh own calm plain = record {
    starts = starts_append k.told parts part ∙ ap (λ l. l ++ k.told part.keeper ∷ []) making.starts ∙ ap (λ t. starts_from start 0 count ++ t ∷ []) (told ∙ same count) ∙ sym (starts_one_more start count);
    fresh = fresh_append k.told k.fuse parts part making.fresh fresh;
    counted = sum_by-append (λ (p : Part (Fused K) D). k.own p.keeper) parts (part ∷ []) ∙ omega (arith, making.counted, own, sum_by-cons (λ (p : Part (Fused K) D). k.own p.keeper) part []);
    calm = λ e. list_all-append (λ (p : Part (Fused K) D). is_calm_keeper k p.keeper) parts (part ∷ []) ∙ both_true (making.calm e) (both_true (calm (same_quiet ∙ e)) refl);
    plain = record { each = plain_push k.schedule schedule parts part making.plain.each plain };
    many = many_more count parts part making.many;
  }

starts_many : (start : ℕ → Option Kept) (number count : ℕ) → length (starts_from start number count) ≡ count
starts_many start number zero = refl
starts_many start number (suc count) = let rest = starts_many start (number + 1) count in omega (arith, rest)

-- those that were made tell what their parts do
pub told_of : {K D : Type 0} (told : K → Option Kept) (parts : List (Part (Fused K) D)) → map told (made_of parts) ≡ starts_of (told_in told) parts
told_of told [] = refl
told_of told (part ∷ parts) = ap (λ l. told part.keeper.keeper ∷ l) (told_of told parts)

module _ {M K D : Type 0} (makes : M → KeeperPlan → ℕ → Result K KeepError → M → Type 0) (takes : M → K → List D → M → Type 0) (k : Members K D) (plan : KeeperPlan) where
  abbrev pub OwnDesks : K → List D → Type 0
  OwnDesks = AreOwnDesks k.schedule k.desk_schedule

  -- those that were made are given back, and have no desks yet
  fresh_fit : (parts : List (Part (Fused K) D)) → AreFresh (fused_members k).told (fused_members k).fuse parts → AllZip (λ (made : K) (back : Part (Fused K) D). HasSome OwnDesks made back.desks) (made_of parts) parts
  fresh_fit [] fresh = tt
  fresh_fit (part ∷ parts) fresh = let none = ap length fresh.0.no_desks in ((omega (arith, none), of_none k.desk_schedule (k.schedule part.keeper.keeper) part.desks fresh.0.no_desks), fresh_fit parts fresh.1)

  -- the keeper behind so many was not made, and these are taken back
  pub making_ends : (start : ℕ → Option Kept) (quiet : Bool) (parts : List (Part (Fused K) D)) (count many : ℕ) (first made before last : M) → IsMaking (fused_members k) k.schedule start quiet parts count → count < many
      → MadeFrom makes plan 0 first (made_of parts) made → (error : KeepError) × makes made plan count (Err error) before → TakesParts takes before parts last → TakesSome makes takes k.told OwnDesks plan first (starts_from start 0 many) last
  making_ends start quiet parts count many first made before last making few so_far unmade taken =
      let told_is : map k.told (made_of parts) ≡ starts_from start 0 count = told_of k.told parts ∙ making.starts in (
        made_of parts,
        (
          made,
          before,
          so_far,
          told_is ∙ sym (take_starts start 0 many count (omega (arith, few))) ∙ ap (λ n. take n (starts_from start 0 many)) (sym making.many),
          inr (
            omega (arith, few, making.many, starts_many start 0 many),
            unmade.0,
            subst (λ (n : ℕ). makes made plan n (Err unmade.0) before) (sym making.many) unmade.1,
          ),
          subst (λ (l : List (Option Kept)). TakenFrom takes k.told (HasSome OwnDesks) before (made_of parts) l last) (sym (told_of k.told parts)) (taken_told takes k.told (HasSome OwnDesks) (made_of parts) before last parts (fresh_fit parts making.fresh) taken),
        ),
      )

  -- no keeper was made
  pub making_none : (starts : List (Option Kept)) (last : M) → TakesSome makes takes k.told OwnDesks plan last starts last
  making_none starts last = ([], (last, last, refl, refl, inl refl, refl))
