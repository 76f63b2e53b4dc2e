-- Refusals, one after another.
use Rattle.std.proofs.Common.{◌≡◌, ℕ, Bool, true, false, cond, List, [], ◌∷◌, Option, Some, None, Result, Ok, Err, inl, inr, refl, sym, ◌∙◌, ap, subst}
use Rattle.std.specs.List.{list_all}
use Rattle.std.proofs.lemmas.Bool.{and_parts, or_cases}
use Rattle.std.specs.Prelude.{IfSome, IfErr, is_some}
use Rattle.std.specs.Option.{option_or}
use Rattle.mc_base.specs.declared.cid.Cid.{Cid}
use Rattle.mc_model.specs.Front.{is_among, same_cid}
use Rattle.mc_model.specs.Kept.{IsKept, Kept, processed, bytes_at, is_stored}
use Rattle.mc_model.proofs.Counts.{cid_is}
use Rattle.mc_model.specs.declared.delta.Delta.{Delta}
use Rattle.mc_model.specs.Made.{next_priority, made_bytes, made_cid}
use Rattle.mc_plan.specs.Puts.{next_links}
use Rattle.mc_plan.specs.declared.error.CoreError.{CoreError}
use Rattle.mc_plan.specs.declared.error.CoreError.TheVariants.{Clash}
use Rattle.mc_plan.specs.Refusals.{Is, IsDue, kind_of, priority_refusal, clash_refusal, other_refusal, size_refusal, made_refusal}
use Rattle.mc_plan.proofs.KindFacts.{kinds, by_kind}

-- a refusal that is due is so before all later ones
pub due_some : (due : Option CoreError) (error : CoreError) → due ≡ Some error → IsDue (Is due) error
due_some due error e = kinds (kind_of error) (sym e) tt tt

or_some : (first second : Option CoreError) (error : CoreError) → Some error ≡ first → Some error ≡ option_or first second
or_some first second error e = subst (λ f. Some error ≡ option_or f second) e refl

pub due_first : (first second : Option CoreError) (error : CoreError) → IsDue (Is first) error → IsDue (Is (option_or first second)) error
due_first first second error d = by_kind (kind_of error) (or_some first second error) (λ x. x) (λ x. x) d

-- where the first is none, the second is due
pub or_none : (first second : Option CoreError) → first ≡ None → option_or first second ≡ second
or_none first second e = ap (λ f. option_or f second) e

pub due_second : (first second : Option CoreError) (error : CoreError) → first ≡ None → IsDue (Is second) error → IsDue (Is (option_or first second)) error
due_second first second error e d = subst (λ due. IsDue (Is due) error) (sym (or_none first second e)) d

-- the same where it is told

pub told_first : (told : Option Kept) (first second : Kept → Option CoreError) (error : CoreError)
    → IfSome told (λ kept. IsDue (Is (first kept)) error) → IfSome told (λ kept. IsDue (Is (option_or (first kept) (second kept))) error)
told_first None first second error d = tt
told_first (Some kept) first second error d = due_first (first kept) (second kept) error d

pub told_second : (told : Option Kept) (first second : Kept → Option CoreError) (error : CoreError)
    → IfSome told (λ kept. first kept ≡ None) → IfSome told (λ kept. IsDue (Is (second kept)) error) → IfSome told (λ kept. IsDue (Is (option_or (first kept) (second kept))) error)
told_second None first second error e d = tt
told_second (Some kept) first second error e d = due_second (first kept) (second kept) error e d

pub told_none : (told : Option Kept) (first second : Kept → Option CoreError)
    → IfSome told (λ kept. first kept ≡ None) → IfSome told (λ kept. second kept ≡ None) → IfSome told (λ kept. option_or (first kept) (second kept) ≡ None)
told_none None first second e f = tt
told_none (Some kept) first second e f = or_none (first kept) (second kept) e ∙ f

pub told_some : (told : Option Kept) (due : Kept → Option CoreError) (error : CoreError) → IfSome told (λ kept. due kept ≡ Some error) → IfSome told (λ kept. IsDue (Is (due kept)) error)
told_some None due error e = tt
told_some (Some kept) due error e = due_some (due kept) error e

-- a refusal that isn't the keeper's holds whatever is told
pub told_always : (told : Option Kept) (P : Kept → Type 0) → ((kept : Kept) → P kept) → IfSome told P
told_always None P p = tt
told_always (Some kept) P p = p kept

-- a clash, and none
pub clash_processed : (told : Option Kept) (cid : Cid) (bytes : List ℕ) → IfSome told (λ kept. is_among kept.order cid ≡ true) → IfSome told (λ kept. clash_refusal kept cid bytes ≡ Some (Clash cid))
clash_processed None cid bytes e = tt
clash_processed (Some kept) cid bytes e = ap (λ b. cond b (Some (Clash cid)) (other_refusal cid bytes (bytes_at kept.graph cid))) e

pub clash_stored : (told : Option Kept) (cid : Cid) (bytes : List ℕ) (found : Option (List ℕ)) (refusal : Option CoreError) → IfSome told (λ kept. is_among kept.order cid ≡ false)
    → IfSome told (λ kept. found ≡ bytes_at kept.graph cid) → other_refusal cid bytes found ≡ refusal → IfSome told (λ kept. clash_refusal kept cid bytes ≡ refusal)
clash_stored None cid bytes found refusal new at e = tt
clash_stored (Some kept) cid bytes found refusal new at e =
    ap (λ b. cond b (Some (Clash cid)) (other_refusal cid bytes (bytes_at kept.graph cid))) new ∙ ap (other_refusal cid bytes) (sym at) ∙ e

-- what is processed is stored
stored_among : (test : Cid → Bool) (cids : List Cid) (cid : Cid) → list_all test cids ≡ true → is_among cids cid ≡ true → test cid ≡ true
stored_among test [] cid all among = absurd (let f : false ≡ true = among in cc)
stored_among test (c ∷ cids) cid all among =
    let parts = and_parts (test c) (list_all test cids) all in
    elim (or_cases (same_cid cid c) (is_among cids cid) among) [
      | inl here ↦ ap test (cid_is cid c here) ∙ parts.0
      | inr there ↦ stored_among test cids cid parts.1 there
    ]

unstored : (kept : Kept) (cid : Cid) (bytes : List ℕ) (among : Bool) → is_among kept.order cid ≡ among → IsKept kept → None ≡ bytes_at kept.graph cid → clash_refusal kept cid bytes ≡ None
unstored kept cid bytes false new sound at = ap (λ b. cond b (Some (Clash cid)) (other_refusal cid bytes (bytes_at kept.graph cid))) new ∙ ap (other_refusal cid bytes) (sym at)
unstored kept cid bytes true new sound at = absurd (let f : false ≡ true = ap is_some at ∙ stored_among (is_stored kept.graph) kept.order cid sound.stored new in cc)

pub clash_unstored : (told : Option Kept) (cid : Cid) (bytes : List ℕ) (found : Option (List ℕ)) → ((other : List ℕ) → found ≡ Some other → ⊥) → IfSome told IsKept → IfSome told (λ kept. found ≡ bytes_at kept.graph cid)
    → IfSome told (λ kept. clash_refusal kept cid bytes ≡ None)
clash_unstored None cid bytes found never sound at = tt
clash_unstored (Some kept) cid bytes None never sound at = unstored kept cid bytes (is_among kept.order cid) refl sound at
clash_unstored (Some kept) cid bytes (Some other) never sound at = absurd (never other refl)

pub stored_is : (told : Option Kept) (cid : Cid) (found : Option (List ℕ)) (known : Bool) → known ≡ is_some found → IfSome told (λ kept. found ≡ bytes_at kept.graph cid) → IfSome told (λ kept. known ≡ is_stored kept.graph cid)
stored_is None cid found known e at = tt
stored_is (Some kept) cid found known e at = e ∙ ap is_some at

-- what is told of a test that was made
pub told_test : (told : Option Kept) (found value : Bool) (test : Kept → Bool) → found ≡ value → IfSome told (λ kept. found ≡ test kept) → IfSome told (λ kept. test kept ≡ value)
told_test None found value test e is = tt
told_test (Some kept) found value test e is = sym is ∙ e

-- a clash of a made block
pub made_due : (told : Option Kept) (links : List Cid) (delta : Delta) (cid : Cid) (bytes : List ℕ) (error : CoreError) → bytes ≡ made_bytes links delta → cid ≡ made_cid links delta → size_refusal bytes ≡ None
    → IfSome told (λ kept. IsDue (Is (clash_refusal kept cid bytes)) error) → IfSome told (λ kept. IsDue (Is (made_refusal kept links delta)) error)
made_due None links delta cid bytes error e f fits due = tt
made_due (Some kept) links delta cid bytes error e f fits due =
    due_second (size_refusal (made_bytes links delta)) (clash_refusal kept (made_cid links delta) (made_bytes links delta)) error (ap size_refusal (sym e) ∙ fits)
    (subst (λ b. IsDue (Is (clash_refusal kept (made_cid links delta) b)) error) e (subst (λ c. IsDue (Is (clash_refusal kept c bytes)) error) f due))

-- a call that is refused as its last part is, after the first part was not
pub result_second : {T : Type 0} (told : Option Kept) (first second : Kept → Option CoreError) (result : Result T CoreError)
    → IfSome told (λ kept. first kept ≡ None) → IfSome told (λ kept. IfErr result (IsDue (Is (second kept)))) → IfSome told (λ kept. IfErr result (IsDue (Is (option_or (first kept) (second kept)))))
result_second None first second result e due = tt
result_second (Some kept) first second (Ok value) e due = tt
result_second (Some kept) first second (Err error) e due = due_second (first kept) (second kept) error e due

-- so is one that makes a block over the heads
pub result_made : {T : Type 0} (told now : Option Kept) (links : List Cid) (priority : ℕ) (delta : Delta) (make : ℕ → Delta) (result : Result T CoreError) → now ≡ told
    → IfSome told (λ kept. priority_refusal kept ≡ None) → IfSome told (λ kept. (links ≡ next_links kept) × (priority ≡ next_priority (processed kept))) → delta ≡ make priority
    → IfSome now (λ kept. IfErr result (IsDue (Is (made_refusal kept links delta))))
    → IfSome told (λ kept. IfErr result (IsDue (Is (option_or (priority_refusal kept) (made_refusal kept (next_links kept) (make (next_priority (processed kept))))))))
result_made told now links priority delta make result same left next is due =
    result_second told priority_refusal (λ kept. made_refusal kept (next_links kept) (make (next_priority (processed kept)))) result left
    (over told next (subst (λ t. IfSome t (λ kept. IfErr result (IsDue (Is (made_refusal kept links delta))))) same due))
  where
    over : (told : Option Kept) → IfSome told (λ kept. (links ≡ next_links kept) × (priority ≡ next_priority (processed kept))) → IfSome told (λ kept. IfErr result (IsDue (Is (made_refusal kept links delta))))
        → IfSome told (λ kept. IfErr result (IsDue (Is (made_refusal kept (next_links kept) (make (next_priority (processed kept)))))))
    over None next due = tt
    over (Some kept) next due =
        subst (λ d. IfErr result (IsDue (Is (made_refusal kept (next_links kept) d)))) (is ∙ ap make next.1)
        (subst (λ l. IfErr result (IsDue (Is (made_refusal kept l delta)))) next.0 due)
