-- Messages that are heard.
use Rattle.std.proofs.Common.{◌≡◌, ℕ, suc, ◌+◌, ◌≤◌, ◌<◌, Bool, true, false, not, cond, ◌||◌, List, [], ◌∷◌, ◌++◌, get_or, length, map, filter, take, Option, Some, None, Result, Ok, Err, refl, sym, ◌∙◌, ap, subst, inl, inr, arith}
use Rattle.std.specs.Prelude.{◌⊎◌, IfSome, IfOk, IfErr, OnOk, OnErr}
use Rattle.std.proofs.Math.Seq.{take-suc}
use Rattle.std.proofs.lemmas.List.Elements.{filter-append}
use Rattle.mc_base.specs.Told.{Told}
use Rattle.mc_base.specs.declared.cid.Cid.{Cid}
use Rattle.mc_wire.specs.Named.{fault_named}
use Rattle.mc_wire.specs.declared.fault.WireFault.{WireFault as Fault}
use Rattle.mc_wire.specs.declared.fault.WireFault.TheVariants.{Short, LongVarint, WireType, FieldZero}
use Rattle.mc_cast.specs.Cast.{first_unnamed}
use Rattle.mc_cast.specs.Reads.{IsCast, IsFault, IsFaultOf}
use Rattle.mc_cast.specs.Steps.{digests_of}
use Rattle.mc_cast.specs.declared.fault.CastError.{CastError}
use Rattle.mc_cast.specs.declared.fault.CastError.TheVariants as cast
use Rattle.mc_cast.specs.declared.fault.CastFault.{CastFault}
use Rattle.mc_cast.specs.declared.fault.CastFault.TheVariants.{Wire, BadCid}
use Rattle.mc_model.specs.Events.{Hear}
use Rattle.mc_model.specs.Graph.{has}
use Rattle.mc_model.specs.Kept.{Kept}
use Rattle.mc_model.specs.State.{Running, IsSound, durable_of}
use Rattle.mc_model.specs.Wanted.{Queue, IsOnce, bad_cids, wanted, want, to_waiting, out_of_stuck, hear, hear_all}
use Rattle.mc_model.proofs.Counts.{times_has}
use Rattle.mc_model.proofs.Held.{in_parts, grows_hear}
use Rattle.mc_model.proofs.Sound.{sound_after}
use Rattle.mc_keep.specs.declared.fuse.Fuse.{Fuse}
use Rattle.mc_plan.specs.declared.error.CoreError.{CoreError}
use Rattle.mc_plan.specs.declared.error.CoreError.TheVariants.{BadCast}
use Rattle.mc_plan.specs.declared.hears.Heard.{Heard}
use Rattle.mc_plan.specs.Counted.{AreSound, run_of}
use Rattle.mc_plan.specs.Events.{ReplicaState, state_of}
use Rattle.mc_plan.specs.Hears.{AreSome, HearEvents, IsQueued, IsRefusalOf, NamesNew, cast_refusal, fault_as, hear_refusal}
use Rattle.mc_plan.specs.Refusals.{Is}
use Rattle.mc_plan.proofs.CallFacts.{at, Calls}
use Rattle.mc_plan.proofs.SoundFacts.{silent_sound, sound_state, state_sound}

-- ---- the refusal of a message

same_fault : (fault : Fault) → fault_as (fault_named fault) ≡ fault
same_fault Short = refl
same_fault LongVarint = refl
same_fault WireType = refl
same_fault FieldZero = refl

all_named : (at : ℕ) (digests : List (List ℕ)) → first_unnamed at (map Some digests) ≡ None
all_named at [] = refl
all_named at (digest ∷ digests) = all_named (at + 1) digests

cast_allowed : (text : List ℕ) (digests : List (List ℕ)) → IsCast text digests → cast_refusal text ≡ None
cast_allowed text digests is = rw (is.sound, is.heads, all_named 0 digests) refl

cast_refused : (text : List ℕ) (fault : CastFault) → IsFault text fault → cast_refusal text ≡ Some (BadCast fault)
cast_refused text (Wire fault) is = rw (is, same_fault fault) refl
cast_refused text (BadCid index) is = rw (is.sound, is.are, is.first) refl

refused_of : (text : List ℕ) (error : CastError) → IsFaultOf text error → IsRefusalOf text error
refused_of text (cast.Fault fault) is = cast_refused text fault is
refused_of text cast.Memory is = tt

-- the same of a reading
pub read_allowed : (text : List ℕ) (result : Result (List Cid) CastError) → IfOk result (λ cids. IsCast text (digests_of cids)) → OnOk result (cast_refusal text ≡ None)
read_allowed text (Ok cids) is = cast_allowed text (digests_of cids) is
read_allowed text (Err error) is = tt

pub read_refused : (text : List ℕ) (result : Result (List Cid) CastError) → IfErr result (λ error. IsFaultOf text error) → IfErr result (IsRefusalOf text)
read_refused text (Ok cids) is = tt
read_refused text (Err error) is = refused_of text error is

-- ---- what is heard

-- a block that is processed is in no part
not_stuck : (order : List Cid) (q : Queue) (c : Cid) → IsOnce order q → has c order ≡ true → (has c q.missing || has c (bad_cids q.bad)) ≡ false
not_stuck order q c once e = over (has c q.missing) (has c (bad_cids q.bad)) refl refl
  where
    over : (m b : Bool) → has c q.missing ≡ m → has c (bad_cids q.bad) ≡ b → (m || b) ≡ false
    over false false f g = refl
    over true b f g = absurd (omega (arith, once c, in_parts q c, times_has c order e, times_has c q.missing f))
    over false true f g = absurd (omega (arith, once c, in_parts q c, times_has c order e, times_has c (bad_cids q.bad) g))

-- so it changes nothing
processed_same : (order : List Cid) (q : Queue) (c : Cid) → IsOnce order q → has c order ≡ true → hear order q c ≡ q
processed_same order q c once e = rw (not_stuck order q c once e, e) refl

-- another one comes as if nothing was processed
new_same : (order : List Cid) (q : Queue) (c : Cid) → has c order ≡ false → hear order q c ≡ hear [] q c
new_same order q c e = rw e refl

pub hears_new : (order : List Cid) (q : Queue) (cids : List Cid) → IsOnce order q → hear_all order q cids ≡ hear_all [] q (filter (λ c. not (has c order)) cids)
hears_new order q [] once = refl
hears_new order q (c ∷ cids) once =
    elim (has c order) as (λ t. has c order ≡ t → hear_all order (hear order q c) cids ≡ hear_all [] q (cond (not t) (c ∷ filter (λ d. not (has d order)) cids) (filter (λ d. not (has d order)) cids))) [
      | true ↦ λ e. ap (λ (r : Queue). hear_all order r cids) (processed_same order q c once e) ∙ hears_new order q cids once
      | false ↦ λ e. hears_new order (hear order q c) cids ((grows_hear order q c once).once once) ∙ ap (λ (r : Queue). hear_all [] r (filter (λ d. not (has d order)) cids)) (new_same order q c e)
    ] refl

-- nothing leaves waiting

one_more : (xs : List Cid) (c : Cid) → length xs ≤ length (xs ++ c ∷ [])
one_more [] c = omega arith
one_more (x ∷ xs) c = omega (arith, one_more xs c)

waits_more : (order : List Cid) (q : Queue) (c : Cid) → length q.waiting ≤ length (hear order q c).waiting
waits_more order q c =
    elim (has c q.missing || has c (bad_cids q.bad)) as (λ t. length q.waiting ≤ length (cond t (to_waiting (out_of_stuck q c) c) (want order q c)).waiting) [
      | true ↦ one_more q.waiting c
      | false ↦ elim (has c order || has c (wanted q)) as (λ t. length q.waiting ≤ length (cond t q (to_waiting q c)).waiting) [ true ↦ omega arith | false ↦ one_more q.waiting c ]
    ]

all_wait_more : (order : List Cid) (q : Queue) (cids : List Cid) → length q.waiting ≤ length (hear_all order q cids).waiting
all_wait_more order q [] = omega arith
all_wait_more order q (c ∷ cids) = omega (arith, waits_more order q c, all_wait_more order (hear order q c) cids)

pub waits_on : (q left : Queue) (cids : List Cid) → left ≡ hear_all [] q cids → length q.waiting ≤ length left.waiting
waits_on q left cids is = subst (λ (r : Queue). length q.waiting ≤ length r.waiting) (sym is) (all_wait_more [] q cids)

-- ---- which blocks of a message are heard

-- one more, which is left out, or is the last of them
left_out : (cids some : List Cid) (c : Cid) → AreSome cids some → AreSome (cids ++ c ∷ []) some
left_out [] some c is = inl is
left_out (d ∷ cids) some c (inl is) = inl (left_out cids some c is)
left_out (d ∷ cids) some c (inr is) = inr (is.0, is.1, left_out cids is.0 c is.2)

comes_last : (cids some : List Cid) (c : Cid) → AreSome cids some → AreSome (cids ++ c ∷ []) (some ++ c ∷ [])
comes_last [] some c is = inr ([], ap (λ (l : List Cid). l ++ c ∷ []) is, refl)
comes_last (d ∷ cids) some c (inl is) = inl (comes_last cids some c is)
comes_last (d ∷ cids) some c (inr is) = inr (is.0 ++ c ∷ [], ap (λ (l : List Cid). l ++ c ∷ []) is.1, comes_last cids is.0 c is.2)

module _ (cids old new : List Cid) (i : ℕ) (d : Cid) (within : i < length cids) where
  taken : take i cids ++ get_or cids i d ∷ [] ≡ take (i + 1) cids
  taken = sym (take-suc cids i d within) ∙ ap (λ (n : ℕ). take n cids) (let next : suc i ≡ i + 1 = omega arith in next)

  pub some_more : AreSome (take i cids) old → (new ≡ old) ⊎ (new ≡ old ++ get_or cids i d ∷ []) → AreSome (take (i + 1) cids) new
  some_more some more = subst (λ (l : List Cid). AreSome l new) taken (by_case more)
    where
      by_case : (new ≡ old) ⊎ (new ≡ old ++ get_or cids i d ∷ []) → AreSome (take i cids ++ get_or cids i d ∷ []) new
      by_case (inl is) = subst (AreSome (take i cids ++ get_or cids i d ∷ [])) (sym is) (left_out (take i cids) old (get_or cids i d) some)
      by_case (inr is) = subst (AreSome (take i cids ++ get_or cids i d ∷ [])) (sym is) (comes_last (take i cids) old (get_or cids i d) some)

  -- and what is not processed, where that is told
  pub new_more : (told told_now : Option Kept) → told_now ≡ told → IfSome told (λ kept. old ≡ filter (λ c. not (has c kept.order)) (take i cids))
      → IfSome told_now (λ kept. new ≡ old ++ filter (λ c. not (has c kept.order)) (get_or cids i d ∷ [])) → IfSome told (λ kept. new ≡ filter (λ c. not (has c kept.order)) (take (i + 1) cids))
  new_more told told_now same so_far more = over told so_far (subst (λ t. IfSome t (λ kept. new ≡ old ++ filter (λ c. not (has c kept.order)) (get_or cids i d ∷ []))) same more)
    where
      over : (told : Option Kept) → IfSome told (λ kept. old ≡ filter (λ c. not (has c kept.order)) (take i cids)) → IfSome told (λ kept. new ≡ old ++ filter (λ c. not (has c kept.order)) (get_or cids i d ∷ []))
          → IfSome told (λ kept. new ≡ filter (λ c. not (has c kept.order)) (take (i + 1) cids))
      over None so_far more = tt
      over (Some kept) so_far more =
          more ∙ ap (λ (l : List Cid). l ++ filter (λ c. not (has c kept.order)) (get_or cids i d ∷ [])) so_far
          ∙ sym (filter-append (λ c. not (has c kept.order)) (take i cids) (get_or cids i d ∷ [])) ∙ ap (filter (λ c. not (has c kept.order))) taken

-- ---- a call that hears

abbrev heard_run : Running → Queue → Running
heard_run run left = record run { queue = left }

-- what is wanted then
left_is : (kept : Kept) (run : Running) (left : Queue) (text : List ℕ) (new : List Cid) → IsOnce kept.order run.queue → (names : NamesNew text kept.order new) → left ≡ hear_all [] run.queue new
    → left ≡ hear_all kept.order run.queue names.cids
left_is kept run left text new once names is = is ∙ ap (hear_all [] run.queue) names.new_ones ∙ sym (hears_new kept.order run.queue names.cids once)

abbrev Due : List ℕ → ReplicaState → Option CoreError → Type 0
Due text s = Is (hear_refusal s text)

pub hear_call : (told told_new : Option Kept) (fuse fuse_new : Option Fuse) (stop : Bool) (run : Running) (left : Queue) (rose : Type 0) (text : List ℕ) (new : List Cid) (heard : Heard)
    → stop ≡ false → told_new ≡ told → fuse_new ≡ fuse → AreSound stop told run → cast_refusal text ≡ None → IfSome told (λ kept. NamesNew text kept.order new)
    → left ≡ hear_all [] run.queue new → IsQueued run.queue left heard.queued
    → Told (state_of told fuse (run_of stop run)) (state_of told_new fuse_new (run_of stop (heard_run run left))) (Calls (Due text) (λ s. HearEvents s text) rose (Ok heard))
hear_call None told_new fuse fuse_new stop run left rose text new heard up e f sound allowed names is queued = tt
hear_call (Some kept) told_new fuse fuse_new true run left rose text new heard up e f sound allowed names is queued = absurd (cc)
hear_call (Some kept) told_new fuse fuse_new false run left rose text new heard up e f sound allowed names is queued =
    let Does : ReplicaState → ReplicaState → Type 0 = Calls (Due text) (λ s. HearEvents s text) rose (Ok heard) in
    let whole : left ≡ hear_all kept.order run.queue names.cids = left_is kept run left text new (sound.once kept refl refl) names is in
    subst (λ t. Told (state_of (Some kept) fuse (Some run)) (state_of t fuse_new (Some (heard_run run left))) Does) (sym e)
    (subst (λ x. Does (at kept fuse (Some run)) (at kept x (Some (heard_run run left)))) (sym f)
    (record {
      allowed = sym allowed;
      events = Hear names.cids ∷ [];
      makes = record { cids = names.cids; named = names.named; only = refl; queued = subst (λ (r : Queue). IsQueued run.queue r heard.queued) whole queued };
      goes = record { may = (tt, refl, tt); ends = ap (λ (r : Queue). at kept fuse (Some (heard_run run r))) whole };
    }))

-- what was heard leaves a replica sound, and so does what was not
pub hear_sound : {T E : Type 0} (result : Result T E) (told told_new : Option Kept) (stop : Bool) (run : Running) (left : Queue) (text : List ℕ) (new : List Cid) → told_new ≡ told → AreSound stop told run → IfSome told (λ kept. NamesNew text kept.order new)
    → OnOk result (left ≡ hear_all [] run.queue new) → OnErr result (left ≡ run.queue) → AreSound stop told_new (heard_run run left)
hear_sound result told told_new stop run left text new same sound names heard short = subst (λ t. AreSound stop t (heard_run run left)) (sym same) (by_result result heard short)
  where
    over : (told : Option Kept) (stop : Bool) → AreSound stop told run → IfSome told (λ kept. NamesNew text kept.order new) → left ≡ hear_all [] run.queue new → AreSound stop told (heard_run run left)
    over None stop sound names is = silent_sound stop (heard_run run left)
    over (Some kept) true sound names is = sound_state true kept (heard_run run left) (state_sound true kept run sound)
    over (Some kept) false sound names is =
        let state : IsSound (record { durable = durable_of kept; run = Some run }) = state_sound false kept run sound in
        sound_state false kept (heard_run run left)
        (subst (λ (r : Queue). IsSound (record { durable = durable_of kept; run = Some (heard_run run r) })) (sym (left_is kept run left text new (sound.once kept refl refl) names is))
        (sound_after (durable_of kept) (Some run) (Hear names.cids) tt state.durable state.run))

    by_result : {T E : Type 0} (result : Result T E) → OnOk result (left ≡ hear_all [] run.queue new) → OnErr result (left ≡ run.queue) → AreSound stop told (heard_run run left)
    by_result (Ok value) heard short = over told stop sound names heard
    by_result (Err error) heard short = subst (λ (r : Queue). AreSound stop told (heard_run run r)) (sym short) sound
