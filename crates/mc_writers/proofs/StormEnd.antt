-- What a storm leads to, from the log that its node is closed with.
use Rattle.std.proofs.Common.{◌≡◌, ◌≤◌, ◌<◌, ◌+◌, ◌-◌, ℕ, suc, Bool, true, false, List, [], ◌∷◌, length, take, Option, Some, None, refl, sym, ap, ◌∙◌, subst, arith}
use Rattle.std.proofs.lemmas.Bool.{false≢true}
use Rattle.std.proofs.lemmas.List.{take_all}
use Rattle.mc_base.specs.Causes.{Rose}
use Rattle.mc_base.specs.Told.{Told}
use Rattle.mc_turn.specs.Lists.{times}
use Rattle.mc_core.specs.Events.{ReplicaState}
use Rattle.mc_storm.specs.Interleavings.{StormCall}
use Rattle.mc_node.specs.Items.{Item, has_halted, is_rooted, last, last_state, root, state_in}
use Rattle.mc_storm.specs.Storms.{CallActs, CallFails, CallsRun, StormBreaks, StormEnds, StormPauses}
use Rattle.mc_writers.specs.Tooks.{Each, Took, made_places}
use Rattle.mc_writers.specs.Writers.{IsBad, IsGood, Tooks, calls_in}
use Rattle.mc_writers.proofs.Chains.{runs_all}
use Rattle.mc_writers.specs.Gathers.{Joined}
use Rattle.mc_writers.proofs.Joins.{joined_last, joined_made, joined_part, joined_same, joined_whole, ordered}
use Rattle.mc_writers.proofs.Spread.{adding_none, each_more}
use Rattle.mc_writers.proofs.StormLaw.{Stormy, all_fit, good_before, last_place, moment, none_there, one_before, open_at, unhalted_all}

pub told_as : {A B : Type 0} (P R : A → B → Type 0) → ((x : A) (y : B) → P x y → R x y) → (a : Option A) (b : Option B) → Told a b P → Told a b R
told_as P R more None b p = tt
told_as P R more (Some x) None p = absurd p
told_as P R more (Some x) (Some y) p = more x y p

told_in_turn : {A B C : Type 0} (P : A → B → Type 0) (Q : B → C → Type 0) (R : A → C → Type 0) → ((x : A) (y : B) (z : C) → P x y → Q y z → R x z) → (a : Option A) (b : Option B) (c : Option C) → Told a b P → Told b c Q → Told a c R
told_in_turn P Q R join None b c p q = tt
told_in_turn P Q R join (Some x) None c p q = absurd p
told_in_turn P Q R join (Some x) (Some y) None p q = absurd q
told_in_turn P Q R join (Some x) (Some y) (Some z) p q = join x y z p q

pub root_state : (log : List Item) → is_rooted log ≡ true → moment log 1 ≡ state_in (root log)
root_state [] r = absurd (false≢true r)
root_state (x ∷ xs) r = refl

pub rooted_one : (log : List Item) → is_rooted log ≡ true → 1 ≤ length log
rooted_one [] r = absurd (false≢true r)
rooted_one (x ∷ xs) r = omega arith

pub last_moment : (log : List Item) (n : ℕ) → length log ≤ n → moment log n ≡ last_state log
last_moment log n le = ap last_state (take_all n log le)

module _ (log : List Item) (count writes hi : ℕ) (done : Bool) (made same : ℕ) (mine : List ℕ) (j : Joined count writes hi done made same mine (IsGood log) (IsBad log)) (s : Stormy log j.all j.fails mine) where
  size : ℕ
  size = length log - 1

  size_is : 1 + size ≡ length log
  unfolding size
  size_is = let one = rooted_one log s.rooted in omega (arith, one)

  below_all : Each (λ (t : Took StormCall). t.at < 1 + suc size) j.all
  below_all = each_more (IsGood log) (λ t. t.at < 1 + suc size) j.all (λ t g. let w = g.within in let e = size_is in omega (arith, w, e)) s.good

  begun_all : Each (λ (t : Took StormCall). 1 ≤ t.at) j.all
  begun_all = each_more (IsGood log) (λ t. 1 ≤ t.at) j.all (λ t g. g.begun) s.good

  none_failed : (p : ℕ) → j.fails ≡ [] → times p (made_places j.fails) ≡ 0
  none_failed p none = ap (λ l. times p (made_places l)) none

  runs_whole : j.fails ≡ [] → Told (moment log 1) (last_state log) (CallsRun (calls_in (ordered size j.all)))
  runs_whole none =
      subst (λ (o : Option ReplicaState). Told (moment log 1) o (CallsRun (calls_in (ordered size j.all)))) (last_moment log (1 + size) (let e = size_is in omega (arith, e)))
      (runs_all CallActs (moment log) 1 size j.all (all_fit log j.all j.fails mine s)
      (λ q l h. let w = s.whole q l (let e = size_is in omega (arith, e, h)) in let p = s.places_are q in let z = none_failed q none in omega (arith, w, p, z))
      (adding_none (1 + size) j.all (let w = s.beyond (1 + size) (let e = size_is in omega (arith, e)) in let p = s.places_are (1 + size) in omega (arith, w, p))))

  pub storm_ends : done ≡ true → j.fails ≡ [] → Told (moment log 1) (last_state log) (StormEnds count writes (record { made = made; same = same }))
  storm_ends e none = told_as (CallsRun (calls_in (ordered size j.all))) (StormEnds count writes (record { made = made; same = same })) (λ a b run. record {
    calls = calls_in (ordered size j.all);
    interleaved = joined_whole count writes hi done made same mine (IsGood log) (IsBad log) j size below_all e;
    run = run;
    made_is = joined_made count writes hi done made same mine (IsGood log) (IsBad log) j size below_all e begun_all;
    same_is = joined_same count writes hi done made same mine (IsGood log) (IsBad log) j size below_all e begun_all;
  }) (moment log 1) (last_state log) (runs_whole none)

  pub storm_pauses : j.fails ≡ [] → Told (moment log 1) (last_state log) (StormPauses count writes)
  storm_pauses none = told_as (CallsRun (calls_in (ordered size j.all))) (StormPauses count writes) (λ a b run. record {
    calls = calls_in (ordered size j.all);
    interleaved = joined_part count writes hi done made same mine (IsGood log) (IsBad log) j size below_all;
    run = run;
  }) (moment log 1) (last_state log) (runs_whole none)

  -- with a call that failed
  module _ (f : Took StormCall) (fs : Tooks) (is : j.fails ≡ f ∷ fs) (b : IsBad log f) where
    near : ℕ
    near = f.at - 1

    near_is : 1 + near ≡ f.at
    unfolding near
    near_is = let o = b.begun in omega (arith, o)

    below_near : Each (λ (t : Took StormCall). t.at < 1 + suc near) j.all
    below_near = each_more (IsGood log) (λ t. t.at < 1 + suc near) j.all (λ t g. let h = good_before log j.all j.fails mine s f b t g in let e = near_is in omega (arith, h, e)) s.good

    runs_near : Told (moment log 1) (moment log f.at) (CallsRun (calls_in (ordered near j.all)))
    runs_near =
        subst (λ (n : ℕ). Told (moment log 1) (moment log n) (CallsRun (calls_in (ordered near j.all)))) near_is
        (runs_all CallActs (moment log) 1 near j.all (all_fit log j.all j.fails mine s)
        (λ q l h. one_before log j.all j.fails mine s f b q l (let e = near_is in omega (arith, e, h)))
        (adding_none (1 + near) j.all (ap (λ n. times n (made_places j.all)) near_is ∙ none_there log j.all j.fails mine s f fs is b)))

    fails_last : Told (moment log f.at) (last_state log) (CallFails f.call (Rose (root log).own (last log).own))
    fails_last =
        let all : take (suc f.at) log ≡ log = take_all (suc f.at) log (let n = last_place log j.all j.fails mine s f b in omega (arith, n)) in
        subst (λ (l : List Item). Told (moment log f.at) (last_state l) (CallFails f.call (Rose (root log).own (last l).own))) all (b.over.fails (open_at log j.all j.fails mine s f.at b.begun))

    pub storm_breaks : Told (moment log 1) (last_state log) (StormBreaks count writes (Rose (root log).own (last log).own))
    storm_breaks = told_in_turn (CallsRun (calls_in (ordered near j.all))) (CallFails f.call (Rose (root log).own (last log).own)) (StormBreaks count writes (Rose (root log).own (last log).own)) (λ x y z run fails. record {
      calls = calls_in (ordered near j.all);
      last = f.call;
      interleaved = joined_last count writes hi done made same mine (IsGood log) (IsBad log) j near below_near f fs is;
      mid = y;
      run = run;
      fails = fails;
    }) (moment log 1) (moment log f.at) (last_state log) runs_near fails_last

  -- the first call that failed, where the keeper has failed
  first_bad : (l : Tooks) → j.fails ≡ l → Each (IsBad log) l → has_halted log ≡ true → Told (moment log 1) (last_state log) (StormBreaks count writes (Rose (root log).own (last log).own))
  first_bad [] is b h = absurd (false≢true (sym (unhalted_all log j.all j.fails mine s is (rooted_one log s.rooted)) ∙ h))
  first_bad (f ∷ fs) is b h = storm_breaks f fs is b.0

  pub storm_broken : has_halted log ≡ true → Told (moment log 1) (last_state log) (StormBreaks count writes (Rose (root log).own (last log).own))
  storm_broken h = first_bad j.fails refl s.bad h

  no_bad : (l : Tooks) → Each (IsBad log) l → has_halted log ≡ false → l ≡ []
  no_bad [] b h = refl
  no_bad (f ∷ fs) b h = absurd (false≢true (sym h ∙ ap has_halted (sym (take_all (suc f.at) log (let n = last_place log j.all j.fails mine s f b.0 in omega (arith, n)))) ∙ b.0.over.halts))

  pub none_bad : has_halted log ≡ false → j.fails ≡ []
  none_bad h = no_bad j.fails s.bad h
