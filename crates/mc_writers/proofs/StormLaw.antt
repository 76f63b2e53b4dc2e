-- The calls of all writers, in the order of their places, are a storm.
use Rattle.std.proofs.Common.{◌≡◌, ◌≤◌, ◌<◌, ◌+◌, ℕ, zero, suc, Bool, true, false, ◌||◌, cond, eq-eqb, ◌⊎◌, inl, inr, List, [], ◌∷◌, length, take, Option, refl, sym, ap, ◌∙◌, subst, arith}
use mathlib.Core.Logic.{dite}
use native.Mathlib.Decide.{ℕ_discrete, dec_le}
use Rattle.std.proofs.lemmas.Bool.{false≢true}
use Rattle.std.proofs.lemmas.List.{take_all}
use Rattle.mc_turn.specs.Lists.{times}
use Rattle.mc_core.specs.Events.{ReplicaState}
use Rattle.mc_node.specs.declared.note.Note.{Note}
use Rattle.mc_node.specs.declared.note.Note.TheVariants.{Root, Made, Heard, Fetched, Walked, Cleared, Halted}
use Rattle.mc_storm.specs.Interleavings.{StormCall}
use Rattle.mc_node.specs.Items.{Item, has_halted, has_note, is_halt, is_root, is_rooted, is_sealed, last_state}
use Rattle.mc_storm.specs.Storms.{CallActs}
use Rattle.mc_writers.specs.Tooks.{Each, Took, made_places, next_of, places_if, width}
use Rattle.mc_writers.specs.Writers.{IsBad, IsGood, Tooks}
use Rattle.mc_writers.proofs.Chains.{Fits}
use Rattle.mc_writers.proofs.Spread.{AddsAlone, adding_one, addings, each_more}

abbrev pub moment : List Item → ℕ → Option ReplicaState
moment log p = last_state (take p log)

or_no : (a b : Bool) → a ≡ false → b ≡ false → (a || b) ≡ false
or_no a b e f = (λ i. e i || b) ∙ f

root_is : (test : Note → Bool) → test (Root true) ≡ false → test (Root false) ≡ false → (note : Note) → is_root note ≡ true → test note ≡ false
root_is test a b (Root true) r = a
root_is test a b (Root false) r = b
root_is test a b Made r = absurd (false≢true r)
root_is test a b Heard r = absurd (false≢true r)
root_is test a b Fetched r = absurd (false≢true r)
root_is test a b Walked r = absurd (false≢true r)
root_is test a b Cleared r = absurd (false≢true r)
root_is test a b Halted r = absurd (false≢true r)

-- the root alone is none of these
first_only : (test : Note → Bool) (log : List Item) → is_rooted log ≡ true → test (Root true) ≡ false → test (Root false) ≡ false → has_note test (take 1 log) ≡ false
first_only test [] r a b = absurd (false≢true r)
first_only test (item ∷ items) r a b = or_no (test item.note) false (root_is test a b item.note r) refl

one_of : (a b : ℕ) → a + b ≡ 1 → (a ≡ 1) ⊎ (b ≡ 1)
one_of a b e = dite (ℕ_discrete a 1) (λ f. inl f) (λ ne. inr (omega (arith, e, ne)))

first_same : (p : ℕ) (log : List Item) → 1 ≤ p → is_sealed log ≡ false → is_sealed (take p log) ≡ false
first_same zero log one e = absurd (omega (arith, one))
first_same (suc p) [] one e = e
first_same (suc p) (item ∷ items) one e = e

-- what the joined seat knows of a log, and the calls of all writers
pub record Stormy (log : List Item) (all fails : Tooks) (mine : List ℕ) : Type 0 where
  pub rooted : is_rooted log ≡ true
  pub unsealed : is_sealed log ≡ false
  pub whole : (p : ℕ) → 1 ≤ p → p < length log → times p mine ≡ 1
  pub beyond : (p : ℕ) → length log ≤ p → times p mine ≡ 0
  pub places_are : (p : ℕ) → times p mine ≡ times p (made_places all) + times p (made_places fails)
  pub good : Each (IsGood log) all
  pub bad : Each (IsBad log) fails

module _ (log : List Item) (all fails : Tooks) (mine : List ℕ) (s : Stormy log all fails mine) where
  -- the entry at each place is that of one call
  whose : (p : ℕ) → 1 ≤ p → p < length log → AddsAlone (IsGood log) p all ⊎ AddsAlone (IsBad log) p fails
  whose p one lt = go (one_of (times p (made_places all)) (times p (made_places fails)) (sym (s.places_are p) ∙ s.whole p one lt))
    where
      go : (times p (made_places all) ≡ 1) ⊎ (times p (made_places fails) ≡ 1) → AddsAlone (IsGood log) p all ⊎ AddsAlone (IsBad log) p fails
      go (inl e) = inl (adding_one (IsGood log) p all s.good e)
      go (inr e) = inr (adding_one (IsBad log) p fails s.bad e)

  next_is : (t : Took StormCall) (p : ℕ) → t.at ≡ p → t.adds ≡ true → next_of t ≡ suc p
  next_is t p e a = let w : width t.adds ≡ 1 = ap width a in omega (arith, e, w)

  -- no part of it is sealed
  pub open_at : (p : ℕ) → 1 ≤ p → is_sealed (take p log) ≡ false
  open_at p one = first_same p log one s.unsealed

  within_of : (at : ℕ) (adds : Bool) → at + width adds ≤ length log → at ≤ length log
  within_of at adds le = omega (arith, le)

  pub all_fit : Each (Fits CallActs (moment log)) all
  all_fit = each_more (IsGood log) (Fits CallActs (moment log)) all (λ t g. g.over.acts (open_at t.at g.begun)) s.good

  -- none has failed where no call did
  unhalted : fails ≡ [] → (p : ℕ) → suc p ≤ length log → has_halted (take (suc p) log) ≡ false
  unhalted none zero le = first_only is_halt log s.rooted refl refl
  unhalted none (suc p) le = go (whose (suc p) (omega arith) (omega (arith, le)))
    where
      go : AddsAlone (IsGood log) (suc p) all ⊎ AddsAlone (IsBad log) (suc p) fails → has_halted (take (suc (suc p)) log) ≡ false
      go (inl a) = subst (λ (n : ℕ). has_halted (take n log) ≡ false) (next_is a.one (suc p) a.there a.adding) a.holds.over.open_after
      go (inr a) = let h : suc (length {A = Took StormCall} []) ≡ length (addings (suc p) fails) = sym (ap length a.alone) in let k : length (addings (suc p) fails) ≡ 0 = ap (λ l. length (addings (suc p) l)) none in absurd (omega (arith, h, k))

  pub unhalted_all : fails ≡ [] → 1 ≤ length log → has_halted log ≡ false
  unhalted_all none one = go (length log) refl one
    where
      go : (n : ℕ) → length log ≡ n → 1 ≤ n → has_halted log ≡ false
      go zero e o = absurd (omega (arith, o))
      go (suc n) e o = ap has_halted (sym (take_all (suc n) log (omega (arith, e)))) ∙ unhalted none n (omega (arith, e))

  -- a call that failed is the last one
  pub last_place : (f : Took StormCall) → IsBad log f → length log ≡ suc f.at
  last_place f b = dite (dec_le (length log) (suc f.at)) (λ le. let w = b.within in omega (arith, le, w)) (λ gt. let lt : suc f.at < length log = omega (arith, gt) in absurd (more lt (whose (suc f.at) (omega arith) lt)))
    where
      more : suc f.at < length log → AddsAlone (IsGood log) (suc f.at) all ⊎ AddsAlone (IsBad log) (suc f.at) fails → ⊥
      more lt (inl a) = false≢true (sym (ap (λ n. has_halted (take n log)) (sym a.there) ∙ a.holds.over.open_before) ∙ b.over.halts)
      more lt (inr a) = false≢true (sym (ap (λ n. has_halted (take n log)) (sym a.there) ∙ a.holds.over.open_before) ∙ b.over.halts)

  -- and every other one is at a place before its own, or at that
  pub good_before : (f : Took StormCall) → IsBad log f → (t : Took StormCall) → IsGood log t → t.at < suc f.at
  good_before f b t g = dite (dec_le (suc f.at) t.at)
      (λ le. let n = last_place f b in absurd (false≢true (sym g.over.open_before ∙ ap has_halted (take_all t.at log (omega (arith, n, le)) ∙ sym (take_all (suc f.at) log (omega (arith, n)))) ∙ b.over.halts)))
      (λ gt. omega (arith, gt))

  -- its place is of none but calls that failed
  pub none_there : (f : Took StormCall) (fs : Tooks) → fails ≡ f ∷ fs → IsBad log f → times f.at (made_places all) ≡ 0
  none_there f fs is b =
      let n = last_place f b in let o = b.begun in
      let w : times f.at mine ≡ 1 = s.whole f.at o (omega (arith, n)) in let p = s.places_are f.at in
      let e : times f.at (made_places fails) ≡ times f.at (f.at ∷ made_places fs) = ap (λ l. times f.at (made_places l)) is ∙ ap (λ c. times f.at (places_if c f.at (made_places fs))) b.adding in
      let one : times f.at (f.at ∷ made_places fs) ≡ 1 + times f.at (made_places fs) = ap (λ c. cond {A = ℕ} c 1 0 + times f.at (made_places fs)) (eq-eqb f.at f.at refl) in
      omega (arith, w, p, e, one)

  pub one_before : (f : Took StormCall) → IsBad log f → (p : ℕ) → 1 ≤ p → p < f.at → times p (made_places all) ≡ 1
  one_before f b p one lt =
      let n = last_place f b in let h : p < length log = omega (arith, n, lt) in
      go (one_of (times p (made_places all)) (times p (made_places fails)) (sym (s.places_are p) ∙ s.whole p one h))
    where
      go : (times p (made_places all) ≡ 1) ⊎ (times p (made_places fails) ≡ 1) → times p (made_places all) ≡ 1
      go (inl e) = e
      go (inr e) = let a = adding_one (IsBad log) p fails s.bad e in let m = last_place a.one a.holds in let n = last_place f b in let t = a.there in absurd (omega (arith, m, n, t, lt))
