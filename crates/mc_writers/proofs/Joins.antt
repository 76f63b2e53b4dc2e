-- The calls of all writers of a storm, while their seats are joined, and put into one order.
use Rattle.std.proofs.Common.{◌≡◌, ◌≤◌, ◌<◌, ◌+◌, ◌*◌, ℕ, zero, suc, Bool, true, false, ◌&&◌, List, [], ◌∷◌, ◌++◌, length, map, refl, sym, ap, ◌∙◌, subst, arith, ne_eqb, append_assoc, append-nil}
use Rattle.std.specs.Prelude.{if◌then◌else◌}
use mathlib.Core.Logic.{dite}
use native.Mathlib.Decide.{ℕ_discrete, dec_le}
use Rattle.std.proofs.lemmas.Bool.{false≢true, le-leb, lt-leb}
use Rattle.std.proofs.lemmas.List.Elements.{filter-append}
use Rattle.mc_turn.specs.Lists.{places, times}
use Rattle.mc_turn.proofs.Lists.{times_append}
use Rattle.mc_writers.specs.Tooks.{Each, Took, IsRising, made_places, next_of}
use Rattle.mc_writers.specs.Writers.{IsOf, Tooks, WriterRan, calls_in, is_of, made_at, same_at}
use Rattle.mc_writers.specs.Gathers.{Joined, WriterMade, by}
use Rattle.mc_storm.specs.Interleavings.{IsInterleaving, IsPartOfOne, StormCall, Write, calls_by, calls_of, gets_same, is_by, made_in, puts_made, same_in, share_of}
use Rattle.mc_writers.proofs.Spread.{each_append, each_more, filter_all, filter_map, filter_none, filter_no, filter_yes, made_append, rising_later, rising_more, spread, spread_filter, spread_same, total_append, total_same}
use Rattle.mc_writers.proofs.WriterFacts.{total_in}

share_zero : (writes w : ℕ) → share_of 0 writes w ≡ 0
share_zero writes zero = refl
share_zero writes (suc w) = ap (λ b. if b then writes else 0) (lt-leb (suc w) 0 (omega arith))

pub joined_start : (writes hi : ℕ) (mine : List ℕ) (Good Bad : Took StormCall → Type 0) → mine ≡ [] → Joined 0 writes hi true 0 0 mine Good Bad
joined_start writes hi mine Good Bad none = record {
  all = [];
  fails = [];
  each = λ writer. record { rising = tt; writes = []; numbered = sym (ap (places 1) (share_zero writes writer)); part = ([], refl); whole = λ e. refl };
  places_are = λ p. ap (times p) none;
  made_is = λ e. refl;
  same_is = λ e. refl;
  made_most = omega arith;
  same_most = omega arith;
  good = tt;
  bad = tt;
}

share_own : (n writes : ℕ) → share_of (suc n) writes (suc n) ≡ writes
share_own n writes = ap (λ b. if b then writes else 0) (le-leb (suc n) (suc n) (omega arith))

share_none : (n writes : ℕ) → share_of n writes (suc n) ≡ 0
share_none n writes = ap (λ b. if b then writes else 0) (lt-leb (suc n) n (omega arith))

share_same : (n writes w : ℕ) → (w ≡ suc n → ⊥) → share_of (suc n) writes w ≡ share_of n writes w
share_same n writes zero ne = refl
share_same n writes (suc v) ne = dite (dec_le (suc v) n)
    (λ le. ap (λ b. if b then writes else 0) (le-leb (suc v) (suc n) (omega (arith, le))) ∙ sym (ap (λ b. if b then writes else 0) (le-leb (suc v) n le)))
    (λ gt. ap (λ b. if b then writes else 0) (lt-leb (suc v) (suc n) (omega (arith, gt, ne))) ∙ sym (ap (λ b. if b then writes else 0) (lt-leb (suc v) n (omega (arith, gt)))))

of_other : (w v : ℕ) → (w ≡ v → ⊥) → (t : Took StormCall) → IsOf v t → is_of w t ≡ false
of_other w v ne t e = dite (ℕ_discrete t.call.writer v) (λ is. ne_eqb t.call.writer w (λ f. ne (sym f ∙ is))) (λ un. absurd (false≢true (sym (ne_eqb t.call.writer v un) ∙ e)))

by_other : (w v : ℕ) → (w ≡ v → ⊥) → (all xs : Tooks) → Each (IsOf v) xs → by w (all ++ xs) ≡ by w all
by_other w v ne all xs of = filter-append (is_of w) all xs ∙ ap (λ l. by w all ++ l) (filter_none (is_of w) xs (each_more (IsOf v) (λ t. is_of w t ≡ false) xs (of_other w v ne) of)) ∙ append-nil (by w all)

by_own : (w : ℕ) (all xs : Tooks) → by w all ≡ [] → Each (IsOf w) xs → by w (all ++ xs) ≡ xs
by_own w all xs none of = filter-append (is_of w) all xs ∙ ap (λ l. l ++ by w xs) none ∙ filter_all (is_of w) xs of

no_writes : (writes : List Write) → map (λ (write : Write). write.number) writes ≡ [] → writes ≡ []
no_writes [] e = refl
no_writes (x ∷ xs) e = let h : suc (length (map (λ (write : Write). write.number) xs)) ≡ 0 = ap length e in absurd (omega (arith, h))

nothing_left : {A : Type 0} (xs ys : List A) → xs ++ ys ≡ [] → xs ≡ []
nothing_left [] ys e = refl
nothing_left (x ∷ xs) ys e = let h : suc (length (xs ++ ys)) ≡ 0 = ap length e in absurd (omega (arith, h))

nothing_right : {A : Type 0} (xs ys : List A) → xs ++ ys ≡ [] → ys ≡ []
nothing_right [] ys e = e
nothing_right (x ∷ xs) ys e = let h : suc (length (xs ++ ys)) ≡ 0 = ap length e in absurd (omega (arith, h))

no_calls : (xs : Tooks) → calls_in xs ≡ [] → xs ≡ []
no_calls [] e = refl
no_calls (x ∷ xs) e = let h : suc (length (calls_in xs)) ≡ 0 = ap length e in absurd (omega (arith, h))

none_made : (count writer hi : ℕ) (done : Bool) (tooks fails : Tooks) → count ≡ 0 → WriterMade count writer hi done tooks fails → (tooks ≡ []) × (fails ≡ [])
none_made count writer hi done tooks fails nought m =
    let none : calls_in tooks ++ calls_in fails ≡ [] = nothing_left (calls_in tooks ++ calls_in fails) m.part.0 (m.part.1 ∙ ap (calls_of writer) (no_writes m.writes (m.numbered ∙ ap (places 1) nought))) in
    (no_calls tooks (nothing_left (calls_in tooks) (calls_in fails) none), no_calls fails (nothing_right (calls_in tooks) (calls_in fails) none))

pub and_left : (a b : Bool) → (a && b) ≡ true → a ≡ true
and_left true b e = refl
and_left false b e = e

pub and_right : (a b : Bool) → (a && b) ≡ true → b ≡ true
and_right true b e = e
and_right false b e = absurd (false≢true e)

made_longer : (count writer hi high : ℕ) (done d : Bool) (tooks fails : Tooks) → hi ≤ high → (d ≡ true → done ≡ true) → WriterMade count writer hi done tooks fails → WriterMade count writer high d tooks fails
made_longer count writer hi high done d tooks fails le more m = record {
  rising = rising_more 1 hi high tooks le m.rising;
  writes = m.writes;
  numbered = m.numbered;
  part = m.part;
  whole = λ e. m.whole (more e);
}

pub joined_on : (n writes hi high lo mid : ℕ) (done d : Bool) (made same made' same' : ℕ) (mine mine' : List ℕ) (Good Bad Good' Bad' Good1 Bad1 : Took StormCall → Type 0)
    → Joined n writes hi done made same mine Good Bad → WriterRan (suc n) writes lo mid d made' same' mine' Good1 Bad1 → 1 ≤ lo → hi ≤ high → mid ≤ high
    → ((t : Took StormCall) → Good t → Good' t) → ((t : Took StormCall) → Bad t → Bad' t) → ((t : Took StormCall) → Good1 t → Good' t) → ((t : Took StormCall) → Bad1 t → Bad' t)
    → Joined (suc n) writes high (done && d) (made + made') (same + same') (mine ++ mine') Good' Bad'
joined_on n writes hi high lo mid done d made same made' same' mine mine' Good Bad Good' Bad' Good1 Bad1 j w low le mle g b g1 b1 = record {
  all = j.all ++ w.tooks;
  fails = j.fails ++ w.fails;
  each = λ writer. dite (ℕ_discrete writer (suc n)) (own writer) (other writer);
  places_are = λ p.
      let a = j.places_are p in let m = times_append p mine mine' in let c : times p mine' ≡ times p (made_places w.tooks ++ made_places w.fails) = ap (times p) w.places_are in
      let e = times_append p (made_places w.tooks) (made_places w.fails) in
      let f : times p (made_places (j.all ++ w.tooks)) ≡ times p (made_places j.all) + times p (made_places w.tooks) = ap (times p) (made_append j.all w.tooks) ∙ times_append p (made_places j.all) (made_places w.tooks) in
      let h : times p (made_places (j.fails ++ w.fails)) ≡ times p (made_places j.fails) + times p (made_places w.fails) = ap (times p) (made_append j.fails w.fails) ∙ times_append p (made_places j.fails) (made_places w.fails) in
      omega (arith, a, m, c, e, f, h);
  made_is = λ e. let a = j.made_is (and_left done d e) in let c = w.made_is (and_right done d e) in let t = total_append made_at j.all w.tooks in omega (arith, a, c, t);
  same_is = λ e. let a = j.same_is (and_left done d e) in let c = w.same_is (and_right done d e) in let t = total_append same_at j.all w.tooks in omega (arith, a, c, t);
  made_most = let a = j.made_most in let c = w.made_most in let e : suc n * writes ≡ n * writes + writes = grind arith in omega (arith, a, c, e);
  same_most = let a = j.same_most in let c = w.same_most in let e : suc n * writes ≡ n * writes + writes = grind arith in omega (arith, a, c, e);
  good = each_append Good' j.all w.tooks (each_more Good Good' j.all g j.good) (each_more Good1 Good' w.tooks g1 w.good);
  bad = each_append Bad' j.fails w.fails (each_more Bad Bad' j.fails b j.bad) (each_more Bad1 Bad' w.fails b1 w.bad);
}
  where
    own_made : WriterMade writes (suc n) (suc high) (done && d) w.tooks w.fails
    own_made = record {
      rising = rising_later lo 1 (suc high) w.tooks low (rising_more lo (suc mid) (suc high) w.tooks (omega (arith, mle)) w.rising);
      writes = w.writes;
      numbered = w.numbered;
      part = w.part;
      whole = λ e. w.whole (and_right done d e);
    }

    own_at : WriterMade (share_of (suc n) writes (suc n)) (suc n) (suc high) (done && d) (by (suc n) (j.all ++ w.tooks)) (by (suc n) (j.fails ++ w.fails))
    own_at =
        let none = none_made (share_of n writes (suc n)) (suc n) (suc hi) done (by (suc n) j.all) (by (suc n) j.fails) (share_none n writes) (j.each (suc n)) in
        brought none
      where
        brought : (by (suc n) j.all ≡ []) × (by (suc n) j.fails ≡ []) → WriterMade (share_of (suc n) writes (suc n)) (suc n) (suc high) (done && d) (by (suc n) (j.all ++ w.tooks)) (by (suc n) (j.fails ++ w.fails))
        brought none =
            subst (λ (l : Tooks). WriterMade (share_of (suc n) writes (suc n)) (suc n) (suc high) (done && d) (by (suc n) (j.all ++ w.tooks)) l) (sym (by_own (suc n) j.fails w.fails none.1 w.fails_of))
            (subst (λ (l : Tooks). WriterMade (share_of (suc n) writes (suc n)) (suc n) (suc high) (done && d) l w.fails) (sym (by_own (suc n) j.all w.tooks none.0 w.of_one))
            (subst (λ (c : ℕ). WriterMade c (suc n) (suc high) (done && d) w.tooks w.fails) (sym (share_own n writes)) own_made))

    own : (writer : ℕ) → writer ≡ suc n → WriterMade (share_of (suc n) writes writer) writer (suc high) (done && d) (by writer (j.all ++ w.tooks)) (by writer (j.fails ++ w.fails))
    own writer e = subst (λ (v : ℕ). WriterMade (share_of (suc n) writes v) v (suc high) (done && d) (by v (j.all ++ w.tooks)) (by v (j.fails ++ w.fails))) (sym e) own_at

    other : (writer : ℕ) → (writer ≡ suc n → ⊥) → WriterMade (share_of (suc n) writes writer) writer (suc high) (done && d) (by writer (j.all ++ w.tooks)) (by writer (j.fails ++ w.fails))
    other writer ne =
        subst (λ (l : Tooks). WriterMade (share_of (suc n) writes writer) writer (suc high) (done && d) (by writer (j.all ++ w.tooks)) l) (sym (by_other writer (suc n) ne j.fails w.fails w.fails_of))
        (subst (λ (l : Tooks). WriterMade (share_of (suc n) writes writer) writer (suc high) (done && d) l (by writer j.fails)) (sym (by_other writer (suc n) ne j.all w.tooks w.of_one))
        (subst (λ (c : ℕ). WriterMade c writer (suc high) (done && d) (by writer j.all) (by writer j.fails)) (sym (share_same n writes writer ne))
        (made_longer (share_of n writes writer) writer (suc hi) (suc high) done (done && d) (by writer j.all) (by writer j.fails) (omega (arith, le)) (and_left done d) (j.each writer))))

each_both : (P Q : Took StormCall → Type 0) (xs : Tooks) → Each P xs → Each Q xs → Each (λ t. P t × Q t) xs
each_both P Q [] a b = tt
each_both P Q (x ∷ xs) a b = ((a.0, b.0), each_both P Q xs a.1 b.1)

-- the calls in the order of their places, from the first place on over so many
abbrev pub ordered : ℕ → Tooks → Tooks
ordered n xs = spread 1 (suc n) xs

rising_within : (lo hi high : ℕ) (xs : Tooks) → Each (λ t. t.at < high) xs → IsRising lo hi xs → IsRising lo high xs
rising_within lo hi high [] a r = tt
rising_within lo hi high (t ∷ ts) a r = (r.0, a.0, rising_within (next_of t) hi high ts a.1 r.2)

each_by : (P : Took StormCall → Type 0) (w : ℕ) (xs : Tooks) → Each P xs → Each P (by w xs)
each_by P w [] a = tt
each_by P w (x ∷ xs) a = go (each_by P w xs a.1) (is_of w x) refl
  where
    go : Each P (by w xs) → (b : Bool) → is_of w x ≡ b → Each P (by w (x ∷ xs))
    go ih true e = subst (Each P) (sym (filter_yes (is_of w) x xs e)) (a.0, ih)
    go ih false e = subst (Each P) (sym (filter_no (is_of w) x xs e)) ih

-- read by writer, they are the writer's
read_by : (w n hi : ℕ) (all : Tooks) → Each (λ t. t.at < 1 + suc n) all → IsRising 1 hi (by w all) → calls_by w (calls_in (ordered n all)) ≡ calls_in (by w all)
read_by w n hi all below r =
    filter_map (λ (t : Took StormCall). t.call) (is_by w) (ordered n all)
    ∙ ap calls_in (spread_filter (is_of w) 1 (suc n) all ∙ spread_same 1 (suc n) (by w all) (rising_within 1 hi (1 + suc n) (by w all) (each_by (λ t. t.at < 1 + suc n) w all below) r))

module _ (count writes hi : ℕ) (done : Bool) (made same : ℕ) (mine : List ℕ) (Good Bad : Took StormCall → Type 0) (j : Joined count writes hi done made same mine Good Bad) (n : ℕ) (below : Each (λ t. t.at < 1 + suc n) j.all) where
  pub joined_part : IsPartOfOne count writes (calls_in (ordered n j.all))
  joined_part writer = let m = j.each writer in record {
    writes = m.writes;
    numbered = m.numbered;
    some_made = (calls_in (by writer j.fails) ++ m.part.0, ap (λ l. l ++ (calls_in (by writer j.fails) ++ m.part.0)) (read_by writer n (suc hi) j.all below m.rising) ∙ sym (append_assoc (calls_in (by writer j.all)) (calls_in (by writer j.fails)) m.part.0) ∙ m.part.1);
  }

  pub joined_whole : done ≡ true → IsInterleaving count writes (calls_in (ordered n j.all))
  joined_whole e writer = let m = j.each writer in record {
    writes = m.writes;
    numbered = m.numbered;
    all_made = read_by writer n (suc hi) j.all below m.rising ∙ m.whole e;
  }

  -- with the first one that failed
  first_fail : (writer : ℕ) (f : Took StormCall) (fs : Tooks) → calls_in (by writer (f ∷ fs)) ≡ calls_by writer (f.call ∷ []) ++ calls_in (by writer fs)
  first_fail writer f fs = go (is_of writer f) refl
    where
      go : (b : Bool) → is_of writer f ≡ b → calls_in (by writer (f ∷ fs)) ≡ calls_by writer (f.call ∷ []) ++ calls_in (by writer fs)
      go true e = ap calls_in (filter_yes (is_of writer) f fs e) ∙ sym (ap (λ l. l ++ calls_in (by writer fs)) (filter_yes (is_by writer) f.call [] e))
      go false e = ap calls_in (filter_no (is_of writer) f fs e) ∙ sym (ap (λ l. l ++ calls_in (by writer fs)) (filter_no (is_by writer) f.call [] e))

  pub joined_last : (f : Took StormCall) (fs : Tooks) → j.fails ≡ f ∷ fs → IsPartOfOne count writes (calls_in (ordered n j.all) ++ f.call ∷ [])
  joined_last f fs is writer = let m = j.each writer in record {
    writes = m.writes;
    numbered = m.numbered;
    some_made = (
      calls_in (by writer fs) ++ m.part.0,
      ap (λ l. l ++ (calls_in (by writer fs) ++ m.part.0)) (filter-append (is_by writer) (calls_in (ordered n j.all)) (f.call ∷ []) ∙ ap (λ l. l ++ calls_by writer (f.call ∷ [])) (read_by writer n (suc hi) j.all below m.rising))
          ∙ append_assoc (calls_in (by writer j.all)) (calls_by writer (f.call ∷ [])) (calls_in (by writer fs) ++ m.part.0)
          ∙ ap (λ l. calls_in (by writer j.all) ++ l) (sym (append_assoc (calls_by writer (f.call ∷ [])) (calls_in (by writer fs)) m.part.0) ∙ ap (λ l. l ++ m.part.0) (sym (first_fail writer f fs) ∙ ap (λ l. calls_in (by writer l)) (sym is)))
          ∙ sym (append_assoc (calls_in (by writer j.all)) (calls_in (by writer j.fails)) m.part.0) ∙ m.part.1,
    );
  }

  pub joined_made : done ≡ true → Each (λ t. 1 ≤ t.at) j.all → made ≡ puts_made (calls_in (ordered n j.all))
  joined_made e begun = j.made_is e ∙ sym (total_same made_at 1 (suc n) j.all (each_both (λ t. 1 ≤ t.at) (λ t. t.at < 1 + suc n) j.all begun below)) ∙ total_in made_in (ordered n j.all)

  pub joined_same : done ≡ true → Each (λ t. 1 ≤ t.at) j.all → same ≡ gets_same (calls_in (ordered n j.all))
  joined_same e begun = j.same_is e ∙ sym (total_same same_at 1 (suc n) j.all (each_both (λ t. 1 ≤ t.at) (λ t. t.at < 1 + suc n) j.all begun below)) ∙ total_in same_in (ordered n j.all)
