-- What a storm's writers have called so far: one writer's calls at their places, and those of all writers.
use Rattle.std.proofs.Common.{◌≡◌, ◌≤◌, ◌<◌, ◌+◌, ◌-◌, ℕ, zero, suc, Bool, true, false, ◌&&◌, List, [], ◌∷◌, ◌++◌, map, refl, sym, ap, ◌∙◌, arith, append_assoc, append-nil}
use Rattle.std.proofs.lemmas.Bool.{false≢true}
use Rattle.std.proofs.lemmas.List.{map-append}
use Rattle.mc_turn.specs.Lists.{places, total}
use Rattle.mc_storm.specs.Interleavings.{StormCall, Write, calls_of, made_in, one_if, same_in}
use Rattle.mc_writers.specs.Tooks.{Each, Took, IsRising, made_places, next_of}
use Rattle.mc_writers.specs.Writers.{IsOf, Tooks, WriteGoes, WriterRan, calls_in, made_at, same_at}
use Rattle.mc_writers.proofs.Spread.{each_append, each_more, made_append, rising_append, rising_more, total_append}

-- so many writes of a writer are done
pub record IsWriting (writer count lo hi made same : ℕ) (mine : List ℕ) (Good : Took StormCall → Type 0) : Type 0 where
  pub tooks : Tooks
  pub of_one : Each (IsOf writer) tooks
  pub rising : IsRising lo (suc hi) tooks
  pub ends : Each (λ t. next_of t ≤ hi) tooks
  pub writes : List Write
  pub numbered : map (λ write. write.number) writes ≡ places 1 count
  pub calls : calls_in tooks ≡ calls_of writer writes
  pub places_are : mine ≡ made_places tooks
  pub made_is : made ≡ total made_at tooks
  pub same_is : same ≡ total same_at tooks
  pub made_most : made ≤ count
  pub same_most : same ≤ count
  pub good : Each Good tooks
  pub low : lo ≤ hi

places_add : (first n m : ℕ) → places first (n + m) ≡ places first n ++ places (first + n) m
places_add first zero m = let e : first ≡ first + 0 = omega arith in let z : 0 + m ≡ m = omega arith in ap (places first) z ∙ ap (λ f. places f m) e
places_add first (suc n) m =
    let e : suc n + m ≡ suc (n + m) = omega arith in let f : suc first + n ≡ first + suc n = omega arith in
    ap (places first) e ∙ ap (λ l. first ∷ l) (places_add (suc first) n m ∙ ap (λ g. places (suc first) n ++ places g m) f)

pub calls_append : (writer : ℕ) (xs ys : List Write) → calls_of writer (xs ++ ys) ≡ calls_of writer xs ++ calls_of writer ys
calls_append writer [] ys = refl
calls_append writer (x ∷ xs) ys = ap (λ l. record { writer = writer; gets = false; write = x } ∷ record { writer = writer; gets = true; write = x } ∷ l) (calls_append writer xs ys)

-- writes that were not made
pub unmade : ℕ → ℕ → List Write
unmade first zero = []
unmade first (suc n) = record { number = first; made = false; same = false } ∷ unmade (suc first) n

pub unmade_numbers : (first n : ℕ) → map (λ (write : Write). write.number) (unmade first n) ≡ places first n
unfolding unmade
unmade_numbers first zero = refl
unmade_numbers first (suc n) = ap (λ l. first ∷ l) (unmade_numbers (suc first) n)

pub total_in : (f : StormCall → ℕ) (xs : Tooks) → total (λ (t : Took StormCall). f t.call) xs ≡ total f (calls_in xs)
total_in f [] = refl
total_in f (x ∷ xs) = ap (λ n. f x.call + n) (total_in f xs)

total_calls : (f : StormCall → ℕ) (writer : ℕ) (write : Write) (xs : Tooks) → calls_in xs ≡ calls_of writer (write ∷ [])
    → total (λ (t : Took StormCall). f t.call) xs ≡ f (record { writer = writer; gets = false; write = write }) + f (record { writer = writer; gets = true; write = write })
total_calls f writer write xs e = let h = total_in f xs ∙ ap (total f) e in omega (arith, h)

pub writing_start : (writer lo : ℕ) (mine : List ℕ) (Good : Took StormCall → Type 0) → mine ≡ [] → IsWriting writer 0 lo lo 0 0 mine Good
writing_start writer lo mine Good none = record {
  tooks = [];
  of_one = tt;
  rising = tt;
  ends = tt;
  writes = [];
  numbered = refl;
  calls = refl;
  places_are = none;
  made_is = refl;
  same_is = refl;
  made_most = omega arith;
  same_most = omega arith;
  good = tt;
  low = omega arith;
}

one_most : (b : Bool) → one_if b ≤ 1
one_most true = omega arith
one_most false = omega arith

pub writing_on : (writer count lo mid hi made same : ℕ) (mine : List ℕ) (m s : Bool) (more : List ℕ) (Good Good' Bad : Took StormCall → Type 0)
    → IsWriting writer count lo mid made same mine Good → WriteGoes writer (suc count) mid hi true m s more Good' Bad → ((t : Took StormCall) → Good t → Good' t)
    → IsWriting writer (suc count) lo hi (made + one_if m) (same + one_if (m && s)) (mine ++ more) Good'
writing_on writer count lo mid hi made same mine m s more Good Good' Bad w g keeps = record {
  tooks = w.tooks ++ g.tooks;
  of_one = each_append (IsOf writer) w.tooks g.tooks w.of_one g.of_one;
  rising = let l = w.low in let k = g.low in rising_append lo mid (suc hi) w.tooks g.tooks l w.ends (rising_more lo (suc mid) (suc hi) w.tooks (omega (arith, k)) w.rising) g.rising;
  ends = each_append (λ t. next_of t ≤ hi) w.tooks g.tooks (each_more (λ t. next_of t ≤ mid) (λ t. next_of t ≤ hi) w.tooks (λ t e. let k = g.low in omega (arith, e, k)) w.ends) g.ends;
  writes = w.writes ++ g.write ∷ [];
  numbered = map-append (λ (write : Write). write.number) w.writes (g.write ∷ []) ∙ ap (λ l. l ++ g.write.number ∷ []) w.numbered ∙ ap (λ n. places 1 count ++ n ∷ []) g.numbered
      ∙ (let e : 1 + count ≡ suc count = omega arith in ap (λ n. places 1 count ++ n ∷ []) (sym e)) ∙ sym (places_add 1 count 1) ∙ (let e : count + 1 ≡ suc count = omega arith in ap (places 1) e);
  calls = map-append (λ (t : Took StormCall). t.call) w.tooks g.tooks ∙ (λ i. w.calls i ++ g.whole refl i) ∙ sym (calls_append writer w.writes (g.write ∷ []));
  places_are = (λ i. w.places_are i ++ g.places_are i) ∙ ap (λ l. made_places w.tooks ++ (made_places g.tooks ++ made_places l)) (g.unfailed refl) ∙ ap (λ l. made_places w.tooks ++ l) (append-nil (made_places g.tooks)) ∙ sym (made_append w.tooks g.tooks);
  made_is = let a = w.made_is in let b = total_append made_at w.tooks g.tooks in
      let c : total made_at g.tooks ≡ one_if m + 0 = total_calls made_in writer g.write g.tooks (g.whole refl) ∙ ap (λ b. one_if b + 0) (g.made_is refl) in omega (arith, a, b, c);
  same_is = let a = w.same_is in let b = total_append same_at w.tooks g.tooks in
      let c : total same_at g.tooks ≡ 0 + one_if (m && s) = total_calls same_in writer g.write g.tooks (g.whole refl) ∙ (λ i. 0 + one_if (g.made_is refl i && g.same_is refl i)) in omega (arith, a, b, c);
  made_most = let a = w.made_most in let b = one_most m in omega (arith, a, b);
  same_most = let a = w.same_most in let b = one_most (m && s) in omega (arith, a, b);
  good = each_append Good' w.tooks g.tooks (each_more Good Good' w.tooks keeps w.good) g.good;
  low = let a = w.low in let b = g.low in omega (arith, a, b);
}

pub writing_ends : (writer count lo hi made same : ℕ) (mine : List ℕ) (Good Bad : Took StormCall → Type 0) → IsWriting writer count lo hi made same mine Good → WriterRan writer count lo hi true made same mine Good Bad
writing_ends writer count lo hi made same mine Good Bad w = record {
  tooks = w.tooks;
  fails = [];
  of_one = w.of_one;
  fails_of = tt;
  rising = w.rising;
  writes = w.writes;
  numbered = w.numbered;
  part = ([], append-nil (calls_in w.tooks ++ []) ∙ append-nil (calls_in w.tooks) ∙ w.calls);
  whole = λ e. w.calls;
  places_are = w.places_are ∙ sym (append-nil (made_places w.tooks));
  made_is = λ e. w.made_is;
  same_is = λ e. w.same_is;
  made_most = w.made_most;
  same_most = w.same_most;
  good = w.good;
  bad = tt;
}

pub writing_stops : (writer count all lo mid hi made same : ℕ) (mine : List ℕ) (m s : Bool) (more : List ℕ) (Good Good' Bad : Took StormCall → Type 0)
    → IsWriting writer count lo mid made same mine Good → WriteGoes writer (suc count) mid hi false m s more Good' Bad → count < all → ((t : Took StormCall) → Good t → Good' t)
    → WriterRan writer all lo hi false made same (mine ++ more) Good' Bad
writing_stops writer count all lo mid hi made same mine m s more Good Good' Bad w g below keeps = record {
  tooks = w.tooks ++ g.tooks;
  fails = g.fails;
  of_one = each_append (IsOf writer) w.tooks g.tooks w.of_one g.of_one;
  fails_of = g.fails_of;
  rising = let l = w.low in let k = g.low in rising_append lo mid (suc hi) w.tooks g.tooks l w.ends (rising_more lo (suc mid) (suc hi) w.tooks (omega (arith, k)) w.rising) g.rising;
  writes = w.writes ++ (g.write ∷ rest);
  numbered = map-append (λ (write : Write). write.number) w.writes (g.write ∷ rest) ∙ (λ i. w.numbered i ++ (g.numbered i ∷ unmade_numbers (suc (suc count)) (all - suc count) i))
      ∙ (let e : 1 + count ≡ suc count = omega arith in ap (λ n. places 1 count ++ places n (suc (all - suc count))) (sym e)) ∙ sym (places_add 1 count (suc (all - suc count)))
      ∙ (let e : count + suc (all - suc count) ≡ all = omega (arith, below) in ap (places 1) e);
  part = (
    g.part.0 ++ calls_of writer rest,
    ap (λ l. (l ++ calls_in g.fails) ++ (g.part.0 ++ calls_of writer rest)) (map-append (λ (t : Took StormCall). t.call) w.tooks g.tooks)
        ∙ ap (λ l. l ++ (g.part.0 ++ calls_of writer rest)) (append_assoc (calls_in w.tooks) (calls_in g.tooks) (calls_in g.fails))
        ∙ append_assoc (calls_in w.tooks) (calls_in g.tooks ++ calls_in g.fails) (g.part.0 ++ calls_of writer rest)
        ∙ ap (λ l. calls_in w.tooks ++ l) (sym (append_assoc (calls_in g.tooks ++ calls_in g.fails) g.part.0 (calls_of writer rest)) ∙ ap (λ l. l ++ calls_of writer rest) g.part.1 ∙ sym (calls_append writer (g.write ∷ []) rest))
        ∙ ap (λ l. l ++ calls_of writer (g.write ∷ rest)) w.calls ∙ sym (calls_append writer w.writes (g.write ∷ rest)),
  );
  whole = λ e. absurd (false≢true e);
  places_are = (λ i. w.places_are i ++ g.places_are i) ∙ sym (append_assoc (made_places w.tooks) (made_places g.tooks) (made_places g.fails)) ∙ ap (λ l. l ++ made_places g.fails) (sym (made_append w.tooks g.tooks));
  made_is = λ e. absurd (false≢true e);
  same_is = λ e. absurd (false≢true e);
  made_most = let a = w.made_most in omega (arith, a, below);
  same_most = let a = w.same_most in omega (arith, a, below);
  good = each_append Good' w.tooks g.tooks (each_more Good Good' w.tooks keeps w.good) g.good;
  bad = g.bad;
}
  where
    rest : List Write
    rest = unmade (suc (suc count)) (all - suc count)
