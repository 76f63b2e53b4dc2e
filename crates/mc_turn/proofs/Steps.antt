-- Each step on a turn's table keeps the rule.
use Rattle.std.proofs.Common.{◌≡◌, ℕ, zero, suc, ◌+◌, ◌-◌, ◌<◌, ◌≤◌, eqb, ◌≢◌, true≢false, List, [], ◌∷◌, ◌++◌, length, get_or, set, sym, refl, ap, ◌∙◌, subst, inl, inr, ⊎_elim, Option, Some, None, is_none, unwrap_or, arith, append-nil, append_assoc, eq-eqb, ne_eqb}
use mathlib.Core.Option.{some}
use mathlib.Core.Option as maybe
use mathlib.Core.Logic.{dite}
use native.Mathlib.Decide.{ℕ_discrete, dec_lt}
use lib.ListN.{get_elem?}
use lib.Seq.{set-get_or}
use prog.Atomic.{either}
use Rattle.atomic_table.specs.Table.{State, Me, step, keeps, takes, gives, stepped, opening, rest, put_back, Allows, Splits, Joins, Final, Seen}
use Rattle.atomic_table.proofs.Lists.{at_set, set_again, set_else, at_snoc, at_longer}
use Rattle.mc_turn.specs.declared.view.View.{View}
use Rattle.mc_turn.specs.Lists.{Begins, longer_of, places, shorter_of, times, total}
use Rattle.mc_turn.specs.Views.{first_view, left_view, right_view, joined_view, learned_view, glimpse_view, spent_view, sight_in, IsGlimpse, noted_view, held_view, KnowsPlaces, Extends, IsTaken}
use Rattle.mc_turn.specs.Rule.{parts_of, times_of, IsHeldBy, FitsView, FollowsRule}
use Rattle.mc_turn.specs.Steps.{tries, publishes, releases, looks}
use Rattle.mc_turn.proofs.Lists.{begins_self, begins_nil, begins_trans, begins_length, begins_both, longer_begins, shorter_begins, total_set, total_snoc, total_least, total_one, times_append, times_below, times_within, times_beyond}

module _ {A : Type 0} where
  pub not_both : (o : Option A) (x : A) → o ≡ None → ¬ (o ≡ Some x)
  not_both o x a b = true≢false (sym (ap is_none a) ∙ ap is_none b)

  pub one_some : (o : Option A) (x y : A) → o ≡ Some x → o ≡ Some y → x ≡ y
  one_some o x y a b = ap (λ z. unwrap_or z x) (sym a ∙ b)

  total_same : (f : A → ℕ) (vs : List A) (j : ℕ) (v w : A) → get_elem? vs j ≡ some v → f w ≡ f v → total f (set vs j w) ≡ total f vs
  total_same f vs j v w at e = let h = total_set f vs j v w at in omega arith

abbrev value_or : {T : Type 0} → T → List (ℕ × Option T) → T
value_or x [] = x
value_or x (y ∷ ys) = unwrap_or y.1 x

one_out : {T : Type 0} (x y : T) → ◌≡◌ {A = List (ℕ × Option T)} ((0, Some x) ∷ []) ((0, Some y) ∷ []) → x ≡ y
one_out x y e = ap (value_or x) e

module _ {A : Type 0} where
  pub set_there : (vs : List A) (j : ℕ) (v w : A) → get_elem? vs j ≡ some v → get_elem? (set vs j w) j ≡ some w
  set_there [] j v w e = absurd (maybe.some-ne-none v (sym e))
  set_there (x ∷ xs) zero v w e = refl
  set_there (x ∷ xs) (suc j) v w e = set_there xs j v w e

-- the holder stays where a view keeps what it holds
holder_set : {E : Type 0} (log : List E) (vs : List (View E)) (by j : ℕ) (v w : View E) → get_elem? vs j ≡ some v → w.held ≡ v.held → IsHeldBy log vs by → IsHeldBy log (set vs j w) by
holder_set log vs by j v w at same h = dite (ℕ_discrete by j)
    (λ here. let one : h.0 ≡ v = maybe.some-injective h.0 v (sym h.1 ∙ (ap (get_elem? vs) here ∙ at)) in (w, ap (get_elem? (set vs j w)) here ∙ set_there vs j v w at, same ∙ (ap (λ x. x.held) (sym one) ∙ h.2)))
    (λ other. (h.0, set_else vs j by w other ∙ h.1, h.2))

module _ {T E : Type 0} (story : T → List E) (base : ℕ) where
  abbrev V : Type 0
  V = View E

  abbrev St : Type 0
  St = State (Option T) V

  abbrev M : Type 0
  M = Me (Option T) V

  abbrev Rule : St → Type 0
  Rule = FollowsRule story base

  seats_stay : (K : ℕ → V → Type 0) (vs : List V) (me : ℕ) (w : V) → K me w → ((j : ℕ) (d : V) → j ≢ me → get_elem? vs j ≡ some d → K j d) → (j : ℕ) (d : V) → get_elem? (set vs me w) j ≡ some d → K j d
  seats_stay K vs me w mine others j d e = ⊎_elim (λ (t : (j ≡ me) × (w ≡ d)). subst (λ (x : ℕ × V). K x.0 x.1) (λ i. (sym t.0 i, t.1 i)) mine)
      (λ (t : (j ≢ me) × (get_elem? vs j ≡ some d)). others j d t.0 t.1) (at_set vs me j w d e)

  -- what a seat knows of its places at any moment
  learns : (s : St) (r : Rule s) (id : ℕ) (v : V) → get_elem? s.views id ≡ some v → KnowsPlaces v (length r.log)
  learns s r id v at = record {
    below = λ p h. let a = r.after p h in let b = total_least (times_of p) s.views id v at in omega arith;
    once = λ p. let b = total_least (times_of p) s.views id v at in
        elim (dec_lt p base) [
          | yes d ↦ let a = r.before p d in omega arith
          | no d ↦ elim (dec_lt p (length r.log)) [ yes e ↦ let a = r.within p (omega arith) e in omega arith | no e ↦ let a = r.after p (omega arith) in omega arith ]
        ];
    grown = λ all. let f = r.each id v at in let same : v.base ≡ base = f.begun (omega (arith, all)) in let a = r.started in omega arith;
    early = λ all p l. let f = r.each id v at in let same : v.base ≡ base = f.begun (omega (arith, all)) in let a = r.before p (omega arith) in let b = total_least (times_of p) s.views id v at in omega arith;
    whole = λ all p l h. let f = r.each id v at in let same : v.base ≡ base = f.begun (omega (arith, all)) in let a = r.within p (omega arith) h in
        sym (total_one parts_of (times_of p) s.views id v at (λ j u e z. ap (times p) ((r.each j u e).bare z)) (r.shares ∙ sym all)) ∙ a;
  }

  -- a step that changes no list
  turned : (s : St) (r : Rule s) (id : ℕ) (v w : V) (ws : List ℕ) (hs : List (maybe.Option (Option T))) (word by : ℕ)
      → get_elem? s.views id ≡ some v → w.mine ≡ v.mine → w.parts ≡ v.parts → ws ≡ word ∷ length r.log ∷ []
      → (word ≡ 0 → (x : T) × (hs ≡ some (Some x) ∷ []) × (story x ≡ r.log)) → (word ≢ 0 → (word ≡ 1) × (hs ≡ maybe.none ∷ [])) → (word ≢ 0 → IsHeldBy r.log (set s.views id w) by)
      → FitsView base by word r.log id w → ((j : ℕ) (d : V) → j ≢ id → get_elem? s.views j ≡ some d → FitsView base by word r.log j d)
      → Rule record { words = ws; homes = hs; views = set s.views id w }
  turned s r id v w ws hs word by at mine parts words free taken holder own others =
      let same : (p : ℕ) → total (times_of p) (set s.views id w) ≡ total (times_of p) s.views = λ p. total_same (times_of p) s.views id v w at (ap (times p) mine) in record {
        log = r.log;
        word = word;
        by = by;
        words = words;
        free = free;
        taken = taken;
        holder = holder;
        started = r.started;
        each = seats_stay (FitsView base by word r.log) s.views id w own others;
        shares = total_same parts_of s.views id v w at parts ∙ r.shares;
        before = λ p h. same p ∙ r.before p h;
        within = λ p l h. same p ∙ r.within p l h;
        after = λ p h. same p ∙ r.after p h;
      }

  first_word : (s : St) (r : Rule s) → get_or s.words 0 0 ≡ r.word
  first_word s r = ap (λ ws. get_or ws 0 0) r.words

  second_word : (s : St) (r : Rule s) → get_or s.words 1 0 ≡ length r.log
  second_word s r = ap (λ ws. get_or ws 1 0) r.words

  pub look_step : (slots id : ℕ) (me : M) → Allows Rule slots id me 1 (λ n. n) (looks (step slots 1 0 0 maybe.none) me)
  look_step slots id me s r _ at _ = let f = r.each id me.0 at in let n = second_word s r in (
    me.0,
    keeps,
    tt,
    (let e : stepped s 1 (get_or s.words 1 0) id me.1 me.0 keeps ≡ s = λ i. record { words = set-get_or s.words 1 0 i; homes = s.homes; views = set_again s.views id me.0 at i } in subst Rule (sym e) r),
    (refl, (let l = begins_length me.0.seen r.log f.seen in omega arith), (λ h. begins_both me.0.shorter me.0.seen r.log f.shorter f.seen h), subst (λ k. KnowsPlaces me.0 k) (sym n) (learns s r id me.0 at)),
  )

  pub try_step : (slots id : ℕ) (me : M) → 0 < me.0.parts → Allows Rule slots id me 0 (λ n. either (eqb n 0) 1 n) (tries story (step slots 0 0 1 maybe.none) me)
  try_step slots id me some_part s r _ at _ = let v = me.0 in let n : ℕ = get_or s.words 0 0 in let same = first_word s r in let f = r.each id v at in dite (ℕ_discrete n 0)
      (λ hit. let none_yet : r.word ≡ 0 = sym same ∙ hit in let home = r.free none_yet in let x = home.0 in
      let idle : v.held ≡ None = ⊎_elim (λ none. none) (λ t. absurd (let one = t.2 in omega arith)) f.held in
      let w : V = held_view v (0 ∷ []) (story x) in (
        w,
        takes 0 (Some x),
        ap (λ hs. get_elem? hs 0) home.1,
        subst (λ b. Rule (stepped s 0 (either b 1 n) id me.1 w (takes 0 (Some x)))) (sym (eq-eqb n 0 hit))
            (turned s r id v w (set s.words 0 1) (set s.homes 0 maybe.none) 1 id at refl refl (ap (λ ws. set ws 0 1) r.words) (λ z. absurd (omega arith)) (λ _. (refl, ap (λ hs. set hs 0 maybe.none) home.1)) (λ _. (w, set_there s.views id v w at, ap Some home.2))
            record { seen = f.seen; shorter = f.shorter; begun = f.begun; bare = λ z. absurd (omega arith); held = inr (ap Some home.2, refl, refl) }
            (λ j d other e. let g = r.each j d e in
            record { seen = g.seen; shorter = g.shorter; begun = g.begun; bare = g.bare; held = ⊎_elim inl (λ t. absurd (let one = t.2 in omega arith)) g.held })),
        (
          (λ _. (x, refl, refl, record { seen = subst (Begins v.seen) (sym home.2) f.seen; idle = idle; known = subst (λ l. KnowsPlaces v (length l)) (sym home.2) (learns s r id v at) })),
          λ miss. absurd (miss hit),
        ),
      ))
      (λ miss. let w : V = noted_view v (n ∷ []) in (
        w,
        keeps,
        tt,
        subst (λ b. Rule (stepped s 0 (either b 1 n) id me.1 w keeps)) (sym (ne_eqb n 0 miss))
            (turned s r id v w (set s.words 0 n) s.homes r.word r.by at refl refl (set-get_or s.words 0 0 ∙ r.words) r.free r.taken (λ not. holder_set r.log s.views r.by id v w at refl (r.holder not))
            record { seen = f.seen; shorter = f.shorter; begun = f.begun; bare = λ z. absurd (omega arith); held = f.held } (λ j d _ e. r.each j d e)),
        ((λ hit. absurd (miss hit)), λ _. (same ∙ (r.taken (λ z. miss (same ∙ z))).0, refl)),
      ))

  -- the seat that holds is the one that the rule names, and has its list
  holder : (s : St) (r : Rule s) (id : ℕ) (v : V) (old : List E) → get_elem? s.views id ≡ some v → v.held ≡ Some old → (old ≡ r.log) × (id ≡ r.by) × (r.word ≡ 1)
  holder s r id v old at is = ⊎_elim (λ none. absurd (not_both v.held old none is)) (λ t. (one_some v.held old r.log is t.0, t.1, t.2)) ((r.each id v at).held)

  idle_else : (s : St) (r : Rule s) (id j : ℕ) (d : V) → id ≡ r.by → j ≢ id → get_elem? s.views j ≡ some d → d.held ≡ None
  idle_else s r id j d own other e = ⊎_elim (λ none. none) (λ t. absurd (other (t.1 ∙ sym own))) ((r.each j d e).held)

  pub release_step : (slots id : ℕ) (me : M) (x : T) → 0 < me.0.parts → me.0.held ≡ Some (story x) → me.1 ≡ (0, Some x) ∷ [] → Allows Rule slots id me 0 (λ _. 0) (λ _. releases story (step slots 0 0 0 maybe.none) me 0)
  release_step slots id me x some_part is out s r _ at _ = let v = me.0 in let f = r.each id v at in let h = holder s r id v (story x) at is in
      let w : V = record v { held = None; seen = story x } in let home = (r.taken (let one = h.2 in omega arith)).1 in (
        w,
        gives,
        tt,
        turned s r id v w (set s.words 0 0) (put_back s.homes me.1) 0 r.by at refl refl (ap (λ ws. set ws 0 0) r.words)
            (λ _. (x, ap (put_back s.homes) out ∙ ap (λ hs. set hs 0 (some (Some x))) home, h.0)) (λ not. absurd (not refl)) (λ not. absurd (not refl))
            record { seen = subst (Begins (story x)) h.0 (begins_self (story x)); shorter = f.shorter; begun = f.begun; bare = λ z. absurd (omega arith); held = inl refl }
            (λ j d other e. let g = r.each j d e in record { seen = g.seen; shorter = g.shorter; begun = g.begun; bare = g.bare; held = inl (idle_else s r id j d h.1 other e) }),
        λ log is'. let same : story x ≡ log = one_some v.held (story x) log is is' in λ i. (record v { held = None; seen = same i }, rest (out i)),
      )

  pub publish_step : (slots id : ℕ) (me : M) (old : List E) (x : T) (n : ℕ) → n ≡ length (story x) → me.0.held ≡ Some old → me.1 ≡ (0, Some x) ∷ [] → Begins old (story x) → 0 < me.0.parts
      → Allows Rule slots id me 1 (λ _. n) (λ _. publishes story (step slots 1 n 0 maybe.none) me n)
  publish_step slots id me old x n long is out more some_part s r _ at _ = let v = me.0 in let f = r.each id v at in let h = holder s r id v old at is in
      let new : List E = story x in let k : ℕ = length new - length old in let w : V = record v { held = Some new; mine = v.mine ++ places (length old) k } in
      let more' : Begins r.log new = subst (λ l. Begins l new) h.0 more in let l : length old ≡ length r.log = ap length h.0 in let g : length r.log ≤ length new = begins_length r.log new more' in
      let sums : (p : ℕ) → total (times_of p) (set s.views id w) ≡ total (times_of p) s.views + times p (places (length old) k) = λ p.
      let a = total_set (times_of p) s.views id v w at in let b = times_append p v.mine (places (length old) k) in omega arith in (
        w,
        keeps,
        tt,
        record {
          log = new;
          word = r.word;
          by = r.by;
          words = ap (λ ws. set ws 1 n) r.words ∙ ap (λ m. r.word ∷ m ∷ []) long;
          free = λ z. absurd (let one = h.2 in omega arith);
          taken = r.taken;
          holder = λ _. (w, ap (get_elem? (set s.views id w)) (sym h.1) ∙ set_there s.views id v w at, refl);
          started = let a = r.started in omega arith;
          each = seats_stay (FitsView base r.by r.word new) s.views id w
              record { seen = begins_trans v.seen r.log new f.seen more'; shorter = begins_trans v.shorter r.log new f.shorter more'; begun = f.begun; bare = λ z. absurd (omega arith); held = inr (refl, h.1, h.2) }
              (λ j d other e. let g = r.each j d e in
              record { seen = begins_trans d.seen r.log new g.seen more'; shorter = begins_trans d.shorter r.log new g.shorter more'; begun = g.begun; bare = g.bare; held = inl (idle_else s r id j d h.1 other e) });
          shares = total_same parts_of s.views id v w at refl ∙ r.shares;
          before = λ p b. let a = r.started in let c = r.before p b in let t = times_below p (length old) k (omega arith) in sums p ∙ omega arith;
          within = λ p b c. elim (dec_lt p (length r.log)) [
            | yes d ↦ let a = r.within p b d in let t = times_below p (length old) k (omega arith) in sums p ∙ omega arith
            | no d ↦ let a = r.after p (omega arith) in let t = times_within p (length old) k (omega arith) (omega arith) in sums p ∙ omega arith
          ];
          after = λ p b. let a = r.after p (omega arith) in let t = times_beyond p (length old) k (omega arith) in sums p ∙ omega arith;
        },
        λ old' x' is' out'. let same : old ≡ old' = one_some v.held old old' is is' in let same' : x ≡ x' = one_out x x' (sym out ∙ out') in
            λ i. (record v { held = Some (story (same' i)); mine = v.mine ++ places (length (same i)) (length (story (same' i)) - length (same i)) }, me.1),
      )

  pub split_step : (id : ℕ) (v : V) → 1 < v.parts → Splits Rule id v (left_view v) (right_view v)
  split_step id v enough s r at = let f = r.each id v at in let w : V = left_view v in let u : V = right_view v in let vs : List V = set s.views id w in
      let same : (p : ℕ) → total (times_of p) (vs ++ u ∷ []) ≡ total (times_of p) s.views = λ p.
      let a = total_same (times_of p) s.views id v w at refl in let b = total_snoc (times_of p) vs u in omega arith in record {
        log = r.log;
        word = r.word;
        by = r.by;
        words = r.words;
        free = r.free;
        taken = r.taken;
        holder = λ not. let t = holder_set r.log s.views r.by id v w at refl (r.holder not) in (t.0, at_longer vs (u ∷ []) r.by t.0 t.1, t.2);
        started = r.started;
        each = λ j d e. ⊎_elim
            (seats_stay (FitsView base r.by r.word r.log) s.views id w record { seen = f.seen; shorter = f.shorter; begun = λ _. f.begun (omega arith); bare = λ z. absurd (omega arith); held = f.held } (λ j d _ e. r.each j d e) j d)
            (λ (t : u ≡ d). subst (FitsView base r.by r.word r.log j) t record { seen = f.seen; shorter = begins_nil r.log; begun = λ _. f.begun (omega arith); bare = λ z. absurd (omega arith); held = inl refl })
            (at_snoc vs u d j e);
        shares = let a = total_set parts_of s.views id v w at in let b = total_snoc parts_of vs u in let c = r.shares in omega arith;
        before = λ p h. same p ∙ r.before p h;
        within = λ p l h. same p ∙ r.within p l h;
        after = λ p h. same p ∙ r.after p h;
      }

  -- the seat stays, and a view without parts is there
  pub glimpse_step : (id : ℕ) (v : V) → Splits Rule id v v (glimpse_view v.seen)
  glimpse_step id v s r at = let f = r.each id v at in let u : V = glimpse_view v.seen in let vs : List V = set s.views id v in
      let same : (p : ℕ) → total (times_of p) (vs ++ u ∷ []) ≡ total (times_of p) s.views = λ p.
      let a = total_same (times_of p) s.views id v v at refl in let b = total_snoc (times_of p) vs u in omega arith in record {
        log = r.log;
        word = r.word;
        by = r.by;
        words = r.words;
        free = r.free;
        taken = r.taken;
        holder = λ not. let t = holder_set r.log s.views r.by id v v at refl (r.holder not) in (t.0, at_longer vs (u ∷ []) r.by t.0 t.1, t.2);
        started = r.started;
        each = λ j d e. ⊎_elim
            (seats_stay (FitsView base r.by r.word r.log) s.views id v f (λ j d _ e. r.each j d e) j d)
            (λ (t : u ≡ d). subst (FitsView base r.by r.word r.log j) t record { seen = f.seen; shorter = begins_nil r.log; begun = λ z. absurd (omega arith); bare = λ _. refl; held = inl refl })
            (at_snoc vs u d j e);
        shares = let a = total_set parts_of s.views id v v at in let b = total_snoc parts_of vs u in let c = r.shares in omega arith;
        before = λ p h. same p ∙ r.before p h;
        within = λ p l h. same p ∙ r.within p l h;
        after = λ p h. same p ∙ r.after p h;
      }

  pub join_step : (id : ℕ) (v : V) (other : ℕ) (u : V) → 0 < v.parts → u.held ≡ None → Joins Rule id v other u (joined_view v u) spent_view
  join_step id v other u some_part idle s r at apart there = let w : V = joined_view v u in let vs : List V = set s.views id w in let f = r.each id v at in
      let g = r.each other u (sym (set_else s.views id other w apart) ∙ there) in
      let same : (p : ℕ) → total (times_of p) (set vs other spent_view) ≡ total (times_of p) s.views = λ p.
      let a = total_set (times_of p) s.views id v w at in let b = total_set (times_of p) vs other u spent_view there in let c = times_append p v.mine u.mine in omega arith in record {
        log = r.log;
        word = r.word;
        by = r.by;
        words = r.words;
        free = r.free;
        taken = r.taken;
        holder = λ not. holder_set r.log vs r.by other u spent_view there (sym idle) (holder_set r.log s.views r.by id v w at refl (r.holder not));
        started = r.started;
        each = seats_stay (FitsView base r.by r.word r.log) vs other spent_view record { seen = begins_nil r.log; shorter = begins_nil r.log; begun = λ h. absurd (omega arith); bare = λ _. refl; held = inl refl }
            (λ j d _. seats_stay (FitsView base r.by r.word r.log) s.views id w
            record { seen = longer_begins v.seen u.seen r.log f.seen g.seen; shorter = shorter_begins v.seen u.seen r.log f.seen g.seen; begun = λ _. f.begun some_part; bare = λ z. absurd (omega arith); held = f.held }
            (λ j d _ e. r.each j d e) j d);
        shares = let a = total_set parts_of s.views id v w at in let b = total_set parts_of vs other u spent_view there in let c = r.shares in omega arith;
        before = λ p h. same p ∙ r.before p h;
        within = λ p l h. same p ∙ r.within p l h;
        after = λ p h. same p ∙ r.after p h;
      }

pub opens : {T E : Type 0} (story : T → List E) (x : T) (n : ℕ) → n ≡ length (story x) → FollowsRule story (length (story x)) (opening (0 ∷ n ∷ []) (Some x ∷ []) (first_view (story x)))
opens {T} {E} story x n long = record {
  log = story x;
  word = 0;
  by = 0;
  words = ap (λ (m : ℕ). 0 ∷ m ∷ []) long;
  free = λ _. (x, refl, refl);
  taken = λ not. absurd (not refl);
  holder = λ not. absurd (not refl);
  started = omega arith;
  each = λ j v e. ⊎_elim (λ (none : get_elem? [] j ≡ some v). absurd (maybe.some-ne-none v (sym none)))
      (λ (t : first_view (story x) ≡ v). subst (FitsView (length (story x)) 0 0 (story x) j) t record { seen = begins_self (story x); shorter = begins_nil (story x); begun = λ _. refl; bare = λ z. absurd (omega arith); held = inl refl })
      (at_snoc [] (first_view (story x)) v j e);
  shares = omega arith;
  before = λ p h. refl;
  within = λ p l h. absurd (omega arith);
  after = λ p h. refl;
}

pub extends_some : {E : Type 0} (o : Option (List E)) (new : List E) → Extends o new → (old : List E) × (o ≡ Some old) × Begins old new
extends_some None new h = absurd h
extends_some (Some old) new h = (old, refl, h)

pub opens_as : {T E : Type 0} (story : T → List E) (x y : T) (n : ℕ) (items : List (Option T)) → y ≡ x → n ≡ length (story x) → items ≡ Some x ∷ []
    → FollowsRule story (length (story y)) (opening (0 ∷ n ∷ []) items (first_view (story y)))
opens_as story x y n items same long e = subst (λ (z : List (Option _)). FollowsRule story (length (story y)) (opening (0 ∷ n ∷ []) z (first_view (story y)))) (sym e)
    (subst (λ z. FollowsRule story (length (story z)) (opening (0 ∷ n ∷ []) (Some x ∷ []) (first_view (story z)))) (sym same) (opens story x n long))

module _ {T E : Type 0} (story : T → List E) (base id : ℕ) (v : View E) where
  -- at the end, where word 0 is 0
  pub ends : (ws : List ℕ) (xs : List (Option T)) → Final (Seen (FollowsRule story base) id v) ws xs → get_elem? ws 0 ≡ some 0
      → (x : T) × (get_elem? xs 0 ≡ some (Some x)) × IsTaken v (story x)
  ends ws xs f free = let s = f.0 in let r = f.1.0 in let at = f.1.1 in
      let none : r.word ≡ 0 = maybe.some-injective r.word 0 (ap (λ (l : List ℕ). get_elem? l 0) (sym r.words ∙ f.2) ∙ free) in let home = r.free none in (
        home.0,
        f.4 0 (Some home.0) (ap (λ hs. get_elem? hs 0) home.1),
        record {
          seen = subst (Begins v.seen) (sym home.2) ((r.each id v at).seen);
          idle = ⊎_elim (λ idle. idle) (λ t. absurd (let one = t.2 in omega arith)) ((r.each id v at).held);
          known = subst (λ l. KnowsPlaces v (length l)) (sym home.2) (learns story base s r id v at);
        },
      )

-- a glimpse has one view, so what it is joined as is learned alone
abbrev first_of : {E : Type 0} → View E → List (View E) → View E
first_of d [] = d
first_of d (v ∷ vs) = v

pub glimpse_is : {E : Type 0} (views : List (View E)) (u : View E) → IsGlimpse views → views ≡ u ∷ [] → u ≡ glimpse_view (sight_in views)
glimpse_is views u one is = ap (first_of u) (sym is ∙ one)

pub learned_by : {E : Type 0} (v u w : View E) (seen : List E) → u ≡ glimpse_view seen → w ≡ joined_view v u → w ≡ learned_view v seen
learned_by {E} v u w seen is joined = let none : v.parts + 0 ≡ v.parts = omega arith in let F : View E → View E = λ x. joined_view v x in
    joined ∙ (ap F is ∙ (λ i. record { seen = longer_of v.seen seen; shorter = shorter_of v.seen seen; mine = append-nil v.mine i; tried = v.tried; parts = none i; base = v.base; held = v.held }))

-- one word more is noted
pub noted : {E : Type 0} (v u w : View E) (words : List ℕ) (word : ℕ) → u ≡ noted_view v words → w ≡ noted_view u (word ∷ []) → w ≡ noted_view v (words ++ word ∷ [])
noted {E} v u w words word a b = let F : View E → View E = λ x. noted_view x (word ∷ []) in let G : List ℕ → View E = λ l. record v { tried = l } in
    b ∙ (ap F a ∙ ap G (append_assoc v.tried words (word ∷ [])))
