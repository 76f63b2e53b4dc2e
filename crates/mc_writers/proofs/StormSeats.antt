-- What a storm's calls are for a seat, and one write of it.
use Rattle.std.proofs.Common.{◌≡◌, ◌≤◌, ◌+◌, ◌-◌, ℕ, suc, Bool, true, false, ◌⊎◌, inl, inr, List, [], ◌∷◌, ◌++◌, length, map, take, Option, Some, None, Result, Ok, Err, refl, sym, ap, ◌∙◌, subst, arith, append-nil, append_assoc, length-append}
use Rattle.std.specs.Prelude.{is_some, if◌then◌else◌}
use Rattle.std.proofs.lemmas.Bool.{false≢true}
use Rattle.std.proofs.lemmas.List.{map-append, length-map, take-append-le}
use Rattle.std.proofs.Math.Seq.{take-append_seam}
use Rattle.mc_turn.specs.declared.view.View.{View}
use Rattle.mc_turn.specs.Lists.{Begins, places}
use Rattle.mc_turn.proofs.Lists.{begins_length, begins_self, begins_trans}
use Rattle.mc_keep.specs.Causes.{Kind, Refusal, Fault, Shortage}
use Rattle.mc_core.specs.declared.CoreError.{CoreError}
use Rattle.mc_core.specs.declared.CoreError.TheVariants.{BadKey, ValueTooLong, BlockTooLarge, PriorityFull, Clash, KeeperFault, Stopped, BadCast, NoBatch, BatchOpen, Memory}
use Rattle.mc_core.specs.declared.Written.{Written}
use Rattle.mc_core.specs.Refusals.{kind_of}
use Rattle.mc_node.specs.declared.node.Seen.{Seen}
use Rattle.mc_node.specs.declared.note.Note.{Note}
use Rattle.mc_node.specs.declared.note.Note.TheVariants.{Halted, Made}
use Rattle.mc_storm.specs.Interleavings.{StormCall}
use Rattle.mc_node.specs.Items.{Item, Shown, is_first, root}
use Rattle.mc_node.specs.Moves.{PutDoes, with_entry}
use Rattle.mc_storm.specs.Storms.{is_block_refusal, is_bytes, storm_key, storm_value}
use Rattle.mc_writers.specs.Tooks.{Took, made_places, next_of, places_if, width}
use Rattle.mc_node.specs.Views.{Turned}
use Rattle.mc_writers.specs.Writers.{BadOver, GoodOver, IsBad, IsGood, SeatGoes, WriteGoes, WritesOnce, end_of_put}
use Rattle.mc_writers.proofs.StormWays.{goes_broken, goes_failed, goes_half, goes_nothing, goes_whole}
use Rattle.mc_writers.proofs.StormTurns.{GetDoes, get_failed, get_given, get_nothing, put_failed, put_made, put_nothing, put_unmade}

take_begun : {A : Type 0} (xs ys : List A) → Begins xs ys → take (length xs) ys ≡ xs
take_begun xs ys b = ap (take (length xs)) (sym b.1) ∙ take-append_seam xs b.0

-- a good call stays one while the log grows
take_longer : {A : Type 0} (n : ℕ) (xs ys : List A) → Begins xs ys → n ≤ length xs → take n ys ≡ take n xs
take_longer n xs ys b le = ap (take n) (sym b.1) ∙ take-append-le n xs b.0 le

pub first_longer : (test : Note → Bool) (xs ys : List Item) → Begins xs ys → 1 ≤ length xs → is_first test ys ≡ is_first test xs
first_longer test [] ys b one = absurd (omega (arith, one))
first_longer test (x ∷ xs) ys b one = ap (is_first test) (sym b.1)

pub root_longer : (xs ys : List Item) → Begins xs ys → 1 ≤ length xs → root ys ≡ root xs
root_longer [] ys b one = absurd (omega (arith, one))
root_longer (x ∷ xs) ys b one = ap root (sym b.1)

pub good_longer : (old new : List Item) → Begins old new → (t : Took StormCall) → IsGood old t → IsGood new t
good_longer old new b t g = let l = begins_length old new b in let w = g.within in record {
  begun = g.begun;
  within = omega (arith, l, w);
  over = subst (λ (x : List Item). GoodOver t.call x (take (next_of t) new)) (sym (take_longer t.at old new b (at_most t.at t.adds w)))
      (subst (λ (x : List Item). GoodOver t.call (take t.at old) x) (sym (take_longer (next_of t) old new b w)) g.over);
}
  where
    at_most : (at : ℕ) (adds : Bool) → at + width adds ≤ length old → at ≤ length old
    at_most at adds le = omega (arith, le)

pub bad_longer : (old new : List Item) → Begins old new → (t : Took StormCall) → IsBad old t → IsBad new t
bad_longer old new b t g = let l = begins_length old new b in let w = g.within in let one = g.begun in record {
  begun = g.begun;
  within = omega (arith, l, w);
  adding = g.adding;
  over = subst (λ (r : Shown). BadOver t.call r (take t.at new) (take (suc t.at) new)) (sym (root_longer old new b (omega (arith, w, one))))
      (subst (λ (x : List Item). BadOver t.call (root old) x (take (suc t.at) new)) (sym (take_longer t.at old new b (omega (arith, w))))
      (subst (λ (x : List Item). BadOver t.call (root old) (take t.at old) x) (sym (take_longer (suc t.at) old new b w)) g.over));
}

good_at : (call : StormCall) (adds : Bool) (old new : List Item) → 1 ≤ length old → Begins old new → length new ≡ length old + width adds → GoodOver call old new
    → IsGood new (record { call = call; at = length old; adds = adds })
good_at call adds old new one b n g = record {
  begun = one;
  within = omega (arith, n);
  over = subst (λ (x : List Item). GoodOver call x (take (length old + width adds) new)) (sym (take_begun old new b))
      (subst (λ (m : ℕ). GoodOver call old (take m new)) n (subst (λ (x : List Item). GoodOver call old x) (sym (take_begun new new (begins_self new))) g));
}

bad_at : (call : StormCall) (old new : List Item) → 1 ≤ length old → Begins old new → length new ≡ suc (length old) → BadOver call (root old) old new
    → IsBad new (record { call = call; at = length old; adds = true })
bad_at call old new one b n g = record {
  begun = one;
  within = omega (arith, n);
  adding = refl;
  over = subst (λ (r : Shown). BadOver call r (take (length old) new) (take (suc (length old)) new)) (sym (root_longer old new b one))
      (subst (λ (x : List Item). BadOver call (root old) x (take (suc (length old)) new)) (sym (take_begun old new b))
      (subst (λ (m : ℕ). BadOver call (root old) old (take m new)) n (subst (λ (x : List Item). BadOver call (root old) old x) (sym (take_begun new new (begins_self new))) g)));
}

entry_more : (old new : List Item) (note : Note) (now : Shown) → new ≡ with_entry old note now → length new ≡ suc (length old)
entry_more old new note now e = let h = ap length e ∙ length-append old (record { note = note; shown = now } ∷ []) in omega (arith, h)

module _ {E : Type 0} (item : E → Item) where
  abbrev pub items_in : List E → List Item
  items_in log = map item log

  pub begins_items : (xs ys : List E) → Begins xs ys → Begins (items_in xs) (items_in ys)
  begins_items xs ys b = (items_in b.0, sym (map-append item xs b.0) ∙ ap items_in b.1)

  -- a call that was noted by its place, or was not
  pub record CallTook (before after : View E) (t : Took StormCall) : Type 0 where
    pub seat : SeatGoes before after (made_places (t ∷ []))
    pub good : IsGood (items_in after.seen) t
    pub low : length before.seen ≤ t.at
    pub next : next_of t ≡ length after.seen

  pub record CallFailed (before after : View E) (t : Took StormCall) : Type 0 where
    pub seat : SeatGoes before after (made_places (t ∷ []))
    pub bad : IsBad (items_in after.seen) t
    pub low : length before.seen ≤ t.at

  module _ (before after : View E) (P : List E → List E → Type 0) (turned : Turned before after P) where
    taken_length : length (items_in turned.taken) ≡ length turned.taken
    taken_length = length-map turned.taken item

    after_length : length (items_in after.seen) ≡ length after.seen
    after_length = length-map after.seen item

    seat_goes : (more : List ℕ) → places (length turned.taken) (length after.seen - length turned.taken) ≡ more → SeatGoes before after more
    seat_goes more e = record {
      grown = begins_trans before.seen turned.taken after.seen turned.known.seen turned.extends;
      mine_more = turned.mine ∙ ap (λ l. before.mine ++ l) e;
      parts_same = turned.parts_same;
      base_same = turned.base_same;
    }

    taken_low : length before.seen ≤ length turned.taken
    taken_low = begins_length before.seen turned.taken turned.known.seen

    added : (adds : Bool) → length (items_in after.seen) ≡ length (items_in turned.taken) + width adds
        → places (length turned.taken) (length after.seen - length turned.taken) ≡ places_if adds (length (items_in turned.taken)) []
    added true n = let a = taken_length in let b = after_length in let d : length after.seen - length turned.taken ≡ 1 = omega (arith, n, a, b) in
        ap (places (length turned.taken)) d ∙ ap (λ m. m ∷ []) (sym a)
    added false n = let a = taken_length in let b = after_length in let d : length after.seen - length turned.taken ≡ 0 = omega (arith, n, a, b) in
        ap (places (length turned.taken)) d

    pub call_took : (call : StormCall) (adds : Bool) → 1 ≤ length before.seen → length (items_in after.seen) ≡ length (items_in turned.taken) + width adds
        → GoodOver call (items_in turned.taken) (items_in after.seen) → CallTook before after (record { call = call; at = length (items_in turned.taken); adds = adds })
    call_took call adds one n g = let a = taken_length in let b = after_length in let l = taken_low in record {
      seat = seat_goes _ (added adds n);
      good = good_at call adds (items_in turned.taken) (items_in after.seen) (omega (arith, a, l, one)) (begins_items turned.taken after.seen turned.extends) n g;
      low = omega (arith, a, l);
      next = omega (arith, n, b);
    }

    pub call_failed : (call : StormCall) → 1 ≤ length before.seen → length (items_in after.seen) ≡ suc (length (items_in turned.taken))
        → BadOver call (root (items_in turned.taken)) (items_in turned.taken) (items_in after.seen) → CallFailed before after (record { call = call; at = length (items_in turned.taken); adds = true })
    call_failed call one n g = let a = taken_length in let l = taken_low in record {
      seat = seat_goes _ (added true (let h : length (items_in after.seen) ≡ length (items_in turned.taken) + 1 = omega (arith, n) in h));
      bad = bad_at call (items_in turned.taken) (items_in after.seen) (omega (arith, a, l, one)) (begins_items turned.taken after.seen turned.extends) n g;
      low = omega (arith, a, l);
    }

    pub call_nothing : items_in after.seen ≡ items_in turned.taken → SeatGoes before after []
    call_nothing e = let n : length (items_in after.seen) ≡ length (items_in turned.taken) + 0 = (let h = ap length e in omega (arith, h)) in seat_goes [] (added false n)

  pub seat_on : (a b c : View E) (m n : List ℕ) → SeatGoes a b m → SeatGoes b c n → SeatGoes a c (m ++ n)
  seat_on a b c m n x y = record {
    grown = begins_trans a.seen b.seen c.seen x.grown y.grown;
    mine_more = y.mine_more ∙ ap (λ l. l ++ n) x.mine_more ∙ append_assoc a.mine m n;
    parts_same = y.parts_same ∙ x.parts_same;
    base_same = y.base_same ∙ x.base_same;
  }

  -- a put, by its answer
  abbrev pub PutTurn : ℕ → ℕ → Result Written CoreError → View E → View E → Type 0
  PutTurn writer number result before after = Turned before after (λ old new. PutDoes (storm_key writer) (storm_value number) result (items_in old) (items_in new))

  abbrev pub GetTurn : ℕ → Result (Seen (Option (List ℕ))) CoreError → View E → View E → Type 0
  GetTurn writer result before after = Turned before after (λ old new. GetDoes writer result (items_in old) (items_in new))

  abbrev pub put_of : ℕ → ℕ → Bool → Bool → StormCall
  put_of writer number made same = record { writer = writer; gets = false; write = record { number = number; made = made; same = same } }

  abbrev pub get_of : ℕ → ℕ → Bool → Bool → StormCall
  get_of writer number made same = record { writer = writer; gets = true; write = record { number = number; made = made; same = same } }

  pub record PutTook (writer number : ℕ) (made same : Bool) (before after : View E) : Type 0 where
    pub at : ℕ
    pub took : CallTook before after (record { call = put_of writer number made same; at = at; adds = made })

  pub put_took : (writer number : ℕ) (result : Result Written CoreError) (made same : Bool) (before after : View E) → 1 ≤ length before.seen → PutTurn writer number result before after
      → end_of_put result ≡ Some made → PutTook writer number made same before after
  put_took writer number (Ok written) true same before after one t e = record {
    at = _;
    took = call_took before after _ t (put_of writer number true same) true one (let h = entry_more (items_in t.taken) (items_in after.seen) Made t.fits.after t.fits.notes in omega (arith, h)) (put_made writer number same written (items_in t.taken) (items_in after.seen) t.fits);
  }
  put_took writer number (Ok written) false same before after one t e = absurd (false≢true (sym (ap truth e)))
    where
      truth : Option Bool → Bool
      truth None = false
      truth (Some b) = b
  put_took writer number (Err error) made same before after one t e = by_kind made (is_block_refusal error) refl e
    where
      truth : Option Bool → Bool
      truth None = true
      truth (Some b) = b

      by_kind : (made b : Bool) → is_block_refusal error ≡ b → (if is_block_refusal error then Some false else None) ≡ Some made → PutTook writer number made same before after
      by_kind true true is e = absurd (false≢true (ap truth (sym (ap (λ (c : Bool). if c then Some false else None) is) ∙ e)))
      by_kind false true is e =
          let p = put_unmade writer number same error (items_in t.taken) (items_in after.seen) is t.fits in record {
            at = _;
            took = call_took before after _ t (put_of writer number false same) false one (let h = ap length p.0 in omega (arith, h))
                (subst (λ (l : List Item). GoodOver (put_of writer number false same) (items_in t.taken) l) (sym p.0) p.1);
          }
      by_kind made false is e = absurd (false≢true (ap is_some (sym (ap (λ (c : Bool). if c then Some false else None) is) ∙ e)))

  -- a put or a get at which a writer ends: it failed, or nothing came of it
  pub record CallStopped (writer number : ℕ) (gets made : Bool) (before after : View E) (more : List ℕ) : Type 0 where
    pub seat : SeatGoes before after more
    pub why : (more ≡ []) ⊎ ((at : ℕ) × (more ≡ at ∷ []) × IsBad (items_in after.seen) (record { call = record { writer = writer; gets = gets; write = record { number = number; made = made; same = false } }; at = at; adds = true }))

  put_broke : (writer number : ℕ) (before after : View E) → 1 ≤ length before.seen → PutTurn writer number (Err KeeperFault) before after → (more : List ℕ) × CallStopped writer number false false before after more
  put_broke writer number before after one t =
      let p = put_failed writer number (record { number = number; made = false; same = false }) (items_in t.taken) (items_in after.seen) refl t.fits in
      let c = call_failed before after _ t (put_of writer number false false) one (entry_more (items_in t.taken) (items_in after.seen) Halted p.0.0 p.0.1) p.1 in
      (length (items_in t.taken) ∷ [], record { seat = c.seat; why = inr (length (items_in t.taken), refl, c.bad) })

  put_silent : (writer number : ℕ) (error : CoreError) (before after : View E) → (kind_of error ≡ Fault → ⊥) → PutTurn writer number (Err error) before after → (more : List ℕ) × CallStopped writer number false false before after more
  put_silent writer number error before after isnt t = ([], record { seat = call_nothing before after _ t (put_nothing (storm_key writer) (storm_value number) error (items_in t.taken) (items_in after.seen) isnt t.fits); why = inl refl })

  get_broke : (writer number : ℕ) (made : Bool) (before after : View E) → 1 ≤ length before.seen → GetTurn writer (Err KeeperFault) before after → (more : List ℕ) × CallStopped writer number true made before after more
  get_broke writer number made before after one t =
      let p = get_failed writer (record { number = number; made = made; same = false }) (items_in t.taken) (items_in after.seen) t.fits in
      let c = call_failed before after _ t (get_of writer number made false) one (entry_more (items_in t.taken) (items_in after.seen) Halted p.0.0 p.0.1) p.1 in
      (length (items_in t.taken) ∷ [], record { seat = c.seat; why = inr (length (items_in t.taken), refl, c.bad) })

  get_silent : (writer number : ℕ) (made : Bool) (error : CoreError) (before after : View E) → (kind_of error ≡ Fault → ⊥) → GetTurn writer (Err error) before after → (more : List ℕ) × CallStopped writer number true made before after more
  get_silent writer number made error before after isnt t = ([], record { seat = call_nothing before after _ t (get_nothing writer error (items_in t.taken) (items_in after.seen) isnt t.fits); why = inl refl })

  abbrev is_fault_of : Kind → Bool
  is_fault_of Refusal = false
  is_fault_of Fault = true
  is_fault_of Shortage = false

  not_fault : (error : CoreError) → is_fault_of (kind_of error) ≡ false → kind_of error ≡ Fault → ⊥
  not_fault error e f = false≢true (sym e ∙ ap is_fault_of f)

  put_stopped : (writer number : ℕ) (error : CoreError) (before after : View E) → 1 ≤ length before.seen → PutTurn writer number (Err error) before after → (more : List ℕ) × CallStopped writer number false false before after more
  put_stopped writer number KeeperFault before after one t = put_broke writer number before after one t
  put_stopped writer number (BadKey fault) before after one t = put_silent writer number (BadKey fault) before after (not_fault (BadKey fault) refl) t
  put_stopped writer number ValueTooLong before after one t = put_silent writer number ValueTooLong before after (not_fault ValueTooLong refl) t
  put_stopped writer number (BlockTooLarge len) before after one t = put_silent writer number (BlockTooLarge len) before after (not_fault (BlockTooLarge len) refl) t
  put_stopped writer number PriorityFull before after one t = put_silent writer number PriorityFull before after (not_fault PriorityFull refl) t
  put_stopped writer number (Clash cid) before after one t = put_silent writer number (Clash cid) before after (not_fault (Clash cid) refl) t
  put_stopped writer number Stopped before after one t = put_silent writer number Stopped before after (not_fault Stopped refl) t
  put_stopped writer number (BadCast fault) before after one t = put_silent writer number (BadCast fault) before after (not_fault (BadCast fault) refl) t
  put_stopped writer number NoBatch before after one t = put_silent writer number NoBatch before after (not_fault NoBatch refl) t
  put_stopped writer number BatchOpen before after one t = put_silent writer number BatchOpen before after (not_fault BatchOpen refl) t
  put_stopped writer number Memory before after one t = put_silent writer number Memory before after (not_fault Memory refl) t

  get_stopped : (writer number : ℕ) (made : Bool) (error : CoreError) (before after : View E) → 1 ≤ length before.seen → GetTurn writer (Err error) before after → (more : List ℕ) × CallStopped writer number true made before after more
  get_stopped writer number made KeeperFault before after one t = get_broke writer number made before after one t
  get_stopped writer number made (BadKey fault) before after one t = get_silent writer number made (BadKey fault) before after (not_fault (BadKey fault) refl) t
  get_stopped writer number made ValueTooLong before after one t = get_silent writer number made ValueTooLong before after (not_fault ValueTooLong refl) t
  get_stopped writer number made (BlockTooLarge len) before after one t = get_silent writer number made (BlockTooLarge len) before after (not_fault (BlockTooLarge len) refl) t
  get_stopped writer number made PriorityFull before after one t = get_silent writer number made PriorityFull before after (not_fault PriorityFull refl) t
  get_stopped writer number made (Clash cid) before after one t = get_silent writer number made (Clash cid) before after (not_fault (Clash cid) refl) t
  get_stopped writer number made Stopped before after one t = get_silent writer number made Stopped before after (not_fault Stopped refl) t
  get_stopped writer number made (BadCast fault) before after one t = get_silent writer number made (BadCast fault) before after (not_fault (BadCast fault) refl) t
  get_stopped writer number made NoBatch before after one t = get_silent writer number made NoBatch before after (not_fault NoBatch refl) t
  get_stopped writer number made BatchOpen before after one t = get_silent writer number made BatchOpen before after (not_fault BatchOpen refl) t
  get_stopped writer number made Memory before after one t = get_silent writer number made Memory before after (not_fault Memory refl) t

  -- one write: it ends at its put,
  pub write_unput : (writer number : ℕ) (result : Result Written CoreError) (before after : View E) → 1 ≤ length before.seen → PutTurn writer number result before after
      → end_of_put result ≡ None → WritesOnce writer number None (items_in after.seen) before after
  write_unput writer number (Ok written) before after one t e = absurd (false≢true (sym (ap is_some e)))
  write_unput writer number (Err error) before after one t e = let s = put_stopped writer number error before after one t in ended s.0 s.1 s.1.why
    where
      ended : (more : List ℕ) → CallStopped writer number false false before after more
          → ((more ≡ []) ⊎ ((at : ℕ) × (more ≡ at ∷ []) × IsBad (items_in after.seen) (record { call = put_of writer number false false; at = at; adds = true })))
          → WritesOnce writer number None (items_in after.seen) before after
      ended more s (inl none) = record {
        more = more;
        seat = s.seat;
        goes = subst (λ (l : List ℕ). WriteGoes writer number (length before.seen) (length after.seen) false false false l (IsGood (items_in after.seen)) (IsBad (items_in after.seen))) (sym none)
            (goes_nothing writer number (length before.seen) (length after.seen) (IsGood (items_in after.seen)) (IsBad (items_in after.seen)) (begins_length before.seen after.seen s.seat.grown));
      }
      ended more s (inr (at, is, bad)) = record {
        more = more;
        seat = s.seat;
        goes = subst (λ (l : List ℕ). WriteGoes writer number (length before.seen) (length after.seen) false false false l (IsGood (items_in after.seen)) (IsBad (items_in after.seen))) (sym is)
            (goes_failed writer number (length before.seen) (length after.seen) (IsGood (items_in after.seen)) (IsBad (items_in after.seen)) (begins_length before.seen after.seen s.seat.grown) at bad);
      }

  -- at its get,
  pub write_ungot : (writer number : ℕ) (made : Bool) (put : Result Written CoreError) (error : CoreError) (before mid after : View E) → 1 ≤ length before.seen → PutTurn writer number put before mid → GetTurn writer (Err error) mid after
      → end_of_put put ≡ Some made → WritesOnce writer number None (items_in after.seen) before after
  write_ungot writer number made put error before mid after one t u e =
      let p = put_took writer number put made false before mid one t e in
      let g = begins_length before.seen mid.seen p.took.seat.grown in
      let s = get_stopped writer number made error mid after (omega (arith, one, g)) u in ended p s.0 s.1 s.1.why
    where
      ended : (p : PutTook writer number made false before mid) (more : List ℕ) → CallStopped writer number true made mid after more
          → ((more ≡ []) ⊎ ((at : ℕ) × (more ≡ at ∷ []) × IsBad (items_in after.seen) (record { call = get_of writer number made false; at = at; adds = true })))
          → WritesOnce writer number None (items_in after.seen) before after
      ended p more s (inl none) =
          let both = seat_on before mid after _ more p.took.seat s.seat in
          let n = p.took.next in let h = begins_length mid.seen after.seen s.seat.grown in record {
            more = places_if made p.at [] ++ more;
            seat = both;
            goes = subst (λ (l : List ℕ). WriteGoes writer number (length before.seen) (length after.seen) false false false l (IsGood (items_in after.seen)) (IsBad (items_in after.seen))) (sym (ap (λ l. places_if made p.at [] ++ l) none ∙ append-nil (places_if made p.at [])))
                (goes_half writer number (length before.seen) (length after.seen) (IsGood (items_in after.seen)) (IsBad (items_in after.seen)) (begins_length before.seen after.seen both.grown) made p.at p.took.low (omega (arith, n, h))
                (good_longer (items_in mid.seen) (items_in after.seen) (begins_items mid.seen after.seen s.seat.grown) _ p.took.good));
          }
      ended p more s (inr (at, is, bad)) =
          let both = seat_on before mid after _ more p.took.seat s.seat in
          let n = p.took.next in let h = begins_length mid.seen after.seen s.seat.grown in record {
            more = places_if made p.at [] ++ more;
            seat = both;
            goes = subst (λ (l : List ℕ). WriteGoes writer number (length before.seen) (length after.seen) false false false l (IsGood (items_in after.seen)) (IsBad (items_in after.seen))) (sym (ap (λ l. places_if made p.at [] ++ l) is))
                (goes_broken writer number (length before.seen) (length after.seen) (IsGood (items_in after.seen)) (IsBad (items_in after.seen)) (begins_length before.seen after.seen both.grown) made p.at at p.took.low (omega (arith, n, h))
                (good_longer (items_in mid.seen) (items_in after.seen) (begins_items mid.seen after.seen s.seat.grown) _ p.took.good) bad);
          }

  -- or is made whole
  pub write_whole : (writer number : ℕ) (made : Bool) (put : Result Written CoreError) (seen : Seen (Option (List ℕ))) (before mid after : View E) → 1 ≤ length before.seen → PutTurn writer number put before mid → GetTurn writer (Ok seen) mid after
      → end_of_put put ≡ Some made → WritesOnce writer number (Some (record { made = made; same = is_bytes (storm_value number) seen.answer })) (items_in after.seen) before after
  write_whole writer number made put seen before mid after one t u e =
      let same : Bool = is_bytes (storm_value number) seen.answer in
      let p = put_took writer number put made same before mid one t e in
      let g = begins_length before.seen mid.seen p.took.seat.grown in
      let q = get_given writer number made seen (items_in u.taken) (items_in after.seen) u.fits in
      let c = call_took mid after _ u (get_of writer number made same) false (omega (arith, one, g)) (let h = ap length q.0 in omega (arith, h)) (subst (λ (l : List Item). GoodOver (get_of writer number made same) (items_in u.taken) l) (sym q.0) q.1) in
      let n = p.took.next in let m = c.next in let l = c.low in
      let both = seat_on before mid after _ [] p.took.seat c.seat in record {
        more = places_if made p.at [] ++ [];
        seat = both;
        goes = subst (λ (l : List ℕ). WriteGoes writer number (length before.seen) (length after.seen) true made same l (IsGood (items_in after.seen)) (IsBad (items_in after.seen))) (sym (append-nil (places_if made p.at [])))
            (goes_whole writer number (length before.seen) (length after.seen) (IsGood (items_in after.seen)) (IsBad (items_in after.seen)) (begins_length before.seen after.seen both.grown) made same p.at (length (items_in u.taken)) p.took.low (omega (arith, n, l)) (omega (arith, m))
            (good_longer (items_in mid.seen) (items_in after.seen) (begins_items mid.seen after.seen c.seat.grown) _ p.took.good) c.good);
      }
