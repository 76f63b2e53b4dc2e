-- Blocks that leave the wanted set, one after another.
use Rattle.std.proofs.Common.{◌≡◌, ℕ, suc, ◌+◌, ◌<◌, Bool, true, false, not, cond, ◌||◌, filter, length, take, get_or, List, [], ◌∷◌, ◌++◌, refl, sym, ap, ◌∙◌, arith}
use Rattle.std.proofs.Math.Seq.{take-suc}
use Rattle.mc_base.specs.declared.cid.Cid.{Cid}
use Rattle.mc_model.specs.Graph.{has}
use Rattle.mc_model.specs.Wanted.{Queue, without}
use Rattle.mc_model.proofs.Counts.{has-append}

none_leave : {X : Type 0} (cid_of : X → Cid) (xs : List X) → filter (λ x. not (has (cid_of x) [])) xs ≡ xs
none_leave cid_of [] = refl
none_leave cid_of (x ∷ xs) = ap (λ rest. x ∷ rest) (none_leave cid_of xs)

more_leave : {X : Type 0} (cid_of : X → Cid) (cids more : List Cid) (xs : List X) → filter (λ x. not (has (cid_of x) more)) (filter (λ x. not (has (cid_of x) cids)) xs) ≡ filter (λ x. not (has (cid_of x) (cids ++ more))) xs
more_leave cid_of cids more [] = refl
more_leave {X} cid_of cids more (x ∷ xs) =
    by_test (more_leave cid_of cids more xs) (has (cid_of x) cids) ∙ ap (λ t. cond (not t) (x ∷ filter (λ x. not (has (cid_of x) (cids ++ more))) xs) (filter (λ x. not (has (cid_of x) (cids ++ more))) xs)) (sym (has-append (cid_of x) cids more))
  where
    by_test : filter (λ x. not (has (cid_of x) more)) (filter (λ x. not (has (cid_of x) cids)) xs) ≡ filter (λ x. not (has (cid_of x) (cids ++ more))) xs → (b : Bool) → filter (λ x. not (has (cid_of x) more)) (cond (not b) (x ∷ filter (λ x. not (has (cid_of x) cids)) xs) (filter (λ x. not (has (cid_of x) cids)) xs))
        ≡ cond (not (b || has (cid_of x) more)) (x ∷ filter (λ x. not (has (cid_of x) (cids ++ more))) xs) (filter (λ x. not (has (cid_of x) (cids ++ more))) xs)
    by_test ih true = ih
    by_test ih false = ap (λ rest. cond (not (has (cid_of x) more)) (x ∷ rest) rest) ih

pub without_none : (q : Queue) → q ≡ without q []
without_none q = λ i. record {
  waiting = sym (none_leave (λ (d : Cid). d) q.waiting) i;
  flight = sym (none_leave (λ (d : Cid). d) q.flight) i;
  missing = sym (none_leave (λ (d : Cid). d) q.missing) i;
  bad = sym (none_leave (λ (b : Cid × ℕ). b.0) q.bad) i;
}

pub without_more : (q : Queue) (cids more : List Cid) → without (without q cids) more ≡ without q (cids ++ more)
without_more q cids more = λ i. record {
  waiting = more_leave (λ (d : Cid). d) cids more q.waiting i;
  flight = more_leave (λ (d : Cid). d) cids more q.flight i;
  missing = more_leave (λ (d : Cid). d) cids more q.missing i;
  bad = more_leave (λ (b : Cid × ℕ). b.0) cids more q.bad i;
}

-- one more leaves
pub leave_one : (q p r : Queue) (cids : List Cid) (n : ℕ) (d : Cid) → n < length cids → p ≡ without q (take n cids) → r ≡ without p (get_or cids n d ∷ []) → r ≡ without q (take (n + 1) cids)
leave_one q p r cids n d lt so_far one =
    let next : suc n ≡ n + 1 = omega arith in
    one ∙ ap (λ p. without p (get_or cids n d ∷ [])) so_far ∙ without_more q (take n cids) (get_or cids n d ∷ []) ∙ ap (without q) (sym (take-suc cids n d lt) ∙ ap (λ m. take m cids) next)
