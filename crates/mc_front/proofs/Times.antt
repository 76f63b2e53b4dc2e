-- Lists in which each identifier stands equally often are of one length.
use Rattle.std.proofs.Common.{◌≡◌, suc, ◌+◌, ◌≤◌, Bool, true, false, cond, List, [], ◌∷◌, sym, refl, ap, ◌∙◌, subst, arith, length}
use Rattle.mc_base.specs.declared.cid.Cid.{Cid}
use Rattle.mc_model.specs.Front.{same_cid}
use Rattle.mc_model.specs.Graph.{times}
use Rattle.mc_model.proofs.Counts.{cid_is, cid_itself}

-- the list without the first place of an identifier
without : Cid → List Cid → List Cid
without c [] = []
without c (y ∷ ys) = cond (same_cid c y) ys (y ∷ without c ys)

length-without : (c : Cid) (ys : List Cid) → 1 ≤ times c ys → length ys ≡ suc (length (without c ys))
unfolding without
length-without c [] h = absurd (omega arith)
length-without c (y ∷ ys) h =
    elim (same_cid c y) as (λ t. 1 ≤ cond t (1 + times c ys) (times c ys) → suc (length ys) ≡ suc (length (cond t ys (y ∷ without c ys)))) [
      | true ↦ λ k. refl
      | false ↦ λ k. ap suc (length-without c ys k)
    ] h

times-without : (c d : Cid) (ys : List Cid) → 1 ≤ times c ys → times d ys ≡ cond (same_cid d c) 1 0 + times d (without c ys)
unfolding without
times-without c d [] h = absurd (omega arith)
times-without c d (y ∷ ys) h =
    elim (same_cid c y) as (λ t. same_cid c y ≡ t → 1 ≤ cond t (1 + times c ys) (times c ys)
    → cond (same_cid d y) (1 + times d ys) (times d ys) ≡ cond (same_cid d c) 1 0 + times d (cond t ys (y ∷ without c ys))) [
      | true ↦ λ s k. subst (λ (z : Cid). cond (same_cid d z) (1 + times d ys) (times d ys) ≡ cond (same_cid d c) 1 0 + times d ys) (cid_is c y s)
          (elim (same_cid d c) as (λ t. cond t (1 + times d ys) (times d ys) ≡ cond t 1 0 + times d ys) [ true ↦ refl | false ↦ omega arith ])
      | false ↦ λ s k. let rest : times d ys ≡ cond (same_cid d c) 1 0 + times d (without c ys) = times-without c d ys k in
          elim (same_cid d y) as (λ t. cond t (1 + times d ys) (times d ys) ≡ cond (same_cid d c) 1 0 + cond t (1 + times d (without c ys)) (times d (without c ys))) [
            | true ↦ omega (arith, rest)
            | false ↦ rest
          ]
    ] refl h

front_times : (x : Cid) (xs : List Cid) → times x (x ∷ xs) ≡ 1 + times x xs
front_times x xs = ap (λ (t : Bool). cond t (1 + times x xs) (times x xs)) (cid_itself x)

pub same_times_length : (xs ys : List Cid) → ((c : Cid) → times c ys ≡ times c xs) → length xs ≡ length ys
same_times_length [] [] same = refl
same_times_length [] (y ∷ ys) same = absurd (omega (arith, front_times y ys, same y))
same_times_length (x ∷ xs) ys same =
    ap suc (same_times_length xs (without x ys) rest) ∙ sym (length-without x ys there)
  where
    there : 1 ≤ times x ys
    there = omega (arith, front_times x xs, same x)

    rest : (c : Cid) → times c (without x ys) ≡ times c xs
    rest c =
        let out : times c ys ≡ cond (same_cid c x) 1 0 + times c (without x ys) = times-without x c ys there in
        let all : times c ys ≡ cond (same_cid c x) (1 + times c xs) (times c xs) = same c in
        elim (same_cid c x) as (λ t. times c ys ≡ cond t 1 0 + times c (without x ys) → times c ys ≡ cond t (1 + times c xs) (times c xs) → times c (without x ys) ≡ times c xs) [
          | true ↦ λ o a. omega (arith, o, a)
          | false ↦ λ o a. omega (arith, o, a)
        ] out all
