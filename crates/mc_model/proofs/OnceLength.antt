-- Lists without repeats and with the same members are of one length.
use Rattle.std.proofs.Common.{◌≡◌, ℕ, suc, ◌+◌, ◌≤◌, Bool, true, false, not, cond, List, [], ◌∷◌, ◌||◌, sym, refl, ap, ◌∙◌, arith, length}
use Rattle.std.specs.List.{list_any}
use Rattle.mc_base.specs.declared.cid.Cid.{Cid}
use Rattle.mc_model.specs.Ascending.{once}
use Rattle.mc_model.specs.Front.{same_cid}
use Rattle.mc_model.specs.Graph.{times, has}
use Rattle.mc_model.specs.SameMembers.{SameMembers}
use Rattle.mc_model.specs.Wanted.{others}
use Rattle.mc_model.proofs.Counts.{cid_is, cid_itself, same_cid-symm}
use Rattle.mc_model.proofs.Held.{others_times}

-- what is taken out of a list is as long as it is often there
others_length : (c : Cid) (xs : List Cid) → length xs ≡ times c xs + length (others xs c)
others_length c [] = omega arith
others_length c (x ∷ xs) =
    elim (same_cid c x) as (λ t. same_cid c x ≡ t → suc (length xs) ≡ cond t (1 + times c xs) (times c xs) + length (cond (not (same_cid x c)) (x ∷ others xs c) (others xs c))) [
      | true ↦ λ s. let more : suc (length xs) ≡ 1 + times c xs + length (others xs c) = omega (arith, others_length c xs) in
          more ∙ ap (λ t. (1 + times c xs) + length (cond {A = List Cid} (not t) (x ∷ others xs c) (others xs c))) (sym s ∙ same_cid-symm c x)
      | false ↦ λ s. let more : suc (length xs) ≡ times c xs + suc (length (others xs c)) = omega (arith, others_length c xs) in
          more ∙ ap (λ t. times c xs + length (cond {A = List Cid} (not t) (x ∷ others xs c) (others xs c))) (sym s ∙ same_cid-symm c x)
    ] refl

pub same_length : (xs ys : List Cid) → ((c : Cid) → times c xs ≤ 1) → ((c : Cid) → times c ys ≡ times c xs) → length xs ≡ length ys
same_length [] [] once same = refl
same_length [] (y ∷ ys) once same =
    absurd (let front : times y (y ∷ ys) ≡ 1 + times y ys = ap (λ (t : Bool). cond t (1 + times y ys) (times y ys)) (cid_itself y) in omega (arith, front, same y))
same_length (x ∷ xs) ys once same =
    let front : times x (x ∷ xs) ≡ 1 + times x xs = ap (λ (t : Bool). cond t (1 + times x xs) (times x xs)) (cid_itself x) in
    let rest : length xs ≡ length (others ys x) = same_length xs (others ys x) (λ c. rest_once c) (λ c. rest_same c front) in
    omega (arith, rest, others_length x ys, same x, front, once x)
  where
    rest_once : (c : Cid) → times c xs ≤ 1
    rest_once c = elim (same_cid c x) as (λ t. cond t (1 + times c xs) (times c xs) ≤ 1 → times c xs ≤ 1) [
      | true ↦ λ k. omega (arith, k)
      | false ↦ λ k. k
    ] (once c)

    rest_same : (c : Cid) → times x (x ∷ xs) ≡ 1 + times x xs → times c (others ys x) ≡ times c xs
    rest_same c front =
        elim (same_cid c x) as (λ t. same_cid c x ≡ t → times c (others ys x) ≡ cond (not t) (times c ys) 0 → times c ys ≡ cond t (1 + times c xs) (times c xs) → times c (others ys x) ≡ times c xs) [
          | true ↦ λ s h k. let here : times c xs ≡ times x xs = ap (λ (z : Cid). times z xs) (cid_is c x s) in omega (arith, h, here, front, once x)
          | false ↦ λ s h k. omega (arith, h, k)
        ] refl (others_times x c ys) (same c)

-- no member of the list that has each once stands twice in it
pub once_list : (xs : List Cid) (c : Cid) → times c (once same_cid xs) ≡ cond (has c xs) 1 0
once_list [] c = refl
once_list (x ∷ xs) c =
    elim (list_any (same_cid x) xs) as (λ t. list_any (same_cid x) xs ≡ t → times c (elim t [ true ↦ once same_cid xs | false ↦ x ∷ once same_cid xs ]) ≡ cond (same_cid c x || has c xs) 1 0) [
      | true ↦ λ e. once_list xs c ∙ elim (same_cid c x) as (λ t. same_cid c x ≡ t → ◌≡◌ {A = ℕ} (cond (has c xs) 1 0) (cond (t || has c xs) 1 0)) [
        | true ↦ λ s. ap (λ (t : Bool). cond {A = ℕ} t 1 0) (ap (λ (z : Cid). has z xs) (cid_is c x s) ∙ e)
        | false ↦ λ s. refl
      ] refl
      | false ↦ λ e. elim (same_cid c x) as (λ t. same_cid c x ≡ t → cond t (1 + times c (once same_cid xs)) (times c (once same_cid xs)) ≡ cond (t || has c xs) 1 0) [
        | true ↦ λ s. let none : times c (once same_cid xs) ≡ 0 = once_list xs c ∙ ap (λ (t : Bool). cond {A = ℕ} t 1 0) (ap (λ (z : Cid). has z xs) (cid_is c x s) ∙ e) in omega (arith, none)
        | false ↦ λ s. once_list xs c
      ] refl
    ] refl

pub same_once_length : (xs ys : List Cid) → SameMembers xs ys → length (once same_cid xs) ≡ length (once same_cid ys)
same_once_length xs ys same =
    same_length (once same_cid xs) (once same_cid ys)
    (λ c. at_most (has c xs) (times c (once same_cid xs)) (once_list xs c))
    (λ c. once_list ys c ∙ ap (λ (t : Bool). cond {A = ℕ} t 1 0) (sym (same.same (same_cid c))) ∙ sym (once_list xs c))
  where
    at_most : (t : Bool) (n : ℕ) → n ≡ cond t 1 0 → n ≤ 1
    at_most true n e = omega (arith, e)
    at_most false n e = omega (arith, e)
