-- How many desks and counts there are.
use Rattle.std.proofs.Common.{◌≡◌, ◌∙◌, ℕ, suc, true, List, [], ◌∷◌, length, map, refl, sym, ap, arith}
use Rattle.std.specs.Prelude.{nat_eq}
use Rattle.std.specs.List.{list_all}
use Rattle.std.proofs.lemmas.Bool.{and_parts}
use Rattle.std.proofs.lemmas.Bool.Decides.{nat_tests}
use Rattle.mc_seats.specs.Desked.{desk_sums, is_desked, is_full_list}

pub map_long : {A B : Type 0} (f : A → B) (xs : List A) → length (map f xs) ≡ length xs
map_long f [] = refl
map_long f (x ∷ xs) = ap suc (map_long f xs)

pub as_many : (n m : ℕ) → nat_eq n m ≡ true → n ≡ m
as_many n m e = grind (arith, nat_tests, e)

-- there are as many counts as replicas with desks
pub counts_long : {D : Type 0} (count : D → ℕ) (counts : List ℕ) (n m : ℕ) (desks back : List (List D)) → counts ≡ desk_sums count desks → n ≡ m → is_desked n desks ≡ true → is_desked m back ≡ true → length counts ≡ length back
counts_long count counts n m desks back are same desked again =
    ap length are ∙ map_long _ desks ∙ sym (as_many n (length desks) (and_parts (nat_eq n (length desks)) (list_all is_full_list desks) desked).0)
    ∙ same ∙ as_many m (length back) (and_parts (nat_eq m (length back)) (list_all is_full_list back) again).0
