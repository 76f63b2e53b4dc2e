-- Bytes that are stored under an identifier, where no others are; and links that are all processed.
use Rattle.std.proofs.Common.{◌≡◌, ℕ, not, cond, filter, ◌||◌, List, [], ◌∷◌, ◌++◌, Option, Some, None, true, false, ap, ◌∙◌, sym, refl}
use Rattle.std.specs.Prelude.{is_some}
use Rattle.std.specs.List.{list_all}
use Rattle.std.proofs.lemmas.Bool.{and_parts}
use Rattle.mc_base.specs.declared.cid.Cid.{Cid}
use Rattle.mc_model.specs.Front.{same_cid, is_among}
use Rattle.mc_model.specs.Graph.{has}
use Rattle.mc_plan.specs.Uptakes.{IsNoOther}

pub known_is : (found : Option (List ℕ)) (bytes : List ℕ) → is_some found ≡ true → IsNoOther found bytes → found ≡ Some bytes
known_is None bytes e known = absurd (let f : false ≡ true = e in cc)
known_is (Some other) bytes e known = ap (λ b. Some b) known

has_more : (c : Cid) (xs ys : List Cid) → has c xs ≡ true → has c (xs ++ ys) ≡ true
has_more c [] ys e = absurd (let f : false ≡ true = e in cc)
has_more c (x ∷ xs) ys e = elim (same_cid c x) as (λ t. (t || has c xs) ≡ true → (t || has c (xs ++ ys)) ≡ true) [ true ↦ λ h. refl | false ↦ λ h. has_more c xs ys h ] e

-- links that are processed are not wanted
pub none_open : (order more links : List Cid) → list_all (is_among order) links ≡ true → [] ≡ filter (λ c. not (has c (order ++ more))) links
none_open order more [] e = refl
none_open order more (c ∷ links) e =
    let parts = and_parts (is_among order c) (list_all (is_among order) links) e in
    none_open order more links parts.1
    ∙ ap (λ t. cond (not t) (c ∷ filter (λ d. not (has d (order ++ more))) links) (filter (λ d. not (has d (order ++ more))) links)) (sym (has_more c order more parts.0))
