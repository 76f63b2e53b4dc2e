-- The roots of a header, one after another.
use Rattle.std.proofs.lemmas.Bool.Decides.{nat_tests}
use Rattle.std.proofs.Common.{◌≡◌, ◌≢◌, ℕ, zero, suc, ◌-◌, ◌<◌, ◌≤◌, List, [], ◌∷◌, ◌++◌, length, take, drop, Option, Some, None, refl, sym, ap, ◌∙◌, arith, append_assoc, Bool, true, false, not}
use Rattle.std.specs.Prelude.{option_map, ◌==◌}
use Rattle.std.proofs.lemmas.List.{append-nil}
use Rattle.std.specs.Str.{bytes_eq}
use Rattle.mc_base.specs.declared.cid.Cid.{Cid}
use Rattle.mc_car.specs.Car.{header_end}
use Rattle.mc_car.specs.CarRead.{cid_and_rest, roots_from, root_of}
use Rattle.mc_model.specs.Offer.{cid_of_bytes}
use Rattle.std.proofs.lemmas.List.{length-take, take_rest}

-- roots that were read, and those that are still to come
abbrev pub onto_roots : List Cid → Option (List Cid) → Option (List Cid)
onto_roots roots rest = option_map (λ more. roots ++ more) rest

pub record IsCounting (count left : ℕ) (text rest : List ℕ) (roots : List Cid) : Type 0 where
  pub whole : roots_from count text ≡ onto_roots roots (roots_from left rest)

onto_none : (rest : Option (List Cid)) → rest ≡ onto_roots [] rest
onto_none None = refl
onto_none (Some rest) = refl

pub counting_begins : (count : ℕ) (text : List ℕ) → IsCounting count count text text []
counting_begins count text = record { whole = onto_none (roots_from count text) }

onto_next : (roots : List Cid) (root : Cid) (rest : Option (List Cid)) → onto_roots roots (option_map (λ more. root ∷ more) rest) ≡ onto_roots (roots ++ root ∷ []) rest
onto_next roots root None = refl
onto_next roots root (Some rest) = ap (λ z. Some z) (sym (append_assoc roots (root ∷ []) rest))

root_step : (left : ℕ) (rest tail : List ℕ) (root : Cid) → 0 < left → root_of rest ≡ Some (root, tail) → roots_from left rest ≡ option_map (λ more. root ∷ more) (roots_from (left - 1) tail)
root_step zero rest tail root some is = absurd (omega (arith, some))
root_step (suc left) rest tail root some is = let same : suc left - 1 ≡ left = omega arith in rw (is, same) refl

no_root : (left : ℕ) (rest : List ℕ) → 0 < left → root_of rest ≡ None → roots_from left rest ≡ None
no_root zero rest some is = absurd (omega (arith, some))
no_root (suc left) rest some is = rw is refl

pub counting_next : (count left : ℕ) (text rest tail : List ℕ) (roots : List Cid) (root : Cid) → IsCounting count left text rest roots → 0 < left → root_of rest ≡ Some (root, tail)
    → IsCounting count (left - 1) text tail (roots ++ root ∷ [])
counting_next count left text rest tail roots root counting some is = record {
  whole = counting.whole ∙ ap (onto_roots roots) (root_step left rest tail root some is) ∙ onto_next roots root (roots_from (left - 1) tail);
}

pub counting_breaks : (count left : ℕ) (text rest : List ℕ) (roots : List Cid) → IsCounting count left text rest roots → 0 < left → root_of rest ≡ None → roots_from count text ≡ None
counting_breaks count left text rest roots counting some is = counting.whole ∙ ap (onto_roots roots) (no_root left rest some is)

pub counting_ends : (count left : ℕ) (text rest : List ℕ) (roots : List Cid) → IsCounting count left text rest roots → left ≤ 0 → bytes_eq rest header_end ≡ true → roots_from count text ≡ Some roots
counting_ends count zero text rest roots counting none is = counting.whole ∙ (rw is (ap (λ z. Some z) (append-nil roots)))
counting_ends count (suc left) text rest roots counting none is = absurd (omega (arith, none))

pub counting_fails : (count left : ℕ) (text rest : List ℕ) (roots : List Cid) → IsCounting count left text rest roots → left ≤ 0 → bytes_eq rest header_end ≡ false → roots_from count text ≡ None
counting_fails count zero text rest roots counting none is = counting.whole ∙ (rw is refl)
counting_fails count (suc left) text rest roots counting none is = absurd (omega (arith, none))

-- the identifier at the front, and the rest
pub split_some : (text : List ℕ) (cid : Cid) (read : Option Cid) → read ≡ cid_of_bytes (take 36 text) → read ≡ Some cid → Some (cid, take (length text - 36) (drop 36 text)) ≡ cid_and_rest text
split_some text cid read told is = let here : cid_of_bytes (take 36 text) ≡ Some cid = sym told ∙ is in rw (here, take_rest text 36) refl

pub split_none : (text : List ℕ) (read : Option Cid) → read ≡ cid_of_bytes (take 36 text) → read ≡ None → None ≡ cid_and_rest text
split_none text read told is = let here : cid_of_bytes (take 36 text) ≡ None = sym told ∙ is in rw here refl

pub split_short : (text : List ℕ) → length text < 36 → None ≡ cid_and_rest text
split_short text short =
    let size : length (take 36 text) ≢ 36 = λ e. absurd (omega (arith, e, short, length-take {A = ℕ})) in
    let no : (length (take 36 text) == 36) ≡ false = grind (arith, nat_tests, size) in
    rw no refl

-- what `!=` says
pub differs : (result same : Bool) → result ≡ not same → result ≡ true → same ≡ false
differs result true told is = absurd (let f : false ≡ true = sym told ∙ is in cc)
differs result false told is = refl

pub agrees : (result same : Bool) → result ≡ not same → result ≡ false → same ≡ true
agrees result true told is = refl
agrees result false told is = absurd (let f : true ≡ false = sym told ∙ is in cc)
