-- What holds between two calls is a proposition.
use Rattle.std.specs.Prelude.{ℕ, ◌+◌, Bool, List, [], ◌∷◌, Option, Some}
use mathlib.Core.Path.{refl}
use Rattle.std.specs.Coded.{Coded-set, coded_ℕ, coded_bool, coded_list, coded×, coded_option, code_by, le_prop}
use denote.RawPtr.{Ptr, coded_ptr}
use Rattle.mc_list.specs.Rings.{NotIn, Apart, Agree, Path}
use Rattle.mc_list.specs.Web.{Shape, ends}
use Rattle.mc_list.specs.Ringed.{RingOk, linked_to}
use Rattle.mc_list.specs.Whole.{Whole}
use Rattle.mc_list.specs.declared.node.Link.{Link}

Bool-is : IsSet Bool
Bool-is = Coded-set coded_bool

number-is : IsSet (Option ℕ)
number-is = Coded-set (coded_option coded_ℕ)

link-is : {T : Type 0} → IsSet (Option (Link T))
link-is {T} = Coded-set (coded_option (code_by (Ptr × ℕ) (coded× coded_ptr coded_ℕ)
    (λ (l : Link T). (l.at, l.place)) (λ p. record { at = p.0; place = p.1 }) (λ _. refl)))

pointers-is : IsSet (List Ptr)
pointers-is = Coded-set (coded_list coded_ptr)

ℕ-is : IsSet ℕ
ℕ-is = Coded-set coded_ℕ

NotIn-prop : (k : ℕ) (xs : List ℕ) → IsProp (NotIn k xs)
NotIn-prop k [] = hlevel
NotIn-prop k (x ∷ xs) = let rest = NotIn-prop k xs in hlevel (rest, Bool-is)

Apart-prop : (xs : List ℕ) → IsProp (Apart xs)
Apart-prop [] = hlevel
Apart-prop (x ∷ xs) = let here = NotIn-prop x xs in let rest = Apart-prop xs in hlevel (here, rest)

Agree-prop : (f g : ℕ → Option ℕ) (xs : List ℕ) → IsProp (Agree f g xs)
Agree-prop f g [] = hlevel
Agree-prop f g (x ∷ xs) = let rest = Agree-prop f g xs in hlevel (rest, number-is)

Path-prop : {T : Type 0} (link next prev : ℕ → Option (Link T)) (a : ℕ) (xs : List ℕ) (b : ℕ)
    → IsProp (Path link next prev a xs b)
Path-prop {T} link next prev a [] b = let set = link-is {T = T} in hlevel set
Path-prop {T} link next prev a (x ∷ xs) b =
    let set = link-is {T = T} in let rest = Path-prop link next prev x xs b in hlevel (rest, set)

module _ {T : Type 0} (s : Shape T) where
  RingOk-prop : (l : ℕ) (ps : List ℕ) → IsProp (RingOk s l ps)
  RingOk-prop l ps =
      let path = Path-prop {T = T} (λ i. linked_to s i) s.next s.prev (ends + l) ps (ends + l) in
      let a = NotIn-prop (ends + l) ps in let b = Apart-prop ps in let c = Agree-prop s.list (λ i. Some l) ps in
      hlevel (path, a, b, c, number-is)

  pub Whole-prop : IsProp (Whole s)
  Whole-prop =
      let ok = RingOk-prop in let set = link-is {T = T} in hlevel (ok, set, pointers-is, Bool-is, ℕ-is, le_prop)
