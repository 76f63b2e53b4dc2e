-- Beginnings of one list.
use Rattle.std.proofs.Common.{◌≡◌, ℕ, ◌≤◌, ◌<◌, Bool, true, false, List, [], ◌∷◌, ◌++◌, length, ap, sym, ◌∙◌, append-nil, arith}
use Rattle.std.specs.Prelude.{MatchBool}
use Rattle.std.proofs.lemmas.Bool.Decides.{nat_tests}
use lib.Dec.{leb}
use Rattle.std.specs.Prelude.{take, drop}
use Rattle.std.proofs.Math.Seq.{take-append_seam, take-length}
use Rattle.std.proofs.lemmas.List.{take-append-drop, take-append-le, append_assoc}
use Rattle.std.proofs.lemmas.List.Concat.{flat_map-append}
use mathlib.Core.List.{IsPrefix}
use Rattle.mc_model.specs.Answers.{joined}
use Rattle.mc_face.specs.Lists.{Starts}

module _ {A : Type 0} where
  pub prefix_of : (xs ys : List A) → Starts ys xs → IsPrefix xs ys
  prefix_of xs ys e = (drop (length xs) ys, ap (λ l. l ++ drop (length xs) ys) (sym e) ∙ take-append-drop (length xs) ys)

  pub starts_of : (xs ys : List A) → IsPrefix xs ys → Starts ys xs
  starts_of xs ys p = ap (take (length xs)) (sym p.1) ∙ take-append_seam xs p.0

  pub starts_self : (xs : List A) → Starts xs xs
  starts_self xs = take-length xs

  pub starts_more : (xs more : List A) → Starts (xs ++ more) xs
  starts_more xs more = take-append_seam xs more

  pub starts_trans : (xs ys zs : List A) → Starts ys xs → Starts zs ys → Starts zs xs
  starts_trans xs ys zs a b =
      let p = prefix_of xs ys a in
      let q = prefix_of ys zs b in
      starts_of xs zs (p.0 ++ q.0, sym (append_assoc xs p.0 q.0) ∙ (ap (λ w. w ++ q.0) p.1 ∙ q.1))

  -- of two beginnings of one list the one that isn't longer begins the other
  pub shorter_starts : (xs ys zs : List A) → Starts zs xs → Starts zs ys → length xs ≤ length ys → Starts ys xs
  shorter_starts xs ys zs a b le =
      let q = prefix_of ys zs b in
      sym (take-append-le (length xs) ys q.0 le) ∙ (ap (take (length xs)) q.1 ∙ a)

  -- a beginning as long as the whole is the whole
  pub starts_whole : (xs ys : List A) → Starts ys xs → length xs ≡ length ys → xs ≡ ys
  starts_whole xs ys a len = sym a ∙ (ap (λ n. take n ys) len ∙ take-length ys)

  pub joined-append : (xs ys : List (List A)) → joined (xs ++ ys) ≡ joined xs ++ joined ys
  joined-append xs ys = flat_map-append (λ group. group) xs ys

  pub joined-snoc : (xs : List (List A)) (more : List A) → joined (xs ++ more ∷ []) ≡ joined xs ++ more
  joined-snoc xs more = joined-append xs (more ∷ []) ∙ ap (λ l. joined xs ++ l) (append-nil more)

  -- the members of more groups begin with those of the first ones
  pub starts_joined : (xs ys : List (List A)) → IsPrefix xs ys → Starts (joined ys) (joined xs)
  starts_joined xs ys p = starts_of (joined xs) (joined ys) (joined p.0, sym (joined-append xs p.0) ∙ ap joined p.1)

pub regroup : {A : Type 0} (p q s r : List A) → p ++ ((q ++ s) ++ r) ≡ (p ++ q) ++ (s ++ r)
regroup p q s r = sym (append_assoc p q (s ++ r) ∙ ap (λ l. p ++ l) (sym (append_assoc q s r)))

-- of two lists of one book the one that isn't shorter begins with the other
pub reaches_by : {A : Type 0} (one other both : List (List A)) (m n : ℕ) → m ≡ length (joined one) → n ≡ length (joined other) → IsPrefix one both → IsPrefix other both
    → (b : Bool) → leb n m ≡ b → MatchBool b (Starts (joined one) (joined other)) (Starts (joined other) (joined one))
reaches_by one other both m n is_m is_n a b true e =
    let le : n ≤ m = grind (arith, nat_tests) in
    shorter_starts (joined other) (joined one) (joined both) (starts_joined other both b) (starts_joined one both a) (omega (arith, is_m, is_n, le))
reaches_by one other both m n is_m is_n a b false e =
    let lt : m < n = grind (arith, nat_tests) in
    shorter_starts (joined one) (joined other) (joined both) (starts_joined one both a) (starts_joined other both b) (omega (arith, is_m, is_n, lt))

-- of a list that was read and one that was told of, both beginnings of what is read now, the one that isn't longer begins the other
pub heard_after : {A : Type 0} (seen told now : List A) → Starts now seen → Starts now told → (before heard : List A) → Starts seen before → Starts told heard → length before ≤ length heard
    → Starts heard before
heard_after seen told now begins informed before heard read is_told le =
    shorter_starts before heard now (starts_trans before seen now read begins) (starts_trans heard told now is_told informed) le
