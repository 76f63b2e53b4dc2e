-- The deltas into which the tombstones of a delete are cut are one list.
use Rattle.std.proofs.Common.{◌≡◌, ℕ, zero, suc, ◌+◌, ◌*◌, ◌/◌, ◌<◌, ◌≤◌, true, false, List, [], ◌∷◌, ◌++◌, length, map, refl, sym, ◌∙◌, ap, subst, inl, inr, arith, append_assoc, length-append}
use Rattle.std.specs.Prelude.{◌⊎◌}
use Rattle.std.specs.List.{flat_map}
use Rattle.std.proofs.Math.Dec.{ltb}
use Rattle.std.proofs.lemmas.Bool.{ltb-true, ltb-false}
use Rattle.mc_base.specs.Node.{link_bytes}
use Rattle.mc_base.specs.Wire.{varint_bytes, part_field_bytes}
use Rattle.mc_base.specs.declared.cid.Cid.{Cid}
use Rattle.mc_wire.proofs.Writing.{varint_bytes-one, varint_bytes-more}
use Rattle.mc_model.specs.Cuts.{IsCut, IsCuts, IsFull, Pair, pair_tomb, tombs_delta, tombs_size}
use Rattle.mc_model.specs.declared.delta.Delta.{Delta}
use Rattle.mc_model.specs.DeltaText.{delta_bytes, priority_bytes, tomb_bytes}
use Rattle.mc_model.specs.Made.{made_bytes, made_cid}
use Rattle.mc_model.specs.Offer.{block_max}

-- a greater number is written in no fewer bytes

varint_within : (most low high : ℕ) → high < most → low ≤ high → length (varint_bytes low) ≤ length (varint_bytes high)
varint_within zero low high within less = absurd (omega (arith, within))
varint_within (suc most) low high within less = (elim (ltb low 128) as (λ b. ltb low 128 ≡ b → length (varint_bytes low) ≤ length (varint_bytes high)) [
  | true ↦ λ e. omega (arith, ap length (varint_bytes-one low (ltb-true low 128 e)), some)
  | false ↦ λ e.
      let large : 128 ≤ low = omega (arith, ltb-false low 128 e) in
      omega (arith, ap length (varint_bytes-more low large), ap length (varint_bytes-more high (omega (arith, large, less))), varint_within most (low / 128) (high / 128) (omega (arith, within, large, less)) (omega (arith, less)))
]) refl
  where
    some : 1 ≤ length (varint_bytes high)
    some = (elim (ltb high 128) as (λ b. ltb high 128 ≡ b → 1 ≤ length (varint_bytes high)) [
      | true ↦ λ e. omega (arith, ap length (varint_bytes-one high (ltb-true high 128 e)))
      | false ↦ λ e. omega (arith, ap length (varint_bytes-more high (omega (arith, ltb-false high 128 e))))
    ]) refl

-- with more tombstones a block is no smaller

tombs_more : (key : List ℕ) (some more : List Pair) → length (flat_map tomb_bytes (map (pair_tomb key) some)) ≤ length (flat_map tomb_bytes (map (pair_tomb key) (some ++ more)))
tombs_more key [] more = omega arith
tombs_more key (pair ∷ some) more =
    let rest = tombs_more key some more in
    omega (
      arith,
      rest,
      length-append (tomb_bytes (pair_tomb key pair)) (flat_map tomb_bytes (map (pair_tomb key) some)),
      length-append (tomb_bytes (pair_tomb key pair)) (flat_map tomb_bytes (map (pair_tomb key) (some ++ more))),
    )

delta_length : (key : List ℕ) (priority : ℕ) (taken : List Pair) → length (delta_bytes (tombs_delta key taken priority)) ≡ length (flat_map tomb_bytes (map (pair_tomb key) taken)) + length (priority_bytes priority)
delta_length key priority taken = length-append (flat_map tomb_bytes (map (pair_tomb key) taken)) (priority_bytes priority)

made_length : (links : List Cid) (delta : Delta) → length (made_bytes links delta) ≡ length (flat_map link_bytes links) + (length (varint_bytes (8 * 1 + 2)) + length (varint_bytes (length (delta_bytes delta))) + length (delta_bytes delta))
made_length links delta =
    let payload : List ℕ = delta_bytes delta in
    omega (
      arith,
      length-append (flat_map link_bytes links) (part_field_bytes 1 payload),
      length-append (varint_bytes (8 * 1 + 2) ++ varint_bytes (length payload)) payload,
      length-append (varint_bytes (8 * 1 + 2)) (varint_bytes (length payload)),
    )

pub size_more : (links : List Cid) (priority : ℕ) (key : List ℕ) (some more : List Pair) → tombs_size links priority key some ≤ tombs_size links priority key (some ++ more)
size_more links priority key some more =
    let short : List ℕ = delta_bytes (tombs_delta key some priority) in
    let long : List ℕ = delta_bytes (tombs_delta key (some ++ more) priority) in
    let less : length short ≤ length long = omega (arith, delta_length key priority some, delta_length key priority (some ++ more), tombs_more key some more) in
    omega (
      arith,
      less,
      varint_within (length long + 1) (length short) (length long) (omega arith) less,
      made_length links (tombs_delta key some priority),
      made_length links (tombs_delta key (some ++ more) priority),
    )

-- two beginnings of one list: one of them begins the other

abbrev pub first_or : {A : Type 0} → A → List A → A
first_or other [] = other
first_or other (x ∷ xs) = x

abbrev rest_of : {A : Type 0} → List A → List A
rest_of [] = []
rest_of (x ∷ xs) = xs

abbrev Begins : {A : Type 0} → List A → List A → List A → List A → Type 0
Begins {A} xs ys xs2 ys2 = (x : A) × (more : List A) × (xs2 ≡ xs ++ x ∷ more) × (ys ≡ x ∷ more ++ ys2)

begins_one : {A : Type 0} (xs ys xs2 ys2 : List A) → xs ++ ys ≡ xs2 ++ ys2 → ((xs ≡ xs2) × (ys ≡ ys2)) ⊎ (Begins xs ys xs2 ys2 ⊎ Begins xs2 ys2 xs ys)
begins_one [] ys [] ys2 e = inl (refl, e)
begins_one [] ys (x ∷ xs2) ys2 e = inr (inl (x, xs2, refl, e))
begins_one (x ∷ xs) ys [] ys2 e = inr (inr (x, xs, refl, sym e))
begins_one (x ∷ xs) ys (y ∷ xs2) ys2 e = over (begins_one xs ys xs2 ys2 (ap rest_of e))
  where
    same : x ≡ y
    same = ap (first_or x) e

    over : ((xs ≡ xs2) × (ys ≡ ys2)) ⊎ (Begins xs ys xs2 ys2 ⊎ Begins xs2 ys2 xs ys) → ((x ∷ xs ≡ y ∷ xs2) × (ys ≡ ys2)) ⊎ (Begins (x ∷ xs) ys (y ∷ xs2) ys2 ⊎ Begins (y ∷ xs2) ys2 (x ∷ xs) ys)
    over (inl (a, b)) = inl ((λ i. same i ∷ a i), b)
    over (inr (inl (z, more, a, b))) = inr (inl (z, more, (λ i. sym same i ∷ a i), b))
    over (inr (inr (z, more, a, b))) = inr (inr (z, more, (λ i. same i ∷ a i), b))

none_first : {A : Type 0} (xs ys : List A) → xs ++ ys ≡ [] → xs ≡ []
none_first [] ys e = refl
none_first (x ∷ xs) ys e = absurd (omega (arith, ap length e))

-- one delta

cut_longer : (links : List Cid) (priority : ℕ) (key : List ℕ) (taken rest taken2 rest2 : List Pair) (delta delta2 : Delta) → IsCut links priority key taken rest delta → IsCut links priority key taken2 rest2 delta2 → Begins taken rest taken2 rest2 → ⊥
cut_longer links priority key taken rest taken2 rest2 delta delta2 a b (next, more, longer, left) =
    let full : block_max < tombs_size links priority key (taken ++ next ∷ []) = full_at rest left a.full in
    let fits : tombs_size links priority key taken2 ≤ block_max = subst (λ (d : Delta). length (made_bytes links d) ≤ block_max) b.made b.fits in
    let same : tombs_size links priority key taken2 ≡ tombs_size links priority key ((taken ++ next ∷ []) ++ more) = ap (tombs_size links priority key) (longer ∙ sym (append_assoc taken (next ∷ []) more)) in
    omega (arith, full, fits, same, size_more links priority key (taken ++ next ∷ []) more)
  where
    full_at : (rest : List Pair) → rest ≡ next ∷ more ++ rest2 → IsFull links priority key taken rest → block_max < tombs_size links priority key (taken ++ next ∷ [])
    full_at rest is full = subst (λ (l : List Pair). IsFull links priority key taken l) is full

cut_one : (links : List Cid) (priority : ℕ) (key : List ℕ) (taken rest taken2 rest2 : List Pair) (delta delta2 : Delta) → IsCut links priority key taken rest delta → IsCut links priority key taken2 rest2 delta2 → taken ++ rest ≡ taken2 ++ rest2 → (delta ≡ delta2) × (rest ≡ rest2)
cut_one links priority key taken rest taken2 rest2 delta delta2 a b e = over (begins_one taken rest taken2 rest2 e)
  where
    over : ((taken ≡ taken2) × (rest ≡ rest2)) ⊎ (Begins taken rest taken2 rest2 ⊎ Begins taken2 rest2 taken rest) → (delta ≡ delta2) × (rest ≡ rest2)
    over (inl (same, left)) = (a.made ∙ ap (λ (l : List Pair). tombs_delta key l priority) same ∙ sym b.made, left)
    over (inr (inl longer)) = absurd (cut_longer links priority key taken rest taken2 rest2 delta delta2 a b longer)
    over (inr (inr longer)) = absurd (cut_longer links priority key taken2 rest2 taken rest delta2 delta b a longer)

-- all deltas

pub cuts_one : (links : List Cid) (priority : ℕ) (key : List ℕ) (pairs : List Pair) (deltas deltas2 : List Delta) → IsCuts links priority key pairs deltas → IsCuts links priority key pairs deltas2 → deltas ≡ deltas2
cuts_one links priority key pairs [] [] a b = refl
cuts_one links priority key pairs [] (delta ∷ deltas) a (taken, rest, split, cut, more) = absurd (cut.some (none_first taken rest (sym split ∙ a)))
cuts_one links priority key pairs (delta ∷ deltas) [] (taken, rest, split, cut, more) b = absurd (cut.some (none_first taken rest (sym split ∙ b)))
cuts_one links priority key pairs (delta ∷ deltas) (delta2 ∷ deltas2) (taken, rest, split, cut, more) (taken2, rest2, split2, cut2, more2) =
    let one = cut_one links priority key taken rest taken2 rest2 delta delta2 cut cut2 (sym split ∙ split2) in
    let rests = cuts_one (made_cid links delta ∷ []) (priority + 1) key rest deltas deltas2 more
    (subst (λ (d : Delta). IsCuts (made_cid links d ∷ []) (priority + 1) key rest deltas2) (sym one.0) (subst (λ (l : List Pair). IsCuts (made_cid links delta2 ∷ []) (priority + 1) key l deltas2) (sym one.1) more2)) in
    λ i. one.0 i ∷ rests i
