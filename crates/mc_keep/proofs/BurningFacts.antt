-- A fuse over many commits.
use Rattle.std.proofs.Common.{◌≡◌, ℕ, zero, suc, ◌+◌, ◌-◌, ◌<◌, ◌≤◌, Bool, true, false, refl, ◌∙◌, ap, arith, Option, None, Some}
use Rattle.std.specs.Prelude.{nat_lt, if◌then◌else◌}
use Rattle.std.proofs.lemmas.Bool.Decides.{nat_tests}
use Rattle.mc_keep.specs.declared.fuse.Fuse.{Fuse}
use Rattle.mc_keep.specs.Burning.{burnt_by}
use Rattle.mc_keep.specs.Causes.{burnt, fires}

abbrev armed : ℕ → Bool → Option Fuse
armed k after = Some (record { commit = k; after = after })

is_low : (k : ℕ) → 1 < k → nat_lt 1 k ≡ true
is_low k h = grind (arith, nat_tests, h)

is_high : (k : ℕ) → k ≤ 1 → nat_lt 1 k ≡ false
is_high k h = grind (arith, nat_tests, h)

-- one commit

burns : (k : ℕ) (after : Bool) → 1 < k → burnt (armed k after) ≡ armed (k - 1) after
burns k after h = ap (λ (t : Bool). if t then armed (k - 1) after else None) (is_low k h)

waits : (k : ℕ) (after : Bool) → 1 < k → fires (armed k after) ≡ None
waits k after h = ap (λ (t : Bool). if t then None else Some after) (is_low k h)

spends : (k : ℕ) (after : Bool) → k ≤ 1 → burnt (armed k after) ≡ None
spends k after h = ap (λ (t : Bool). if t then armed (k - 1) after else None) (is_high k h)

-- many commits

none_left : (commits : ℕ) → burnt_by commits None ≡ None
none_left zero = refl
none_left (suc commits) = none_left commits

left : (commits k : ℕ) (after : Bool) → commits < k → burnt_by commits (armed k after) ≡ armed (k - commits) after
left zero k after h = ap (λ (n : ℕ). armed n after) (same k)
  where
    same : (k : ℕ) → k ≡ k - 0
    same k = omega arith
left (suc commits) k after h =
    ap (burnt_by commits) (burns k after (above commits k h)) ∙ left commits (k - 1) after (below commits k h) ∙ ap (λ (n : ℕ). armed n after) (fewer commits k)
  where
    above : (commits k : ℕ) → suc commits < k → 1 < k
    above commits k h = omega (arith, h)

    below : (commits k : ℕ) → suc commits < k → commits < k - 1
    below commits k h = omega (arith, h)

    fewer : (commits k : ℕ) → k - 1 - commits ≡ k - suc commits
    fewer commits k = omega arith

pub fires_not_before : (k commits : ℕ) (after : Bool) → commits + 1 < k → fires (burnt_by commits (armed k after)) ≡ None
fires_not_before k commits after h = ap fires (left commits k after (omega (arith, h))) ∙ waits (k - commits) after (omega (arith, h))

pub fires_at : (k : ℕ) (after : Bool) → fires (burnt_by k (armed (k + 1) after)) ≡ Some after
fires_at k after = ap fires (left k (k + 1) after (omega arith) ∙ ap (λ (n : ℕ). armed n after) (one k))
  where
    one : (k : ℕ) → k + 1 - k ≡ 1
    one k = omega arith

pub spent_after : (k commits : ℕ) (after : Bool) → 1 ≤ k → k ≤ commits → burnt_by commits (armed k after) ≡ None
spent_after k zero after low high = absurd (omega (arith, low, high))
spent_after k (suc commits) after low high = elim (nat_lt 1 k) as (λ t. nat_lt 1 k ≡ t → burnt_by commits (burnt (armed k after)) ≡ None) [
  | true ↦ λ e. ap (burnt_by commits) (burns k after (above k e)) ∙ spent_after (k - 1) commits after (one_left k e) (no_more k commits e high)
  | false ↦ λ e. ap (burnt_by commits) (spends k after (no_more_than_one k e)) ∙ none_left commits
] refl
  where
    above : (k : ℕ) → nat_lt 1 k ≡ true → 1 < k
    above k e = grind (arith, nat_tests, e)

    one_left : (k : ℕ) → nat_lt 1 k ≡ true → 1 ≤ k - 1
    one_left k e = let more = above k e in omega (arith, more)

    no_more : (k commits : ℕ) → nat_lt 1 k ≡ true → k ≤ suc commits → k - 1 ≤ commits
    no_more k commits e high = let more = above k e in omega (arith, more, high)

    no_more_than_one : (k : ℕ) → nat_lt 1 k ≡ false → k ≤ 1
    no_more_than_one k e = grind (arith, nat_tests, e)
