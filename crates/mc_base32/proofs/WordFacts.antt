-- Digits put together into one number.
use Rattle.std.proofs.Common.{◌≡◌, ℕ, ◌+◌, ◌*◌, ◌^◌, ◌<◌, ◌≤◌, List, drop, map, arith, add-one, refl}
use Rattle.std.proofs.Math.Nat.{pow-le-pow_right, pow-succ'}
use Rattle.mc_base.specs.declared.base32.Case.{Case}
use Rattle.mc_base32.specs.Reading.{digit_value, first_bad, number32}

-- some digits are put together, and the others are not bad before they are looked at
pub record IsPutTogether (case : Case) (digits : List ℕ) (at place word index : ℕ) : Type 0 where
  pub where_it_is : place ≡ at + index
  pub small : word < 32 ^ index
  pub bad : first_bad case place (drop index digits) ≡ first_bad case at digits
  pub number : number32 word (map (digit_value case) (drop index digits)) ≡ number32 0 (map (digit_value case) digits)

-- one more digit fits
pub fits : (word index value : ℕ) → word < 32 ^ index → index < 8 → value < 32 → (word * 32 + value < 32 ^ (index + 1)) × (32 ^ (index + 1) ≤ 2 ^ 40)
fits word index value small h below =
    let p : 32 ^ (index + 1) ≤ 32 ^ 8 = pow-le-pow_right {n = 32} (omega arith) {i = index + 1} {j = 8} (omega arith) in
    let q : 32 ^ (index + 1) ≡ 32 * 32 ^ index = rw (add-one, pow-succ') refl in
    (omega arith, omega arith)
