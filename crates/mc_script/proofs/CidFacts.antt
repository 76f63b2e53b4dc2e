-- The text of an identifier.
use Rattle.std.proofs.Common.{◌≡◌, ℕ, zero, suc, ◌<◌, inl, inr, Bool, true, ◌&&◌, List, [], ◌∷◌, ◌++◌, map, slice_index, refl, arith}
use Rattle.std.specs.List.{AllByRecursion, flat_map, list_all}
use Rattle.std.proofs.lemmas.Bool.{and_parts, cases_lt}
use Rattle.std.proofs.lemmas.List.Elements.{recursion_from_All}
use Rattle.mc_base.specs.Base32.{alphabet32, byte_bits, fives}
use Rattle.mc_base.specs.Cid.{cid_prefix}
use Rattle.mc_base.specs.declared.base32.Case.TheVariants.{Lower}
use Rattle.mc_base.specs.declared.cid.Cid.{Cid}
use Rattle.mc_cidtext.specs.CidText.{cid_text}
use Rattle.mc_script.specs.ReplyText.{IsDigest}

-- the bits of bytes, and their groups of five
abbrev AreBits : List ℕ → Type 0
AreBits bits = AllByRecursion (λ bit. bit < 2) bits

bits_are : (bytes : List ℕ) → AllByRecursion (λ byte. byte < 256) bytes → AreBits (flat_map byte_bits bytes)
bits_are [] all = tt
bits_are (byte ∷ bytes) all =
    let small = all.0 in
    (omega (arith, small), (omega arith, (omega arith, (omega arith, (omega arith, (omega arith, (omega arith, (omega arith, bits_are bytes all.1))))))))

fives_small : (bits : List ℕ) → AreBits bits → AllByRecursion (λ value. value < 32) (fives bits)
unfolding fives
fives_small [] h = tt
fives_small (a ∷ []) h = (omega (arith, h.0), tt)
fives_small (a ∷ b ∷ []) h = (omega (arith, h.0, h.1.0), tt)
fives_small (a ∷ b ∷ c ∷ []) h = (omega (arith, h.0, h.1.0, h.1.1.0), tt)
fives_small (a ∷ b ∷ c ∷ d ∷ []) h = (omega (arith, h.0, h.1.0, h.1.1.0, h.1.1.1.0), tt)
fives_small (a ∷ b ∷ c ∷ d ∷ e ∷ bits) h = (omega (arith, h.0, h.1.0, h.1.1.0, h.1.1.1.0, h.1.1.1.1.0), fives_small bits h.1.1.1.1.1)

-- the test of the first n digits, which computes
abbrev pub all_letters : (ℕ → Bool) → ℕ → Bool
all_letters test zero = true
all_letters test (suc n) = test (slice_index (alphabet32 Lower) n) && all_letters test n

letter_at : (test : ℕ → Bool) (n k : ℕ) → all_letters test n ≡ true → k < n → test (slice_index (alphabet32 Lower) k) ≡ true
letter_at test zero k h lt = absurd (omega arith)
letter_at test (suc n) k h lt =
    let parts = and_parts (test (slice_index (alphabet32 Lower) n)) (all_letters test n) h in
    elim (cases_lt k n) [
      | inl below ↦ letter_at test n k parts.1 below
      | inr top ↦
          let e : k ≡ n = omega arith in
          rw e parts.0
    ]

letters_pass : (test : ℕ → Bool) → all_letters test 32 ≡ true → (values : List ℕ) → AllByRecursion (λ value. value < 32) values → list_all test (map (slice_index (alphabet32 Lower)) values) ≡ true
letters_pass test letters [] all = refl
letters_pass test letters (value ∷ values) all = rw (letter_at test 32 value letters all.0, letters_pass test letters values all.1) refl

prefix_and : (digest : List ℕ) → AllByRecursion (λ byte. byte < 256) digest → AllByRecursion (λ byte. byte < 256) (cid_prefix ++ digest)
prefix_and digest all = (omega arith, (omega arith, (omega arith, (omega arith, all))))

-- each byte of a text passes a test that `b` and every digit pass
pub cid_passes : (test : ℕ → Bool) → test 98 ≡ true → all_letters test 32 ≡ true → (cid : Cid) → IsDigest cid → list_all test (cid_text cid.0) ≡ true
cid_passes test first letters cid is =
    rw (
      first,
      letters_pass test letters (fives (flat_map byte_bits (cid_prefix ++ cid.0)))
          (fives_small (flat_map byte_bits (cid_prefix ++ cid.0)) (bits_are (cid_prefix ++ cid.0) (prefix_and cid.0 (recursion_from_All (λ (byte : ℕ). byte < 256) cid.0 is.1)))),
    ) refl
