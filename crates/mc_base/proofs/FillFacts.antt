-- Filling a buffer with bytes that come over and over.
use Rattle.std.proofs.Common.{◌≡◌, ◌≢◌, inl, inr, ℕ, ◌+◌, ◌%◌, ◌<◌, List, length, slice_set, refl, sym, ap, ◌∙◌, arith}
use Rattle.std.specs.List.{slice_index}
use Rattle.std.proofs.lemmas.Bool.{cases_lt}
use Rattle.std.proofs.lemmas.Grind.{get_or-set_at}
use Rattle.std.proofs.lemmas.List.{get_or-set_other, length-set}
use Rattle.std.proofs.Math.Nat.{mod-add-mod, mod-eq_of_lt, mod-lt, mod_self}

-- the first i bytes of a buffer of this length are filled, and the next one is at this place
pub record IsFilling (bytes : List ℕ) (first : ℕ) (into : List ℕ) (len i at : ℕ) : Type 0 where
  pub next : at ≡ (first + i) % length bytes
  pub within : at < length bytes
  pub room : length into ≡ len
  pub so_far : (j : ℕ) → j < i → slice_index into j ≡ slice_index bytes ((first + j) % length bytes)

pub fill_begun : (bytes : List ℕ) (first : ℕ) (into : List ℕ) → first < length bytes → IsFilling bytes first into (length into) 0 first
fill_begun bytes first into below =
    let same : first + 0 ≡ first = omega arith in
    record { next = rw same (sym (mod-eq_of_lt below)); within = below; room = refl; so_far = λ j none. absurd (omega (arith, none)) }

-- one byte more
pub fill_next : (bytes : List ℕ) (first : ℕ) (into : List ℕ) (len i at byte : ℕ) → IsFilling bytes first into len i at → i < len → byte ≡ slice_index bytes at
    → IsFilling bytes first (slice_set into i byte) len (i + 1) ((at + 1) % length bytes)
fill_next bytes first into len i at byte filling less is = record {
  next = ap (λ (place : ℕ). (place + 1) % length bytes) filling.next ∙ mod-add-mod (first + i) (length bytes) 1 ∙ ap (λ (place : ℕ). place % length bytes) after;
  within = mod-lt (at + 1) (omega (arith, filling.within));
  room = length-set into i byte ∙ filling.room;
  so_far = more;
}
  where
    after : first + i + 1 ≡ first + (i + 1)
    after = omega arith

    more : (j : ℕ) → j < i + 1 → slice_index (slice_set into i byte) j ≡ slice_index bytes ((first + j) % length bytes)
    more j below = elim (cases_lt j i) [
      | inl earlier ↦ get_or-set_other into i j byte 0 (λ same. omega (arith, earlier, same)) ∙ filling.so_far j earlier
      | inr last ↦
          let same : j ≡ i = omega (arith, below, last) in
          get_or-set_at into i j byte 0 same (omega (arith, less, filling.room)) ∙ is ∙ ap (slice_index bytes) (filling.next ∙ ap (λ (k : ℕ). (first + k) % length bytes) (sym same))
    ]

-- the place after another, at the end and before it
pub begins_again : (at len : ℕ) → at + 1 ≡ len → 0 ≡ (at + 1) % len
begins_again at len same = rw same (sym (mod_self len))

pub goes_on : (at len : ℕ) → at < len → at + 1 ≢ len → at + 1 ≡ (at + 1) % len
goes_on at len below other = sym (mod-eq_of_lt (omega (arith, below, other)))
