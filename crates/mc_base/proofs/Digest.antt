-- What the length and the bytes of a digest are.
use Rattle.std.proofs.Common.{◌≡◌, ◌<◌, ℕ, zero, suc, List, [], ◌∷◌, ◌++◌, length, arith}
use Rattle.std.specs.Prelude.{slice_index}
use Rattle.std.specs.Int.{w32, to_be_bytes}
use Rattle.std.specs.List.{AllByRecursion}
use Rattle.sha2.specs.Sha256.{sha256, digest_bytes}
use Rattle.sha2.proofs.Facts256.{length-sha256}
use Rattle.mc_base.specs.Cid.{digest_of}

-- a digest has 32 bytes
pub digest_length : (bytes : List ℕ) → length (sha256 bytes) ≡ 32
digest_length = length-sha256

abbrev pub AreBytes : List ℕ → Type 0
AreBytes bytes = AllByRecursion (λ byte. byte < 256) bytes

bytes_append : (xs ys : List ℕ) → AreBytes xs → AreBytes ys → AreBytes (xs ++ ys)
bytes_append [] ys p q = q
bytes_append (x ∷ xs) ys p q = (p.0, bytes_append xs ys p.1 q)

word_bytes : (word : ℕ) → AreBytes (to_be_bytes w32 word)
word_bytes word = (omega arith, (omega arith, (omega arith, (omega arith, tt))))

some_bytes : (words : List ℕ) (n : ℕ) → AreBytes (digest_bytes words n)
unfolding digest_bytes
some_bytes words zero = tt
some_bytes words (suc n) = bytes_append (digest_bytes words n) (to_be_bytes w32 (slice_index words n)) (some_bytes words n) (word_bytes (slice_index words n))

-- each of them is below 256
pub digest_bytes_below : (bytes : List ℕ) → AreBytes (digest_of bytes)
unfolding sha256
digest_bytes_below bytes = some_bytes _ 8
