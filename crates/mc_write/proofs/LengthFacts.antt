-- The lengths of the blocks of deletes.
use Rattle.std.proofs.Common.{◌≡◌, ℕ, zero, suc, ◌+◌, ◌*◌, ◌/◌, ◌^◌, ◌<◌, ◌≤◌, true, false, not, ◌&&◌, ◌==◌, List, [], ◌∷◌, ◌++◌, length, map, refl, ap, sym, ◌∙◌, arith, length-append}
use Rattle.std.proofs.lemmas.List.{length-map, append-nil}
use Rattle.std.specs.Prelude.{nat_le, codes}
use Rattle.std.proofs.Math.Dec.{ltb}
use Rattle.std.proofs.lemmas.Bool.{leb-true, ltb-true, ltb-false, eqb-true, ne_eqb, and_parts}
use Rattle.std.specs.List.{flat_map, list_all, slice_index}
use Rattle.mc_base.proofs.Digest.{digest_length}
use Rattle.mc_base.specs.Base32.{byte_bits, fives, base32_of, alphabet32}
use Rattle.mc_base.specs.Node.{link_bytes}
use Rattle.mc_base.specs.Wire.{varint_bytes, part_field_bytes}
use Rattle.mc_base.specs.declared.base32.Case.TheVariants.{Upper}
use Rattle.mc_base.specs.declared.cid.Cid.{Cid}
use Rattle.mc_base.proofs.FiveBits.{bits_length}
use Rattle.mc_wire.proofs.Writing.{varint_bytes-one, varint_bytes-more}
use Rattle.mc_model.specs.declared.delta.Delta.{Delta}
use Rattle.mc_model.specs.Cuts.{Pair, pair_tomb, tombs_delta, tombs_size}
use Rattle.mc_model.specs.DeltaText.{tomb_bytes, priority_bytes, delta_bytes}
use Rattle.mc_model.specs.Id.{id_text, multihash_of}
use Rattle.mc_model.specs.Made.{made_bytes, made_cid}
use Rattle.mc_model.specs.Offer.{block_max}
use Rattle.mc_delta.specs.Lengths.{entry_length}
use Rattle.mc_delta.proofs.LengthFacts.{tomb_bytes_len, priority_bytes_len}
use Rattle.mc_key.specs.KeyRule.{is_key, begins, segments, is_empty, is_dots}
use Rattle.mc_write.specs.Lengths.{links_length, field_length, block_length, tomb_length}
use Rattle.mc_write.specs.Pairs.{has_digest, have_digests}

-- the length of an id

fives_length : (bits : List ℕ) → (length bits ≤ 5 * length (fives bits)) × (5 * length (fives bits) ≤ length bits + 4)
unfolding fives
fives_length [] = (omega arith, omega arith)
fives_length (a ∷ []) = (omega arith, omega arith)
fives_length (a ∷ b ∷ []) = (omega arith, omega arith)
fives_length (a ∷ b ∷ c ∷ []) = (omega arith, omega arith)
fives_length (a ∷ b ∷ c ∷ d ∷ []) = (omega arith, omega arith)
fives_length (a ∷ b ∷ c ∷ d ∷ e ∷ bits) = let more = fives_length bits in (omega (arith, more.0), omega (arith, more.1))

pub id_length : (digest : List ℕ) → length digest ≡ 32 → length (id_text digest) ≡ 56
unfolding id_text
id_length digest len =
    let hash : List ℕ = multihash_of digest in
    let bytes : length hash ≡ 34 = omega (arith, len) in
    let groups = fives_length (flat_map byte_bits hash) in
    let text : length (base32_of Upper hash) ≡ length (fives (flat_map byte_bits hash)) = length-map (fives (flat_map byte_bits hash)) (slice_index (alphabet32 Upper)) in
    omega (arith, bytes, bits_length hash, groups.0, groups.1, text, length-append (codes "/") (base32_of Upper hash))

-- the length of a varint

abbrev power128 : ℕ → ℕ
power128 zero = 1
power128 (suc n) = 128 * power128 n

varint_most : (n value : ℕ) → value < power128 (suc n) → length (varint_bytes value) ≤ suc n
varint_most zero value below = omega (arith, ap length (varint_bytes-one value (omega (arith, below))))
varint_most (suc n) value below = (elim (ltb value 128) as (λ b. ltb value 128 ≡ b → length (varint_bytes value) ≤ suc (suc n)) [
  | true ↦ λ e. omega (arith, ap length (varint_bytes-one value (ltb-true value 128 e)))
  | false ↦ λ e.
      let large : 128 ≤ value = omega (arith, ltb-false value 128 e) in
      omega (arith, ap length (varint_bytes-more value large), varint_most n (value / 128) (omega (arith, below)))
]) refl

varint_small : (value : ℕ) → value < 16384 → length (varint_bytes value) ≤ 2
varint_small value below = varint_most 1 value (omega (arith, below))

pub priority_most : (priority : ℕ) → priority < 2 ^ 69 → length (priority_bytes priority) ≤ 11
priority_most priority below = (elim (priority == 0) as (λ b. priority == 0 ≡ b → length (priority_bytes priority) ≤ 11) [
  | true ↦ λ e. rw e (omega arith)
  | false ↦ λ e. omega (arith, priority_bytes_len priority (λ z. absurd (let f : true ≡ false = sym (ap (λ (p : ℕ). p == 0) z) ∙ e in cc)), varint_most 9 priority (omega (arith, below)))
]) refl

-- the length of a key

pub key_length : (key : List ℕ) → is_key key ≡ true → (1 ≤ length key) × (length key ≤ 1024)
key_length [] e = absurd (let f : false ≡ true = e in cc)
key_length (byte ∷ key) e =
    let parts = and_parts (begins (byte ∷ key) && nat_le (length (byte ∷ key)) 1024) (list_all (λ segment. not (is_empty segment) && not (is_dots segment)) (segments (byte ∷ key))) e in
    let within = and_parts (begins (byte ∷ key)) (nat_le (length (byte ∷ key)) 1024) parts.0 in
    (omega arith, leb-true (length (byte ∷ key)) 1024 within.1)

-- the length of a tombstone

pub tomb_bytes_length : (key : List ℕ) (pair : Pair) → 1 ≤ length key → has_digest pair.cid ≡ true → length (tomb_bytes (pair_tomb key pair)) ≡ tomb_length (length key)
tomb_bytes_length key pair some digest =
    let id : length (id_text pair.cid.0) ≡ 56 = id_length pair.cid.0 (eqb-true (length pair.cid.0) 32 digest) in
    let entry : entry_length (length key) 56 0 ≡ field_length (length key) + field_length 56 = rw (ne_eqb (length key) 0 (λ e. omega (arith, some, e))) (omega arith) in
    tomb_bytes_len (pair_tomb key pair) ∙ ap (λ (n : ℕ). field_length (entry_length (length key) n 0)) id ∙ ap field_length entry

tombs_length : (key : List ℕ) (taken : List Pair) → 1 ≤ length key → have_digests taken ≡ true → length (flat_map tomb_bytes (map (pair_tomb key) taken)) ≡ length taken * tomb_length (length key)
tombs_length key [] some digests = omega arith
tombs_length key (pair ∷ taken) some digests =
    let parts = and_parts (has_digest pair.cid) (have_digests taken) digests in
    omega (arith, length-append (tomb_bytes (pair_tomb key pair)) (flat_map tomb_bytes (map (pair_tomb key) taken)), tomb_bytes_length key pair some parts.0, tombs_length key taken some parts.1)

-- the length of a block

pub made_length : (links : List Cid) (delta : Delta) → length (made_bytes links delta) ≡ block_length (links_length links) (length (delta_bytes delta))
made_length links delta =
    let payload : List ℕ = delta_bytes delta in
    let key : length (varint_bytes (8 * 1 + 2)) ≡ 1 = ap length (varint_bytes-one (8 * 1 + 2) (omega arith)) in
    omega (
      arith,
      length-append (flat_map link_bytes links) (part_field_bytes 1 payload),
      length-append (varint_bytes (8 * 1 + 2) ++ varint_bytes (length payload)) payload,
      length-append (varint_bytes (8 * 1 + 2)) (varint_bytes (length payload)),
      key,
    )

pub size_is : (links : List Cid) (priority : ℕ) (key : List ℕ) (taken : List Pair) → 1 ≤ length key → have_digests taken ≡ true →
    tombs_size links priority key taken ≡ block_length (links_length links) (length (priority_bytes priority) + length taken * tomb_length (length key))
size_is links priority key taken some digests =
    made_length links (tombs_delta key taken priority)
    ∙ ap (block_length (links_length links)) (omega (arith, length-append (flat_map tomb_bytes (map (pair_tomb key) taken)) (priority_bytes priority), tombs_length key taken some digests))

-- the link to a made block

pub made_link : (links : List Cid) (delta : Delta) → links_length (made_cid links delta ∷ []) ≡ 44
made_link links delta =
    let link : Cid = made_cid links delta in
    ap length (append-nil (link_bytes link)) ∙ omega (arith, length-append link.0 (0x12 ∷ 0x00 ∷ 0x18 ∷ 0x00 ∷ []), digest_length (made_bytes links delta))

-- a block with one link has room for a tombstone

pub one_fits : (links : List Cid) (priority : ℕ) (key : List ℕ) (pair : Pair) → links_length links ≡ 44 → priority < 2 ^ 69 → 1 ≤ length key → length key ≤ 1024 → has_digest pair.cid ≡ true →
    tombs_size links priority key (pair ∷ []) ≤ block_max
one_fits links priority key pair one below some short digest =
    let size = size_is links priority key (pair ∷ []) some (rw digest refl) in
    let inner : field_length (length key) ≤ 1027 = omega (arith, varint_small (length key) (omega (arith, short))) in
    let id : field_length 56 ≤ 59 = omega (arith, varint_small 56 (omega arith)) in
    let tomb : tomb_length (length key) ≤ 1089 = omega (arith, inner, id, varint_small (field_length (length key) + field_length 56) (omega (arith, inner, id))) in
    let delta : length (priority_bytes priority) + 1 * tomb_length (length key) ≤ 1100 = omega (arith, tomb, priority_most priority below) in
    omega (arith, size, one, delta, varint_small (length (priority_bytes priority) + 1 * tomb_length (length key)) (omega (arith, delta)))
