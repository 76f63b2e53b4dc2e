-- What is written for a node is one.
use Rattle.std.proofs.Common.{◌≡◌, ℕ, ◌+◌, ◌*◌, ◌<◌, ◌≤◌, ◌^◌, List, [], ◌∷◌, ◌++◌, length, map, true, refl, ap, sym, arith, append_assoc, length-append, Some, inr}
use Rattle.std.proofs.lemmas.Bool.{eqb-true, and_parts}
use Rattle.std.proofs.lemmas.List.{append-nil}
use Rattle.std.proofs.lemmas.Str.{is_utf8-from_IsUtf8, IsUtf8-nil}
use Rattle.std.specs.Str.{is_utf8}
use Rattle.std.specs.List.{list_all, flat_map}
use Rattle.std.specs.Prelude.{IsTrue}
use Rattle.mc_base.specs.Wire.{Fields, IsVarint, IsPiece, Varint, Part, varint_bytes, part_field_bytes}
use Rattle.mc_base.specs.Node.{IsLink, AreLinks, IsNode, link_field, data_field, link_bytes, node_bytes}
use Rattle.mc_base.specs.declared.cid.Cid.{Cid}
use Rattle.mc_wire.proofs.WrittenFacts.{part_field_is_written}
use Rattle.mc_wire.proofs.Writing.{varint_bytes-one}
use Rattle.mc_dagpb.specs.Written.{cid_bytes, has_digest}

-- a varint of one byte
one_byte : (value : ℕ) → value < 128 → IsVarint (value ∷ []) value
one_byte value small = record { first = []; last = value; parts = refl; first_go_on = refl; last_ends = small; at_most_ten = omega arith; tenth_fits = λ nine. absurd (omega arith); sum = omega arith }

short_part : (number key size : ℕ) (part : List ℕ) → 1 ≤ number → key ≡ 8 * number + 2 → key < 128 → size ≡ length part → size < 128 → IsPiece (key ∷ size ∷ part) (record { number = number; content = Part part })
short_part number key size part some key_is key_small size_is size_small = record {
  key = key ∷ [];
  body = size ∷ part;
  parts = refl;
  numbered = some;
  key_is = rw (← key_is) (one_byte key key_small);
  body_is = (size ∷ [], refl, rw (← size_is) (one_byte size size_small));
}

short_varint : (number key value : ℕ) → 1 ≤ number → key ≡ 8 * number + 0 → key < 128 → value < 128 → IsPiece (key ∷ value ∷ []) (record { number = number; content = Varint value })
short_varint number key value some key_is key_small value_small = record {
  key = key ∷ [];
  body = value ∷ [];
  parts = refl;
  numbered = some;
  key_is = rw (← key_is) (one_byte key key_small);
  body_is = one_byte value value_small;
}

-- the body of a written link
abbrev body_of : Cid → List ℕ
body_of cid = 0x0a ∷ 0x24 ∷ (cid_bytes cid ++ 0x12 ∷ 0x00 ∷ 0x18 ∷ 0x00 ∷ [])

hash_len : (cid : Cid) → has_digest cid ≡ true → length (cid_bytes cid) ≡ 36
hash_len cid digest = let len : length cid.0 ≡ 32 = eqb-true (length cid.0) 32 digest in omega (arith, len)

body_len : (cid : Cid) → has_digest cid ≡ true → length (body_of cid) ≡ 42
body_len cid digest = omega (arith, length-append (cid_bytes cid) (0x12 ∷ 0x00 ∷ 0x18 ∷ 0x00 ∷ []), hash_len cid digest)

link_is_written : (cid : Cid) → has_digest cid ≡ true → IsLink (body_of cid) (cid_bytes cid)
link_is_written cid digest =
    let len : 0x24 ≡ length (cid_bytes cid) = sym (hash_len cid digest) in
    let empty : is_utf8 [] ≡ true = is_utf8-from_IsUtf8 [] IsUtf8-nil in
    record {
      fields = record { number = 1; content = Part (cid_bytes cid) } ∷ record { number = 2; content = Part [] } ∷ record { number = 3; content = Varint 0 } ∷ [];
      others = record { number = 2; content = Part [] } ∷ record { number = 3; content = Varint 0 } ∷ [];
      parts = (
        0x0a ∷ 0x24 ∷ cid_bytes cid,
        0x12 ∷ 0x00 ∷ 0x18 ∷ 0x00 ∷ [],
        refl,
        short_part 1 0x0a 0x24 (cid_bytes cid) (omega arith) (omega arith) (omega arith) len (omega arith),
        (
          0x12 ∷ 0x00 ∷ [],
          0x18 ∷ 0x00 ∷ [],
          refl,
          short_part 2 0x12 0x00 [] (omega arith) (omega arith) (omega arith) refl (omega arith),
          (0x18 ∷ 0x00 ∷ [], [], refl, short_varint 3 0x18 0x00 (omega arith) (omega arith) (omega arith) (omega arith), refl),
        ),
      );
      hash_first = refl;
      ascending = (omega arith, (omega arith, (omega arith, tt)));
      allowed = rw empty;
    }

links_are_written : (links : List Cid) → IsTrue (list_all has_digest links) → AreLinks (map body_of links) (map cid_bytes links)
links_are_written [] digests = tt
links_are_written (cid ∷ links) digests =
    let parts = and_parts (has_digest cid) (list_all has_digest links) digests in
    (link_is_written cid parts.0, links_are_written links parts.1)

fields_are_written : (links : List Cid) (payload : List ℕ) → IsTrue (list_all has_digest links) → length payload < 2 ^ 64 →
    Fields (node_bytes links payload) (map link_field (map body_of links) ++ data_field payload ∷ [])
fields_are_written [] payload digests fits = (part_field_bytes 1 payload, [], sym (append-nil (part_field_bytes 1 payload)), part_field_is_written 1 payload (omega arith) (omega arith) fits, refl)
fields_are_written (cid ∷ links) payload digests fits =
    let parts = and_parts (has_digest cid) (list_all has_digest links) digests in
    let len : 0x2a ≡ length (body_of cid) = sym (body_len cid parts.0) in (
      link_bytes cid,
      node_bytes links payload,
      append_assoc (link_bytes cid) (flat_map link_bytes links) (part_field_bytes 1 payload),
      short_part 2 0x12 0x2a (body_of cid) (omega arith) (omega arith) (omega arith) len (omega arith),
      fields_are_written links payload parts.1 fits,
    )

-- the written node has these links and this payload
pub node_is_written : (links : List Cid) (payload : List ℕ) → IsTrue (list_all has_digest links) → length payload < 2 ^ 64 → IsNode (node_bytes links payload) (map cid_bytes links) (Some payload)
node_is_written links payload digests fits = record {
  fields = map link_field (map body_of links) ++ data_field payload ∷ [];
  bodies = map body_of links;
  parts = fields_are_written links payload digests fits;
  ordered = inr refl;
  linked = links_are_written links digests;
}

links_len : (links : List Cid) → IsTrue (list_all has_digest links) → length (flat_map link_bytes links) ≡ 44 * length links
links_len [] digests = refl
links_len (cid ∷ links) digests =
    let parts = and_parts (has_digest cid) (list_all has_digest links) digests in
    omega (arith, length-append (link_bytes cid) (flat_map link_bytes links), body_len cid parts.0, links_len links parts.1)

-- the length of the written node
pub node_bytes_len : (links : List Cid) (payload : List ℕ) → IsTrue (list_all has_digest links) →
    length (node_bytes links payload) ≡ 44 * length links + 1 + length (varint_bytes (length payload)) + length payload
node_bytes_len links payload digests =
    let key : length (varint_bytes (8 * 1 + 2)) ≡ 1 = ap length (varint_bytes-one (8 * 1 + 2) (omega arith)) in
    omega (
      arith,
      length-append (flat_map link_bytes links) (part_field_bytes 1 payload),
      length-append (varint_bytes (8 * 1 + 2) ++ varint_bytes (length payload)) payload,
      length-append (varint_bytes (8 * 1 + 2)) (varint_bytes (length payload)),
      key,
      links_len links digests,
    )
