-- A file by its relation is the one that is read.
use Rattle.std.proofs.Common.{◌≡◌, ℕ, ◌+◌, ◌-◌, ◌<◌, ◌≤◌, List, [], ◌∷◌, ◌++◌, length, take, drop, Some, Ok, refl, sym, ap, ◌∙◌, subst, arith, true, false, append_assoc}
use Rattle.std.specs.Prelude.{nat_lt, if◌then◌else◌, option_map}
use Rattle.std.specs.List.{flat_map, list_all}
use Rattle.std.proofs.lemmas.Bool.{and_parts, eqb-true, lt-ltb, le-ltb}
use Rattle.std.proofs.lemmas.List.{take-append-le, drop-append-le, take_all, drop_all, length-append}
use Rattle.std.proofs.lemmas.Slice.Eq.{bytes_eq-Decides}
use Rattle.mc_base.specs.Cid.{CidsAreRead, digest_of}
use Rattle.mc_base.specs.declared.cid.Cid.{Cid}
use Rattle.mc_base.proofs.Digest.{digest_length}
use Rattle.mc_model.specs.Offer.{cid_of_bytes}
use Rattle.mc_car.specs.declared.car.Car.{Car}
use Rattle.mc_car.specs.declared.car.Section.{Section}
use Rattle.mc_car.specs.Car.{AreSections, IsCar, IsPiece, array_head, cid_bytes, has_digest, header_bytes, header_end, is_named, root_bytes, section_body}
use Rattle.mc_car.specs.CarRead.{car_after, car_of, car_with, cid_and_rest, count_of, header_of, onto_sections, piece_len, piece_of, root_of, roots_from, section_in, section_named, section_of, sections_at, sections_past}
use Rattle.mc_car.proofs.Fronts.{piece_read}
use Rattle.mc_car.proofs.Sections.{first_past}

-- what stands in front of something is taken, and the rest dropped
taken : {A : Type 0} (n : ℕ) (xs ys : List A) → length xs ≡ n → take n (xs ++ ys) ≡ xs
taken n xs ys len = take-append-le n xs ys (omega (arith, len)) ∙ take_all n xs (omega (arith, len))

pub dropped : {A : Type 0} (n : ℕ) (xs ys : List A) → length xs ≡ n → drop n (xs ++ ys) ≡ ys
dropped n xs ys len = drop-append-le n xs ys (omega (arith, len)) ∙ ap (λ z. z ++ ys) (drop_all n xs (omega (arith, len)))

pub cid_len : (cid : Cid) → length cid.0 ≡ 32 → length (cid_bytes cid) ≡ 36
cid_len cid len = omega (arith, len)

cid_named : CidsAreRead → (cid : Cid) → length cid.0 ≡ 32 → cid_of_bytes (cid_bytes cid) ≡ Some cid
cid_named read cid len = rw (read cid.0 len) refl

front_cid : CidsAreRead → (cid : Cid) (rest : List ℕ) → length cid.0 ≡ 32 → cid_and_rest (cid_bytes cid ++ rest) ≡ Some (cid, rest)
front_cid read cid rest len =
    ap (λ z. option_map (λ (c : Cid). (c, drop 36 (cid_bytes cid ++ rest))) (cid_of_bytes z)) (taken 36 (cid_bytes cid) rest (cid_len cid len))
    ∙ ap (λ z. option_map (λ (c : Cid). (c, z)) (cid_of_bytes (cid_bytes cid))) (dropped 36 (cid_bytes cid) rest (cid_len cid len))
    ∙ ap (option_map (λ (c : Cid). (c, rest))) (cid_named read cid len)

-- roots
count_read : (count : ℕ) (xs ys : List ℕ) → count ≤ 255 → count_of ((array_head count ++ xs) ++ ys) ≡ Some (count, xs ++ ys)
count_read count xs ys few =
    elim (nat_lt count 24) as (λ b. nat_lt count 24 ≡ b → count_of (((if b then (0x80 + count) ∷ [] else (0x98 ∷ count ∷ [])) ++ xs) ++ ys) ≡ Some (count, xs ++ ys)) [
      | true ↦ λ e.
          let small : count < 24 = grind (arith, e) in
          let first : nat_lt (0x80 + count) 0x80 ≡ false = le-ltb (0x80 + count) 0x80 (omega arith) in
          let second : nat_lt (0x80 + count) 0x98 ≡ true = lt-ltb (0x80 + count) 0x98 (omega (arith, small)) in
          let same : 0x80 + count - 0x80 ≡ count = omega arith in
          rw (first, second, same) refl
      | false ↦ λ e. rw e refl
    ] refl

root_read : CidsAreRead → (root : Cid) (xs ys : List ℕ) → length root.0 ≡ 32 → root_of ((root_bytes root ++ xs) ++ ys) ≡ Some (root, xs ++ ys)
root_read read root xs ys len = ap cid_and_rest (append_assoc (cid_bytes root) xs ys) ∙ front_cid read root (xs ++ ys) len

roots_read : CidsAreRead → (roots : List Cid) → list_all has_digest roots ≡ true → roots_from (length roots) (flat_map root_bytes roots ++ header_end) ≡ Some roots
roots_read read [] digests = refl
roots_read read (root ∷ roots) digests =
    let parts = and_parts (has_digest root) (list_all has_digest roots) digests in
    rw (root_read read root (flat_map root_bytes roots) header_end (eqb-true (length root.0) 32 parts.0), roots_read read roots parts.1) refl

header_read : CidsAreRead → (roots : List Cid) → length roots ≤ 255 → list_all has_digest roots ≡ true → header_of (header_bytes roots) ≡ Ok roots
header_read read roots few digests = rw (count_read (length roots) (flat_map root_bytes roots) header_end few, roots_read read roots digests) refl

-- sections
named_len : (section : Section) → is_named section ≡ true → length section.cid.0 ≡ 32
named_len section named = subst (λ (z : List ℕ). length z ≡ 32) ((bytes_eq-Decides (digest_of section.bytes) section.cid.0).0 named) (digest_length section.bytes)

section_read : CidsAreRead → (at : ℕ) (section : Section) → is_named section ≡ true → section_of at (section_body section) ≡ Ok section
section_read read at section named = ap (section_named at) (front_cid read section.cid section.bytes (named_len section named)) ∙ rw named refl

pub sections_read : CidsAreRead → (at : ℕ) (text : List ℕ) (sections : List Section) → AreSections text sections → list_all is_named sections ≡ true → sections_past 0 at text ≡ Ok sections
sections_read read at text [] are named = rw are refl
sections_read read at text (section ∷ sections) are named =
    let parts = and_parts (is_named section) (list_all is_named sections) named in
    let piece = are.0 in
    let rest = are.1 in
    let is : IsPiece piece (section_body section) = are.3 in
    let n = length piece in
    let found = piece_read at piece (section_body section) rest is in
    let size : length is.size + length (section_body section) ≡ n = sym (length-append is.size (section_body section)) ∙ ap length (sym is.parts) in
    let long : 0 < n = omega (arith, size, cid_len section.cid (named_len section parts.0), length-append (cid_bytes section.cid) section.bytes) in
    let some : 0 < length (piece ++ rest) = omega (arith, long, length-append piece rest) in
    ap (sections_past 0 at) are.2
    ∙ first_past at (piece ++ rest) n some long (ap piece_len found ∙ size)
    ∙ ap (λ p. onto_sections (section_in at p) (sections_past 0 (at + n) (drop n (piece ++ rest)))) found
    ∙ ap (λ s. onto_sections s (sections_past 0 (at + n) (drop n (piece ++ rest)))) (section_read read at section parts.0)
    ∙ ap (λ z. onto_sections (Ok section) (sections_past 0 (at + n) z)) (dropped n piece rest refl)
    ∙ ap (onto_sections (Ok section)) (sections_read read (at + n) rest sections are.4 parts.1)

-- files
pub car_read : CidsAreRead → (text : List ℕ) (car : Car) → IsCar text car → car_of text ≡ Ok car
unfolding sections_at
car_read read text car is =
    let s = is.spelled in
    let body = header_bytes car.roots in
    let found : piece_of 0 text ≡ Ok (record { size = length s.header_is.size; body = body }) = ap (piece_of 0) s.parts ∙ piece_read 0 s.header body s.rest s.header_is in
    let n = length s.header_is.size + length body in
    let size : length s.header ≡ n = ap length s.header_is.parts ∙ length-append s.header_is.size body in
    let rest : drop n text ≡ s.rest = ap (drop n) s.parts ∙ dropped n s.header s.rest size in
    ap (λ p. car_after p text) found
    ∙ ap (λ r. car_with r (sections_past 0 n (drop n text))) (header_read read car.roots s.few is.digests)
    ∙ ap (λ z. car_with (Ok car.roots) (sections_past 0 n z)) rest
    ∙ ap (car_with (Ok car.roots)) (sections_read read n s.rest car.sections s.rest_is is.named)
