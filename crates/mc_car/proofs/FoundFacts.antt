-- A file that is read is one by its relation.
use Rattle.std.proofs.Common.{◌≡◌, ◌≢◌, ℕ, zero, suc, ◌+◌, ◌-◌, ◌*◌, ◌<◌, ◌≤◌, List, [], ◌∷◌, ◌++◌, length, take, drop, Option, Some, None, Result, Ok, Err, refl, sym, ap, ◌∙◌, subst, arith, Bool, true, false, append_assoc, ◌&&◌}
use Rattle.std.specs.Prelude.{nat_lt, nat_le, ◌==◌, is_some, if◌then◌else◌, option_map, option_and_then}
use Rattle.std.specs.List.{flat_map, list_all, slice_index, AllByRecursion}
use Rattle.std.specs.Str.{bytes_eq}
use Rattle.std.proofs.lemmas.Bool.{and_parts, eqb-true, lt-ltb}
use Rattle.std.proofs.lemmas.List.{take-append-drop, length-take, length-drop}
use Rattle.std.proofs.lemmas.Slice.Eq.{bytes_eq-Decides}
use Rattle.mc_base.specs.Cid.{cid_prefix, digest_of, is_cid}
use Rattle.mc_base.specs.Varint.{IsBase128, IsUnsignedVarint, high_run, varint_fault}
use Rattle.mc_base.specs.declared.cid.Cid.{Cid}
use Rattle.mc_base.specs.declared.varint.VarintFault.{VarintFault}
use Rattle.mc_base.specs.declared.varint.VarintFault.TheVariants.{Short, Long, NotMinimal}
use Rattle.mc_model.specs.Offer.{cid_of_bytes}
use Rattle.mc_car.specs.declared.car.Car.{Car}
use Rattle.mc_car.specs.declared.car.Section.{Section}
use Rattle.mc_car.specs.declared.fault.CarFault.{CarFault}
use Rattle.mc_car.specs.declared.fault.CarFaultKind.TheVariants.{BadVarint, CutShort, NoHeader, NoCid, WrongDigest}
use Rattle.mc_car.specs.Car.{AreSections, IsCar, IsPiece, array_head, cid_bytes, has_digest, header_bytes, header_end, header_start, is_named, root_bytes, root_start, section_body}
use Rattle.mc_car.specs.CarRead.{Piece, car_after, car_of, car_with, cid_and_rest, count_of, fault, front_len, front_value, header_of, long_count, onto_sections, piece_after, piece_len, piece_of, root_of, roots_from, roots_of, roots_or_fault, section_in, section_named, section_of, sections_at, sections_past}
use Rattle.mc_car.proofs.Sections.{first_past}

abbrev pub AreBytes : List ℕ → Type 0
AreBytes text = AllByRecursion (λ byte. byte < 256) text

bytes_drop : (n : ℕ) (text : List ℕ) → AreBytes text → AreBytes (drop n text)
bytes_drop zero text are = are
bytes_drop (suc n) [] are = tt
bytes_drop (suc n) (byte ∷ text) are = bytes_drop n text are.1

bytes_take : (n : ℕ) (text : List ℕ) → AreBytes text → AreBytes (take n text)
bytes_take zero text are = tt
bytes_take (suc n) [] are = tt
bytes_take (suc n) (byte ∷ text) are = (are.0, bytes_take n text are.1)

-- varints
run_within : (text : List ℕ) → high_run text ≤ length text
run_within [] = omega arith
run_within (byte ∷ text) =
    let below = run_within text in
    elim (nat_lt byte 128) as (λ b. (if b then 0 else high_run text + 1) ≤ suc (length text)) [ true ↦ omega arith | false ↦ omega (arith, below) ]

record NoFault (text : List ℕ) : Type 0 where
  short : high_run text < 9
  ends : high_run text < length text
  minimal : 0 < high_run text → slice_index text (high_run text) ≢ 0

no_fault_parts : (run len byte : ℕ)
    → (if nat_le 9 run then Some Long else if run == len then Some Short else if nat_lt 0 run && (byte == 0) then Some NotMinimal else None) ≡ None → (run < 9) × (run ≢ len) × (0 < run → byte ≢ 0)
no_fault_parts run len byte e = (grind (arith, e), grind (arith, e), grind (arith, e))

no_fault : (text : List ℕ) → varint_fault text ≡ None → NoFault text
no_fault text e =
    let parts = no_fault_parts (high_run text) (length text) (slice_index text (high_run text)) e in
    record { short = parts.0; ends = omega (arith, parts.1, run_within text); minimal = parts.2 }

abbrev Spelled : List ℕ → Type 0
Spelled text = IsBase128 (take (front_len text) text) (front_value text) × (0 < high_run text → 0 < front_value text)

-- the first bytes of a text, up to the first without the high bit, spell their value
spelled_from : (text : List ℕ) → AreBytes text → high_run text < length text → (0 < high_run text → slice_index text (high_run text) ≢ 0) → Spelled text
spelled_from [] are ends minimal = absurd (omega (arith, ends))
spelled_from (byte ∷ text) are ends minimal =
    elim (nat_lt byte 128) as (λ b. nat_lt byte 128 ≡ b → (if b then 0 else high_run text + 1) < suc (length text) → (0 < (if b then 0 else high_run text + 1) → slice_index (byte ∷ text) (if b then 0 else high_run text + 1) ≢ 0)
    → (IsBase128 (take ((if b then 0 else high_run text + 1) + 1) (byte ∷ text)) (if b then byte else (byte - 128 + 128 * front_value text)) × (0 < (if b then 0 else high_run text + 1) → 0 < (if b then byte else (byte - 128 + 128 * front_value text))))) [
      | true ↦ λ e l m. ((grind (arith, e), refl), λ some. absurd (omega (arith, some)))
      | false ↦ λ e l m.
          let large : 128 ≤ byte = grind (arith, e) in
          let below = spelled_from text are.1 (omega (arith, l)) (λ some. let q = m (omega arith) in let same : high_run text + 1 ≡ suc (high_run text) = omega arith in subst (λ n. slice_index (byte ∷ text) n ≢ 0) same q) in
          let more : 0 < front_value text = value_some text (omega (arith, l)) below (let q = m (omega arith) in let same : high_run text + 1 ≡ suc (high_run text) = omega arith in subst (λ n. slice_index (byte ∷ text) n ≢ 0) same q) in
          (onto text (omega (arith, l)) below.0 large are.0 more, λ some. omega (arith, more))
    ] refl ends minimal
  where
    onto : (text : List ℕ) → high_run text < length text → IsBase128 (take (front_len text) text) (front_value text) → 128 ≤ byte → byte < 256 → 0 < front_value text
        → IsBase128 (take (high_run text + 1 + 1) (byte ∷ text)) (byte - 128 + 128 * front_value text)
    onto [] l spelled large small more = absurd (omega (arith, l))
    onto (next ∷ rest) l spelled large small more =
        let same : high_run (next ∷ rest) + 1 + 1 ≡ suc (suc (high_run (next ∷ rest))) = omega arith in
        let here : high_run (next ∷ rest) + 1 ≡ suc (high_run (next ∷ rest)) = omega arith in
        subst (λ n. IsBase128 (take n (byte ∷ next ∷ rest)) (byte - 128 + 128 * front_value (next ∷ rest))) (sym same)
        (large, small, front_value (next ∷ rest), more, omega (arith, large), subst (λ n. IsBase128 (take n (next ∷ rest)) (front_value (next ∷ rest))) here spelled)

    value_some : (text : List ℕ) → high_run text < length text → Spelled text → slice_index text (high_run text) ≢ 0 → 0 < front_value text
    value_some [] l below last = absurd (omega (arith, l))
    value_some (next ∷ rest) l below last =
        elim (nat_lt next 128) as (λ b. nat_lt next 128 ≡ b → (0 < (if b then 0 else high_run rest + 1) → 0 < (if b then next else (next - 128 + 128 * front_value rest))) → slice_index (next ∷ rest) (if b then 0 else high_run rest + 1) ≢ 0
        → 0 < (if b then next else (next - 128 + 128 * front_value rest))) [
          | true ↦ λ e p q. omega (arith, q)
          | false ↦ λ e p q. p (omega arith)
        ] refl below.1 last

-- pieces
pub record FoundPiece (text : List ℕ) (piece : Piece) : Type 0 where
  pub is : IsPiece (take (piece.size + length piece.body) text) piece.body
  pub within : piece.size + length piece.body ≤ length text
  pub long : 0 < piece.size

take_two : (m n : ℕ) (text : List ℕ) → take (m + n) text ≡ take m text ++ take n (drop m text)
take_two zero n text = let same : zero + n ≡ n = omega arith in ap (λ k. take k text) same
take_two (suc m) n [] = empty n
  where
    empty : (n : ℕ) → ◌≡◌ {A = List ℕ} (take (suc m + n) []) (take n [])
    empty zero = let same : suc m + zero ≡ suc m = omega arith in ap (λ k. take {A = ℕ} k []) same
    empty (suc n) = let same : suc m + suc n ≡ suc (m + suc n) = omega arith in ap (λ k. take {A = ℕ} k []) same
take_two (suc m) n (x ∷ text) = let same : suc m + n ≡ suc (m + n) = omega arith in ap (λ k. take k (x ∷ text)) same ∙ ap (λ z. x ∷ z) (take_two m n text)

piece_found_at : (at value size : ℕ) (text : List ℕ) (piece : Piece) → IsUnsignedVarint (take size text) value → 0 < size → size ≤ length text → piece_after at value size text ≡ Ok piece → FoundPiece text piece
piece_found_at at value size text piece varint long within e =
    elim (nat_le value (length (drop size text))) as (λ b. nat_le value (length (drop size text)) ≡ b
    → ◌≡◌ {A = Result Piece CarFault} (if b then Ok (record { size = size; body = take value (drop size text) }) else Err (fault CutShort at)) (Ok piece) → FoundPiece text piece) [
      | true ↦ λ t f.
          let room : value ≤ length (drop size text) = grind (arith, t) in
          let same : record { size = size; body = take value (drop size text) } ≡ piece = cc in
          let len : length (take value (drop size text)) ≡ value = omega (arith, room, length-take {A = ℕ}) in
          subst (FoundPiece text) same (record {
            is = record {
              size = take size text;
              parts = ap (λ n. take (size + n) text) len ∙ take_two size value text;
              size_is = subst (IsUnsignedVarint (take size text)) (sym len) varint;
            };
            within = omega (arith, len, room, within, length-drop size text);
            long = long;
          })
      | false ↦ λ t f. absurd (cc)
    ] refl e

pub piece_found : (at : ℕ) (text : List ℕ) (piece : Piece) → AreBytes text → piece_of at text ≡ Ok piece → FoundPiece text piece
unfolding piece_of
piece_found at text piece are e = by (varint_fault text) refl e
  where
    by : (why : Option VarintFault) → varint_fault text ≡ why
        → ◌≡◌ {A = Result Piece CarFault} (if is_some why then Err (fault BadVarint at) else piece_after at (front_value text) (front_len text) text) (Ok piece) → FoundPiece text piece
    by None none f =
        let sound = no_fault text none in
        let spelled = spelled_from text are sound.ends sound.minimal in
        piece_found_at at (front_value text) (front_len text) text piece
        (record { spelled = spelled.0; size = omega (arith, sound.short, length-take {A = ℕ}) }) (omega arith) (omega (arith, sound.ends)) f
    by (Some why) some f = absurd (cc)

-- identifiers
cid_found : (bytes : List ℕ) (cid : Cid) → cid_of_bytes bytes ≡ Some cid → (bytes ≡ cid_bytes cid) × (length cid.0 ≡ 32)
cid_found bytes cid e =
    elim (is_cid bytes) as (λ b. is_cid bytes ≡ b → ◌≡◌ {A = Option Cid} (option_map (λ (digest : List ℕ). record { 0 = digest }) (if b then Some (drop 4 bytes) else None)) (Some cid) → (bytes ≡ cid_bytes cid) × (length cid.0 ≡ 32)) [
      | true ↦ λ t f.
          let parts = and_parts (length bytes == 36) (bytes_eq (take 4 bytes) cid_prefix) t in
          let len : length bytes ≡ 36 = eqb-true (length bytes) 36 parts.0 in
          let front : take 4 bytes ≡ cid_prefix = (bytes_eq-Decides (take 4 bytes) cid_prefix).0 parts.1 in
          let same : ◌≡◌ {A = Cid} (record { 0 = drop 4 bytes }) cid = cc in
          let digest : drop 4 bytes ≡ cid.0 = ap (λ (c : Cid). c.0) same in
          (sym (take-append-drop 4 bytes) ∙ ap (λ z. z ++ drop 4 bytes) front ∙ ap (λ z. cid_prefix ++ z) digest, sym (ap length digest) ∙ omega (arith, len, length-drop 4 bytes))
      | false ↦ λ t f. absurd (cc)
    ] refl e

pub cid_in_front : (text : List ℕ) (cid : Cid) (rest : List ℕ) → cid_and_rest text ≡ Some (cid, rest) → (text ≡ cid_bytes cid ++ rest) × (length cid.0 ≡ 32)
cid_in_front text cid rest e = by (cid_of_bytes (take 36 text)) refl e
  where
    by : (read : Option Cid) → cid_of_bytes (take 36 text) ≡ read → ◌≡◌ {A = Option (Cid × List ℕ)} (option_map (λ (c : Cid). (c, drop 36 text)) read) (Some (cid, rest)) → (text ≡ cid_bytes cid ++ rest) × (length cid.0 ≡ 32)
    by None is f = absurd (cc)
    by (Some c) is f =
        let pair : ◌≡◌ {A = Cid × List ℕ} (c, drop 36 text) (cid, rest) = cc in
        let first : c ≡ cid = ap (λ p. p.0) pair in
        let second : drop 36 text ≡ rest = ap (λ p. p.1) pair in
        let found = cid_found (take 36 text) cid (is ∙ ap (λ z. Some z) first) in
        (sym (take-append-drop 36 text) ∙ ap (λ z. z ++ drop 36 text) found.0 ∙ ap (λ z. cid_bytes cid ++ z) second, found.1)

-- sections
section_found : (at : ℕ) (body : List ℕ) (section : Section) → section_of at body ≡ Ok section → (body ≡ section_body section) × (is_named section ≡ true)
section_found at body section e = by (cid_and_rest body) refl e
  where
    by : (read : Option (Cid × List ℕ)) → cid_and_rest body ≡ read → section_named at read ≡ Ok section → (body ≡ section_body section) × (is_named section ≡ true)
    by None is f = absurd (let g : Err (fault NoCid at) ≡ Ok section = f in cc)
    by (Some (cid, bytes)) is f =
        elim (bytes_eq (digest_of bytes) cid.0) as (λ b. bytes_eq (digest_of bytes) cid.0 ≡ b
        → ◌≡◌ {A = Result Section CarFault} (if b then Ok (record { cid = cid; bytes = bytes }) else Err (fault WrongDigest at)) (Ok section) → (body ≡ section_body section) × (is_named section ≡ true)) [
          | true ↦ λ t g.
              let same : ◌≡◌ {A = Section} (record { cid = cid; bytes = bytes }) section = cc in
              subst (λ (s : Section). (body ≡ section_body s) × (is_named s ≡ true)) same ((cid_in_front body cid bytes is).0, t)
          | false ↦ λ t g. absurd (cc)
        ] refl f

pub sections_found : (n at : ℕ) (text : List ℕ) (sections : List Section) → length text ≤ n → AreBytes text → sections_past 0 at text ≡ Ok sections → AreSections text sections × (list_all is_named sections ≡ true)
sections_found n at [] [] l are e = (refl, refl)
sections_found n at [] (section ∷ sections) l are e = absurd (let f : ◌≡◌ {A = Result (List Section) CarFault} (Ok []) (Ok (section ∷ sections)) = e in cc)
sections_found zero at (byte ∷ bytes) sections l are e = absurd (omega (arith, l))
sections_found (suc n) at (byte ∷ bytes) sections l are e = by (λ size others. sections_found n (at + size) (drop size (byte ∷ bytes)) others) (piece_of at (byte ∷ bytes)) refl
  where
    Again : Type 0
    Again = (size : ℕ) (others : List Section) → length (drop size (byte ∷ bytes)) ≤ n → AreBytes (drop size (byte ∷ bytes)) → sections_past 0 (at + size) (drop size (byte ∷ bytes)) ≡ Ok others
        → AreSections (drop size (byte ∷ bytes)) others × (list_all is_named others ≡ true)

    after : Again → (piece : Piece) (size : ℕ) → piece_of at (byte ∷ bytes) ≡ Ok piece → FoundPiece (byte ∷ bytes) piece → size ≡ piece.size + length piece.body
        → (read : Result Section CarFault) → section_of at piece.body ≡ read → (rest : Result (List Section) CarFault) → sections_past 0 (at + size) (drop size (byte ∷ bytes)) ≡ rest
        → onto_sections read rest ≡ Ok sections → AreSections (byte ∷ bytes) sections × (list_all is_named sections ≡ true)
    after again piece size is found same (Err why) f rest g h = absurd (let k : Err why ≡ Ok sections = h in cc)
    after again piece size is found same (Ok section) f (Err why) g h = absurd (let k : Err why ≡ Ok sections = h in cc)
    after again piece size is found same (Ok section) f (Ok others) g h =
        let all : section ∷ others ≡ sections = cc in
        let here = section_found at piece.body section f in
        let more = again size others (omega (arith, l, same, found.long, length-drop size (byte ∷ bytes))) (bytes_drop size (byte ∷ bytes) are) g in
        let whole : IsPiece (take size (byte ∷ bytes)) (section_body section) = subst (λ k. IsPiece (take k (byte ∷ bytes)) (section_body section)) (sym same) (subst (IsPiece (take (piece.size + length piece.body) (byte ∷ bytes))) here.0 found.is) in
        subst (λ ss. AreSections (byte ∷ bytes) ss × (list_all is_named ss ≡ true)) all
        ((take size (byte ∷ bytes), drop size (byte ∷ bytes), sym (take-append-drop size (byte ∷ bytes)), whole, more.0), rw here.1 more.1)

    by : Again → (piece : Result Piece CarFault) → piece_of at (byte ∷ bytes) ≡ piece → AreSections (byte ∷ bytes) sections × (list_all is_named sections ≡ true)
    by again (Err why) is =
        absurd (let f : ◌≡◌ {A = Result (List Section) CarFault} (Err why) (Ok sections) = sym (ap (λ p. onto_sections (section_in at p) (sections_past (piece_len (piece_of at (byte ∷ bytes)) - 1) (at + 1) bytes)) is) ∙ e in cc)
    by again (Ok piece) is =
        let found = piece_found at (byte ∷ bytes) piece are is in
        let size = piece.size + length piece.body in
        let first = first_past at (byte ∷ bytes) size (omega arith) (omega (arith, found.long)) (ap piece_len is) in
        after again piece size is found refl (section_of at piece.body) refl (sections_past 0 (at + size) (drop size (byte ∷ bytes))) refl
        (sym (first ∙ ap (λ p. onto_sections (section_in at p) (sections_past 0 (at + size) (drop size (byte ∷ bytes)))) is) ∙ e)

-- roots
root_found : (text : List ℕ) (root : Cid) (rest : List ℕ) → root_of text ≡ Some (root, rest) → (text ≡ root_bytes root ++ rest) × (length root.0 ≡ 32)
root_found text root rest e =
    elim (bytes_eq (take 5 text) root_start) as (λ b. bytes_eq (take 5 text) root_start ≡ b → ◌≡◌ {A = Option (Cid × List ℕ)} (if b then cid_and_rest (drop 5 text) else None) (Some (root, rest)) → (text ≡ root_bytes root ++ rest) × (length root.0 ≡ 32)) [
      | true ↦ λ t f.
          let front : take 5 text ≡ root_start = (bytes_eq-Decides (take 5 text) root_start).0 t in
          let found = cid_in_front (drop 5 text) root rest f in
          (sym (take-append-drop 5 text) ∙ ap (λ z. z ++ drop 5 text) front ∙ ap (λ z. root_start ++ z) found.0, found.1)
      | false ↦ λ t f. absurd (cc)
    ] refl e

record FoundRoots (count : ℕ) (text : List ℕ) (roots : List Cid) : Type 0 where
  spelled : text ≡ flat_map root_bytes roots ++ header_end
  number : length roots ≡ count
  digests : list_all has_digest roots ≡ true

roots_found : (count : ℕ) (text : List ℕ) (roots : List Cid) → roots_from count text ≡ Some roots → FoundRoots count text roots
roots_found zero text roots e =
    elim (bytes_eq text header_end) as (λ b. bytes_eq text header_end ≡ b → ◌≡◌ {A = Option (List Cid)} (if b then Some [] else None) (Some roots) → FoundRoots zero text roots) [
      | true ↦ λ t f.
          let none : ◌≡◌ {A = List Cid} [] roots = cc in
          subst (FoundRoots zero text) none (record { spelled = (bytes_eq-Decides text header_end).0 t; number = refl; digests = refl })
      | false ↦ λ t f. absurd (cc)
    ] refl e
roots_found (suc count) text roots e = by (λ rest others. roots_found count rest others) (root_of text) refl e
  where
    Again : Type 0
    Again = (rest : List ℕ) (others : List Cid) → roots_from count rest ≡ Some others → FoundRoots count rest others

    all : Again → (root : Cid) (rest : List ℕ) → root_of text ≡ Some (root, rest) → (others : Option (List Cid)) → roots_from count rest ≡ others
        → ◌≡◌ {A = Option (List Cid)} (option_map (λ more. root ∷ more) others) (Some roots) → FoundRoots (suc count) text roots
    all again root rest is None f g = absurd (cc)
    all again root rest is (Some others) f g =
        let same : ◌≡◌ {A = List Cid} (root ∷ others) roots = cc in
        let here = root_found text root rest is in
        let more = again rest others f in
        let digest : (length root.0 == 32) ≡ true = rw here.1 refl in
        subst (FoundRoots (suc count) text) same (record {
          spelled = here.0 ∙ ap (λ z. root_bytes root ++ z) more.spelled ∙ sym (append_assoc (root_bytes root) (flat_map root_bytes others) header_end);
          number = ap suc more.number;
          digests = rw digest more.digests;
        })

    by : Again → (found : Option (Cid × List ℕ)) → root_of text ≡ found → option_and_then (λ found. option_map (λ more. found.0 ∷ more) (roots_from count found.1)) found ≡ Some roots → FoundRoots (suc count) text roots
    by again None is f = absurd (let g : ◌≡◌ {A = Option (List Cid)} None (Some roots) = f in cc)
    by again (Some (root, rest)) is f = all again root rest is (roots_from count rest) refl f

record FoundCount (text : List ℕ) (count : ℕ) (rest : List ℕ) : Type 0 where
  spelled : text ≡ array_head count ++ rest
  few : count ≤ 255

count_found : (text : List ℕ) (count : ℕ) (rest : List ℕ) → AreBytes text → count_of text ≡ Some (count, rest) → FoundCount text count rest
count_found [] count rest are e = absurd (let f : ◌≡◌ {A = Option (ℕ × List ℕ)} None (Some (count, rest)) = e in cc)
count_found (head ∷ text) count rest are e = first (nat_lt head 0x80) refl e
  where
    long : (text : List ℕ) → AreBytes text → head ≡ 0x98 → long_count text ≡ Some (count, rest) → FoundCount (head ∷ text) count rest
    long [] bytes is f = absurd (let g : ◌≡◌ {A = Option (ℕ × List ℕ)} None (Some (count, rest)) = f in cc)
    long (number ∷ text) bytes is f =
        elim (nat_lt number 24) as (λ b. nat_lt number 24 ≡ b → ◌≡◌ {A = Option (ℕ × List ℕ)} (if b then None else Some (number, text)) (Some (count, rest)) → FoundCount (head ∷ number ∷ text) count rest) [
          | true ↦ λ t g. absurd (cc)
          | false ↦ λ t g.
              let pair : ◌≡◌ {A = ℕ × List ℕ} (number, text) (count, rest) = cc in
              let same : number ≡ count = ap (λ p. p.0) pair in
              let tail : text ≡ rest = ap (λ p. p.1) pair in
              let large : nat_lt count 24 ≡ false = subst (λ n. nat_lt n 24 ≡ false) same t in
              record { spelled = rw (large, is, same, tail) refl; few = omega (arith, bytes.0, same) }
        ] refl f

    short : head < 0x98 → 0x80 ≤ head → ◌≡◌ {A = Option (ℕ × List ℕ)} (Some (head - 0x80, text)) (Some (count, rest)) → FoundCount (head ∷ text) count rest
    short below above f =
        let pair : ◌≡◌ {A = ℕ × List ℕ} (head - 0x80, text) (count, rest) = cc in
        let same : head - 0x80 ≡ count = ap (λ p. p.0) pair in
        let tail : text ≡ rest = ap (λ p. p.1) pair in
        let small : nat_lt count 24 ≡ true = lt-ltb count 24 (omega (arith, same, below)) in
        let whole : head ≡ 0x80 + count = omega (arith, same, above) in
        record { spelled = rw (small, whole, tail) refl; few = omega (arith, same, below) }

    third : (b : Bool) → (head == 0x98) ≡ b → ◌≡◌ {A = Option (ℕ × List ℕ)} (if b then long_count text else None) (Some (count, rest)) → FoundCount (head ∷ text) count rest
    third true t f = long text are.1 (eqb-true head 0x98 t) f
    third false t f = absurd (cc)

    second : (b : Bool) → nat_lt head 0x98 ≡ b → 0x80 ≤ head → ◌≡◌ {A = Option (ℕ × List ℕ)} (if b then Some (head - 0x80, text) else (if head == 0x98 then long_count text else None)) (Some (count, rest)) → FoundCount (head ∷ text) count rest
    second true t above f = short (grind (arith, t)) above f
    second false t above f = third (head == 0x98) refl f

    first : (b : Bool) → nat_lt head 0x80 ≡ b → ◌≡◌ {A = Option (ℕ × List ℕ)} (if b then None else (if nat_lt head 0x98 then Some (head - 0x80, text) else (if head == 0x98 then long_count text else None))) (Some (count, rest)) → FoundCount (head ∷ text) count rest
    first true t f = absurd (cc)
    first false t f = second (nat_lt head 0x98) refl (grind (arith, t)) f

record FoundHeader (body : List ℕ) (roots : List Cid) : Type 0 where
  spelled : body ≡ header_bytes roots
  few : length roots ≤ 255
  digests : list_all has_digest roots ≡ true

header_found : (body : List ℕ) (roots : List Cid) → AreBytes body → header_of body ≡ Ok roots → FoundHeader body roots
header_found body roots are e = by (roots_of body) refl e
  where
    counted_found : (found : Option (ℕ × List ℕ)) → count_of (drop 7 body) ≡ found → take 7 body ≡ header_start → option_and_then (λ found. roots_from found.0 found.1) found ≡ Some roots → FoundHeader body roots
    counted_found None is front f = absurd (let g : ◌≡◌ {A = Option (List Cid)} None (Some roots) = f in cc)
    counted_found (Some (count, rest)) is front f =
        let head = count_found (drop 7 body) count rest (bytes_drop 7 body are) is in
        let all = roots_found count rest roots f in
        record {
          spelled = sym (take-append-drop 7 body) ∙ ap (λ z. z ++ drop 7 body) front ∙ ap (λ z. header_start ++ z) (head.spelled ∙ ap (λ z. array_head count ++ z) all.spelled)
              ∙ ap (λ n. header_start ++ (array_head n ++ (flat_map root_bytes roots ++ header_end))) (sym all.number)
              ∙ ap (λ z. header_start ++ z) (sym (append_assoc (array_head (length roots)) (flat_map root_bytes roots) header_end));
          few = omega (arith, head.few, all.number);
          digests = all.digests;
        }

    started : (b : Bool) → bytes_eq (take 7 body) header_start ≡ b → ◌≡◌ {A = Option (List Cid)} (if b then option_and_then (λ found. roots_from found.0 found.1) (count_of (drop 7 body)) else None) (Some roots) → FoundHeader body roots
    started true t f = counted_found (count_of (drop 7 body)) refl ((bytes_eq-Decides (take 7 body) header_start).0 t) f
    started false t f = absurd (cc)

    by : (read : Option (List Cid)) → roots_of body ≡ read → roots_or_fault read ≡ Ok roots → FoundHeader body roots
    by None is f = absurd (let g : ◌≡◌ {A = Result (List Cid) CarFault} (Err (fault NoHeader 0)) (Ok roots) = f in cc)
    by (Some found) is f =
        let same : found ≡ roots = cc in
        started (bytes_eq (take 7 body) header_start) refl (is ∙ ap (λ z. Some z) same)

-- files
pub car_found : (text : List ℕ) (car : Car) → AreBytes text → car_of text ≡ Ok car → IsCar text car
unfolding sections_at
car_found text car are e = by (piece_of 0 text) refl e
  where
    both : (piece : Piece) → FoundPiece text piece → (roots : Result (List Cid) CarFault) → header_of piece.body ≡ roots
        → (sections : Result (List Section) CarFault) → sections_past 0 (piece.size + length piece.body) (drop (piece.size + length piece.body) text) ≡ sections → car_with roots sections ≡ Ok car → IsCar text car
    both piece found (Err why) is sections f g = absurd (let h : ◌≡◌ {A = Result Car CarFault} (Err why) (Ok car) = g in cc)
    both piece found (Ok roots) is (Err why) f g = absurd (let h : ◌≡◌ {A = Result Car CarFault} (Err why) (Ok car) = g in cc)
    both piece found (Ok roots) is (Ok sections) f g =
        let size = piece.size + length piece.body in
        let same : ◌≡◌ {A = Car} (record { roots = roots; sections = sections }) car = cc in
        let bytes : AreBytes piece.body = bytes_of (take size text) found.is (bytes_take size text are) in
        let header = header_found piece.body roots bytes is in
        let rest = sections_found (length (drop size text)) size (drop size text) sections (omega arith) (bytes_drop size text are) f in
        subst (IsCar text) same (record {
          spelled = record {
            header = take size text;
            rest = drop size text;
            parts = sym (take-append-drop size text);
            few = header.few;
            header_is = subst (IsPiece (take size text)) header.spelled found.is;
            rest_is = rest.0;
          };
          digests = header.digests;
          named = rest.1;
        })
      where
        tail_bytes : (xs ys : List ℕ) → AreBytes (xs ++ ys) → AreBytes ys
        tail_bytes [] ys b = b
        tail_bytes (x ∷ xs) ys b = tail_bytes xs ys b.1

        bytes_of : (whole : List ℕ) → (is : IsPiece whole piece.body) → AreBytes whole → AreBytes piece.body
        bytes_of whole is b = tail_bytes is.size piece.body (subst AreBytes is.parts b)

    by : (piece : Result Piece CarFault) → piece_of 0 text ≡ piece → car_after piece text ≡ Ok car → IsCar text car
    by (Err why) is f = absurd (let g : ◌≡◌ {A = Result Car CarFault} (Err why) (Ok car) = f in cc)
    by (Ok piece) is f = both piece (piece_found 0 text piece are is) (header_of piece.body) refl (sections_past 0 (piece.size + length piece.body) (drop (piece.size + length piece.body) text)) refl f
