-- The fields of a text are those that are read.
use Rattle.std.proofs.Common.{◌≡◌, ◌≢◌, ℕ, zero, suc, ◌+◌, ◌*◌, ◌/◌, ◌%◌, ◌<◌, ◌≤◌, List, [], ◌∷◌, ◌++◌, length, take, drop, true, false, refl, sym, arith, append_assoc, length-append, Option, Some, None, Result, Ok, Err, ◌==◌}
use Rattle.std.proofs.Math.Dec.{eqb}
use Rattle.std.proofs.Math.Seq.{drop-append_seam, take-add}
use Rattle.std.proofs.lemmas.Bool.{eqb-false, ne_eqb}
use Rattle.std.proofs.lemmas.List.{length-drop, take-append-drop}
use Rattle.std.specs.Option.{option_map}
use Rattle.mc_base.specs.Wire.{Field, Fields, IsPiece, Content, Varint, Fixed64, Part, Fixed32, wire_type}
use Rattle.mc_base.specs.WireRead.{Front, Whole, NoKey, NoContent, WireFault, front_of, front_varint, front_content, after_key, front_keyed, front_field, fronts_from, fields_in}
use Rattle.mc_wire.proofs.ContentFacts.{ContentFound, content_is_read, content_read}
use Rattle.mc_wire.proofs.Fronts.{fronts_end, fronts_field, fronts_fault}
use Rattle.mc_wire.proofs.VarintFacts.{VarintAt, varint_is_read, varint_read}
use Rattle.mc_wire.proofs.AllFields.{none_is_no, nothing_is}

wire_type_small : (content : Content) → wire_type content < 8
wire_type_small (Varint value) = omega arith
wire_type_small (Fixed64 bytes) = omega arith
wire_type_small (Part bytes) = omega arith
wire_type_small (Fixed32 bytes) = omega arith

front_by : (text : List ℕ) (value len : ℕ) → front_varint text ≡ Ok (value, len) → front_of text ≡ after_key (value / 8) (value % 8) len (drop len text)
unfolding front_of
front_by text value len found = rw found

-- a piece is read as its field, whatever follows
pub piece_is_read : (bytes : List ℕ) (field : Field) (rest : List ℕ) → IsPiece bytes field → front_of (bytes ++ rest) ≡ Whole field (length bytes)
piece_is_read bytes field rest piece =
    let number = field.number in
    let wire = wire_type field.content in
    let small = wire_type_small field.content in
    let text : bytes ++ rest ≡ piece.key ++ (piece.body ++ rest) = rw (piece.parts, append_assoc) in
    let len : length piece.key + length piece.body ≡ length bytes = rw (piece.parts, length-append) in
    let named : (8 * number + wire) / 8 ≡ number = omega arith in
    let typed : (8 * number + wire) % 8 ≡ wire = omega arith in
    let some : number == 0 ≡ false = ne_eqb number 0 (λ e. omega (arith, piece.numbered)) in
    let body : drop (length piece.key) (piece.key ++ (piece.body ++ rest)) ≡ piece.body ++ rest = drop-append_seam piece.key (piece.body ++ rest) in
    rw (
      text,
      front_by (piece.key ++ (piece.body ++ rest)) (8 * number + wire) (length piece.key) (varint_is_read piece.key (8 * number + wire) (piece.body ++ rest) piece.key_is),
      named,
      typed,
      body,
      some,
      content_is_read piece.body field.content rest piece.body_is,
      len,
    )

-- what a field at the front of a text is
pub record PieceAt (text : List ℕ) (field : Field) (len : ℕ) : Type 0 where
  pub piece : IsPiece (take len text) field
  pub some : 0 < len
  pub within : len ≤ length text

whole_is : (found field : Field) (size len : ℕ) → ◌≡◌ {A = Front} (Whole found size) (Whole field len) → (field ≡ found) × (len ≡ size)
whole_is found field size len e = (cc, cc)

no_content_is_no_field : {number wire : ℕ} {fault : WireFault} {field : Field} {len : ℕ} → ◌≡◌ {A = Front} (NoContent number wire fault) (Whole field len) → ⊥
no_content_is_no_field e = cc

keyed_piece : (text : List ℕ) (value key : ℕ) (content : Content) (size : ℕ) → VarintAt text value key → value / 8 ≢ 0 → ContentFound (drop key text) (value % 8) content size →
    PieceAt text (record { number = value / 8; content = content }) (key + size)
keyed_piece text value key content size varint numbered found =
    let whole : 8 * (value / 8) + wire_type content ≡ value = omega (arith, found.typed) in
    record {
      piece = record {
        key = take key text;
        body = take size (drop key text);
        parts = take-add key size text;
        numbered = omega (arith, numbered);
        key_is = rw whole varint.varint;
        body_is = found.spelled;
      };
      some = omega (arith, varint.some);
      within = omega (arith, varint.within, found.within, length-drop key text);
    }

content_piece : (text : List ℕ) (value key : ℕ) (field : Field) (len : ℕ) → VarintAt text value key → value / 8 ≢ 0 →
    (read : Result (Content × ℕ) WireFault) → front_content (value % 8) (drop key text) ≡ read → front_field (value / 8) (value % 8) key read ≡ Whole field len → PieceAt text field len
content_piece text value key field len varint numbered (Err fault) e found = absurd (cc)
content_piece text value key field len varint numbered (Ok (content, size)) e found =
    let same = whole_is (record { number = value / 8; content = content }) field (key + size) len found in
    rw (same.0, same.1) (keyed_piece text value key content size varint numbered (content_read (value % 8) (drop key text) content size e))

key_piece : (text : List ℕ) (field : Field) (len : ℕ) → (read : Result (ℕ × ℕ) WireFault) → front_varint text ≡ read → front_keyed read text ≡ Whole field len → PieceAt text field len
key_piece text field len (Err fault) e found = absurd (cc)
key_piece text field len (Ok (value, key)) e found =
    (elim (eqb (value / 8) 0) as (λ b. eqb (value / 8) 0 ≡ b → PieceAt text field len) [
      | true ↦ λ none. absurd (no_content_is_no_field (rw none at found))
      | false ↦ λ some. content_piece text value key field len (varint_read text value key e) (eqb-false (value / 8) 0 some) (front_content (value % 8) (drop key text)) refl (rw some at found)
    ]) refl

-- what is read at the front of a text is a piece
pub piece_read : (text : List ℕ) (field : Field) (len : ℕ) → front_of text ≡ Whole field len → PieceAt text field len
unfolding front_of
piece_read text field len found = key_piece text field len (front_varint text) refl found

-- a text with these fields is read as them
pub fields_are_read : (at : ℕ) (text : List ℕ) (fields : List Field) → Fields text fields → fields_in (fronts_from at text) ≡ Some fields
fields_are_read at text [] none = rw (none, fronts_end at)
fields_are_read at text (field ∷ fields) (piece, rest, parts, is, more) =
    let front : front_of text ≡ Whole field (length piece) = rw parts (piece_is_read piece field rest is) in
    let read = piece_read text field (length piece) front in
    let after : drop (length piece) text ≡ rest = rw parts (drop-append_seam piece rest) in
    rw (fronts_field at text field (length piece) front read.some (omega (arith, read.some, read.within)), after, fields_are_read (at + length piece) rest fields more)

fields_from : (text : List ℕ) (field : Field) (len : ℕ) (fields : List Field) → PieceAt text field len → (rest : Option (List Field)) →
    ((more : List Field) → rest ≡ Some more → Fields (drop len text) more) → option_map (λ more. field ∷ more) rest ≡ Some fields → Fields text fields
fields_from text field len fields piece None after found = absurd (cc)
fields_from text field len fields piece (Some more) after found =
    let same : fields ≡ field ∷ more = cc in
    rw same (take len text, drop len text, sym (take-append-drop len text), piece.piece, after more refl)

fields_found_front : (most at : ℕ) (text : List ℕ) (fields : List Field) → 0 < length text → length text ≤ suc most → fields_in (fronts_from at text) ≡ Some fields →
    ((at' : ℕ) (text' : List ℕ) (fields' : List Field) → length text' ≤ most → fields_in (fronts_from at' text') ≡ Some fields' → Fields text' fields') →
    (front : Front) → front_of text ≡ front → Fields text fields
fields_found_front most at text fields inside within found smaller (NoKey fault) e =
    none_is_no (rw (fronts_fault at text (rw e) inside, e) at found)
fields_found_front most at text fields inside within found smaller (NoContent number wire fault) e =
    none_is_no (rw (fronts_fault at text (rw e) inside, e) at found)
fields_found_front most at text fields inside within found smaller (Whole field len) e =
    let piece = piece_read text field len e in
    fields_from text field len fields piece (fields_in (fronts_from (at + len) (drop len text)))
    (λ more. smaller (at + len) (drop len text) more (omega (arith, length-drop len text, piece.some)))
    (rw (fronts_field at text field len e piece.some inside) at found)

-- what is read is the fields of the text
pub fields_found : (most at : ℕ) (text : List ℕ) (fields : List Field) → length text ≤ most → fields_in (fronts_from at text) ≡ Some fields → Fields text fields
fields_found most at [] fields within found =
    let same : fields ≡ [] = nothing_is fields (rw (fronts_end at) at found) in
    rw same
fields_found zero at (byte ∷ text) fields within found = absurd (omega arith)
fields_found (suc most) at (byte ∷ text) fields within found =
    fields_found_front most at (byte ∷ text) fields (omega arith) within found (fields_found most) (front_of (byte ∷ text)) refl
