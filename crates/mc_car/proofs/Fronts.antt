-- Varints and pieces at the front of a text.
use Rattle.std.proofs.Common.{◌≡◌, ℕ, ◌+◌, ◌-◌, ◌<◌, ◌≤◌, List, [], ◌∷◌, ◌++◌, length, take, drop, Some, None, Ok, Err, refl, sym, ap, ◌∙◌, subst, arith, append_assoc}
use Rattle.std.proofs.lemmas.Bool.{le-ltb, le-leb, lt-leb}
use Rattle.std.proofs.lemmas.List.{take-append-drop, take-append-le, drop-append-le, drop-drop, take_all, drop_all, length-take, length-drop, length-append, take_rest}
use Rattle.mc_base.specs.Varint.{IsBase128, IsUnsignedVarint, varint_fault}
use Rattle.mc_base.specs.declared.varint.VarintFault.{VarintFault}
use Rattle.mc_base.proofs.VarintFacts.{no_fault}
use Rattle.mc_car.specs.declared.fault.CarFaultKind.TheVariants.{BadVarint, CutShort}
use Rattle.mc_car.specs.Car.{IsPiece}
use Rattle.mc_car.specs.CarRead.{fault, front_len, front_value, piece_after, piece_of}
use Rattle.mc_car.specs.Steps.{PieceAt}

-- what is read at the front of a text that begins with a spelling
pub record Begins (bytes rest : List ℕ) (value : ℕ) : Type 0 where
  pub len : front_len (bytes ++ rest) ≡ length bytes
  pub value_is : front_value (bytes ++ rest) ≡ value

pub begins : (bytes rest : List ℕ) (value : ℕ) → IsBase128 bytes value → Begins bytes rest value
begins [] rest value spelled = absurd spelled
begins (byte ∷ []) rest value spelled = record { len = grind (arith, spelled.0); value_is = grind (arith, spelled.0, spelled.1) }
begins (byte ∷ next ∷ bytes) rest value spelled =
    let below = begins (next ∷ bytes) rest spelled.2 spelled.5 in
    record { len = grind (arith, spelled.0, below.len); value_is = rw (le-ltb byte 128 spelled.0, below.value_is) (omega (arith, spelled.0, spelled.4)) }

-- the piece after a varint
after_fits : (at value size : ℕ) (text : List ℕ) → value ≤ length (drop size text) → piece_after at value size text ≡ Ok (record { size = size; body = take value (drop size text) })
after_fits at value size text fits = rw (le-leb value (length (drop size text)) fits) refl

after_short : (at value size : ℕ) (text : List ℕ) → length (drop size text) < value → piece_after at value size text ≡ Err (fault CutShort at)
after_short at value size text short = rw (lt-leb value (length (drop size text)) short) refl

pub bad_varint : (at : ℕ) (text : List ℕ) (why : VarintFault) → varint_fault text ≡ Some why → piece_of at text ≡ Err (fault BadVarint at)
unfolding piece_of
bad_varint at text why is = rw is refl

pub front_is : (at value size : ℕ) (text : List ℕ) → size ≤ length text → IsUnsignedVarint (take size text) value → varint_fault text ≡ None → piece_of at text ≡ piece_after at value size text
unfolding piece_of
front_is at value size text within is none =
    let whole = take-append-drop size text in
    let front = begins (take size text) (drop size text) value is.spelled in
    let len : front_len text ≡ size = rw whole at front.len ∙ omega (arith, within, length-take {A = ℕ}) in
    let same : front_value text ≡ value = rw whole at front.value_is in
    rw none (ap (λ v. piece_after at v (front_len text) text) same ∙ ap (λ n. piece_after at value n text) len)

-- a spelling has a byte
has_byte : (bytes : List ℕ) (value : ℕ) → IsBase128 bytes value → 0 < length bytes
has_byte [] value spelled = absurd spelled
has_byte (byte ∷ bytes) value spelled = omega arith

pub begins_after : (text : List ℕ) (size value : ℕ) → IsUnsignedVarint (take size text) value → 0 < size
begins_after text size value is = omega (arith, has_byte (take size text) value is.spelled, length-take {A = ℕ})

-- the piece that stands at an offset
pub piece_here : (text : List ℕ) (at value size : ℕ) → at ≤ length text → size ≤ length (drop at text) → IsUnsignedVarint (take size (drop at text)) value → varint_fault (drop at text) ≡ None
    → value ≤ length text - (at + size) → PieceAt text at (record { from = at + size; to = at + size + value })
piece_here text at value size inside within is none fits =
    let len = length-drop at text in
    let more = drop-drop size at text in
    let left : length (drop size (drop at text)) ≡ length text - (at + size) = ap length more ∙ length-drop (at + size) text in
    let room : value ≤ length (drop size (drop at text)) = omega (arith, left, fits) in
    let first : at + size - at ≡ size = omega arith in
    let last : at + size + value - (at + size) ≡ value = omega arith in
    record {
      found = front_is at value size (drop at text) within is none ∙ after_fits at value size (drop at text) room ∙ rw (first, last, more) refl;
      begins = omega (arith, begins_after (drop at text) size value is);
      order = omega arith;
      ends = omega (arith, fits, within, len);
    }

pub piece_short : (text : List ℕ) (at value size : ℕ) → size ≤ length (drop at text) → IsUnsignedVarint (take size (drop at text)) value → varint_fault (drop at text) ≡ None
    → length text - (at + size) < value → piece_of at (drop at text) ≡ Err (fault CutShort at)
piece_short text at value size within is none short =
    let more = drop-drop size at text in
    let left : length (drop size (drop at text)) ≡ length text - (at + size) = ap length more ∙ length-drop (at + size) text in
    front_is at value size (drop at text) within is none ∙ after_short at value size (drop at text) (omega (arith, left, short))

-- a piece by its relation is the one that is read
pub piece_read : (at : ℕ) (piece body rest : List ℕ) → (is : IsPiece piece body) → piece_of at (piece ++ rest) ≡ Ok (record { size = length is.size; body = body })
piece_read at piece body rest is =
    let whole : piece ++ rest ≡ is.size ++ (body ++ rest) = ap (λ z. z ++ rest) is.parts ∙ append_assoc is.size body rest in
    rw whole (piece_split at is.size body rest is.size_is)
  where
    piece_split : (at : ℕ) (size body rest : List ℕ) → IsUnsignedVarint size (length body) → piece_of at (size ++ (body ++ rest)) ≡ Ok (record { size = length size; body = body })
    piece_split at size body rest varint =
        let front : take (length size) (size ++ (body ++ rest)) ≡ size = take-append-le (length size) size (body ++ rest) (omega arith) ∙ take_all (length size) size (omega arith) in
        let after : drop (length size) (size ++ (body ++ rest)) ≡ body ++ rest = drop-append-le (length size) size (body ++ rest) (omega arith) ∙ ap (λ z. z ++ (body ++ rest)) (drop_all (length size) size (omega arith)) in
        let there : take (length body) (body ++ rest) ≡ body = take-append-le (length body) body rest (omega arith) ∙ take_all (length body) body (omega arith) in
        let long : length size ≤ length (size ++ (body ++ rest)) = omega (arith, length-append size (body ++ rest)) in
        let is : IsUnsignedVarint (take (length size) (size ++ (body ++ rest))) (length body) = rw front varint in
        let fits : length body ≤ length (drop (length size) (size ++ (body ++ rest))) = rw after (omega (arith, length-append body rest)) in
        front_is at (length body) (length size) (size ++ (body ++ rest)) long is (no_fault (size ++ (body ++ rest)) (length body) (length size) long is)
        ∙ after_fits at (length body) (length size) (size ++ (body ++ rest)) fits
        ∙ rw (after, there) refl

-- the same of the rest of a text as code borrows it
module _ (text : List ℕ) (at : ℕ) where
  abbrev pub rest_at : List ℕ
  rest_at = take (length text - at) (drop at text)

  pub rest_bad : (why : VarintFault) → varint_fault rest_at ≡ Some why → piece_of at (drop at text) ≡ Err (fault BadVarint at)
  rest_bad why is = bad_varint at (drop at text) why (ap varint_fault (sym (take_rest text at)) ∙ is)

  module _ (value size : ℕ) (within : size ≤ length rest_at) (is : IsUnsignedVarint (take size rest_at) value) (none : varint_fault rest_at ≡ None) where
    within' : size ≤ length (drop at text)
    within' = subst (λ (z : List ℕ). size ≤ length z) (take_rest text at) within

    is' : IsUnsignedVarint (take size (drop at text)) value
    is' = subst (λ (z : List ℕ). IsUnsignedVarint (take size z) value) (take_rest text at) is

    none' : varint_fault (drop at text) ≡ None
    none' = subst (λ (z : List ℕ). varint_fault z ≡ None) (take_rest text at) none

    pub rest_here : at ≤ length text → value ≤ length text - (at + size) → PieceAt text at (record { from = at + size; to = at + size + value })
    rest_here inside fits = piece_here text at value size inside within' is' none' fits

    pub rest_short : length text - (at + size) < value → piece_of at (drop at text) ≡ Err (fault CutShort at)
    rest_short short = piece_short text at value size within' is' none' short
