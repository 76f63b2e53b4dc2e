-- Lengths of written fields.
use Rattle.std.proofs.Common.{◌≡◌, ◌≢◌, ℕ, suc, ◌+◌, ◌-◌, ◌*◌, ◌^◌, ◌<◌, ◌≤◌, List, [], ◌∷◌, ◌++◌, length, take, get_or, min, refl, ap, sym, ◌∙◌, arith, true, false, append_assoc, length-append, ◌==◌}
use Rattle.std.proofs.Math.Dec.{leb}
use Rattle.std.proofs.lemmas.Bool.{leb-true, leb-false, ne_eqb}
use Rattle.std.proofs.lemmas.List.{take_more, append-nil}
use Rattle.std.proofs.lemmas.List.Concat.{flat_map-append}
use Rattle.std.specs.List.{flat_map}
use Rattle.mc_base.specs.Wire.{varint_bytes, part_head_bytes, part_field_bytes}
use Rattle.mc_model.specs.DeltaText.{some_part, entry_bytes, element_bytes, tomb_bytes, priority_bytes}
use Rattle.mc_model.specs.declared.delta.Element.{Element}
use Rattle.mc_model.specs.declared.delta.Tomb.{Tomb}
use Rattle.mc_wire.proofs.Writing.{varint_bytes-one}
use Rattle.mc_delta.specs.Lengths.{capped, field_length, part_length, entry_length}

-- a field of bytes with a number of one byte
pub part_field_len : (number : ℕ) (part : List ℕ) → number ≤ 15 → length (part_field_bytes number part) ≡ field_length (length part)
part_field_len number part small =
    let key : length (varint_bytes (8 * number + 2)) ≡ 1 = ap length (varint_bytes-one (8 * number + 2) (omega arith)) in
    omega (arith, length-append (part_head_bytes number (length part)) part, length-append (varint_bytes (8 * number + 2)) (varint_bytes (length part)), key)

some_part_len : (number : ℕ) (part : List ℕ) → number ≤ 15 → length (some_part number part) ≡ part_length (length part)
some_part_len number [] small = refl
some_part_len number (byte ∷ bytes) small =
    let some : suc (length bytes) == 0 ≡ false = ne_eqb (suc (length bytes)) 0 (λ e. omega arith) in
    rw some (part_field_len number (byte ∷ bytes) small)

pub entry_bytes_len : (key id value : List ℕ) → length (entry_bytes key id value) ≡ entry_length (length key) (length id) (length value)
entry_bytes_len key id value =
    omega (
      arith,
      length-append (some_part 1 key ++ some_part 2 id) (some_part 3 value),
      length-append (some_part 1 key) (some_part 2 id),
      some_part_len 1 key (omega arith),
      some_part_len 2 id (omega arith),
      some_part_len 3 value (omega arith),
    )

pub element_bytes_len : (element : Element) → length (element_bytes element) ≡ field_length (entry_length (length element.key) 0 (length element.value))
element_bytes_len element = part_field_len 1 (entry_bytes element.key [] element.value) (omega arith) ∙ ap field_length (entry_bytes_len element.key [] element.value)

pub tomb_bytes_len : (tomb : Tomb) → length (tomb_bytes tomb) ≡ field_length (entry_length (length tomb.key) (length tomb.id) 0)
tomb_bytes_len tomb = part_field_len 2 (entry_bytes tomb.key tomb.id []) (omega arith) ∙ ap field_length (entry_bytes_len tomb.key tomb.id [])

pub priority_bytes_len : (priority : ℕ) → priority ≢ 0 → length (priority_bytes priority) ≡ 1 + length (varint_bytes priority)
priority_bytes_len priority some =
    let key : length (varint_bytes (8 * 3)) ≡ 1 = ap length (varint_bytes-one (8 * 3) (omega arith)) in
    rw (ne_eqb priority 0 some) (omega (arith, length-append (varint_bytes (8 * 3)) (varint_bytes priority), key))

-- a field whose content's length is capped
pub capped_field : (len : ℕ) → capped (field_length (capped len)) ≡ capped (field_length len)
capped_field len = (elim (leb len (2 ^ 64 - 1)) as (λ b. leb len (2 ^ 64 - 1) ≡ b → capped (field_length (capped len)) ≡ capped (field_length len)) [
  | true ↦ λ e. let same : capped len ≡ len = omega (arith, leb-true len (2 ^ 64 - 1) e) in rw same
  | false ↦ λ e. let most : capped len ≡ 2 ^ 64 - 1 = omega (arith, leb-false len (2 ^ 64 - 1) e) in rw most (omega (arith, leb-false len (2 ^ 64 - 1) e))
]) refl

-- one item more
pub more_len : {X : Type 0} (bytes_of : X → List ℕ) (items : List X) (index : ℕ) (item : X) → index < length items → item ≡ get_or items index item →
    length (flat_map bytes_of (take (index + 1) items)) ≡ length (flat_map bytes_of (take index items)) + length (bytes_of item)
more_len {X} bytes_of items index item inside is =
    let taken : take (index + 1) items ≡ take index items ++ item ∷ [] = take_more items index item inside ∙ ap (λ (last : X). take index items ++ last ∷ []) (sym is) in
    rw (taken, flat_map-append bytes_of (take index items) (item ∷ []), append-nil (bytes_of item)) (length-append (flat_map bytes_of (take index items)) (bytes_of item))

-- the lengths so far, with one item more
more_by : (before item len entry field sum more : ℕ) → len ≡ capped before → field ≡ capped (field_length entry) → entry ≡ capped item → sum ≡ min (len + field) (2 ^ 64 - 1) → more ≡ before + field_length item → sum ≡ capped more
more_by before item len entry field sum more so_far field_is entry_is sum_is more_is =
    let field_of_item : field ≡ capped (field_length item) = field_is ∙ ap (λ (e : ℕ). capped (field_length e)) entry_is ∙ capped_field item in
    omega (arith, field_of_item)

pub element_more : (elements : List Element) (index : ℕ) (element : Element) (len entry field sum : ℕ) → index < length elements → element ≡ get_or elements index element →
    len ≡ capped (length (flat_map element_bytes (take index elements))) → entry ≡ capped (entry_length (length element.key) 0 (length element.value)) → field ≡ capped (field_length entry) → sum ≡ min (len + field) (2 ^ 64 - 1) →
    sum ≡ capped (length (flat_map element_bytes (take (index + 1) elements)))
element_more elements index element len entry field sum inside is so_far entry_is field_is sum_is =
    more_by (length (flat_map element_bytes (take index elements))) (entry_length (length element.key) 0 (length element.value)) len entry field sum (length (flat_map element_bytes (take (index + 1) elements))) so_far field_is entry_is sum_is
    (more_len element_bytes elements index element inside is ∙ rw (element_bytes_len element))

pub tomb_more : (tombs : List Tomb) (index : ℕ) (tomb : Tomb) (len entry field sum : ℕ) → index < length tombs → tomb ≡ get_or tombs index tomb →
    len ≡ capped (length (flat_map tomb_bytes (take index tombs))) → entry ≡ capped (entry_length (length tomb.key) (length tomb.id) 0) → field ≡ capped (field_length entry) → sum ≡ min (len + field) (2 ^ 64 - 1) →
    sum ≡ capped (length (flat_map tomb_bytes (take (index + 1) tombs)))
tomb_more tombs index tomb len entry field sum inside is so_far entry_is field_is sum_is =
    more_by (length (flat_map tomb_bytes (take index tombs))) (entry_length (length tomb.key) (length tomb.id) 0) len entry field sum (length (flat_map tomb_bytes (take (index + 1) tombs))) so_far field_is entry_is sum_is
    (more_len tomb_bytes tombs index tomb inside is ∙ rw (tomb_bytes_len tomb))

pub sum_capped : (first second : ℕ) (sum : ℕ) → sum ≡ min (capped first + capped second) (2 ^ 64 - 1) → sum ≡ capped (first + second)
sum_capped first second sum e = omega arith

-- an entry after its key and its length
pub entry_written : (old key id value headed keyed named done : List ℕ) (number len : ℕ) → len ≡ capped (entry_length (length key) (length id) (length value)) → len ≢ 2 ^ 64 - 1 →
    headed ≡ old ++ part_head_bytes number len → keyed ≡ headed ++ some_part 1 key → named ≡ keyed ++ some_part 2 id → done ≡ named ++ some_part 3 value →
    done ≡ old ++ part_field_bytes number (entry_bytes key id value)
entry_written old key id value headed keyed named done number len len_is fits head key_is id_is value_is =
    let same : length (entry_bytes key id value) ≡ len = omega (arith, entry_bytes_len key id value) in
    rw (same, value_is, id_is, key_is, head) (simp append_assoc)
