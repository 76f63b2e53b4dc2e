-- What fronts that are all fields hold.
use Rattle.std.proofs.Common.{◌≡◌, ℕ, List, Some, refl}
use Rattle.mc_base.specs.Wire.{Field, Content, Varint, Fixed64, Part, Fixed32}
use Rattle.mc_base.specs.WireRead.{Whole, Placed, fields_in}
use Rattle.mc_base.specs.NodeRead.{parts_in, part_in}
use Rattle.mc_model.specs.DeltaText.{parts_of, part_of}
use Rattle.mc_wire.proofs.AllFields.{parts_of_fields as fronts_hold}

-- what a field holds
part_of_content : (number : ℕ) (at field : ℕ) (content : Content) (len : ℕ) → part_in number (Whole (record { number = field; content = content }) len) ≡ part_of number (record { number = field; content = content })
part_of_content number at field (Varint value) len = refl
part_of_content number at field (Fixed64 bytes) len = refl
part_of_content number at field (Part bytes) len = refl
part_of_content number at field (Fixed32 bytes) len = refl

pub part_of_field : (number : ℕ) (field : Field) (len : ℕ) → part_in number (Whole field len) ≡ part_of number field
part_of_field number field len = part_of_content number 0 field.number field.content len

-- what fronts hold is what their fields hold
pub parts_of_fields : (number : ℕ) (fronts : List Placed) (fields : List Field) → fields_in fronts ≡ Some fields → parts_in number fronts ≡ parts_of number fields
parts_of_fields number = fronts_hold number (part_of number) (part_of_field number)
