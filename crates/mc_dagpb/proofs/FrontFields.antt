-- What fronts that are all fields hold.
use Rattle.std.proofs.Common.{◌≡◌, ℕ, List, Some, refl}
use Rattle.mc_base.specs.Wire.{Field, part_of, parts_of}
use Rattle.mc_base.specs.WireRead.{Placed, fields_in}
use Rattle.mc_base.specs.NodeRead.{parts_in}
use Rattle.mc_wire.proofs.AllFields.{parts_of_fields as fronts_hold}

-- what fronts hold is what their fields hold
pub parts_of_fields : (number : ℕ) (fronts : List Placed) (fields : List Field) → fields_in fronts ≡ Some fields → parts_in number fronts ≡ parts_of number fields
parts_of_fields number = fronts_hold number (part_of number) (λ field len. refl)
