-- Fronts that are all fields.
use Rattle.std.proofs.Common.{◌≡◌, ℕ, List, [], ◌∷◌, Option, Some, None, refl}
use Rattle.std.specs.List.{filter_map}
use Rattle.std.specs.Option.{option_map, option_or}
use Rattle.mc_base.specs.Wire.{Field}
use Rattle.mc_base.specs.WireRead.{Front, NoKey, NoContent, Whole, Placed, fields_in, onto_fields}
use Rattle.mc_base.specs.NodeRead.{part_in, parts_in}

-- fronts that are all fields
pub record AllFields (field : Field) (rest : List Placed) (fields : List Field) : Type 0 where
  pub more : List Field
  pub read : fields_in rest ≡ Some more
  pub are : fields ≡ field ∷ more

all_fields_by : (field : Field) (rest : List Placed) (fields : List Field) (found : Option (List Field)) → fields_in rest ≡ found → option_map (λ more. field ∷ more) found ≡ Some fields → AllFields field rest fields
all_fields_by field rest fields None read e = absurd (cc)
all_fields_by field rest fields (Some more) read e = record { more = more; read = read; are = cc }

pub all_fields : (field : Field) (rest : List Placed) (fields : List Field) → option_map (λ more. field ∷ more) (fields_in rest) ≡ Some fields → AllFields field rest fields
all_fields field rest fields e = all_fields_by field rest fields (fields_in rest) refl e

pub none_is_no : {A : Type 0} {x : A} {P : Type 0} → ◌≡◌ {A = Option A} None (Some x) → P
none_is_no e = absurd (cc)

pub some_is_no : {A : Type 0} {x : A} {P : Type 0} → ◌≡◌ {A = Option A} (Some x) None → P
some_is_no e = absurd (cc)

-- neither is a fault
pub neither : {A : Type 0} (a b : Option A) → option_or a b ≡ None → (a ≡ None) × (b ≡ None)
neither None None e = (refl, refl)
neither None (Some b) e = some_is_no e
neither (Some a) b e = some_is_no e

pub nothing_is : (fields : List Field) → ◌≡◌ {A = Option (List Field)} (Some []) (Some fields) → fields ≡ []
nothing_is fields e = cc

-- what fronts hold is what their fields hold
module _ (number : ℕ) (part : Field → Option (List ℕ)) (same : (field : Field) (len : ℕ) → part_in number (Whole field len) ≡ part field) where
  parts_of_front : (at : ℕ) (front : Front) (rest : List Placed) (fields : List Field) → onto_fields front (fields_in rest) ≡ Some fields
      → ((more : List Field) → fields_in rest ≡ Some more → parts_in number rest ≡ filter_map part more) → parts_in number (record { at = at; front = front } ∷ rest) ≡ filter_map part fields
  parts_of_front at (NoKey fault) rest fields e smaller = none_is_no e
  parts_of_front at (NoContent keyed wire fault) rest fields e smaller = none_is_no e
  parts_of_front at (Whole field len) rest fields e smaller =
      let all = all_fields field rest fields e in
      rw (all.are, same field len, smaller all.more all.read)

  pub parts_of_fields : (fronts : List Placed) (fields : List Field) → fields_in fronts ≡ Some fields → parts_in number fronts ≡ filter_map part fields
  parts_of_fields [] fields e = rw (nothing_is fields e)
  parts_of_fields (placed ∷ rest) fields e = parts_of_front placed.at placed.front rest fields e (parts_of_fields rest)
