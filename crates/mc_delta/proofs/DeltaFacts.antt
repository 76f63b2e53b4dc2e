-- A delta that is read field by field.
use Rattle.std.proofs.Common.{◌≡◌, ℕ, ◌+◌, ◌-◌, ◌≤◌, List, [], ◌∷◌, ◌++◌, length, map, drop, Some, None, Ok, Err, ◌∙◌, arith}
use Rattle.std.proofs.lemmas.List.{append-nil}
use Rattle.mc_base.specs.WireRead.{Front, NoKey, NoContent, Whole, WireFault, fault_of, front_of}
use Rattle.mc_base.specs.NodeRead.{parts_in}
use Rattle.mc_model.specs.DeltaText as model
use Rattle.mc_model.specs.DeltaText.{DeltaFault, delta_of, delta_fault, delta_fault_in, delta_read, element_in, tomb_in, last_or, varints_in}
use Rattle.mc_model.specs.declared.delta.Delta.{Delta}
use Rattle.mc_wire.specs.Named as wire
use Rattle.mc_wire.specs.Named.{FaultAt, FieldAt, fronts_at}
use Rattle.mc_wire.specs.declared.fault.WireFaultAt.{WireFaultAt}
use Rattle.mc_wire.specs.declared.field.Field.{Field as PlacedField}
use Rattle.mc_wire.proofs.AllFields.{none_is_no}
use Rattle.mc_delta.specs.Deltas.{IsFault, IsFieldFault}
use Rattle.mc_delta.specs.Faults.{fault_named, of_wire}
use Rattle.mc_delta.specs.declared.fault.DeltaError.{DeltaError}
use Rattle.mc_delta.specs.declared.fault.DeltaError.TheVariants.{Memory, Fault}
use Rattle.mc_delta.proofs.DeltaLaw.{none_of_fault}
use Rattle.mc_delta.proofs.ReadLaw.{read_told}

-- the fields up to an offset are fine, and this is what they hold
pub record IsReading (text : List ℕ) (at : ℕ) (delta : Delta) : Type 0 where
  pub within : at ≤ length text
  pub fault : delta_fault_in (fronts_at text 0) ≡ delta_fault_in (fronts_at text at)
  pub elements : map element_in (parts_in 1 (fronts_at text 0)) ≡ delta.elements ++ map element_in (parts_in 1 (fronts_at text at))
  pub tombstones : map tomb_in (parts_in 2 (fronts_at text 0)) ≡ delta.tombstones ++ map tomb_in (parts_in 2 (fronts_at text at))
  pub priority : last_or 0 (varints_in 3 (fronts_at text 0)) ≡ last_or delta.priority (varints_in 3 (fronts_at text at))

first_fault : (text : List ℕ) (at : ℕ) (delta : Delta) (fault : DeltaFault) → IsReading text at delta → delta_fault_in (fronts_at text at) ≡ Some fault → (delta_of text ≡ None) × (delta_read text ≡ Err fault)
unfolding delta_fault delta_read
first_fault text at delta fault reading bad =
    let faulty : delta_fault_in (fronts_at text 0) ≡ Some fault = reading.fault ∙ bad in
    (none_of_fault text fault faulty, rw faulty)

wire_fault : (at : ℕ) (front : Front) (kind : WireFault) → fault_of front ≡ Some kind → delta_fault_in (record { at = at; front = front } ∷ []) ≡ Some (record { kind = model.Wire kind; at = at })
wire_fault at (NoKey fault) kind e = let same : fault ≡ kind = cc in rw same
wire_fault at (NoContent number wire fault) kind e = let same : fault ≡ kind = cc in rw same
wire_fault at (Whole field len) kind e = none_is_no e

-- a fault of the wire format is the first one
pub wire_bad : (text : List ℕ) (at : ℕ) (delta : Delta) (fault : WireFaultAt) → IsReading text at delta → FaultAt text at fault → IsFault text (Fault (of_wire fault))
wire_bad text at delta fault reading faulty =
    first_fault text at delta (fault_named (of_wire fault)) reading
    (rw faulty.fronts (wire_fault at (front_of (drop at text)) (wire.fault_named fault.kind) faulty.kind ∙ rw faulty.at_key))

-- a fault in a field is the first one
pub field_bad : (text : List ℕ) (at : ℕ) (delta : Delta) (field : PlacedField) (error : DeltaError) → IsReading text at delta → FieldAt text at field → IsFieldFault text field error → IsFault text error
field_bad text at delta field Memory reading placed bad = tt
field_bad text at delta field (Fault fault) reading placed bad =
    let end : at + (field.next - at) ≡ field.next = omega (arith, placed.begins) in
    first_fault text at delta (fault_named fault) reading (rw (placed.fronts, end, bad))

-- where no field is left, this is the delta
pub delta_done : (text : List ℕ) (at : ℕ) (delta : Delta) → IsReading text at delta → fronts_at text at ≡ [] → delta_read text ≡ Ok delta
unfolding delta_fault delta_read
delta_done text at delta reading ends =
    let fine : delta_fault_in (fronts_at text 0) ≡ None = rw ends at reading.fault in
    let elements : map element_in (parts_in 1 (fronts_at text 0)) ≡ delta.elements = (rw ends at reading.elements) ∙ append-nil delta.elements in
    let tombstones : map tomb_in (parts_in 2 (fronts_at text 0)) ≡ delta.tombstones = (rw ends at reading.tombstones) ∙ append-nil delta.tombstones in
    let priority : last_or 0 (varints_in 3 (fronts_at text 0)) ≡ delta.priority = rw ends at reading.priority in
    rw (fine, elements, tombstones, priority)

-- the same, of its definition
pub delta_found : (text : List ℕ) (at : ℕ) (delta : Delta) → IsReading text at delta → fronts_at text at ≡ [] → delta_of text ≡ Some delta
delta_found text at delta reading ends = read_told text delta (delta_done text at delta reading ends)
