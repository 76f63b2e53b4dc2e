-- One field of a node.
use Rattle.std.specs.Prelude.{◌≡◌, ℕ, ◌-◌, ◌<◌, ◌≤◌, List, ◌∷◌, length, Some, None}
use Rattle.mc_base.specs.Wire.{Field}
use Rattle.mc_base.specs.WireRead.{Front, Whole, fronts_from}
use Rattle.mc_base.specs.NodeRead.{node_front_fault, node_key_fault, body_fault, part_in, parts_in, first_of}
use Rattle.mc_wire.specs.Named.{field_at, fronts_at}
use Rattle.mc_wire.specs.declared.field.Field.{Field as PlacedField}
use Rattle.mc_dagpb.specs.Before.{IsAfter}
use Rattle.mc_dagpb.specs.Named.{IsSpan, span_bytes}
use Rattle.mc_dagpb.specs.declared.order.Order.{Order}
use Rattle.mc_dagpb.specs.declared.step.NodeField.{NodeField}
use Rattle.mc_dagpb.specs.declared.step.NodeField.TheVariants.{Data, Link}
use Rattle.mc_dagpb.specs.declared.step.Step.{Step}

abbrev pub number_of_field : NodeField → ℕ
number_of_field (Data span) = 1
number_of_field (Link span) = 2

abbrev pub span_of : NodeField → ℕ × ℕ
span_of (Data span) = (span.from, span.to)
span_of (Link span) = (span.from, span.to)

-- the bytes of Data, or the Hash of a link
abbrev pub Says : List ℕ → NodeField → Front → Type 0
Says text (Data span) front = (part_in 1 front ≡ Some (span_bytes text span)) × (part_in 2 front ≡ None)
Says text (Link span) front =
    (body : List ℕ) × (part_in 1 front ≡ None) × (part_in 2 front ≡ Some body)
    × (first_of (parts_in 1 (fronts_from 0 body)) ≡ Some (span_bytes text span))

abbrev pub IsInside : List ℕ → NodeField → Type 0
IsInside text (Data span) = IsSpan text span
IsInside text (Link span) = IsSpan text span

-- what a field with its content is
pub record StepOf (text : List ℕ) (at : ℕ) (field : PlacedField) (step : Step) : Type 0 where
  pub fine : body_fault at (field.next - at) (field_at text field) ≡ None
  pub says : Says text step.field (Whole (field_at text field) (field.next - at))
  pub inside : IsInside text step.field
  pub next : step.next ≡ field.next
  pub number : field.number ≡ 1 → number_of_field step.field ≡ 1
  pub other : field.number ≡ 2 → number_of_field step.field ≡ 2

-- a field that may stand at an offset of a node, where these fields stand before it
pub record StepAt (text : List ℕ) (at : ℕ) (order : Order) (step : Step) : Type 0 where
  pub field : Field
  pub fronts : fronts_at text at ≡ record { at = at; front = Whole field (step.next - at) } ∷ fronts_at text step.next
  pub says : Says text step.field (Whole field (step.next - at))
  pub inside : IsInside text step.field
  pub number : field.number ≡ number_of_field step.field
  pub fine : (before : List ℕ) → IsAfter before order → node_front_fault before at (Whole field (step.next - at)) ≡ None
  pub allowed : (before : List ℕ) → IsAfter before order → node_key_fault before (number_of_field step.field) 2 ≡ None
  pub begins : at < step.next
  pub ends : step.next ≤ length text
