-- What the values of this crate say of a text.
use Rattle.std.specs.Prelude.{◌≡◌, ℕ, ◌-◌, ◌<◌, ◌≤◌, List, ◌∷◌, length, take, drop, None}
use Rattle.mc_base.specs.NodeRead as read
use Rattle.mc_base.specs.NodeRead.{NodeText, link_front_fault}
use Rattle.mc_base.specs.WireRead.{Front, Whole}
use Rattle.mc_wire.specs.Named.{field_at, fronts_at, EndsAt}
use Rattle.mc_wire.specs.declared.field.Field.{Field}
use Rattle.mc_dagpb.specs.declared.fault.NodeFaultKind.{NodeFaultKind}
use Rattle.mc_dagpb.specs.declared.fault.NodeFaultKind.TheVariants.{Short, LongVarint, WireType, BadField, Order}
use Rattle.mc_dagpb.specs.declared.fault.NodeFaultKind.TheVariants.{NoHash, NameText}
use Rattle.mc_dagpb.specs.declared.fault.NodeFault.{NodeFault}
use Rattle.mc_dagpb.specs.declared.link.Span.{Span}

abbrev pub kind_named : NodeFaultKind → read.NodeFaultKind
kind_named Short = read.Short
kind_named LongVarint = read.LongVarint
kind_named WireType = read.WireType
kind_named BadField = read.BadField
kind_named Order = read.Order
kind_named NoHash = read.NoHash
kind_named NameText = read.NameText

abbrev pub fault_named : NodeFault → read.NodeFault
fault_named fault = record { kind = kind_named fault.kind; at = fault.at }

-- a span within a text, and its bytes
abbrev pub IsSpan : List ℕ → Span → Type 0
IsSpan text span = (span.from ≤ span.to) × (span.to ≤ length text)

abbrev pub span_bytes : List ℕ → Span → List ℕ
span_bytes text span = take (span.to - span.from) (drop span.from text)

-- a field without regard to where its key stands
abbrev pub whole_front : List ℕ → Field → Front
whole_front text field = Whole (field_at text field) 0

-- a field at an offset of a link that may stand there
pub record LinkFieldAt (text : List ℕ) (at before : ℕ) (field : Field) : Type 0 where
  pub len : ℕ
  pub fronts : fronts_at text at
      ≡ record { at = at; front = Whole (field_at text field) len } ∷ fronts_at text field.next
  pub fine : link_front_fault before (Whole (field_at text field) len) ≡ None
  pub bytes : EndsAt field.content field.next
  pub begins : at < field.next
  pub ends : field.next ≤ length text
