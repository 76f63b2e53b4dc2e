-- A link that is read field by field.
use Rattle.std.proofs.Common.{◌≡◌, ℕ, ◌≤◌, List, length, Option}
use Rattle.std.specs.Option.{option_map, option_or}
use Rattle.mc_base.specs.NodeRead.{link_fault, parts_in, first_of}
use Rattle.mc_wire.specs.Named.{fronts_at}
use Rattle.mc_dagpb.specs.declared.link.Span.{Span}
use Rattle.mc_dagpb.specs.Named.{IsSpan, span_bytes}
use Rattle.std.specs.Prelude.{IfSome}

-- the fields up to an offset are fine, and this is the Hash among them
pub record IsReading (text : List ℕ) (from at before : ℕ) (hash : Option Span) : Type 0 where
  pub within : at ≤ length text
  pub fault : link_fault 0 (fronts_at text from) ≡ link_fault before (fronts_at text at)
  pub found : first_of (parts_in 1 (fronts_at text from)) ≡ option_or (option_map (span_bytes text) hash) (first_of (parts_in 1 (fronts_at text at)))
  pub inside : IfSome hash (λ span. IsSpan text span)
