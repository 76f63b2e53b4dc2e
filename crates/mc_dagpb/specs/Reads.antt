-- What reading a node gives.
use Rattle.std.specs.Prelude.{◌≡◌, ℕ, List, [], ◌∷◌, ◌++◌, map, Some, Err, ⊤}
use Rattle.std.specs.Option.{option_map}
use Rattle.mc_base.specs.NodeRead.{NodeText, node_of}
use Rattle.mc_dagpb.specs.Named.{fault_named, span_bytes}
use Rattle.mc_dagpb.specs.declared.fault.NodeError.{NodeError}
use Rattle.mc_dagpb.specs.declared.fault.NodeError.TheVariants.{Memory, Fault}
use Rattle.mc_dagpb.specs.declared.node.Node.{Node}
use Rattle.mc_dagpb.specs.declared.node.NodeView.{NodeView}
use Rattle.mc_dagpb.specs.declared.step.NodeField.{NodeField}
use Rattle.mc_dagpb.specs.declared.step.NodeField.TheVariants.{Data, Link}

-- what a node says
abbrev pub node_text : Node → NodeText
node_text node = record { links = node.links; payload = node.payload }

-- what a borrowed node says
abbrev pub view_text : NodeView → NodeText
view_text view =
    record { links = map (λ link. link.now) view.links; payload = option_map (λ bytes. bytes.now) view.payload }

-- a fault is the first one of the text
abbrev pub IsFault : List ℕ → NodeError → Type 0
IsFault text Memory = ⊤
IsFault text (Fault fault) = node_of text ≡ Err (fault_named fault)

-- a node with one more field
abbrev pub with_field : List ℕ → NodeField → NodeText → NodeText
with_field text (Data span) node = record node { payload = Some (span_bytes text span) }
with_field text (Link span) node = record node { links = node.links ++ span_bytes text span ∷ [] }
