-- Deltas that can be written: as every delta in memory.
use Rattle.std.specs.Prelude.{◌<◌, ◌^◌, length, Bool, IsTrue, ◌&&◌}
use Rattle.std.specs.List.{list_all}
use Rattle.std.specs.Str.{is_utf8}
use Rattle.mc_model.specs.DeltaText.{delta_bytes}
use Rattle.mc_model.specs.declared.delta.Delta.{Delta}
use Rattle.mc_model.specs.declared.delta.Element.{Element}
use Rattle.mc_model.specs.declared.delta.Tomb.{Tomb}

abbrev pub element_has_text : Element → Bool
element_has_text element = is_utf8 element.key

abbrev pub tomb_has_text : Tomb → Bool
tomb_has_text tomb = is_utf8 tomb.key && is_utf8 tomb.id

-- its keys and ids are texts, and its priority and its written length have 64 bits
pub record IsWritable (delta : Delta) : Type 0 where
  pub elements : IsTrue (list_all element_has_text delta.elements)
  pub tombstones : IsTrue (list_all tomb_has_text delta.tombstones)
  pub priority : delta.priority < 2 ^ 64
  pub short : length (delta_bytes delta) < 2 ^ 64
