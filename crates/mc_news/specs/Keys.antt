-- The keys that blocks name.
use Rattle.std.specs.Prelude.{◌++◌, ℕ, Bool, List, map}
use Rattle.std.specs.List.{list_any}
use Rattle.std.specs.Str.{bytes_eq}
use Rattle.mc_model.specs.declared.block.Block.{Block}
use Rattle.mc_model.specs.declared.delta.Element.{Element}
use Rattle.mc_model.specs.declared.delta.Tomb.{Tomb}
use Rattle.mc_face.specs.declared.change.Change.{Change}
use denote.Ref.{Bor}

-- what texts say that are borrowed
abbrev pub texts_of : List (Bor (List ℕ)) → List (List ℕ)
texts_of texts = map (λ (text : Bor (List ℕ)). text.now) texts

-- whether a key is among these
abbrev pub has_key : List (List ℕ) → List ℕ → Bool
has_key keys key = list_any (λ (k : List ℕ). bytes_eq k key) keys

-- the keys that a block names
abbrev pub keys_in : Block → List (List ℕ)
keys_in block =
    map (λ (element : Element). element.key) block.delta.elements
    ++ map (λ (tomb : Tomb). tomb.key) block.delta.tombstones

-- the keys of changes
abbrev pub keys_of : List Change → List (List ℕ)
keys_of changes = map (λ (change : Change). change.key) changes
