-- The value of a key over blocks: that of its live element of greatest priority, and of equal ones the greatest by its
-- bytes.
use Rattle.std.specs.Prelude.{ℕ, Bool, ◌&&◌, List, [], map, filter, Option, if◌then◌else◌}
use Rattle.std.specs.List.{flat_map, list_any}
use Rattle.std.specs.Option.{option_map}
use Rattle.std.specs.Str.{bytes_eq}
use Rattle.mc_model.specs.declared.block.Block.{Block}
use Rattle.mc_model.specs.declared.delta.Element.{Element}
use Rattle.mc_model.specs.declared.delta.Tomb.{Tomb}
use Rattle.mc_model.specs.Id.{id_text}
use Rattle.mc_model.specs.Rank.{Ranked, greatest}

-- whether this is a tombstone of the key with the id
abbrev pub is_tomb : List ℕ → List ℕ → Tomb → Bool
is_tomb key id tomb = bytes_eq tomb.key key && bytes_eq tomb.id id

-- whether a block has the tombstone
abbrev pub has_tomb : List Block → List ℕ → List ℕ → Bool
has_tomb blocks key id = list_any (λ block. list_any (is_tomb key id) block.delta.tombstones) blocks

-- whether the elements of the key in this block are hidden
abbrev pub is_hidden : List Block → List ℕ → Block → Bool
is_hidden blocks key block = has_tomb blocks key (id_text block.cid.0)

-- the elements of a key, with this priority
abbrev pub ranked_elements : ℕ → List Element → List ℕ → List Ranked
ranked_elements priority elements key =
    map (λ element. (priority, element.value)) (filter (λ element. bytes_eq element.key key) elements)

-- the elements of the key in one block, with its priority
abbrev pub ranked_in : List ℕ → Block → List Ranked
ranked_in key block = ranked_elements block.delta.priority block.delta.elements key

-- those of `blocks` that no tombstone of `all` hides
abbrev pub live_among : List Block → List ℕ → List Block → List Ranked
live_among all key blocks = flat_map (λ block. if is_hidden all key block then [] else ranked_in key block) blocks

-- the live elements of the key
abbrev pub live : List Block → List ℕ → List Ranked
live blocks key = live_among blocks key blocks

-- the greatest of them, with its priority
abbrev pub value_row : List Block → List ℕ → Option Ranked
value_row blocks key = greatest (live blocks key)

-- the value of the key, or none
abbrev pub value : List Block → List ℕ → Option (List ℕ)
value blocks key = option_map (λ ranked. ranked.1) (value_row blocks key)
