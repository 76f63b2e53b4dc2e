-- The answers over blocks: which keys have a value, and queries of them.
use Rattle.std.specs.Prelude.{◌≡◌, ℕ, Bool, List, [], map, filter, take, drop, is_some, unwrap_or, Some}
use Rattle.std.specs.List.{flat_map}
use Rattle.std.specs.Ordering.{nat_cmp}
use Rattle.std.specs.Cmp.Lexicographic.{slice_cmp}
use Rattle.mc_model.specs.declared.block.Block.{Block}
use Rattle.mc_model.specs.declared.delta.Element.{Element}
use Rattle.mc_model.specs.Ascending.{ascending}
use Rattle.mc_model.specs.Live.{value}
use Rattle.mc_model.specs.Events.{Process, after}
use Rattle.mc_model.specs.State.{Durable, Running, blocks_of}
use Rattle.mc_base.specs.declared.cid.Cid.{Cid}

-- whether a key has a value
abbrev pub has_value : List Block → List ℕ → Bool
has_value blocks key = is_some (value blocks key)

-- the keys of all elements
abbrev pub element_keys : List Block → List (List ℕ)
element_keys blocks = flat_map (λ (block : Block). map (λ (element : Element). element.key) block.delta.elements) blocks

-- the keys that have a value, each once, ascending by their bytes
abbrev pub valued_keys : List Block → List (List ℕ)
valued_keys blocks = ascending (slice_cmp nat_cmp) (filter (has_value blocks) (element_keys blocks))

-- a key with its value
abbrev pub with_value : List Block → List ℕ → List ℕ × List ℕ
with_value blocks key = (key, unwrap_or (value blocks key) [])

-- of the selected keys that have a value, those after the first `skip`, at most `count` of them, each with its value
abbrev pub query : List Block → (List ℕ → Bool) → ℕ → ℕ → List (List ℕ × List ℕ)
query blocks selects skip count = map (with_value blocks) (take count (drop skip (filter selects (valued_keys blocks))))

-- the same value to every key, and the same answer to every query
pub record SameAnswers (xs ys : List Block) : Type 0 where
  pub get : (key : List ℕ) → value xs key ≡ value ys key
  pub has : (key : List ℕ) → has_value xs key ≡ has_value ys key
  pub rows : (selects : List ℕ → Bool) (skip count : ℕ) → query xs selects skip count ≡ query ys selects skip count

-- the members of all groups, group by group
abbrev pub joined : {X : Type 0} → List (List X) → List X
joined groups = flat_map (λ group. group) groups

-- the processed blocks of a replica that has processed these groups, one after another
abbrev pub processed_in_groups : Durable → Running → List (List Cid) → List Block
processed_in_groups durable run groups =
    blocks_of (after (record { durable = durable; run = Some run }) (map Process groups)).durable
