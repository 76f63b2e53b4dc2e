-- What a delete takes, the blocks with a live element of the key, and the deltas into which their tombstones are cut.
use Rattle.std.specs.Prelude.{◌≡◌, ◌≢◌, ◌⊎◌, ⊤, ℕ, ◌+◌, ◌-◌, ◌^◌, ◌<◌, ◌≤◌, min, List, [], ◌∷◌, ◌++◌, length, map}
use Rattle.std.specs.Prelude.{Option}
use Rattle.std.specs.List.{filter_map}
use Rattle.std.specs.Option.{option_map}
use Rattle.std.specs.Ordering.{nat_cmp, on, then_cmp}
use Rattle.std.specs.declared.cmp.Ordering.{Ordering}
use Rattle.std.specs.Cmp.Lexicographic.{slice_cmp}
use Rattle.mc_base.specs.declared.cid.Cid.{Cid}
use Rattle.mc_model.specs.declared.block.Block.{Block}
use Rattle.mc_model.specs.declared.delta.Delta.{Delta}
use Rattle.mc_model.specs.declared.delta.Tomb.{Tomb}
use Rattle.mc_model.specs.Ascending.{ascending}
use Rattle.mc_model.specs.Id.{id_text}
use Rattle.mc_model.specs.Live.{live_among}
use Rattle.mc_model.specs.Made.{made_bytes, made_cid}
use Rattle.mc_model.specs.Offer.{block_max}
use Rattle.mc_model.specs.Rank.{Ranked, greatest}

-- a block with a live element of a key: its priority, the greatest of its live values, and its identifier
pub record Pair : Type 0 where
  pub priority : ℕ
  pub value : List ℕ
  pub cid : Cid

-- by the priority, then by the value, then by the identifier
abbrev pub pair_cmp : Pair → Pair → Ordering
pair_cmp =
    then_cmp
    (then_cmp (on (λ (pair : Pair). pair.priority) nat_cmp) (on (λ (pair : Pair). pair.value) (slice_cmp nat_cmp)))
    (on (λ (pair : Pair). pair.cid.0) (slice_cmp nat_cmp))

-- the pair of one block, where it has a live element of the key
abbrev pub pair_in : List Block → List ℕ → Block → Option Pair
pair_in blocks key block =
    option_map (λ (best : Ranked). record { priority = best.0; value = best.1; cid = block.cid })
    (greatest (live_among blocks key (block ∷ [])))

-- the pairs of all blocks, each once, ascending
abbrev pub pairs : List Block → List ℕ → List Pair
pairs blocks key = ascending pair_cmp (filter_map (pair_in blocks key) blocks)

-- the tombstone that hides the elements of the key in a pair's block
abbrev pub pair_tomb : List ℕ → Pair → Tomb
pair_tomb key pair = record { key = key; id = id_text pair.cid.0 }

-- the delta with the tombstones of some pairs
abbrev pub tombs_delta : List ℕ → List Pair → ℕ → Delta
tombs_delta key taken priority = record { elements = []; tombstones = map (pair_tomb key) taken; priority = priority }

-- the number of bytes of its block
abbrev pub tombs_size : List Cid → ℕ → List ℕ → List Pair → ℕ
tombs_size links priority key taken = length (made_bytes links (tombs_delta key taken priority))

-- the next pair, where there is one, would make the block too large
abbrev pub IsFull : List Cid → ℕ → List ℕ → List Pair → List Pair → Type 0
IsFull links priority key taken [] = ⊤
IsFull links priority key taken (next ∷ rest) = block_max < tombs_size links priority key (taken ++ next ∷ [])

-- the delta has the tombstones of at least one pair, and of as many as its block has room for
pub record IsCut (links : List Cid) (priority : ℕ) (key : List ℕ) (taken rest : List Pair) (delta : Delta)
    : Type 0 where
  pub some : taken ≢ []
  pub made : delta ≡ tombs_delta key taken priority
  pub fits : length (made_bytes links delta) ≤ block_max
  pub full : IsFull links priority key taken rest

-- The deltas have the tombstones of all pairs, in order. The first has as many as its block, with these links and this
-- priority, has room for; each later one links to the block before alone, and has a priority one higher.
abbrev pub IsCuts : List Cid → ℕ → List ℕ → List Pair → List Delta → Type 0
IsCuts links priority key pairs [] = pairs ≡ []
IsCuts links priority key pairs (delta ∷ deltas) =
    (taken rest : List Pair) × (pairs ≡ taken ++ rest) × IsCut links priority key taken rest delta
    × IsCuts (made_cid links delta ∷ []) (priority + 1) key rest deltas

-- a priority is left for the first block, but it is too large with one tombstone already; `len` is its size, at most
-- 2^64 - 1
abbrev pub IsTooLarge : List Cid → ℕ → List ℕ → List Pair → ℕ → Type 0
IsTooLarge links priority key [] len = ⊥
IsTooLarge links priority key (pair ∷ pairs) len =
    (priority < 2 ^ 64) × (block_max < tombs_size links priority key (pair ∷ []))
    × (len ≡ min (tombs_size links priority key (pair ∷ [])) (2 ^ 64 - 1))

-- no priority is left for the first block, or for a later one
abbrev pub IsPriorityFull : List Cid → ℕ → List ℕ → List Pair → Type 0
IsPriorityFull links priority key pairs =
    ((pairs ≢ []) × (2 ^ 64 ≤ priority))
    ⊎ ((deltas : List Delta) × IsCuts links priority key pairs deltas × (2 ^ 64 < priority + length deltas))
