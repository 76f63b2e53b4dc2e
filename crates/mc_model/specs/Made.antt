-- The blocks that a replica makes: their bytes, their identifiers, their links and their priorities.
use Rattle.std.specs.Prelude.{ℕ, ◌+◌, List, [], ◌∷◌, map, fold, max}
use Rattle.mc_base.specs.Cid.{digest_of}
use Rattle.mc_base.specs.Node.{node_bytes}
use Rattle.mc_base.specs.declared.cid.Cid.{Cid}
use Rattle.mc_model.specs.declared.block.Block.{Block}
use Rattle.mc_model.specs.declared.delta.Delta.{Delta}
use Rattle.mc_model.specs.DeltaText.{delta_bytes}
use Rattle.mc_model.specs.Front.{Head, heads}

-- the bytes of a block with these links and this delta
abbrev pub made_bytes : List Cid → Delta → List ℕ
made_bytes links delta = node_bytes links (delta_bytes delta)

-- the identifier of that block
abbrev pub made_cid : List Cid → Delta → Cid
made_cid links delta = record { 0 = digest_of (made_bytes links delta) }

-- the identifiers of the heads, in their order: the links of a made block
abbrev pub head_cids : List Block → List Cid
head_cids blocks = map (λ (head : Head). head.0) (heads blocks)

-- the greatest of some heights, or 0 where there is none
abbrev pub greatest_height : List Head → ℕ
greatest_height heads = fold (λ height (head : Head). max height head.1) 0 heads

-- one more than the greatest height of a head, and 1 where there is no head: the priority of a made block
abbrev pub next_priority : List Block → ℕ
next_priority blocks = greatest_height (heads blocks) + 1

-- what a put makes
abbrev pub put_delta : List ℕ → List ℕ → ℕ → Delta
put_delta key value priority =
    record { elements = record { key = key; value = value } ∷ []; tombstones = []; priority = priority }
