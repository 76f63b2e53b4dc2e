-- One delta of a delete after another.
use Rattle.std.specs.Prelude.{◌≡◌, ⊤, ℕ, ◌^◌, ◌<◌, List, length, take, drop, Option, Some, None}
use Rattle.mc_base.specs.declared.cid.Cid.{Cid}
use Rattle.mc_model.specs.declared.delta.Delta.{Delta}
use Rattle.mc_model.specs.Cuts.{Pair, IsCut, IsTooLarge, IsPriorityFull}
use Rattle.mc_write.specs.declared.error.WriteError.{WriteError}
use Rattle.mc_write.specs.declared.error.WriteError.TheVariants.{BlockTooLarge, PriorityFull, Failed, Memory}

-- a priority, or 2^64 where none is left
abbrev pub number : Option ℕ → ℕ
number None = 2 ^ 64
number (Some priority) = priority

-- the delta takes as many of the pairs as it has tombstones
pub record IsNext (links : List Cid) (priority : ℕ) (key : List ℕ) (pairs : List Pair) (delta : Delta) : Type 0 where
  pub left : priority < 2 ^ 64
  pub cut : IsCut links priority key (take (length delta.tombstones) pairs) (drop (length delta.tombstones) pairs) delta

-- why there is no next delta
abbrev pub NextRefused : List Cid → ℕ → List ℕ → List Pair → WriteError → Type 0
NextRefused links priority key pairs (BlockTooLarge len) = IsTooLarge links priority key pairs len
NextRefused links priority key pairs PriorityFull = (priority ≡ 2 ^ 64) × (length pairs < 2 ^ 64)
NextRefused links priority key pairs Failed = ⊤
NextRefused links priority key pairs Memory = ⊤

-- why a delete of these pairs makes no deltas
abbrev pub CutsRefused : List Cid → ℕ → List ℕ → List Pair → WriteError → Type 0
CutsRefused links priority key pairs (BlockTooLarge len) = IsTooLarge links priority key pairs len
CutsRefused links priority key pairs PriorityFull = IsPriorityFull links priority key pairs
CutsRefused links priority key pairs Failed = ⊤
CutsRefused links priority key pairs Memory = ⊤
