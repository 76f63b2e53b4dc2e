use Rattle.std.proofs.Common.{◌≡◌, map, take}
use Rattle.mc_model.specs.declared.block.Block.{Block}
use Rattle.mc_front.proofs.front.marks_of.Given as goal

abbrev pub invariant-loop-block : goal.invariant-loop-block
invariant-loop-block l = l.marks ≡ map (λ (block : Block). block.cid) (take l.block-index l.blocks)
