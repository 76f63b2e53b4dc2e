use Rattle.std.proofs.Common.{◌≡◌, ◌++◌, map, take}
use Rattle.mc_base.specs.declared.cid.Cid.{Cid}
use Rattle.mc_model.specs.Batch.{deleted_tomb}
use Rattle.mc_write.proofs.dropped.push_tombs.Given as goal

abbrev pub invariant-loop-cid : goal.invariant-loop-cid
invariant-loop-cid l = l.tombs ≡ l.fn.tombs ++ map deleted_tomb (map (λ (cid : Cid). (l.fn.key, cid)) (take l.cid-index l.cids))
