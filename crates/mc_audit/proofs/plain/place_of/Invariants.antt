use Rattle.std.proofs.Common.{◌≡◌, ◌++◌, take, drop}
use Rattle.mc_raw.specs.Raw.{without}
use Rattle.mc_audit.proofs.plain.place_of.Given as goal

abbrev pub invariant-loop-index : goal.invariant-loop-index
invariant-loop-index l = without l.rows l.cid ≡ take l.index l.rows ++ without (drop l.index l.rows) l.cid
