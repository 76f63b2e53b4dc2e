use Rattle.std.proofs.Common.{◌≡◌, ◌++◌, take}
use Rattle.std.specs.List.{flat_map}
use Rattle.mc_script.specs.ReplyText.{head_text}
use Rattle.mc_script.proofs.rows.write_heads.Given as goal

abbrev pub invariant-loop-head : goal.invariant-loop-head
invariant-loop-head l = l.out ≡ l.initial.out ++ flat_map head_text (take l.head-index l.heads)
