use Rattle.std.proofs.Common.{◌≡◌, ◌++◌, take, flat_map}
use Rattle.mc_news.specs.Keys.{keys_in, texts_of}
use Rattle.mc_news.proofs.keys.add_keys.Given as goal

abbrev pub invariant-loop-block : goal.invariant-loop-block
invariant-loop-block l = texts_of l.keys.items ≡ texts_of l.initial.keys.items ++ flat_map keys_in (take l.block-index l.blocks)
