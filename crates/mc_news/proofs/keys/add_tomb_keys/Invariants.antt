use Rattle.std.proofs.Common.{◌≡◌, ◌++◌, take, map}
use Rattle.mc_model.specs.declared.delta.Tomb.{Tomb}
use Rattle.mc_news.specs.Keys.{texts_of}
use Rattle.mc_news.proofs.keys.add_tomb_keys.Given as goal

abbrev pub invariant-loop-tomb : goal.invariant-loop-tomb
invariant-loop-tomb l = texts_of l.keys.items ≡ texts_of l.initial.keys.items ++ map (λ (tomb : Tomb). tomb.key) (take l.tomb-index l.tombs)
