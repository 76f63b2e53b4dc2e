use Rattle.std.specs.Str.{bytes_eq}
use Rattle.std.proofs.Common.{ℕ, List}
use Rattle.std.proofs.lemmas.List.Filters.{dedup_is}
use denote.Ref.{Bor}
use Rattle.mc_news.proofs.KeyFacts.{keys_named}
use Rattle.mc_news.proofs.keys.named_keys.Goals as goal

pub returns : goal.returns
returns c =
    keys_named c.args.blocks.now _ _ _ _ c.new-keys.ensures.items c.in_ok-add_keys.ensures c.sort_unstable.ensures.permutation
    (dedup_is (λ (x y : Bor (List ℕ)). bytes_eq x.now y.now) c.sort_unstable.new.self.items c.dedup.new.self.items c.dedup.ensures.filtered)
