use Rattle.std.proofs.Common.{ap}
use Rattle.std.specs.Map.{lookup}
use Rattle.std.specs.List.{list_any}
use Rattle.mc_tombs.specs.Tombs.{is_text, number_of, same_pair}
use Rattle.mc_live.specs.Rows.{found_rows}
use Rattle.mc_live.proofs.TakeFacts.{stands_empty}
use Rattle.mc_live.proofs.live.Live.new.Goals as goal

pub returns : goal.returns
returns c = stands_empty _
    (λ key id. ap (list_any (same_pair (number_of c.with_hasher.result.keys.keys key, number_of c.with_hasher.result.ids.keys id))) c.with_hasher.ensures.pairs)
    c.new-2.ensures.items (λ key. ap (λ z. found_rows (lookup (is_text key) z)) c.new-3.ensures.empty)
