-- A made block links to processed blocks alone.
use Rattle.std.proofs.Common.{◌≡◌, true, not, sym, ◌∙◌}
use Rattle.std.specs.List.{list_all}
use Rattle.std.proofs.lemmas.Bool.{and_parts}
use Rattle.mc_model.specs.Front.{is_among}
use Rattle.mc_model.specs.Graph.{has, all_links}
use Rattle.mc_model.specs.Kept.{Kept, IsKept, processed}
use Rattle.mc_model.specs.Made.{head_cids}
use Rattle.mc_model.specs.State.{vertices}
use Rattle.mc_model.proofs.Bridge.{kept_heads}
use Rattle.mc_model.proofs.Counts.{has_all}
use Rattle.mc_model.proofs.GapCount.{among_filter}

pub heads_processed : (kept : Kept) → IsKept kept → list_all (is_among kept.order) (head_cids (processed kept)) ≡ true
heads_processed kept sound =
    has_all (is_among kept.order) (head_cids (processed kept))
    (λ c e. (and_parts (is_among kept.order c) _ (sym (among_filter (λ d. not (has d (all_links (vertices kept.graph) kept.order))) c kept.order) ∙ (sym (kept_heads kept sound c) ∙ e))).0)
