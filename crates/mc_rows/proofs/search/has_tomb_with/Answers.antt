use Rattle.std.proofs.Common.{◌∙◌, rules}
use Rattle.std.specs.Ordering.{nat_cmp}
use Rattle.std.specs.Cmp.Lexicographic.{slice_cmp}
use Rattle.std.proofs.lemmas.Fn.{always_returns_same}
use Rattle.mc_rows.specs.declared.tombs.NewTomb.{NewTomb}
use Rattle.mc_rows.proofs.Finds.{tomb_key_found}
use Rattle.mc_rows.proofs.search.has_tomb_with.Goals as goal

pub returns : goal.returns
returns c =
    c.is_ok.ensures.value
    ∙ tomb_key_found c.args.tombs.now c.args.key.now c.binary_search_by.result c.requires c.binary_search_by.ensures.bound
    (c.binary_search_by.ensures.position (λ (t : NewTomb). slice_cmp nat_cmp t.key.now c.args.key.now) (always_returns_same _ _ _ (λ a r f' called. (search rules, search rules))))
