-- Sorted and rid of repeats.
use Rattle.std.proofs.Common.{List, refl, sym, subst}
use Rattle.std.specs.Prelude.{IfSome, filter}
use Rattle.std.specs.Ordering.{eq_by_cmp}
use Rattle.std.proofs.lemmas.List.Filters.{dedup_is}
use Rattle.std.proofs.lemmas.List.Kept.{IsStrictlySortedBy-dedup}
use Rattle.mc_model.specs.SameMembers.{SameMembers}
use Rattle.mc_model.specs.Kept.{processed}
use Rattle.mc_rows.specs.declared.tombs.NewTomb.{NewTomb}
use Rattle.mc_rows.specs.Rows.{tombs_of, tomb_rows, new_tomb_cmp, new_tomb_total}
use Rattle.mc_rows.specs.Hiding.{is_unknown}
use Rattle.mc_rows.proofs.Sorts.{tombs_told}
use Rattle.mc_rows.proofs.tombs.new_tombs.Goals as goal

pub returns-clause-sorted : goal.returns-clause-sorted
returns-clause-sorted g c =
    rw (dedup_is (eq_by_cmp new_tomb_cmp) c.sort_unstable.new.self.items c.dedup.new.self.items c.dedup.ensures.filtered)
    (IsStrictlySortedBy-dedup new_tomb_total (λ x y. refl) c.sort_unstable.new.self.items c.sort_unstable.ensures.sorted)

pub returns-clause-members : goal.returns-clause-members
returns-clause-members g c =
    subst (λ (z : List NewTomb). IfSome (g.K.Keeper.told c.args.keeper.now) (λ kept. SameMembers (tombs_of z) (filter (is_unknown (processed kept)) (tomb_rows c.args.blocks.now))))
    (sym (dedup_is (eq_by_cmp new_tomb_cmp) c.sort_unstable.new.self.items c.dedup.new.self.items c.dedup.ensures.filtered))
    (tombs_told (g.K.Keeper.told c.args.keeper.now) c.args.blocks.now c.in_ok-tombs.tombs.items c.sort_unstable.new.self.items c.sort_unstable.ensures.permutation c.in_ok-tombs.ensures.rows)
