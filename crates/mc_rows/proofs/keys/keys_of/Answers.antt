-- Sorted and rid of repeats.
use Rattle.std.proofs.Common.{List, ℕ}
use Rattle.std.specs.Cmp.Lexicographic.{on_texts, texts_ties}
use Rattle.std.specs.Str.{bytes_eq}
use Rattle.std.proofs.lemmas.List.Filters.{dedup_is}
use Rattle.std.proofs.lemmas.List.Kept.{IsStrictlySortedBy-dedup}
use denote.Ref.{Bor}
use Rattle.mc_rows.proofs.Sorts.{keys_members}
use Rattle.mc_rows.proofs.keys.keys_of.Goals as goal

pub returns-clause-sorted : goal.returns-clause-sorted
returns-clause-sorted c =
    rw (dedup_is _ _ _ c.dedup.ensures.filtered) (IsStrictlySortedBy-dedup (on_texts (λ (x : Bor (List ℕ)). x.now)) (λ x y. texts_ties x.now y.now) _ c.sort_unstable.ensures.sorted)

pub returns-clause-members : goal.returns-clause-members
returns-clause-members c =
    keys_members c.args.elements.now c.args.tombs.now _ _ _ _ _ c.in_ok-keys.ensures.items c.in_ok-add_element_keys.ensures c.in_ok-add_tomb_keys.ensures c.sort_unstable.ensures.permutation
    (dedup_is (λ (x y : Bor (List ℕ)). bytes_eq x.now y.now) c.sort_unstable.new.self.items c.dedup.new.self.items c.dedup.ensures.filtered)
