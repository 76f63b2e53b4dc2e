use Rattle.std.proofs.Common.{List, ℕ, Option, subst}
use Rattle.std.specs.List.{list_any}
use Rattle.std.specs.Str.{bytes_eq}
use Rattle.mc_model.specs.declared.delta.Element.{Element}
use Rattle.mc_model.specs.declared.delta.Tomb.{Tomb}
use Rattle.mc_live.specs.Prune.{PrunesKeys}
use Rattle.mc_live.specs.Rows.{rows_in}
use Rattle.mc_live.specs.Stands.{tomb_in}
use Rattle.mc_live.proofs.PruneFacts.{prunes_more}
use Rattle.mc_live.proofs.live.prune_all.Goals as goal

pub returns-clause-rows : goal.returns-clause-rows
returns-clause-rows c =
    let live = c.args.live.now in
    let delta = c.args.delta.now in
    let old = rows_in live.rows in
    let mid = rows_in c.prune_tombs.new.rows in
    let new = rows_in c.prune_elements.new.rows in
    let first : PrunesKeys (tomb_in live) live.calls.items (λ key. list_any (λ (x : Tomb). bytes_eq x.key key) delta.tombstones) old mid =
    subst (λ (z : List (Option (List ℕ))). PrunesKeys (tomb_in live) z (λ key. list_any (λ (x : Tomb). bytes_eq x.key key) delta.tombstones) old mid) c.as_slice.ensures.value
    (subst (λ (z : List Tomb). PrunesKeys (tomb_in live) c.as_slice.result.now (λ key. list_any (λ (x : Tomb). bytes_eq x.key key) z) old mid) c.as_slice-2.ensures c.prune_tombs.ensures) in
    let second : PrunesKeys (tomb_in live) live.calls.items (λ key. list_any (λ (x : Element). bytes_eq x.key key) delta.elements) mid new =
    subst (λ (z : List (Option (List ℕ))). PrunesKeys (tomb_in live) z (λ key. list_any (λ (x : Element). bytes_eq x.key key) delta.elements) mid new) c.as_slice-3.ensures.value
    (subst (λ (z : List Element). PrunesKeys (tomb_in live) c.as_slice-3.result.now (λ key. list_any (λ (x : Element). bytes_eq x.key key) z) mid new) c.as_slice-4.ensures c.prune_elements.ensures) in
    prunes_more (tomb_in live) live.calls.items (λ key. list_any (λ (x : Tomb). bytes_eq x.key key) delta.tombstones) (λ key. list_any (λ (x : Element). bytes_eq x.key key) delta.elements) old mid new first second
