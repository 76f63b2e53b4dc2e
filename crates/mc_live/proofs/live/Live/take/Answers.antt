use Rattle.std.proofs.Common.{None, Some, ap, length, refl, subst, ◌++◌, ◌∙◌, ◌∷◌, [], ◌||◌, ℕ}
use Rattle.std.specs.List.{list_any}
use Rattle.mc_model.specs.Live.{is_tomb}
use Rattle.mc_live.specs.Rows.{AddsOf, AddsRows, rows_in}
use Rattle.mc_tombs.specs.Tombs.{has_tomb_in}
use Rattle.mc_tombs.specs.declared.tombs.Tombs.{Tombs}
use Rattle.mc_live.proofs.TakeFacts.{stands_refused, stands_same, stands_taken, tombs_folded}
use Rattle.mc_live.proofs.live.Live.take.Goals as goal

pub returns-in-Ok-clause-ok : goal.returns-in-Ok-clause-ok
returns-in-Ok-clause-ok c = λ blocks stands.
    stands_taken blocks c.args.block.now c.args.self.now c.prune_all.new.live (rows_in c.push_rows.new.rows) stands
    (λ key id.
    ap (λ (t : Tombs _ _ _ _). has_tomb_in t.keys.keys t.ids.keys t.pairs.keys key id) c.prune_all.ensures.tombs
    ∙ c.put_tombs.ensures.tombs key id
    ∙ tombs_folded key id c.in_ok-tombs.tombs.items _
    ∙ ap (λ z. list_any (is_tomb key id) z || has_tomb_in c.reserve_tombs.new.tombs.keys.keys c.reserve_tombs.new.tombs.ids.keys c.reserve_tombs.new.tombs.pairs.keys key id) (c.in_ok-tombs.ensures ∙ c.as_slice.ensures)
    ∙ ap (λ b. list_any (is_tomb key id) c.args.block.now.delta.tombstones || b) (c.reserve_tombs.ensures.tombs key id))
    (ap (λ v. v.items) c.prune_all.ensures.calls ∙ c.note.ensures ∙ ap (λ z. z ++ Some c.in_ok-id.id ∷ []) c.reserve.ensures.items ∙ ap (λ z. c.args.self.now.calls.items ++ Some z ∷ []) c.in_ok-id.ensures)
    (subst (λ (n : ℕ). AddsRows c.args.block.now.delta.priority n c.args.block.now.delta.elements (rows_in c.args.self.now.rows) (rows_in c.push_rows.new.rows)) (ap length (c.as_slice-call.ensures.value ∙ c.reserve.ensures.items)) c.in-Ok.ensures.ok)
    c.in-Ok.ensures.heaps c.in-Ok.ensures.others c.prune_all.ensures.rows

pub returns-in-Err-clause-err : goal.returns-in-Err-clause-err
returns-in-Err-clause-err c = λ blocks stands. stands_same blocks c.args.self.now _ stands c.reserve_tombs.ensures.tombs refl refl

pub returns-in-Err-reserve-clause-err : goal.returns-in-Err-reserve-clause-err
returns-in-Err-reserve-clause-err c = λ blocks stands. stands_same blocks c.args.self.now _ stands c.reserve_tombs.ensures.tombs c.reserve.ensures.items refl

pub returns-in-Err-push_rows-clause-err : goal.returns-in-Err-push_rows-clause-err
returns-in-Err-push_rows-clause-err c = λ blocks stands.
    stands_refused blocks c.args.block.now c.args.self.now c.prune_all-in-Err-push_rows.new.live (rows_in c.push_rows.new.rows) stands
    (λ key id. ap (λ (t : Tombs _ _ _ _). has_tomb_in t.keys.keys t.ids.keys t.pairs.keys key id) c.prune_all-in-Err-push_rows.ensures.tombs ∙ c.reserve_tombs.ensures.tombs key id)
    (ap (λ v. v.items) c.prune_all-in-Err-push_rows.ensures.calls ∙ c.note-in-Err-push_rows.ensures ∙ ap (λ z. z ++ None ∷ []) c.reserve.ensures.items)
    (subst (λ (n : ℕ). AddsOf n (rows_in c.args.self.now.rows) (rows_in c.push_rows.new.rows)) (ap length (c.as_slice-call.ensures.value ∙ c.reserve.ensures.items)) c.in-Err-push_rows.ensures.rest)
    c.in-Err-push_rows.ensures.heaps c.in-Err-push_rows.ensures.others c.prune_all-in-Err-push_rows.ensures.rows
