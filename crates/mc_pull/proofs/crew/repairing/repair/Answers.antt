use Rattle.std.proofs.Common.{◌∙◌, ap, sym}
use Rattle.mc_model.specs.Wanted.{Queue}
use Rattle.mc_core.proofs.Keeps.{continues_more}
use Rattle.mc_queue.specs.Views.{shown}
use Rattle.mc_drain.specs.declared.repairing.Repaired.{Repaired}
use Rattle.mc_drain.proofs.RepairFacts.{unwalked_told}
use Rattle.mc_pull.specs.Hands.{first_finds, found_first}
use Rattle.mc_pull.proofs.Left.{all_first, calm_itself, calm_more, finds_left, found_left, left_itself, left_more, rose_more}
use Rattle.mc_pull.proofs.WorkFacts.{gone_on_keeps, left_broke, left_keeps, left_peer, left_repair_wants, left_runs, none_peer, over_none, repair_gone_on, repair_left}
use Rattle.mc_pull.proofs.crew.repairing.repair.Goals as goal

pub returns-in-Err-clause-leads : goal.returns-in-Err-clause-leads
returns-in-Err-clause-leads g c = unwalked_told c.args.budget (first_finds g.F.Fetch.offers g.F.Fetch.leading c.args.fetches.items) c.in-Err.error _ _ c.in-Err.ensures.leads

pub returns-in-Err-clause-left : goal.returns-in-Err-clause-left
returns-in-Err-clause-left g c = left_itself _ c.fetches_follow.ensures.itself _

pub returns-then-is_over-clause-leads : goal.returns-then-is_over-clause-leads
returns-then-is_over-clause-leads g c =
    repair_left _ c.in-Ok.before c.args.budget c.saturating_add-limit.result (found_first g.F.Fetch.offers c.args.fetches.items) (first_finds g.F.Fetch.offers g.F.Fetch.leading c.args.fetches.items) c.leave_off-why.result _ _ _ _ (all_first g.F.Fetch.offers g.F.Fetch.leading c.args.fetches.items) c.saturating_add-limit.ensures c.in-Ok.ensures.walks c.share-replica.ensures.leads c.leave_off-why.ensures.repairs

pub returns-then-is_over-clause-keeps : goal.returns-then-is_over-clause-keeps
returns-then-is_over-clause-keeps g c = continues_more c.in-Ok.ensures.keeps (left_keeps Repaired _ c.leave_off-why.result _ _ _ c.leave_off-why.ensures.why c.share-replica.ensures.keeps c.leave_off-why.ensures.keeps c.leave_off-why.ensures.still)

pub returns-then-is_over-clause-whole : goal.returns-then-is_over-clause-whole
returns-then-is_over-clause-whole g c = λ e. c.leave_off-why.ensures.rest.whole_same ∙ c.share-replica.ensures.rest.whole_same ∙ c.in-Ok.ensures.whole

pub returns-then-is_over-clause-batch : goal.returns-then-is_over-clause-batch
returns-then-is_over-clause-batch g c = c.leave_off-why.ensures.rest.batch_same ∙ c.share-replica.ensures.rest.batch_same ∙ c.in-Ok.ensures.batch

pub returns-then-is_over-clause-peer : goal.returns-then-is_over-clause-peer
returns-then-is_over-clause-peer g c = λ e. c.share-replica.ensures.peer (left_peer Repaired _ _ c.leave_off-why.result c.leave_off-why.ensures.why (sym c.is_over.ensures ∙ c.if-is_over.true) e)

pub returns-then-is_over-clause-stopped : goal.returns-then-is_over-clause-stopped
returns-then-is_over-clause-stopped g c = (λ e. absurd (left_runs Repaired _ c.leave_off-why.result c.leave_off-why.ensures.why e), λ up. absurd (let f = c.in-Ok.ensures.stopped.1 up in cc f))

pub returns-then-is_over-clause-still : goal.returns-then-is_over-clause-still
returns-then-is_over-clause-still g c = λ up. absurd (let f = c.in-Ok.ensures.stopped.1 up in cc f)

pub returns-then-is_over-clause-wants : goal.returns-then-is_over-clause-wants
returns-then-is_over-clause-wants g c = left_repair_wants _ c.leave_off-why.result (shown c.leave_off-why.new.replica.queue) c.leave_off-why.ensures.why c.leave_off-why.ensures.flight

pub returns-clause-leads : goal.returns-clause-leads
returns-clause-leads g c =
    let both = over_none _ _ (sym c.is_over.ensures ∙ c.if-is_over.false) in
    repair_gone_on _ c.in-Ok.before c.args.budget c.saturating_add-limit.result (found_first g.F.Fetch.offers c.args.fetches.items) _ (first_finds g.F.Fetch.offers g.F.Fetch.leading c.args.fetches.items) _ c.go_on_repairing-answer.result _ _ _ _ both.1 (found_left _ _ _ c.share-replica.ensures.left) (finds_left _ _ _ c.share-replica.ensures.left) c.saturating_add-limit.ensures
    c.in-Ok.ensures.walks c.share-replica.ensures.leads c.go_on_repairing-answer.ensures.leads

pub returns-clause-keeps : goal.returns-clause-keeps
returns-clause-keeps g c =
    let both = over_none _ _ (sym c.is_over.ensures ∙ c.if-is_over.false) in
    continues_more c.in-Ok.ensures.keeps (gone_on_keeps _ _ _ _ _ both.1 c.share-replica.ensures.keeps c.go_on_repairing-answer.ensures.keeps)

pub returns-clause-batch : goal.returns-clause-batch
returns-clause-batch g c = c.go_on_repairing-answer.ensures.rest.batch_same ∙ c.share-replica.ensures.rest.batch_same ∙ c.in-Ok.ensures.batch

pub returns-clause-whole : goal.returns-clause-whole
returns-clause-whole g c = λ e. c.go_on_repairing-answer.ensures.rest.whole_same ∙ c.share-replica.ensures.rest.whole_same ∙ c.in-Ok.ensures.whole

pub returns-clause-left : goal.returns-clause-left
returns-clause-left g c =
    let both = over_none _ _ (sym c.is_over.ensures ∙ c.if-is_over.false) in
    left_more _ c.fetches_follow.ensures.on _ _ _ (c.share-replica.ensures.calm both.0) c.go_on_repairing-answer.ensures.left

pub returns-clause-peer : goal.returns-clause-peer
returns-clause-peer g c = λ e.
    let both = over_none _ _ (sym c.is_over.ensures ∙ c.if-is_over.false) in
    rose_more _ _ _ _ (c.share-replica.ensures.calm both.0) (c.go_on_repairing-answer.ensures.peer e)

pub returns-clause-stopped : goal.returns-clause-stopped
returns-clause-stopped g c = (λ e. absurd (c.go_on_repairing-answer.ensures.runs e), λ up. absurd (let f = c.in-Ok.ensures.stopped.1 up in cc f))

pub returns-clause-still : goal.returns-clause-still
returns-clause-still g c = λ up. absurd (let f = c.in-Ok.ensures.stopped.1 up in cc f)

pub returns-in-Err-clause-calm : goal.returns-in-Err-clause-calm
returns-in-Err-clause-calm g c = λ none. calm_itself _ c.fetches_follow.ensures.itself _

pub returns-then-is_over-clause-calm : goal.returns-then-is_over-clause-calm
returns-then-is_over-clause-calm g c = λ none. absurd (left_broke Repaired _ c.leave_off-why.result c.leave_off-why.ensures.why none)

pub returns-clause-calm : goal.returns-clause-calm
returns-clause-calm g c = λ none.
    let both = over_none _ _ (sym c.is_over.ensures ∙ c.if-is_over.false) in
    calm_more _ c.fetches_follow.ensures.on _ _ _ (c.share-replica.ensures.calm both.0) (c.go_on_repairing-answer.ensures.calm (none_peer c.go_on_repairing-answer.result none))
