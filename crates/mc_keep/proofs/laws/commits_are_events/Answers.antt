use Rattle.std.proofs.Common.{◌≡◌, true, false, List, [], ◌++◌, sym, ap, ◌∙◌, subst, cond, Bool}
use Rattle.std.specs.List.{list_all}
use Rattle.std.specs.Prelude.{unwrap_or}
use Rattle.std.proofs.lemmas.List.{append-nil}
use Rattle.mc_base.specs.declared.cid.Cid.{Cid}
use Rattle.mc_model.specs.declared.block.Stored.{Stored}
use Rattle.mc_model.specs.Kept.{is_stored}
use Rattle.mc_model.specs.State.{Durable, durable_of}
use Rattle.mc_keep.proofs.laws.commits_are_events.Goals as goal

abbrev told : List Stored → List Cid → Bool → Durable
told graph order mark = durable_of (record { graph = graph; order = order; mark = mark })

pub returns-clause-store : goal.returns-clause-store
returns-clause-store c kept changes run sound fits marks mark = (
  c.kept_changes_may_come.ensures.store kept changes.store run sound fits.good fits.new fits.once,
  sym (c.kept_changes_are_events.ensures.store kept changes.store)
      ∙ ap (λ order. told (kept.graph ++ changes.store) order kept.mark) (sym (append-nil kept.order) ∙ ap (λ cids. kept.order ++ cids) (sym marks))
      ∙ ap (λ new. told (kept.graph ++ changes.store) (kept.order ++ changes.marks) (unwrap_or new kept.mark)) (sym mark),
)

pub returns-clause-process : goal.returns-clause-process
returns-clause-process c kept changes run sound fits store some mark =
    let same : kept.graph ++ changes.store ≡ kept.graph = ap (λ blocks. kept.graph ++ blocks) store ∙ append-nil kept.graph in
    let stored : list_all (is_stored kept.graph) changes.marks ≡ true = subst (λ graph. list_all (is_stored graph) changes.marks ≡ true) same fits.stored in (
      c.kept_changes_may_come.ensures.process kept changes.marks run sound some stored fits.new fits.once,
      sym (c.kept_changes_are_events.ensures.process kept run.whole (unwrap_or changes.mark kept.mark) changes.marks mark)
          ∙ ap (λ graph. told graph (kept.order ++ changes.marks) (unwrap_or changes.mark kept.mark)) (sym same),
    )

pub returns-clause-sound : goal.returns-clause-sound
returns-clause-sound c kept changes sound store marks =
    c.kept_changes_may_come.ensures.sound kept changes.store changes.marks (unwrap_or changes.mark kept.mark) sound store.good store.new store.once marks.stored marks.new marks.once

pub returns-clause-clear : goal.returns-clause-clear
returns-clause-clear c kept run full =
    sym (c.kept_changes_are_events.ensures.walk_end kept false (sym (ap (λ (t : Bool). cond t false kept.mark) full)))
    ∙ ap (λ graph. told graph kept.order false) (sym (append-nil kept.graph))
    ∙ ap (λ order. told (kept.graph ++ []) order false) (sym (append-nil kept.order))
