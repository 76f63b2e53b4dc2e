use Rattle.std.proofs.Common.{◌∙◌, List, Option, subst}
use Rattle.mc_model.specs.Kept.{Kept}
use Rattle.mc_app.proofs.EndFacts.{all_handed, all_taken, ends_taken, may_lost, some_handed, unmade_outcome}
use Rattle.mc_app.proofs.RunFacts.{outcome_told}
use Rattle.mc_seats.proofs.MemberWords.{members}
use Rattle.mc_app.proofs.running.run_keepers.Goals as goal
use Rattle.mc_seats.specs.Starts.{IsFirst}

pub returns-in-Err-clause-outcome : goal.returns-in-Err-clause-outcome
returns-in-Err-clause-outcome g c = unmade_outcome g.K.Keepers.makes g.K.Keepers.takes (members g.K.K.Keeper g.K.K.Counted) c.args.plan.now _ _ _ _ _ _ _ _ _ _ c.status_of.ensures c.in-Err.ensures.taken c.in-Err.ensures.lost

pub returns-clause-outcome : goal.returns-clause-outcome
returns-clause-outcome g c = outcome_told _ _ _ _ _ _ _ _ _ _ _ (λ w first. subst (λ (l : List (Option Kept)). IsFirst l w) c.in-Ok.ensures.starts first)
    (λ lines answers may. may_lost _ _ _ _ _ _ lines answers c.in-Ok.ensures.lost_same c.give_back.ensures.lost c.in-Ok.ensures.calm may)
    (λ w ends. ends_taken g.K.Keepers.makes g.K.Keepers.takes (members g.K.K.Keeper g.K.K.Counted) c.args.plan.now _ _ _ _ _ _ c.in-Ok.ensures.made c.in-Ok.ensures.plain c.in-Ok.ensures.starts c.run_parts-status.ensures.own c.give_back.ensures.taken _ _ w c.in-Ok.ensures.starts ends) c.run_parts-status.ensures.outcome

pub returns-in-Err-clause-handed_back : goal.returns-in-Err-clause-handed_back
returns-in-Err-clause-handed_back g c = some_handed g.K.Keepers.makes g.K.Keepers.takes (members g.K.K.Keeper g.K.K.Counted) c.args.plan.now _ _ _ c.in-Err.ensures.taken

pub returns-clause-handed_back : goal.returns-clause-handed_back
returns-clause-handed_back g c = all_handed g.K.Keepers.makes g.K.Keepers.takes (members g.K.K.Keeper g.K.K.Counted) c.args.plan.now _ _ _ _ _ _ c.in-Ok.ensures.made c.in-Ok.ensures.plain c.in-Ok.ensures.starts c.run_parts-status.ensures.own c.give_back.ensures.taken

pub returns-clause-untouched_keepers : goal.returns-clause-untouched_keepers
returns-clause-untouched_keepers g c = λ failed. all_taken g.K.Keepers.makes g.K.Keepers.takes (members g.K.K.Keeper g.K.K.Counted) c.args.plan.now _ _ _ _ _ _ c.in-Ok.ensures.made c.in-Ok.ensures.plain c.in-Ok.ensures.starts c.run_parts-status.ensures.own c.give_back.ensures.taken
    (c.run_parts-status.ensures.same failed ∙ c.in-Ok.ensures.starts)
