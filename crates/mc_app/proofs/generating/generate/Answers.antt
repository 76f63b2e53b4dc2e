use Rattle.std.proofs.Common.{◌∙◌, List, Option, arith, refl, subst}
use Rattle.mc_model.specs.Kept.{Kept}
use Rattle.mc_app.proofs.EndFacts.{all_handed, all_taken, ends_taken, may_lost, some_handed, unmade_short}
use Rattle.mc_app.proofs.GeneratingFacts.{generates_map, unopened_generates}
use Rattle.mc_app.proofs.KeepingFacts.{making_none}
use Rattle.mc_core.specs.declared.replica.OpenCause.TheVariants as causes
use Rattle.mc_keepers.specs.declared.keepers.KeeperPlan.TheVariants as plans
use Rattle.mc_seats.proofs.MemberWords.{members}
use Rattle.mc_app.proofs.generating.generate.Goals as goal
use Rattle.mc_seats.specs.Starts.{IsFirst}

pub returns-in-Err-clause-generated : goal.returns-in-Err-clause-generated
returns-in-Err-clause-generated g c = unopened_generates _ _ _ _ _ _ _ _ c.status_of.ensures
    (λ is. unmade_short g.K.Keepers.makes g.K.Keepers.takes (members g.K.K.Keeper g.K.K.Counted) plans.Memory _ _ _ _ _ _ _ _ c.in-Err.ensures.taken c.in-Err.ensures.lost is)

pub returns-clause-generated : goal.returns-clause-generated
returns-clause-generated g c = generates_map _ _ _ _ _ _ _ (λ w first. subst (λ (l : List (Option Kept)). IsFirst l w) c.in-Ok-make_parts.ensures.starts first)
    (λ lines answers may. may_lost _ _ _ _ _ _ lines answers c.in-Ok-make_parts.ensures.lost_same c.give_back.ensures.lost c.in-Ok-make_parts.ensures.calm may)
    (λ w ends. ends_taken g.K.Keepers.makes g.K.Keepers.takes (members g.K.K.Keeper g.K.K.Counted) plans.Memory _ _ _ _ _ _ c.in-Ok-make_parts.ensures.made c.in-Ok-make_parts.ensures.plain c.in-Ok-make_parts.ensures.starts c.generate_in-status.ensures.own c.give_back.ensures.taken _ _ w c.in-Ok-make_parts.ensures.starts ends) _ _ _ _ (rw c.in-Ok.ensures at c.generate_in-status.ensures.generated)

pub returns-in-Err-clause-handed_back : goal.returns-in-Err-clause-handed_back
returns-in-Err-clause-handed_back g c = some_handed g.K.Keepers.makes g.K.Keepers.takes (members g.K.K.Keeper g.K.K.Counted) plans.Memory _ _ _ c.in-Err.ensures.taken

pub returns-clause-handed_back : goal.returns-clause-handed_back
returns-clause-handed_back g c = all_handed g.K.Keepers.makes g.K.Keepers.takes (members g.K.K.Keeper g.K.K.Counted) plans.Memory _ _ _ _ _ _ c.in-Ok-make_parts.ensures.made c.in-Ok-make_parts.ensures.plain c.in-Ok-make_parts.ensures.starts c.generate_in-status.ensures.own c.give_back.ensures.taken

pub returns-in_default-clause-handed_back : goal.returns-in_default-clause-handed_back
returns-in_default-clause-handed_back g c =
    some_handed g.K.Keepers.makes g.K.Keepers.takes (members g.K.K.Keeper g.K.K.Counted) plans.Memory _ _ _ (making_none g.K.Keepers.makes g.K.Keepers.takes (members g.K.K.Keeper g.K.K.Counted) plans.Memory _ c.args.keepers.now)

pub returns-clause-untouched_keepers : goal.returns-clause-untouched_keepers
returns-clause-untouched_keepers g c = λ failed. all_taken g.K.Keepers.makes g.K.Keepers.takes (members g.K.K.Keeper g.K.K.Counted) plans.Memory _ _ _ _ _ _ c.in-Ok-make_parts.ensures.made c.in-Ok-make_parts.ensures.plain c.in-Ok-make_parts.ensures.starts c.generate_in-status.ensures.own c.give_back.ensures.taken
    (c.generate_in-status.ensures.same failed ∙ c.in-Ok-make_parts.ensures.starts)

pub returns-in_default-clause-generated : goal.returns-in_default-clause-generated
returns-in_default-clause-generated g c = unopened_generates _ _ _ _ c.args.count _ causes.Memory _ refl
    (λ is. unmade_short g.K.Keepers.makes g.K.Keepers.takes (members g.K.K.Keeper g.K.K.Counted) plans.Memory _ _ _ _ _ _ _ _ (making_none g.K.Keepers.makes g.K.Keepers.takes (members g.K.K.Keeper g.K.K.Counted) plans.Memory _ c.args.keepers.now) (omega arith) is)
