use Rattle.std.proofs.Common.{◌∙◌, ap, refl}
use Rattle.mc_core.specs.Replica.{replica_state}
use Rattle.mc_core.proofs.Keeps.{still_on}
use Rattle.mc_node.proofs.SealedFacts.{sealed_log}
use Rattle.mc_pull.proofs.Left.{calm_itself, left_itself}
use Rattle.mc_pull.proofs.RoundFacts.{unled}
use Rattle.mc_pull.proofs.crew.rounds.named_round.Goals as goal

pub settle-requires-clause-sealed : goal.settle-requires-clause-sealed
settle-requires-clause-sealed g c = sealed_log c.args.replica _ (c.work_beside-fetches.ensures.sealed c.args.replica (c.in-Ok.ensures.sealed refl).0)

pub returns-in-Ok-clause-leads : goal.returns-in-Ok-clause-leads
returns-in-Ok-clause-leads g c = c.close.ensures.leads c.args.replica (c.settle.ensures.sealed c.args.replica (c.work_beside-fetches.ensures.sealed c.args.replica (c.in-Ok.ensures.sealed refl).0))

pub returns-in-Ok-clause-keeps : goal.returns-in-Ok-clause-keeps
returns-in-Ok-clause-keeps g c = c.close.ensures.keeps c.args.replica (c.settle.ensures.sealed c.args.replica (c.work_beside-fetches.ensures.sealed c.args.replica (c.in-Ok.ensures.sealed refl).0))

pub returns-in-Ok-clause-rest : goal.returns-in-Ok-clause-rest
returns-in-Ok-clause-rest g c = c.close.ensures.rest c.args.replica c.requires.walks (c.settle.ensures.sealed c.args.replica (c.work_beside-fetches.ensures.sealed c.args.replica (c.in-Ok.ensures.sealed refl).0))

pub returns-then-len-lt2-clause-left : goal.returns-then-len-lt2-clause-left
returns-then-len-lt2-clause-left g c = left_itself _ c.fetches_follow.ensures.itself _

pub returns-then-len-lt2-clause-calm : goal.returns-then-len-lt2-clause-calm
returns-then-len-lt2-clause-calm g c = λ e. calm_itself _ c.fetches_follow.ensures.itself _

pub returns-then-len-lt2-clause-leads : goal.returns-then-len-lt2-clause-leads
returns-then-len-lt2-clause-leads g c = unled (record { walks = g.J.Naming.walks; most = g.J.Naming.most; found = g.J.Naming.found; kept = g.J.Naming.kept }) _ _ _ refl c.requires.runs c.requires.most

pub returns-then-len-lt2-clause-keeps : goal.returns-then-len-lt2-clause-keeps
returns-then-len-lt2-clause-keeps g c = still_on refl refl c.requires.runs

pub returns-in-Err-clause-left : goal.returns-in-Err-clause-left
returns-in-Err-clause-left g c = left_itself _ c.fetches_follow.ensures.itself _

pub returns-in-Err-clause-calm : goal.returns-in-Err-clause-calm
returns-in-Err-clause-calm g c = λ e. calm_itself _ c.fetches_follow.ensures.itself _

pub returns-in-Err-clause-leads : goal.returns-in-Err-clause-leads
returns-in-Err-clause-leads g c = unled (record { walks = g.J.Naming.walks; most = g.J.Naming.most; found = g.J.Naming.found; kept = g.J.Naming.kept }) _ _ _ (ap (λ r. replica_state g.K.Keeper.told g.K.Keeper.fuse r) c.in-Err.ensures.err) (ap (λ r. r.stopped) c.in-Err.ensures.err ∙ c.requires.runs) c.requires.most

pub returns-in-Err-clause-keeps : goal.returns-in-Err-clause-keeps
returns-in-Err-clause-keeps g c = still_on (ap (λ r. r.keeper) c.in-Err.ensures.err) (ap (λ r. r.stopped) c.in-Err.ensures.err) (ap (λ r. r.stopped) c.in-Err.ensures.err ∙ c.requires.runs)
