use Rattle.std.proofs.Common.{refl, [], ◌∷◌, ◌∙◌, ap, cond}
use Rattle.mc_model.specs.Events.{GiveBack}
use Rattle.mc_model.specs.Graph.{has}
use Rattle.mc_model.specs.Wanted.{Queue, give_back, without}
use Rattle.mc_plan.proofs.DeliverFacts.{gives_back}
use Rattle.mc_core.proofs.Keeps.{still_on}
use Rattle.mc_plan.proofs.SoundFacts.{goes_told}
use Rattle.mc_plan.specs.Uptakes.{wants}
use Rattle.mc_core.specs.Replica.{running_of}
use Rattle.mc_core.proofs.replica.Replica.take_up_arrival.Goals as goal

pub returns-in-Err-clause-keeps : goal.returns-in-Err-clause-keeps
returns-in-Err-clause-keeps g c = still_on refl refl refl

pub invariant_of-self-in-Err-clause-sound : goal.invariant_of-self-in-Err-clause-sound
invariant_of-self-in-Err-clause-sound g c =
    goes_told (GiveBack c.args.arrival.uptake.after.cid ∷ []) _ _ (g.K.Keeper.fuse c.args.self.now.keeper) _ _ _ (running_of c.args.self.now) _ (λ none. none)
    (gives_back _ (g.K.Keeper.fuse c.args.self.now.keeper) _ (running_of c.args.self.now) c.args.arrival.uptake.after.cid _ c.requires.up c.requires.flight (c.back.ensures.queue ∙ ap (λ (q : Queue). cond (has c.args.arrival.uptake.after.cid q.flight) (give_back q c.args.arrival.uptake.after.cid) q) c.reserve.ensures.queue)) c.args.self.now.sound

pub returns-in-Ok-carry_out-clause-wants : goal.returns-in-Ok-carry_out-clause-wants
returns-in-Ok-carry_out-clause-wants g c = (c.args.arrival.uptake.after.links, c.in-Ok-carry_out.ensures.queue ∙ ap (λ (q : Queue). wants (without q (c.args.arrival.uptake.after.cid ∷ [])) c.args.arrival.uptake.after.links) c.reserve.ensures.queue)
