use Rattle.std.proofs.Common.{◌∙◌, refl, sym, ap}
use Rattle.mc_node.proofs.BoxFacts.{kept_in, tied_in}
use Rattle.mc_node.proofs.JobFacts.{job_back}
use Rattle.mc_node.proofs.PieceFacts.{gone_right}
use Rattle.mc_node.proofs.stored.Stored.give_inbox_up.Goals as goal

pub invariant_of-self : goal.invariant_of-self
invariant_of-self g c = record {
  tied = job_back g.K.Keeper.told g.K.Keeper.fuse g.K.Keeper.own g.K.Counted.faults g.K.Keeper.quiet g.K.Keeper.schedule c.kept_is_durable.ensures.back _ c.deref_mut.result.now c.give_up_inbox.new.replica c.args.self.now.log.items _ (tied_in g.K.Keeper.told g.K.Keeper.fuse g.K.Keeper.own g.K.Counted.faults g.K.Keeper.quiet g.K.Keeper.schedule _ _ _ _ c.deref_mut.ensures.value c.args.self.now.tied) c.requires.sealed (ap (λ r. r.stopped) c.deref_mut.ensures.value ∙ sym c.is_stopped.ensures ∙ c.if-is_stopped.false) (kept_in g.K.Keeper.told _ _ _ c.deref_mut.ensures.value c.deref.ensures c.is_sound.ensures.kept)
      c.give_up_inbox.ensures.keeps c.give_up_inbox.ensures.rest c.give_up_inbox.ensures.leads refl;
  right = gone_right c.args.self.now.taker g.J.Naming.found _ c.give_up_inbox.ensures.empty;
}
