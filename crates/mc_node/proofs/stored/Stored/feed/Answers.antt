use Rattle.std.proofs.Common.{◌∙◌, ℕ, List, None, Option, Err, ap, refl, subst, sym}
use Rattle.std.specs.Prelude.{IfSome}
use Rattle.mc_core.specs.Calls.{Stays}
use Rattle.mc_core.specs.Reads.{OnlyReads, read_refusal}
use Rattle.mc_core.specs.Refusals.{Is}
use Rattle.mc_model.specs.Kept.{Kept, processed}
use Rattle.mc_past.specs.Passings.{IsFed, PassesAll}
use Rattle.mc_past.proofs.LookFacts.{call_told}
use Rattle.mc_past.proofs.PassingFacts.{stays_fed}
use Rattle.mc_node.specs.Moves.{NoMore}
use Rattle.mc_node.specs.Entries.{items_at, shown_at}
use Rattle.mc_node.specs.Feeds.{IsPartFeed}
use Rattle.mc_node.proofs.BoxFacts.{adds_in, kept_in, tied_in}
use Rattle.mc_node.proofs.PieceFacts.{right_on}
use Rattle.mc_node.proofs.CallFacts.{does_not_begin}
use Rattle.mc_node.proofs.FeedFacts.{begin_errors, begin_goes, feed_part, feed_whole, pass_ends, pass_goes, read_errors, stays_unsealed}
use Rattle.mc_node.proofs.ReplicaFacts.{adds_begins, open_unsealed}
use Rattle.mc_node.proofs.stored.Stored.feed.Goals as goal

pub returns-in-Err-clause-does : goal.returns-in-Err-clause-does
returns-in-Err-clause-does g c =
    does_not_begin None None (λ s. Is (read_refusal s)) (OnlyReads (λ kept passed. PassesAll g.H.Hook.taken (processed kept) c.args.feed.now c.args.feed.now passed)) Stays (λ durable fuse. refl) (λ s. refl) NoMore (λ s. tt) None _ _ _ _ c.in-Err.error
    c.args.self.now.tied c.in-Err.ensures.refused (ap (items_at g.K.Keeper.told g.K.Keeper.fuse g.K.Keeper.own g.K.Counted.faults g.K.Keeper.quiet g.K.Keeper.schedule) c.in-Err.ensures.log)

pub returns-in-Err-clause-part : goal.returns-in-Err-clause-part
returns-in-Err-clause-part g c unsealed unspent =
    subst (λ (l : List _). IsPartFeed g.H.Hook.taken (items_at g.K.Keeper.told g.K.Keeper.fuse g.K.Keeper.own g.K.Counted.faults g.K.Keeper.quiet g.K.Keeper.schedule l) c.args.feed.now) (sym c.in-Err.ensures.log)
    (feed_part g.H.Hook.taken c.kept_is_durable.ensures.back _
    (shown_at g.K.Keeper.told g.K.Keeper.fuse g.K.Keeper.own g.K.Counted.faults g.K.Keeper.quiet g.K.Keeper.schedule c.args.self.now.replica.value)
    (shown_at g.K.Keeper.told g.K.Keeper.fuse g.K.Keeper.own g.K.Counted.faults g.K.Keeper.quiet g.K.Keeper.schedule c.args.self.now.replica.value)
    (items_at g.K.Keeper.told g.K.Keeper.fuse g.K.Keeper.own g.K.Counted.faults g.K.Keeper.quiet g.K.Keeper.schedule c.args.self.now.log.items) c.args.feed.now c.args.feed.now c.args.self.now.tied
    (open_unsealed g.K.Keeper.told g.K.Keeper.fuse g.K.Keeper.own g.K.Counted.faults g.K.Keeper.quiet g.K.Keeper.schedule c.args.self.now.log.items c.args.self.now.log.items refl unsealed)
    refl c.requires.begins (Err c.in-Err.error) unspent (stays_fed g.H.Hook.taken (g.K.Keeper.told c.args.self.now.replica.value.keeper) c.args.feed.now))

pub returns-in-Err-clause-goes : goal.returns-in-Err-clause-goes
returns-in-Err-clause-goes g c = begin_goes c.args.feed.now _ c.in-Err.error c.in-Err.ensures.refused

pub returns-in-Err-clause-errors : goal.returns-in-Err-clause-errors
returns-in-Err-clause-errors g c = begin_errors _ c.in-Err.error c.in-Err.ensures.refused

pub invariant_of-self : goal.invariant_of-self
invariant_of-self g c = record {
  tied = (pass_ends g.K.Keeper.told g.K.Keeper.fuse g.K.Keeper.own g.K.Counted.faults g.K.Keeper.quiet g.K.Keeper.schedule
      c.replicas_only_grow.ensures.goes c.replicas_only_grow.ensures.breaks c.kept_is_durable.ensures.back (λ (kept : Kept) (passed : Option ℕ). PassesAll g.H.Hook.taken (processed kept) c.args.feed.now c.pass_new-result.new.feed passed)
      _ c.deref_mut.result.now c.pass_new-result.new.replica c.args.self.now.log.items c.begin.new.self.log.items c.note.new.log.items c.noted-entry.result c.pass_new-result.result
      (tied_in g.K.Keeper.told g.K.Keeper.fuse g.K.Keeper.own g.K.Counted.faults g.K.Keeper.quiet g.K.Keeper.schedule _ _ _ _ c.deref_mut.ensures.value c.begin.new.self.tied) c.in-Ok.ensures.log (ap (λ r. r.stopped) c.deref_mut.ensures.value ∙ c.in-Ok.ensures.runs) (kept_in g.K.Keeper.told _ _ _ c.deref_mut.ensures.value c.deref.ensures c.is_sound.ensures.kept) c.pass_new-result.ensures.call
      c.pass_new-result.ensures.keeps c.pass_new-result.ensures.rest c.pass_new-result.ensures.front c.noted-entry.ensures (adds_in c.noted-entry.result _ _ _ _ c.deref-2.ensures c.note.ensures.adds) c.pass_new-result.ensures.same).0;
  right = right_on c.begin.new.self.taker g.J.Naming.found _ _ (c.pass_new-result.ensures.rest.inbox_same ∙ ap (λ r. r.inbox) c.deref_mut.ensures.value) c.begin.new.self.right;
}

pub returns-clause-extends : goal.returns-clause-extends
returns-clause-extends g c = adds_begins c.noted-entry.result c.pass_new-result.new.replica _ _ _ c.in-Ok.ensures.log (adds_in c.noted-entry.result _ _ _ _ c.deref-2.ensures c.note.ensures.adds)

pub returns-clause-does : goal.returns-clause-does
returns-clause-does g c = (pass_ends g.K.Keeper.told g.K.Keeper.fuse g.K.Keeper.own g.K.Counted.faults g.K.Keeper.quiet g.K.Keeper.schedule
    c.replicas_only_grow.ensures.goes c.replicas_only_grow.ensures.breaks c.kept_is_durable.ensures.back (λ (kept : Kept) (passed : Option ℕ). PassesAll g.H.Hook.taken (processed kept) c.args.feed.now c.pass_new-result.new.feed passed)
    _ c.deref_mut.result.now c.pass_new-result.new.replica c.args.self.now.log.items c.begin.new.self.log.items c.note.new.log.items c.noted-entry.result c.pass_new-result.result
    (tied_in g.K.Keeper.told g.K.Keeper.fuse g.K.Keeper.own g.K.Counted.faults g.K.Keeper.quiet g.K.Keeper.schedule _ _ _ _ c.deref_mut.ensures.value c.begin.new.self.tied) c.in-Ok.ensures.log (ap (λ r. r.stopped) c.deref_mut.ensures.value ∙ c.in-Ok.ensures.runs) (kept_in g.K.Keeper.told _ _ _ c.deref_mut.ensures.value c.deref.ensures c.is_sound.ensures.kept) c.pass_new-result.ensures.call
    c.pass_new-result.ensures.keeps c.pass_new-result.ensures.rest c.pass_new-result.ensures.front c.noted-entry.ensures (adds_in c.noted-entry.result _ _ _ _ c.deref-2.ensures c.note.ensures.adds) c.pass_new-result.ensures.same).1

pub returns-clause-whole : goal.returns-clause-whole
returns-clause-whole g c unsealed =
    let ends = pass_ends g.K.Keeper.told g.K.Keeper.fuse g.K.Keeper.own g.K.Counted.faults g.K.Keeper.quiet g.K.Keeper.schedule
    c.replicas_only_grow.ensures.goes c.replicas_only_grow.ensures.breaks c.kept_is_durable.ensures.back (λ (kept : Kept) (passed : Option ℕ). PassesAll g.H.Hook.taken (processed kept) c.args.feed.now c.pass_new-result.new.feed passed)
    _ c.deref_mut.result.now c.pass_new-result.new.replica c.args.self.now.log.items c.begin.new.self.log.items c.note.new.log.items c.noted-entry.result c.pass_new-result.result
    (tied_in g.K.Keeper.told g.K.Keeper.fuse g.K.Keeper.own g.K.Counted.faults g.K.Keeper.quiet g.K.Keeper.schedule _ _ _ _ c.deref_mut.ensures.value c.begin.new.self.tied) c.in-Ok.ensures.log (ap (λ r. r.stopped) c.deref_mut.ensures.value ∙ c.in-Ok.ensures.runs) (kept_in g.K.Keeper.told _ _ _ c.deref_mut.ensures.value c.deref.ensures c.is_sound.ensures.kept) c.pass_new-result.ensures.call
    c.pass_new-result.ensures.keeps c.pass_new-result.ensures.rest c.pass_new-result.ensures.front c.noted-entry.ensures (adds_in c.noted-entry.result _ _ _ _ c.deref-2.ensures c.note.ensures.adds) c.pass_new-result.ensures.same in
    feed_whole g.H.Hook.taken c.kept_is_durable.ensures.back _
    (shown_at g.K.Keeper.told g.K.Keeper.fuse g.K.Keeper.own g.K.Counted.faults g.K.Keeper.quiet g.K.Keeper.schedule c.deref_mut.result.now)
    (shown_at g.K.Keeper.told g.K.Keeper.fuse g.K.Keeper.own g.K.Counted.faults g.K.Keeper.quiet g.K.Keeper.schedule c.pass_new-result.new.replica)
    (items_at g.K.Keeper.told g.K.Keeper.fuse g.K.Keeper.own g.K.Counted.faults g.K.Keeper.quiet g.K.Keeper.schedule c.note.new.log.items) c.args.feed.now c.pass_new-result.new.feed ends.0
    (stays_unsealed g.K.Keeper.told g.K.Keeper.fuse g.K.Keeper.own g.K.Counted.faults g.K.Keeper.quiet g.K.Keeper.schedule c.args.self.now.log.items c.note.new.log.items unsealed (adds_begins c.noted-entry.result c.pass_new-result.new.replica _ _ _ c.in-Ok.ensures.log (adds_in c.noted-entry.result _ _ _ _ c.deref-2.ensures c.note.ensures.adds)))
    c.pass_new-result.ensures.same.told_same
    (subst (λ r. IfSome (g.K.Keeper.told r.keeper) (λ kept. IsFed g.H.Hook.taken (processed kept) c.args.feed.now)) (sym (c.deref_mut.ensures.value ∙ c.in-Ok.ensures.replica)) c.requires.begins)
    c.pass_new-result.result
    (call_told g.K.Keeper.told g.K.Keeper.fuse c.kept_is_durable.ensures.back (λ (kept : Kept) (passed : Option ℕ). PassesAll g.H.Hook.taken (processed kept) c.args.feed.now c.pass_new-result.new.feed passed) c.deref_mut.result.now c.pass_new-result.new.replica _ c.pass_new-result.result c.pass_new-result.ensures.call)

pub returns-clause-part : goal.returns-clause-part
returns-clause-part g c unsealed unspent =
    let ends = pass_ends g.K.Keeper.told g.K.Keeper.fuse g.K.Keeper.own g.K.Counted.faults g.K.Keeper.quiet g.K.Keeper.schedule
    c.replicas_only_grow.ensures.goes c.replicas_only_grow.ensures.breaks c.kept_is_durable.ensures.back (λ (kept : Kept) (passed : Option ℕ). PassesAll g.H.Hook.taken (processed kept) c.args.feed.now c.pass_new-result.new.feed passed)
    _ c.deref_mut.result.now c.pass_new-result.new.replica c.args.self.now.log.items c.begin.new.self.log.items c.note.new.log.items c.noted-entry.result c.pass_new-result.result
    (tied_in g.K.Keeper.told g.K.Keeper.fuse g.K.Keeper.own g.K.Counted.faults g.K.Keeper.quiet g.K.Keeper.schedule _ _ _ _ c.deref_mut.ensures.value c.begin.new.self.tied) c.in-Ok.ensures.log (ap (λ r. r.stopped) c.deref_mut.ensures.value ∙ c.in-Ok.ensures.runs) (kept_in g.K.Keeper.told _ _ _ c.deref_mut.ensures.value c.deref.ensures c.is_sound.ensures.kept) c.pass_new-result.ensures.call
    c.pass_new-result.ensures.keeps c.pass_new-result.ensures.rest c.pass_new-result.ensures.front c.noted-entry.ensures (adds_in c.noted-entry.result _ _ _ _ c.deref-2.ensures c.note.ensures.adds) c.pass_new-result.ensures.same in
    feed_part g.H.Hook.taken c.kept_is_durable.ensures.back _
    (shown_at g.K.Keeper.told g.K.Keeper.fuse g.K.Keeper.own g.K.Counted.faults g.K.Keeper.quiet g.K.Keeper.schedule c.deref_mut.result.now)
    (shown_at g.K.Keeper.told g.K.Keeper.fuse g.K.Keeper.own g.K.Counted.faults g.K.Keeper.quiet g.K.Keeper.schedule c.pass_new-result.new.replica)
    (items_at g.K.Keeper.told g.K.Keeper.fuse g.K.Keeper.own g.K.Counted.faults g.K.Keeper.quiet g.K.Keeper.schedule c.note.new.log.items) c.args.feed.now c.pass_new-result.new.feed ends.0
    (stays_unsealed g.K.Keeper.told g.K.Keeper.fuse g.K.Keeper.own g.K.Counted.faults g.K.Keeper.quiet g.K.Keeper.schedule c.args.self.now.log.items c.note.new.log.items unsealed (adds_begins c.noted-entry.result c.pass_new-result.new.replica _ _ _ c.in-Ok.ensures.log (adds_in c.noted-entry.result _ _ _ _ c.deref-2.ensures c.note.ensures.adds)))
    c.pass_new-result.ensures.same.told_same
    (subst (λ r. IfSome (g.K.Keeper.told r.keeper) (λ kept. IsFed g.H.Hook.taken (processed kept) c.args.feed.now)) (sym (c.deref_mut.ensures.value ∙ c.in-Ok.ensures.replica)) c.requires.begins)
    c.pass_new-result.result unspent c.pass_new-result.ensures.part

pub returns-clause-goes : goal.returns-clause-goes
returns-clause-goes g c = pass_goes c.args.feed.now c.pass_new-result.new.feed c.pass_new-result.result c.pass_new-result.ensures.goes

pub returns-clause-errors : goal.returns-clause-errors
returns-clause-errors g c = read_errors c.pass_new-result.result _ (ap (λ r. r.stopped) c.deref_mut.ensures.value ∙ c.in-Ok.ensures.runs) c.pass_new-result.ensures.front c.pass_new-result.ensures.seen
