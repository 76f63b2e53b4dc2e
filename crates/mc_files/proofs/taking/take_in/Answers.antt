use Rattle.std.proofs.Common.{List, ◌∙◌, ℕ, ap, map, refl, subst, sym}
use Rattle.std.specs.Prelude.{⊤}
use Rattle.mc_inbox.specs.Waiting.{as_stored}
use Rattle.mc_queue.specs.Views.{shown}
use Rattle.mc_core.specs.Replica.{replica_state}
use Rattle.mc_core.proofs.Keeps.{continues_more, still_on}
use Rattle.mc_plan.specs.Hears.{cast_refusal}
use Rattle.mc_files.specs.Steps.{NamesJust}
use Rattle.mc_files.proofs.FrameFacts.{rose_since}
use Rattle.mc_files.proofs.TakeFacts.{both_come, hear_fails, keep_fails, takes_roots}
use Rattle.mc_files.proofs.taking.take_in.Goals as goal

pub returns-in-Err-clause-keeps : goal.returns-in-Err-clause-keeps
returns-in-Err-clause-keeps g c = still_on refl refl refl

pub returns-in-Err-keep-clause-call : goal.returns-in-Err-keep-clause-call
returns-in-Err-keep-clause-call g c = keep_fails c.args.roots.now (map as_stored c.args.blocks) _ c.in-Err-keep.error (replica_state g.K.Keeper.told g.K.Keeper.fuse c.args.replica.now) (replica_state g.K.Keeper.told g.K.Keeper.fuse c.keep.new.self) c.in-Err-keep.ensures.call

pub returns-in-Ok-hear-clause-call : goal.returns-in-Ok-hear-clause-call
returns-in-Ok-hear-clause-call g c =
    both_come c.args.roots.now (map as_stored c.args.blocks) c.as_slice.result.now (subst (λ (text : List ℕ). NamesJust text c.args.roots.now) (sym c.as_slice.ensures) c.in-Ok.ensures.named) ⊤ ⊤ ⊤ c.in-Ok-keep.stored c.in-Ok-hear.heard
    (replica_state g.K.Keeper.told g.K.Keeper.fuse c.args.replica.now) (replica_state g.K.Keeper.told g.K.Keeper.fuse c.keep.new.self) (replica_state g.K.Keeper.told g.K.Keeper.fuse c.hear.new.self) c.in-Ok-keep.ensures.call c.in-Ok-hear.ensures.call

pub returns-in-Ok-hear-clause-keeps : goal.returns-in-Ok-hear-clause-keeps
returns-in-Ok-hear-clause-keeps g c = continues_more c.in-Ok-keep.ensures.keeps c.in-Ok-hear.ensures.keeps

pub returns-in-Ok-hear-clause-says : goal.returns-in-Ok-hear-clause-says
returns-in-Ok-hear-clause-says g c =
    takes_roots c.args.roots.now (map as_stored c.args.blocks) c.as_slice.result.now (subst (λ (text : List ℕ). NamesJust text c.args.roots.now) (sym c.as_slice.ensures) c.in-Ok.ensures.named) _ c.in-Ok-keep.stored c.in-Ok-hear.heard
    (shown c.args.replica.now.queue) (shown c.keep.new.self.queue) (shown c.hear.new.self.queue) c.in-Ok-keep.ensures.few (ap shown c.in-Ok-keep.ensures.queue) c.in-Ok-hear.ensures.wants c.in-Ok-hear.ensures.queued

pub returns-clause-call : goal.returns-clause-call
returns-clause-call g c =
    hear_fails c.args.roots.now (map as_stored c.args.blocks) c.as_slice.result.now (subst (λ (text : List ℕ). NamesJust text c.args.roots.now) (sym c.as_slice.ensures) c.in-Ok.ensures.named) _ ⊤ _ c.in-Ok-keep.stored c.in-Err-hear.error
    (replica_state g.K.Keeper.told g.K.Keeper.fuse c.args.replica.now) (replica_state g.K.Keeper.told g.K.Keeper.fuse c.keep.new.self) (replica_state g.K.Keeper.told g.K.Keeper.fuse c.hear.new.self) (rose_since c.in-Ok-keep.ensures.keeps (g.K.Keeper.own c.hear.new.self.keeper)) (ap cast_refusal c.as_slice.ensures ∙ c.in-Ok.ensures.allowed) c.in-Ok-keep.ensures.call
    c.in-Err-hear.ensures.call

pub returns-clause-keeps : goal.returns-clause-keeps
returns-clause-keeps g c = continues_more c.in-Ok-keep.ensures.keeps c.in-Err-hear.ensures.keeps

pub returns-clause-says : goal.returns-clause-says
returns-clause-says g c = c.in-Err-hear.ensures.wants ∙ ap shown c.in-Ok-keep.ensures.queue
