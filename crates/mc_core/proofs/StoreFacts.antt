-- Blocks that a replica stores alone.
use Rattle.std.proofs.Common.{◌≡◌, false, List, length, Option, Some, None, refl, ap}
use Rattle.std.specs.Prelude.{IfSome}
use Rattle.mc_keep.specs.declared.changes.Changes.{Changes}
use Rattle.mc_keep.specs.declared.fuse.Fuse.{Fuse}
use Rattle.mc_model.specs.declared.block.Stored.{Stored}
use Rattle.mc_model.specs.Kept.{Kept}
use Rattle.mc_model.specs.State.{Running, durable_of}
use Rattle.mc_inbox.specs.Groups.{store_events}
use Rattle.mc_group.specs.Planning.{storing}
use Rattle.mc_group.specs.Storing.{KeepEvents, unstored}
use Rattle.mc_plan.specs.Counted.{run_of}
use Rattle.mc_plan.specs.Reads.{read_refusal}
use Rattle.mc_plan.specs.Refusals.{Is}
use Rattle.mc_plan.proofs.CallFacts.{at}

-- what was planned is what the call makes
pub keep_makes : (told : Option Kept) (fuse : Option Fuse) (run : Running) (store : Changes) (items : List Stored) → IfSome told (λ kept. store ≡ storing (unstored (durable_of kept).graph items))
    → IfSome told (λ kept. Is (read_refusal (at kept fuse (run_of false run))) None × KeepEvents (at kept fuse (run_of false run)) items (store_events store.store) (length store.store))
keep_makes None fuse run store items is = tt
keep_makes (Some kept) fuse run store items is = (refl, record { are = ap (λ (changes : Changes). store_events changes.store) is; counts = ap (λ (changes : Changes). length changes.store) is })
