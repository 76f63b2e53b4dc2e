-- What is opened.
use Rattle.std.proofs.Common.{◌≡◌, not, false, Option, Some, None, refl, ap, ◌∙◌}
use Rattle.std.specs.Prelude.{IfSome}
use Rattle.mc_model.specs.Kept.{Kept}
use Rattle.mc_model.specs.State.{Running, durable_of}
use Rattle.mc_model.specs.Wanted.{Queue, no_queue}
use Rattle.mc_keep.specs.declared.fuse.Fuse.{Fuse}
use Rattle.mc_keep.specs.declared.rows.Summary.{Summary}
use Rattle.mc_keep.specs.Tables.{IsSummary}
use Rattle.mc_plan.specs.Events.{state_of}
use Rattle.mc_plan.specs.Counted.{run_of}
use Rattle.mc_core.specs.Replica.{opened_state}

abbrev fresh : Queue → Summary → Running
fresh queue summary = record { queue = queue; walk = None; batch = None; whole = not summary.mark }

opens : (told : Option Kept) (fuse : Option Fuse) (queue : Queue) (summary : Summary) → queue ≡ no_queue → IfSome told (λ kept. IsSummary kept summary)
    → state_of told fuse (run_of false (fresh queue summary)) ≡ opened_state told fuse
opens None fuse queue summary none is = refl
opens (Some kept) fuse queue summary none is =
    ap (λ q. Some (record { state = record { durable = durable_of kept; run = Some (fresh q summary) }; fuse = fuse })) none
    ∙ ap (λ mark. Some (record { state = record { durable = durable_of kept; run = Some (record { queue = no_queue; walk = None; batch = None; whole = not mark }) }; fuse = fuse })) is.3

pub opens_now : (told now : Option Kept) (fuse fuse_now : Option Fuse) (queue : Queue) (summary : Summary) → now ≡ told → fuse_now ≡ fuse → queue ≡ no_queue → IfSome told (λ kept. IsSummary kept summary)
    → state_of now fuse_now (run_of false (fresh queue summary)) ≡ opened_state told fuse
opens_now told now fuse fuse_now queue summary same same_fuse none is =
    ap (λ t. state_of t fuse_now (run_of false (fresh queue summary))) same ∙ ap (λ f. state_of told f (run_of false (fresh queue summary))) same_fuse ∙ opens told fuse queue summary none is
