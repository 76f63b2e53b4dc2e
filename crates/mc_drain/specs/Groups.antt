-- What a call that takes blocks of an inbox in leaves.
use Rattle.std.specs.Prelude.{◌≡◌, ⊤, ℕ, List, drop, Result, Ok, Err}
use Rattle.mc_base.specs.declared.cid.Cid.{Cid}
use Rattle.mc_fetch.specs.Fits.{Map}
use Rattle.mc_model.specs.declared.block.Stored.{Stored}
use Rattle.mc_model.specs.Kept.{cids_of}
use Rattle.mc_model.specs.Wanted.{Queue, without}
use Rattle.mc_inbox.specs.Groups.{AreOffered}
use Rattle.mc_group.specs.Inboxes.{taken_of}
use Rattle.mc_group.specs.declared.grouped.Grouped.{Grouped}
use Rattle.mc_plan.specs.Uptakes.{wants}
use Rattle.mc_drain.specs.declared.end.DrainEnd.{DrainEnd}
use Rattle.mc_drain.specs.declared.end.DrainEnd.TheVariants.{Idle, Spent, KeeperFault, PeerFault, Memory}

-- the bytes of these blocks are those that are found for them
abbrev pub OfferedFor : List Stored → Map → List Cid → Type 0
OfferedFor items map kept = AreOffered map items

-- the inbox after that, by the answer
abbrev pub InboxTaken : Result Grouped DrainEnd → ℕ → List Stored → List Stored → Type 0
InboxTaken (Ok grouped) limit old new = new ≡ drop limit old
InboxTaken (Err KeeperFault) limit old new = (n : ℕ) × (new ≡ drop n old)
InboxTaken (Err Memory) limit old new = new ≡ old
InboxTaken (Err Idle) limit old new = ⊥
InboxTaken (Err Spent) limit old new = ⊥
InboxTaken (Err PeerFault) limit old new = ⊥

-- and what is wanted: of the blocks that were taken up some links
abbrev pub TakenWants : Result Grouped DrainEnd → List Stored → Queue → Queue → Type 0
TakenWants (Ok grouped) items q left =
    (links : List Cid) × (left ≡ wants (without q (cids_of (taken_of q items))) links)
TakenWants (Err KeeperFault) items q left = ⊤
TakenWants (Err Memory) items q left = left ≡ q
TakenWants (Err Idle) items q left = ⊥
TakenWants (Err Spent) items q left = ⊥
TakenWants (Err PeerFault) items q left = ⊥
