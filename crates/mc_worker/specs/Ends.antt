-- How a call of a shop ended, and why a worker ended.
use Rattle.std.specs.Prelude.{◌≡◌, Bool, true, false, Option, Some, None, Result, Ok, Err}
use Rattle.mc_base.specs.declared.cid.Cid.{Cid}
use Rattle.mc_fetch.specs.declared.error.FetchError.{FetchError}
use Rattle.mc_fetch.specs.declared.error.FetchError.TheVariants as fetch
use Rattle.mc_fetch.specs.declared.job.Job.{Job}
use Rattle.mc_worker.specs.declared.ends.HandEnd.{HandEnd}
use Rattle.mc_worker.specs.declared.ends.HandEnd.TheVariants as hand
use Rattle.mc_worker.specs.declared.ends.ShopError.{ShopError}
use Rattle.mc_worker.specs.declared.ends.ShopError.TheVariants as shop

-- the end of the same name
abbrev pub end_of : ShopError → HandEnd
end_of shop.KeeperFault = hand.KeeperFault
end_of shop.Stopped = hand.Stopped
end_of shop.Spent = hand.Spent
end_of shop.Memory = hand.Memory

-- the end of a worker whose fetch gave no answer
abbrev pub end_by : FetchError → HandEnd
end_by fetch.Failed = hand.PeerFault
end_by fetch.Memory = hand.Memory

-- how a call that asks for a job ended
abbrev pub next_ends : Result (Option Job) ShopError → Option HandEnd
next_ends (Ok None) = Some hand.Idle
next_ends (Ok (Some job)) = None
next_ends (Err error) = Some (end_of error)

-- how a delivery ended
abbrev pub deliver_ends : {T : Type 0} → Result T ShopError → Option HandEnd
deliver_ends (Ok value) = None
deliver_ends (Err error) = Some (end_of error)

-- the block of the job that a call took
abbrev pub job_out : Result (Option Job) ShopError → Option Cid
job_out (Ok None) = None
job_out (Ok (Some job)) = Some job.cid
job_out (Err error) = None

-- whether a worker ended by a fault of its fetch
abbrev pub is_peer : HandEnd → Bool
is_peer hand.PeerFault = true
is_peer hand.Idle = false
is_peer hand.Spent = false
is_peer hand.KeeperFault = false
is_peer hand.Stopped = false
is_peer hand.Memory = false

-- whether a turn did
abbrev pub failed_in : Option HandEnd → Bool
failed_in None = false
failed_in (Some end) = is_peer end

-- whether a call ended by want of memory, or not at all
abbrev pub is_quiet : Option HandEnd → Bool
is_quiet None = true
is_quiet (Some hand.Memory) = true
is_quiet (Some hand.Idle) = false
is_quiet (Some hand.Spent) = false
is_quiet (Some hand.KeeperFault) = false
is_quiet (Some hand.Stopped) = false
is_quiet (Some hand.PeerFault) = false

-- A worker's end is what its seat tells of its last call. Want of memory may have come there or in the look-up, and a
-- fault of the fetch after a job was taken.
abbrev pub HasEnded : Option HandEnd → HandEnd → Type 0
HasEnded last hand.Idle = last ≡ Some hand.Idle
HasEnded last hand.Spent = last ≡ Some hand.Spent
HasEnded last hand.KeeperFault = last ≡ Some hand.KeeperFault
HasEnded last hand.Stopped = last ≡ Some hand.Stopped
HasEnded last hand.PeerFault = last ≡ None
HasEnded last hand.Memory = is_quiet last ≡ true
