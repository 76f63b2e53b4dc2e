-- What a worker's calls of a sealed node answer.
use Rattle.std.specs.Prelude.{◌≡◌, ◌≤◌, ◌<◌, ⊤, ℕ, Bool, true, false, Option, Some, None, Result, Ok, Err}
use Rattle.mc_fetch.specs.declared.job.Delivered.{Delivered}
use Rattle.mc_fetch.specs.declared.job.Delivered.TheVariants.{Processed, Missing, Bad, Known}
use Rattle.mc_drain.specs.declared.end.DrainEnd.{DrainEnd}
use Rattle.mc_drain.specs.declared.end.DrainEnd.TheVariants as drain
use Rattle.mc_worker.specs.declared.ends.ShopError.{ShopError}
use Rattle.mc_worker.specs.declared.ends.ShopError.TheVariants.{KeeperFault, Stopped, Spent, Memory}
use Rattle.mc_worker.specs.declared.handover.Handover.{Handover}
use Rattle.mc_worker.specs.declared.handover.Handover.TheVariants.{Delivered as NoBlock, Committed}
use Rattle.mc_node.specs.declared.note.Note.{Note}
use Rattle.mc_node.specs.declared.note.Note.TheVariants.{Fetched, Halted}

-- the entry that a call leaves: that of a halt where it failed, and else that of a fetched block where it processed one
abbrev pub note_if : Bool → Bool → Option Note
note_if true fetched = Some Halted
note_if false true = Some Fetched
note_if false false = None

-- whether a delivery processed a block
abbrev pub has_processed : {E : Type 0} → Result Delivered E → Bool
has_processed (Ok (Processed position)) = true
has_processed (Ok Missing) = false
has_processed (Ok (Bad damage)) = false
has_processed (Ok Known) = false
has_processed (Err error) = false

-- what is handed over where the replica answers this: a block that was processed is a commit of one
abbrev pub handover : Delivered → Handover
handover (Processed position) = Committed 1
handover Missing = NoBlock Missing
handover (Bad damage) = NoBlock (Bad damage)
handover Known = NoBlock Known

abbrev pub hand_over : Result Delivered ShopError → Result Handover ShopError
hand_over (Ok delivered) = Ok (handover delivered)
hand_over (Err error) = Err error

-- what a shop answers where the replica answers this: an end that no replica answers counts as a want of memory
abbrev pub shop_error : DrainEnd → ShopError
shop_error drain.KeeperFault = KeeperFault
shop_error drain.Memory = Memory
shop_error drain.Idle = Memory
shop_error drain.Spent = Memory
shop_error drain.PeerFault = Memory

abbrev pub shop_answer : {T : Type 0} → Result T DrainEnd → Result T ShopError
shop_answer (Ok value) = Ok value
shop_answer (Err end) = Err (shop_error end)

-- an error that a call of a replica that runs answers
abbrev pub IsBroken : ShopError → Type 0
IsBroken KeeperFault = ⊤
IsBroken Memory = ⊤
IsBroken Stopped = ⊥
IsBroken Spent = ⊥

-- of a call that found so many processed blocks: below the limit it is not spent, and there alone it does anything
abbrev pub KeepsLimit : {T : Type 0} → ℕ → ℕ → Result T ShopError → Type 0
KeepsLimit limit count (Ok value) = count < limit
KeepsLimit limit count (Err KeeperFault) = count < limit
KeepsLimit limit count (Err Stopped) = ⊤
KeepsLimit limit count (Err Spent) = limit ≤ count
KeepsLimit limit count (Err Memory) = ⊤

-- a call is stopped exactly where the replica had stopped
abbrev pub StopsWhere : {T : Type 0} → Bool → Result T ShopError → Type 0
StopsWhere stopped (Ok value) = stopped ≡ false
StopsWhere stopped (Err KeeperFault) = stopped ≡ false
StopsWhere stopped (Err Stopped) = stopped ≡ true
StopsWhere stopped (Err Spent) = stopped ≡ false
StopsWhere stopped (Err Memory) = stopped ≡ false
