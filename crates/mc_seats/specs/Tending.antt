-- What is done at the place of a replica without a call of it: one record.
use Rattle.std.specs.Prelude.{◌≡◌, ℕ, Bool, true, false, List, length, Option, Some, None, IfSome}
use Rattle.mc_base.specs.declared.cid.Cid.{Cid}
use Rattle.mc_core.specs.Counted.{capped}
use Rattle.mc_fetch.specs.Plants.{planted_with}
use Rattle.mc_model.specs.Events.{opened}
use Rattle.mc_model.specs.Kept.{Kept}
use Rattle.mc_model.specs.State.{Running, durable_of}
use Rattle.mc_model.specs.Wanted.{no_queue}
use Rattle.mc_script.specs.declared.reply.Reply.{Reply}
use Rattle.mc_script.specs.declared.reply.Reply.TheVariants.{Done, State, Stopped, RefusedOpen}
use Rattle.mc_seats.specs.Worlds.{IfRuns, Place}

-- one that doesn't run is refused, and one that runs
abbrev pub stop_reply : Option Running → Option Reply
stop_reply None = Some Stopped
stop_reply (Some run) = None

abbrev pub open_reply : Option Running → Option Reply
open_reply None = None
open_reply (Some run) = Some RefusedOpen

-- where it is not refused: at a replica that runs, at one that has stopped, and at either
pub data Rule : Type 0 where
  Runs : Rule
  Rests : Rule
  Either : Rule

abbrev pub rule_reply : Rule → Option Running → Option Reply
rule_reply Runs run = stop_reply run
rule_reply Rests run = open_reply run
rule_reply Either run = None

abbrev pub is_runs : Rule → Bool
is_runs Runs = true
is_runs rule = false

-- `rule` says where it is refused, `may` whether the keeper may fail, `arms` how many fuses it arms, and `Does` what it
-- makes of the place with which reply.
pub record Tending : Type 1 where
  pub rule : Rule
  pub may : Bool
  pub arms : ℕ
  pub Does : Place → Place → Reply → Type 0

-- the keeper's content and its fuse are as before
abbrev pub TellsSame : Place → Place → Type 0
TellsSame p q = (q.content ≡ p.content) × (q.fuse ≡ p.fuse)

-- an offer is planted
abbrev pub plants : Cid → List ℕ → Tending
plants cid bytes = record {
  rule = Either;
  may = false;
  arms = 0;
  Does = λ p q reply.
      (q ≡ record p { planted = planted_with p.planted (record { cid = cid; bytes = bytes }) }) × (reply ≡ Done);
}

-- the numbers of a replica's state: those of what is wanted, and where the content is told those of that
pub record HasNumbers (content : Option Kept) (run : Running) (reply : Reply) : Type 0 where
  pub processed : ℕ
  pub stored : ℕ
  pub mark : Bool
  pub says : reply ≡ State processed stored (length run.queue.waiting) (length run.queue.missing) (length run.queue.bad)
      mark run.whole
  pub told : IfSome content (λ kept. (processed ≡ capped (length kept.order)) × (stored ≡ capped (length kept.graph))
      × (mark ≡ kept.mark))

abbrev pub IsState : Place → Reply → Type 0
IsState p reply = IfRuns p.run (λ run. HasNumbers p.content run reply)

abbrev pub counts : Tending
counts = record { rule = Runs; may = false; arms = 0; Does = λ p q reply. (q ≡ p) × IsState p reply }

-- the replica is stopped
abbrev pub stops : Tending
stops = record { rule = Runs; may = false; arms = 0; Does = λ p q reply. (q ≡ record p { run = None }) × (reply ≡ Done) }

-- what runs after an opening: nothing is wanted, no walk and no batch are begun, and every gap counts as wanted exactly
-- where the mark is clear
abbrev pub OpensAs : Option Kept → Option Running → Type 0
OpensAs None run = (whole : Bool) × (run ≡ Some (record { queue = no_queue; walk = None; batch = None; whole = whole }))
OpensAs (Some kept) run = run ≡ Some (opened (durable_of kept))

pub record Opens (p q : Place) : Type 0 where
  pub runs : OpensAs p.content q.run
  pub tells : TellsSame p q
  pub planted_same : q.planted ≡ p.planted

abbrev pub opens : Tending
opens = record { rule = Rests; may = true; arms = 0; Does = λ p q reply. Opens p q × (reply ≡ Done) }

-- a fuse is armed
abbrev pub armed : ℕ → Bool → Place → Place
armed commit after p = record p { fuse = Some (record { commit = commit; after = after }) }

abbrev pub fuses : ℕ → Bool → Tending
fuses commit after =
    record { rule = Either; may = false; arms = 1; Does = λ p q reply. (q ≡ armed commit after p) × (reply ≡ Done) }
