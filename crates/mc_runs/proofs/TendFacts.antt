-- What holds of each command by its own row: what is said for a call, and what is left of a place where no call is made.
use Rattle.std.proofs.Common.{◌≡◌, ◌∙◌, ℕ, Bool, List, true, false, Option, None, Some, refl, ap}
use Rattle.std.specs.Prelude.{⊤, is_some}
use Rattle.mc_script.specs.declared.command.Command.{Command}
use Rattle.mc_script.specs.declared.command.Command.TheVariants.{GetAt, Put, Plant, State, Stop, Open, StopAt, StopAfter}
use Rattle.mc_script.specs.declared.reply.Reply.{Reply}
use Rattle.mc_script.specs.declared.reply.Reply.TheVariants.{Done, Stopped, FaultKeeper, FaultPeer}
use Rattle.mc_seats.specs.Doing.{At, Calls, Doing, Tends, below_reply, doing}
use Rattle.mc_seats.specs.Tending.{HasNumbers, Tending}
use Rattle.mc_model.specs.State.{Running}
use Rattle.mc_seats.specs.Worlds.{IfRuns, Place}

-- what runs
pub if_runs : (run : Option Running) (P : Running → Type 0) → IfRuns run P → (now : Running) × P now
if_runs None P h = absurd h
if_runs (Some run) P h = (run, h)

-- neither `stopped` nor a fault
abbrev pub is_plain : Reply → Bool
is_plain Stopped = false
is_plain FaultKeeper = false
is_plain FaultPeer = false
is_plain reply = true

-- what is said for a call that did all
abbrev pub SaysPlainly : Doing → Type 0
SaysPlainly (At r (Calls call)) = (value : call.Answer) → is_plain (call.says value) ≡ true
SaysPlainly d = ⊤ → is_plain Done ≡ true

below_plainly : (found : Option (Option (List ℕ))) → is_plain (below_reply found) ≡ true
below_plainly None = refl
below_plainly (Some value) = refl

pub says_plainly : (command : Command) → SaysPlainly (doing command)
says_plainly (Put r key bytes) = λ value. refl
says_plainly (GetAt r cid key) = below_plainly
says_plainly command = λ value. refl

-- the content is the same, a fuse that was armed is still armed, and the reply is plain
pub record Tended (tending : Tending) : Type 0 where
  pub content_same : (p q : Place) (reply : Reply) → tending.Does p q reply → q.content ≡ p.content
  pub fuse_kept : (p q : Place) (reply : Reply) → tending.Does p q reply → is_some p.fuse ≡ true → is_some q.fuse ≡ true
  pub plain : (p q : Place) (reply : Reply) → tending.Does p q reply → is_plain reply ≡ true

abbrev pub IsTended : Doing → Type 0
IsTended (At r (Tends tending)) = Tended tending
IsTended d = ⊤

pub tended : (command : Command) → IsTended (doing command)
tended (Plant r cid bytes) = record {
  content_same = λ p q reply h. ap (λ (x : Place). x.content) h.0;
  fuse_kept = λ p q reply h is. ap (λ (x : Place). is_some x.fuse) h.0 ∙ is;
  plain = λ p q reply h. ap is_plain h.1;
}
tended (State r) = record {
  content_same = λ p q reply h. ap (λ (x : Place). x.content) h.0;
  fuse_kept = λ p q reply h is. ap (λ (x : Place). is_some x.fuse) h.0 ∙ is;
  plain = λ p q reply h. ap is_plain (if_runs p.run (λ run. HasNumbers p.content run reply) h.1).1.says;
}
tended (Stop r) = record {
  content_same = λ p q reply h. ap (λ (x : Place). x.content) h.0;
  fuse_kept = λ p q reply h is. ap (λ (x : Place). is_some x.fuse) h.0 ∙ is;
  plain = λ p q reply h. ap is_plain h.1;
}
tended (Open r) = record {
  content_same = λ p q reply h. h.0.tells.0;
  fuse_kept = λ p q reply h is. ap is_some h.0.tells.1 ∙ is;
  plain = λ p q reply h. ap is_plain h.1;
}
tended (StopAt r commit) = record {
  content_same = λ p q reply h. ap (λ (x : Place). x.content) h.0;
  fuse_kept = λ p q reply h is. ap (λ (x : Place). is_some x.fuse) h.0;
  plain = λ p q reply h. ap is_plain h.1;
}
tended (StopAfter r commit) = record {
  content_same = λ p q reply h. ap (λ (x : Place). x.content) h.0;
  fuse_kept = λ p q reply h is. ap (λ (x : Place). is_some x.fuse) h.0;
  plain = λ p q reply h. ap is_plain h.1;
}
tended command = tt
