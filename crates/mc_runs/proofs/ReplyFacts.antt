-- What is answered where a command is done, and where it is refused.
use Rattle.std.proofs.Common.{◌≡◌, ℕ, Bool, true, false, List, length, Option, Some, None, Result, Ok, Err, refl, sym, ◌∙◌, ap, inl, inr, nat_lt}
use Rattle.std.specs.Prelude.{slice_get}
use Rattle.std.specs.Option.{option_or}
use Rattle.mc_model.specs.State.{Running}
use Rattle.mc_core.specs.declared.CoreError.{CoreError}
use Rattle.mc_core.specs.declared.CoreError.TheVariants as core
use Rattle.mc_drain.specs.declared.repairing.Repaired.{Repaired}
use Rattle.mc_drain.specs.declared.repairing.Repaired.TheVariants as repaired
use Rattle.mc_drain.specs.declared.working.Worked.{Worked}
use Rattle.mc_drain.specs.declared.working.Worked.TheVariants as worked
use Rattle.mc_files.specs.declared.taking.Imported.{Imported}
use Rattle.mc_script.specs.declared.command.Command.{Command}
use Rattle.mc_script.specs.declared.reply.Reply.{Reply}
use Rattle.mc_script.specs.declared.reply.Reply.TheVariants.{Idle, Processed, Missing, Bad}
use Rattle.mc_seats.specs.declared.bag.Bag.{Bag}
use Rattle.mc_seats.specs.Asks.{among_by, focus_by, has_car, has_message, is_there, message_at}
use Rattle.mc_seats.specs.Calling.{Batches, Blocks, Calling, Nothing, Reach}
use Rattle.mc_seats.specs.Doing.{Act, At, Calls, Casts, Compares, Doing, Exports, Hears, Imports, Links, Loads, Repairs, Sends, Steps, Storms, Tends, Works, doing}
use Rattle.mc_seats.specs.Effects.{CallsAt, HearsSome, IsIdle, IsReply, done_by, import_reply, open_reply, refused_by, stop_reply}
use Rattle.mc_seats.specs.Step.{IsDone, Refuses, answers_fault, either_reply, is_fault, refuses_by, says_by, sets_by}
use Rattle.mc_seats.specs.Tending.{Either, Rests, Rule, Runs, rule_reply}
use Rattle.mc_seats.specs.Works.{repaired_reply, worked_reply}
use Rattle.mc_seats.specs.Worlds.{MovedAt, Place, WorldState}
use Rattle.mc_runs.proofs.TendFacts.{IsTended, SaysPlainly, is_plain, says_plainly, tended}
use Rattle.mc_seats.proofs.SeatFacts.{first}
use Rattle.mc_runs.proofs.WrittenFacts.{at_there}

hears_plainly : (text : List ℕ) (old new : Option Running) (reply : Reply) → HearsSome text old new reply → is_plain reply ≡ true
hears_plainly text None new reply h = absurd h
hears_plainly text (Some old) None reply h = absurd h
hears_plainly text (Some old) (Some new) reply h = ap is_plain h.says

idles_plainly : (run : Option Running) (reply : Reply) → IsIdle run reply → is_plain reply ≡ true
idles_plainly run Idle h = refl
idles_plainly run Processed h = refl
idles_plainly run Missing h = refl
idles_plainly run (Bad damage) h = refl
idles_plainly run reply h = absurd h

works_plainly : (value : Worked) → is_plain (worked_reply value) ≡ true
works_plainly (worked.Done processed missing bad) = refl
works_plainly (worked.Again processed) = refl

imports_plainly : (said : Result Imported ℕ) → is_plain (import_reply said) ≡ true
imports_plainly (Ok imported) = refl
imports_plainly (Err number) = refl

repairs_plainly : (value : Repaired) → is_plain (repaired_reply value) ≡ true
repairs_plainly repaired.Clean = refl
repairs_plainly (repaired.Open gaps) = refl
repairs_plainly (repaired.Again processed) = refl

-- a command that is done is answered so
reach_plainly : (reach : Reach) (call : Calling) (p q : Place) (reply : Reply) → ((value : call.Answer) → is_plain (call.says value) ≡ true) → CallsAt reach call p q reply → is_plain reply ≡ true
reach_plainly Nothing call p q reply plain h = ap is_plain h.1.1 ∙ plain h.1.0
reach_plainly (Batches B) call p q reply plain h = ap is_plain h.2.1 ∙ plain h.2.0
reach_plainly (Blocks B) call p q reply plain h = ap is_plain h.1.1 ∙ plain h.1.0

plainly : (w : WorldState) (d : Doing) (reply : Reply) (w2 : WorldState) → SaysPlainly d → IsTended d → MovedAt (focus_by d) w.places w2.places (λ p q. done_by w d p q reply) → says_by w d reply → sets_by w d reply w2.around
    → is_plain reply ≡ true
plainly w (At r (Calls call)) reply w2 plain is moved says around = reach_plainly call.reach call moved.old moved.new reply plain moved.holds.0
plainly w (At r (Tends tending)) reply w2 plain is moved says around = is.plain moved.old moved.new reply moved.holds
plainly w (At r Casts) reply w2 plain is moved says around = ap is_plain around.numbered
plainly w (At r (Hears message)) reply w2 plain is moved says around = hears_plainly (message_at w.around.bag message) moved.old.run moved.new.run reply moved.holds.0.2
plainly w (At r Exports) reply w2 plain is moved says (inl filed) = ap is_plain filed.numbered
plainly w (At r Exports) reply w2 plain is moved says (inr many) = ap is_plain many.says
plainly w (At r (Imports car)) reply w2 plain is moved says around =
    let some = moved.holds.0.1 in
    ap is_plain some.says ∙ imports_plainly some.said
plainly w (At r Steps) reply w2 plain is moved says around = idles_plainly moved.old.run reply moved.holds.0.1
plainly w (At r (Works budget)) reply w2 plain is moved says around = ap is_plain moved.holds.says ∙ works_plainly moved.holds.value
plainly w (At r Repairs) reply w2 plain is moved says around = ap is_plain moved.holds.says ∙ repairs_plainly moved.holds.value
plainly w (At r (Storms writers writes)) reply w2 plain is moved says around = ap is_plain moved.holds.says
plainly w (Sends bytes) reply w2 plain is moved says around = ap is_plain around.numbered
plainly w (Loads bytes) reply w2 plain is moved says around = ap is_plain around.numbered
plainly w (Links r other up) reply w2 plain is moved says around = ap is_plain around.0
plainly w (Compares r other) reply w2 plain is moved says around = ap is_plain says.1

pub done_plainly : (w : WorldState) (command : Command) (reply : Reply) (w2 : WorldState) → IsDone w command reply w2 → is_plain reply ≡ true
done_plainly w command reply w2 done = plainly w (doing command) reply w2 (says_plainly command) (tended command) done.moved done.says done.around

-- no refusal is a fault

error_no_fault : (error : CoreError) (reply : Reply) → IsReply error reply → is_fault reply ≡ false
error_no_fault core.KeeperFault reply e = absurd e
error_no_fault core.Memory reply e = absurd e
error_no_fault error reply e = sym (ap answers_fault e)

abbrev due_fault : Option Reply → Bool
due_fault None = false
due_fault (Some reply) = is_fault reply

due_no_fault : (due : Option Reply) (reply : Reply) → due_fault due ≡ false → Some reply ≡ due → is_fault reply ≡ false
due_no_fault due reply calm e = ap due_fault e ∙ calm

stop_no_fault : (run : Option Running) → due_fault (stop_reply run) ≡ false
stop_no_fault None = refl
stop_no_fault (Some run) = refl

open_no_fault : (run : Option Running) → due_fault (open_reply run) ≡ false
open_no_fault None = refl
open_no_fault (Some run) = refl

either_no_fault : (a b : Option Place) → due_fault (either_reply a b) ≡ false
either_no_fault None b = refl
either_no_fault (Some p) None = refl
either_no_fault (Some p) (Some q) = both p.run q.run
  where
    both : (a b : Option Running) → due_fault (option_or (stop_reply a) (stop_reply b)) ≡ false
    both None b = refl
    both (Some a) None = refl
    both (Some a) (Some b) = refl

rule_no_fault : (rule : Rule) (run : Option Running) → due_fault (rule_reply rule run) ≡ false
rule_no_fault Runs run = stop_no_fault run
rule_no_fault Rests run = open_no_fault run
rule_no_fault Either run = refl

refused_no_fault : (w : WorldState) (d : Doing) (reply : Reply) (p : Place) → refused_by w p d (Some reply) → is_fault reply ≡ false
refused_no_fault w (At r (Tends tending)) reply p h = due_no_fault (rule_reply tending.rule p.run) reply (rule_no_fault tending.rule p.run) h
refused_no_fault w d reply p h = error_no_fault h.0 reply h.3

-- the replica of a command is there
pub within : (count : ℕ) (bag : Bag) (r : ℕ) (act : Act) → among_by count bag (At r act) ≡ true → nat_lt r count ≡ true
within count bag r (Hears message) there = first (nat_lt r count) (has_message bag message) there
within count bag r (Imports car) there = first (nat_lt r count) (has_car bag car) there
within count bag r act there = there

no_fault_by : (w : WorldState) (d : Doing) (reply : Reply) → among_by (length w.places) w.around.bag d ≡ true → refuses_by w d (Some reply) → is_fault reply ≡ false
no_fault_by w (At r act) reply there h =
    let found = at_there w r (λ p. refused_by w p (At r act) (Some reply)) (within (length w.places) w.around.bag r act there) h in
    refused_no_fault w (At r act) reply found.0 found.2
no_fault_by w (Compares r other) reply there h = due_no_fault (either_reply (slice_get w.places r) (slice_get w.places other)) reply (either_no_fault (slice_get w.places r) (slice_get w.places other)) h
no_fault_by w d reply there h = due_no_fault None reply refl h

pub refuses_no_fault : (w : WorldState) (command : Command) (reply : Reply) → is_there w command ≡ true → Refuses w command (Some reply) → is_fault reply ≡ false
refuses_no_fault w command = no_fault_by w (doing command)
