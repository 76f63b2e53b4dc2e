use Rattle.std.proofs.Common.{◌≡◌, ◌++◌, take}
use Rattle.std.specs.List.{flat_map}
use Rattle.mc_script.specs.ReplyText.{event_text}
use Rattle.mc_script.proofs.rows.write_events.Given as goal

abbrev pub invariant-loop-event : goal.invariant-loop-event
invariant-loop-event l = l.out ≡ l.initial.out ++ flat_map event_text (take l.event-index l.events)
