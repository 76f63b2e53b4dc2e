use Rattle.std.proofs.Common.{refl, rules}
use Rattle.std.proofs.lemmas.Option.{slice_get_past, slice_get_read}
use Rattle.mc_tables.proofs.PassFacts.{led_is_set, led_nowhere, past_all}
use Rattle.mc_tables.proofs.live.lead.Goals as goal

pub returns-in-Some-clause-items : goal.returns-in-Some-clause-items
returns-in-Some-clause-items c =
    led_is_set c.args.nodes.now.items c.args.place c.args.before c.in-Some.node.now
    (slice_get_read c.args.nodes.now.items c.args.nodes.now.len c.args.place c.in-Some.node.now (search rules) (c.in-Some.ensures.variant.0 refl) c.in-Some.ensures.value)

pub returns-in_default-clause-items : goal.returns-in_default-clause-items
returns-in_default-clause-items c =
    led_nowhere c.args.nodes.now.items c.args.place c.args.before
    (slice_get_past c.args.nodes.now.items c.args.place (past_all c.args.place c.args.nodes.now.len _ (search rules) c.in_default.ensures.variant.1))
