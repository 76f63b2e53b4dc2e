use Rattle.std.proofs.Common.{◌∙◌, refl, rules, sym}
use Rattle.std.specs.Prelude.{string_bytes}
use Rattle.mc_app.proofs.OptionFacts.{none_left, not_options, options_go_on, two_words}
use Rattle.mc_app.proofs.command_line.has_options.Goals as goal

pub returns-then-not-is_option : goal.returns-then-not-is_option
returns-then-not-is_option c = not_options _ _ _ c.is_option.result c.loop-rest.invariant
    (two_words string_bytes c.args.command c.loop-rest.rest.now c.name-item.result c.value-item.result _ _ _ c.is_option.result c.in-len2-up.len_at_least c.name-item.is c.value-item.is c.as_str.ensures.value c.as_str-in-len2-up.ensures.value refl c.is_option.ensures)
    (search rules)

pub loop-rest-preserved : goal.loop-rest-preserved
loop-rest-preserved c = options_go_on _ _ _ c.is_option.result c.loop-rest.invariant
    (two_words string_bytes c.args.command c.loop-rest.rest.now c.name-item.result c.value-item.result _ _ _ c.is_option.result c.in-len2-up.len_at_least c.name-item.is c.value-item.is c.as_str.ensures.value c.as_str-in-len2-up.ensures.value refl c.is_option.ensures)
    (search rules)

pub returns : goal.returns
returns c = none_left string_bytes c.args.command c.loop-rest.rest.now c.is_empty.result c.in_default.len_below c.is_empty.ensures ∙ sym c.loop-rest.invariant
