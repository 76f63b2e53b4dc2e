use Rattle.std.proofs.Common.{◌∙◌, sym}
use Rattle.std.specs.Prelude.{string_bytes}
use Rattle.mc_app.proofs.OptionFacts.{none_given}
use Rattle.mc_app.proofs.command_line.find.Goals as goal

pub returns : goal.returns
returns c = sym (c.loop-rest.invariant ∙ none_given string_bytes c.args.wanted.now c.loop-rest.rest.now c.in_default.len_below)
