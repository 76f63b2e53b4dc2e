use Rattle.std.proofs.Common.{sym, ◌∙◌, ap}
use Rattle.std.proofs.lemmas.Bool.{eqb-true}
use Rattle.mc_query.specs.Places.{with_slash}
use Rattle.mc_query.proofs.Slashes.{trimmed, slash_after, slash_none}
use Rattle.mc_face.proofs.rows.start_of.Goals as goal

pub returns-then-is_empty : goal.returns-then-is_empty
returns-then-is_empty c =
    let folder = c.trim_end_matches-folder.result.now in
    c.new.ensures.bytes ∙ slash_none folder (eqb-true _ 0 (sym c.is_empty.ensures ∙ c.if-is_empty.true))
    ∙ ap with_slash (trimmed c.args.prefix.now folder c.trim_end_matches-folder.ensures.matches)

pub returns : goal.returns
returns c =
    let folder = c.trim_end_matches-folder.result.now in
    c.in_ok-format.ensures.ok ∙ slash_after folder (sym c.is_empty.ensures ∙ c.if-is_empty.false)
    ∙ ap with_slash (trimmed c.args.prefix.now folder c.trim_end_matches-folder.ensures.matches)
