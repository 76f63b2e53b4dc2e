use Rattle.std.proofs.Common.{◌+◌, true}
use Rattle.std.proofs.lemmas.Result.{IfOk-weaker, err_from_is_err_and}
use Rattle.mc_keep.proofs.Frames.{read_itself}
use Rattle.mc_query.specs.Answers.{AreAnswers}
use Rattle.mc_query.specs.Places.{start_of}
use Rattle.mc_query.proofs.AnswerFacts.{answers_from}
use Rattle.mc_query.proofs.ReadFacts.{reads_none, reads_refused}
use Rattle.mc_query.proofs.range.query.Goals as goal

pub returns-then-count-eq0-clause-planned : goal.returns-then-count-eq0-clause-planned
returns-then-count-eq0-clause-planned g c = reads_none (c.args.skip + c.args.count) (g.K.Keeper.schedule c.args.keeper.now)

pub returns-in_err-start-clause-planned : goal.returns-in_err-start-clause-planned
returns-in_err-start-clause-planned g c = reads_refused (c.args.skip + c.args.count) (g.K.Keeper.schedule c.args.keeper.now) c.from_residual.result c.from_residual.ensures.1

pub returns-then-count-eq0-clause-reads : goal.returns-then-count-eq0-clause-reads
returns-then-count-eq0-clause-reads g c = read_itself _

pub returns-in_err-start-clause-reads : goal.returns-in_err-start-clause-reads
returns-in_err-start-clause-reads g c =
    let p = err_from_is_err_and c.from_residual.result c.from_residual.ensures.1 in
    rw (p.1, p.2) (read_itself _)

pub returns-in-Some-clause-ascend : goal.returns-in-Some-clause-ascend
returns-in-Some-clause-ascend g c =
    IfOk-weaker c.take_rows.result (AreAnswers c.in-Some.place.bound c.in-Some.place.inclusive c.args.prefix.now c.args.count) (AreAnswers (start_of c.args.prefix.now) true c.args.prefix.now c.args.count)
    (answers_from (start_of c.args.prefix.now) c.in-Some.place.bound c.in-Some.place.inclusive c.args.prefix.now c.args.count (rw c.in-Some.is at c.in_ok-place.ensures.past)) c.take_rows.ensures.ascend
