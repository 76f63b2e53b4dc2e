use Rattle.std.proofs.Common.{rules, refl}
use Rattle.mc_app.proofs.SummingFacts.{summed_line_short, summed_no_command, summed_nothing, summed_short, summed_too_long, summed_whole, summing_begins, summing_on}
use Rattle.mc_seats.proofs.StayFacts.{all_stay, all_then}
use Rattle.mc_app.proofs.summing.sum_script.Goals as goal

pub loop-carried-init : goal.loop-carried-init
loop-carried-init g c = summing_begins _ _ _ _ _ _ _ _ _ (c.requires.entries, all_stay _ _ _, c.in-Ok-new.ensures) refl c.in-Ok.ensures.0 c.new-source.ensures.starts.0 c.in-Ok.ensures.1 c.in-Ok.reader.in_script

pub loop-carried-preserved : goal.loop-carried-preserved
loop-carried-preserved g c = summing_on c.loop-carried.invariant _ _ _ _ _ _ _ (c.in-Ok-true.ensures.line (search rules)) (c.in-Ok-true.ensures.moves (search rules)) (search rules) (rw c.line.ensures at c.in-Ok-sum_line.ensures.ok) (c.sum_line.ensures.entries, all_then _ _ _ _ _ c.loop-carried.invariant.keeps.1 c.sum_line.ensures.desks, c.in-Ok-sum_line.ensures.fits)

pub returns-in-Ok-false-clause-sums : goal.returns-in-Ok-false-clause-sums
returns-in-Ok-false-clause-sums g c = summed_whole c.loop-carried.invariant (c.in-Ok-false.ensures.end (search rules))

pub returns-in-Err-TooLong-clause-sums : goal.returns-in-Err-TooLong-clause-sums
returns-in-Err-TooLong-clause-sums g c = λ count begins. summed_too_long c.loop-carried.invariant (c.in-Err-TooLong.ensures.too_long (search rules)) count

pub returns-in-Err-Bad-clause-sums : goal.returns-in-Err-Bad-clause-sums
returns-in-Err-Bad-clause-sums g c =
    let line = c.in-Ok-true.ensures.line (search rules) in
    let bad = rw c.line.ensures at (c.in-Err-Bad.ensures.bad (search rules)) in
    λ count begins. summed_no_command c.loop-carried.invariant _ _ _ _ _ c.loop-carried.summary line bad.0 bad.1 count

pub returns-in_default-clause-sums : goal.returns-in_default-clause-sums
returns-in_default-clause-sums g c = λ count begins. summed_nothing _ _ _ _ count c.args.summary.now refl

pub returns-in-Err-Failed-clause-sums : goal.returns-in-Err-Failed-clause-sums
returns-in-Err-Failed-clause-sums g c = λ count begins. summed_short c.loop-carried.invariant count

pub returns-in-Err-Memory-clause-sums : goal.returns-in-Err-Memory-clause-sums
returns-in-Err-Memory-clause-sums g c = λ count begins. summed_short c.loop-carried.invariant count

pub returns-in-Err-Failed-sum_line-clause-sums : goal.returns-in-Err-Failed-sum_line-clause-sums
returns-in-Err-Failed-sum_line-clause-sums g c = λ count begins.
    summed_line_short c.loop-carried.invariant _ _ _ _ _ c.loop-carried.summary (c.in-Ok-true.ensures.line (search rules)) (search rules) (rw c.line.ensures at (c.in-Err-Failed-sum_line.ensures.failed (search rules))) count

pub returns-in-Err-Memory-sum_line-clause-sums : goal.returns-in-Err-Memory-sum_line-clause-sums
returns-in-Err-Memory-sum_line-clause-sums g c = λ count begins.
    summed_line_short c.loop-carried.invariant _ _ _ _ _ c.loop-carried.summary (c.in-Ok-true.ensures.line (search rules)) (search rules) (rw c.line.ensures at (c.in-Err-Memory-sum_line.ensures.short (search rules))) count

pub returns-in_default-clause-desks : goal.returns-in_default-clause-desks
returns-in_default-clause-desks g c = all_stay _ _ _

pub returns-in-Err-Bad-clause-desks : goal.returns-in-Err-Bad-clause-desks
returns-in-Err-Bad-clause-desks g c = all_then _ _ _ _ _ c.loop-carried.invariant.keeps.1 c.sum_line.ensures.desks

pub returns-in-Err-Failed-sum_line-clause-desks : goal.returns-in-Err-Failed-sum_line-clause-desks
returns-in-Err-Failed-sum_line-clause-desks g c = all_then _ _ _ _ _ c.loop-carried.invariant.keeps.1 c.sum_line.ensures.desks

pub returns-in-Err-Memory-sum_line-clause-desks : goal.returns-in-Err-Memory-sum_line-clause-desks
returns-in-Err-Memory-sum_line-clause-desks g c = all_then _ _ _ _ _ c.loop-carried.invariant.keeps.1 c.sum_line.ensures.desks

pub returns-in_default-new-clause-sums : goal.returns-in_default-new-clause-sums
returns-in_default-new-clause-sums g c = λ count begins. summed_nothing _ _ _ _ count c.args.summary.now refl

pub returns-in_default-new-clause-desks : goal.returns-in_default-new-clause-desks
returns-in_default-new-clause-desks g c = all_stay _ _ _
