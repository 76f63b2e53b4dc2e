-- The script of a start and a count.
use Rattle.std.specs.Prelude.{ℕ, zero, suc, ◌+◌, List, [], ◌++◌, if◌then◌else◌}
use Rattle.mc_gen.specs.Draws.{drawn, first_after, second_after, third_after}
use Rattle.mc_gen.specs.Lines.{is_cast, last_lines, line_of_draws}

-- the number before the line of this index: three draws make a line
abbrev pub number_at : ℕ → ℕ → ℕ
number_at start zero = start
number_at start (suc index) = third_after (number_at start index)

-- how many messages the lines before this index send
abbrev pub sent_before : ℕ → ℕ → ℕ
sent_before start zero = zero
sent_before start (suc index) =
    sent_before start index
    + (if is_cast (drawn (third_after (number_at start index))) (sent_before start index) then 1 else 0)

-- the line of this index, which the three draws after its number make
abbrev pub line_at : ℕ → ℕ → List ℕ
line_at start index =
    line_of_draws
    (drawn (first_after (number_at start index)))
    (drawn (second_after (number_at start index)))
    (drawn (third_after (number_at start index)))
    (sent_before start index)

-- the lines before this index
abbrev pub lines_before : ℕ → ℕ → List ℕ
lines_before start zero = []
lines_before start (suc index) = lines_before start index ++ line_at start index

-- `count` drawn lines, and the last ones
abbrev pub script_text : ℕ → ℕ → List ℕ
script_text start count = lines_before start count ++ last_lines (sent_before start count)
