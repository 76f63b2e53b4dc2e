-- The replies to a generated script so far, summed up.
use Rattle.std.proofs.Common.{◌≡◌, ◌≤◌, ◌<◌, ◌+◌, ◌-◌, ◌∙◌, ℕ, List, [], ◌∷◌, ◌++◌, Option, None, Some, refl, sym, ap, subst, arith, length-append, inl, inr, true}
use Rattle.std.specs.Prelude.{◌⊎◌}
use Rattle.mc_gen.specs.Summary.{Sums}
use Rattle.mc_gen.specs.declared.summary.Summary.{Summary}
use Rattle.mc_script.specs.Line.{line_of}
use Rattle.mc_script.specs.declared.command.Command.{Command}
use Rattle.mc_app.specs.Executes.{Executes, ExecutesPart, IsAnswered}
use Rattle.mc_seats.specs.Step.{LeavesStep}
use Rattle.mc_app.specs.Generating.{IsStoppedShort, replies_of}
use Rattle.mc_app.specs.LineWords.{MayEnd}
use Rattle.mc_app.specs.Lines.{IsTooLong, lines_of, script_max}
use Rattle.mc_app.specs.Progress.{IsBadCommand, Progress}
use Rattle.mc_runs.specs.Runs.{Answer, text_of_answer}
use Rattle.mc_app.specs.Summing.{SumsLine, SumsShort, SumsUp}
use Rattle.mc_app.specs.Taking.{TakesLine}
use Rattle.mc_seats.specs.Worlds.{WorldState}
use Rattle.mc_app.specs.declared.summing.Summed.TheVariants.{Whole, Bad, Short}
use Rattle.mc_app.proofs.RunFacts.{MayTally, SoFar, may_end, nothing_ended, nothing_tallied, nothing_yet, progress_map, progress_more}
use Rattle.mc_seats.specs.Keepers.{Tally}

-- where the loop over the lines of a generated script stands
pub record IsSumming (Frame : Type 0) (First : WorldState → Type 0) (base : Tally) (script ahead : List ℕ)
    (given number : ℕ) (world : WorldState) (tally : Tally) (summary_first summary : Summary) : Type 0 where
  pub so_far : SoFar First base script ahead given number world tally None None
  pub sums : (count : ℕ) → Sums count summary_first [] → Sums count summary (replies_of so_far.progress.answers)
  pub keeps : Frame
  pub calm : base.calm ≡ true → tally.calm ≡ true
  pub in_script : given ≤ script_max
  pub few : number ≤ given

-- before the first line
pub summing_begins : (Frame : Type 0) (First : WorldState → Type 0) (base : Tally) (script held left : List ℕ) (given : ℕ)
    (world : WorldState) (summary : Summary) → Frame → First world → held ≡ [] → left ≡ script → given ≡ 0
    → given ≤ script_max → IsSumming Frame First base script (held ++ left) given 0 world base summary summary
summing_begins Frame First base script held left given world summary keeps is_first empty whole zero within = record {
  so_far = record {
    progress = nothing_yet script First world (MayTally base base) is_first (nothing_tallied base);
    before = sym (ap (λ (l : List ℕ). l ++ left) empty ∙ whole);
    state = refl;
    counted = zero;
    numbered = refl;
    written = tt;
  };
  sums = λ count begins. begins;
  keeps = keeps;
  calm = λ e. e;
  in_script = within;
  few = omega (arith, zero);
}

replies_more : (answers : List (Option Answer)) (answer : Option Answer)
    → replies_of (answers ++ answer ∷ []) ≡ replies_of answers ++ text_of_answer answer ∷ []
replies_more [] answer = refl
replies_more (first ∷ answers) answer = ap (λ (l : List (List ℕ)). text_of_answer first ∷ l) (replies_more answers answer)

module _ {Frame : Type 0} {First : WorldState → Type 0} {base : Tally} {script ahead : List ℕ} {given number : ℕ}
    {world : WorldState} {tally : Tally} {summary_first summary : Summary}
    (summing : IsSumming Frame First base script ahead given number world tally summary_first summary) where
  -- one more line
  pub summing_on : (Now : Type 0) (line rest : List ℕ) (given_after : ℕ) (new : WorldState) (tally_new : Tally)
      (summary_now : Summary) → TakesLine line given given_after ahead rest → given < given_after → given_after ≤ script_max
      → SumsLine world tally (line_of line) new tally_new summary summary_now → Now
      → IsSumming Now First base script rest given_after (number + 1) new tally_new summary_first summary_now
  summing_on Now line rest given_after new tally_new summary_now takes moves in_script sums keeps =
      let p = summing.so_far in record {
        so_far = record {
          progress = progress_more First base tally tally_new script p.progress line ahead rest given given_after world new sums.answer takes p.before p.state p.counted in_script summing.calm sums.answered;
          before = refl;
          state = refl;
          counted = omega (arith, takes.counted, p.counted, length-append p.progress.taken takes.taken);
          numbered = omega (arith, p.numbered, length-append p.progress.lines (line ∷ []));
          written = tt;
        };
        sums = λ count begins. subst (Sums count summary_now) (sym (replies_more p.progress.answers sums.answer)) (sums.sums count (replies_of p.progress.answers) (summing.sums count begins));
        keeps = keeps;
        calm = λ e. sums.answered.tallies.calm (summing.calm e);
        in_script = in_script;
        few = omega (arith, moves, summing.few);
      }

  -- the progress so far, in the words of an end
  abbrev Settled : (count : ℕ) → tally.count ≤ count → Progress script First (MayEnd base count)
  Settled count later = progress_map script First First (MayTally base tally) (MayEnd base count) (λ w begins. begins) (λ lines answers may. may_end base tally count lines answers later may) summing.so_far.progress

  pub summed_whole : ahead ≡ [] → (count : ℕ) → Sums count summary_first []
      → SumsUp script First (MayEnd base tally.count) (λ w. w ≡ world) Whole count summary
  summed_whole none count begins = (
    record { progress = Settled tally.count (omega arith); last = summing.so_far.state; all = summing.so_far.before ∙ none },
    summing.sums count begins,
  )

  -- a line that breaks a limit
  pub summed_too_long : IsTooLong (script_max - given) ahead → (count : ℕ)
      → SumsUp script First (MayEnd base tally.count) (λ w. w ≡ world) (Bad (number + 1)) count summary
  summed_too_long bad count = let p = summing.so_far in record {
    progress = Settled tally.count (omega arith);
    last = p.state;
    meets = record {
      counted = ap (λ (n : ℕ). n + 1) p.numbered;
      bad = inl (subst (λ (n : ℕ). IsTooLong (script_max - n) p.progress.ahead) p.counted (subst (IsTooLong (script_max - given)) (sym p.before) bad));
    };
  }

  -- a line that is no command
  pub summed_no_command : (line rest : List ℕ) (given_after : ℕ) (new : WorldState) (tally_new : Tally)
      (summary_now : Summary) → TakesLine line given given_after ahead rest → IsBadCommand world (line_of line)
      → (new ≡ world) × (tally_new ≡ tally) → (count : ℕ)
      → SumsUp script First (MayEnd base tally_new.count) (λ w. w ≡ new) (Bad (number + 1)) count summary_now
  summed_no_command line rest given_after new tally_new summary_now takes bad same count =
      let p = summing.so_far in
      let counts = ap (λ (t : Tally). t.count) same.1 in record {
        progress = Settled tally_new.count (omega (arith, counts));
        last = p.state ∙ sym same.0;
        meets = record {
          counted = ap (λ (n : ℕ). n + 1) p.numbered;
          bad = inr (record { line = line; more = lines_of rest; lines = ap lines_of p.before ∙ takes.lines; bad = subst (λ (w : WorldState). IsBadCommand w (line_of line)) (sym p.state) bad });
        };
      }

  -- memory was wanting before the next line
  pub summed_short : (count : ℕ) → SumsUp script First (MayEnd base tally.count) (λ w. w ≡ world) Short count summary
  summed_short count = record { progress = Settled tally.count (omega arith); last = inl summing.so_far.state }

  -- or for it, or for its reply
  pub summed_line_short : (line rest : List ℕ) (given_after : ℕ) (new : WorldState) (tally_new : Tally)
      (summary_now : Summary) → TakesLine line given given_after ahead rest → given_after ≤ script_max
      → SumsShort world tally (line_of line) new tally_new → (count : ℕ)
      → SumsUp script First (MayEnd base tally_new.count) (λ w. w ≡ new) Short count summary_now
  summed_line_short line rest given_after new tally_new summary_now takes in_script short count = over short
    where
      p : SoFar First base script ahead given number world tally None None
      p = summing.so_far

      answered : (answer : Option Answer) → IsAnswered world tally (line_of line) new tally_new answer
          → IsStoppedShort script First (MayEnd base tally_new.count) (λ w. w ≡ new)
      answered answer is = record {
        progress = progress_map script First First (MayTally base tally_new) (MayEnd base tally_new.count) (λ w begins. begins) (λ lines answers may. may_end base tally_new tally_new.count lines answers (omega arith) may)
            (progress_more First base tally tally_new script p.progress line ahead rest given given_after world new answer takes p.before p.state p.counted in_script summing.calm is);
        last = inl refl;
      }

      by_left : (command : Command) → line_of line ≡ Some (Some command) → tally.count ≤ tally_new.count → LeavesStep world command new ⊎ ((answer : Answer) × IsAnswered world tally (Some (Some command)) new tally_new (Some answer))
          → IsStoppedShort script First (MayEnd base tally_new.count) (λ w. w ≡ new)
      by_left command asks later (inl leaves) = record {
        progress = Settled tally_new.count later;
        last = inr (
          new,
          record {
            line = line;
            rest = rest;
            given_after = given_after;
            takes = subst (λ (n : ℕ). TakesLine line n given_after p.progress.ahead rest) p.counted (subst (λ (l : List ℕ). TakesLine line given given_after l rest) (sym p.before) takes);
            in_script = in_script;
            command = command;
            asks = asks;
            leaves = subst (λ (w : WorldState). LeavesStep w command new) (sym p.state) leaves;
          },
          refl,
        );
      }
      by_left command asks later (inr (answer, is)) = answered (Some answer) (subst (λ (r : Option (Option Command)). IsAnswered world tally r new tally_new (Some answer)) (sym asks) is)

      over : SumsShort world tally (line_of line) new tally_new → IsStoppedShort script First (MayEnd base tally_new.count) (λ w. w ≡ new)
      over (inl (inl same)) = let counts = ap (λ (t : Tally). t.count) same.1 in record { progress = Settled tally_new.count (omega (arith, counts)); last = inl (p.state ∙ sym same.0) }
      over (inl (inr (command, asks, cut))) = by_left command asks cut.paid.later cut.left
      over (inr (answer, is)) = answered answer is

-- memory was wanting before the first line
pub summed_nothing : (script : List ℕ) (First : WorldState → Type 0) (base : Tally) (world : WorldState) (count : ℕ) (summary : Summary) → First world → SumsUp script First (MayEnd base base.count) (λ w. w ≡ world) Short count summary
summed_nothing script First base world count summary begins = record { progress = nothing_yet script First world (MayEnd base base.count) begins (nothing_ended base base.count (omega arith)); last = inl refl }

-- a line that was done, and whose reply was not summed up
pub part_answered : {old new : WorldState} {before after : Tally} {read : Option (Option Command)} {out out_now : Option (List ℕ)} → ExecutesPart old before read new after out out_now → SumsShort old before read new after
part_answered part = inr (Some part.answer, part.answered)

pub whole_answered : {old new : WorldState} {before after : Tally} {read : Option (Option Command)} {out out_now : Option (List ℕ)} → Executes old before read new after out out_now → SumsShort old before read new after
whole_answered whole = inr (whole.answer, whole.answered)
