-- A valid script meets no bad line.
use Rattle.std.proofs.Common.{true≢false, ◌≡◌, ◌≤◌, ◌-◌, ◌∙◌, ℕ, Bool, true, false, List, [], ◌∷◌, ◌++◌, ◌==◌, length, Option, None, Some, refl, sym, ap, subst, arith, inl, inr, length-append}
use Rattle.std.specs.Prelude.{⊤, ◌⊎◌, ◌&&◌, nat_lt, not}
use Rattle.std.specs.List.{AllByRecursion, onto_first}
use Rattle.std.specs.Io.BufRead.{take_through}
use Rattle.mc_base.specs.Told.{Told}
use Rattle.mc_keepers.specs.declared.keepers.KeeperPlan.{KeeperPlan}
use Rattle.mc_model.specs.Kept.{Kept}
use Rattle.mc_app.specs.declared.command_line.Request.{Request}
use Rattle.mc_app.specs.declared.command_line.Request.TheVariants.{Gen as GenFrom, Run as RunOver}
use Rattle.mc_app.specs.declared.status.Status.{Status}
use Rattle.mc_app.specs.declared.status.Status.TheVariants.{Done, Usage, BadLine, ReadFault, WriteFault, KeeperFault, Memory}
use Rattle.mc_app.specs.Generating.{Generates}
use Rattle.mc_app.specs.Lines.{IsTooLong, first_line, line_max, lines_of, script_max}
use Rattle.mc_app.specs.Outcome.{CountsEnds, CountsKeepers, Outcome, starts_from}
use Rattle.mc_app.specs.Progress.{IsBadCommand, IsBadLine, MeetsBadLine, Progress}
use Rattle.mc_app.specs.Valid.{EndsWell, IsPlain, IsPlainScript, IsStill, IsValid, NoneIsBad}
use Rattle.mc_gen.specs.Script.{script_text}
use Rattle.mc_runs.specs.Runs.{Answer, LineStep, Runs}
use Rattle.mc_runs.specs.Promises.{OnlyGrows}
use Rattle.mc_script.specs.Line.{line_of}
use Rattle.mc_script.specs.declared.command.Command.{Command}
use Rattle.mc_script.specs.declared.reply.Reply.{Reply}
use Rattle.mc_seats.specs.declared.bag.Bag.{Bag}
use Rattle.mc_seats.specs.Asks.{among_by, has_car, has_message, is_among}
use Rattle.mc_seats.specs.Doing.{At, Doing, Hears, Imports, doing}
use Rattle.mc_seats.specs.Starts.{AreStarts, IsFirst}
use Rattle.mc_seats.specs.Step.{Step}
use Rattle.mc_seats.specs.Worlds.{Place, WorldState, no_bag}
use Rattle.mc_seats.specs.declared.entry.LineEntry.{LineEntry}
use Rattle.mc_seats.proofs.OpeningFacts.{second_true}

-- the lines ahead

none_ahead : (first w : WorldState) (lines rest : List (List ℕ)) (answers : List (Option Answer)) → NoneIsBad first (lines ++ rest) → Runs first lines answers w → NoneIsBad w rest
none_ahead first w [] rest [] none runs = subst (λ (d : WorldState). NoneIsBad d rest) (sym runs) none
none_ahead first w [] rest (answer ∷ answers) none runs = absurd runs
none_ahead first w (line ∷ lines) rest [] none runs = absurd runs
none_ahead first w (line ∷ lines) rest (answer ∷ answers) none (mid, step, more) = none_ahead mid w lines rest answers (none.1 answer mid step) more

all_ahead : (P : List ℕ → Type 0) (lines rest : List (List ℕ)) → AllByRecursion P (lines ++ rest) → AllByRecursion P rest
all_ahead P [] rest all = all
all_ahead P (line ∷ lines) rest all = all_ahead P lines rest all.1

-- the first line is the first of the lines

first_of : (byte : ℕ) (line : List ℕ) (lines : List (List ℕ)) → ((lines ≡ []) × (line ≡ [])) ⊎ ((more : List (List ℕ)) × (lines ≡ line ∷ more)) → (more : List (List ℕ)) × (onto_first byte lines ≡ (byte ∷ line) ∷ more)
first_of byte line lines (inl (none, empty)) = ([], ap (onto_first byte) none ∙ ap (λ (l : List ℕ). (byte ∷ l) ∷ []) (sym empty))
first_of byte line lines (inr (more, is)) = (more, ap (onto_first byte) is)

line_first : (bytes : List ℕ) → ((lines_of bytes ≡ []) × (first_line bytes ≡ [])) ⊎ ((more : List (List ℕ)) × (lines_of bytes ≡ first_line bytes ∷ more))
line_first [] = inl (refl, refl)
line_first (byte ∷ bytes) = inr (by_test (byte == 10) refl (line_first bytes))
  where
    by_test : (feed : Bool) → (byte == 10) ≡ feed → ((lines_of bytes ≡ []) × (first_line bytes ≡ [])) ⊎ ((more : List (List ℕ)) × (lines_of bytes ≡ first_line bytes ∷ more)) → (more : List (List ℕ)) × (lines_of (byte ∷ bytes) ≡ first_line (byte ∷ bytes) ∷ more)
    by_test true is rest = (lines_of bytes, rw is refl)
    by_test false is rest = let found = first_of byte (first_line bytes) (lines_of bytes) rest in (found.0, rw is found.1)

first_within : (bytes : List ℕ) → AllByRecursion (λ line. length line ≤ line_max) (lines_of bytes) → length (first_line bytes) ≤ line_max
first_within bytes all = over (line_first bytes)
  where
    over : ((lines_of bytes ≡ []) × (first_line bytes ≡ [])) ⊎ ((more : List (List ℕ)) × (lines_of bytes ≡ first_line bytes ∷ more)) → length (first_line bytes) ≤ line_max
    over (inl (none, empty)) = let short = ap length empty in omega (arith, short)
    over (inr (more, is)) = (subst (AllByRecursion (λ line. length line ≤ line_max)) is all).0

through_within : (bytes : List ℕ) → length (take_through 10 bytes) ≤ length bytes
through_within [] = omega arith
through_within (byte ∷ bytes) = by_test (byte == 10) refl (through_within bytes)
  where
    by_test : (feed : Bool) → (byte == 10) ≡ feed → length (take_through 10 bytes) ≤ length bytes → length (take_through 10 (byte ∷ bytes)) ≤ length (byte ∷ bytes)
    by_test true is more = rw is (omega arith)
    by_test false is more = rw is (omega (arith, more))

-- no progress through a valid script meets a bad line
module _ (First : WorldState → Type 0) (script : List ℕ) (May : List (List ℕ) → List (Option Answer) → Type 0) (valid : IsValid First script) (progress : Progress script First May) where
  still_valid : NoneIsBad progress.world (lines_of progress.ahead)
  still_valid = none_ahead progress.first progress.world progress.lines (lines_of progress.ahead) progress.answers (subst (NoneIsBad progress.first) progress.split (valid.none_bad progress.first progress.begins)) progress.runs

  not_long : IsTooLong (script_max - length progress.taken) progress.ahead → ⊥
  not_long (inl past) =
      let all = ap length progress.bytes ∙ length-append progress.taken progress.ahead in
      let room = valid.in_script in
      let through = through_within progress.ahead in omega (arith, past, all, room, through)
  not_long (inr long) =
      let short = first_within progress.ahead (all_ahead (λ line. length line ≤ line_max) progress.lines (lines_of progress.ahead) (subst (AllByRecursion (λ line. length line ≤ line_max)) progress.split valid.within)) in
      omega (arith, long, short)

  no_bad_line : IsBadLine progress.world (script_max - length progress.taken) progress.ahead → ⊥
  no_bad_line (inl long) = not_long long
  no_bad_line (inr none) = (subst (NoneIsBad progress.world) none.lines still_valid).0 none.bad

  pub meets_none : (number : ℕ) → MeetsBadLine script First May progress number → ⊥
  meets_none number meets = no_bad_line meets.bad

-- a run of a valid script over quiet keepers, where nothing else failed
pub runs_well : (status : Status) (script : List ℕ) (left : Option (List ℕ)) (First : WorldState → Type 0) (May : List (List ℕ) → List (Option Answer) → Type 0) (Ends : WorldState → Type 0) (old new : Option (List ℕ)) (quiet : Bool) (read read_now write write_now made made_now lost lost_now : ℕ)
    → (status ≡ Usage → ⊥) → IsValid First script → quiet ≡ true → IsStill read read_now → IsStill write write_now → IsStill made made_now → CountsEnds status read read_now write write_now → CountsKeepers status quiet made made_now lost lost_now
    → Told (Some script) left (λ bytes left. Outcome status bytes left First May Ends old new) → EndsWell status
runs_well Done script left First May Ends old new quiet read read_now write write_now made made_now lost lost_now no_usage valid is reads writes makes ends keepers told = inl refl
runs_well Memory script left First May Ends old new quiet read read_now write write_now made made_now lost lost_now no_usage valid is reads writes makes ends keepers told = inr refl
runs_well Usage script left First May Ends old new quiet read read_now write write_now made made_now lost lost_now no_usage valid is reads writes makes ends keepers told = absurd (no_usage refl)
runs_well ReadFault script left First May Ends old new quiet read read_now write write_now made made_now lost lost_now no_usage valid is reads writes makes ends keepers told = absurd (reads (ends.reads.rose refl))
runs_well WriteFault script left First May Ends old new quiet read read_now write write_now made made_now lost lost_now no_usage valid is reads writes makes ends keepers told = absurd (writes (ends.writes.rose refl))
runs_well KeeperFault script left First May Ends old new quiet read read_now write write_now made made_now lost lost_now no_usage valid is reads writes makes ends keepers told = absurd (makes (keepers.make_failed is refl))
runs_well (BadLine number) script None First May Ends old new quiet read read_now write write_now made made_now lost lost_now no_usage valid is reads writes makes ends keepers told = absurd told
runs_well (BadLine number) script (Some left) First May Ends old new quiet read read_now write write_now made made_now lost lost_now no_usage valid is reads writes makes ends keepers told = absurd (meets_none First script May valid told.progress number told.meets)

-- what is valid and quiet by the words is so by the request that they make
pub run_asked : (start : KeeperPlan → ℕ → Option Kept) (quiet : KeeperPlan → Bool) (script : List ℕ) (asked : Option Request) (plan plan2 : KeeperPlan) (replicas replicas2 : ℕ) → asked ≡ Some (RunOver plan replicas) → asked ≡ Some (RunOver plan2 replicas2)
    → IsValid (IsFirst (starts_from (start plan2) 0 replicas2)) script → quiet plan2 ≡ true → IsValid (IsFirst (starts_from (start plan) 0 replicas)) script × (quiet plan ≡ true)
run_asked start quiet script asked plan plan2 replicas replicas2 is wanted valid calm = subst As (sym wanted ∙ is) (valid, calm)
  where
    As : Option Request → Type 0
    As None = ⊤
    As (Some (GenFrom start count)) = ⊤
    As (Some (RunOver plan replicas)) = IsValid (IsFirst (starts_from (start plan) 0 replicas)) script × (quiet plan ≡ true)

pub run_ends_well : (start : KeeperPlan → ℕ → Option Kept) (quiet : KeeperPlan → Bool) (status : Status) (script : List ℕ) (first left : Option (List ℕ)) (asked : Option Request) (plan plan2 : KeeperPlan) (replicas replicas2 : ℕ) (May : List (List ℕ) → List (Option Answer) → Type 0) (Ends : WorldState → Type 0) (old new : Option (List ℕ))
    (read read_now write write_now made made_now lost lost_now : ℕ) → (status ≡ Usage → ⊥) → asked ≡ Some (RunOver plan replicas) → asked ≡ Some (RunOver plan2 replicas2) → first ≡ Some script → IsValid (IsFirst (starts_from (start plan2) 0 replicas2)) script → quiet plan2 ≡ true
    → IsStill read read_now → IsStill write write_now → IsStill made made_now → CountsEnds status read read_now write write_now → CountsKeepers status (quiet plan) made made_now lost lost_now
    → Told first left (λ bytes left. Outcome status bytes left (IsFirst (starts_from (start plan) 0 replicas)) May Ends old new) → EndsWell status
run_ends_well start quiet status script first left asked plan plan2 replicas replicas2 May Ends old new read read_now write write_now made made_now lost lost_now no_usage is wanted held valid calm reads writes makes ends keepers told =
    let same = run_asked start quiet script asked plan plan2 replicas replicas2 is wanted valid calm in
    runs_well status script left (IsFirst (starts_from (start plan) 0 replicas)) May Ends old new (quiet plan) read read_now write write_now made made_now lost lost_now no_usage same.0 same.1 reads writes makes ends keepers
    (subst (λ (o : Option (List ℕ)). Told o left (λ bytes left. Outcome status bytes left (IsFirst (starts_from (start plan) 0 replicas)) May Ends old new)) held told)

-- the same of a generated script
gen_well : (status : Status) (script : List ℕ) (First : WorldState → Type 0) (May : List (List ℕ) → List (Option Answer) → Type 0) (Ends : WorldState → Type 0) (count : ℕ) (old new : Option (List ℕ)) (quiet : Bool) (read read_now write write_now made made_now lost lost_now : ℕ)
    → IsValid First script → quiet ≡ true → IsStill write write_now → IsStill made made_now → CountsEnds status read read_now write write_now → CountsKeepers status quiet made made_now lost lost_now → Generates script First May Ends status count old new → EndsWell status
gen_well Done script First May Ends count old new quiet read read_now write write_now made made_now lost lost_now valid is writes makes ends keepers gen = inl refl
gen_well Memory script First May Ends count old new quiet read read_now write write_now made made_now lost lost_now valid is writes makes ends keepers gen = inr refl
gen_well Usage script First May Ends count old new quiet read read_now write write_now made made_now lost lost_now valid is writes makes ends keepers gen = absurd gen
gen_well ReadFault script First May Ends count old new quiet read read_now write write_now made made_now lost lost_now valid is writes makes ends keepers gen = absurd gen
gen_well WriteFault script First May Ends count old new quiet read read_now write write_now made made_now lost lost_now valid is writes makes ends keepers gen = absurd (writes (ends.writes.rose refl))
gen_well KeeperFault script First May Ends count old new quiet read read_now write write_now made made_now lost lost_now valid is writes makes ends keepers gen = absurd (makes (keepers.make_failed is refl))
gen_well (BadLine number) script First May Ends count old new quiet read read_now write write_now made made_now lost lost_now valid is writes makes ends keepers gen = absurd (meets_none First script May valid gen.0.progress number gen.0.meets)

pub gen_ends_well : (status : Status) (asked : Option Request) (start count start_asked count_asked : ℕ) (First : WorldState → Type 0) (May : List (List ℕ) → List (Option Answer) → Type 0) (Ends : WorldState → Type 0) (old new : Option (List ℕ)) (quiet : Bool) (read read_now write write_now made made_now lost lost_now : ℕ)
    → asked ≡ Some (GenFrom start count) → asked ≡ Some (GenFrom start_asked count_asked) → IsValid First (script_text start_asked count_asked) → quiet ≡ true → IsStill write write_now → IsStill made made_now → CountsEnds status read read_now write write_now → CountsKeepers status quiet made made_now lost lost_now
    → Generates (script_text start count) First May Ends status count old new → EndsWell status
gen_ends_well status asked start count start_asked count_asked First May Ends old new quiet read read_now write write_now made made_now lost lost_now is wanted valid calm writes makes ends keepers gen =
    gen_well status (script_text start count) First May Ends count old new quiet read read_now write write_now made made_now lost lost_now (subst As (sym wanted ∙ is) valid) calm writes makes ends keepers gen
  where
    As : Option Request → Type 0
    As None = ⊤
    As (Some (RunOver plan replicas)) = ⊤
    As (Some (GenFrom start count)) = IsValid First (script_text start count)

-- scripts that hear no message

abbrev pub StepGrows : Type 0
StepGrows = (w : WorldState) (command : Command) (entry : LineEntry) (reply : Reply) (w2 : WorldState) → Step w command entry reply w2 → OnlyGrows w w2

and_not : (b : Bool) → (b && not b) ≡ true → ⊥
and_not true e = true≢false (sym e)
and_not false e = true≢false (sym e)

among_any : (replicas : ℕ) (bag : Bag) (d : Doing) → among_by replicas no_bag d ≡ true → among_by replicas bag d ≡ true
among_any replicas bag (At r (Hears message)) e = absurd (and_not (nat_lt 0 message) (second_true (nat_lt r replicas) (has_message no_bag message) e))
among_any replicas bag (At r (Imports car)) e = absurd (and_not (nat_lt 0 car) (second_true (nat_lt r replicas) (has_car no_bag car) e))
among_any replicas bag d e = e

plain_not_bad : (w : WorldState) (replicas : ℕ) (read : Option (Option Command)) → length w.places ≡ replicas → IsPlain replicas read → IsBadCommand w read → ⊥
plain_not_bad w replicas None many plain bad = plain
plain_not_bad w replicas (Some None) many plain bad = bad
plain_not_bad w replicas (Some (Some command)) many plain bad =
    true≢false (sym (among_any (length w.places) w.around.bag (doing command) (subst (λ (n : ℕ). is_among n no_bag command ≡ true) (sym many) plain)) ∙ bad)

module _ (grows : StepGrows) where
  many_still : (old new : WorldState) (read : Option (Option Command)) (answer : Option Answer) → LineStep old read new answer → length new.places ≡ length old.places
  many_still old new None answer step = absurd step
  many_still old new (Some None) answer step = ap (λ (w : WorldState). length w.places) step.0
  many_still old new (Some (Some command)) None step = absurd step
  many_still old new (Some (Some command)) (Some answer) step = (grows old command answer.entry answer.reply new step).many_same

  plain_none_bad : (replicas : ℕ) (w : WorldState) (lines : List (List ℕ)) → length w.places ≡ replicas → AllByRecursion (λ line. IsPlain replicas (line_of line)) lines → NoneIsBad w lines
  plain_none_bad replicas w [] many plain = tt
  plain_none_bad replicas w (line ∷ lines) many plain = (
    plain_not_bad w replicas (line_of line) many plain.0,
    λ answer next step. plain_none_bad replicas next lines (many_still w next (line_of line) answer step ∙ many) plain.1,
  )

  pub plain_is_valid : (starts : List (Option Kept)) (script : List ℕ) → IsPlainScript (length starts) script → IsValid (IsFirst starts) script
  plain_is_valid starts script plain = record {
    in_script = plain.in_script;
    within = plain.within;
    none_bad = λ first begins. plain_none_bad (length starts) first (lines_of script) (as_many starts first.places begins.0) plain.plain;
  }
    where
      as_many : (starts : List (Option Kept)) (places : List Place) → AreStarts starts places → length places ≡ length starts
      as_many [] [] all = refl
      as_many (told ∷ starts) (place ∷ places) all = let rest = as_many starts places all.1 in omega (arith, rest)
      as_many [] (place ∷ places) all = absurd all
      as_many (told ∷ starts) [] all = absurd all
