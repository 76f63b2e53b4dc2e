-- Answers of runs in which no keeper and no desk failed by itself.
use Rattle.std.proofs.Common.{◌≡◌, ◌<◌, ◌+◌, ◌-◌, ◌^◌, ℕ, zero, suc, Bool, true, false, true≢false, cond, List, [], ◌∷◌, Option, Some, refl, sym, ◌∙◌, ap, subst, arith}
use Rattle.std.specs.Prelude.{is_some, slice_get}
use Rattle.std.proofs.lemmas.List.Sums.{sum_by-cons}
use Rattle.mc_script.specs.Line.{line_of}
use Rattle.mc_script.specs.declared.command.Command.{Command}
use Rattle.mc_script.specs.declared.reply.Reply.{Reply}
use Rattle.mc_script.specs.declared.reply.Reply.TheVariants.{FaultKeeper, FaultPeer}
use Rattle.mc_seats.specs.declared.entry.LineEntry.{LineEntry}
use Rattle.mc_seats.specs.Record.{NamesNone}
use Rattle.mc_seats.specs.Step.{Step}
use Rattle.mc_seats.specs.Worlds.{WorldState}
use Rattle.mc_seats.proofs.OpeningFacts.{both_true, first_true, second_true}
use Rattle.mc_runs.specs.Promises.{AroundLine, FuseFired, IsLineAt}
use Rattle.mc_runs.specs.Runs.{Answer, IsWithin, LineStep, Runs, names_none, own_free, own_of, owns_in, owns_none}
use Rattle.mc_runs.proofs.FuseFacts.{fault_is_fuse, no_peer_fault}

-- where the count has not risen

is_none : (owned : Bool) → ◌≡◌ {A = ℕ} (cond owned 0 1) 0 → owned ≡ true
is_none true e = refl
is_none false e = absurd (omega (arith, e))

all_none : (answers : List (Option Answer)) → owns_in answers ≡ 0 → own_free answers ≡ true
all_none [] e = refl
all_none (answer ∷ answers) e =
    let sum : owns_in (answer ∷ answers) ≡ own_of answer + owns_in answers = sum_by-cons own_of answer answers in
    let first : own_of answer ≡ 0 = omega (arith, e, sum) in
    both_true (is_none (owns_none answer) first) (all_none answers (omega (arith, e, sum)))

pub none_owned : (count : ℕ) (answers : List (Option Answer)) → count < 2 ^ 64 - 1 → IsWithin count count (owns_in answers) → own_free answers ≡ true
none_owned count answers below within = all_none answers (omega (arith, below, within))

-- an entry that names none

names_nothing : (numbers : List ℕ) → names_none numbers ≡ true → numbers ≡ []
names_nothing [] e = refl
names_nothing (number ∷ numbers) e = absurd (true≢false (sym e))

pub entry_none : (answer : Answer) → owns_none (Some answer) ≡ true → NamesNone answer.entry
entry_none answer e = (names_nothing answer.entry.own (first_true _ _ e), names_nothing answer.entry.desks (second_true (names_none answer.entry.own) _ e))

same_of : {A : Type 0} {x y : A} → Some x ≡ Some y → x ≡ y
same_of e = cc

-- what such a line does holds around it
module _ (P : WorldState → WorldState → Type 0) (command : Command) (reply : Reply) (done : (w : WorldState) (entry : LineEntry) (w2 : WorldState) → NamesNone entry → Step w command entry reply w2 → P w w2) where
  line_does : (line : List ℕ) (answer : Option Answer) (asked : List ℕ) (given : Answer) (first mid : WorldState) → LineStep first (line_of line) mid answer → owns_none answer ≡ true → line ≡ asked → line_of asked ≡ Some (Some command) → answer ≡ Some given → given.reply ≡ reply → P first mid
  line_does line answer asked given first mid step owned is asks answered says =
      let own : Step first command given.entry given.reply mid = subst (λ (a : Option Answer). LineStep first (Some (Some command)) mid a) answered (subst (λ (read : Option (Option Command)). LineStep first read mid answer) (ap line_of is ∙ asks) step) in
      done first given.entry mid (entry_none given (ap owns_none (sym answered) ∙ owned)) (subst (λ (x : Reply). Step first command given.entry x mid) says own)

  around_line : (lines : List (List ℕ)) (answers : List (Option Answer)) (first last : WorldState) (k : ℕ) → Runs first lines answers last → own_free answers ≡ true → IsLineAt lines answers k command reply → AroundLine first lines answers k last P
  around_line [] [] first last k runs owned is = absurd (nothing_at k is.stands)
    where
      nothing_at : (k : ℕ) → slice_get [] k ≡ Some is.line → ⊥
      nothing_at k e = true≢false (sym (ap is_some e))
  around_line [] (answer ∷ answers) first last k runs owned is = absurd runs
  around_line (line ∷ lines) [] first last k runs owned is = absurd runs
  around_line (line ∷ lines) (answer ∷ answers) first last zero (mid, step, rest) owned is = record {
    before = first;
    after = mid;
    leads = refl;
    behind = rest;
    holds = line_does line answer is.line is.answer first mid step (first_true (owns_none answer) (own_free answers) owned) (same_of is.stands) is.asks (same_of is.answered) is.says;
  }
  around_line (line ∷ lines) (answer ∷ answers) first last (suc k) (mid, step, rest) owned is =
      let more = around_line lines answers mid last k rest (second_true (owns_none answer) (own_free answers) owned) (record { line = is.line; answer = is.answer; stands = is.stands; asks = is.asks; answered = is.answered; says = is.says }) in
      record { before = more.before; after = more.after; leads = (mid, step, more.leads); behind = more.behind; holds = more.holds }

pub calm_fuses : (lines : List (List ℕ)) (answers : List (Option Answer)) (first last : WorldState) (k : ℕ) (command : Command) → Runs first lines answers last → own_free answers ≡ true → IsLineAt lines answers k command FaultKeeper → AroundLine first lines answers k last (FuseFired command)
calm_fuses lines answers first last k command runs owned is =
    around_line (FuseFired command) command FaultKeeper (λ w entry w2 none step. fault_is_fuse w command entry FaultKeeper w2 step none.0 refl) lines answers first last k runs owned is

pub calm_peers : (lines : List (List ℕ)) (answers : List (Option Answer)) (first last : WorldState) (k : ℕ) (command : Command) → Runs first lines answers last → own_free answers ≡ true → IsLineAt lines answers k command FaultPeer → ⊥
calm_peers lines answers first last k command runs owned is =
    (around_line (λ w w2. ⊥) command FaultPeer (λ w entry w2 none step. no_peer_fault w command entry FaultPeer w2 step none.1 refl) lines answers first last k runs owned is).holds
