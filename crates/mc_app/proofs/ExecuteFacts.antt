-- A line whose command was done.
use Rattle.std.proofs.Common.{◌≡◌, ℕ, zero, suc, Bool, true, true≢false, cond, List, [], ◌∷◌, Option, Some, Result, Ok, Err, refl, subst, sym, ap, inl, inr, arith}
use Rattle.std.specs.Prelude.{OnOk, IfOk, IsErrOf, ◌⊎◌, nat_eq}
use Rattle.std.specs.List.{list_all, sum_by}
use Rattle.std.specs.Io.KnownBytes.{Appends}
use Rattle.std.proofs.lemmas.Bool.Decides.{nat_tests}
use Rattle.std.proofs.lemmas.List.Sums.{sum_by-cons}
use Rattle.mc_base.specs.Told.{AppendsPart}
use Rattle.mc_base.specs.declared.counted.Counted as counted
use Rattle.mc_keep.specs.Calls.{Members}
use Rattle.mc_keep.specs.declared.keeper.Keeper as keeper
use Rattle.mc_script.specs.ReplyText.{reply_text}
use Rattle.mc_script.specs.declared.command.Command.{Command}
use Rattle.mc_script.specs.declared.reply.Reply.{Reply}
use Rattle.mc_seats.specs.declared.error.ActError.{ActError}
use Rattle.mc_seats.specs.declared.error.ActError.TheVariants.{BadLine, Memory}
use Rattle.mc_seats.specs.declared.entry.LineEntry.{LineEntry}
use Rattle.mc_seats.specs.declared.seat.Seat.{Seat}
use Rattle.mc_seats.specs.declared.world.World.{World}
use Rattle.mc_seats.specs.Asks.{arms, is_named, is_there}
use Rattle.mc_app.specs.Executes.{CutsShort, Executes, ExecutesPart, IsAnswered}
use Rattle.mc_seats.specs.Keepers.{WorldGoes, desk_count, is_calm, is_calm_desk, is_calm_keeper, keeper_of}
use Rattle.mc_app.specs.LineWords.{AnswersIn}
use Rattle.mc_seats.specs.Record.{IsLonger, NamesNone, RoseIn}
use Rattle.mc_runs.specs.Runs.{Answer, names_none, owns_none}
use Rattle.mc_seats.specs.Step.{IsFaulted, IsPeerFault, LeavesStep, Row, Step, answers_fault, is_fault}
use Rattle.mc_seats.specs.Words.{DeskRose, KeeperRose, OwnRose, Records, Shortens, state, tally}
use Rattle.mc_seats.specs.Worlds.{WorldState}
use Rattle.mc_seats.proofs.OpeningFacts.{both_true, first_true, second_true}
use Rattle.mc_seats.proofs.WorkedFacts.{cut_map}
use Rattle.mc_app.proofs.OwnFacts.{named_first, named_one, own_paid, rises_or}

-- The entry of a command that was done and not recorded: it names none but what failed, and where all was calm none that
-- failed by itself.
pub record IsEntry (w : WorldState) (command : Command) (calm : Bool) (own desk : ℕ → Type 0) (reply : Reply) (w2 : WorldState) : Type 0 where
  pub entry : LineEntry
  pub step : Step w command entry reply w2
  pub owns : (r : ℕ) → is_named entry.own r ≡ true → own r
  pub desked : (r : ℕ) → is_named entry.desks r ≡ true → desk r
  pub owned : calm ≡ true → NamesNone entry

none_named : (P : ℕ → Type 0) (r : ℕ) → is_named [] r ≡ true → P r
none_named P r e = absurd (true≢false (sym e))

one_named : (P : ℕ → Type 0) (at r : ℕ) → P at → is_named (at ∷ []) r ≡ true → P r
one_named P at r holds e = subst P (named_one at r e) holds

module _ (w : WorldState) (command : Command) (calm : Bool) (named own desk : ℕ → Type 0) (reply : Reply) (w2 : WorldState) (there : is_there w command ≡ true) where
  plain_entry : Row w command (λ r. is_named [] r ≡ true) (λ r. is_named [] r ≡ true) (λ r. is_named [] r ≡ true) reply w2 → IsEntry w command calm own desk reply w2
  plain_entry row = record { entry = record { keepers = []; desks = []; own = [] }; step = record { there = there; row = row }; owns = none_named own; desked = none_named desk; owned = λ e. (refl, refl) }

  fault_entry : (fault : IsFaulted w command named own reply w2) → (calm ≡ true → own fault.at → ⊥) → own fault.at ⊎ (own fault.at → ⊥) → IsEntry w command calm own desk reply w2
  fault_entry fault no_own decided = over decided
    where
      step_of : (list : List ℕ) → (own fault.at → is_named list fault.at ≡ true) → Step w command (record { keepers = fault.at ∷ []; desks = []; own = list }) reply w2
      step_of list f = record {
        there = there;
        row = inl (inr (record {
          at = fault.at;
          among = fault.among;
          asked = fault.asked;
          cause = named_first fault.at [];
          says = fault.says;
          moved = record { old = fault.moved.old; new = fault.moved.new; stands = fault.moved.stands; after = fault.moved.after; holds = cut_map w command (own fault.at) (is_named list fault.at ≡ true) fault.moved.old fault.moved.new f fault.moved.holds };
          around = fault.around;
        }));
      }

      over : own fault.at ⊎ (own fault.at → ⊥) → IsEntry w command calm own desk reply w2
      over (inl failed) = record {
        entry = record { keepers = fault.at ∷ []; desks = []; own = fault.at ∷ [] };
        step = step_of (fault.at ∷ []) (λ _. named_first fault.at []);
        owns = λ r. one_named own fault.at r failed;
        desked = none_named desk;
        owned = λ e. absurd (no_own e failed);
      }
      over (inr well) = record {
        entry = record { keepers = fault.at ∷ []; desks = []; own = [] };
        step = step_of [] (λ failed. absurd (well failed));
        owns = none_named own;
        desked = none_named desk;
        owned = λ e. (refl, refl);
      }

  peer_entry : (peer : IsPeerFault w command desk reply w2) → (calm ≡ true → desk peer.at → ⊥) → IsEntry w command calm own desk reply w2
  peer_entry peer no_desk = record {
    entry = record { keepers = []; desks = peer.at ∷ []; own = [] };
    step = record {
      there = there;
      row = inr (record { at = peer.at; among = peer.among; lacks = peer.lacks; allowed = peer.allowed; cause = named_first peer.at []; says = peer.says; moved = peer.moved; around = peer.around });
    };
    owns = none_named own;
    desked = λ r. one_named desk peer.at r peer.cause;
    owned = λ e. absurd (no_desk e peer.cause);
  }

  pub entry_of : (calm ≡ true → (r : ℕ) → own r → ⊥) → (calm ≡ true → (r : ℕ) → desk r → ⊥) → ((r : ℕ) → own r ⊎ (own r → ⊥)) → Row w command named own desk reply w2 → IsEntry w command calm own desk reply w2
  entry_of no_own no_desk decide (inl (inl (inl refused))) = plain_entry (inl (inl (inl refused)))
  entry_of no_own no_desk decide (inl (inl (inr done))) = plain_entry (inl (inl (inr done)))
  entry_of no_own no_desk decide (inl (inr fault)) = fault_entry fault (λ e. no_own e fault.at) (decide fault.at)
  entry_of no_own no_desk decide (inr peer) = peer_entry peer (λ e. no_desk e peer.at)

-- what is calm before and after did not fail
no_rise : {A : Type 0} (count : A → ℕ) (calm : A → Bool) → ((x : A) → calm x ≡ true → count x ≡ 0) → (xs ys : List A) (r : ℕ) → list_all calm xs ≡ true → list_all calm ys ≡ true → RoseIn count xs ys r → ⊥
no_rise count calm none [] ys r all all_now rose = rose
no_rise count calm none (x ∷ xs) [] zero all all_now rose = rose
no_rise count calm none (x ∷ xs) [] (suc r) all all_now rose = no_rise count calm none xs [] r (second_true (calm x) (list_all calm xs) all) refl rose
no_rise count calm none (x ∷ xs) (y ∷ ys) zero all all_now rose =
    let before = none x (first_true (calm x) (list_all calm xs) all) in let now = none y (first_true (calm y) (list_all calm ys) all_now) in omega (arith, before, now, rose)
no_rise count calm none (x ∷ xs) (y ∷ ys) (suc r) all all_now rose = no_rise count calm none xs ys r (second_true (calm x) (list_all calm xs) all) (second_true (calm y) (list_all calm ys) all_now) rose

is_zero : (n : ℕ) → nat_eq n 0 ≡ true → n ≡ 0
is_zero n e = grind (arith, nat_tests, e)

owns_of_none : (answer : Answer) → NamesNone answer.entry → owns_none (Some answer) ≡ true
owns_of_none answer none = both_true (ap names_none none.0) (ap names_none none.1)

module _ {K D : Type 0} {g : keeper.Ghosts K D} {h : counted.Ghosts K} {i : counted.Ghosts D} (k : Members K D) (desk_faults : D → ℕ) (command : Command) (old new : World K D g h i) where
  pub answered : (result : Result Reply ActError) → IfOk result (Records k desk_faults command old new) → WorldGoes k desk_faults (cond (answers_fault result) 1 0) (arms command) old new → IfOk result (AnswersIn k desk_faults command old new)
  answered (Err error) line goes = tt
  answered (Ok reply) line goes = record {
    answer = record { reply = reply; entry = line.entry };
    says = refl;
    answered = record {
      step = line.holds.1;
      tallies = record {
        paid = goes.paid;
        own_paid = own_paid k desk_faults goes line.entry.own line.entry.desks (λ r. (line.holds.0.owns r).0) (λ r. (line.holds.0.desks r).0);
        calm = goes.calm;
        owned = λ calm. owns_of_none (record { reply = reply; entry = line.entry }) (line.holds.0.calm calm);
      };
    };
  }

  no_own : is_calm k desk_faults old ≡ true → is_calm k desk_faults new ≡ true → (r : ℕ) → OwnRose k desk_faults old new r → ⊥
  no_own calm calm_now r rose = no_rise (λ (seat : Seat K D g h i). k.own (keeper_of seat)) (λ (seat : Seat K D g h i). is_calm_keeper k (keeper_of seat))
      (λ seat e. is_zero (k.own (keeper_of seat)) (second_true (k.quiet (keeper_of seat)) _ e)) old.seats.items new.seats.items r (first_true _ _ calm) (first_true _ _ calm_now) rose

  no_faults : (desks : List D) → list_all (is_calm_desk k desk_faults) desks ≡ true → sum_by desk_faults desks ≡ 0
  no_faults [] calm = refl
  no_faults (desk ∷ desks) calm =
      let first = is_zero (desk_faults desk) (second_true (k.quiet_desk desk) _ (first_true (is_calm_desk k desk_faults desk) _ calm)) in
      let more = no_faults desks (second_true (is_calm_desk k desk_faults desk) _ calm) in omega (arith, first, more, sum_by-cons desk_faults desk desks)

  no_desk : is_calm k desk_faults old ≡ true → is_calm k desk_faults new ≡ true → (r : ℕ) → DeskRose k desk_faults old new r → ⊥
  no_desk calm calm_now r rose = no_rise (desk_count desk_faults) (λ (list : List D). list_all (is_calm_desk k desk_faults) list)
      (λ list e. let none = no_faults list e in omega (arith, none)) old.desks.items new.desks.items r (second_true _ _ calm) (second_true _ _ calm_now) rose

  pub still_goes : (error : ActError) (result : Result Reply ActError) → IsErrOf result error → WorldGoes k desk_faults (cond (answers_fault result) 1 0) (arms command) old new → WorldGoes k desk_faults 0 (arms command) old new
  still_goes error (Ok reply) is goes = absurd (cc)
  still_goes error (Err e) is goes = goes

  -- the record has at most one entry more
  pub longer : {P : Type 0} (result : Result Reply ActError) → IfOk result (Records k desk_faults command old new) → (IsErrOf result BadLine → P × (new ≡ old)) → (IsErrOf result Memory → Shortens k desk_faults command old new) → IsLonger old.entries new.entries
  longer (Ok reply) line bad short = inr (line.entry, line.grows)
  longer (Err BadLine) line bad short = inl (ap (λ (w : World K D g h i). w.entries) (bad refl).1)
  longer (Err Memory) line bad short = inl (short refl).entries_same

  pub cut_short : Shortens k desk_faults command old new → WorldGoes k desk_faults 0 (arms command) old new → CutsShort (state k desk_faults old) (tally k desk_faults old) command (state k desk_faults new) (tally k desk_faults new)
  cut_short short goes = record { left = by_left short.left; paid = goes.paid; calm = goes.calm }
    where
      by_left : LeavesStep (state k desk_faults old) command (state k desk_faults new) ⊎ ((reply : Reply) × (is_there (state k desk_faults old) command ≡ true)
          × Row (state k desk_faults old) command (KeeperRose k desk_faults old new) (OwnRose k desk_faults old new) (DeskRose k desk_faults old new) reply (state k desk_faults new) × WorldGoes k desk_faults (cond (is_fault reply) 1 0) (arms command) old new)
          → LeavesStep (state k desk_faults old) command (state k desk_faults new)
          ⊎ ((answer : Answer) × IsAnswered (state k desk_faults old) (tally k desk_faults old) (Some (Some command)) (state k desk_faults new) (tally k desk_faults new) (Some answer))
      by_left (inl leaves) = inl leaves
      by_left (inr (reply, there, row, done)) =
          let found : IsEntry (state k desk_faults old) command (is_calm k desk_faults old) (OwnRose k desk_faults old new) (DeskRose k desk_faults old new) reply (state k desk_faults new) =
          entry_of (state k desk_faults old) command (is_calm k desk_faults old) (KeeperRose k desk_faults old new) (OwnRose k desk_faults old new) (DeskRose k desk_faults old new) reply (state k desk_faults new) there
          (λ calm. no_own calm (done.calm calm)) (λ calm. no_desk calm (done.calm calm)) (λ r. rises_or (λ (seat : Seat K D g h i). k.own (keeper_of seat)) old.seats.items new.seats.items r) row in
          inr (
            record { reply = reply; entry = found.entry },
            record {
              step = found.step;
              tallies = record {
                paid = done.paid;
                own_paid = own_paid k desk_faults done found.entry.own found.entry.desks found.owns found.desked;
                calm = done.calm;
                owned = λ calm. owns_of_none (record { reply = reply; entry = found.entry }) (found.owned calm);
              };
            },
          )

-- an answer that is written, or some first bytes of it
module _ {K D : Type 0} {g : keeper.Ghosts K D} {h : counted.Ghosts K} {i : counted.Ghosts D} {k : Members K D} {desk_faults : D → ℕ} {command : Command} {old new : World K D g h i} {reply : Reply} (is : AnswersIn k desk_faults command old new reply) where
  pub executes : {E : Type 0} (before after : Option (List ℕ)) (result : Result (Unit {0}) E) → OnOk result (Appends before after (reply_text reply)) → OnOk result (Executes (state k desk_faults old) (tally k desk_faults old) (Some (Some command)) (state k desk_faults new) (tally k desk_faults new) before after)
  executes before after (Err error) written = tt
  executes before after (Ok done) written = record { answer = Some is.answer; answered = is.answered; written = subst (λ (r : Reply). Appends before after (reply_text r)) (sym is.says) written }

  pub executes_part : (before after : Option (List ℕ)) → AppendsPart before after (reply_text reply) → ExecutesPart (state k desk_faults old) (tally k desk_faults old) (Some (Some command)) (state k desk_faults new) (tally k desk_faults new) before after
  executes_part before after written = record { answer = is.answer; answered = is.answered; written = subst (λ (r : Reply). AppendsPart before after (reply_text r)) (sym is.says) written }
