-- A repair that is answered by `clean` leaves no gap, and its replica has what its heads reach.
use Rattle.std.proofs.Common.{◌≡◌, ℕ, zero, suc, Bool, true, false, true≢false, List, [], ◌∷◌, Option, Some, None, Result, Ok, Err, refl, sym, ◌∙◌, ap, subst, inl, inr}
use Rattle.std.specs.Prelude.{IfSome, is_some, slice_get}
use Rattle.mc_base.specs.Told.{Told}
use Rattle.mc_keep.specs.declared.fuse.Fuse.{Fuse}
use Rattle.mc_model.specs.Front.{gaps}
use Rattle.mc_model.specs.Kept.{Kept, processed}
use Rattle.mc_model.specs.State.{IsSound, Running, durable_of, kept_of}
use Rattle.mc_core.specs.Events.{state_of}
use Rattle.mc_core.specs.declared.CoreError.{CoreError}
use Rattle.mc_core.specs.declared.CoreError.TheVariants as core
use Rattle.mc_core.specs.Walks.{IsClean}
use Rattle.mc_core.proofs.SettledFacts.{clean_gaps}
use Rattle.mc_drain.specs.Finds.{Finds}
use Rattle.mc_drain.specs.Repairs.{RepairLeads}
use Rattle.mc_drain.specs.declared.repairing.Repaired.{Repaired}
use Rattle.mc_drain.specs.declared.repairing.Repaired.TheVariants as repaired
use Rattle.mc_script.specs.Line.{line_of}
use Rattle.mc_script.specs.declared.command.Command.{Command}
use Rattle.mc_script.specs.declared.command.Command.TheVariants.{Repair}
use Rattle.mc_script.specs.declared.reply.Reply.{Reply}
use Rattle.mc_script.specs.declared.reply.Reply.TheVariants.{Clean}
use Rattle.mc_seats.specs.declared.error.ActError.{ActError}
use Rattle.mc_seats.specs.declared.entry.LineEntry.{LineEntry}
use Rattle.mc_seats.specs.Asks.{is_named}
use Rattle.mc_seats.specs.Effects.{IsReply, RefusedAt}
use Rattle.mc_runs.specs.Promises.{AfterLine, HasSettled, IsLineAt, IsSettled}
use Rattle.mc_runs.specs.Runs.{Answer, LineStep, Runs}
use Rattle.mc_seats.specs.Step.{IsDone, Row, Step}
use Rattle.mc_seats.specs.Works.{RepairOn, RepairsTo, RunsTo, finds_of, repair_budget, repaired_reply}
use Rattle.mc_seats.specs.Worlds.{Place, WorldState, peers_of}
use Rattle.mc_seats.proofs.OpeningFacts.{none_of_length}
use Rattle.mc_runs.proofs.WrittenFacts.{at_there, moved_stands}

-- nothing else is answered by `clean`

abbrev is_clean : Reply → Bool
is_clean Clean = true
is_clean reply = false

abbrev says_clean : Result Reply ActError → Bool
says_clean (Ok reply) = is_clean reply
says_clean (Err error) = false

no_clean : (error : CoreError) → IsReply error Clean → ⊥
no_clean core.KeeperFault e = e
no_clean core.Memory e = e
no_clean error e = true≢false (sym (ap says_clean e))

clean_value : (value : Repaired) → Clean ≡ repaired_reply value → value ≡ repaired.Clean
clean_value repaired.Clean e = refl
clean_value (repaired.Open gaps) e = absurd (true≢false (ap is_clean e))
clean_value (repaired.Again processed) e = absurd (true≢false (ap is_clean e))

-- what it leaves

abbrev pub BackLaw : Type 0
BackLaw = (kept : Kept) → kept_of (durable_of kept) ≡ kept

abbrev pub MarkLaw : Type 0
MarkLaw = (kept : Kept) (run : Running) → IsSound (record { durable = durable_of kept; run = Some run }) → run.whole ≡ true → IsClean kept → kept.mark ≡ false

module _ (back : BackLaw) (mark : MarkLaw) where
  told_settled : (offers : Finds) (old new : Option Kept) (fuse fuse2 : Option Fuse) (run run2 : Option Running) → RunsTo (RepairOn true) run run2 → (old ≡ None → new ≡ None)
      → Told (state_of old fuse run) (state_of new fuse2 run2) (RepairLeads repair_budget offers (Ok repaired.Clean)) → IfSome (state_of new fuse2 run2) IsSettled
  told_settled offers None new fuse fuse2 run run2 runs silent told = subst (λ (o : Option Kept). IfSome (state_of o fuse2 run2) IsSettled) (sym (silent refl)) tt
  told_settled offers (Some old) None fuse fuse2 run run2 runs silent told = tt
  told_settled offers (Some old) (Some new) fuse fuse2 None run2 runs silent told = absurd runs
  told_settled offers (Some old) (Some new) fuse fuse2 (Some run) None runs silent told = absurd runs
  told_settled offers (Some old) (Some new) fuse fuse2 (Some run) (Some run2) runs silent told = record {
    no_gaps = none_of_length (gaps (processed (kept_of (durable_of new)))) (clean_gaps (kept_of (durable_of new)) told.counts);
    mark_clear = mark new run2 told.sound runs.0 (subst IsClean (back new) told.counts);
    reached = told.reaches;
  }

  repair_settles : (w : WorldState) (r workers : ℕ) (w2 : WorldState) → IsDone w (Repair r workers) Clean w2 → HasSettled w2 r
  repair_settles w r workers w2 done =
      let p : Place = done.moved.old in
      let q : Place = done.moved.new in
      let clean = clean_value done.moved.holds.value done.moved.holds.says in
      let repairs : RepairsTo (peers_of w r) (Ok repaired.Clean) p q = subst (λ (value : Repaired). RepairsTo (peers_of w r) (Ok value) p q) clean done.moved.holds.repairs in
      record {
        place = q;
        stands = moved_stands r w.places w2.places _ done.moved;
        settled = told_settled (finds_of (peers_of w r)) p.content q.content p.fuse q.fuse p.run q.run repairs.runs repairs.silent repairs.told;
      }

  pub clean_settles : (w : WorldState) (r workers : ℕ) (entry : LineEntry) (w2 : WorldState) → Step w (Repair r workers) entry Clean w2 → HasSettled w2 r
  clean_settles w r workers entry w2 step = over step.row
    where
      over : Row w (Repair r workers) (λ r. is_named entry.keepers r ≡ true) (λ r. is_named entry.own r ≡ true) (λ r. is_named entry.desks r ≡ true) Clean w2 → HasSettled w2 r
      over (inl (inl (inl refused))) =
          let found = at_there w r (λ p. RefusedAt w p (Repair r workers) (Some Clean)) step.there refused.cause in
          absurd (no_clean found.2.0 found.2.3)
      over (inl (inl (inr done))) = repair_settles w r workers w2 done
      over (inl (inr fault)) = absurd (true≢false (ap is_clean fault.says))
      over (inr peer) = absurd (true≢false (ap is_clean peer.says))

-- what a line has done stands in the world after it
module _ (P : WorldState → Type 0) (command : Command) (reply : Reply) (done : (w : WorldState) (entry : LineEntry) (w2 : WorldState) → Step w command entry reply w2 → P w2) where
  line_leaves : (line : List ℕ) (answer : Option Answer) (asked : List ℕ) (given : Answer) (first mid : WorldState) → LineStep first (line_of line) mid answer → line ≡ asked → line_of asked ≡ Some (Some command) → answer ≡ Some given → given.reply ≡ reply → P mid
  line_leaves line answer asked given first mid step is asks answered says =
      let own : Step first command given.entry given.reply mid = subst (λ (a : Option Answer). LineStep first (Some (Some command)) mid a) answered (subst (λ (read : Option (Option Command)). LineStep first read mid answer) (ap line_of is ∙ asks) step) in
      done first given.entry mid (subst (λ (x : Reply). Step first command given.entry x mid) says own)

  pub leaves_after : (lines : List (List ℕ)) (answers : List (Option Answer)) (first last : WorldState) (k : ℕ) → Runs first lines answers last → IsLineAt lines answers k command reply → AfterLine first lines answers k last P
  leaves_after [] [] first last k runs is = absurd (nothing_at k is.stands)
    where
      nothing_at : (k : ℕ) → slice_get [] k ≡ Some is.line → ⊥
      nothing_at k e = true≢false (sym (ap is_some e))
  leaves_after [] (answer ∷ answers) first last k runs is = absurd runs
  leaves_after (line ∷ lines) [] first last k runs is = absurd runs
  leaves_after (line ∷ lines) (answer ∷ answers) first last zero (mid, step, rest) is = record {
    after = mid;
    before = (mid, step, refl);
    behind = rest;
    holds = line_leaves line answer is.line is.answer first mid step (same_of is.stands) is.asks (same_of is.answered) is.says;
  }
    where
      same_of : {A : Type 0} {x y : A} → Some x ≡ Some y → x ≡ y
      same_of e = cc
  leaves_after (line ∷ lines) (answer ∷ answers) first last (suc k) (mid, step, rest) is =
      let more = leaves_after lines answers mid last k rest (record { line = is.line; answer = is.answer; stands = is.stands; asks = is.asks; answered = is.answered; says = is.says }) in
      record { after = more.after; before = (mid, step, more.before); behind = more.behind; holds = more.holds }
