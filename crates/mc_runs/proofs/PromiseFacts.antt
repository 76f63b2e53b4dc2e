-- What is promised of every run: what grows, and what stays.
use Rattle.std.proofs.Common.{◌≡◌, ◌≢◌, ℕ, zero, suc, true, false, true≢false, List, [], ◌∷◌, length, Option, Some, None, Result, Ok, Err, refl, sym, ◌∙◌, ap, subst, inl, inr, set}
use Rattle.std.specs.Prelude.{slice_get}
use Rattle.std.proofs.lemmas.List.{length-set}
use Rattle.mc_base.specs.Told.{Told}
use Rattle.mc_base.specs.declared.cid.Cid.{Cid}
use Rattle.mc_keep.specs.declared.fuse.Fuse.{Fuse}
use Rattle.mc_key.specs.Prefix.{is_under}
use Rattle.mc_model.specs.declared.block.Block.{Block}
use Rattle.mc_model.specs.Answers.{SameAnswers}
use Rattle.mc_model.specs.Events.{Event, GoesOn}
use Rattle.mc_model.specs.Front.{heads}
use Rattle.mc_model.specs.Kept.{Kept}
use Rattle.mc_model.specs.SameMembers.{SameMembers}
use Rattle.mc_model.specs.State.{Running, blocks_of, durable_of, kept_of}
use Rattle.mc_model.proofs.Prefix.{goes_on_then}
use Rattle.mc_core.specs.Events.{ReplicaState, Goes, state_of}
use Rattle.mc_core.proofs.GrowthFacts.{GrowLaw, same_goes, goes_grows, breaks_grows}
use Rattle.mc_core.specs.Jobs.{tried_first}
use Rattle.mc_drain.specs.Repairs.{RepairLeads}
use Rattle.mc_drain.specs.Works.{WorkLeads}
use Rattle.mc_drain.specs.declared.repairing.Repaired.{Repaired}
use Rattle.mc_drain.specs.declared.working.WorkError.{WorkError}
use Rattle.mc_drain.specs.declared.working.WorkError.TheVariants.{PeerFault}
use Rattle.mc_drain.specs.declared.working.Worked.{Worked}
use Rattle.mc_past.specs.Past.{FoundsAreOne}
use Rattle.mc_storm.specs.Storms.{StormLeads}
use Rattle.mc_script.specs.Line.{line_of}
use Rattle.mc_script.specs.declared.command.Command.{Command}
use Rattle.mc_script.specs.declared.command.Command.TheVariants.{Get, GetAt, Has as HasKey, Query, Heads as HeadsOf}
use Rattle.mc_script.specs.declared.reply.Reply.{Reply}
use Rattle.mc_script.specs.declared.reply.Reply.TheVariants.{Value, Has, Rows, Heads}
use Rattle.mc_seats.specs.declared.entry.LineEntry.{LineEntry}
use Rattle.mc_seats.specs.Asks.{focus, is_named, may_fail}
use Rattle.mc_seats.specs.Calling.{Batches, Blocks, Calling, Nothing, Reach}
use Rattle.mc_seats.specs.Calls.{calls_by, finds_by, is_find}
use Rattle.mc_seats.specs.Doing.{At, Calls, Casts, Doing, Exports, Hears, Imports, Repairs, Steps, Storms, Tends, Works, below_reply, doing}
use Rattle.mc_seats.specs.Effects.{CallsAt, DoneAt, done_by, events_by, happens_by}
use Rattle.mc_runs.specs.Promises.{ContentGrows, DoneElsewhere, GrowsAt, OnlyGrows, elsewhere}
use Rattle.mc_runs.specs.Runs.{Answer, LineStep, Runs}
use Rattle.mc_seats.specs.Step.{CutShort, FaultsOf, GivesBack, PeerBreaks, Row, Step, breaks_by, faults_by}
use Rattle.mc_seats.specs.Works.{RepairsTo, WorksTo, budget_of, finds_of, repair_budget}
use Rattle.mc_seats.specs.Worlds.{Moved, MovedAt, Place, WorldState, peers_of, state_at}
use Rattle.mc_runs.proofs.BelowFacts.{below_one}
use Rattle.mc_runs.proofs.StormFacts.{calls_grow, storm_breaks_grow}
use Rattle.mc_runs.proofs.TendFacts.{IsTended, if_runs, tended}

-- what is told only grows

same_content : (content : Option Kept) → ContentGrows content content
same_content None = refl
same_content (Some kept) = same_goes (durable_of kept)

content_then : (a b c : Option Kept) → ContentGrows a b → ContentGrows b c → ContentGrows a c
content_then None b c g h = subst (λ x. ContentGrows x c) g h
content_then (Some a) None c g h = absurd g
content_then (Some a) (Some b) None g h = absurd h
content_then (Some a) (Some b) (Some c) g h = goes_on_then (durable_of a) (durable_of b) (durable_of c) g h

content_is : (old new : Option Kept) → new ≡ old → ContentGrows old new
content_is old new same = subst (λ x. ContentGrows old x) (sym same) (same_content old)

told_content : (P : ReplicaState → ReplicaState → Type 0) → ((s t : ReplicaState) → P s t → GoesOn s.state.durable t.state.durable) → (old new : Option Kept) (fuse fuse2 : Option Fuse) (run run2 : Option Running)
    → (old ≡ None → new ≡ None) → Told (state_of old fuse run) (state_of new fuse2 run2) P → ContentGrows old new
told_content P grows None new fuse fuse2 run run2 silent told = silent refl
told_content P grows (Some old) None fuse fuse2 run run2 silent told = absurd told
told_content P grows (Some old) (Some new) fuse fuse2 run run2 silent told = grows _ _ told

same_place : (o : Option Place) → GrowsAt o o
same_place None = tt
same_place (Some p) = same_content p.content

place_then : (a b c : Option Place) → GrowsAt a b → GrowsAt b c → GrowsAt a c
place_then None None None g h = tt
place_then None None (Some c) g h = absurd h
place_then None (Some b) c g h = absurd g
place_then (Some a) None c g h = absurd g
place_then (Some a) (Some b) None g h = absurd h
place_then (Some a) (Some b) (Some c) g h = content_then a.content b.content c.content g h

or_else : Place → Option Place → Place
or_else p None = p
or_else p (Some q) = q

-- one replica of a world changes
set_grows : (places : List Place) (at r : ℕ) (old new : Place) → slice_get places at ≡ Some old → ContentGrows old.content new.content → GrowsAt (slice_get places r) (slice_get (set places at new) r)
unfolding or_else
set_grows [] at r old new e g = tt
set_grows (p ∷ places) zero zero old new e g = subst (λ (x : Place). ContentGrows x.content new.content) (sym (ap (or_else p) e)) g
set_grows (p ∷ places) zero (suc r) old new e g = same_place (slice_get places r)
set_grows (p ∷ places) (suc at) zero old new e g = same_content p.content
set_grows (p ∷ places) (suc at) (suc r) old new e g = set_grows places at r old new e g

moved_grows : (w w2 : WorldState) (at : ℕ) (P : Place → Place → Type 0) → ((p q : Place) → P p q → ContentGrows p.content q.content) → Moved at w.places w2.places P → OnlyGrows w w2
moved_grows w w2 at P grows m = record {
  many_same = ap length m.after ∙ length-set w.places at m.new;
  each = λ r. subst (λ (places : List Place). GrowsAt (slice_get w.places r) (slice_get places r)) (sym m.after) (set_grows w.places at r m.old m.new m.stands (grows m.old m.new m.holds));
}

world_grows : (w w2 : WorldState) → w2.places ≡ w.places → OnlyGrows w w2
world_grows w w2 same = record {
  many_same = ap length same;
  each = λ r. subst (λ (places : List Place). GrowsAt (slice_get w.places r) (slice_get places r)) (sym same) (same_place (slice_get w.places r));
}

moved_at_grows : (w w2 : WorldState) (at : Option ℕ) (P : Place → Place → Type 0) → ((p q : Place) → P p q → ContentGrows p.content q.content) → MovedAt at w.places w2.places P → OnlyGrows w w2
moved_at_grows w w2 None P grows m = world_grows w w2 m
moved_at_grows w w2 (Some at) P grows m = moved_grows w w2 at P grows m

all_then : (a b c : WorldState) → OnlyGrows a b → OnlyGrows b c → OnlyGrows a c
all_then a b c g h = record {
  many_same = h.many_same ∙ g.many_same;
  each = λ r. place_then (slice_get a.places r) (slice_get b.places r) (slice_get c.places r) (g.each r) (h.each r);
}

-- a job that is given back changes the wanted set alone
pub back_is : (p q : Place) → GivesBack p q → (run : Running) × (q ≡ record p { run = Some run })
back_is p q g =
    let given = if_runs p.run (λ run. (run.queue.waiting ≢ []) × (q ≡ record p { run = Some (record run { queue = tried_first run.queue run.queue.waiting }) })) g in
    (record given.0 { queue = tried_first given.0.queue given.0.queue.waiting }, given.1.1)

back_grows : (p q : Place) → GivesBack p q → ContentGrows p.content q.content
back_grows p q g = content_is p.content q.content (ap (λ (x : Place). x.content) (back_is p q g).1)

-- a work and a repair
work_grows : (peers : List Place) (budget : ℕ) (result : Result Worked WorkError) (p q : Place) → WorksTo peers budget result p q → ContentGrows p.content q.content
work_grows peers budget result p q works = told_content (WorkLeads budget (finds_of peers) result) (λ s t leads. leads.grows) p.content q.content p.fuse q.fuse p.run q.run works.silent works.told

repair_grows : (peers : List Place) (result : Result Repaired WorkError) (p q : Place) → RepairsTo peers result p q → ContentGrows p.content q.content
repair_grows peers result p q repairs = told_content (RepairLeads repair_budget (finds_of peers) result) (λ s t leads. leads.grows) p.content q.content p.fuse q.fuse p.run q.run repairs.silent repairs.told

peer_grows : (w : WorldState) (d : Doing) (p q : Place) → breaks_by w d p q → ContentGrows p.content q.content
peer_grows w (At r (Works budget)) p q breaks = work_grows (peers_of w r) (budget_of budget) (Err PeerFault) p q breaks
peer_grows w (At r Repairs) p q breaks = repair_grows (peers_of w r) (Err PeerFault) p q breaks
peer_grows w d p q back = back_grows p q back

module _ (law : GrowLaw) where
  happens_grows : (w : WorldState) (d : Doing) (p q : Place) (reply : Reply) → (p.content ≡ None → q.content ≡ None) → happens_by w d p q reply → ContentGrows p.content q.content
  happens_grows w d p q reply silent happens =
      told_content (λ s new. (events : List Event) × events_by w s d events reply × Goes events s new) (λ s t h. goes_grows law h.0 s t h.2) p.content q.content p.fuse q.fuse p.run q.run silent happens

  reach_grows : (w : WorldState) (d : Doing) (reach : Reach) (call : Calling) (reply : Reply) (p q : Place) → CallsAt reach call p q reply → happens_by w d p q reply → ContentGrows p.content q.content
  reach_grows w d Nothing call reply p q h happens = content_is p.content q.content (ap (λ (x : Place). x.content) h.0)
  reach_grows w d (Batches B) call reply p q h happens = content_is p.content q.content h.1.0
  reach_grows w d (Blocks B) call reply p q h happens = happens_grows w d p q reply h.0.silent happens

  done_grows : (w : WorldState) (d : Doing) (reply : Reply) (p q : Place) → IsTended d → done_by w d p q reply → ContentGrows p.content q.content
  done_grows w (At r (Calls call)) reply p q tended h = reach_grows w (At r (Calls call)) call.reach call reply p q h.0 h.1
  done_grows w (At r (Tends tending)) reply p q tended h = content_is p.content q.content (tended.content_same p q reply h)
  done_grows w (At r Casts) reply p q tended h = content_is p.content q.content (ap (λ (x : Place). x.content) h)
  done_grows w (At r (Hears message)) reply p q tended h = happens_grows w (At r (Hears message)) p q reply h.0.0.silent h.1
  done_grows w (At r Exports) reply p q tended h = content_is p.content q.content (ap (λ (x : Place). x.content) h)
  done_grows w (At r (Imports car)) reply p q tended h = happens_grows w (At r (Imports car)) p q reply h.0.0.silent h.1
  done_grows w (At r Steps) reply p q tended h = happens_grows w (At r Steps) p q reply h.0.0.silent h.1
  done_grows w (At r (Works budget)) reply p q tended h = work_grows (peers_of w r) (budget_of budget) (Ok h.value) p q h.works
  done_grows w (At r Repairs) reply p q tended h = repair_grows (peers_of w r) (Ok h.value) p q h.repairs
  done_grows w (At r (Storms writers writes)) reply p q tended h = told_content (StormLeads writers writes (Ok h.value) ⊥) (λ s t ends. calls_grow law ends.calls s t ends.run) p.content q.content p.fuse q.fuse p.run q.run h.runs.silent h.told
  done_grows w d reply p q tended h = absurd h.0

  faults_grow : (w : WorldState) (d : Doing) (own : Type 0) (s t : ReplicaState) → faults_by w d own s t → GoesOn s.state.durable t.state.durable
  faults_grow w (At r (Works budget)) own s t leads = leads.grows
  faults_grow w (At r Repairs) own s t leads = leads.grows
  faults_grow w (At r (Storms writers writes)) own s t breaks = storm_breaks_grow law writers writes own s t breaks
  faults_grow w d own s t f = breaks_grows law f.events own s t f.breaks

  cut_grows : (w : WorldState) (command : Command) (own : Type 0) (p q : Place) → CutShort w command own p q → ContentGrows p.content q.content
  cut_grows w command own p q cut = told_content (FaultsOf w command own) (faults_grow w (doing command) own) p.content q.content p.fuse q.fuse p.run q.run cut.silent cut.told

  row_grows : (w : WorldState) (command : Command) (named own desk : ℕ → Type 0) (reply : Reply) (w2 : WorldState) → Row w command named own desk reply w2 → OnlyGrows w w2
  row_grows w command named own desk reply w2 (inl (inl (inl refused))) = world_grows w w2 (ap (λ (x : WorldState). x.places) refused.same)
  row_grows w command named own desk reply w2 (inl (inl (inr done))) = moved_at_grows w w2 (focus command) (λ p q. DoneAt w command p q reply) (λ p q. done_grows w (doing command) reply p q (tended command)) done.moved
  row_grows w command named own desk reply w2 (inl (inr fault)) = moved_grows w w2 fault.at (CutShort w command (own fault.at)) (cut_grows w command (own fault.at)) fault.moved
  row_grows w command named own desk reply w2 (inr peer) = moved_at_grows w w2 (focus command) (PeerBreaks w command) (peer_grows w (doing command)) peer.moved

  pub step_grows : (w : WorldState) (command : Command) (entry : LineEntry) (reply : Reply) (w2 : WorldState) → Step w command entry reply w2 → OnlyGrows w w2
  step_grows w command entry reply w2 step = row_grows w command _ _ _ reply w2 step.row

  line_grows : (old new : WorldState) (read : Option (Option Command)) (answer : Option Answer) → LineStep old read new answer → OnlyGrows old new
  line_grows old new None answer step = absurd step
  line_grows old new (Some None) answer step = world_grows old new (ap (λ (x : WorldState). x.places) step.0)
  line_grows old new (Some (Some command)) None step = absurd step
  line_grows old new (Some (Some command)) (Some answer) step = step_grows old command answer.entry answer.reply new step

  pub runs_grow : (lines : List (List ℕ)) (answers : List (Option Answer)) (old new : WorldState) → Runs old lines answers new → OnlyGrows old new
  runs_grow [] [] old new runs = world_grows old new (ap (λ (x : WorldState). x.places) runs)
  runs_grow [] (answer ∷ answers) old new runs = absurd runs
  runs_grow (line ∷ lines) [] old new runs = absurd runs
  runs_grow (line ∷ lines) (answer ∷ answers) old new (mid, step, rest) =
      all_then old mid new (line_grows old mid (line_of line) answer step) (runs_grow lines answers mid new rest)

-- what stays

get_of_other : {A : Type 0} (xs : List A) (r j : ℕ) (y : A) → (j ≡ r → ⊥) → slice_get (set xs r y) j ≡ slice_get xs j
get_of_other [] r j y other = refl
get_of_other (x ∷ xs) zero zero y other = absurd (other refl)
get_of_other (x ∷ xs) zero (suc j) y other = refl
get_of_other (x ∷ xs) (suc r) zero y other = refl
get_of_other (x ∷ xs) (suc r) (suc j) y other = get_of_other xs r j y (λ e. other (ap suc e))

pub others_stand : {A : Type 0} (r : ℕ) (olds news : List A) (P : A → A → Type 0) (j : ℕ) → Moved r olds news P → (j ≡ r → ⊥) → slice_get news j ≡ slice_get olds j
others_stand r olds news P j m other = ap (λ l. slice_get l j) m.after ∙ get_of_other olds r j m.new other

at_focus : {A : Type 0} (o : Option ℕ) (olds news : List A) (P : A → A → Type 0) (j : ℕ) → (o ≡ Some j → ⊥) → MovedAt o olds news P → slice_get news j ≡ slice_get olds j
at_focus None olds news P j free m = ap (λ l. slice_get l j) m
at_focus (Some r) olds news P j free m = others_stand r olds news P j m (λ e. free (ap Some (sym e)))

in_row : (w w2 : WorldState) (command : Command) (named own desk : ℕ → Type 0) (reply : Reply) (j : ℕ) → (focus command ≡ Some j → ⊥) → is_named (may_fail command) j ≡ false → Row w command named own desk reply w2 → slice_get w2.places j ≡ slice_get w.places j
in_row w w2 command named own desk reply j free calm (inl (inl (inl refused))) = ap (λ (x : WorldState). slice_get x.places j) refused.same
in_row w w2 command named own desk reply j free calm (inl (inl (inr done))) = at_focus (focus command) w.places w2.places _ j free done.moved
in_row w w2 command named own desk reply j free calm (inl (inr fault)) =
    others_stand fault.at w.places w2.places _ j fault.moved (λ e. true≢false (sym (subst (λ (n : ℕ). is_named (may_fail command) n ≡ true) (sym e) fault.among) ∙ calm))
in_row w w2 command named own desk reply j free calm (inr peer) = at_focus (focus command) w.places w2.places _ j free peer.moved

-- a replica that a command neither works on nor may fail at is as it was, also over silent keepers
pub step_others : (w : WorldState) (command : Command) (entry : LineEntry) (reply : Reply) (w2 : WorldState) (j : ℕ) → Step w command entry reply w2 → focus command ≢ Some j → is_named (may_fail command) j ≡ false → slice_get w2.places j ≡ slice_get w.places j
step_others w command entry reply w2 j step free calm = in_row w w2 command _ _ _ reply j free calm step.row

-- what is answered to equal blocks

abbrev pub AnswersLaw : Type 0
AnswersLaw = (xs ys : List Block) → SameMembers xs ys → SameAnswers xs ys

abbrev pub HeadsLaw : Type 0
HeadsLaw = (xs ys : List Block) → SameMembers xs ys → heads xs ≡ heads ys

-- what is answered at two replicas for one thing that is done at either
abbrev SaidBoth : WorldState → WorldState → ReplicaState → ReplicaState → Doing → ℕ → Reply → Reply → Type 0
SaidBoth w w2 s t d other reply said = (events others : List Event) → events_by w s d events reply → events_by w2 t (elsewhere other d) others said → reply ≡ said

planned_equal : (law : AnswersLaw) (heads_law : HeadsLaw) (w w2 : WorldState) (s t : ReplicaState) (command : Command) (other : ℕ) (reply said : Reply) → is_find command ≡ true
    → SameMembers (blocks_of s.state.durable) (blocks_of t.state.durable) → SaidBoth w w2 s t (doing command) other reply said
planned_equal law heads_law w w2 s t (Get r key) other reply said find same events others p q = p.2 ∙ ap Value (p.1.1 ∙ (law _ _ same).get key ∙ sym q.1.1) ∙ sym q.2
planned_equal law heads_law w w2 s t (HasKey r key) other reply said find same events others p q = p.2 ∙ ap Has (p.1.1 ∙ (law _ _ same).has key ∙ sym q.1.1) ∙ sym q.2
planned_equal law heads_law w w2 s t (Query r prefix skip take) other reply said find same events others p q = p.2 ∙ ap Rows (p.1.1 ∙ (law _ _ same).rows (is_under prefix) skip take ∙ sym q.1.1) ∙ sym q.2
planned_equal law heads_law w w2 s t (HeadsOf r) other reply said find same events others p q = p.2 ∙ ap Heads (p.1.1 ∙ heads_law _ _ same ∙ sym q.1.1) ∙ sym q.2
planned_equal law heads_law w w2 s t command other reply said find same events others p q = absurd (true≢false (sym find))

planned_below : (founds : FoundsAreOne) (w w2 : WorldState) (s t : ReplicaState) (r other : ℕ) (cid : Cid) (key : List ℕ) (reply said : Reply)
    → SameMembers (blocks_of s.state.durable) (blocks_of t.state.durable) → SaidBoth w w2 s t (doing (GetAt r cid key)) other reply said
planned_below founds w w2 s t r other cid key reply said same events others p q =
    let kept = kept_of s.state.durable in
    let kept_too = kept_of t.state.durable in
    p.2 ∙ ap below_reply (below_one founds kept.graph kept_too.graph kept.order kept_too.order cid key p.0 q.0 same p.1.1 q.1.1) ∙ sym q.2

-- one thing that was told is followed by another
after_told : (P : ReplicaState → ReplicaState → Type 0) (s : ReplicaState) (a b : Option ReplicaState) → a ≡ Some s → Told a b P → (t : ReplicaState) × P s t
after_told P s a None is told = absurd (subst (λ x. Told x None P) is told)
after_told P s a (Some t) is told = (t, subst (λ x. Told x (Some t) P) is told)

happened : (w : WorldState) (d : Doing) (p q : Place) (reply : Reply) → calls_by d ≡ true → done_by w d p q reply → happens_by w d p q reply
happened w (At r (Calls call)) p q reply calls done = done.1
happened w d p q reply calls done = absurd (true≢false (sym calls))

calls_still : (d : Doing) (other : ℕ) → calls_by d ≡ true → calls_by (elsewhere other d) ≡ true
calls_still (At r (Calls call)) other calls = calls
calls_still d other calls = absurd (true≢false (sym calls))

finds_calls : (d : Doing) → finds_by d ≡ true → calls_by d ≡ true
finds_calls (At r (Calls call)) find = refl
finds_calls d find = absurd (true≢false (sym find))

equal_said : (w w2 : WorldState) (p p2 q q2 : Place) (s t : ReplicaState) (d : Doing) (other : ℕ) (reply said : Reply) → calls_by d ≡ true → state_at p ≡ Some s → state_at q ≡ Some t
    → SaidBoth w w2 s t d other reply said → done_by w d p p2 reply → done_by w2 (elsewhere other d) q q2 said → reply ≡ said
equal_said w w2 p p2 q q2 s t d other reply said calls at_p at_q both done done2 =
    let first = after_told (λ s new. (events : List Event) × events_by w s d events reply × Goes events s new) s (state_at p) (state_at p2) at_p (happened w d p p2 reply calls done) in
    let second = after_told (λ s new. (events : List Event) × events_by w2 s (elsewhere other d) events said × Goes events s new) t (state_at q) (state_at q2) at_q (happened w2 (elsewhere other d) q q2 said (calls_still d other calls) done2) in
    both first.1.0 second.1.0 first.1.1 second.1.1

pub equal_answers : (law : AnswersLaw) (heads_law : HeadsLaw) (w w2 : WorldState) (p p2 q q2 : Place) (s t : ReplicaState) (command : Command) (other : ℕ) (reply said : Reply) → is_find command ≡ true
    → state_at p ≡ Some s → state_at q ≡ Some t → SameMembers (blocks_of s.state.durable) (blocks_of t.state.durable) → DoneAt w command p p2 reply → DoneElsewhere w2 other command q q2 said → reply ≡ said
equal_answers law heads_law w w2 p p2 q q2 s t command other reply said find at_p at_q same done done2 =
    equal_said w w2 p p2 q q2 s t (doing command) other reply said (finds_calls (doing command) find) at_p at_q (planned_equal law heads_law w w2 s t command other reply said find same) done done2

pub equal_below : (founds : FoundsAreOne) (w w2 : WorldState) (p p2 q q2 : Place) (s t : ReplicaState) (r other : ℕ) (cid : Cid) (key : List ℕ) (reply said : Reply)
    → state_at p ≡ Some s → state_at q ≡ Some t → SameMembers (blocks_of s.state.durable) (blocks_of t.state.durable) → DoneAt w (GetAt r cid key) p p2 reply → DoneElsewhere w2 other (GetAt r cid key) q q2 said → reply ≡ said
equal_below founds w w2 p p2 q q2 s t r other cid key reply said at_p at_q same done done2 =
    equal_said w w2 p p2 q q2 s t (doing (GetAt r cid key)) other reply said refl at_p at_q (planned_below founds w w2 s t r other cid key reply said same) done done2
