-- A command that has one outcome: two steps of it from one world are one, and so are two runs.
use Rattle.std.proofs.Common.{◌≡◌, ℕ, zero, suc, ◌+◌, Bool, true, false, true≢false, not, List, [], ◌∷◌, ◌++◌, length, set, Option, Some, None, Result, Ok, Err, refl, sym, ◌∙◌, ap, subst, arith, inl, inr, nat_lt}
use Rattle.std.specs.Prelude.{◌⊎◌, ◌↔◌, IfSome, is_some, slice_get}
use Rattle.std.specs.List.{AllByRecursion, list_all}
use Rattle.std.proofs.lemmas.Bool.{ltb-true}
use Rattle.mc_keep.specs.Causes.{Kind, Refusal, Fault, Shortage, has_fired}
use Rattle.mc_keep.specs.declared.fuse.Fuse.{Fuse}
use Rattle.mc_model.specs.Kept.{Kept}
use Rattle.mc_model.specs.State.{Running, kept_of}
use Rattle.mc_core.specs.Events.{ReplicaState}
use Rattle.mc_core.specs.Hears.{written_cast}
use Rattle.mc_core.specs.Refusals.{ByKind, kind_of}
use Rattle.mc_core.specs.declared.CoreError.{CoreError}
use Rattle.mc_files.specs.Files.{IsExport}
use Rattle.mc_script.specs.Line.{line_of}
use Rattle.mc_script.specs.declared.command.Command.{Command}
use Rattle.mc_script.specs.declared.command.Command.TheVariants.{Put, Del, CarIn, Cast, Export, Wire, Plant, Link, Work, Repair, Storm, State as StateOf, Same as SameOf, Stop, Open, StopAt, StopAfter}
use Rattle.mc_script.specs.declared.reply.Reply.{Reply}
use Rattle.mc_script.specs.declared.reply.Reply.TheVariants.{Car, RefusedRoots, Same, State}
use Rattle.mc_seats.specs.declared.entry.LineEntry.{LineEntry}
use Rattle.mc_seats.specs.Asks.{among_by, focus_by, is_named, is_there}
use Rattle.mc_seats.specs.Calling.{Batches, Blocks, Calling, Nothing, Reach}
use Rattle.mc_seats.specs.Doing.{At, Calls, Compares, Doing, Hears, Imports, Steps, Tends, doing}
use Rattle.mc_seats.specs.Effects.{CallsAt, DoneAt, IsReply, answer_of, call_refused, done_by, due_by, exact_by, happens_by, refused_by}
use Rattle.mc_seats.specs.Record.{NamesNone}
use Rattle.mc_seats.specs.Step.{CutShort, ExportsAt, HasManyRoots, IsDone, IsFaulted, IsFiled, IsRefused, IsSent, Refuses, Row, SameProcessed, Step, refuses_by, sets_by}
use Rattle.mc_seats.specs.Tending.{HasNumbers, OpensAs}
use Rattle.mc_seats.specs.Worlds.{Around, AtPlace, IfRuns, Moved, MovedAt, Place, WorldState, state_at}
use Rattle.mc_seats.proofs.OpeningFacts.{first_true, second_true}
use Rattle.mc_runs.specs.OneText.{AreOpen, IsOne, IsOpen, NoneRefused, blocks_none, has_one_outcome, refuses_block, replies_in, said_by}
use Rattle.mc_runs.specs.Runs.{Answer, LineStep, Runs, own_free, owns_none}
use Rattle.mc_runs.proofs.CalmFacts.{entry_none}
use Rattle.mc_runs.proofs.ReplyFacts.{within}
use Rattle.mc_runs.proofs.WrittenFacts.{of_place, stands_within}
use Rattle.mc_runs.proofs.OneDeletes.{delete_due_one}
use Rattle.mc_runs.proofs.OneFused.{IsFiredAt, fired_at, fired_not_done, fired_place, none_named, refused_seen}
use Rattle.mc_runs.proofs.OneEvents.{IsOnePlace, OneLaws, both_happen, made_by, made_one, no_some, ok_is, some_is, told_state}

-- what it makes of its place

split_done : (w : WorldState) (d : Doing) (p q : Place) (reply : Reply) → made_by d ≡ true → done_by w d p q reply → exact_by w d p q reply × happens_by w d p q reply
split_done w (At r (Calls call)) p q reply made h = h
split_done w (At r (Hears message)) p q reply made h = h
split_done w (At r (Imports car)) p q reply made h = h
split_done w (At r Steps) p q reply made h = h
split_done w d p q reply made h = absurd (true≢false (sym made))

calls_planted : (reach : Reach) (call : Calling) (p q : Place) (reply : Reply) → CallsAt reach call p q reply → q.planted ≡ p.planted
calls_planted Nothing call p q reply h = ap (λ (x : Place). x.planted) h.0
calls_planted (Batches B) call p q reply h = h.0.planted_same
calls_planted (Blocks B) call p q reply h = h.0.planted_same

exact_planted : (w : WorldState) (d : Doing) (p q : Place) (reply : Reply) → exact_by w d p q reply → q.planted ≡ p.planted
exact_planted w (At r (Calls call)) p q reply h = calls_planted call.reach call p q reply h
exact_planted w (At r (Hears message)) p q reply h = h.0.planted_same
exact_planted w (At r (Imports car)) p q reply h = h.0.planted_same
exact_planted w (At r Steps) p q reply h = h.0.planted_same
exact_planted w d p q reply h = absurd h

made_place : (armed : Bool) → (laws : OneLaws) (w : WorldState) (command : Command) (p q q2 : Place) (reply reply2 : Reply) → AreOpen armed w → has_one_outcome armed command ≡ true → made_by (doing command) ≡ true → IsOpen armed p → DoneAt w command p q reply → DoneAt w command p q2 reply2 → IsOnePlace armed q q2 reply reply2
made_place armed laws w command p q q2 reply reply2 all one made open_p h h2 =
    let a = split_done w (doing command) p q reply made h in
    let b = split_done w (doing command) p q2 reply2 made h2 in
    both_happen armed laws.back w (doing command) p q q2 reply reply2 open_p (λ s. made_one armed laws.founds w s command all one made) (exact_planted w (doing command) p q reply a.0) (exact_planted w (doing command) p q2 reply2 b.0) a.1 b.1

-- what is made of a place without a call

open_like : (armed : Bool) → (p q : Place) → IsOpen armed p → q.content ≡ p.content → q.fuse ≡ p.fuse → IsOpen armed q
open_like armed p q open_p content fuse = record { told = ap is_some content ∙ open_p.told; no_fuse = λ off. fuse ∙ open_p.no_fuse off }

number_one : (content : Option Kept) (run : Running) (reply reply2 : Reply) → is_some content ≡ true → HasNumbers content run reply → HasNumbers content run reply2 → reply ≡ reply2
number_one None run reply reply2 told a b = absurd (true≢false (sym told))
number_one (Some kept) run reply reply2 told a b =
    let processed : a.processed ≡ b.processed = a.told.0 ∙ sym b.told.0 in
    let stored : a.stored ≡ b.stored = a.told.1 ∙ sym b.told.1 in
    let mark : a.mark ≡ b.mark = a.told.2 ∙ sym b.told.2 in
    a.says ∙ (λ i. State (processed i) (stored i) (length run.queue.waiting) (length run.queue.missing) (length run.queue.bad) (mark i) run.whole) ∙ sym b.says

state_one : (content : Option Kept) (run : Option Running) (reply reply2 : Reply) → is_some content ≡ true → IfRuns run (λ run. HasNumbers content run reply) → IfRuns run (λ run. HasNumbers content run reply2) → reply ≡ reply2
state_one content None reply reply2 told a b = absurd a
state_one content (Some run) reply reply2 told a b = number_one content run reply reply2 told a b

opens_one : (content : Option Kept) (run run2 : Option Running) → is_some content ≡ true → OpensAs content run → OpensAs content run2 → run ≡ run2
opens_one None run run2 told a b = absurd (true≢false (sym told))
opens_one (Some kept) run run2 told a b = a ∙ sym b

-- one place of a world

open_at : (armed : Bool) → (places : List Place) (r : ℕ) (p : Place) → AllByRecursion (IsOpen armed) places → slice_get places r ≡ Some p → IsOpen armed p
open_at armed [] r p all is = absurd (no_some is)
open_at armed (x ∷ places) zero p all is = subst (IsOpen armed) (some_is is) all.0
open_at armed (x ∷ places) (suc r) p all is = open_at armed places r p all.1 is

open_set : (armed : Bool) → (places : List Place) (r : ℕ) (q : Place) → AllByRecursion (IsOpen armed) places → IsOpen armed q → AllByRecursion (IsOpen armed) (set places r q)
open_set armed [] r q all open_q = tt
open_set armed (x ∷ places) zero q all open_q = (open_q, all.1)
open_set armed (x ∷ places) (suc r) q all open_q = (all.0, open_set armed places r q all.1 open_q)

-- two steps that came from one world are one
pub record IsOneStep (armed : Bool) (w2 w3 : WorldState) (reply reply2 : Reply) : Type 0 where
  pub same : w2 ≡ w3
  pub says : reply ≡ reply2
  pub still : AreOpen armed w2

world_is : (w2 w3 : WorldState) → w2.places ≡ w3.places → w2.around ≡ w3.around → w2 ≡ w3
world_is w2 w3 places around = λ i. record { places = places i; around = around i }

moved_one : (armed : Bool) → (w w2 w3 : WorldState) (r : ℕ) (reply reply2 : Reply) (P P2 : Place → Place → Type 0) → AreOpen armed w → Moved r w.places w2.places P → Moved r w.places w3.places P2 → w2.around ≡ w3.around
    → ((p q q2 : Place) → IsOpen armed p → P p q → P2 p q2 → IsOnePlace armed q q2 reply reply2) → IsOneStep armed w2 w3 reply reply2
moved_one armed w w2 w3 r reply reply2 P P2 all a b around one =
    let old : b.old ≡ a.old = some_is (sym b.stands ∙ a.stands) in
    let found = one a.old a.new b.new (open_at armed w.places r a.old all a.stands) a.holds (subst (λ (p : Place). P2 p b.new) old b.holds) in
    record {
      same = world_is w2 w3 (a.after ∙ ap (λ (q : Place). set w.places r q) found.same ∙ sym b.after) around;
      says = found.says;
      still = subst (AllByRecursion (IsOpen armed)) (sym a.after) (open_set armed w.places r a.new all found.still);
    }

made_around : (w : WorldState) (d : Doing) (reply : Reply) (around : Around) → made_by d ≡ true → sets_by w d reply around → around ≡ w.around
made_around w (At r (Calls call)) reply around made h = h
made_around w (At r (Hears message)) reply around made h = h
made_around w (At r (Imports car)) reply around made h = h
made_around w (At r Steps) reply around made h = h
made_around w d reply around made h = absurd (true≢false (sym made))

made_focus : (d : Doing) (olds news : List Place) (P : Place → Place → Type 0) → made_by d ≡ true → MovedAt (focus_by d) olds news P → (r : ℕ) × (focus_by d ≡ Some r)
made_focus (At r (Calls call)) olds news P made m = (r, refl)
made_focus (At r (Hears message)) olds news P made m = (r, refl)
made_focus (At r (Imports car)) olds news P made m = (r, refl)
made_focus (At r Steps) olds news P made m = (r, refl)
made_focus d olds news P made m = absurd (true≢false (sym made))

done_made : (armed : Bool) → (laws : OneLaws) (w : WorldState) (command : Command) (reply reply2 : Reply) (w2 w3 : WorldState) → AreOpen armed w → has_one_outcome armed command ≡ true → made_by (doing command) ≡ true → IsDone w command reply w2 → IsDone w command reply2 w3 → IsOneStep armed w2 w3 reply reply2
done_made armed laws w command reply reply2 w2 w3 all one made a b =
    let at = made_focus (doing command) w.places w2.places (λ p q. DoneAt w command p q reply) made a.moved in
    moved_one armed w w2 w3 at.0 reply reply2 (λ p q. DoneAt w command p q reply) (λ p q. DoneAt w command p q reply2) all
    (subst (λ (o : Option ℕ). MovedAt o w.places w2.places (λ p q. DoneAt w command p q reply)) at.1 a.moved)
    (subst (λ (o : Option ℕ). MovedAt o w.places w3.places (λ p q. DoneAt w command p q reply2)) at.1 b.moved)
    (made_around w (doing command) reply w2.around made a.around ∙ sym (made_around w (doing command) reply2 w3.around made b.around))
    (λ p q q2 open_p h h2. made_place armed laws w command p q q2 reply reply2 all one made open_p h h2)

-- messages and replies that are one

sent_one : (P Q : List ℕ → Type 0) (old : Around) (reply reply2 : Reply) (new new2 : Around) → ((x y : List ℕ) → P x → Q y → x ≡ y) → IsSent P old reply new → IsSent Q old reply2 new2 → (new ≡ new2) × (reply ≡ reply2)
sent_one P Q old reply reply2 new new2 same a b =
    let text = same a.text b.text a.is_text b.is_text in
    (a.sent ∙ ap (λ (x : List ℕ). record old { bag = record old.bag { messages = old.bag.messages ++ x ∷ [] } }) text ∙ sym b.sent, a.numbered ∙ sym b.numbered)

-- files that are one

filed_one : (P Q : List ℕ → Type 0) (old : Around) (reply reply2 : Reply) (new new2 : Around) → ((x y : List ℕ) → P x → Q y → x ≡ y) → IsFiled P old reply new → IsFiled Q old reply2 new2 → (new ≡ new2) × (reply ≡ reply2)
filed_one P Q old reply reply2 new new2 same a b =
    let text = same a.text b.text a.is_text b.is_text in (
      a.filed ∙ ap (λ (x : List ℕ). record old { bag = record old.bag { cars = old.bag.cars ++ x ∷ [] } }) text ∙ sym b.filed,
      a.numbered ∙ ap (λ (x : List ℕ). Car (length old.bag.cars + 1) (length x)) text ∙ sym b.numbered,
    )

-- what is exported of something that is kept has too many heads, or hasn't
few_or_many : (kept : Kept) (text : List ℕ) (number : ℕ) → IsExport kept (Ok text) → IsExport kept (Err number) → ⊥
few_or_many kept text number file many = omega (arith, file.few, many.0, many.1)

module _ (laws : OneLaws) (w : WorldState) (r : ℕ) (kept : Kept) (is : (said : Result (List ℕ) ℕ) → ExportsAt w r said → IsExport kept said) where
  export_one : (old : Around) (reply reply2 : Reply) (new new2 : Around)
      → IsFiled (λ text. ExportsAt w r (Ok text)) old reply new ⊎ HasManyRoots (λ number. ExportsAt w r (Err number)) old reply new
      → IsFiled (λ text. ExportsAt w r (Ok text)) old reply2 new2 ⊎ HasManyRoots (λ number. ExportsAt w r (Err number)) old reply2 new2 → (new ≡ new2) × (reply ≡ reply2)
  export_one old reply reply2 new new2 (inl a) (inl b) =
      filed_one _ _ old reply reply2 new new2 (λ x y at at2. laws.exports kept x y (is (Ok x) at) (is (Ok y) at2)) a b
  export_one old reply reply2 new new2 (inl a) (inr b) = absurd (few_or_many kept a.text b.number (is (Ok a.text) a.is_text) (is (Err b.number) b.is_number))
  export_one old reply reply2 new new2 (inr a) (inl b) = absurd (few_or_many kept b.text a.number (is (Ok b.text) b.is_text) (is (Err a.number) a.is_number))
  export_one old reply reply2 new new2 (inr a) (inr b) =
      let number : a.number ≡ b.number = (is (Err a.number) a.is_number).0 ∙ sym (is (Err b.number) b.is_number).0 in
      (a.same ∙ sym b.same, a.says ∙ ap RefusedRoots number ∙ sym b.says)

told_one : (armed : Bool) → (p : Place) (x y : List ℕ) (f : ReplicaState → List ℕ) → IsOpen armed p → IfSome (state_at p) (λ s. x ≡ f s) → IfSome (state_at p) (λ s. y ≡ f s) → x ≡ y
told_one armed p x y f open_p a b =
    let s = told_state armed p open_p in
    subst (λ (o : Option ReplicaState). IfSome o (λ s. x ≡ f s)) s.1 a ∙ sym (subst (λ (o : Option ReplicaState). IfSome o (λ s. y ≡ f s)) s.1 b)

yes_one : (a b : Bool) (P : Type 0) → (a ≡ true) ↔ P → (b ≡ true) ↔ P → a ≡ b
yes_one true true P p q = refl
yes_one false false P p q = refl
yes_one true false P p q = absurd (true≢false (sym (q.1 (p.0 refl))))
yes_one false true P p q = absurd (true≢false (sym (p.1 (q.0 refl))))

same_says : (armed : Bool) → (p q : Place) (a b : Bool) → IsOpen armed p → IsOpen armed q → IfSome (state_at p) (λ s. IfSome (state_at q) (λ t. (a ≡ true) ↔ SameProcessed s t)) → IfSome (state_at p) (λ s. IfSome (state_at q) (λ t. (b ≡ true) ↔ SameProcessed s t)) → a ≡ b
same_says armed p q a b open_p open_q x y =
    let s = told_state armed p open_p in
    let t = told_state armed q open_q in
    yes_one a b (SameProcessed s.0 t.0)
    (subst (λ (o : Option ReplicaState). IfSome o (λ t. (a ≡ true) ↔ SameProcessed s.0 t)) t.1 (subst (λ (o : Option ReplicaState). IfSome o (λ s. IfSome (state_at q) (λ t. (a ≡ true) ↔ SameProcessed s t))) s.1 x))
    (subst (λ (o : Option ReplicaState). IfSome o (λ t. (b ≡ true) ↔ SameProcessed s.0 t)) t.1 (subst (λ (o : Option ReplicaState). IfSome o (λ s. IfSome (state_at q) (λ t. (b ≡ true) ↔ SameProcessed s t))) s.1 y))

-- two commands that are done

done_one : (armed : Bool) → (laws : OneLaws) (w : WorldState) (command : Command) (reply reply2 : Reply) (w2 w3 : WorldState) → AreOpen armed w → is_there w command ≡ true → has_one_outcome armed command ≡ true → IsDone w command reply w2 → IsDone w command reply2 w3 → IsOneStep armed w2 w3 reply reply2
done_one armed laws w (Plant r cid bytes) reply reply2 w2 w3 all there one a b = moved_one armed w w2 w3 r reply reply2 _ _ all a.moved b.moved (a.around ∙ sym b.around) (λ p q q2 open_p h h2.
    record { same = h.0 ∙ sym h2.0; says = h.1 ∙ sym h2.1; still = open_like armed p q open_p (ap (λ (x : Place). x.content) h.0) (ap (λ (x : Place). x.fuse) h.0) })
done_one armed laws w (StateOf r) reply reply2 w2 w3 all there one a b = moved_one armed w w2 w3 r reply reply2 _ _ all a.moved b.moved (a.around ∙ sym b.around) (λ p q q2 open_p h h2.
    record { same = h.0 ∙ sym h2.0; says = state_one p.content p.run reply reply2 open_p.told h.1 h2.1; still = open_like armed p q open_p (ap (λ (x : Place). x.content) h.0) (ap (λ (x : Place). x.fuse) h.0) })
done_one armed laws w (Stop r) reply reply2 w2 w3 all there one a b = moved_one armed w w2 w3 r reply reply2 _ _ all a.moved b.moved (a.around ∙ sym b.around) (λ p q q2 open_p h h2.
    record { same = h.0 ∙ sym h2.0; says = h.1 ∙ sym h2.1; still = open_like armed p q open_p (ap (λ (x : Place). x.content) h.0) (ap (λ (x : Place). x.fuse) h.0) })
done_one armed laws w (Open r) reply reply2 w2 w3 all there one a b = moved_one armed w w2 w3 r reply reply2 _ _ all a.moved b.moved (a.around ∙ sym b.around) (λ p q q2 open_p h h2.
    let content : q.content ≡ q2.content = h.0.tells.0 ∙ sym h2.0.tells.0 in
    let fuse : q.fuse ≡ q2.fuse = h.0.tells.1 ∙ sym h2.0.tells.1 in
    let run : q.run ≡ q2.run = opens_one p.content q.run q2.run open_p.told h.0.runs h2.0.runs in
    let planted : q.planted ≡ q2.planted = h.0.planted_same ∙ sym h2.0.planted_same in
    record { same = λ i. record { content = content i; fuse = fuse i; run = run i; planted = planted i }; says = h.1 ∙ sym h2.1; still = open_like armed p q open_p h.0.tells.0 h.0.tells.1 })
done_one armed laws w (Cast r) reply reply2 w2 w3 all there one a b =
    let p = stands_within w.places r (ltb-true r (length w.places) there) in
    let open_p = open_at armed w.places r p.0 all p.1 in
    let sent = sent_one _ _ w.around reply reply2 w2.around w3.around (λ x y is is2. told_one armed p.0 x y (λ s. written_cast (kept_of s.state.durable)) open_p
    (of_place w r (λ p. IfSome (state_at p) (λ s. x ≡ written_cast (kept_of s.state.durable))) p.0 p.1 is) (of_place w r (λ p. IfSome (state_at p) (λ s. y ≡ written_cast (kept_of s.state.durable))) p.0 p.1 is2)) a.around b.around in
    moved_one armed w w2 w3 r reply reply2 _ _ all a.moved b.moved sent.0 (λ p q q2 open_p h h2. record { same = h ∙ sym h2; says = sent.1; still = open_like armed p q open_p (ap (λ (x : Place). x.content) h) (ap (λ (x : Place). x.fuse) h) })
done_one armed laws w (Export r) reply reply2 w2 w3 all there one a b =
    let p = stands_within w.places r (ltb-true r (length w.places) there) in
    let s = told_state armed p.0 (open_at armed w.places r p.0 all p.1) in
    let is = λ (said : Result (List ℕ) ℕ) (at : ExportsAt w r said). subst (λ (o : Option ReplicaState). IfSome o (λ s. IsExport (kept_of s.state.durable) said)) s.1
    (of_place w r (λ p. IfSome (state_at p) (λ s. IsExport (kept_of s.state.durable) said)) p.0 p.1 at) in
    let filed = export_one laws w r (kept_of s.0.state.durable) is w.around reply reply2 w2.around w3.around a.around b.around in
    moved_one armed w w2 w3 r reply reply2 _ _ all a.moved b.moved filed.0 (λ p q q2 open_p h h2. record { same = h ∙ sym h2; says = filed.1; still = open_like armed p q open_p (ap (λ (x : Place). x.content) h) (ap (λ (x : Place). x.fuse) h) })
done_one armed laws w (CarIn bytes) reply reply2 w2 w3 all there one a b =
    let filed = filed_one _ _ w.around reply reply2 w2.around w3.around (λ x y is is2. is ∙ sym is2) a.around b.around in
    record { same = world_is w2 w3 (a.moved ∙ sym b.moved) filed.0; says = filed.1; still = subst (AllByRecursion (IsOpen armed)) (sym a.moved) all }
done_one armed laws w (Wire bytes) reply reply2 w2 w3 all there one a b =
    let sent = sent_one _ _ w.around reply reply2 w2.around w3.around (λ x y is is2. is ∙ sym is2) a.around b.around in
    record { same = world_is w2 w3 (a.moved ∙ sym b.moved) sent.0; says = sent.1; still = subst (AllByRecursion (IsOpen armed)) (sym a.moved) all }
done_one armed laws w (Link r other up) reply reply2 w2 w3 all there one a b =
    record { same = world_is w2 w3 (a.moved ∙ sym b.moved) (a.around.1 ∙ sym b.around.1); says = a.around.0 ∙ sym b.around.0; still = subst (AllByRecursion (IsOpen armed)) (sym a.moved) all }
done_one armed laws w (SameOf r other) reply reply2 w2 w3 all there one a b =
    let p = stands_within w.places r (ltb-true r (length w.places) (first_true (nat_lt r (length w.places)) (nat_lt other (length w.places)) there)) in
    let q = stands_within w.places other (ltb-true other (length w.places) (second_true (nat_lt r (length w.places)) (nat_lt other (length w.places)) there)) in
    let of = λ (yes : Bool) (says : AtPlace w r (λ p. AtPlace w other (λ q. IfSome (state_at p) (λ s. IfSome (state_at q) (λ t. (yes ≡ true) ↔ SameProcessed s t))))).
    of_place w other (λ q. IfSome (state_at p.0) (λ s. IfSome (state_at q) (λ t. (yes ≡ true) ↔ SameProcessed s t))) q.0 q.1 (of_place w r (λ p. AtPlace w other (λ q. IfSome (state_at p) (λ s. IfSome (state_at q) (λ t. (yes ≡ true) ↔ SameProcessed s t)))) p.0 p.1 says) in
    let yes = same_says armed p.0 q.0 a.says.0 b.says.0 (open_at armed w.places r p.0 all p.1) (open_at armed w.places other q.0 all q.1) (of a.says.0 a.says.2) (of b.says.0 b.says.2) in
    record { same = world_is w2 w3 (a.moved ∙ sym b.moved) (a.around ∙ sym b.around); says = a.says.1 ∙ ap Same yes ∙ sym b.says.1; still = subst (AllByRecursion (IsOpen armed)) (sym a.moved) all }
done_one armed laws w (Work r workers budget) reply reply2 w2 w3 all there one a b = absurd (true≢false (sym one))
done_one armed laws w (Repair r workers) reply reply2 w2 w3 all there one a b = absurd (true≢false (sym one))
done_one armed laws w (Storm r writers writes) reply reply2 w2 w3 all there one a b = absurd (true≢false (sym one))
done_one armed laws w (StopAt r commit) reply reply2 w2 w3 all there one a b = moved_one armed w w2 w3 r reply reply2 _ _ all a.moved b.moved (a.around ∙ sym b.around) (λ p q q2 open_p h h2.
    record { same = h.0 ∙ sym h2.0; says = h.1 ∙ sym h2.1; still = record { told = ap (λ (x : Place). is_some x.content) h.0 ∙ open_p.told; no_fuse = λ off. absurd (true≢false (sym one ∙ off)) } })
done_one armed laws w (StopAfter r commit) reply reply2 w2 w3 all there one a b = moved_one armed w w2 w3 r reply reply2 _ _ all a.moved b.moved (a.around ∙ sym b.around) (λ p q q2 open_p h h2.
    record { same = h.0 ∙ sym h2.0; says = h.1 ∙ sym h2.1; still = record { told = ap (λ (x : Place). is_some x.content) h.0 ∙ open_p.told; no_fuse = λ off. absurd (true≢false (sym one ∙ off)) } })
done_one armed laws w command reply reply2 w2 w3 all there one a b = done_made armed laws w command reply reply2 w2 w3 all one refl a b

-- a refusal that is due

abbrev Due : WorldState → ReplicaState → Doing → Type 0
Due w s d = (due due2 : Option CoreError) → due_by w s d due → due_by w s d due2 → due ≡ due2

due_one : (armed : Bool) → (w : WorldState) (s : ReplicaState) (command : Command) → has_one_outcome armed command ≡ true → Due w s (doing command)
due_one armed w s (Put r key bytes) one = λ due due2 h h2. h ∙ sym h2
due_one armed w s (Del r key) one = λ due due2 h h2. delete_due_one s key due due2 h h2
due_one armed w s command one = λ due due2 h h2. h ∙ sym h2

is_reply_one : (error : CoreError) (reply reply2 : Reply) → IsReply error reply → IsReply error reply2 → reply ≡ reply2
is_reply_one error reply reply2 is is2 = over (kind_of error) is is2
  where
    over : (kind : Kind) → ByKind (answer_of error ≡ Ok reply) ⊥ ⊥ kind → ByKind (answer_of error ≡ Ok reply2) ⊥ ⊥ kind → reply ≡ reply2
    over Refusal a b = ok_is reply reply2 (sym a ∙ b)
    over Fault a b = absurd a
    over Shortage a b = absurd a

call_one : (w : WorldState) (p : Place) (d : Doing) (due due2 : Option Reply) (s : ReplicaState) → state_at p ≡ Some s → Due w s d → call_refused w p d due → call_refused w p d due2 → due ≡ due2
call_one w p d None None s is one a b = refl
call_one w p d None (Some reply) s is one a b = absurd (no_some (one None (Some b.0) (subst (λ (o : Option ReplicaState). IfSome o (λ s. due_by w s d None)) is a.1) (subst (λ (o : Option ReplicaState). IfSome o (λ s. due_by w s d (Some b.0))) is b.2)))
call_one w p d (Some reply) None s is one a b = absurd (no_some (one None (Some a.0) (subst (λ (o : Option ReplicaState). IfSome o (λ s. due_by w s d None)) is b.1) (subst (λ (o : Option ReplicaState). IfSome o (λ s. due_by w s d (Some a.0))) is a.2)))
call_one w p d (Some reply) (Some reply2) s is one a b =
    let same : a.0 ≡ b.0 = some_is (one (Some a.0) (Some b.0) (subst (λ (o : Option ReplicaState). IfSome o (λ s. due_by w s d (Some a.0))) is a.2) (subst (λ (o : Option ReplicaState). IfSome o (λ s. due_by w s d (Some b.0))) is b.2)) in
    ap Some (is_reply_one a.0 reply reply2 a.3 (subst (λ (error : CoreError). IsReply error reply2) (sym same) b.3))

refused_one : (w : WorldState) (p : Place) (d : Doing) (due due2 : Option Reply) (s : ReplicaState) → state_at p ≡ Some s → Due w s d → refused_by w p d due → refused_by w p d due2 → due ≡ due2
refused_one w p (At r (Tends tending)) due due2 s is one a b = a ∙ sym b
refused_one w p d due due2 s is one a b = call_one w p d due due2 s is one a b

refuses_for : (armed : Bool) → (w : WorldState) (d : Doing) (due due2 : Option Reply) → among_by (length w.places) w.around.bag d ≡ true → AreOpen armed w → ((s : ReplicaState) → Due w s d) → refuses_by w d due → refuses_by w d due2 → due ≡ due2
refuses_for armed w (At r act) due due2 there all one a b =
    let p = stands_within w.places r (ltb-true r (length w.places) (within (length w.places) w.around.bag r act there)) in
    let s = told_state armed p.0 (open_at armed w.places r p.0 all p.1) in
    refused_one w p.0 (At r act) due due2 s.0 s.1 (one s.0) (of_place w r (λ p. refused_by w p (At r act) due) p.0 p.1 a) (of_place w r (λ p. refused_by w p (At r act) due2) p.0 p.1 b)
refuses_for armed w (Compares r other) due due2 there all one a b = a ∙ sym b
refuses_for armed w d due due2 there all one a b = a ∙ sym b

refuses_one : (armed : Bool) → (w : WorldState) (command : Command) (due due2 : Option Reply) → is_there w command ≡ true → AreOpen armed w → has_one_outcome armed command ≡ true → Refuses w command due → Refuses w command due2 → due ≡ due2
refuses_one armed w command due due2 there all one a b = refuses_for armed w (doing command) due due2 there all (λ s. due_one armed w s command one) a b

-- a step without a fault of a keeper or of a desk: it is refused, it is done, or a fuse has fired

abbrev Named : List ℕ → ℕ → Type 0
Named numbers r = is_named numbers r ≡ true

record IsFused (armed : Bool) (w : WorldState) (command : Command) (entry : LineEntry) (reply : Reply) (w2 : WorldState) : Type 0 where
  pub on : armed ≡ true
  pub fault : IsFaulted w command (Named entry.keepers) (Named entry.own) reply w2

abbrev Plain : Bool → WorldState → Command → LineEntry → Reply → WorldState → Type 0
Plain armed w command entry reply w2 = (IsRefused w command reply w2 ⊎ IsDone w command reply w2) ⊎ IsFused armed w command entry reply w2

plain_row : (armed : Bool) (w : WorldState) (command : Command) (entry : LineEntry) (reply : Reply) (w2 : WorldState) → AreOpen armed w → NamesNone entry → Step w command entry reply w2 → Plain armed w command entry reply w2
plain_row armed w command entry reply w2 all none step = over step.row
  where
    over : Row w command (Named entry.keepers) (Named entry.own) (Named entry.desks) reply w2 → Plain armed w command entry reply w2
    over (inl (inl row)) = inl row
    over (inl (inr fault)) = by_flag armed refl
      where
        unfused : armed ≡ false → (has_fired fault.moved.old.fuse fault.moved.new.fuse ≡ true) ⊎ Named entry.own fault.at → ⊥
        unfused off (inl fired) = true≢false (sym (ap (λ (f : Option Fuse). has_fired f fault.moved.new.fuse) (sym ((open_at armed w.places fault.at fault.moved.old all fault.moved.stands).no_fuse off)) ∙ fired))
        unfused off (inr named) = none_named none.0 fault.at named

        by_flag : (flag : Bool) → armed ≡ flag → Plain armed w command entry reply w2
        by_flag true on = inr (record { on = on; fault = fault })
        by_flag false off = absurd (unfused off fault.moved.holds.why)
    over (inr peer) = absurd (none_named none.1 peer.at peer.cause)

-- no entry names a keeper that failed by itself, so a fault is that of a fuse
module _ (armed : Bool) (laws : OneLaws) (w : WorldState) (command : Command) (all : AreOpen armed w) (one : has_one_outcome armed command ≡ true) where
  fused_at : (entry : LineEntry) (reply : Reply) (w2 : WorldState) → NamesNone entry → (fused : IsFused armed w command entry reply w2) → IsFiredAt armed w command fused.fault.at fused.fault.moved.old fused.fault.moved.new
  fused_at entry reply w2 none fused = let fault = fused.fault in
      fired_at armed w command fault.at fault.moved.old fault.moved.new _ one fault.among (none_named none.0 fault.at) (open_at armed w.places fault.at fault.moved.old all fault.moved.stands) fault.moved.holds

  fused_one : (entry entry2 : LineEntry) (reply reply2 : Reply) (w2 w3 : WorldState) → NamesNone entry → NamesNone entry2 → IsFused armed w command entry reply w2 → IsFused armed w command entry2 reply2 w3 → IsOneStep armed w2 w3 reply reply2
  fused_one entry entry2 reply reply2 w2 w3 none none2 a b =
      let at = fused_at entry reply w2 none a in
      let at2 = fused_at entry2 reply2 w3 none2 b in
      let same : b.fault.at ≡ a.fault.at = some_is (sym at2.focused ∙ at.focused) in
      let moved : Moved a.fault.at w.places w3.places (CutShort w command (Named entry2.own b.fault.at)) = subst (λ (n : ℕ). Moved n w.places w3.places (CutShort w command (Named entry2.own b.fault.at))) same b.fault.moved in
      moved_one armed w w2 w3 a.fault.at reply reply2 _ _ all a.fault.moved moved (a.fault.around ∙ sym b.fault.around)
      (λ p q q2 open_p h h2. fired_place armed laws w command p q q2 reply reply2 _ _ all one a.on at.made (none_named none.0 a.fault.at) (none_named none2.0 b.fault.at) open_p (a.fault.says ∙ sym b.fault.says) h h2)

  fused_done : (entry : LineEntry) (reply reply2 : Reply) (w2 w3 : WorldState) → NamesNone entry → IsFused armed w command entry reply w2 → IsDone w command reply2 w3 → ⊥
  fused_done entry reply reply2 w2 w3 none a b =
      let at = fused_at entry reply w2 none a in
      let moved = subst (λ (o : Option ℕ). MovedAt o w.places w3.places (λ p q. DoneAt w command p q reply2)) at.focused b.moved in
      let old : moved.old ≡ a.fault.moved.old = some_is (sym moved.stands ∙ a.fault.moved.stands) in
      let done = split_done w (doing command) a.fault.moved.old moved.new reply2 at.made (subst (λ (p : Place). DoneAt w command p moved.new reply2) old moved.holds) in
      fired_not_done armed laws w command a.fault.at a.fault.moved.old a.fault.moved.new moved.new reply2 all one at done.1

  fused_refused : (entry : LineEntry) (reply reply2 : Reply) (w2 w3 : WorldState) → is_there w command ≡ true → NamesNone entry → refuses_block reply2 ≡ false → IsFused armed w command entry reply w2 → IsRefused w command reply2 w3 → ⊥
  fused_refused entry reply reply2 w2 w3 there none free a b =
      let at = fused_at entry reply w2 none a in
      true≢false (sym (refused_seen w (doing command) reply2 a.fault.at a.fault.moved.old at.made at.focused a.fault.moved.stands a.fault.asked b.cause) ∙ free)

step_one : (armed : Bool) → (laws : OneLaws) (w : WorldState) (command : Command) (entry entry2 : LineEntry) (reply reply2 : Reply) (w2 w3 : WorldState) → AreOpen armed w → has_one_outcome armed command ≡ true → NamesNone entry → NamesNone entry2 → (armed ≡ true → refuses_block reply ≡ false) → (armed ≡ true → refuses_block reply2 ≡ false)
    → Step w command entry reply w2 → Step w command entry2 reply2 w3 → IsOneStep armed w2 w3 reply reply2
step_one armed laws w command entry entry2 reply reply2 w2 w3 all one none none2 free free2 a b = over (plain_row armed w command entry reply w2 all none a) (plain_row armed w command entry2 reply2 w3 all none2 b)
  where
    over : Plain armed w command entry reply w2 → Plain armed w command entry2 reply2 w3 → IsOneStep armed w2 w3 reply reply2
    over (inl (inl x)) (inl (inl y)) = record {
      same = x.same ∙ sym y.same;
      says = some_is (refuses_one armed w command (Some reply) (Some reply2) a.there all one x.cause y.cause);
      still = subst (AreOpen armed) (sym x.same) all;
    }
    over (inl (inl x)) (inl (inr y)) = absurd (no_some (refuses_one armed w command None (Some reply) a.there all one y.allowed x.cause))
    over (inl (inr x)) (inl (inl y)) = absurd (no_some (refuses_one armed w command None (Some reply2) a.there all one x.allowed y.cause))
    over (inl (inr x)) (inl (inr y)) = done_one armed laws w command reply reply2 w2 w3 all a.there one x y
    over (inr x) (inr y) = fused_one armed laws w command all one entry entry2 reply reply2 w2 w3 none none2 x y
    over (inr x) (inl (inl y)) = absurd (fused_refused armed laws w command all one entry reply reply2 w2 w3 a.there none (free2 x.on) x y)
    over (inr x) (inl (inr y)) = absurd (fused_done armed laws w command all one entry reply reply2 w2 w3 none x y)
    over (inl (inl x)) (inr y) = absurd (fused_refused armed laws w command all one entry2 reply2 reply w3 w2 a.there none2 (free y.on) y x)
    over (inl (inr x)) (inr y) = absurd (fused_done armed laws w command all one entry2 reply2 reply w3 w2 none2 y x)

-- and runs

not_true : (b : Bool) → not b ≡ true → b ≡ false
not_true true e = absurd (true≢false (sym e))
not_true false e = refl

line_one : (armed : Bool) → (laws : OneLaws) (w : WorldState) (read : Option (Option Command)) (answer answer2 : Option Answer) (w2 w3 : WorldState) → AreOpen armed w → IsOne armed read → owns_none answer ≡ true → owns_none answer2 ≡ true → (armed ≡ true → blocks_none answer ≡ true) → (armed ≡ true → blocks_none answer2 ≡ true) → LineStep w read w2 answer → LineStep w read w3 answer2
    → (w2 ≡ w3) × (said_by answer ≡ said_by answer2) × AreOpen armed w2
line_one armed laws w None answer answer2 w2 w3 all one owned owned2 free free2 a b = absurd a
line_one armed laws w (Some None) answer answer2 w2 w3 all one owned owned2 free free2 a b = (a.0 ∙ sym b.0, ap said_by a.1 ∙ sym (ap said_by b.1), subst (AreOpen armed) (sym a.0) all)
line_one armed laws w (Some (Some command)) None answer2 w2 w3 all one owned owned2 free free2 a b = absurd a
line_one armed laws w (Some (Some command)) (Some answer) None w2 w3 all one owned owned2 free free2 a b = absurd b
line_one armed laws w (Some (Some command)) (Some answer) (Some answer2) w2 w3 all one owned owned2 free free2 a b =
    let step = step_one armed laws w command answer.entry answer2.entry answer.reply answer2.reply w2 w3 all one (entry_none answer owned) (entry_none answer2 owned2) (λ on. not_true (refuses_block answer.reply) (free on)) (λ on. not_true (refuses_block answer2.reply) (free2 on)) a b in
    (step.same, ap Some step.says, step.still)

pub runs_one : (armed : Bool) → (laws : OneLaws) (lines : List (List ℕ)) (answers answers2 : List (Option Answer)) (first last last2 : WorldState) → AreOpen armed first → AllByRecursion (λ line. IsOne armed (line_of line)) lines → own_free answers ≡ true → own_free answers2 ≡ true → NoneRefused armed answers → NoneRefused armed answers2 → Runs first lines answers last → Runs first lines answers2 last2
    → (replies_in answers ≡ replies_in answers2) × (last ≡ last2)
runs_one armed laws [] [] [] first last last2 all one owned owned2 free free2 a b = (refl, a ∙ sym b)
runs_one armed laws [] (x ∷ answers) answers2 first last last2 all one owned owned2 free free2 a b = absurd a
runs_one armed laws [] [] (y ∷ answers2) first last last2 all one owned owned2 free free2 a b = absurd b
runs_one armed laws (line ∷ lines) [] answers2 first last last2 all one owned owned2 free free2 a b = absurd a
runs_one armed laws (line ∷ lines) (x ∷ answers) [] first last last2 all one owned owned2 free free2 a b = absurd b
runs_one armed laws (line ∷ lines) (x ∷ answers) (y ∷ answers2) first last last2 all one owned owned2 free free2 (mid, step, rest) (mid2, step2, rest2) =
    let here = line_one armed laws first (line_of line) x y mid mid2 all one.0 (first_true (owns_none x) (own_free answers) owned) (first_true (owns_none y) (own_free answers2) owned2) (λ on. first_true (blocks_none x) (list_all blocks_none answers) (free on)) (λ on. first_true (blocks_none y) (list_all blocks_none answers2) (free2 on)) step step2 in
    let more = runs_one armed laws lines answers answers2 mid last last2 here.2 one.1 (second_true (owns_none x) (own_free answers) owned) (second_true (owns_none y) (own_free answers2) owned2) (λ on. second_true (blocks_none x) (list_all blocks_none answers) (free on)) (λ on. second_true (blocks_none y) (list_all blocks_none answers2) (free2 on)) rest (subst (λ (w : WorldState). Runs w lines answers2 last2) (sym here.0) rest2) in
    (λ i. here.1 i ∷ more.0 i, more.1)
