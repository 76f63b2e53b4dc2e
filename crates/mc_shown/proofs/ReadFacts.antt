-- A read of a node that is told of as another one: with another answer, or as a want of memory.
use Rattle.std.proofs.Common.{◌≡◌, inl, inr, List, Option, Some, None, Result, Ok, Err, refl, ap, ◌∙◌}
use Rattle.mc_base.specs.Causes.{Rose}
use Rattle.mc_base.specs.Told.{Told}
use Rattle.mc_model.specs.Events.{Event}
use Rattle.mc_model.specs.Kept.{Kept}
use Rattle.mc_keep.specs.Causes.{Kind, Refusal, Fault, Shortage}
use Rattle.mc_core.specs.declared.CoreError.{CoreError}
use Rattle.mc_core.specs.declared.CoreError.TheVariants.{Memory}
use Rattle.mc_core.specs.Calls.{Begins, Call, Faults, IsRefused, Stays}
use Rattle.mc_core.specs.Events.{ReplicaState, all_happen}
use Rattle.mc_core.specs.Hears.{unless_short}
use Rattle.mc_core.specs.Exact.{stop_front}
use Rattle.mc_core.specs.Reads.{OnlyReads, read_refusal}
use Rattle.mc_core.specs.Refusals.{ByKind, Is, kind_of}
use Rattle.mc_node.specs.declared.node.Seen.{Seen}
use Rattle.mc_node.specs.Items.{Item, state_in}
use Rattle.mc_node.specs.Moves.{ReadDoes, SeenOver}
use Rattle.mc_node.specs.Views.{Turned}
use Rattle.mc_turn.specs.declared.view.View.{View}
use Rattle.mc_shown.proofs.TurnFacts.{turned_more}

told_more : {A B : Type 0} (P Q : A → B → Type 0) → ((x : A) (y : B) → P x y → Q x y) → (a : Option A) (b : Option B) → Told a b P → Told a b Q
told_more P Q more None b p = tt
told_more P Q more (Some x) None p = absurd p
told_more P Q more (Some x) (Some y) p = more x y p

module _ {A B : Type 0} (P : Kept → A → Type 0) (Q : Kept → B → Type 0) where
  abbrev Reads : {T : Type 0} → (Kept → T → Type 0) → Type 0 → Result (Seen T) CoreError → ReplicaState → ReplicaState → Type 0
  Reads R rose result s new = Call (Is (read_refusal s)) (OnlyReads (SeenOver R) s) (Stays s) rose result s new

  -- with another answer
  pub read_answer : (seen : Seen A) (answer : B) (old new : List Item) → ((kept : Kept) → P kept seen.answer → Q kept answer) → ReadDoes P (Ok seen) old new → ReadDoes Q (Ok (record { answer = answer; length = seen.length })) old new
  read_answer seen answer old new more d = record {
    before = d.before;
    after = d.after;
    was = d.was;
    is = d.is;
    since = d.since;
    acts = record {
      call = told_more (Reads P (Rose d.before.own d.after.own) (Ok seen)) (Reads Q (Rose d.before.own d.after.own) (Ok (record { answer = answer; length = seen.length })))
          (λ s now c. record { allowed = c.allowed; events = c.events; makes = (c.makes.0, (more _ c.makes.1.0, c.makes.1.1)); goes = c.goes }) (state_in d.before) (state_in d.after) d.acts.call;
      more = d.acts.more;
      goes = d.acts.goes;
      keeps = d.acts.keeps;
    };
    notes = d.notes;
    fronts = d.fronts;
    grows = d.grows;
  }

  -- as a want of memory that came after it
  pub read_short : (seen : Seen A) (old new : List Item) → ReadDoes P (Ok seen) old new → ReadDoes Q (Err Memory) old new
  read_short seen old new d = record {
    before = d.before;
    after = d.after;
    was = d.was;
    is = d.is;
    since = d.since;
    acts = record {
      call = told_more (Reads P (Rose d.before.own d.after.own) (Ok seen)) (Reads Q (Rose d.before.own d.after.own) (Err Memory))
          (λ s now c. c.goes.ends ∙ ap (all_happen s) c.makes.0) (state_in d.before) (state_in d.after) d.acts.call;
      more = d.acts.more;
      goes = d.acts.goes;
      keeps = d.acts.keeps;
    };
    notes = inl d.notes;
    fronts = d.fronts;
    grows = d.grows;
  }

  -- and a refusal is one of both
  refused_more : (error : CoreError) (rose : Type 0) (s now : ReplicaState) → Reads P rose (Err error) s now → Reads Q rose (Err error) s now
  refused_more error rose s now c = by_kind (kind_of error) c
    where
      begun : (events : List Event) → Begins (OnlyReads (SeenOver P) s) events → Begins (OnlyReads (SeenOver Q) s) events
      begun events (inl e) = inl e
      begun events (inr p) = inl p.1.0

      by_kind : (kind : Kind) → ByKind (IsRefused (Is (read_refusal s)) error s now) (Faults (OnlyReads (SeenOver P) s) rose s now) (Stays s now) kind → ByKind (IsRefused (Is (read_refusal s)) error s now) (Faults (OnlyReads (SeenOver Q) s) rose s now) (Stays s now) kind
      by_kind Refusal c = c
      by_kind Fault c = record { events = c.events; begins = begun c.events c.begins; breaks = c.breaks }
      by_kind Shortage c = c

  short_same : (error : CoreError) → unless_short {T = Seen A} (Err error) None ≡ unless_short {T = Seen B} (Err error) None
  short_same Memory = refl
  short_same error = refl

  pub read_refused : (error : CoreError) (old new : List Item) → ReadDoes P (Err error) old new → ReadDoes Q (Err error) old new
  read_refused error old new d = record {
    before = d.before;
    after = d.after;
    was = d.was;
    is = d.is;
    since = d.since;
    acts = record {
      call = told_more (Reads P (Rose d.before.own d.after.own) (Err error)) (Reads Q (Rose d.before.own d.after.own) (Err error)) (refused_more error (Rose d.before.own d.after.own)) (state_in d.before) (state_in d.after) d.acts.call;
      more = d.acts.more;
      goes = d.acts.goes;
      keeps = d.acts.keeps;
    };
    notes = d.notes;
    fronts = d.fronts ∙ ap (stop_front _) (short_same error);
    grows = d.grows;
  }

  -- the same at a seat
  module _ {E : Type 0} (read : List E → List Item) where
    pub turned_answer : (seen : Seen A) (answer : B) (before after : View E) → ((kept : Kept) → P kept seen.answer → Q kept answer) → Turned before after (λ old new. ReadDoes P (Ok seen) (read old) (read new))
        → Turned before after (λ old new. ReadDoes Q (Ok (record { answer = answer; length = seen.length })) (read old) (read new))
    turned_answer seen answer before after more t =
        turned_more before after (λ old new. ReadDoes P (Ok seen) (read old) (read new)) (λ old new. ReadDoes Q (Ok (record { answer = answer; length = seen.length })) (read old) (read new)) (λ old new d. read_answer seen answer (read old) (read new) more d) t

    pub turned_short : (seen : Seen A) (before after : View E) → Turned before after (λ old new. ReadDoes P (Ok seen) (read old) (read new)) → Turned before after (λ old new. ReadDoes Q (Err Memory) (read old) (read new))
    turned_short seen before after t =
        turned_more before after (λ old new. ReadDoes P (Ok seen) (read old) (read new)) (λ old new. ReadDoes Q (Err Memory) (read old) (read new)) (λ old new d. read_short seen (read old) (read new) d) t

    pub turned_refused : (error : CoreError) (before after : View E) → Turned before after (λ old new. ReadDoes P (Err error) (read old) (read new)) → Turned before after (λ old new. ReadDoes Q (Err error) (read old) (read new))
    turned_refused error before after t =
        turned_more before after (λ old new. ReadDoes P (Err error) (read old) (read new)) (λ old new. ReadDoes Q (Err error) (read old) (read new)) (λ old new d. read_refused error (read old) (read new) d) t
