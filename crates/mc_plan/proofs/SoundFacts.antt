-- Whatever happens to a replica leaves it sound.
use Rattle.std.proofs.Common.{◌≡◌, ◌≤◌, ℕ, length, Bool, true, false, not, List, [], ◌∷◌, ◌++◌, Option, Some, None, Result, Ok, Err, refl, sym, ◌∙◌, ap, subst, inl, inr}
use Rattle.std.specs.Prelude.{IfSome, is_some, unwrap_or}
use Rattle.mc_base.specs.Told.{Told}
use Rattle.mc_model.specs.Events.{Event, Stop, Open, MayCome, MayComeAll, StaysSound, after, happens}
use Rattle.mc_model.specs.Kept.{Kept, IsKept}
use Rattle.mc_model.specs.State.{Durable, HasSoundMark, IsLinked, IsSound, Running, State, Walk, WalkHolds, WholeHolds, durable_of, walked}
use Rattle.mc_model.specs.Graph.{no_gaps}
use Rattle.mc_model.specs.Wanted.{Queue, IsOnce, no_queue}
use Rattle.mc_model.proofs.Bridge.{kept_holds, holds_kept}
use Rattle.mc_model.proofs.Sound.{sound_after, stays_sound}
use Rattle.mc_keep.specs.Causes.{fires, CommitFails}
use Rattle.mc_keep.specs.declared.fuse.Fuse.{Fuse}
use Rattle.mc_keep.specs.declared.rows.Summary.{Summary}
use Rattle.mc_keep.specs.Tables.{IsSummary}
use Rattle.mc_plan.specs.Counted.{AreSound, run_of}
use Rattle.mc_plan.specs.Events.{ReplicaState, state_of, goes_on, all_happen, stopped, stopped_with, MayHappen, Goes, IsCutShort, CommitBreaks, Breaks, Part}

pub may_all : (events : List Event) (s : ReplicaState) → MayHappen s events → MayComeAll s.state events
may_all [] s p = tt
may_all (event ∷ events) s p = (p.0, may_all events (goes_on s event) p.2)

last_sound : (state : State) (events : List Event) → StaysSound state events → IsSound (after state events)
last_sound state [] h = h
last_sound state (event ∷ events) h = last_sound (happens state event) events h.1

pub all_after : (events : List Event) (s : ReplicaState) → (all_happen s events).state ≡ after s.state events
all_after [] s = refl
all_after (event ∷ events) s = all_after events (goes_on s event)

all_sound : (events : List Event) (s : ReplicaState) → MayHappen s events → IsSound s.state → IsSound (all_happen s events).state
all_sound events s may sound = subst IsSound (sym (all_after events s)) (last_sound s.state events (stays_sound s.state events sound (may_all events s may)))

-- all events have happened
pub goes_sound : (events : List Event) (s new : ReplicaState) → Goes events s new → IsSound s.state → IsSound new.state
goes_sound events s new goes sound = subst (λ (x : ReplicaState). IsSound x.state) (sym goes.ends) (all_sound events s goes.may sound)

-- the replica stops
pub stop_sound : (durable : Durable) (run : Option Running) → IsSound (record { durable = durable; run = run }) → IsSound (record { durable = durable; run = None })
stop_sound durable None sound = sound
stop_sound durable (Some run) sound = sound_after durable (Some run) Stop tt sound.durable sound.run

one_sound : (event : Event) (s : ReplicaState) → MayCome s.state.durable s.state.run event → IsSound s.state → IsSound (happens s.state event)
one_sound event s may sound = sound_after s.state.durable s.state.run event may sound.durable sound.run

-- a commit that fails leaves what was, or what it makes
fails_sound : (fire : Option Bool) (rose : Type 0) (old whole left : Durable) → CommitFails fire rose old whole left
    → IsSound (record { durable = old; run = None }) → IsSound (record { durable = whole; run = None }) → IsSound (record { durable = left; run = None })
fails_sound None rose old whole left (r, inl e) p q = subst (λ d. IsSound (record { durable = d; run = None })) (sym e) p
fails_sound None rose old whole left (r, inr e) p q = subst (λ d. IsSound (record { durable = d; run = None })) (sym e) q
fails_sound (Some false) rose old whole left e p q = subst (λ d. IsSound (record { durable = d; run = None })) (sym e) p
fails_sound (Some true) rose old whole left (inl e) p q = subst (λ d. IsSound (record { durable = d; run = None })) (sym e) q
fails_sound (Some true) rose old whole left (inr (r, e)) p q = subst (λ d. IsSound (record { durable = d; run = None })) (sym e) p

cut_sound : (events : List Event) (rose : Type 0) (s new : ReplicaState) → IsCutShort events rose s new → IsSound s.state → IsSound new.state
cut_sound [] rose s new p sound = subst (λ (x : ReplicaState). IsSound x.state) (sym p.1) (stop_sound s.state.durable s.state.run sound)
cut_sound (event ∷ events) rose s new (inl p) sound = subst (λ (x : ReplicaState). IsSound x.state) (sym p.1) (stop_sound s.state.durable s.state.run sound)
cut_sound (event ∷ events) rose s new (inr b) sound =
    subst (λ (x : ReplicaState). IsSound x.state) (sym b.ends)
    (fails_sound (fires s.fuse) rose s.state.durable (happens s.state event).durable b.left b.fails (stop_sound s.state.durable s.state.run sound)
    (stop_sound (happens s.state event).durable (happens s.state event).run (one_sound event s b.may sound)))

-- they are cut short
pub breaks_sound : (events : List Event) (rose : Type 0) (s new : ReplicaState) → Breaks events rose s new → IsSound s.state → IsSound new.state
breaks_sound events rose s new b sound = cut_sound b.rest rose (all_happen s b.so_far) new b.fate (all_sound b.so_far s b.may sound)

pub part_sound : {T E : Type 0} (events : List Event) (rose : Type 0) (result : Result T E) (s new : ReplicaState) → Part events rose result s new → IsSound s.state → IsSound new.state
part_sound events rose (Ok value) s new p sound = goes_sound events s new p sound
part_sound events rose (Err error) s new p sound = breaks_sound events rose s new p sound

-- the fact that a replica keeps, and soundness

some_is : (kept other : Kept) → Some kept ≡ Some other → kept ≡ other
some_is kept other e = ap (λ o. unwrap_or o kept) e

pub state_sound : (stop : Bool) (kept : Kept) (run : Running) → AreSound stop (Some kept) run → IsSound (record { durable = durable_of kept; run = run_of stop run })
state_sound true kept run s = record { durable = kept_holds kept (s.is_kept kept refl); run = s.down kept refl refl }
state_sound false kept run s = record { durable = kept_holds kept (s.is_kept kept refl); run = (s.once kept refl refl, whole run.whole refl) }
  where
    walks : (walk : Option Walk) → run.walk ≡ walk → run.whole ≡ false → WalkHolds (durable_of kept) run.queue walk
    walks None e part = tt
    walks (Some (end, next)) e part = s.walking kept refl refl part end next e

    whole : (b : Bool) → run.whole ≡ b → WholeHolds (durable_of kept) run.queue run.walk b
    whole true e = (s.no_walk kept refl refl e, s.linked kept refl refl e, s.marked kept refl refl e)
    whole false e = (s.dirty kept refl refl e, walks run.walk refl e)

walk_of : (durable : Durable) (q : Queue) (walk : Option Walk) (end next : ℕ) → WalkHolds durable q walk → walk ≡ Some (end, next) → (next ≤ end) × (end ≤ length durable.order) × IsLinked durable q (walked durable.order end next)
walk_of durable q walk end next holds e = subst (WalkHolds durable q) e holds

module _ (kept : Kept) (run : Running) where
  running_sound : IsSound (record { durable = durable_of kept; run = Some run }) → AreSound false (Some kept) run
  running_sound s = record {
    is_kept = λ k e. subst IsKept (some_is kept k e) (holds_kept kept s.durable);
    once = λ k e up. subst (λ (x : Kept). IsOnce x.order run.queue) (some_is kept k e) s.run.0;
    no_walk = λ k e up full. (at_whole true full).0;
    linked = λ k e up full. subst (λ (x : Kept). IsLinked (durable_of x) run.queue x.order) (some_is kept k e) (at_whole true full).1;
    marked = λ k e up full. subst (λ (x : Kept). x.mark ≡ not (no_gaps (durable_of x).graph x.order)) (some_is kept k e) (at_whole true full).2;
    dirty = λ k e up part. subst (λ (x : Kept). x.mark ≡ true) (some_is kept k e) (at_whole false part).0;
    walking = λ k e up part end next is.
        subst (λ (x : Kept). (next ≤ end) × (end ≤ length x.order) × IsLinked (durable_of x) run.queue (walked x.order end next)) (some_is kept k e)
        (walk_of (durable_of kept) run.queue run.walk end next (at_whole false part).1 is);
    down = λ k e down. absurd (let no : false ≡ true = down in cc);
  }
    where
      at_whole : (b : Bool) → run.whole ≡ b → WholeHolds (durable_of kept) run.queue run.walk b
      at_whole b e = subst (WholeHolds (durable_of kept) run.queue run.walk) e s.run.1

  down_sound : IsSound (record { durable = durable_of kept; run = None }) → AreSound true (Some kept) run
  down_sound s = record {
    is_kept = λ k e. subst IsKept (some_is kept k e) (holds_kept kept s.durable);
    once = λ k e up. absurd (let no : true ≡ false = up in cc);
    no_walk = λ k e up full. absurd (let no : true ≡ false = up in cc);
    linked = λ k e up full. absurd (let no : true ≡ false = up in cc);
    marked = λ k e up full. absurd (let no : true ≡ false = up in cc);
    dirty = λ k e up part. absurd (let no : true ≡ false = up in cc);
    walking = λ k e up part end next is. absurd (let no : true ≡ false = up in cc);
    down = λ k e down clear. subst (λ (x : Kept). no_gaps (durable_of x).graph x.order ≡ true) (some_is kept k e) (s.run (ap (λ (x : Kept). x.mark) (some_is kept k e) ∙ clear));
  }

pub sound_state : (stop : Bool) (kept : Kept) (run : Running) → IsSound (record { durable = durable_of kept; run = run_of stop run }) → AreSound stop (Some kept) run
sound_state true kept run s = down_sound kept run s
sound_state false kept run s = running_sound kept run s

pub silent_sound : (stop : Bool) (run : Running) → AreSound stop None run
silent_sound stop run = record {
  is_kept = λ k e. absurd (let no : false ≡ true = ap is_some e in cc);
  once = λ k e up. absurd (let no : false ≡ true = ap is_some e in cc);
  no_walk = λ k e up full. absurd (let no : false ≡ true = ap is_some e in cc);
  linked = λ k e up full. absurd (let no : false ≡ true = ap is_some e in cc);
  marked = λ k e up full. absurd (let no : false ≡ true = ap is_some e in cc);
  dirty = λ k e up part. absurd (let no : false ≡ true = ap is_some e in cc);
  walking = λ k e up part end next is. absurd (let no : false ≡ true = ap is_some e in cc);
  down = λ k e down clear. absurd (let no : false ≡ true = ap is_some e in cc);
}

-- what is told of it stays sound, where what becomes of it does
pub told_sound : (P : ReplicaState → ReplicaState → Type 0) (told told_new : Option Kept) (fuse fuse_new : Option Fuse) (stop stop_new : Bool) (run run_new : Running)
    → ((s new : ReplicaState) → P s new → IsSound s.state → IsSound new.state) → (told ≡ None → told_new ≡ None)
    → Told (state_of told fuse (run_of stop run)) (state_of told_new fuse_new (run_of stop_new run_new)) P → AreSound stop told run → AreSound stop_new told_new run_new
told_sound P None told_new fuse fuse_new stop stop_new run run_new keeps silent becomes sound = subst (λ t. AreSound stop_new t run_new) (sym (silent refl)) (silent_sound stop_new run_new)
told_sound P (Some kept) None fuse fuse_new stop stop_new run run_new keeps silent becomes sound = silent_sound stop_new run_new
told_sound P (Some kept) (Some now) fuse fuse_new stop stop_new run run_new keeps silent becomes sound = sound_state stop_new now run_new (keeps _ _ becomes (state_sound stop kept run sound))

pub goes_told : (events : List Event) (told told_new : Option Kept) (fuse fuse_new : Option Fuse) (stop stop_new : Bool) (run run_new : Running) → (told ≡ None → told_new ≡ None)
    → Told (state_of told fuse (run_of stop run)) (state_of told_new fuse_new (run_of stop_new run_new)) (Goes events) → AreSound stop told run → AreSound stop_new told_new run_new
goes_told events told told_new fuse fuse_new stop stop_new run run_new silent becomes sound =
    told_sound (Goes events) told told_new fuse fuse_new stop stop_new run run_new (goes_sound events) silent becomes sound

pub breaks_told : (events : List Event) (rose : Type 0) (told told_new : Option Kept) (fuse fuse_new : Option Fuse) (stop stop_new : Bool) (run run_new : Running) → (told ≡ None → told_new ≡ None)
    → Told (state_of told fuse (run_of stop run)) (state_of told_new fuse_new (run_of stop_new run_new)) (Breaks events rose) → AreSound stop told run → AreSound stop_new told_new run_new
breaks_told events rose told told_new fuse fuse_new stop stop_new run run_new silent becomes sound =
    told_sound (Breaks events rose) told told_new fuse fuse_new stop stop_new run run_new (breaks_sound events rose) silent becomes sound

-- only reads have come to it, and it may have stopped
pub looks_sound : (told told_new : Option Kept) (stop stop_new : Bool) (run : Running) → told_new ≡ told → (stop ≡ true → stop_new ≡ true) → AreSound stop told run → AreSound stop_new told_new run
looks_sound told told_new stop stop_new run same stays sound = subst (λ t. AreSound stop_new t run) (sym same) (over told stop stop_new stays sound)
  where
    over : (told : Option Kept) (stop stop_new : Bool) → (stop ≡ true → stop_new ≡ true) → AreSound stop told run → AreSound stop_new told run
    over None stop stop_new stays sound = silent_sound stop_new run
    over (Some kept) false false stays sound = sound
    over (Some kept) true true stays sound = sound
    over (Some kept) false true stays sound = down_sound kept run (stop_sound (durable_of kept) (Some run) (state_sound false kept run sound))
    over (Some kept) true false stays sound = absurd (let no : false ≡ true = stays refl in cc)

-- it was opened
pub open_sound : (told told_new : Option Kept) (queue : Queue) (summary : Summary) → told_new ≡ told → queue ≡ no_queue → IfSome told IsKept → IfSome told HasSoundMark
    → IfSome told (λ kept. IsSummary kept summary) → AreSound false told_new (record { queue = queue; walk = None; batch = None; whole = not summary.mark })
open_sound told told_new queue summary same none kept marked is = subst (λ t. AreSound false t (record { queue = queue; walk = None; batch = None; whole = not summary.mark })) (sym same) (over told kept marked is)
  where
    over : (told : Option Kept) → IfSome told IsKept → IfSome told HasSoundMark → IfSome told (λ kept. IsSummary kept summary)
        → AreSound false told (record { queue = queue; walk = None; batch = None; whole = not summary.mark })
    over None kept marked is = silent_sound false _
    over (Some k) kept marked is =
        running_sound k (record { queue = queue; walk = None; batch = None; whole = not summary.mark })
        (subst (λ q. IsSound (record { durable = durable_of k; run = Some (record { queue = q; walk = None; batch = None; whole = not summary.mark }) })) (sym none)
        (subst (λ m. IsSound (record { durable = durable_of k; run = Some (record { queue = no_queue; walk = None; batch = None; whole = not m }) })) (sym is.3)
        (sound_after (durable_of k) None Open tt (kept_holds k kept) marked)))

-- its keeper, once it is stopped
pub stopped_mark : (stop : Bool) (told : Option Kept) (run : Running) → AreSound stop told run → IfSome told HasSoundMark
stopped_mark stop None run sound = tt
stopped_mark stop (Some kept) run sound = (stop_sound (durable_of kept) (run_of stop run) (state_sound stop kept run sound)).run

pub is_sound_told : (told : Option Kept) (fuse : Option Fuse) (stop : Bool) (run : Running) → AreSound stop told run → IfSome (state_of told fuse (run_of stop run)) (λ s. IsSound s.state)
is_sound_told None fuse stop run sound = tt
is_sound_told (Some kept) fuse stop run sound = state_sound stop kept run sound

-- one that ran has read, and stopped or not
pub looks_down : (told told_new : Option Kept) (stop stop_new : Bool) (run : Running) → stop ≡ false → told_new ≡ told → AreSound stop told run → AreSound stop_new told_new run
looks_down told told_new stop stop_new run up same sound = looks_sound told told_new stop stop_new run same (λ down. absurd (let no : false ≡ true = sym up ∙ down in cc)) sound
