-- Lists of events one after another.
use Rattle.std.proofs.Common.{◌≡◌, List, [], ◌∷◌, ◌++◌, Some, sym, refl, ap, ◌∙◌, subst}
use Rattle.mc_base.specs.declared.cid.Cid.{Cid}
use Rattle.mc_model.specs.Events.{Event, Want, MayCome, happens, after, MayComeAll, Goes}
use Rattle.mc_model.specs.State.{Durable, Running, State, IsSound}
use Rattle.mc_model.specs.Wanted.{start_first}
use Rattle.mc_model.proofs.Sound.{sound_after}

pub after-append : (state : State) (first second : List Event) → after state (first ++ second) ≡ after (after state first) second
after-append state [] second = refl
after-append state (event ∷ first) second = after-append (happens state event) first second

pub may-append : (state : State) (first second : List Event) → MayComeAll state first → MayComeAll (after state first) second → MayComeAll state (first ++ second)
may-append state [] second may then_may = then_may
may-append state (event ∷ first) second may then_may = (may.0, may-append (happens state event) first second may.1 then_may)

pub goes_not : (state : State) → Goes state state
goes_not state = record { events = []; may = tt; ends = refl }

pub goes_one : (state : State) (event : Event) → MayCome state.durable state.run event → Goes state (happens state event)
goes_one state event may = record { events = event ∷ []; may = (may, tt); ends = refl }

pub goes_then : (a b c : State) → Goes a b → Goes b c → Goes a c
goes_then a b c g h = record {
  events = g.events ++ h.events;
  may = may-append a g.events h.events g.may (subst (λ (z : State). MayComeAll z h.events) (sym g.ends) h.may);
  ends = after-append a g.events h.events ∙ ap (λ z. after z h.events) g.ends ∙ h.ends;
}

sound_all : (state : State) (events : List Event) → IsSound state → MayComeAll state events → IsSound (after state events)
sound_all state [] sound may = sound
sound_all state (event ∷ events) sound may = sound_all (happens state event) events (sound_after state.durable state.run event may.0 sound.durable sound.run) may.1

pub goes_sound : (old new : State) → Goes old new → IsSound old → IsSound new
goes_sound old new g sound = subst IsSound g.ends (sound_all old g.events sound g.may)

-- the start of a job is Want, or nothing where nothing waits
start_goes : (durable : Durable) (run : Running) (waiting : List Cid) → run.queue.waiting ≡ waiting → Goes (record { durable = durable; run = Some run }) (record { durable = durable; run = Some (record run { queue = start_first run.queue waiting }) })
start_goes durable run [] e = goes_not (record { durable = durable; run = Some run })
start_goes durable run (c ∷ rest) e =
    subst (λ (z : List Cid). Goes (record { durable = durable; run = Some run }) (record { durable = durable; run = Some (record run { queue = start_first run.queue z }) })) e
    (goes_one (record { durable = durable; run = Some run }) Want (λ none. absurd (let no : c ∷ rest ≡ [] = sym e ∙ none in cc)))

pub next_goes : (durable : Durable) (run : Running) → Goes (record { durable = durable; run = Some run }) (record { durable = durable; run = Some (record run { queue = start_first run.queue run.queue.waiting }) })
next_goes durable run = start_goes durable run run.queue.waiting refl
