-- What a work and a repair leave beside what other commands do.
use Rattle.std.proofs.Common.{◌≡◌, ℕ, Bool, true, false, true≢false, List, [], Option, Some, None, refl, sym, inl, inr}
use Rattle.std.specs.Prelude.{is_some}
use Rattle.mc_base.specs.Told.{Told}
use Rattle.mc_base.proofs.Telling.{told_weaker}
use Rattle.mc_keep.specs.Causes.{has_fired}
use Rattle.mc_keep.specs.declared.fuse.Fuse.{Fuse}
use Rattle.mc_model.specs.Kept.{Kept}
use Rattle.mc_model.specs.State.{Running}
use Rattle.mc_model.specs.Wanted.{Queue}
use Rattle.mc_core.proofs.EventFacts.{breaks_rose}
use Rattle.mc_core.specs.Calls.{Faults}
use Rattle.mc_core.specs.Events.{ReplicaState, state_of}
use Rattle.mc_drain.specs.Leads.{FuseGoes}
use Rattle.mc_storm.specs.Storms.{FailsBy, StormBreaks, storm_key, storm_value}
use Rattle.mc_script.specs.declared.command.Command.{Command}
use Rattle.mc_seats.specs.Doing.{At, Doing, Repairs, Storms, Works, doing}
use Rattle.mc_seats.specs.Effects.{EventsOf, events_by}
use Rattle.mc_seats.specs.Step.{CutShort, FaultsOf, ShortAt, ShortBy, ShortIn, faults_by, short_by}
use Rattle.mc_seats.specs.Works.{Pulled}
use Rattle.mc_seats.specs.Worlds.{Place, WorldState, state_at}

-- whether a command is a work or a repair
abbrev pub pull_by : Doing → Bool
pull_by (At r (Works budget)) = true
pull_by (At r Repairs) = true
pull_by d = false

abbrev pub is_pull : Command → Bool
is_pull command = pull_by (doing command)

-- or a storm: it makes many calls of its replica
abbrev pub long_by : Doing → Bool
long_by (At r (Storms writers writes)) = true
long_by d = pull_by d

abbrev pub is_long : Command → Bool
is_long command = long_by (doing command)

-- of every other one a fault cuts events short, and a want of memory leaves what it leaves of a call

faults_for : (w : WorldState) (d : Doing) → long_by d ≡ false → (own : Type 0) (s new : ReplicaState) → Faults (λ events reply. events_by w s d events reply) own s new → faults_by w d own s new
faults_for w (At r (Works budget)) is own s new faults = absurd (true≢false is)
faults_for w (At r Repairs) is own s new faults = absurd (true≢false is)
faults_for w (At r (Storms writers writes)) is own s new faults = absurd (true≢false is)
faults_for w d is own s new faults = faults

pub faults_from : (w : WorldState) (command : Command) → is_long command ≡ false → (own : Type 0) (s new : ReplicaState) → Faults (λ events reply. EventsOf w s command events reply) own s new → FaultsOf w command own s new
faults_from w command = faults_for w (doing command)

short_for : (w : WorldState) (d : Doing) → pull_by d ≡ false → (p q : Place) → ShortBy d p q → short_by w d p q
short_for w (At r (Works budget)) is p q short = absurd (true≢false is)
short_for w (At r Repairs) is p q short = absurd (true≢false is)
short_for w d is p q short = short

pub short_from : (w : WorldState) (command : Command) → is_pull command ≡ false → (p q : Place) → ShortAt command p q → ShortIn w command p q
short_from w command = short_for w (doing command)

-- where nothing was done
still_for : (w : WorldState) (d : Doing) (p : Place) → ShortBy d p p → short_by w d p p
still_for w (At r (Works budget)) p short = inl refl
still_for w (At r Repairs) p short = inl refl
still_for w d p short = short

pub short_still : (w : WorldState) (command : Command) (p : Place) → ShortAt command p p → ShortIn w command p p
short_still w command = still_for w (doing command)

-- a fault under other words

fails_map : (gets : Bool) (key bytes : List ℕ) (P Q : Type 0) → (P → Q) → (s new : ReplicaState) → FailsBy gets key bytes P s new → FailsBy gets key bytes Q s new
fails_map false key bytes P Q f s new faults = record { events = faults.events; begins = faults.begins; breaks = breaks_rose faults.events P Q s new f faults.breaks }
fails_map true key bytes P Q f s new breaks = breaks_rose [] P Q s new f breaks

storm_map : (writers writes : ℕ) (P Q : Type 0) → (P → Q) → (s new : ReplicaState) → StormBreaks writers writes P s new → StormBreaks writers writes Q s new
storm_map writers writes P Q f s new breaks = record {
  calls = breaks.calls;
  last = breaks.last;
  interleaved = breaks.interleaved;
  mid = breaks.mid;
  run = breaks.run;
  fails = fails_map breaks.last.gets (storm_key breaks.last.writer) (storm_value breaks.last.write.number) P Q f breaks.mid new breaks.fails;
}

faults_map : (w : WorldState) (d : Doing) (P Q : Type 0) → (P → Q) → (s new : ReplicaState) → faults_by w d P s new → faults_by w d Q s new
faults_map w (At r (Works budget)) P Q f s new leads = leads
faults_map w (At r Repairs) P Q f s new leads = leads
faults_map w (At r (Storms writers writes)) P Q f s new breaks = storm_map writers writes P Q f s new breaks
faults_map w d P Q f s new faults = record { events = faults.events; begins = faults.begins; breaks = breaks_rose faults.events P Q s new f faults.breaks }

pub cut_map : (w : WorldState) (command : Command) (P Q : Type 0) (p q : Place) → (P → Q) → CutShort w command P p q → CutShort w command Q p q
cut_map w command P Q p q f cut = record {
  down = cut.down;
  silent = cut.silent;
  planted_same = cut.planted_same;
  why = elim cut.why [ inl fired ↦ inl fired | inr failed ↦ inr (f failed) ];
  told = told_weaker (FaultsOf w command P) (FaultsOf w command Q) (λ s new. faults_map w (doing command) P Q f s new) (state_at p) (state_at q) cut.told;
}

-- a fuse that did not fire

pub fuse_stays : (most : ℕ) (old new : Option Fuse) → FuseGoes false most old new → has_fired old new ≡ false
fuse_stays most None new goes = refl
fuse_stays most (Some old) None goes = absurd (true≢false (sym goes.0))
fuse_stays most (Some old) (Some new) goes = refl

pub told_unfired : (P : ReplicaState → ReplicaState → Type 0) → ((s t : ReplicaState) → P s t → has_fired s.fuse t.fuse ≡ false) → (old new : Option Kept) (fuse fuse2 : Option Fuse) (run run2 : Option Running)
    → is_some old ≡ true → Told (state_of old fuse run) (state_of new fuse2 run2) P → has_fired fuse fuse2 ≡ false
told_unfired P calm None new fuse fuse2 run run2 tells told = absurd (true≢false (sym tells))
told_unfired P calm (Some old) None fuse fuse2 run run2 tells told = absurd told
told_unfired P calm (Some old) (Some new) fuse fuse2 run run2 tells told = calm _ _ told

pub pulled_unfired : (P : Running → Running → Type 0) (W : Queue → Type 0) (Leads : ReplicaState → ReplicaState → Type 0) → ((s t : ReplicaState) → Leads s t → has_fired s.fuse t.fuse ≡ false) → (p q : Place)
    → is_some p.content ≡ true → Pulled P W Leads p q → has_fired p.fuse q.fuse ≡ false
pulled_unfired P W Leads calm p q tells pulled = told_unfired Leads calm p.content q.content p.fuse q.fuse p.run q.run tells pulled.told
