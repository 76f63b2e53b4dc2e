-- What the calls at a seat do that are no call of a running replica alone.
use Rattle.std.proofs.Common.{◌≡◌, ℕ, false, cond, List, [], Option, Some, None, Ok, refl, sym, ap, ◌∙◌, subst, inl, inr}
use Rattle.std.specs.Prelude.{⊤}
use Rattle.mc_base.specs.Causes.{Rose}
use Rattle.mc_base.specs.Told.{Told}
use Rattle.mc_base.specs.declared.counted.Counted as counted
use Rattle.mc_fetch.specs.declared.plants.Planted.{Planted}
use Rattle.mc_keep.specs.Calls.{Members}
use Rattle.mc_keep.specs.declared.fuse.Fuse.{Fuse}
use Rattle.mc_keep.specs.declared.keeper.Keeper as keeper
use Rattle.mc_model.specs.Kept.{Kept}
use Rattle.mc_model.specs.State.{Running}
use Rattle.mc_core.specs.Calls.{Faults}
use Rattle.mc_core.specs.Events.{state_of}
use Rattle.mc_script.specs.declared.command.Command.{Command}
use Rattle.mc_script.specs.declared.command.Command.TheVariants.{Stop, Open}
use Rattle.mc_script.specs.declared.reply.Reply.{Reply}
use Rattle.mc_script.specs.declared.reply.Reply.TheVariants.{Done, FaultKeeper}
use Rattle.mc_seats.specs.declared.error.ActError.{ActError}
use Rattle.mc_seats.specs.declared.seat.Held.{Held}
use Rattle.mc_seats.specs.declared.seat.Held.TheVariants.{Up, Down}
use Rattle.mc_seats.specs.declared.seat.Seat.{Seat}
use Rattle.mc_seats.specs.Holds.{IsNotOpened, IsOpened, Opening, run_in, stop_answer}
use Rattle.mc_seats.specs.Keepers.{keeper_in, keeper_of}
use Rattle.mc_seats.specs.Effects.{Opens, EventsOf}
use Rattle.mc_seats.specs.Step.{CutShort, answers_fault}
use Rattle.mc_seats.specs.Words.{KeeperGoes, PlaceRow, SeatActsIn, place}
use Rattle.mc_seats.specs.Worlds.{Place, WorldState, is_up, place_with}
use Rattle.mc_seats.proofs.GoesFacts.{keeper_reads, keeper_same, no_fault}
use Rattle.mc_seats.proofs.RowFacts.{no_error}

-- a place, by what is held there

abbrev pub placed : Option Kept → Option Fuse → Option Running → List Planted → Place
placed told fuse run planted = record { content = told; fuse = fuse; run = run; planted = planted }

placed_same : (told told2 : Option Kept) (fuse fuse2 : Option Fuse) (run run2 : Option Running) (planted planted2 : List Planted) → told2 ≡ told → fuse2 ≡ fuse → run2 ≡ run → planted2 ≡ planted
    → placed told2 fuse2 run2 planted2 ≡ placed told fuse run planted
placed_same told told2 fuse fuse2 run run2 planted planted2 t f r p = λ i. placed (t i) (f i) (r i) (p i)

stop_row : (w : WorldState) (named own : Type 0) (r : ℕ) (told : Option Kept) (fuse : Option Fuse) (run : Option Running) (planted : List Planted) (q : Place) (reply : Reply)
    → q ≡ placed told fuse None planted → reply ≡ stop_answer run → PlaceRow w (Stop r) named own (placed told fuse run planted) q reply
stop_row w named own r told fuse None planted q reply same says = inl (inl (ap (λ (x : Reply). Some x) says, same))
stop_row w named own r told fuse (Some run) planted q reply same says = inl (inr (refl, (same, says)))

-- a fault before anything happened
nothing_told : (w : WorldState) (r : ℕ) (own : Type 0) (told : Option Kept) (fuse : Option Fuse) → own
    → Told (state_of told fuse None) (state_of told fuse None) (λ s new. Faults (λ events reply. EventsOf w s (Open r) events reply) own s new)
nothing_told w r own None fuse rose = tt
nothing_told w r own (Some kept) fuse rose = record { events = []; begins = inl refl; breaks = record { so_far = []; rest = []; split = refl; may = tt; fate = (rose, refl) } }

not_opened : (w : WorldState) (r : ℕ) (own : Type 0) (told : Option Kept) (fuse : Option Fuse) (planted : List Planted) (q : Place) → own → q ≡ placed told fuse None planted
    → CutShort w (Open r) own (placed told fuse None planted) q
not_opened w r own told fuse planted q rose same =
    subst (λ (q : Place). CutShort w (Open r) own (placed told fuse None planted) q) (sym same)
    (record { down = refl; silent = λ e. e; planted_same = refl; why = inr rose; told = nothing_told w r own told fuse rose })

down_of : (run : Option Running) → is_up run ≡ false → run ≡ None
down_of None is = refl
down_of (Some run) is = no_fault (sym is)

from_place : (w : WorldState) (command : Command) (named own : Type 0) (x p q : Place) (reply : Reply) → x ≡ p → PlaceRow w command named own p q reply → PlaceRow w command named own x q reply
from_place w command named own x p q reply is row = subst (λ (p : Place). PlaceRow w command named own p q reply) (sym is) row

module _ {K D : Type 0} {g : keeper.Ghosts K D} {h : counted.Ghosts K} {i : counted.Ghosts D} (k : Members K D) where
  place_held : (held : Held K D g h i) (planted : List Planted) → place_with k.told k.fuse planted held ≡ placed (k.told (keeper_in held)) (k.fuse (keeper_in held)) (run_in held) planted
  place_held (Up replica) planted = refl
  place_held (Down idle) planted = refl

  abbrev pub seated : Held K D g h i → List Planted → Seat K D g h i
  seated held planted = record { held = held; planted = planted }

  -- the keeper failed between one held and another
  abbrev Named : Held K D g h i → Held K D g h i → Type 0
  Named x y = Rose (k.faults (keeper_in x)) (k.faults (keeper_in y))

  abbrev Own : Held K D g h i → Held K D g h i → Type 0
  Own x y = Rose (k.own (keeper_in x)) (k.own (keeper_in y))

  pub stop_acts : (r : ℕ) (x : Seat K D g h i) (held : Held K D g h i) (reply : Reply) → run_in held ≡ None → keeper_in held ≡ keeper_in x.held → reply ≡ stop_answer (run_in x.held) → SeatActsIn k (λ w. ⊤) (Stop r) (Ok reply) x (seated held x.planted)
  stop_acts r x held reply down same says = record {
    row = λ w here. from_place w (Stop r) (Named x.held held) (Own x.held held) (place k x) _ (place k (seated held x.planted)) reply (place_held x.held x.planted)
        (stop_row w (Named x.held held) (Own x.held held) r (k.told (keeper_in x.held)) (k.fuse (keeper_in x.held)) (run_in x.held) x.planted (place k (seated held x.planted)) reply
        (place_held held x.planted ∙ placed_same _ _ _ _ _ _ x.planted x.planted (ap k.told same) (ap k.fuse same) down refl) says);
    short = λ e. no_error e;
    not_bad = λ e. no_error e;
    goes = subst (λ (reply : Reply). KeeperGoes k (cond (answers_fault {E = ActError} (Ok reply)) 1 0) 0 (keeper_of x) (keeper_in held)) (sym says) (goes_stop (run_in x.held));
  }
    where
      goes_stop : (run : Option Running) → KeeperGoes k (cond (answers_fault {E = ActError} (Ok (stop_answer run))) 1 0) 0 (keeper_of x) (keeper_in held)
      goes_stop None = keeper_same same
      goes_stop (Some run) = keeper_same same

  open_done : (w : WorldState) (named own : Type 0) (r : ℕ) (keeper : K) (held : Held K D g h i) (planted : List Planted) → IsOpened k keeper held
      → PlaceRow w (Open r) named own (placed (k.told keeper) (k.fuse keeper) None planted) (place k (seated held planted)) Done
  open_done w named own r keeper held planted opened = inl (inr (
    refl,
    (
      subst (λ (q : Place). Opens (placed (k.told keeper) (k.fuse keeper) None planted) q) (sym (place_held held planted))
          (record { runs = opened.runs; tells = (opened.reads.told_same, opened.reads.fuse_same); planted_same = refl }),
      refl,
    ),
  ))

  open_fault : (w : WorldState) (own : Type 0) (r : ℕ) (keeper : K) (held : Held K D g h i) (planted : List Planted) → IsNotOpened k keeper held → own
      → PlaceRow w (Open r) (Rose (k.faults keeper) (k.faults (keeper_in held))) own (placed (k.told keeper) (k.fuse keeper) None planted) (place k (seated held planted)) FaultKeeper
  open_fault w own r keeper held planted failed rose = inr (
    refl,
    failed.reads.faults_go.rose refl,
    refl,
    refl,
    not_opened w r own (k.told keeper) (k.fuse keeper) planted (place k (seated held planted)) rose
        (place_held held planted ∙ placed_same _ _ _ _ _ _ planted planted failed.reads.told_same failed.reads.fuse_same failed.down refl),
  )

  open_by : (r : ℕ) (x : Seat K D g h i) (held : Held K D g h i) (reply : Reply) → run_in x.held ≡ None → Opening k (keeper_in x.held) held reply → SeatActsIn k (λ w. ⊤) (Open r) (Ok reply) x (seated held x.planted)
  open_by r x held reply down (inl done) = subst (λ (reply : Reply). SeatActsIn k (λ w. ⊤) (Open r) (Ok reply) x (seated held x.planted)) (sym done.1) (record {
    row = λ w here. from_place w (Open r) (Named x.held held) (Own x.held held) (place k x) _ (place k (seated held x.planted)) Done (place_held x.held x.planted ∙ placed_same _ _ _ _ _ _ x.planted x.planted refl refl down refl)
        (open_done w (Named x.held held) (Own x.held held) r (keeper_in x.held) held x.planted done.0);
    short = λ e. no_error e;
    not_bad = λ e. no_error e;
    goes = keeper_reads done.0.reads;
  })
  open_by r x held reply down (inr failed) = subst (λ (reply : Reply). SeatActsIn k (λ w. ⊤) (Open r) (Ok reply) x (seated held x.planted)) (sym failed.1) (record {
    row = λ w here. from_place w (Open r) (Named x.held held) (Own x.held held) (place k x) _ (place k (seated held x.planted)) FaultKeeper (place_held x.held x.planted ∙ placed_same _ _ _ _ _ _ x.planted x.planted refl refl down refl)
        (open_fault w (Own x.held held) r (keeper_in x.held) held x.planted failed.0 (failed.0.reads.own_goes.rose refl));
    short = λ e. no_error e;
    not_bad = λ e. no_error e;
    goes = keeper_reads failed.0.reads;
  })

  pub open_acts : (r : ℕ) (x : Seat K D g h i) (held : Held K D g h i) (keeper : K) (reply : Reply) → is_up (run_in x.held) ≡ false → keeper ≡ keeper_in x.held → Opening k keeper held reply → SeatActsIn k (λ w. ⊤) (Open r) (Ok reply) x (seated held x.planted)
  open_acts r x held keeper reply down is opening = open_by r x held reply (down_of (run_in x.held) down) (subst (λ (keeper : K). Opening k keeper held reply) is opening)
