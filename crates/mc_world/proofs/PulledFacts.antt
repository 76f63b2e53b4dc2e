-- What a work and a repair do in a world.
use Rattle.std.proofs.Common.{◌≡◌, ◌∙◌, ℕ, Bool, true, false, true≢false, cond, ◌||◌, List, [], ◌∷◌, Option, Some, None, Result, Ok, Err, refl, sym, ap, subst, set, inl, inr}
use Rattle.std.specs.Prelude.{IfSome, slice_get}
use Rattle.std.specs.List.{insert, remove}
use Rattle.std.proofs.lemmas.Bool.{eq-eqb}
use Rattle.mc_base.specs.declared.counted.Counted as counted
use Rattle.mc_core.specs.Events.{state_of}
use Rattle.mc_core.specs.Exact.{stop_front}
use Rattle.mc_core.specs.Reads.{read_refusal}
use Rattle.mc_core.specs.Refusals.{Is}
use Rattle.mc_core.specs.declared.CoreError.TheVariants as core
use Rattle.mc_drain.specs.Works.{keeper_broke, peer_broke}
use Rattle.mc_drain.specs.declared.repairing.Repaired.{Repaired}
use Rattle.mc_drain.specs.declared.repairing.Repaired.TheVariants as repaired
use Rattle.mc_drain.specs.declared.working.WorkError.{WorkError}
use Rattle.mc_drain.specs.declared.working.WorkError.TheVariants.{KeeperFault, PeerFault, Stopped, Memory}
use Rattle.mc_drain.specs.declared.working.Worked.{Worked}
use Rattle.mc_drain.specs.declared.working.Worked.TheVariants as worked
use Rattle.mc_keep.specs.Calls.{Members}
use Rattle.mc_keep.specs.declared.fuse.Fuse.{Fuse}
use Rattle.mc_keep.specs.declared.keeper.Keeper as keeper
use Rattle.mc_model.specs.Kept.{Kept}
use Rattle.mc_model.specs.State.{Running}
use Rattle.mc_script.specs.declared.command.Command.TheVariants.{Repair, Work}
use Rattle.mc_script.specs.declared.reply.Reply.{Reply}
use Rattle.mc_script.specs.declared.reply.Reply.TheVariants as reply
use Rattle.mc_seats.specs.declared.error.ActError.{ActError}
use Rattle.mc_seats.specs.declared.error.ActError.TheVariants as act
use Rattle.mc_seats.specs.declared.seat.Seat.{Seat}
use Rattle.mc_seats.specs.declared.world.World.{World}
use Rattle.mc_seats.specs.Asks.{is_named}
use Rattle.mc_seats.specs.Keepers.{WorldGoes, keeper_of}
use Rattle.mc_seats.specs.Effects.{CallRefused}
use Rattle.mc_world.specs.Pulling.{PullsAmong, RepairBy, WorkBy, pulled_answer}
use Rattle.mc_seats.specs.Step.{is_fault}
use Rattle.mc_seats.specs.StepParts.{AllDesksGo, PeerFailed}
use Rattle.mc_seats.specs.Words.{ActsOn, place, state}
use Rattle.mc_seats.specs.Works.{budget_of, repaired_reply, worked_reply}
use Rattle.mc_seats.specs.Worlds.{Place, WorldState, is_down, peer_row}
use Rattle.mc_seats.proofs.BeginFacts.{is_no_error, short_is_not_bad}
use Rattle.mc_seats.proofs.GoesFacts.{keeper_still}
use Rattle.mc_world.proofs.PullInFacts.{insert_go, lists_go, peer_failed, row_cut, row_done, row_peer, row_refused, short_row}
use Rattle.mc_world.proofs.PullFacts.{desks_still}
use Rattle.mc_seats.proofs.SeatFacts.{replaced, set_of_get}
use Rattle.mc_acts.proofs.StepInFacts.{goes_failed, goes_in}

named_itself : (r : ℕ) → is_named (r ∷ []) r ≡ true
named_itself r = ap (λ b. b || false) (eq-eqb r r refl)

-- nothing refuses one that runs

told_allowed : (content : Option Kept) (fuse : Option Fuse) (run : Option Running) → is_down run ≡ false → IfSome (state_of content fuse run) (λ s. Is (read_refusal s) None)
told_allowed None fuse run up = tt
told_allowed (Some kept) fuse None up = absurd (true≢false up)
told_allowed (Some kept) fuse (Some run) up = refl

told_refused : (content : Option Kept) (fuse : Option Fuse) (run : Option Running) → is_down run ≡ true → IfSome (state_of content fuse run) (λ s. Is (read_refusal s) (Some core.Stopped))
told_refused None fuse run down = tt
told_refused (Some kept) fuse None down = refl
told_refused (Some kept) fuse (Some run) down = absurd (true≢false (sym down))

worked_well : (value : Worked) → is_fault (worked_reply value) ≡ false
worked_well (worked.Done processed missing bad) = refl
worked_well (worked.Again processed) = refl

repaired_well : (value : Repaired) → is_fault (repaired_reply value) ≡ false
repaired_well repaired.Clean = refl
repaired_well (repaired.Open gaps) = refl
repaired_well (repaired.Again processed) = refl

work_allowed : (w : WorldState) (p : Place) (r workers : ℕ) (budget : Option ℕ) → is_down p.run ≡ false → CallRefused w p (Work r workers budget) None
work_allowed w p r workers budget up = (ap (λ b. stop_front b None) up, told_allowed p.content p.fuse p.run up)

work_refused : (w : WorldState) (p : Place) (r workers : ℕ) (budget : Option ℕ) → is_down p.run ≡ true → CallRefused w p (Work r workers budget) (Some reply.Stopped)
work_refused w p r workers budget down = (core.Stopped, sym (ap (λ b. stop_front b None) down), told_refused p.content p.fuse p.run down, refl, λ is. refl)

module _ {K D : Type 0} {g : keeper.Ghosts K D} {h : counted.Ghosts K} {i : counted.Ghosts D} (k : Members K D) (desk_faults : D → ℕ) (r workers : ℕ) (budget : Option ℕ) (old new : World K D g h i) (list : List D) (left : List (List D))
    (list_stands : slice_get old.desks.items r ≡ Some list) (list_back : new.desks.items ≡ insert left r list) (around : (state k desk_faults new).around ≡ (state k desk_faults old).around) (entries : new.entries ≡ old.entries) where
  work_at : (drained : Result Worked WorkError) → PullsAmong k old.down.items r desk_faults (WorkBy (budget_of budget) drained) (keeper_broke drained) (peer_broke drained) old.seats.items new.seats.items (remove old.desks.items r) left → ActsOn k desk_faults (Work r workers budget) (pulled_answer worked_reply drained) old new
  work_at (Ok value) p = record {
    row = row_done k desk_faults r old new p.old p.new p.stands p.after around (Work r workers budget) refl (worked_reply value) (λ h. h) tt around (work_allowed (state k desk_faults old) (place k p.old) r workers budget p.pulls.0) (record { value = value; says = refl; works = p.pulls.1 });
    short = λ e. is_no_error e;
    not_bad = λ e. is_no_error e;
    goes = subst (λ (b : Bool). WorldGoes k desk_faults (cond b 1 0) 0 old new) (sym (worked_well value)) (goes_in k desk_faults r old new p.old p.new p.stands p.after p.quiet p.still (subst (λ (l : List (List D)). AllDesksGo k desk_faults p.quiet old.desks.items l) (sym list_back) (insert_go k desk_faults p.quiet old.desks.items left r list list_stands (lists_go k desk_faults p.quiet (remove old.desks.items r) left p.of_desks))) 0 p.of_keeper.goes);
    entries_same = entries;
  }
  work_at (Err KeeperFault) p = record {
    row = row_cut k desk_faults r old new p.old p.new p.stands p.after around (Work r workers budget) refl (λ h. h) (named_itself r) (ap (λ b. stop_front b None) p.pulls.0) (p.of_keeper.named refl)
        (record { down = p.pulls.1.down; silent = p.pulls.1.silent; planted_same = p.pulls.1.planted_same; why = p.pulls.1.why; told = p.pulls.1.told });
    short = λ e. is_no_error e;
    not_bad = λ e. is_no_error e;
    goes = goes_in k desk_faults r old new p.old p.new p.stands p.after p.quiet p.still (subst (λ (l : List (List D)). AllDesksGo k desk_faults p.quiet old.desks.items l) (sym list_back) (insert_go k desk_faults p.quiet old.desks.items left r list list_stands (lists_go k desk_faults p.quiet (remove old.desks.items r) left p.of_desks))) 1 p.of_keeper.goes;
    entries_same = entries;
  }
  work_at (Err PeerFault) p =
      let failed : PeerFailed desk_faults (peer_row (state k desk_faults old).around.down r 0 (state k desk_faults old).places) old.desks.items new.desks.items = (subst (λ (l : List (List D)). PeerFailed desk_faults (peer_row (state k desk_faults old).around.down r 0 (state k desk_faults old).places) old.desks.items l) (sym list_back) (peer_failed k desk_faults p.quiet (peer_row (state k desk_faults old).around.down r 0 (state k desk_faults old).places) old.desks.items left r list list_stands p.of_desks (p.rose refl))) in
      record {
        row = row_peer k desk_faults r old new p.old p.new p.stands p.after around (Work r workers budget) refl tt (λ h. h) (λ at h. h) (work_allowed (state k desk_faults old) (place k p.old) r workers budget p.pulls.0) failed p.pulls.1;
        short = λ e. is_no_error e;
        not_bad = λ e. is_no_error e;
        goes = goes_failed k desk_faults r old new p.old p.new p.stands p.after p.quiet p.still (subst (λ (l : List (List D)). AllDesksGo k desk_faults p.quiet old.desks.items l) (sym list_back) (insert_go k desk_faults p.quiet old.desks.items left r list list_stands (lists_go k desk_faults p.quiet (remove old.desks.items r) left p.of_desks))) (peer_row (state k desk_faults old).around.down r 0 (state k desk_faults old).places) failed p.of_keeper.goes;
        entries_same = entries;
      }
  work_at (Err Stopped) p = record {
    row = row_refused k desk_faults r old new p.old p.new p.stands p.after around (Work r workers budget) refl reply.Stopped (λ h. h) (work_refused (state k desk_faults old) (place k p.old) r workers budget p.pulls.0) p.pulls.1;
    short = λ e. is_no_error e;
    not_bad = λ e. is_no_error e;
    goes = goes_in k desk_faults r old new p.old p.new p.stands p.after p.quiet p.still (subst (λ (l : List (List D)). AllDesksGo k desk_faults p.quiet old.desks.items l) (sym list_back) (insert_go k desk_faults p.quiet old.desks.items left r list list_stands (lists_go k desk_faults p.quiet (remove old.desks.items r) left p.of_desks))) 0 p.of_keeper.goes;
    entries_same = entries;
  }
  work_at (Err Memory) p = record {
    row = tt;
    short = λ e. short_row k desk_faults r old new p.old p.new p.stands p.after around (Work r workers budget) refl (λ h. h) (inr p.pulls.1);
    not_bad = λ e. short_is_not_bad e;
    goes = goes_in k desk_faults r old new p.old p.new p.stands p.after p.quiet p.still (subst (λ (l : List (List D)). AllDesksGo k desk_faults p.quiet old.desks.items l) (sym list_back) (insert_go k desk_faults p.quiet old.desks.items left r list list_stands (lists_go k desk_faults p.quiet (remove old.desks.items r) left p.of_desks))) 0 p.of_keeper.goes;
    entries_same = entries;
  }

  module _ (mid : List (Seat K D g h i)) (x y : Seat K D g h i) (stands : slice_get old.seats.items r ≡ Some x) (out : mid ≡ remove old.seats.items r) (back : new.seats.items ≡ insert mid r y) where
    work_olds : insert mid r x ≡ old.seats.items
    work_olds = replaced old.seats.items mid (insert mid r x) r x x stands out refl ∙ set_of_get old.seats.items r x stands

    pub work_acts : (desks : List (List D)) → desks ≡ remove old.desks.items r → (drained : Result Worked WorkError) (result : Result Reply ActError) → result ≡ pulled_answer worked_reply drained
        → PullsAmong k old.down.items r desk_faults (WorkBy (budget_of budget) drained) (keeper_broke drained) (peer_broke drained) (insert mid r x) (insert mid r y) desks left → ActsOn k desk_faults (Work r workers budget) result old new
    work_acts desks taken drained result is pulls =
        let at : PullsAmong k old.down.items r desk_faults (WorkBy (budget_of budget) drained) (keeper_broke drained) (peer_broke drained) old.seats.items new.seats.items (remove old.desks.items r) left =
        subst (λ (l : List (Seat K D g h i)). PullsAmong k old.down.items r desk_faults (WorkBy (budget_of budget) drained) (keeper_broke drained) (peer_broke drained) l new.seats.items (remove old.desks.items r) left) work_olds
        (subst (λ (l : List (Seat K D g h i)). PullsAmong k old.down.items r desk_faults (WorkBy (budget_of budget) drained) (keeper_broke drained) (peer_broke drained) (insert mid r x) l (remove old.desks.items r) left) (sym back)
        (subst (λ (l : List (List D)). PullsAmong k old.down.items r desk_faults (WorkBy (budget_of budget) drained) (keeper_broke drained) (peer_broke drained) (insert mid r x) (insert mid r y) l left) taken pulls)) in
        subst (λ (a : Result Reply ActError). ActsOn k desk_faults (Work r workers budget) a old new) (sym is) (work_at drained at)

    -- memory was wanted before it began
    pub work_short : y ≡ x → left ≡ remove old.desks.items r → ActsOn k desk_faults (Work r workers budget) (Err act.Memory) old new
    work_short same none =
        let seats_same : new.seats.items ≡ set old.seats.items r x = back ∙ ap (λ (z : Seat K D g h i). insert mid r z) same ∙ replaced old.seats.items mid (insert mid r x) r x x stands out refl in
        let go : AllDesksGo k desk_faults true old.desks.items new.desks.items = subst (λ (l : List (List D)). AllDesksGo k desk_faults true old.desks.items l) (sym list_back)
        (insert_go k desk_faults true old.desks.items left r list list_stands (subst (λ (l : List (List D)). AllDesksGo k desk_faults true (remove old.desks.items r) l) (sym none) (lists_go k desk_faults true (remove old.desks.items r) (remove old.desks.items r) (desks_still k desk_faults true (remove old.desks.items r))))) in
        record {
          row = tt;
          short = λ e. short_row k desk_faults r old new x x stands seats_same around (Work r workers budget) refl (λ h. h) (inl refl);
          not_bad = λ e. short_is_not_bad e;
          goes = goes_in k desk_faults r old new x x stands seats_same true (λ e. refl) go 0 (keeper_still (keeper_of x));
          entries_same = entries;
        }

repair_allowed : (w : WorldState) (p : Place) (r workers : ℕ) → is_down p.run ≡ false → CallRefused w p (Repair r workers) None
repair_allowed w p r workers up = (ap (λ b. stop_front b None) up, told_allowed p.content p.fuse p.run up)

repair_refused : (w : WorldState) (p : Place) (r workers : ℕ) → is_down p.run ≡ true → CallRefused w p (Repair r workers) (Some reply.Stopped)
repair_refused w p r workers down = (core.Stopped, sym (ap (λ b. stop_front b None) down), told_refused p.content p.fuse p.run down, refl, λ is. refl)

module _ {K D : Type 0} {g : keeper.Ghosts K D} {h : counted.Ghosts K} {i : counted.Ghosts D} (k : Members K D) (desk_faults : D → ℕ) (r workers : ℕ) (old new : World K D g h i) (list : List D) (left : List (List D))
    (list_stands : slice_get old.desks.items r ≡ Some list) (list_back : new.desks.items ≡ insert left r list) (around : (state k desk_faults new).around ≡ (state k desk_faults old).around) (entries : new.entries ≡ old.entries) where
  repair_at : (drained : Result Repaired WorkError) → PullsAmong k old.down.items r desk_faults (RepairBy drained) (keeper_broke drained) (peer_broke drained) old.seats.items new.seats.items (remove old.desks.items r) left → ActsOn k desk_faults (Repair r workers) (pulled_answer repaired_reply drained) old new
  repair_at (Ok value) p = record {
    row = row_done k desk_faults r old new p.old p.new p.stands p.after around (Repair r workers) refl (repaired_reply value) (λ h. h) tt around (repair_allowed (state k desk_faults old) (place k p.old) r workers p.pulls.0) (record { value = value; says = refl; repairs = p.pulls.1 });
    short = λ e. is_no_error e;
    not_bad = λ e. is_no_error e;
    goes = subst (λ (b : Bool). WorldGoes k desk_faults (cond b 1 0) 0 old new) (sym (repaired_well value)) (goes_in k desk_faults r old new p.old p.new p.stands p.after p.quiet p.still (subst (λ (l : List (List D)). AllDesksGo k desk_faults p.quiet old.desks.items l) (sym list_back) (insert_go k desk_faults p.quiet old.desks.items left r list list_stands (lists_go k desk_faults p.quiet (remove old.desks.items r) left p.of_desks))) 0 p.of_keeper.goes);
    entries_same = entries;
  }
  repair_at (Err KeeperFault) p = record {
    row = row_cut k desk_faults r old new p.old p.new p.stands p.after around (Repair r workers) refl (λ h. h) (named_itself r) (ap (λ b. stop_front b None) p.pulls.0) (p.of_keeper.named refl)
        (record { down = p.pulls.1.down; silent = p.pulls.1.silent; planted_same = p.pulls.1.planted_same; why = p.pulls.1.why; told = p.pulls.1.told });
    short = λ e. is_no_error e;
    not_bad = λ e. is_no_error e;
    goes = goes_in k desk_faults r old new p.old p.new p.stands p.after p.quiet p.still (subst (λ (l : List (List D)). AllDesksGo k desk_faults p.quiet old.desks.items l) (sym list_back) (insert_go k desk_faults p.quiet old.desks.items left r list list_stands (lists_go k desk_faults p.quiet (remove old.desks.items r) left p.of_desks))) 1 p.of_keeper.goes;
    entries_same = entries;
  }
  repair_at (Err PeerFault) p =
      let failed : PeerFailed desk_faults (peer_row (state k desk_faults old).around.down r 0 (state k desk_faults old).places) old.desks.items new.desks.items = (subst (λ (l : List (List D)). PeerFailed desk_faults (peer_row (state k desk_faults old).around.down r 0 (state k desk_faults old).places) old.desks.items l) (sym list_back) (peer_failed k desk_faults p.quiet (peer_row (state k desk_faults old).around.down r 0 (state k desk_faults old).places) old.desks.items left r list list_stands p.of_desks (p.rose refl))) in
      record {
        row = row_peer k desk_faults r old new p.old p.new p.stands p.after around (Repair r workers) refl tt (λ h. h) (λ at h. h) (repair_allowed (state k desk_faults old) (place k p.old) r workers p.pulls.0) failed p.pulls.1;
        short = λ e. is_no_error e;
        not_bad = λ e. is_no_error e;
        goes = goes_failed k desk_faults r old new p.old p.new p.stands p.after p.quiet p.still (subst (λ (l : List (List D)). AllDesksGo k desk_faults p.quiet old.desks.items l) (sym list_back) (insert_go k desk_faults p.quiet old.desks.items left r list list_stands (lists_go k desk_faults p.quiet (remove old.desks.items r) left p.of_desks))) (peer_row (state k desk_faults old).around.down r 0 (state k desk_faults old).places) failed p.of_keeper.goes;
        entries_same = entries;
      }
  repair_at (Err Stopped) p = record {
    row = row_refused k desk_faults r old new p.old p.new p.stands p.after around (Repair r workers) refl reply.Stopped (λ h. h) (repair_refused (state k desk_faults old) (place k p.old) r workers p.pulls.0) p.pulls.1;
    short = λ e. is_no_error e;
    not_bad = λ e. is_no_error e;
    goes = goes_in k desk_faults r old new p.old p.new p.stands p.after p.quiet p.still (subst (λ (l : List (List D)). AllDesksGo k desk_faults p.quiet old.desks.items l) (sym list_back) (insert_go k desk_faults p.quiet old.desks.items left r list list_stands (lists_go k desk_faults p.quiet (remove old.desks.items r) left p.of_desks))) 0 p.of_keeper.goes;
    entries_same = entries;
  }
  repair_at (Err Memory) p = record {
    row = tt;
    short = λ e. short_row k desk_faults r old new p.old p.new p.stands p.after around (Repair r workers) refl (λ h. h) (inr p.pulls.1);
    not_bad = λ e. short_is_not_bad e;
    goes = goes_in k desk_faults r old new p.old p.new p.stands p.after p.quiet p.still (subst (λ (l : List (List D)). AllDesksGo k desk_faults p.quiet old.desks.items l) (sym list_back) (insert_go k desk_faults p.quiet old.desks.items left r list list_stands (lists_go k desk_faults p.quiet (remove old.desks.items r) left p.of_desks))) 0 p.of_keeper.goes;
    entries_same = entries;
  }

  module _ (mid : List (Seat K D g h i)) (x y : Seat K D g h i) (stands : slice_get old.seats.items r ≡ Some x) (out : mid ≡ remove old.seats.items r) (back : new.seats.items ≡ insert mid r y) where
    repair_olds : insert mid r x ≡ old.seats.items
    repair_olds = replaced old.seats.items mid (insert mid r x) r x x stands out refl ∙ set_of_get old.seats.items r x stands

    pub repair_acts : (desks : List (List D)) → desks ≡ remove old.desks.items r → (drained : Result Repaired WorkError) (result : Result Reply ActError) → result ≡ pulled_answer repaired_reply drained
        → PullsAmong k old.down.items r desk_faults (RepairBy drained) (keeper_broke drained) (peer_broke drained) (insert mid r x) (insert mid r y) desks left → ActsOn k desk_faults (Repair r workers) result old new
    repair_acts desks taken drained result is pulls =
        let at : PullsAmong k old.down.items r desk_faults (RepairBy drained) (keeper_broke drained) (peer_broke drained) old.seats.items new.seats.items (remove old.desks.items r) left =
        subst (λ (l : List (Seat K D g h i)). PullsAmong k old.down.items r desk_faults (RepairBy drained) (keeper_broke drained) (peer_broke drained) l new.seats.items (remove old.desks.items r) left) repair_olds
        (subst (λ (l : List (Seat K D g h i)). PullsAmong k old.down.items r desk_faults (RepairBy drained) (keeper_broke drained) (peer_broke drained) (insert mid r x) l (remove old.desks.items r) left) (sym back)
        (subst (λ (l : List (List D)). PullsAmong k old.down.items r desk_faults (RepairBy drained) (keeper_broke drained) (peer_broke drained) (insert mid r x) (insert mid r y) l left) taken pulls)) in
        subst (λ (a : Result Reply ActError). ActsOn k desk_faults (Repair r workers) a old new) (sym is) (repair_at drained at)

    -- memory was wanted before it began
    pub repair_short : y ≡ x → left ≡ remove old.desks.items r → ActsOn k desk_faults (Repair r workers) (Err act.Memory) old new
    repair_short same none =
        let seats_same : new.seats.items ≡ set old.seats.items r x = back ∙ ap (λ (z : Seat K D g h i). insert mid r z) same ∙ replaced old.seats.items mid (insert mid r x) r x x stands out refl in
        let go : AllDesksGo k desk_faults true old.desks.items new.desks.items = subst (λ (l : List (List D)). AllDesksGo k desk_faults true old.desks.items l) (sym list_back)
        (insert_go k desk_faults true old.desks.items left r list list_stands (subst (λ (l : List (List D)). AllDesksGo k desk_faults true (remove old.desks.items r) l) (sym none) (lists_go k desk_faults true (remove old.desks.items r) (remove old.desks.items r) (desks_still k desk_faults true (remove old.desks.items r))))) in
        record {
          row = tt;
          short = λ e. short_row k desk_faults r old new x x stands seats_same around (Repair r workers) refl (λ h. h) (inl refl);
          not_bad = λ e. short_is_not_bad e;
          goes = goes_in k desk_faults r old new x x stands seats_same true (λ e. refl) go 0 (keeper_still (keeper_of x));
          entries_same = entries;
        }
