-- From a walk's and a drain's end to the answer of a repair.
use Rattle.std.proofs.Common.{◌≡◌, ◌≤◌, ◌+◌, ◌-◌, ℕ, Bool, true, false, List, Option, Some, None, Result, Ok, Err, refl, sym, ap, ◌∙◌, subst, arith}
use Rattle.std.specs.Prelude.{IfSome, is_some, ⊤}
use Rattle.std.proofs.lemmas.Bool.{false≢true}
use Rattle.mc_base.specs.Told.{Told}
use Rattle.mc_base.specs.declared.cid.Cid.{Cid}
use Rattle.mc_fetch.specs.Fits.{Map}
use Rattle.mc_model.specs.Drain.{IsDrained}
use Rattle.mc_model.specs.Draining.{HasDrained, bytes_in, offers_of, queue_in}
use Rattle.mc_model.specs.Events.{GoesOn}
use Rattle.mc_model.specs.Graph.{Vertex, cids_in, has}
use Rattle.mc_model.specs.Repairing.{HasRepaired, with_gaps}
use Rattle.mc_model.specs.State.{Durable, IsSound, IsWhole, Running, State, kept_of, wanted_in}
use Rattle.mc_model.specs.Wanted.{Queue, wanted}
use Rattle.mc_keep.specs.declared.fuse.Fuse.{Fuse}
use Rattle.mc_model.specs.Kept.{Kept}
use Rattle.mc_model.proofs.Prefix.{goes_on_then}
use Rattle.mc_model.proofs.Takings.{bytes_more}
use Rattle.mc_core.specs.Counted.{capped, run_of}
use Rattle.mc_core.specs.Events.{ReplicaState, state_of}
use Rattle.mc_core.proofs.GrowthFacts.{same_goes}
use Rattle.mc_core.specs.Walks.{gap_count, settled_with}
use Rattle.mc_core.specs.declared.Settled.{Settled}
use Rattle.mc_core.specs.declared.Settled.TheVariants as settled
use Rattle.mc_drain.specs.declared.end.DrainEnd.{DrainEnd}
use Rattle.mc_drain.specs.declared.end.DrainEnd.TheVariants as end
use Rattle.mc_drain.specs.declared.repairing.Repaired.{Repaired}
use Rattle.mc_drain.specs.declared.working.WorkError.{WorkError}
use Rattle.mc_drain.specs.declared.working.WorkError.TheVariants as error
use Rattle.mc_drain.specs.Finds.{Finds, first_bytes, found_from, surely_from}
use Rattle.mc_drain.specs.Leads.{Always, DrainsOn, FuseGoes, Leads, LeadsBy, Never, commits_between, count, up_to}
use Rattle.mc_drain.specs.Repairs.{IsPartRepaired, RepairAnswer, RepairLeads, Walks, repair_start, repaired_of, walk_error}
use Rattle.mc_drain.specs.Rounds.{FindsFrom, HasWalkedFrom, HasWorkedFrom}
use Rattle.mc_drain.specs.Words.{DrainLeads, Fetched, IsBroken, is_keeper}
use Rattle.mc_drain.specs.Lost.{AreLost}
use Rattle.mc_drain.specs.Works.{IsAtEnd, IsPartOf, IsPartly, stored_bytes}
use Rattle.mc_drain.proofs.EventFacts.{broken_at}
use Rattle.mc_drain.proofs.FuseFacts.{burns_around, burns_before, fuse_more, fuse_stays, fuse_then, longer}
use Rattle.mc_drain.proofs.GoOnFacts.{leads_go_on, leads_itself}
use Rattle.mc_drain.proofs.LostFacts.{drained_so, lost_at, none_lost}
use Rattle.mc_drain.proofs.StoredFacts.{stored_back}
use Rattle.mc_drain.proofs.ReachFacts.{MayReach}
use Rattle.mc_drain.proofs.WalkFacts.{broken_repair, walks_stay}
use Rattle.mc_drain.proofs.WorkFacts.{BeginsLaw, ClosedLaw, DrainedLaw, Leaves, begun, drain_after, drained_at, kept_bytes, some_is, wanted_same}

abbrev pub RepairBeginsLaw : Type 0
RepairBeginsLaw = (bytes_of : Map) (kept : List Cid) (state : State) → ((c : Cid) (bytes : List ℕ) → bytes_in state.durable.graph c ≡ Some bytes → bytes_of c ≡ Some bytes) → ((c : Cid) → has c kept ≡ true → is_some (bytes_in state.durable.graph c) ≡ true)
    → HasRepaired bytes_of kept state.durable (wanted (queue_in state.run)) state

abbrev pub JoinsLaw : Type 0
JoinsLaw = (bytes_of : Map) (kept : List Cid) (old : Durable) (start : List Cid) (mid now : State) → IsSound mid → IsSound now → HasRepaired bytes_of kept old start mid → HasDrained bytes_of kept mid.durable (wanted (queue_in mid.run)) now → HasRepaired bytes_of kept old start now

abbrev pub WholeLaw : Type 0
WholeLaw = (bytes_of : Map) (kept : List Cid) (old : Durable) (start : List Cid) (state : State) → IsSound state → IsWhole state.run → HasRepaired bytes_of kept old start state → HasDrained bytes_of kept old (with_gaps old start) state

-- what is known after the walk
pub record IsWalked (s : ReplicaState) : Type 0 where
  pub sound : IsSound s.state
  pub whole : IsWhole s.state.run

-- the fuse after a walk, and after what came then
burns_walked : (failed : Bool) (root m new : ReplicaState) → count m ≡ count root → count m ≤ count new → FuseGoes false 1 root.fuse m.fuse → FuseGoes failed (commits_between failed m new) m.fuse new.fuse → FuseGoes failed (commits_between failed root new + 1) root.fuse new.fuse
burns_walked failed root m new same more walk next = burns_around failed root root m new (omega arith) same more (fuse_stays false (commits_between false root root) root.fuse) walk next

-- what is found is as before where no other bytes are stored
same_bytes : (graph more : List Vertex) (offered map : Map) → ((c : Cid) → is_some (bytes_in graph c) ≡ true → is_some (bytes_in more c) ≡ true) → ((c : Cid) (bytes : List ℕ) → bytes_in more c ≡ Some bytes → map c ≡ Some bytes)
    → (λ (c : Cid). first_bytes (bytes_in graph c) (offered c)) ≡ map → (c : Cid) → first_bytes (bytes_in more c) (offered c) ≡ map c
same_bytes graph more offered map grows stored is c = over (bytes_in more c) (bytes_in graph c) refl refl
  where
    over : (now old : Option (List ℕ)) → bytes_in more c ≡ now → bytes_in graph c ≡ old → first_bytes now (offered c) ≡ map c
    over (Some bytes) old e f = sym (stored c bytes e)
    over None None e f = ap (λ (own : Option (List ℕ)). first_bytes own (offered c)) (sym f) ∙ ap (λ (m : Map). m c) is
    over None (Some bytes) e f = absurd (false≢true (ap is_some (sym e) ∙ grows c (ap is_some f)))

stay_stored : (old new : Durable) → GoesOn old new → (c : Cid) → is_some (bytes_in old.graph c) ≡ true → is_some (bytes_in new.graph c) ≡ true
stay_stored old new grows c there = subst (λ (graph : List Vertex). is_some (bytes_in graph c) ≡ true) (sym grows.graph) (bytes_more old.graph grows.stored c there)

still_found : (graph more : List Vertex) (offers : Option Map) (map : Map) → ((c : Cid) → is_some (bytes_in graph c) ≡ true → is_some (bytes_in more c) ≡ true) → ((c : Cid) (bytes : List ℕ) → bytes_in more c ≡ Some bytes → map c ≡ Some bytes)
    → found_from graph offers ≡ Some map → found_from more offers ≡ Some map
still_found graph more None map grows stored is = is
still_found graph more (Some offered) map grows stored is =
    let each = same_bytes graph more offered map grows stored (some_is (λ c. first_bytes (bytes_in graph c) (offered c)) map is) in λ i. Some (λ c. each c i)

-- what is stored at last is found where less is stored
found_stored : (s new : ReplicaState) → GoesOn s.state.durable new.state.durable → found_from s.state.durable.graph (Some (stored_bytes new)) ≡ Some (stored_bytes new)
found_stored s new grows = let each : (c : Cid) → first_bytes (bytes_in s.state.durable.graph c) (stored_bytes new c) ≡ stored_bytes new c = λ c. over c (bytes_in s.state.durable.graph c) refl in λ i. Some (λ c. each c i)
  where
    over : (c : Cid) (own : Option (List ℕ)) → bytes_in s.state.durable.graph c ≡ own → first_bytes (bytes_in s.state.durable.graph c) (stored_bytes new c) ≡ stored_bytes new c
    over c None e = ap (λ (o : Option (List ℕ)). first_bytes o (stored_bytes new c)) e
    over c (Some bytes) e = ap (λ (o : Option (List ℕ)). first_bytes o (stored_bytes new c)) e ∙ sym (stored_back (stored_bytes new) s.state.durable new.state.durable grows (λ d other h. h) c bytes e)

-- a replica that had stopped
pub still_repairs : (budget : ℕ) (finds : Finds) (a : Option ReplicaState) → IfSome a (λ s. IsSound s.state) → Told a a (λ s new. RepairLeads budget finds (Err error.Stopped) s new)
still_repairs budget finds None sound = tt
still_repairs budget finds (Some s) sound = record {
  grows = same_goes s.state.durable;
  within = omega arith;
  fuse = fuse_stays false (commits_between false s s + 1) s.fuse;
  counts = tt;
  reaches = tt;
  sound = sound;
  is = λ map here. refl;
  surely = refl;
}

pub repairs_still : (a : Option ReplicaState) → IfSome a (λ s. IsSound s.state) → Told a a (λ s new. (budget : ℕ) (finds : Finds) → RepairLeads budget finds (Err error.Stopped) s new)
repairs_still None sound = tt
repairs_still (Some s) sound = λ budget finds. still_repairs budget finds (Some s) sound

-- both are told, and nothing is said of them
pub nothing_walked : (failed : Bool) (a r b : Option ReplicaState) → Told a r (λ s new. Leads false (count s) Always s new) → Told r b (λ s new. Walks failed 1 s new) → Told a b (λ s new. ⊤)
nothing_walked failed None r b first walks = tt
nothing_walked failed (Some s) None b first walks = absurd first
nothing_walked failed (Some s) (Some r) None first walks = absurd walks
nothing_walked failed (Some s) (Some r) (Some new) first walks = tt

module _ (begins : BeginsLaw) (repair_begins : RepairBeginsLaw) (joins : JoinsLaw) (whole : WholeLaw) where
  -- a repair has come to the state after the recall
  started : (offers : Option Map) (map : Map) (s r : ReplicaState) → found_from s.state.durable.graph offers ≡ Some map → IsSound s.state → IsSound r.state → Leads false (count s) Always s r
      → HasRepaired map (cids_in s.state.durable.graph) s.state.durable (wanted_in s.state.run) r.state
  started offers map s r is sound sound_r first =
      let start = begun begins s offers map is in
      let kept : List Cid = cids_in s.state.durable.graph in
      let same = wanted_same s.state.run in
      let drained : HasDrained map kept s.state.durable (wanted (queue_in s.state.run)) s.state = subst (λ (cids : List Cid). HasDrained map kept s.state.durable cids s.state) (sym same) start.0 in
      subst (λ (cids : List Cid). HasRepaired map kept s.state.durable cids r.state) same
      (joins map kept s.state.durable (wanted (queue_in s.state.run)) s.state r.state sound sound_r (repair_begins map kept s.state drained.stored drained.own)
      (first.goes refl map kept tt s.state.durable (wanted (queue_in s.state.run)) drained))

  -- and after the walk it is a drain
  walked : (offers : Option Map) (map : Map) (s r m : ReplicaState) → found_from s.state.durable.graph offers ≡ Some map → IsSound s.state → IsSound r.state → Leads false (count s) Always s r → Walks false 1 r m → IsWalked m
      → HasDrained map (cids_in s.state.durable.graph) s.state.durable (repair_start s) m.state
  walked offers map s r m is sound sound_r first walks here =
      let kept : List Cid = cids_in s.state.durable.graph in
      whole map kept s.state.durable (wanted_in s.state.run) m.state here.sound here.whole (walks.goes refl map kept s.state.durable (wanted_in s.state.run) (started offers map s r is sound sound_r first))

  -- a repair has begun: what is found is as it was, and its drain has begun
  walked_from : (s r m : ReplicaState) → IsSound s.state → IsSound r.state → Leads false (count s) Always s r → Walks false 1 r m → IsWalked m → HasWalkedFrom s m
  walked_from s r m sound sound_r first walks here = record {
    same = let more = longer s r first.grows in omega (arith, first.few, more, walks.same);
    grows = goes_on_then s.state.durable r.state.durable m.state.durable first.grows walks.grows;
    fuse = fuse_more false (commits_between false s r + 1) 1 s.fuse m.fuse (omega (arith, first.few)) (fuse_then false (commits_between false s r) 1 s.fuse r.fuse m.fuse first.fuse walks.fuse);
    sound = here.sound;
    whole = here.whole;
    finds = λ offers map is.
        let h = walked offers map s r m is sound sound_r first walks here in
        let p = walks.goes refl map (cids_in s.state.durable.graph) s.state.durable (wanted_in s.state.run) (started offers map s r is sound sound_r first) in (
          still_found s.state.durable.graph m.state.durable.graph offers map (stay_stored s.state.durable m.state.durable (goes_on_then s.state.durable r.state.durable m.state.durable first.grows walks.grows)) h.stored is,
          record { draining = h.draining; stored = h.stored; taken = h.taken; own = kept_bytes m.state.durable.graph },
          record { repairing = p.repairing; stored = p.stored; taken = p.taken; own = kept_bytes m.state.durable.graph },
        );
  }

  pub walked_told : (before : ℕ) (a r m : Option ReplicaState) → IfSome a (λ s. before ≡ capped (count s)) → IfSome a (λ s. IsSound s.state) → IfSome r (λ s. IsSound s.state) → IfSome m IsWalked → Told a r (λ s new. Leads false (count s) Always s new)
      → Told r m (λ s new. Walks false 1 s new) → Told a m (λ s new. (before ≡ capped (count new)) × HasWalkedFrom s new)
  walked_told before None r m at sound sound_r here first walks = tt
  walked_told before (Some s) None m at sound sound_r here first walks = absurd first
  walked_told before (Some s) (Some r) None at sound sound_r here first walks = absurd walks
  walked_told before (Some s) (Some r) (Some new) at sound sound_r here first walks = let begun = walked_from s r new sound sound_r first walks here in (at ∙ ap capped (sym begun.same), begun)

  -- a drain since the walk goes on with the repair
  on_from_walk : (offers : Option Map) (map : Map) (s m new : ReplicaState) → found_from s.state.durable.graph offers ≡ Some map → IsSound new.state → GoesOn m.state.durable new.state.durable → HasWalkedFrom s m
      → ((old : Durable) (start : List Cid) → HasDrained map (cids_in m.state.durable.graph) old start m.state → HasDrained map (cids_in m.state.durable.graph) old start new.state)
      → IsPartOf map (repair_start s) s new × IsPartRepaired map s new
  on_from_walk offers map s m new f sound more here goes =
      let finds = here.finds offers map f in
      let kept : List Cid = cids_in m.state.durable.graph in
      let grows = goes_on_then s.state.durable m.state.durable new.state.durable here.grows more in
      let own : (c : Cid) → has c (cids_in s.state.durable.graph) ≡ true → is_some (bytes_in new.state.durable.graph c) ≡ true =
      λ c e. stay_stored s.state.durable new.state.durable grows c (kept_bytes s.state.durable.graph c e) in
      let begun_m : HasDrained map kept m.state.durable (wanted (queue_in m.state.run)) m.state =
      subst (λ (cids : List Cid). HasDrained map kept m.state.durable cids m.state) (sym (wanted_same m.state.run)) (begun begins m offers map finds.0).0 in
      let drain = goes s.state.durable (repair_start s) finds.1 in
      let repair = joins map kept s.state.durable (wanted_in s.state.run) m.state new.state here.sound sound finds.2 (goes m.state.durable (wanted (queue_in m.state.run)) begun_m) in (
        record { draining = drain.draining; stored = drain.stored; taken = drain.taken; own = own },
        record { repairing = repair.repairing; stored = repair.stored; taken = repair.taken; own = own },
      )

  -- whatever was found
  partly_from : (s m new : ReplicaState) → IsSound new.state → GoesOn m.state.durable new.state.durable → HasWalkedFrom s m → DrainsOn m new → IsPartly (repair_start s) s new × IsPartRepaired (stored_bytes new) s new
  partly_from s m new sound more here on =
      on_from_walk (Some (stored_bytes new)) (stored_bytes new) s m new (found_stored s new (goes_on_then s.state.durable m.state.durable new.state.durable here.grows more)) sound more here
      (λ old start h. on (stored_bytes new) (cids_in m.state.durable.graph) (λ c bytes e. e) old start h)

  module _ (closed : ClosedLaw) (drained : DrainedLaw) where
    repair_is : (stop : DrainEnd) (budget limit before : ℕ) (finds : Finds) (result : Result Repaired WorkError) (s m new : ReplicaState) → limit ≡ capped (before + budget) → before ≡ capped (count m) → RepairAnswer stop before (Some new) result
        → HasWalkedFrom s m → Leaves stop new → MayReach new → DrainLeads stop limit (FindsFrom finds.all m.state.durable.graph) m new → (is_keeper stop ≡ false → AreLost finds.surely s.state.durable.graph (queue_in new.state.run)) → RepairLeads budget finds result s new
    repair_is end.Idle budget limit before finds result s m new is at answer here leaves reached leads lost =
        subst (λ (x : Result Repaired WorkError). RepairLeads budget finds x s new) (sym answer.1) (by_gaps answer.0 answer.2)
      where
        at_end : (map : Map) → found_from s.state.durable.graph finds.all ≡ Some map → IsAtEnd map (repair_start s) s new
        at_end map f =
            let at_walk = here.finds finds.all map f in
            let kept : List Cid = cids_in m.state.durable.graph in
            let parts = leads.parts refl map kept (at_walk.0, refl) s.state.durable (repair_start s) at_walk.1 in
            record {
              closure = closed map kept s.state.durable (repair_start s) new.state leaves.sound (drained_at drained map new.state.run parts (leaves.waiting refl) (leaves.flight refl)) (leads.goes refl map kept (at_walk.0, refl) s.state.durable (repair_start s) at_walk.1);
              parts = parts;
            }

        done : IsPartly (repair_start s) s new × IsDrained (offers_of (surely_from s.state.durable.graph finds)) new.state
        done = (
          (partly_from s m new leaves.sound leads.grows here (leads.whatever refl)).0,
          drained_so (surely_from s.state.durable.graph finds) new.state.run (none_lost finds s.state.durable.graph (queue_in new.state.run) (lost refl)) (leaves.waiting refl) (leaves.flight refl),
        )

        by_gaps : (left : Settled) → left ≡ settled_with (gap_count (kept_of new.state.durable)) → RepairLeads budget finds (Ok (repaired_of left)) s new
        by_gaps settled.Clean e = record {
          grows = goes_on_then s.state.durable m.state.durable new.state.durable here.grows leads.grows;
          within = let more = longer m new leads.grows in omega (arith, here.same, leads.within, more, is, at);
          fuse = burns_walked false s m new here.same (longer m new leads.grows) here.fuse leads.fuse;
          counts = sym e;
          reaches = reached (sym e);
          sound = leaves.sound;
          is = at_end;
          surely = done;
        }
        by_gaps (settled.Open gaps) e = record {
          grows = goes_on_then s.state.durable m.state.durable new.state.durable here.grows leads.grows;
          within = let more = longer m new leads.grows in omega (arith, here.same, leads.within, more, is, at);
          fuse = burns_walked false s m new here.same (longer m new leads.grows) here.fuse leads.fuse;
          counts = sym e;
          reaches = tt;
          sound = leaves.sound;
          is = at_end;
          surely = done;
        }
    repair_is end.Spent budget limit before finds result s m new is at answer here leaves reached leads lost =
        subst (λ (x : Result Repaired WorkError). RepairLeads budget finds x s new) (sym answer.1) (record {
          grows = goes_on_then s.state.durable m.state.durable new.state.durable here.grows leads.grows;
          within = let more = longer m new leads.grows in omega (arith, here.same, leads.within, more, is, at);
          fuse = burns_walked false s m new here.same (longer m new leads.grows) here.fuse leads.fuse;
          counts = (answer.2 ∙ ap (λ (n : ℕ). capped (count new) - n) (at ∙ ap capped here.same), let spent = leads.spent refl in omega (arith, spent, is, at, here.same));
          reaches = tt;
          sound = leaves.sound;
          is = λ map f.
              let at_walk = here.finds finds.all map f in
              let kept : List Cid = cids_in m.state.durable.graph in
              record {
                drained = (on_from_walk finds.all map s m new f leaves.sound leads.grows here (leads.goes refl map kept (at_walk.0, refl))).0;
                parts = leads.parts refl map kept (at_walk.0, refl) s.state.durable (repair_start s) at_walk.1;
                good = leads.good refl map kept (at_walk.0, refl) s.state.durable (repair_start s) at_walk.1;
              };
          surely = ((partly_from s m new leaves.sound leads.grows here (leads.whatever refl)).0, none_lost finds s.state.durable.graph (queue_in new.state.run) (lost refl));
        })
    repair_is end.KeeperFault budget limit before finds result s m new is at answer here leaves reached leads lost =
        subst (λ (x : Result Repaired WorkError). RepairLeads budget finds x s new) (sym answer) (record {
          grows = goes_on_then s.state.durable m.state.durable new.state.durable here.grows leads.grows;
          within = let more = longer m new leads.grows in omega (arith, here.same, leads.within, more, is, at);
          fuse = burns_walked true s m new here.same (longer m new leads.grows) here.fuse leads.fuse;
          counts = tt;
          reaches = tt;
          sound = leaves.sound;
          is = λ map f. let at_walk = here.finds finds.all map f in leads.breaks refl map (cids_in m.state.durable.graph) (at_walk.0, refl) s.state.durable (repair_start s) at_walk.1;
          surely = tt;
        })
    repair_is end.PeerFault budget limit before finds result s m new is at answer here leaves reached leads lost =
        subst (λ (x : Result Repaired WorkError). RepairLeads budget finds x s new) (sym answer) (record {
          grows = goes_on_then s.state.durable m.state.durable new.state.durable here.grows leads.grows;
          within = let more = longer m new leads.grows in omega (arith, here.same, leads.within, more, is, at);
          fuse = burns_walked false s m new here.same (longer m new leads.grows) here.fuse leads.fuse;
          counts = tt;
          reaches = tt;
          sound = leaves.sound;
          is = λ map f.
              let at_walk = here.finds finds.all map f in
              let kept : List Cid = cids_in m.state.durable.graph in
              let goes = leads.goes refl map kept (at_walk.0, refl) in
              let on = on_from_walk finds.all map s m new f leaves.sound leads.grows here goes in
              (on.0, on.1, broken_at map kept s.state.durable (repair_start s) new.state (goes s.state.durable (repair_start s) at_walk.1));
          surely = partly_from s m new leaves.sound leads.grows here (leads.whatever refl);
        })
    repair_is end.Memory budget limit before finds result s m new is at answer here leaves reached leads lost =
        subst (λ (x : Result Repaired WorkError). RepairLeads budget finds x s new) (sym answer) (record {
          grows = goes_on_then s.state.durable m.state.durable new.state.durable here.grows leads.grows;
          within = let more = longer m new leads.grows in omega (arith, here.same, leads.within, more, is, at);
          fuse = burns_walked false s m new here.same (longer m new leads.grows) here.fuse leads.fuse;
          counts = tt;
          reaches = tt;
          sound = leaves.sound;
          is = λ map f.
              let at_walk = here.finds finds.all map f in
              let kept : List Cid = cids_in m.state.durable.graph in
              let goes = leads.goes refl map kept (at_walk.0, refl) in
              ((on_from_walk finds.all map s m new f leaves.sound leads.grows here goes).1, broken_at map kept s.state.durable (repair_start s) new.state (goes s.state.durable (repair_start s) at_walk.1));
          surely = (partly_from s m new leaves.sound leads.grows here (leads.whatever refl)).1;
        })

    -- where workers have led from the walk's end, and a drain from there
    pub finish_repair_told : (stop : DrainEnd) (budget limit before : ℕ) (finds : Finds) (q : Queue) (result : Result Repaired WorkError) (a b : Option ReplicaState) → limit ≡ capped (before + budget) → RepairAnswer stop before b result
        → IfSome b (Leaves stop) → IfSome b MayReach → Told a b (λ s new. DrainLeads stop limit (Fetched finds.all) s new) → IfSome a (λ s. is_keeper stop ≡ false → AreLost finds.surely s.state.durable.graph q) → IfSome b (λ s. is_keeper stop ≡ false → queue_in s.state.run ≡ q)
        → Told a b (λ s new. (root walked : ReplicaState) → HasWalkedFrom root walked → HasWorkedFrom false before budget finds.all walked s → RepairLeads budget finds result root new)
    finish_repair_told stop budget limit before finds q result None b is answer leaves reached leads lost shows = tt
    finish_repair_told stop budget limit before finds q result (Some s) None is answer leaves reached leads lost shows = absurd leads
    finish_repair_told stop budget limit before finds q result (Some s) (Some new) is answer leaves reached leads lost shows = λ root walked here worked.
        repair_is stop budget limit before finds result root walked new is worked.counted answer here leaves reached
        (drain_after begins stop limit finds.all walked s new (subst (λ (n : ℕ). LeadsBy false (up_to n walked) (FindsFrom finds.all walked.state.durable.graph) Never walked s) (sym is) worked.leads) leads)
        (λ e. lost_at finds.surely root s new q (goes_on_then root.state.durable walked.state.durable s.state.durable here.grows worked.leads.grows) (lost e) (shows e))

    -- the keeper of the workers failed
    pub repair_broken : (before budget : ℕ) (finds : Finds) (root m s : ReplicaState) → IsSound s.state → HasWalkedFrom root m → HasWorkedFrom true before budget finds.all m s → RepairLeads budget finds (Err error.KeeperFault) root s
    repair_broken before budget finds root m s sound here worked = record {
      grows = goes_on_then root.state.durable m.state.durable s.state.durable here.grows worked.leads.grows;
      within = let few = worked.leads.few in let at = worked.counted in omega (arith, here.same, few, at);
      fuse = burns_walked true root m s here.same (longer m s worked.leads.grows) here.fuse worked.leads.fuse;
      counts = tt;
      reaches = tt;
      sound = sound;
      is = λ map f. let at_walk = here.finds finds.all map f in worked.leads.breaks refl map (cids_in m.state.durable.graph) (at_walk.0, refl) root.state.durable (repair_start root) at_walk.1;
      surely = tt;
    }

    -- a fetch of theirs failed, and all was recalled
    pub repair_recalled : (before budget : ℕ) (finds : Finds) (root m s new : ReplicaState) → IsSound new.state → HasWalkedFrom root m → HasWorkedFrom false before budget finds.all m s → Leads false (count s) Always s new → RepairLeads budget finds (Err error.PeerFault) root new
    repair_recalled before budget finds root m s new sound here worked recalled = record {
      grows = goes_on_then root.state.durable m.state.durable new.state.durable here.grows leads.grows;
      within = let few = leads.few in let at = worked.counted in omega (arith, here.same, few, at);
      fuse = burns_walked false root m new here.same (longer m new leads.grows) here.fuse leads.fuse;
      counts = tt;
      reaches = tt;
      sound = sound;
      is = λ map f.
          let at_walk = here.finds finds.all map f in
          let kept : List Cid = cids_in m.state.durable.graph in
          let goes = leads.goes refl map kept (at_walk.0, refl) in
          let on = on_from_walk finds.all map root m new f sound leads.grows here goes in
          (on.0, on.1, broken_at map kept root.state.durable (repair_start root) new.state (goes root.state.durable (repair_start root) at_walk.1));
      surely = partly_from root m new sound leads.grows here (leads.whatever refl);
    }
      where
        leads : LeadsBy false (up_to (capped (before + budget)) m) (FindsFrom finds.all m.state.durable.graph) Never m new
        leads = leads_go_on false (up_to (capped (before + budget)) m) (count s) (up_to (capped (before + budget)) m) (FindsFrom finds.all m.state.durable.graph) Always Always m s new worked.leads recalled worked.leads.few (λ map kept old start p h. tt)

  -- the walk came to no end
  cut_is : (stop : DrainEnd) (budget : ℕ) (finds : Finds) (s r new : ReplicaState) → IsBroken stop → IsSound s.state → IsSound r.state → IsSound new.state → Leads false (count s) Always s r → Walks (is_keeper stop) 1 r new → RepairLeads budget finds (Err (walk_error stop)) s new
  cut_is end.Idle budget finds s r new broken sound sound_r sound_new first walks = absurd broken
  cut_is end.Spent budget finds s r new broken sound sound_r sound_new first walks = absurd broken
  cut_is end.PeerFault budget finds s r new broken sound sound_r sound_new first walks = absurd broken
  cut_is end.KeeperFault budget finds s r new broken sound sound_r sound_new first walks = record {
    grows = goes_on_then s.state.durable r.state.durable new.state.durable first.grows walks.grows;
    within = omega (arith, first.few, walks.same);
    fuse = burns_before true s r new (longer s r first.grows) walks.same first.fuse walks.fuse;
    counts = tt;
    reaches = tt;
    sound = sound_new;
    is = λ map f. walks.breaks refl map (cids_in s.state.durable.graph) s.state.durable (wanted_in s.state.run) (started finds.all map s r f sound sound_r first);
    surely = tt;
  }
  cut_is end.Memory budget finds s r new broken sound sound_r sound_new first walks = record {
    grows = goes_on_then s.state.durable r.state.durable new.state.durable first.grows walks.grows;
    within = omega (arith, first.few, walks.same);
    fuse = burns_before false s r new (longer s r first.grows) walks.same first.fuse walks.fuse;
    counts = tt;
    reaches = tt;
    sound = sound_new;
    is = λ map f.
        let on = walks.goes refl map (cids_in s.state.durable.graph) s.state.durable (wanted_in s.state.run) (started finds.all map s r f sound sound_r first) in
        (on, broken_repair map (cids_in s.state.durable.graph) s.state.durable (wanted_in s.state.run) new.state on);
    surely = walks.goes refl (stored_bytes new) (cids_in s.state.durable.graph) s.state.durable (wanted_in s.state.run)
        (started (Some (stored_bytes new)) (stored_bytes new) s r (found_stored s new (goes_on_then s.state.durable r.state.durable new.state.durable first.grows walks.grows)) sound sound_r first);
  }

  pub cut_each : (stop : DrainEnd) (error : WorkError) (a r b : Option ReplicaState) → error ≡ walk_error stop → IsBroken stop → IfSome a (λ s. IsSound s.state) → IfSome r (λ s. IsSound s.state) → IfSome b (λ s. IsSound s.state) → Told a r (λ s new. Leads false (count s) Always s new)
      → Told r b (λ s new. Walks (is_keeper stop) 1 s new) → Told a b (λ s new. (budget : ℕ) (finds : Finds) → RepairLeads budget finds (Err error) s new)
  cut_each stop error None r b is broken sound sound_r sound_new first walks = tt
  cut_each stop error (Some s) None b is broken sound sound_r sound_new first walks = absurd first
  cut_each stop error (Some s) (Some r) None is broken sound sound_r sound_new first walks = absurd walks
  cut_each stop error (Some s) (Some r) (Some new) is broken sound sound_r sound_new first walks = λ budget finds.
      subst (λ (e : WorkError). RepairLeads budget finds (Err e) s new) (sym is) (cut_is stop budget finds s r new broken sound sound_r sound_new first walks)

  -- it was given up before the walk
  pub given_up_told : (budget : ℕ) (finds : Finds) (a b : Option ReplicaState) → IfSome a (λ s. IsSound s.state) → IfSome b (λ s. IsSound s.state) → Told a b (λ s new. Leads false (count s) Always s new)
      → Told a b (λ s new. RepairLeads budget finds (Err error.Memory) s new)
  given_up_told budget finds None b sound sound_new first = tt
  given_up_told budget finds (Some s) None sound sound_new first = absurd first
  given_up_told budget finds (Some s) (Some new) sound sound_new first = cut_is end.Memory budget finds s new new tt sound sound_new sound_new first (walks_stay 1 new new refl)

-- it has come to no walk's end, whatever the budget and the offers are
pub unwalked_told : (budget : ℕ) (finds : Finds) (error : WorkError) (a b : Option ReplicaState) → Told a b (λ s new. (budget : ℕ) (finds : Finds) → RepairLeads budget finds (Err error) s new) → Told a b (λ s new. RepairLeads budget finds (Err error) s new)
unwalked_told budget finds error None b leads = tt
unwalked_told budget finds error (Some s) None leads = absurd leads
unwalked_told budget finds error (Some s) (Some new) leads = leads budget finds

-- where nobody has worked since the walk
pub repair_alone_told : (before budget : ℕ) (finds : Finds) (result : Result Repaired WorkError) (a m b : Option ReplicaState) → Told a m (λ s mid. (before ≡ capped (count mid)) × HasWalkedFrom s mid)
    → Told m b (λ s new. (root walked : ReplicaState) → HasWalkedFrom root walked → HasWorkedFrom false before budget finds.all walked s → RepairLeads budget finds result root new) → Told a b (λ s new. RepairLeads budget finds result s new)
repair_alone_told before budget finds result None m b walked leads = tt
repair_alone_told before budget finds result (Some s) None b walked leads = absurd walked
repair_alone_told before budget finds result (Some s) (Some mid) None walked leads = absurd leads
repair_alone_told before budget finds result (Some s) (Some mid) (Some new) walked leads =
    leads s mid walked.1 (record { counted = walked.0; leads = leads_itself (up_to (capped (before + budget)) mid) (FindsFrom finds.all mid.state.durable.graph) Never mid (omega arith) })

-- what is known after the walk, as its state has it
pub walked_shown : (told : Option Kept) (fuse : Option Fuse) (down : Bool) (run : Running) → down ≡ false → run.whole ≡ true → IfSome (state_of told fuse (run_of down run)) (λ s. IsSound s.state) → IfSome (state_of told fuse (run_of down run)) IsWalked
walked_shown None fuse down run up whole sound = tt
walked_shown (Some kept) fuse down run up whole sound = record { sound = sound; whole = subst (λ (b : Bool). IsWhole (run_of b run)) (sym up) whole }
