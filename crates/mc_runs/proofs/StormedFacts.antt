-- The blocks of a storm that was answered are processed, and stay so.
use Rattle.std.proofs.Common.{◌≡◌, ◌≤◌, ◌+◌, ℕ, Bool, true, false, true≢false, List, [], ◌∷◌, ◌++◌, length, Option, Some, None, Result, Ok, refl, sym, ◌∙◌, ap, subst, inl, inr, arith, length-append, cond, append_assoc}
use Rattle.std.specs.Prelude.{◌&&◌, not, is_some, slice_get, unwrap_or}
use Rattle.std.proofs.lemmas.List.{append-nil}
use Rattle.mc_base.specs.Told.{Told}
use Rattle.mc_base.specs.declared.cid.Cid.{Cid}
use Rattle.mc_base.proofs.Telling.{told_weaker}
use Rattle.mc_keep.specs.declared.fuse.Fuse.{Fuse}
use Rattle.mc_model.specs.Kept.{Kept, is_stored}
use Rattle.mc_model.specs.Made.{made_cid}
use Rattle.mc_model.specs.Events.{GoesOn}
use Rattle.mc_model.specs.State.{Durable, Running, durable_of, kept_of}
use Rattle.mc_core.specs.Events.{Goes, ReplicaState, state_of}
use Rattle.mc_core.specs.Puts.{delta_of_put, made_events, next_links}
use Rattle.mc_core.specs.declared.CoreError.{CoreError}
use Rattle.mc_core.specs.declared.CoreError.TheVariants as core
use Rattle.mc_core.proofs.GrowthFacts.{GrowLaw}
use Rattle.mc_storm.specs.Interleavings.{IsInterleaving, StormCall, Write, one_if, puts_made}
use Rattle.mc_storm.specs.Storms.{ActsBy, CallsRun, PutActs, StormLeads, storm_key, storm_value}
use Rattle.mc_script.specs.declared.command.Command.TheVariants.{Storm}
use Rattle.mc_script.specs.declared.reply.Reply.{Reply}
use Rattle.mc_script.specs.declared.reply.Reply.TheVariants.{Stormed}
use Rattle.mc_seats.specs.declared.error.ActError.{ActError}
use Rattle.mc_seats.specs.declared.entry.LineEntry.{LineEntry}
use Rattle.mc_seats.specs.Asks.{is_named}
use Rattle.mc_seats.specs.Effects.{IsReply, RefusedAt}
use Rattle.mc_runs.specs.Promises.{CallsMake, ContentGrows, GrowsAt, HasMore, HasStormed, IsLineAt, OnlyGrows, SinceLine, StandStormed, block_by}
use Rattle.mc_runs.specs.Runs.{Answer, Runs}
use Rattle.mc_seats.specs.Step.{Row, Step}
use Rattle.mc_seats.specs.Worlds.{Place, WorldState, state_at}
use Rattle.mc_runs.proofs.WrittenFacts.{at_there, made_order, moved_stands, said_in, stands_since}

-- how many blocks the calls of a storm add

order_same : (s t : ReplicaState) → t ≡ s → length t.state.durable.order ≡ length s.state.durable.order + 0
order_same s t same = let e = ap (λ (x : ReplicaState). length x.state.durable.order) same in omega (arith, e)

put_order : (key bytes : List ℕ) (s t : ReplicaState) → Goes (made_events (kept_of s.state.durable) (next_links (kept_of s.state.durable)) (delta_of_put (kept_of s.state.durable) key bytes)) s t
    → length t.state.durable.order ≡ length s.state.durable.order + 1
put_order key bytes s t g =
    let kept : Kept = kept_of s.state.durable in
    let cid : Cid = made_cid (next_links kept) (delta_of_put kept key bytes) in
    ap (λ (x : ReplicaState). length x.state.durable.order) g.ends
    ∙ ap (λ (order : List Cid). length order) (made_order (is_stored kept.graph cid) _ cid s.state.durable s.state.run s.fuse g.may)
    ∙ length-append s.state.durable.order (cid ∷ [])

put_adds : (made : Bool) (key bytes : List ℕ) (s t : ReplicaState) → PutActs made key bytes s t → length t.state.durable.order ≡ length s.state.durable.order + one_if made
put_adds true key bytes s t makes = put_order key bytes s t (subst (λ events. Goes events s t) makes.done.makes.0 makes.done.goes)
put_adds false key bytes s t refused = order_same s t refused.same

call_adds : (gets : Bool) (key bytes : List ℕ) (write : Write) (s t : ReplicaState) → ActsBy gets key bytes write s t → length t.state.durable.order ≡ length s.state.durable.order + one_if (not gets && write.made)
call_adds false key bytes write s t acts = put_adds write.made key bytes s t acts
call_adds true key bytes write s t acts = order_same s t acts.unchanged

calls_add : (calls : List StormCall) (s t : ReplicaState) → CallsRun calls s t → length t.state.durable.order ≡ length s.state.durable.order + puts_made calls
calls_add [] s t same = order_same s t same
calls_add (call ∷ calls) s t (mid, acts, run) =
    both (length s.state.durable.order) (length mid.state.durable.order) (length t.state.durable.order) _ (puts_made calls) (call_adds call.gets (storm_key call.writer) (storm_value call.write.number) call.write s mid acts) (calls_add calls mid t run)
  where
    both : (a b c x y : ℕ) → b ≡ a + x → c ≡ b + y → c ≡ a + (x + y)
    both a b c x y first next = omega (arith, first, next)

-- the number of `stormed M S`

made_of : Reply → Option ℕ
made_of (Stormed made same) = Some made
made_of reply = None

no_storm : (error : CoreError) (made same : ℕ) → IsReply error (Stormed made same) → ⊥
unfolding made_of
no_storm core.KeeperFault made same e = e
no_storm core.Memory made same e = e
no_storm error made same e = true≢false (sym (ap (λ (said : Result Reply ActError). is_some (said_in made_of said)) e))

abbrev MoreBy : ℕ → ReplicaState → ReplicaState → Type 0
MoreBy count s t = length s.state.durable.order + count ≤ length t.state.durable.order

more_by : (count n : ℕ) (s t : ReplicaState) → count ≡ n → length t.state.durable.order ≡ length s.state.durable.order + n → MoreBy count s t
more_by count n s t same adds = omega (arith, same, adds)

pub more_is_processed : (w : WorldState) (r writers writes : ℕ) (entry : LineEntry) (made same : ℕ) (w2 : WorldState) → Step w (Storm r writers writes) entry (Stormed made same) w2 → HasMore w r made w2
unfolding made_of
more_is_processed w r writers writes entry made same w2 step = over step.row
  where
    over : Row w (Storm r writers writes) (λ r. is_named entry.keepers r ≡ true) (λ r. is_named entry.own r ≡ true) (λ r. is_named entry.desks r ≡ true) (Stormed made same) w2 → HasMore w r made w2
    over (inl (inl (inl refused))) =
        let found = at_there w r (λ p. RefusedAt w p (Storm r writers writes) (Some (Stormed made same))) step.there refused.cause in
        absurd (no_storm found.2.0 made same found.2.3)
    over (inl (inr fault)) = absurd (true≢false (ap (λ r. is_some (made_of r)) fault.says))
    over (inr peer) = absurd (true≢false (ap (λ r. is_some (made_of r)) peer.says))
    over (inl (inl (inr done))) = record {
      old = done.moved.old;
      new = done.moved.new;
      stood = done.moved.stands;
      stands = moved_stands r w.places w2.places _ done.moved;
      processed = told_weaker (StormLeads writers writes (Ok done.moved.holds.value) ⊥) (MoreBy made)
          (λ s t ends. more_by made (puts_made ends.calls) s t (ap (λ r. unwrap_or (made_of r) 0) done.moved.holds.says ∙ ends.made_is) (calls_add ends.calls s t ends.run))
          (state_at done.moved.old) (state_at done.moved.new) done.moved.holds.told;
    }

-- they stay so

told_later : (count : ℕ) (old : Option ReplicaState) (mid last : Option Kept) (fuse fuse2 : Option Fuse) (run run2 : Option Running) → Told old (state_of mid fuse run) (MoreBy count) → ContentGrows mid last → Told old (state_of last fuse2 run2) (MoreBy count)
told_later count None mid last fuse fuse2 run run2 told grows = tt
told_later count (Some s) None last fuse fuse2 run run2 told grows = absurd told
told_later count (Some s) (Some mid) None fuse fuse2 run run2 told grows = absurd grows
told_later count (Some s) (Some mid) (Some last) fuse fuse2 run run2 told grows =
    let longer = ap (λ (order : List Cid). length order) grows.order ∙ length-append mid.order grows.processed in
    omega (arith, told, longer)

more_later : (r count : ℕ) (w w2 w3 : WorldState) → HasMore w r count w2 → OnlyGrows w2 w3 → HasMore w r count w3
more_later r count w w2 w3 is grows = later (slice_get w3.places r) refl (subst (λ (o : Option Place). GrowsAt o (slice_get w3.places r)) is.stands (grows.each r))
  where
    later : (o : Option Place) → slice_get w3.places r ≡ o → GrowsAt (Some is.new) o → HasMore w r count w3
    later None stands g = absurd g
    later (Some q) stands g = record {
      old = is.old;
      new = q;
      stood = is.stood;
      stands = stands;
      processed = told_later count (state_at is.old) is.new.content q.content is.new.fuse q.fuse is.new.run q.run is.processed g;
    }

pub more_stands : (law : GrowLaw) (lines : List (List ℕ)) (answers : List (Option Answer)) (first last : WorldState) (k r writers writes made same : ℕ) → Runs first lines answers last → IsLineAt lines answers k (Storm r writers writes) (Stormed made same)
    → SinceLine first lines answers k last (λ w w2. HasMore w r made w2)
more_stands law lines answers first last k r writers writes made same runs is =
    stands_since law (λ w w2. HasMore w r made w2) (more_later r made) (Storm r writers writes) (Stormed made same) (λ w entry w2 step. more_is_processed w r writers writes entry made same w2 step) lines answers first last k runs is

-- the blocks of a storm by their names

block_added : (made : Bool) (key bytes : List ℕ) (s t : ReplicaState) → PutActs made key bytes s t
    → t.state.durable.order ≡ s.state.durable.order ++ cond made (made_cid (next_links (kept_of s.state.durable)) (delta_of_put (kept_of s.state.durable) key bytes) ∷ []) []
block_added true key bytes s t makes =
    let kept : Kept = kept_of s.state.durable in
    let goes = subst (λ events. Goes events s t) makes.done.makes.0 makes.done.goes in
    ap (λ (x : ReplicaState). x.state.durable.order) goes.ends ∙ made_order (is_stored kept.graph (made_cid (next_links kept) (delta_of_put kept key bytes))) _ (made_cid (next_links kept) (delta_of_put kept key bytes)) s.state.durable s.state.run s.fuse goes.may
block_added false key bytes s t refused = ap (λ (x : ReplicaState). x.state.durable.order) refused.same ∙ sym (append-nil s.state.durable.order)

call_added : (gets : Bool) (key bytes : List ℕ) (write : Write) (s t : ReplicaState) → ActsBy gets key bytes write s t
    → t.state.durable.order ≡ s.state.durable.order ++ cond (not gets && write.made) (made_cid (next_links (kept_of s.state.durable)) (delta_of_put (kept_of s.state.durable) key bytes) ∷ []) []
call_added false key bytes write s t acts = block_added write.made key bytes s t acts
call_added true key bytes write s t acts = ap (λ (x : ReplicaState). x.state.durable.order) acts.unchanged ∙ sym (append-nil s.state.durable.order)

one_block : (made : Bool) (cid : Cid) → length (cond made (cid ∷ []) []) ≡ one_if made
one_block true cid = refl
one_block false cid = refl

-- what calls make, one after the other
pub record AreMade (calls : List StormCall) (s t : ReplicaState) : Type 0 where
  pub cids : List Cid
  pub make : CallsMake calls s cids t
  pub many : length cids ≡ puts_made calls
  pub order : t.state.durable.order ≡ s.state.durable.order ++ cids

are_made : (calls : List StormCall) (s t : ReplicaState) → CallsRun calls s t → AreMade calls s t
are_made [] s t same = record { cids = []; make = (refl, same); many = refl; order = ap (λ (x : ReplicaState). x.state.durable.order) same ∙ sym (append-nil s.state.durable.order) }
are_made (call ∷ calls) s t (mid, acts, run) =
    let rest = are_made calls mid t run in
    let first : List Cid = block_by call (kept_of s.state.durable) in
    let one = one_block (not call.gets && call.write.made) (made_cid (next_links (kept_of s.state.durable)) (delta_of_put (kept_of s.state.durable) (storm_key call.writer) (storm_value call.write.number))) in
    record {
      cids = first ++ rest.cids;
      make = (mid, rest.cids, acts, refl, rest.make);
      many = length-append first rest.cids ∙ ap (λ (n : ℕ). n + length rest.cids) one ∙ ap (λ (n : ℕ). one_if (not call.gets && call.write.made) + n) rest.many;
      order = rest.order ∙ ap (λ (l : List Cid). l ++ rest.cids) (call_added call.gets (storm_key call.writer) (storm_value call.write.number) call.write s mid acts) ∙ append_assoc s.state.durable.order first rest.cids;
    }

stormed_now : (writers writes made : ℕ) (s t : ReplicaState) (calls : List StormCall) → IsInterleaving writers writes calls → CallsRun calls s t → made ≡ puts_made calls → StandStormed writers writes made s t
stormed_now writers writes made s t calls interleaved run same =
    let all = are_made calls s t run in
    record { calls = calls; interleaved = interleaved; cids = all.cids; after = t; make = all.make; many = all.many ∙ sym same; behind = []; order = all.order ∙ sym (append-nil (s.state.durable.order ++ all.cids)) }

stormed_last : (writers writes made : ℕ) (s : ReplicaState) (mid last : Durable) (run run2 : Option Running) (fuse fuse2 : Option Fuse) → GoesOn mid last → StandStormed writers writes made s (record { state = record { durable = mid; run = run }; fuse = fuse })
    → StandStormed writers writes made s (record { state = record { durable = last; run = run2 }; fuse = fuse2 })
stormed_last writers writes made s mid last run run2 fuse fuse2 grows is = record {
  calls = is.calls;
  interleaved = is.interleaved;
  cids = is.cids;
  after = is.after;
  make = is.make;
  many = is.many;
  behind = is.behind ++ grows.processed;
  order = grows.order ∙ ap (λ (l : List Cid). l ++ grows.processed) is.order ∙ append_assoc (s.state.durable.order ++ is.cids) is.behind grows.processed;
}

told_stormed : (writers writes made : ℕ) (old : Option ReplicaState) (mid last : Option Kept) (fuse fuse2 : Option Fuse) (run run2 : Option Running) → Told old (state_of mid fuse run) (StandStormed writers writes made) → ContentGrows mid last → Told old (state_of last fuse2 run2) (StandStormed writers writes made)
told_stormed writers writes made None mid last fuse fuse2 run run2 told grows = tt
told_stormed writers writes made (Some s) None last fuse fuse2 run run2 told grows = absurd told
told_stormed writers writes made (Some s) (Some mid) None fuse fuse2 run run2 told grows = absurd grows
told_stormed writers writes made (Some s) (Some mid) (Some last) fuse fuse2 run run2 told grows = stormed_last writers writes made s (durable_of mid) (durable_of last) run run2 fuse fuse2 grows told

stormed_later : (r writers writes made : ℕ) (w w2 w3 : WorldState) → HasStormed w r writers writes made w2 → OnlyGrows w2 w3 → HasStormed w r writers writes made w3
stormed_later r writers writes made w w2 w3 is grows = later (slice_get w3.places r) refl (subst (λ (o : Option Place). GrowsAt o (slice_get w3.places r)) is.stands (grows.each r))
  where
    later : (o : Option Place) → slice_get w3.places r ≡ o → GrowsAt (Some is.new) o → HasStormed w r writers writes made w3
    later None stands g = absurd g
    later (Some q) stands g = record {
      old = is.old;
      new = q;
      stood = is.stood;
      stands = stands;
      processed = told_stormed writers writes made (state_at is.old) is.new.content q.content is.new.fuse q.fuse is.new.run q.run is.processed g;
    }

storm_makes : (w : WorldState) (r writers writes : ℕ) (entry : LineEntry) (made same : ℕ) (w2 : WorldState) → Step w (Storm r writers writes) entry (Stormed made same) w2 → HasStormed w r writers writes made w2
unfolding made_of
storm_makes w r writers writes entry made same w2 step = over step.row
  where
    over : Row w (Storm r writers writes) (λ r. is_named entry.keepers r ≡ true) (λ r. is_named entry.own r ≡ true) (λ r. is_named entry.desks r ≡ true) (Stormed made same) w2 → HasStormed w r writers writes made w2
    over (inl (inl (inl refused))) =
        let found = at_there w r (λ p. RefusedAt w p (Storm r writers writes) (Some (Stormed made same))) step.there refused.cause in
        absurd (no_storm found.2.0 made same found.2.3)
    over (inl (inr fault)) = absurd (true≢false (ap (λ r. is_some (made_of r)) fault.says))
    over (inr peer) = absurd (true≢false (ap (λ r. is_some (made_of r)) peer.says))
    over (inl (inl (inr done))) = record {
      old = done.moved.old;
      new = done.moved.new;
      stood = done.moved.stands;
      stands = moved_stands r w.places w2.places _ done.moved;
      processed = told_weaker (StormLeads writers writes (Ok done.moved.holds.value) ⊥) (StandStormed writers writes made)
          (λ s t ends. stormed_now writers writes made s t ends.calls ends.interleaved ends.run (ap (λ r. unwrap_or (made_of r) 0) done.moved.holds.says ∙ ends.made_is))
          (state_at done.moved.old) (state_at done.moved.new) done.moved.holds.told;
    }

pub storm_blocks_stand : (law : GrowLaw) (lines : List (List ℕ)) (answers : List (Option Answer)) (first last : WorldState) (k r writers writes made same : ℕ) → Runs first lines answers last → IsLineAt lines answers k (Storm r writers writes) (Stormed made same)
    → SinceLine first lines answers k last (λ w w2. HasStormed w r writers writes made w2)
storm_blocks_stand law lines answers first last k r writers writes made same runs is =
    stands_since law (λ w w2. HasStormed w r writers writes made w2) (stormed_later r writers writes made) (Storm r writers writes) (Stormed made same) (λ w entry w2 step. storm_makes w r writers writes entry made same w2 step) lines answers first last k runs is
