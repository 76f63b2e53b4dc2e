-- The desks of a replica, made one after another.
use Rattle.std.proofs.Common.{◌≡◌, ◌+◌, ℕ, Bool, true, false, true≢false, ◌&&◌, ◌||◌, List, [], ◌∷◌, ◌++◌, length, length-append, Option, None, Ok, refl, sym, ap, subst, ◌∙◌, arith}
use Rattle.std.specs.Prelude.{is_some, nat_eq}
use Rattle.std.proofs.lemmas.List.Folds.{list_all-append}
use Rattle.std.proofs.lemmas.List.Sums.{sum_by-append}
use Rattle.mc_base.specs.declared.counted.Counted as counted
use Rattle.mc_keep.proofs.Frames.{rose_before}
use Rattle.mc_keep.specs.Calls.{Members}
use Rattle.mc_keep.specs.Causes.{has_fired}
use Rattle.mc_keep.specs.Plan.{DeskAsPlanned}
use Rattle.mc_keep.specs.declared.fuse.Fuse.{Fuse}
use Rattle.mc_keep.specs.declared.keeper.Keeper as keeper
use Rattle.mc_core.specs.Exact.{RestSame, stop_front}
use Rattle.mc_core.specs.Words.{ContinuesApart, TellsSame}
use Rattle.mc_core.specs.declared.replica.Replica.{Replica}
use Rattle.mc_seats.specs.Desked.{HavePlansOf}
use Rattle.mc_seats.specs.Keepers.{is_calm_desk}
use Rattle.mc_seats.specs.Openings.{AreNewDesks, MakesDesks}
use Rattle.mc_seats.specs.Worlds.{place_with}
use Rattle.mc_seats.specs.declared.seat.Held.TheVariants.{Up}
use Rattle.mc_seats.proofs.StayFacts.{LeftOf, made_push, none_have, none_left}

no_fault : {P : Type 0} → false ≡ true → P
no_fault e = absurd (let f : false ≡ true = e in cc)

both : (a b : Bool) → a ≡ true → b ≡ true → (a && b) ≡ true
both true b e f = f
both false b e f = e

-- a replica that has not refused runs
pub is_running : (stopped : Bool) → None ≡ stop_front stopped None → stopped ≡ false
is_running true is = absurd (true≢false (sym (ap is_some is)))
is_running false is = refl

module _ {K D : Type 0} {g : keeper.Ghosts K D} {h : counted.Ghosts K} {i : counted.Ghosts D} (k : Members K D) where
  makes_none : (now : Replica K D g h i) → MakesDesks k false now now
  makes_none now = record {
    told_same = refl;
    fuse_same = refl;
    own_later = omega arith;
    own_still = λ e. refl;
    own_rose = λ none. no_fault;
    still_quiet = λ e. e;
    calm = λ none e. refl;
    stays = λ e. refl;
  }

  -- a desk more was made, or the call failed
  pub makes_more : (failed : Bool) (first mid new : Replica K D g h i) → MakesDesks k false first mid → ContinuesApart k failed mid new → RestSame mid new → TellsSame k mid new → MakesDesks k failed first new
  makes_more failed first mid new before goes rest tells = record {
    told_same = tells.told_same ∙ before.told_same;
    fuse_same = tells.fuse_same ∙ before.fuse_same;
    own_later = omega (arith, before.own_later, goes.keeper_goes.own_later);
    own_still = λ e. goes.keeper_goes.own_still e ∙ before.own_still refl;
    own_rose = λ none e. rose_before before.own_later (goes.keeper_goes.own_rose (unfired none) e);
    still_quiet = λ e. (goes.keeper_goes.still_quiet (before.still_quiet e)).0;
    calm = λ none e. goes.keeper_goes.calm (unfired none) (before.still_quiet e);
    stays = λ e. stay e ∙ before.stays refl;
  }
    where
      unfired : k.fuse first.keeper ≡ None → has_fired (k.fuse mid.keeper) (k.fuse new.keeper) ≡ false
      unfired none = subst (λ (f : Option Fuse). has_fired f (k.fuse new.keeper) ≡ false) (sym (before.fuse_same ∙ none)) refl

      stay : failed ≡ false → place_with k.told k.fuse [] (Up new) ≡ place_with k.told k.fuse [] (Up mid)
      stay e = let stop : new.stopped ≡ mid.stopped = goes.stops ∙ ap (λ b. b || mid.stopped) e in
          rw (tells.told_same, tells.fuse_same, tells.queue_same, rest.walk_same, rest.batch_same, rest.whole_same, stop)

  module _ (desk_faults : D → ℕ) where
    -- where the loop over the desks stands
    pub record IsDesking (first now : Replica K D g h i) (desks : List D) (count : ℕ) : Type 0 where
      pub makes : MakesDesks k false first now
      pub new_desks : AreNewDesks k desk_faults first.keeper desks
      pub planned : HavePlansOf k.desk_schedule (k.schedule first.keeper) desks
      pub left : LeftOf k.desk_schedule (k.schedule first.keeper) count (k.schedule now.keeper)
      pub many : length desks ≡ count

    pub begins : (now : Replica K D g h i) → IsDesking now now [] 0
    begins now = record {
      makes = makes_none now;
      new_desks = record { no_faults = refl; calm = λ e. refl };
      planned = none_have k.desk_schedule (k.schedule now.keeper);
      left = none_left k.desk_schedule (k.schedule now.keeper);
      many = refl;
    }

    pub goes_on : (first mid new : Replica K D g h i) (desks : List D) (count : ℕ) (desk : D) → IsDesking first mid desks count → ContinuesApart k false mid new → RestSame mid new → TellsSame k mid new → desk_faults desk ≡ 0
        → (k.quiet mid.keeper ≡ true → k.quiet_desk desk ≡ true) → DeskAsPlanned k.desk_schedule (k.schedule mid.keeper) (k.schedule new.keeper) (Ok desk) → IsDesking first new (desks ++ desk ∷ []) (count + 1)
    goes_on first mid new desks count desk before goes rest tells fresh quiet planned = record {
      makes = makes_more false first mid new before.makes goes rest tells;
      new_desks = record {
        no_faults = sum_by-append desk_faults desks (desk ∷ []) ∙ omega (arith, before.new_desks.no_faults, fresh);
        calm = λ e. list_all-append (is_calm_desk k desk_faults) desks (desk ∷ []) ∙ both _ _ (before.new_desks.calm e)
            (both _ _ (both _ _ (quiet (before.makes.still_quiet e)) (ap (λ n. nat_eq n 0) fresh)) refl);
      };
      planned = (made_push k.desk_schedule (k.schedule first.keeper) (k.schedule mid.keeper) (k.schedule new.keeper) desks desk count before.many before.left before.planned planned).0;
      left = (made_push k.desk_schedule (k.schedule first.keeper) (k.schedule mid.keeper) (k.schedule new.keeper) desks desk count before.many before.left before.planned planned).1;
      many = length-append desks (desk ∷ []) ∙ ap (λ n. n + 1) before.many;
    }

    -- no desk more
    pub makes_failed : (failed still : Bool) (first mid new : Replica K D g h i) (desks : List D) (count : ℕ) → IsDesking first mid desks count → ContinuesApart k failed mid new → RestSame mid new → TellsSame k mid new → still ≡ failed → MakesDesks k still first new
    makes_failed failed still first mid new desks count before goes rest tells same = subst (λ (b : Bool). MakesDesks k b first new) (sym same) (makes_more failed first mid new before.makes goes rest tells)
