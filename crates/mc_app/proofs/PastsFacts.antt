-- What is kept of the past of each replica of a world fits it after a line.
use Rattle.std.proofs.Common.{◌≡◌, ℕ, zero, suc, List, [], ◌∷◌, ◌++◌, drop, map, take, length, Option, Some, None, ap, refl, sym, subst, ◌∙◌}
use Rattle.std.specs.Prelude.{IfOk, IfSome, OnOk, Result, Ok, Err, slice_get}
use Rattle.std.proofs.lemmas.List.{map-append}
use Rattle.mc_base.specs.declared.counted.Counted as counted
use Rattle.mc_keep.specs.Calls.{Members}
use Rattle.mc_keep.specs.declared.fuse.Fuse.{Fuse}
use Rattle.mc_keep.specs.declared.keeper.Keeper as keeper
use Rattle.mc_keep.proofs.Processed.{blocks_still}
use Rattle.mc_model.specs.declared.block.Block.{Block}
use Rattle.mc_model.specs.declared.block.Stored.{Stored}
use Rattle.mc_model.specs.Events.{GoesOn}
use Rattle.mc_model.specs.Kept.{IsKept, Kept, block_in, blocks_in, processed}
use Rattle.mc_model.specs.State.{durable_of, kept_of, stored_of}
use Rattle.mc_past.specs.Pasts.{PastFits, PastsStayFit}
use Rattle.mc_past.specs.declared.past.Past.{Past}
use Rattle.mc_runs.specs.Promises.{ContentGrows, GrowsAt, OnlyGrows}
use Rattle.mc_script.specs.declared.command.Command.{Command}
use Rattle.mc_script.specs.declared.reply.Reply.{Reply}
use Rattle.mc_app.specs.LineWords.{AreKept}
use Rattle.mc_seats.specs.declared.entry.LineEntry.{LineEntry}
use Rattle.mc_seats.specs.declared.error.ActError.{ActError}
use Rattle.mc_seats.specs.declared.seat.Held.{Held}
use Rattle.mc_seats.specs.declared.seat.Held.TheVariants.{Up, Down}
use Rattle.mc_seats.specs.declared.seat.Seat.{Seat}
use Rattle.mc_seats.specs.declared.world.World.{World}
use Rattle.mc_seats.specs.Pasts.{PastsFit}
use Rattle.mc_seats.specs.Step.{Step}
use Rattle.mc_seats.specs.Words.{Records, state}
use Rattle.mc_seats.specs.Worlds.{Place, WorldState, place_of, place_with}

-- what is told stays told
abbrev pub BackLaw : Type 0
BackLaw = (kept : Kept) → kept_of (durable_of kept) ≡ kept

abbrev pub GrowLaw : Type 0
GrowLaw = (w : WorldState) (command : Command) (entry : LineEntry) (reply : Reply) (w2 : WorldState) → Step w command entry reply w2 → OnlyGrows w w2

module _ {K D : Type 0} {g : keeper.Ghosts K D} {h : counted.Ghosts K} {i : counted.Ghosts D} (told : K → Option Kept) (fuse : K → Option Fuse) (sound : (k : K) → IfSome (told k) IsKept) where
  held_kept : (held : Held K D g h i) (seat : Seat K D g h i) → seat.held ≡ held → IfSome (place_of told fuse seat).content IsKept
  held_kept (Up replica) seat is = subst (λ (x : Held K D g h i). IfSome (place_with told fuse seat.planted x).content IsKept) (sym is) (sound replica.keeper)
  held_kept (Down idle) seat is = subst (λ (x : Held K D g h i). IfSome (place_with told fuse seat.planted x).content IsKept) (sym is) (sound idle.keeper)

  pub seats_kept : (seats : List (Seat K D g h i)) (r : ℕ) → IfSome (slice_get (map (place_of told fuse) seats) r) (λ place. IfSome place.content IsKept)
  seats_kept [] r = tt
  seats_kept (seat ∷ seats) zero = held_kept seat.held seat refl
  seats_kept (seat ∷ seats) (suc r) = seats_kept seats r

module _ (back : BackLaw) (stay : PastsStayFit) where
  -- the processed blocks go on from the old ones
  graph_grown : (old new : Kept) → (g : GoesOn (durable_of old) (durable_of new)) → new.graph ≡ old.graph ++ map stored_of g.stored
  graph_grown old new g =
      sym (ap (λ (k : Kept). k.graph) (back new))
      ∙ ap (map stored_of) g.graph
      ∙ map-append stored_of (durable_of old).graph g.stored
      ∙ ap (λ (k : Kept). k.graph ++ map stored_of g.stored) (back old)

  processed_grown : (old new : Kept) → IsKept old → (g : GoesOn (durable_of old) (durable_of new)) → processed new ≡ processed old ++ blocks_in new.graph g.processed
  processed_grown old new kept g =
      ap (blocks_in new.graph) g.order
      ∙ map-append (block_in new.graph) old.order g.processed
      ∙ ap (λ (bs : List Block). bs ++ blocks_in new.graph g.processed) (ap (λ (x : List Stored). blocks_in x old.order) (graph_grown old new g) ∙ blocks_still old.graph (map stored_of g.stored) old.order kept.stored)

  past_on : (old new : Option Kept) (past : Past) → IfSome old IsKept → ContentGrows old new → PastFits old past → PastFits new past
  past_on None new past kept grows fits = subst (λ (x : Option Kept). PastFits x past) (sym grows) tt
  past_on (Some old) None past kept grows fits = absurd grows
  past_on (Some old) (Some new) past kept grows fits = stay old new past (blocks_in new.graph grows.processed) (processed_grown old new kept grows) fits

  at_on : (p q : Option Place) (past : Option Past) → IfSome p (λ place. IfSome place.content IsKept) → GrowsAt p q → IfSome p (λ place. IfSome past (PastFits place.content)) → IfSome q (λ place. IfSome past (PastFits place.content))
  at_on None None past kept grows fits = tt
  at_on None (Some q) past kept grows fits = absurd grows
  at_on (Some p) None past kept grows fits = tt
  at_on (Some p) (Some q) None kept grows fits = tt
  at_on (Some p) (Some q) (Some past) kept grows fits = past_on p.content q.content past kept grows fits

  pub pasts_on : (grow : GrowLaw) (w w2 : WorldState) (command : Command) (entry : LineEntry) (reply : Reply) (pasts : List Past) → AreKept w → Step w command entry reply w2 → PastsFit w pasts → PastsFit w2 pasts
  pasts_on grow w w2 command entry reply pasts kept step fits =
      let grows = grow w command entry reply w2 step in record {
        many = fits.many ∙ sym grows.many_same;
        each = λ r. at_on (slice_get w.places r) (slice_get w2.places r) (slice_get pasts r) (kept r) (grows.each r) (fits.each r);
      }

  -- so it is where a command was answered
  pub fits_after : {K D : Type 0} {g : keeper.Ghosts K D} {h : counted.Ghosts K} {i : counted.Ghosts D} (grow : GrowLaw) (k : Members K D) (desk_faults : D → ℕ) (command : Command) (old new : World K D g h i) (result : Result Reply ActError) (pasts : List Past)
      → AreKept (state k desk_faults old) → IfOk result (Records k desk_faults command old new) → PastsFit (state k desk_faults old) pasts → OnOk result (PastsFit (state k desk_faults new) pasts)
  fits_after grow k desk_faults command old new (Err error) pasts kept line fits = tt
  fits_after grow k desk_faults command old new (Ok reply) pasts kept line fits =
      pasts_on grow (state k desk_faults old) (state k desk_faults new) command line.entry reply pasts kept line.holds.1 fits

-- a list that was written through a slice
take_all : {X : Type 0} (xs ys : List X) → take (length xs) (xs ++ ys) ≡ xs
take_all [] ys = refl
take_all (x ∷ xs) ys = ap (λ l. x ∷ l) (take_all xs ys)

pub written_back : (w : WorldState) (left olds : List Past) (len : ℕ) → PastsFit w olds → PastsFit w left → len ≡ length olds → take len (left ++ drop (length left) olds) ≡ left
written_back w left olds len were are many =
    ap (λ n. take n (left ++ drop (length left) olds)) (many ∙ were.many ∙ sym are.many) ∙ take_all left (drop (length left) olds)
