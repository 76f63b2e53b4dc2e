-- A worker before it runs, and after.
use Rattle.std.specs.Prelude.{◌≡◌, None}
use Rattle.mc_fetch.specs.Calls.{Asks, Members}
use Rattle.mc_fetch.specs.Fits.{FetchFits}
use Rattle.mc_fetch.specs.Offers.{found_by}
use Rattle.mc_worker.specs.declared.hands.Hand.{Hand}
use Rattle.mc_worker.specs.declared.shop.Shop as shop
use Rattle.mc_worker.specs.Ends.{HasEnded, is_peer}

-- Its seat is one of this shop's and has no job out; and where it is known what is found for each block, its fetch
-- finds the same, but for the blocks that the shop has itself.
pub record IsReady {S Seat F : Type 0} (s : shop.Ghosts S Seat) (f : Members F)
    (of : S) (hand : Hand S F Seat) : Type 0 where
  pub own : s.owns of hand.seat
  pub idle : s.out hand.seat ≡ None
  pub fits : FetchFits s.found s.kept (found_by (f.offers hand.fetch))

-- Its seat is one of this shop's and has no job out, its end is as the seat's last call tells, and its fetch has failed
-- exactly where it ended by that.
pub record HasWorked {S Seat F : Type 0} (s : shop.Ghosts S Seat) (f : Members F)
    (of : S) (before after : Hand S F Seat) : Type 0 where
  pub own : s.owns of after.seat
  pub idle : s.out after.seat ≡ None
  pub cause : HasEnded (s.ended after.seat) after.end
  pub asked : Asks f (is_peer after.end) before.fetch after.fetch
