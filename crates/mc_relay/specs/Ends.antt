-- The ends of a relay, as contracts see them.
use Rattle.std.specs.Prelude.{◌≡◌, ℕ, List, []}
use Rattle.crossbeam_queue.specs.Passes.{view}
use Rattle.mc_fetch.specs.declared.naming.Naming as naming
use Rattle.mc_block.specs.declared.verified.Verified.{Verified}
use Rattle.mc_relay.specs.declared.view.EndView.{EndView}
use Rattle.mc_relay.specs.declared.ends.Giver.{Giver}
use Rattle.mc_relay.specs.declared.ends.Taker.{Taker}
use Rattle.mc_relay.specs.declared.relay.Relay.{Relay}

-- what an end knows
abbrev pub giver_knows : Giver → EndView Verified
giver_knows giver = view giver.pass

abbrev pub taker_knows : Taker → EndView Verified
taker_knows taker = view taker.pass

-- a giver with what it pushed
abbrev pub part_of : Giver → ℕ × List Verified
part_of giver = ((giver_knows giver).number, (giver_knows giver).pushed)

module _ {J : Type 0} {j : naming.Ghosts J} where
  -- the end is one of this relay's
  abbrev pub IsGiverOf : Relay J j → Giver → Type 0
  IsGiverOf relay giver = giver.pass.table_id ≡ relay.queue.table.shared.table_id

  abbrev pub IsTakerOf : Relay J j → Taker → Type 0
  IsTakerOf relay taker = taker.pass.table_id ≡ relay.queue.table.shared.table_id

  -- a giver of this relay that has not pushed
  pub record IsFreshGiver (relay : Relay J j) (giver : Giver) : Type 0 where
    pub own : IsGiverOf relay giver
    pub nothing : (giver_knows giver).pushed ≡ []
