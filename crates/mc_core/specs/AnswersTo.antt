-- What an answer to a delivery says of what was found, over every keeper.
use Rattle.std.specs.Prelude.{◌≡◌, ⊤, ℕ, List, Option, Some, None, Ok, Err}
use Rattle.mc_base.specs.declared.cid.Cid.{Cid}
use Rattle.mc_fetch.specs.declared.job.Delivered.{Delivered}
use Rattle.mc_fetch.specs.declared.job.Delivered.TheVariants.{Processed, Missing, Bad, Known}
use Rattle.mc_model.specs.Found.{damage_number}
use Rattle.mc_model.specs.Offer.{Damage, offer}
use Rattle.mc_model.specs.declared.block.Block.{Block}

-- a block was found where one is processed, no bytes were where it is missing, and damaged ones, with this number, where
-- it is bad
abbrev pub IsAnswerTo : Cid → Option (List ℕ) → Delivered → Type 0
IsAnswerTo cid found (Processed position) =
    (bytes : List ℕ) × (block : Block) × (found ≡ Some bytes) × (offer cid bytes ≡ Ok block)
IsAnswerTo cid found Missing = found ≡ None
IsAnswerTo cid found (Bad damage) =
    (bytes : List ℕ) × (why : Damage) × (found ≡ Some bytes) × (offer cid bytes ≡ Err why)
    × (damage ≡ damage_number why)
IsAnswerTo cid found Known = ⊤
