-- A durable state tells what the keeper told.
use Rattle.std.proofs.Common.{◌≡◌, List, [], ◌∷◌, refl}
use Rattle.std.specs.Prelude.{map}
use Rattle.mc_model.specs.declared.block.Stored.{Stored}
use Rattle.mc_model.specs.Kept.{Kept}
use Rattle.mc_model.specs.State.{durable_of, kept_of, stored_of, vertices}

stored_back : (graph : List Stored) → map stored_of (vertices graph) ≡ graph
stored_back [] = refl
stored_back (stored ∷ graph) = λ i. stored ∷ stored_back graph i

pub kept_back : (kept : Kept) → kept_of (durable_of kept) ≡ kept
kept_back kept = λ i. record { graph = stored_back kept.graph i; order = kept.order; mark = kept.mark }
