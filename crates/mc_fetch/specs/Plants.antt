-- Offers that are planted at a replica.
use Rattle.std.specs.Prelude.{ℕ, List, [], ◌∷◌, find, Option, if◌then◌else◌}
use Rattle.std.specs.Option.{option_map}
use Rattle.mc_base.specs.declared.cid.Cid.{Cid}
use Rattle.mc_model.specs.Front.{same_cid}
use Rattle.mc_fetch.specs.declared.plants.Planted.{Planted}

abbrev pub planted_of : Cid × List ℕ → Planted
planted_of entry = record { cid = entry.0; bytes = entry.1 }

-- the bytes that are planted for a block
abbrev pub planted_at : List Planted → Cid → Option (List ℕ)
planted_at offers cid =
    option_map (λ (offer : Planted). offer.bytes) (find (λ (offer : Planted). same_cid cid offer.cid) offers)

-- the offers with one more, which takes the place of an older one for its block
abbrev pub planted_with : List Planted → Planted → List Planted
planted_with [] offer = offer ∷ []
planted_with (older ∷ offers) offer =
    if same_cid offer.cid older.cid then offer ∷ offers else older ∷ planted_with offers offer
