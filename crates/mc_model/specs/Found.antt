-- What the offers for a block come to.
use Rattle.std.specs.Prelude.{ℕ, Bool, true, false, List, [], ◌∷◌, ◌++◌, find, Option, Some, None, Result, Ok, Err}
use Rattle.std.specs.List.{flat_map}
use Rattle.std.specs.Str.{bytes_eq}
use Rattle.mc_base.specs.Cid.{digest_of}
use Rattle.mc_base.specs.declared.cid.Cid.{Cid}
use Rattle.mc_model.specs.declared.block.Block.{Block}
use Rattle.mc_model.specs.Offer.{Damage, TooLarge, WrongDigest, NotDagPb, BadLink, BadDelta, offer}

-- none or one
abbrev pub option_list : {A : Type 0} → Option A → List A
option_list None = []
option_list (Some item) = item ∷ []

-- no offer has the digest; the first that has it is damaged, by this number; or it is a block with these links
pub data Found : Type 0 where
  Nothing : Found
  Damaged : (number : ℕ) → Found
  Good : (links : List Cid) → Found

-- the number of a damage
abbrev pub damage_number : Damage → ℕ
damage_number (TooLarge len) = 1
damage_number (WrongDigest found) = 2
damage_number (NotDagPb fault) = 3
damage_number (BadLink index) = 4
damage_number (BadDelta fault) = 5

-- what another replica offers for a block: bytes that were planted there, and its stored block
pub record PeerOffers : Type 0 where
  pub planted : Option (List ℕ)
  pub stored : Option (List ℕ)

-- the planted one, and then the stored one
abbrev pub peer_list : PeerOffers → List (List ℕ)
peer_list peer = option_list peer.planted ++ option_list peer.stored

-- all offers for a block: the replica's own stored block, and then those of each other running replica whose link is
-- up, in order of name
abbrev pub offers_from : Option (List ℕ) → List PeerOffers → List (List ℕ)
offers_from own peers = option_list own ++ flat_map peer_list peers

-- the first of the offered bytes whose digest names the block
abbrev pub found_bytes : List (List ℕ) → Cid → Option (List ℕ)
found_bytes offers c = find (λ bytes. bytes_eq (digest_of bytes) c.0) offers

-- a reading
abbrev pub found_reading : Result Block Damage → Found
found_reading (Ok block) = Good block.links
found_reading (Err damage) = Damaged (damage_number damage)

-- what these bytes, or none, come to
abbrev pub found_as : Cid → Option (List ℕ) → Found
found_as c None = Nothing
found_as c (Some bytes) = found_reading (offer c bytes)

-- what the offers, in their order, come to
abbrev pub found_in : List (List ℕ) → Cid → Found
found_in offers c = found_as c (found_bytes offers c)

-- whether there is a good offer
abbrev pub is_found : Found → Bool
is_found Nothing = false
is_found (Damaged number) = false
is_found (Good links) = true

-- the links of what was found, or none
abbrev pub found_links : Found → List Cid
found_links Nothing = []
found_links (Damaged number) = []
found_links (Good links) = links

-- what the offers for each block come to
abbrev pub Offers : Type 0
Offers = Cid → Found
