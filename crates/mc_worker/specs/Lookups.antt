-- What is found for a job.
use Rattle.std.specs.Prelude.{◌≡◌, ⊤, ℕ, List, Option, Some, None}
use Rattle.mc_base.specs.declared.cid.Cid.{Cid}
use Rattle.mc_fetch.specs.Fits.{FetchFits, FoundHas, IsOffered, Map, OwnFits}
use Rattle.mc_fetch.specs.Offers.{HasDigest}
use Rattle.mc_fetch.specs.declared.job.Found.{Found}
use Rattle.mc_fetch.specs.declared.job.Found.TheVariants.{Bytes, Missing}

-- where the map is known, it has nothing for the block
abbrev pub IsNowhere : Option Map → Cid → Type 0
IsNowhere None cid = ⊤
IsNowhere (Some map) cid = map cid ≡ None

-- bytes that were found have the digest, and are the map's; and what is missing is what the map has nothing for
abbrev pub FoundFits : Option Map → Cid → Found → Type 0
FoundFits map cid (Bytes bytes) = HasDigest cid bytes × IsOffered map cid bytes
FoundFits map cid Missing = IsNowhere map cid

-- the bytes that were found, or none
abbrev pub bytes_of : Found → Option (List ℕ)
bytes_of (Bytes bytes) = Some bytes
bytes_of Missing = None

-- What is found for a job, by a fetch that tells these offers, and these own bytes: it has the digest that names the
-- block, and is what a map has for it, wherever the fetch and the own bytes fit that map.
pub record LooksUp (offers : Option Map) (cid : Cid) (own : Option (List ℕ)) (found : Found) : Type 0 where
  pub digest : FoundHas cid found
  pub is : (map : Map) (kept : List Cid) → FetchFits (Some map) kept offers → OwnFits (Some map) kept cid own
      → map cid ≡ bytes_of found
