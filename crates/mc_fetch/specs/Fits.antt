-- What a job, what was found for it, and a fetch have to do with the bytes that are known to be found for each block.
use Rattle.std.specs.Prelude.{◌≡◌, ⊤, ℕ, false, List, Option, Some, None}
use Rattle.mc_base.specs.declared.cid.Cid.{Cid}
use Rattle.mc_model.specs.Graph.{has}
use Rattle.mc_fetch.specs.declared.job.Job.{Job}
use Rattle.mc_fetch.specs.declared.job.Found.{Found}
use Rattle.mc_fetch.specs.declared.job.Found.TheVariants.{Bytes, Missing}
use Rattle.mc_fetch.specs.Offers.{HasDigest}

-- bytes that were found have the digest that names the block
abbrev pub FoundHas : Cid → Found → Type 0
FoundHas cid (Bytes bytes) = HasDigest cid bytes
FoundHas cid Missing = ⊤

-- which bytes are found for each block
abbrev pub Map : Type 0
Map = Cid → Option (List ℕ)

-- where the map is known, these are its bytes for the block
abbrev pub IsOffered : Option Map → Cid → List ℕ → Type 0
IsOffered None cid bytes = ⊤
IsOffered (Some map) cid bytes = map cid ≡ Some bytes

-- where the map is known, the block isn't one of those that are kept
abbrev pub IsOutside : Option Map → List Cid → Cid → Type 0
IsOutside None kept cid = ⊤
IsOutside (Some map) kept cid = has cid kept ≡ false

-- own bytes have the digest and are the map's, and a block without own bytes isn't kept
abbrev pub OwnFits : Option Map → List Cid → Cid → Option (List ℕ) → Type 0
OwnFits map kept cid None = IsOutside map kept cid
OwnFits map kept cid (Some bytes) = HasDigest cid bytes × IsOffered map cid bytes

abbrev pub JobFits : Option Map → List Cid → Job → Type 0
JobFits map kept job = OwnFits map kept job.cid job.own

-- the same of the answer to a call that takes a job
abbrev pub NextFits : Option Map → List Cid → Option Job → Type 0
NextFits map kept None = ⊤
NextFits map kept (Some job) = JobFits map kept job

-- where the map is known, a fetch that tells finds its bytes for each block that isn't kept
abbrev pub FetchFits : Option Map → List Cid → Option Map → Type 0
FetchFits None kept found = ⊤
FetchFits (Some map) kept None = ⊥
FetchFits (Some map) kept (Some found) = (cid : Cid) → has cid kept ≡ false → found cid ≡ map cid
