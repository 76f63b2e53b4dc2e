-- What holds before each turn of a worker.
use Rattle.std.proofs.Common.{◌≡◌, ◌<◌, ℕ, suc, List, [], ◌∷◌, Option, Some, None, length, slice_index_or, arith}
use Rattle.std.specs.List.{AllZip}
use Rattle.mc_base.specs.declared.cid.Cid.{Cid}
use Rattle.mc_fetch.specs.Fits.{FetchFits, FoundHas, Map, OwnFits}
use Rattle.mc_fetch.specs.declared.job.Found.{Found}
use Rattle.mc_fetch.specs.declared.job.Found.TheVariants.{Bytes, Missing}
use Rattle.mc_worker.specs.Lookups.{FoundFits, LooksUp, bytes_of}

pub record IsWorking (Owned : Type 0) (taken : Option Cid) (Asked : Type 0) : Type 0 where
  pub own : Owned
  pub idle : taken ≡ None
  pub asked : Asked

fits_map : (map : Map) (cid : Cid) (found : Found) → FoundHas cid found → map cid ≡ bytes_of found → FoundFits (Some map) cid found
fits_map map cid (Bytes bytes) digest is = (digest, is)
fits_map map cid Missing digest is = is

fits_none : (cid : Cid) (found : Found) → FoundHas cid found → FoundFits None cid found
fits_none cid (Bytes bytes) digest = (digest, tt)
fits_none cid Missing digest = tt

-- what is found for a job fits wherever the job and the fetch do
pub looked_fits : (known : Option Map) (kept : List Cid) (offers : Option Map) (cid : Cid) (own : Option (List ℕ)) (found : Found)
    → OwnFits known kept cid own → FetchFits known kept offers → LooksUp offers cid own found → FoundFits known cid found
looked_fits None kept offers cid own found o f looks = fits_none cid found looks.digest
looked_fits (Some map) kept offers cid own found o f looks = fits_map map cid found looks.digest (looks.is map kept f o)

-- what holds at each place of two lists
pub zipped : {A : Type 0} (R : A → A → Type 0) (xs ys : List A) → length ys ≡ length xs
    → ((k : ℕ) (d : A) → k < length xs → R (slice_index_or xs k d) (slice_index_or ys k d)) → AllZip R xs ys
zipped R [] [] e each = tt
zipped R [] (y ∷ ys) e each = absurd (omega (arith, e))
zipped R (x ∷ xs) [] e each = absurd (omega (arith, e))
zipped R (x ∷ xs) (y ∷ ys) e each = (each 0 x (omega arith), zipped R xs ys (omega (arith, e)) (λ k d lt. each (suc k) d (omega (arith, lt))))
