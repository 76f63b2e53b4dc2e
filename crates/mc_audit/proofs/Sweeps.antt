-- A sweep under a weaker word.
use Rattle.std.proofs.Common.{◌≡◌, ℕ, Bool, List, Option, subst}
use Rattle.std.specs.Prelude.{Result, Ok, Err}
use Rattle.mc_base.specs.declared.cid.Cid.{Cid}
use Rattle.mc_raw.specs.Raw.{Tables}
use Rattle.mc_keep.specs.declared.error.KeepError.{KeepError}
use Rattle.mc_keep.specs.declared.error.KeepError.TheVariants.{Failed, Memory}
use Rattle.mc_audit.specs.Sweep.{Sweeps, SweepOf}

weaker : (goes gone : List Cid → Bool → Type 0) → ((cids : List Cid) (failed : Bool) → goes cids failed → gone cids failed) → (cids : List Cid) (result : Result ℕ KeepError) → SweepOf goes cids result → SweepOf gone cids result
weaker goes gone turn cids (Ok count) h = (turn _ _ h.0, h.1)
weaker goes gone turn cids (Err Failed) h = (h.0, turn _ _ h.1)
weaker goes gone turn cids (Err Memory) h = turn _ _ h

pub sweeps_as : (goes gone : List Cid → Bool → Type 0) (raw told : Option Tables) (result : Result ℕ KeepError) → ((cids : List Cid) (failed : Bool) → goes cids failed → gone cids failed) → raw ≡ told → Sweeps goes raw result → Sweeps gone told result
sweeps_as goes gone raw told result turn same h =
    subst (λ (z : Option Tables). Sweeps gone z result) same (record { cids = h.cids; swept = weaker goes gone turn h.cids result h.swept; told = h.told })
