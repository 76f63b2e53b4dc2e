-- When a call of a keeper may answer Failed, what a commit that fails leaves, and what a fuse does to it.
use Rattle.std.specs.Prelude.{◌≡◌, ◌⊎◌, ℕ, ◌-◌, ◌≤◌, nat_lt, Bool, true, false, Option, Some, None, Result, Ok, Err}
use Rattle.std.specs.Prelude.{IfSome, IfOk, if◌then◌else◌}
use Rattle.mc_base.specs.Causes.{Rose}
use Rattle.mc_model.specs.Kept.{Kept}
use Rattle.mc_keep.specs.declared.fuse.Fuse.{Fuse}

-- what an answer that is no Ok means: nothing was done, for a cause of the caller's or of the content; the keeper
-- failed; or memory was wanted
pub data Kind : Type 0 where
  Refusal : Kind
  Fault : Kind
  Shortage : Kind

abbrev pub is_fault_kind : Kind → Bool
is_fault_kind Refusal = false
is_fault_kind Fault = true
is_fault_kind Shortage = false

-- whether a call failed, by what its errors mean
abbrev pub fails : {T E : Type 0} → (E → Kind) → Result T E → Bool
fails kind (Ok value) = false
fails kind (Err error) = is_fault_kind (kind error)

-- what holds of what is told and of an Ok
abbrev pub IfTold : {T E : Type 0} → Option Kept → Result T E → (Kept → T → Type 0) → Type 0
IfTold told result P = IfSome told (λ kept. IfOk result (λ value. P kept value))

-- a count of faults over a call: it never falls, stands still where the call did not fail, and rose where it did
pub record CountGoes (failed : Bool) (before now : ℕ) : Type 0 where
  pub later : before ≤ now
  pub still : failed ≡ false → now ≡ before
  pub rose : failed ≡ true → Rose before now

-- what is quiet stays so, and counts nothing
abbrev pub StaysQuiet : Bool → Bool → ℕ → ℕ → Type 0
StaysQuiet quiet_before quiet_now before now = quiet_before ≡ true → (quiet_now ≡ true) × (now ≡ before)

-- a fuse after a commit
abbrev pub burnt : Option Fuse → Option Fuse
burnt None = None
burnt (Some fuse) =
    if nat_lt 1 fuse.commit then Some (record { commit = fuse.commit - 1; after = fuse.after }) else None

-- whether a fuse made a commit fail between two moments
abbrev pub has_fired : Option Fuse → Option Fuse → Bool
has_fired None new = false
has_fired (Some old) None = true
has_fired (Some old) (Some new) = false

-- whether the next commit fails by the fuse, and then whether after its effect
abbrev pub fires : Option Fuse → Option Bool
fires None = None
fires (Some fuse) = if nat_lt 1 fuse.commit then None else Some fuse.after

-- what a failed commit leaves: by itself it may have happened wholly or not at all; by the fuse it has not, or it has
abbrev pub CommitFails : {X : Type 0} → Option Bool → Type 0 → X → X → X → Type 0
CommitFails None rose old whole new = rose × ((new ≡ old) ⊎ (new ≡ whole))
CommitFails (Some false) rose old whole new = new ≡ old
CommitFails (Some true) rose old whole new = (new ≡ whole) ⊎ (rose × (new ≡ old))
