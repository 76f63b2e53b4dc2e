-- Reads one after another, over any tables.
use Rattle.std.proofs.Common.{◌≡◌, Bool, List, [], subst, sym, Option, None, Some}
use Rattle.mc_base.specs.declared.cid.Cid.{Cid}
use Rattle.mc_base.specs.Told.{Told}
use Rattle.std.specs.Prelude.{IfSome, Result, Ok, Err}
use Rattle.mc_raw.specs.Raw.{Tables, IsWithout, IfRaw}
use Rattle.mc_audit.proofs.Walks.{raw_kept}

-- under the flag of another result
pub well : {S : Type 0} (goes : List Cid → Bool → S → S → Type 0) (failed same : Bool) (old new : S) → goes [] failed old new → same ≡ failed → goes [] same old new
well goes failed same old new h e = subst (λ f. goes [] f old new) (sym e) h

-- what is told stays over reads
pub kept_by : {S : Type 0} (goes : List Cid → Bool → S → S → Type 0) (raw : S → Option Tables)
    → ((cids : List Cid) (failed : Bool) (old new : S) → goes cids failed old new → Told (raw old) (raw new) (IsWithout cids))
    → ((cids : List Cid) (failed : Bool) (old new : S) → goes cids failed old new → raw old ≡ None → raw new ≡ None)
    → (failed : Bool) (old new : S) → goes [] failed old new → raw new ≡ raw old
kept_by goes raw told silent failed old new h = raw_kept (raw old) (raw new) (told [] failed old new h) (silent [] failed old new h)

-- what follows of an Ok
pub raw_map : {T E : Type 0} (raw : Option Tables) (result : Result T E) (P Q : Tables → T → Type 0) → ((value : T) → IfSome raw (λ t. P t value) → IfSome raw (λ t. Q t value)) → IfRaw raw result P → IfRaw raw result Q
raw_map None result P Q follows p = tt
raw_map (Some t) (Ok value) P Q follows p = follows value p
raw_map (Some t) (Err error) P Q follows p = tt

pub applied : (raw : Option Tables) (P Q : Tables → Type 0) → IfSome raw P → IfSome raw (λ t. P t → Q t) → IfSome raw Q
applied None P Q p follows = tt
applied (Some t) P Q p follows = follows p
