-- That the blocks of an inbox are right, and that jobs fit, are propositions.
use Rattle.std.specs.Prelude.{ℕ, All, Bool, IfSome, List, [], ◌∷◌, Option, Some, None}
use Rattle.std.specs.Coded.{Coded-set, coded_bool, coded_ℕ, coded_list, coded_option}
use Rattle.mc_base.specs.declared.cid.Cid.{Cid}
use Rattle.mc_fetch.specs.Fits.{JobFits, Map, OwnFits}
use Rattle.mc_fetch.specs.declared.job.Job.{Job}
use Rattle.mc_inbox.specs.Groups.{AreOffered}
use Rattle.mc_model.specs.declared.block.Stored.{Stored}
use Rattle.mc_node.specs.Pieces.{AreRight}

bytes-is : IsSet (Option (List ℕ))
bytes-is = Coded-set (coded_option (coded_list coded_ℕ))

AreOffered-prop : (map : Map) (items : List Stored) → IsProp (AreOffered map items)
AreOffered-prop map [] = hlevel
AreOffered-prop map (item ∷ items) = let rest = AreOffered-prop map items in hlevel (rest, bytes-is)

AreRight-prop : (found : Option Map) (items : List Stored) → IsProp (AreRight found items)
AreRight-prop None items = hlevel
AreRight-prop (Some map) items = AreOffered-prop map items

pub Right-prop : {T : Type 0} (taker : Option T) (found : Option Map) (items : List Stored)
    → IsProp (IfSome taker (λ end. AreRight found items))
Right-prop None found items = hlevel
Right-prop (Some end) found items = AreRight-prop found items

-- so is that a job fits

kept-is : IsSet Bool
kept-is = Coded-set coded_bool

digest-is : IsSet (List ℕ)
digest-is = Coded-set (coded_list coded_ℕ)

OwnFits-prop : (found : Option Map) (kept : List Cid) (cid : Cid) (own : Option (List ℕ)) → IsProp (OwnFits found kept cid own)
OwnFits-prop None kept cid None = hlevel
OwnFits-prop (Some map) kept cid None = hlevel kept-is
OwnFits-prop None kept cid (Some bytes) = hlevel digest-is
OwnFits-prop (Some map) kept cid (Some bytes) = hlevel (digest-is, bytes-is)

pub Fits-prop : (found : Option Map) (kept : List Cid) (jobs : List Job) → IsProp (All (JobFits found kept) jobs)
Fits-prop found kept jobs = let each = OwnFits-prop found kept in hlevel each
