-- Jobs that begin ahead of those that a worker asks for, under the same turn.
use Rattle.std.specs.Prelude.{◌≡◌, ◌⊎◌, ℕ, zero, suc, Bool, true, false, List, [], ◌∷◌, ◌++◌, Option, Some, None, Result, Ok, Err}
use Rattle.mc_fetch.specs.declared.job.Job.{Job}
use Rattle.mc_turn.specs.declared.view.View.{View}
use Rattle.mc_worker.specs.declared.ends.ShopError.{ShopError}
use Rattle.mc_worker.specs.declared.ends.ShopError.TheVariants.{KeeperFault, Stopped, Spent, Memory}
use Rattle.mc_node.specs.Items.{Item, Shown}
use Rattle.mc_node.specs.Pieces.{NextsAt}
use Rattle.mc_node.specs.Serves.{NextAt}
use Rattle.mc_node.specs.Views.{Turned}

-- jobs began below this limit, one right after another
abbrev pub BeginsAll : ℕ → List Job → List Item → Shown → List Item → Shown → Type 0
BeginsAll limit [] old before new after = (new ≡ old) × (after ≡ before)
BeginsAll limit (job ∷ jobs) old before new after =
    (mid : List Item) × (there : Shown) × NextAt limit (Ok (Some job)) old before mid there
    × BeginsAll limit jobs mid there new after

-- one more was asked for, with this answer, or none was
abbrev pub AsksLast : ℕ → Option (Result (Option Job) ShopError) → List Item → Shown → List Item → Shown → Type 0
AsksLast limit None old before new after = (new ≡ old) × (after ≡ before)
AsksLast limit (Some answer) old before new after = NextAt limit answer old before new after

-- whether the keeper failed
abbrev pub is_keeper : ShopError → Bool
is_keeper KeeperFault = true
is_keeper Stopped = false
is_keeper Spent = false
is_keeper Memory = false

-- whether it did there
abbrev pub last_fails : Option (Result (Option Job) ShopError) → Bool
last_fails None = false
last_fails (Some (Ok job)) = false
last_fails (Some (Err error)) = is_keeper error

-- Jobs began ahead, between two moments, and whether the keeper failed at the last.
pub record BeginsMore (limit : ℕ) (failed : Bool) (ahead : List Job) (old : List Item) (before : Shown)
    (new : List Item) (after : Shown) : Type 0 where
  pub mid : List Item
  pub there : Shown
  pub last : Option (Result (Option Job) ShopError)
  pub begins : BeginsAll limit ahead old before mid there
  pub ends : AsksLast limit last mid there new after
  pub says : failed ≡ last_fails last

-- what is answered after that: a job, or that the keeper failed
abbrev pub unless_failed : Bool → Job → Result (Option Job) ShopError
unless_failed true job = Err KeeperFault
unless_failed false job = Ok (Some job)

-- a job began, and others ahead of those that are asked for
pub record BeginsFirst (limit : ℕ) (result : Result (Option Job) ShopError) (ahead : List Job) (old : List Item)
    (before : Shown) (new : List Item) (after : Shown) : Type 0 where
  pub job : Job
  pub failed : Bool
  pub mid : List Item
  pub there : Shown
  pub asks : NextsAt limit (Ok (Some job)) old before mid there
  pub more : BeginsMore limit failed ahead mid there new after
  pub is : result ≡ unless_failed failed job

-- or none did, and nothing is ahead
pub record BeginsNone (limit : ℕ) (result : Result (Option Job) ShopError) (ahead : List Job) (old : List Item)
    (before : Shown) (new : List Item) (after : Shown) : Type 0 where
  pub asks : NextsAt limit result old before new after
  pub none : ahead ≡ []

-- a call that asks for a job, and may begin others ahead
abbrev pub NextsAhead : ℕ → Result (Option Job) ShopError → List Job → List Item → Shown → List Item → Shown → Type 0
NextsAhead limit result ahead old before new after =
    BeginsFirst limit result ahead old before new after ⊎ BeginsNone limit result ahead old before new after

-- the same between some two moments
abbrev pub BeginsJobs : ℕ → Result (Option Job) ShopError → List Job → List Item → List Item → Type 0
BeginsJobs limit result ahead old new =
    (before : Shown) × (after : Shown) × NextsAhead limit result ahead old before new after

-- the job that was begun last comes out of those ahead
abbrev pub ComesOut : Result (Option Job) ShopError → List Job → List Job → Type 0
ComesOut (Ok (Some job)) old new = old ≡ new ++ job ∷ []
ComesOut (Ok None) old new = ⊥
ComesOut (Err error) old new = ⊥

module _ {E : Type 0} (read : List E → List Item) where
  -- so many turns in which a job was asked for and none began
  abbrev pub Looks : ℕ → ℕ → View E → View E → Type 0
  Looks limit zero before after = after ≡ before
  Looks limit (suc count) before after =
      (mid : View E) × Turned before mid (λ old new. BeginsJobs limit (Ok None) [] (read old) (read new))
      × Looks limit count mid after

  -- A call that asks for a job: in its last turn this was answered, and these began ahead, after some turns in which none
  -- began.
  pub record AsksFor (limit : ℕ) (result : Result (Option Job) ShopError) (ahead : List Job) (before after : View E)
      : Type 0 where
    pub count : ℕ
    pub mid : View E
    pub looks : Looks limit count before mid
    pub turned : Turned mid after (λ old new. BeginsJobs limit result ahead (read old) (read new))

  -- what a call does that gives a job out: one that was begun ahead comes out, and nothing is called; or, where none is
  -- ahead, it is asked for
  abbrev pub GivesOut : ℕ → Result (Option Job) ShopError → List Job → List Job → View E → View E → Type 0
  GivesOut limit result old ahead before after =
      (ComesOut result old ahead × (after ≡ before)) ⊎ ((old ≡ []) × AsksFor limit result ahead before after)
