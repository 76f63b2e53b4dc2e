-- What holds of an error by its kind.
use Rattle.mc_keep.specs.Causes.{Kind, Refusal, Fault, Shortage}
use Rattle.mc_plan.specs.Refusals.{ByKind}

-- all three hold
pub kinds : {P F X : Type 0} (kind : Kind) → P → F → X → ByKind P F X kind
kinds Refusal p f x = p
kinds Fault p f x = f
kinds Shortage p f x = x

-- each follows from another one
pub by_kind : {P F X Q G Y : Type 0} (kind : Kind) → (P → Q) → (F → G) → (X → Y) → ByKind P F X kind → ByKind Q G Y kind
by_kind Refusal p f x is = p is
by_kind Fault p f x is = f is
by_kind Shortage p f x is = x is
