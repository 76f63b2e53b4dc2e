-- That items are right is a proposition.
use Rattle.std.specs.Prelude.{ℕ, List, [], ◌∷◌, Option, Some, None}
use Rattle.std.specs.Coded.{Coded-set, coded_ℕ, coded_list, coded_option}
use Rattle.mc_block.specs.declared.verified.Verified.{Verified}
use Rattle.mc_fetch.specs.Fits.{Map}
use Rattle.mc_relay.specs.Items.{IsRight, AreRight, LetsRight}

bytes-is : IsSet (Option (List ℕ))
bytes-is = Coded-set (coded_option (coded_list coded_ℕ))

IsRight-prop : (found : Option Map) (item : Verified) → IsProp (IsRight found item)
IsRight-prop None item = hlevel
IsRight-prop (Some map) item = hlevel bytes-is

pub AreRight-prop : (found : Option Map) (items : List Verified) → IsProp (AreRight found items)
AreRight-prop found [] = hlevel
AreRight-prop found (item ∷ items) =
    let here = IsRight-prop found item in let rest = AreRight-prop found items in hlevel (here, rest)

-- so is that a rule lets in what is right
pub LetsRight-prop : (found : Option Map) → IsProp (LetsRight found)
LetsRight-prop found = let each = AreRight-prop found in hlevel each
