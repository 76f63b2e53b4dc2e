-- The items of a relay.
use Rattle.std.specs.Prelude.{List, Option}
use Rattle.mc_fetch.specs.Fits.{Map, IsOffered}
use Rattle.mc_block.specs.declared.verified.Verified.{Verified}
use Rattle.mc_relay.specs.declared.view.EndView.{EndView}
use Rattle.mc_relay.specs.Passes.{AllRight, Passes}

-- where it is known what is found, an item's bytes are what is found for its block
abbrev pub IsRight : Option Map → Verified → Type 0
IsRight found item = IsOffered found item.cid item.bytes

abbrev pub AreRight : Option Map → List Verified → Type 0
AreRight found items = AllRight (IsRight found) items

-- what the rule lets in is right
abbrev pub LetsRight : Option Map → Type 0
LetsRight found = (items : List Verified) (views : List (EndView Verified)) → Passes (IsRight found) items views → AreRight found items
