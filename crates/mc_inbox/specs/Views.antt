-- What the lists of an inbox stand for.
use Rattle.std.specs.Prelude.{◌+◌, List, length, map}
use Rattle.mc_block.specs.declared.verified.Verified.{Verified}
use Rattle.mc_list.specs.Entries.{Entry}
use Rattle.mc_list.specs.Views.{entries, spare}
use Rattle.mc_list.specs.declared.lists.Lists.{Lists}
use Rattle.mc_model.specs.declared.block.Stored.{Stored}
use Rattle.mc_inbox.specs.Waiting.{Waiting, as_stored}

abbrev pub items_of : List (Entry Verified) → List Stored
items_of es = map (λ (e : Entry Verified). as_stored e.item) es

abbrev pub items_in : Lists Verified → List Stored
items_in lists = items_of (entries lists 0)

abbrev pub waiting_in : Lists Verified → Waiting
waiting_in lists = record { items = items_in lists; room = length (entries lists 0) + spare lists }
