-- What is known of the block that was seen last.
use Rattle.std.specs.Prelude.{◌≡◌, ⊤, ℕ, List, Option, Some, None}
use Rattle.mc_model.specs.Id.{id_text}
use Rattle.mc_keep.specs.declared.rows.TombRow.{TombRow}
use Rattle.mc_keep.specs.Changes.{has_tomb_row}
use Rattle.mc_rows.specs.declared.live.LastBlock.{LastBlock}

-- it says whether a new tombstone hides the elements of the key in its block
abbrev pub LastFits : List TombRow → List ℕ → Option LastBlock → Type 0
LastFits tombs key None = ⊤
LastFits tombs key (Some seen) = seen.hidden ≡ has_tomb_row tombs key (id_text seen.cid.0)
