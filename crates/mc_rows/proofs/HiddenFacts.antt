-- What no tombstone of the group names is hidden where a processed block hides it.
use Rattle.std.proofs.Common.{◌≡◌, ℕ, Bool, false, List, Option, Some, None, Result, Ok, Err, sym, ap, ◌∙◌}
use Rattle.std.specs.Prelude.{◌||◌}
use Rattle.mc_base.specs.declared.cid.Cid.{Cid}
use Rattle.mc_model.specs.Id.{id_text}
use Rattle.mc_model.specs.Kept.{Kept, processed}
use Rattle.mc_model.specs.Live.{has_tomb}
use Rattle.mc_keep.specs.declared.rows.TombRow.{TombRow}
use Rattle.mc_keep.specs.Causes.{IfTold}
use Rattle.mc_keep.specs.Changes.{has_tomb_row}
use Rattle.mc_rows.specs.Hiding.{hides}

pub hidden_told : {E : Type 0} (told : Option Kept) (result : Result Bool E) (tombs : List TombRow) (key : List ℕ) (cid : Cid) (named : Bool) → named ≡ has_tomb_row tombs key (id_text cid.0) → named ≡ false
    → IfTold told result (λ kept found. found ≡ has_tomb (processed kept) key (id_text cid.0)) → IfTold told result (λ kept hidden. hidden ≡ hides (processed kept) tombs key (id_text cid.0))
hidden_told None result tombs key cid named is off row = tt
hidden_told (Some kept) (Err error) tombs key cid named is off row = tt
hidden_told (Some kept) (Ok found) tombs key cid named is off row = row ∙ ap (λ (b : Bool). b || has_tomb (processed kept) key (id_text cid.0)) (sym off ∙ is)
