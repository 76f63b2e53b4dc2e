-- What a reference into a box shows is what lies in it: facts of the one are facts of the other.
use Rattle.std.proofs.Common.{◌≡◌, ◌∙◌, ℕ, Bool, List, length, Option, subst, sym}
use Rattle.std.specs.Prelude.{IfSome}
use Rattle.mc_base.specs.declared.counted.Counted as counted
use Rattle.mc_model.specs.Kept.{IsKept, Kept}
use Rattle.mc_keep.specs.Plan.{Schedule}
use Rattle.mc_keep.specs.declared.fuse.Fuse.{Fuse}
use Rattle.mc_keep.specs.declared.keeper.Keeper as keeper
use Rattle.mc_core.specs.Counted.{capped}
use Rattle.mc_core.specs.declared.replica.Replica.{Replica}
use Rattle.mc_node.specs.declared.entry.Entry.{Entry}
use Rattle.mc_node.specs.declared.note.Note.{Note}
use Rattle.mc_node.specs.Entries.{AddsAll, AddsEntry, shown_at}
use Rattle.mc_node.specs.Items.{Item}
use Rattle.mc_node.specs.Ties.{IsTied}
use Rattle.mc_node.specs.Works.{Bounds}

module _ {K D : Type 0} {g : keeper.Ghosts K D} {h : counted.Ghosts K} {i : counted.Ghosts D} where
  pub kept_in : (told : K → Option Kept) (x z y : Replica K D g h i) → x ≡ y → z ≡ y → IfSome (told z.keeper) IsKept → IfSome (told x.keeper) IsKept
  kept_in told x z y e d kept = subst (λ (r : Replica K D g h i). IfSome (told r.keeper) IsKept) (d ∙ sym e) kept

  pub count_in : (told : K → Option Kept) (n : ℕ) (x y : Replica K D g h i) → x ≡ y → IfSome (told y.keeper) (λ kept. n ≡ capped (length kept.order)) → IfSome (told x.keeper) (λ kept. n ≡ capped (length kept.order))
  count_in told n x y e count = subst (λ (r : Replica K D g h i). IfSome (told r.keeper) (λ kept. n ≡ capped (length kept.order))) (sym e) count

  pub adds_in : (note : Option Note) (x y : Replica K D g h i) (old new : List (Entry K D g h i)) → x ≡ y → AddsEntry note x old new → AddsEntry note y old new
  adds_in note x y old new e adds = subst (λ (r : Replica K D g h i). AddsEntry note r old new) e adds

  pub all_in : (count : ℕ) (x y : Replica K D g h i) (old new : List (Entry K D g h i)) → x ≡ y → AddsAll count x old new → AddsAll count y old new
  all_in count x y old new e adds = subst (λ (r : Replica K D g h i). AddsAll count r old new) e adds

  module _ (told : K → Option Kept) (fuse : K → Option Fuse) (own faults : K → ℕ) (quiet : K → Bool) (schedule : K → Option Schedule) where
    pub tied_in : (limit : Bounds) (x y : Replica K D g h i) (log : List Item) → x ≡ y → IsTied limit (shown_at told fuse own faults quiet schedule y) log → IsTied limit (shown_at told fuse own faults quiet schedule x) log
    tied_in limit x y log e tied = subst (λ (r : Replica K D g h i). IsTied limit (shown_at told fuse own faults quiet schedule r) log) (sym e) tied
