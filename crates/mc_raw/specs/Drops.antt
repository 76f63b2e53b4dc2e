-- What calls on plain rows leave of a keeper.
use Rattle.std.specs.Prelude.{◌≡◌, ℕ, ◌≤◌, Bool, true, false, not, List, filter, Option, None}
use Rattle.mc_base.specs.Told.{Told}
use Rattle.mc_base.specs.declared.cid.Cid.{Cid}
use Rattle.mc_model.specs.declared.block.Stored.{Stored}
use Rattle.mc_model.specs.declared.layout.Layout.{Layout}
use Rattle.mc_model.specs.Front.{is_among}
use Rattle.mc_model.specs.Kept.{Kept}
use Rattle.mc_keep.specs.Causes.{CountGoes}
use Rattle.mc_keep.specs.declared.fuse.Fuse.{Fuse}
use Rattle.mc_keep.specs.Plan.{Schedule, ReadsGo}

-- what is told without these blocks
abbrev pub without_blocks : List Cid → Kept → Kept
without_blocks cids kept =
    record kept { graph = filter (λ (stored : Stored). not (is_among cids stored.cid)) kept.graph }

-- After reads and removals of blocks, of which the last call alone may have failed: as after reads, but for the blocks.
pub record DropsAt {S : Type 0} (told : S → Option Kept) (layout : S → Layout) (fuse : S → Option Fuse)
    (spare own faults : S → ℕ) (quiet : S → Bool) (schedule : S → Option Schedule) (cids : List Cid) (failed : Bool)
    (old new : S) : Type 0 where
  pub told_without : Told (told old) (told new) (λ kept now. now ≡ without_blocks cids kept)
  pub silent : told old ≡ None → told new ≡ None
  pub layout_same : layout new ≡ layout old
  pub fuse_same : fuse new ≡ fuse old
  pub spare_more : spare old ≤ spare new
  pub own_goes : CountGoes failed (own old) (own new)
  pub faults_go : CountGoes failed (faults old) (faults new)
  pub still_quiet : quiet old ≡ true → quiet new ≡ true
  pub calm : quiet old ≡ true → failed ≡ false
  pub planned : ReadsGo (schedule old) (schedule new) failed
