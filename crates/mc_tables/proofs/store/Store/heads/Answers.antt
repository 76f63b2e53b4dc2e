use Rattle.std.proofs.Common.{◌≡◌, List}
use Rattle.std.specs.List.{IsDistinct}
use Rattle.indexmap.specs.IndexMap.{keys}
use Rattle.mc_model.specs.Ascending.{Ascends}
use Rattle.mc_model.specs.Front.{same_cid, head_cmp, heads}
use Rattle.mc_model.specs.Kept.{processed}
use Rattle.mc_keep.specs.declared.rows.HeadRow.{HeadRow}
use Rattle.mc_keep.specs.Changes.{heads_in_rows}
use Rattle.mc_tables.specs.Fits.{kept_in}
use Rattle.mc_tables.proofs.FrontMembers.{front_heads}
use Rattle.mc_tables.proofs.IfOk.{if_ok}
use Rattle.mc_tables.proofs.store.Store.heads.Goals as goal

pub returns : goal.returns
returns g c =
    if_ok (λ (rows : List HeadRow). Ascends head_cmp (heads_in_rows rows) c.args.self.now.tables.heads.entries)
    (λ (rows : List HeadRow). heads_in_rows rows ≡ heads (processed (kept_in c.args.self.now.tables)))
    (IsDistinct same_cid (keys c.args.self.now.tables.heads))
    c.head_rows.result c.head_rows.ensures.rows c.head_rows.ensures.distinct
    (λ rows ascends distinct. front_heads (kept_in c.args.self.now.tables) c.args.self.now.tables.heads.entries distinct c.args.self.now.fits.heads (heads_in_rows rows) ascends)
