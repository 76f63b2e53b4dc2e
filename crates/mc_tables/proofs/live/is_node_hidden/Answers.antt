use Rattle.std.proofs.Common.{◌≡◌, IfOk, subst}
use Rattle.mc_base.specs.declared.cid.Cid.{Cid}
use Rattle.mc_model.specs.Id.{id_text}
use Rattle.mc_tombs.specs.Tombs.{has_tomb_in}
use Rattle.mc_tables.proofs.live.is_node_hidden.Goals as goal

pub returns : goal.returns
returns g c =
    subst (λ (cid : Cid). IfOk c.is_hidden.result (λ hidden. hidden ≡ has_tomb_in c.args.tombs.now.keys.keys c.args.tombs.now.ids.keys c.args.tombs.now.pairs.keys c.args.key.now (id_text cid.0)))
    c.cid_of-cid.ensures c.is_hidden.ensures
