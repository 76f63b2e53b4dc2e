use Rattle.std.proofs.Common.{Some}
use Rattle.mc_list.proofs.ShapeFacts.{reached, wrote_item}
use Rattle.mc_list.proofs.web.Web.put.Goals as goal

pub get_mut-node-requires : goal.get_mut-node-requires
get_mut-node-requires g c = reached c.args.self.now c.args.link c.requires.reaches c.requires.node

pub returns : goal.returns
returns g c = wrote_item c.args.self.now c.args.link.place c.get_mut-node.result.now c.get_mut-node.ensures.value c.requires.node (Some c.args.item)
