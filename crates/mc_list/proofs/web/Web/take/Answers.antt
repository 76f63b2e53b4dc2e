use Rattle.std.proofs.Common.{ap, ◌∙◌}
use Rattle.mc_list.specs.Web.{shape_of, set_item}
use Rattle.mc_list.proofs.ShapeFacts.{reached, wrote_item}
use Rattle.mc_list.proofs.web.Web.take.Goals as goal

pub get_mut-node-requires : goal.get_mut-node-requires
get_mut-node-requires g c = reached c.args.self.now c.args.link c.requires.reaches c.requires.node

pub returns-clause-web : goal.returns-clause-web
returns-clause-web g c =
    wrote_item c.args.self.now c.args.link.place c.get_mut-node.result.now c.get_mut-node.ensures.value c.requires.node c.take.new.self
    ∙ ap (set_item (shape_of c.args.self.now) c.args.link.place) c.take.ensures.after
