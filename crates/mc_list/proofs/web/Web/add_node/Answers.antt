use Rattle.std.proofs.Common.{rules, ap, ◌∙◌, refl, ◌≡◌, ◌<◌, ◌^◌, ◌++◌, ◌∷◌, [], length, None}
use Rattle.mc_list.specs.Web.{shape_of, loose}
use Rattle.mc_list.specs.declared.node.Node.{Node}
use Rattle.mc_list.proofs.GrowFacts.{pushed, link_at}
use Rattle.mc_list.proofs.web.Web.add_node.Goals as goal

pub returns-clause-ok : goal.returns-clause-ok
returns-clause-ok g c =
    let w = c.args.self.now in
    let short : length w.table.items < 2 ^ 63 = search rules in
    let place : c.len-place.result ≡ length w.table.items = search rules in
    let node : Node g.row.T.Denot = record { prev = c.end_of.result; next = c.end_of-2.result; list = loose; item = None } in
    let is : c.of.result.value ≡ node = search rules in
    pushed w (record { alloc = w.alloc; cells = c.keep-at.new.self; table = c.push_reserved.new.self; firsts = w.firsts; lasts = w.lasts; counts = w.counts })
    c.keep-at.result c.of.result.value c.requires short c.keep-at.ensures
    (c.push_reserved.ensures.items ∙ (λ i. c.reserve.ensures.items i ++ link_at c.keep-at.result (place i) ∷ [])) refl refl refl
    (ap (λ (n : Node g.row.T.Denot). n.next) is ∙ c.end_of-2.ensures (shape_of w).at) (ap (λ (n : Node g.row.T.Denot). n.prev) is ∙ c.end_of.ensures (shape_of w).at)
    (ap (λ (n : Node g.row.T.Denot). n.list) is) (ap (λ (n : Node g.row.T.Denot). n.item) is)
