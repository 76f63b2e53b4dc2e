use Rattle.std.proofs.Common.{rules, ℕ, [], ◌∷◌, List}
use Rattle.mc_list.specs.Web.{shape_of}
use Rattle.mc_list.specs.declared.web.Web.{Web}
use Rattle.mc_list.proofs.StartFacts.{nothing, five_zeros}
use Rattle.mc_list.proofs.web.Web.new.Goals as goal

pub returns-clause-whole : goal.returns-clause-whole
returns-clause-whole g c =
    let zeros : List ℕ = 0 ∷ 0 ∷ 0 ∷ 0 ∷ 0 ∷ [] in
    let web : Web g.row.T.Denot = record { alloc = c.args.alloc; cells = c.new.result; table = c.new-2.result; firsts = c.all_ends.result; lasts = c.all_ends-2.result; counts = zeros } in
    nothing web (search rules) (search rules) (c.all_ends.ensures (shape_of web).at) (c.all_ends-2.ensures (shape_of web).at) five_zeros
