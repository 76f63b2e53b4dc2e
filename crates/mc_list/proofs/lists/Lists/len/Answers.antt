use Rattle.std.proofs.Common.{rules, arith, ◌≡◌, length, slice_index_or}
use Rattle.std.proofs.lemmas.Option.{slice_get-get_or}
use Rattle.mc_list.specs.Web.{shape_of}
use Rattle.mc_list.proofs.UsedFacts.{counted}
use Rattle.mc_list.proofs.lists.Lists.len.Goals as goal

pub returns : goal.returns
returns g c =
    let counts = c.args.self.now.web.counts in let five : length counts ≡ 5 = search rules in
    counted (shape_of c.args.self.now.web) c.args.self.now.whole c.args.list c.requires (slice_index_or counts c.args.list 0) (slice_get-get_or counts c.args.list 0 (omega (arith, five, c.requires)))
