use Rattle.std.proofs.Common.{arith, ap, sym, ◌∙◌, subst}
use Rattle.mc_list.specs.Ringed.{CanAppend, appended}
use Rattle.mc_list.proofs.web.Web.relink.Goals as goal

pub unlink-requires : goal.unlink-requires
unlink-requires g c = (omega arith, c.requires.1.leaves)

pub append-requires : goal.append-requires
append-requires g c = (omega arith, subst (λ t. CanAppend t c.args.link c.args.to) (sym (c.unlink.ensures c.requires.0 c.requires.1.within)) c.requires.1.comes)

pub returns : goal.returns
returns g c from is = c.append.ensures ∙ ap (λ t. appended t c.args.link.place c.args.to) (c.unlink.ensures from is)
