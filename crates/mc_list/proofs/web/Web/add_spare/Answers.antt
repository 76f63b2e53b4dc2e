use Rattle.std.proofs.Common.{rules, arith, ap, sym, subst, ◌∙◌, refl, ◌≡◌, ◌<◌, ◌^◌, length}
use Rattle.mc_list.specs.Web.{shape_of, spare_list}
use Rattle.mc_list.specs.Ringed.{CanAppend, appended}
use Rattle.mc_list.specs.Whole.{Whole, entries_in, spare_in}
use Rattle.mc_list.proofs.GrowFacts.{on_err_always, no_node, may_append, more, more_whole, more_entries, more_spare}
use Rattle.mc_list.proofs.web.Web.add_spare.Goals as goal

pub returns-in_err-link-clause-whole : goal.returns-in_err-link-clause-whole
returns-in_err-link-clause-whole g c = subst Whole (sym c.in_err-link.ensures.err) c.requires

pub returns-in_err-link-clause-entries : goal.returns-in_err-link-clause-entries
returns-in_err-link-clause-entries g c list few = ap (λ t. entries_in t list) c.in_err-link.ensures.err

pub returns-in_err-link-clause-err : goal.returns-in_err-link-clause-err
returns-in_err-link-clause-err g c = on_err_always c.from_residual.result (ap spare_in c.in_err-link.ensures.err)

pub append-requires : goal.append-requires
append-requires g c =
    let w = c.args.self.now in let s = shape_of w in let link = c.in_ok-link.link in let short : length w.table.items < 2 ^ 63 = search rules in
    (omega arith, subst (λ t. CanAppend t link spare_list) (sym c.in_ok-link.ensures.ok) (may_append s c.requires link.at short (no_node w c.requires short) link c.in_ok-link.ensures.place refl))

pub returns-clause-whole : goal.returns-clause-whole
returns-clause-whole g c =
    let w = c.args.self.now in let s = shape_of w in let link = c.in_ok-link.link in let short : length w.table.items < 2 ^ 63 = search rules in let fresh = no_node w c.requires short in
    let is : shape_of c.append.new.self ≡ more s c.requires link.at short fresh = c.append.ensures ∙ (λ i. appended (c.in_ok-link.ensures.ok i) (c.in_ok-link.ensures.place i) spare_list) in
    subst Whole (sym is) (more_whole s c.requires link.at short fresh)

pub returns-clause-entries : goal.returns-clause-entries
returns-clause-entries g c list few =
    let w = c.args.self.now in let s = shape_of w in let link = c.in_ok-link.link in let short : length w.table.items < 2 ^ 63 = search rules in let fresh = no_node w c.requires short in
    let is : shape_of c.append.new.self ≡ more s c.requires link.at short fresh = c.append.ensures ∙ (λ i. appended (c.in_ok-link.ensures.ok i) (c.in_ok-link.ensures.place i) spare_list) in
    ap (λ t. entries_in t list) is ∙ more_entries s c.requires link.at short fresh list few

pub returns-clause-ok : goal.returns-clause-ok
returns-clause-ok g c =
    let w = c.args.self.now in let s = shape_of w in let link = c.in_ok-link.link in let short : length w.table.items < 2 ^ 63 = search rules in let fresh = no_node w c.requires short in
    let is : shape_of c.append.new.self ≡ more s c.requires link.at short fresh = c.append.ensures ∙ (λ i. appended (c.in_ok-link.ensures.ok i) (c.in_ok-link.ensures.place i) spare_list) in
    ap spare_in is ∙ more_spare s c.requires link.at short fresh
