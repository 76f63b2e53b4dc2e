-- The told blocks stay over the calls, so that the lemma joins what each of them says.
use Rattle.std.proofs.Common.{◌∙◌, ap, refl}
use Rattle.mc_rows.specs.Rows.{rows_of, tombs_of}
use Rattle.mc_keep.proofs.Frames.{read_more}
use Rattle.mc_rows.proofs.FitAll.{rows_fit_told}
use Rattle.mc_rows.proofs.merging.merge.Goals as goal

pub returns-clause-fit : goal.returns-clause-fit
returns-clause-fit g c =
    rows_fit_told (g.K.Keeper.told c.args.keeper.now) c.args.blocks.now c.in_ok-elements.elements.items c.in_ok-tombs.tombs.items c.in_ok-keys.keys.items c.in_ok-tops.tops _
    c.in_ok-elements.ensures.sorted
    c.in_ok-elements.ensures.members
    c.in_ok-tombs.ensures.sorted
    c.in_ok-tombs.ensures.members
    (rw (c.as_slice.ensures.value, c.as_slice-2.ensures.value) at c.in_ok-keys.ensures.members)
    (rw (c.in_ok-tombs.ensures.reads.told_same, c.as_slice-3.ensures.value, c.as_slice-4.ensures.value, c.as_slice-5.ensures.value) at c.in_ok-tops.ensures.fit)
    (c.in_ok-element_rows.ensures ∙ ap rows_of c.as_slice-6.ensures.value)
    (c.in_ok-tomb_rows.ensures ∙ ap tombs_of c.as_slice-7.ensures.value)
    refl
    refl

pub returns-clause-reads : goal.returns-clause-reads
returns-clause-reads g c = read_more c.in_ok-tombs.ensures.reads c.in_ok-tops.ensures.reads
