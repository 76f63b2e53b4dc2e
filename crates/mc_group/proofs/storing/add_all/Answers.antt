use Rattle.std.proofs.Common.{◌∙◌, ◌∷◌, [], length, sym, ap, arith}
use Rattle.std.specs.List.{list_all}
use Rattle.std.proofs.lemmas.List.{length-append}
use Rattle.mc_keep.proofs.Frames.{read_itself, read_more}
use Rattle.mc_model.specs.Kept.{cids_of}
use Rattle.mc_model.specs.Offer.{is_good}
use Rattle.mc_model.specs.declared.block.Stored.{Stored}
use Rattle.mc_plan.proofs.RefusalFacts.{told_always}
use Rattle.mc_group.proofs.StoringFacts.{one_more}
use Rattle.mc_group.proofs.storing.add_all.Goals as goal

pub loop-block-init : goal.loop-block-init
loop-block-init g c =
    let none = c.requires.none.1 in
    let len = ap length none in
    record {
      stores = told_always _ _ (λ kept. none);
      seen = c.requires.none.0 ∙ ap cids_of (sym none);
      good = ap (list_all (λ (item : Stored). is_good item.cid item.bytes)) none;
      few = omega (arith, len);
      reads = read_itself c.args.keeper.now;
    }

pub loop-block-preserved : goal.loop-block-preserved
loop-block-preserved g c =
    let few = c.loop-block.invariant.few in
    let more = c.in-Ok.ensures.few in
    record {
      stores = one_more _ _ c.loop-block.yielded c.in-Some.block c.loop-block.stores c.add_new.new.stores c.loop-block.invariant.reads.told_same c.loop-block.invariant.stores c.in-Ok.ensures.stores;
      seen = c.in-Ok.ensures.seen;
      good = c.in-Ok.ensures.good c.loop-block.invariant.good;
      few = omega (arith, few, more, length-append c.loop-block.yielded (c.in-Some.block ∷ []));
      reads = read_more c.loop-block.invariant.reads c.in-Ok.ensures.reads;
    }
