use Rattle.std.proofs.Common.{None, refl, sym, ap}
use Rattle.mc_core.specs.Exact.{stop_front}
use Rattle.mc_core.specs.Replica.{replica_state}
use Rattle.mc_core.proofs.Keeps.{continues_more, rest_more, still_on}
use Rattle.mc_files.proofs.FrameFacts.{same_more}
use Rattle.mc_files.proofs.LookFacts.{looked_first}
use Rattle.mc_files.proofs.SectionFacts.{HasFirst, adds_none, section_more, sections_end}
use Rattle.mc_files.proofs.exporting.add_sections.Goals as goal

pub loop-position-init : goal.loop-position-init
loop-position-init g c = record {
  keeps = still_on refl refl refl;
  rest = record { walk_same = refl; batch_same = refl; whole_same = refl; inbox_same = refl };
  same = record { told_same = refl; fuse_same = refl; queue_same = refl };
  so_far = looked_first (HasFirst c.args.file.now c.args.file.now 0) (replica_state g.K.Keeper.told g.K.Keeper.fuse c.args.replica.now) (λ kept. adds_none c.args.file.now);
}

pub loop-position-preserved : goal.loop-position-preserved
loop-position-preserved g c = record {
  keeps = continues_more c.loop-position.invariant.keeps (continues_more c.in-Ok-Some.ensures.keeps c.in-Ok.ensures.keeps);
  rest = rest_more c.loop-position.invariant.rest (rest_more c.in-Ok-Some.ensures.rest c.in-Ok.ensures.rest);
  same = same_more c.loop-position.invariant.same (same_more c.in-Ok-Some.ensures.same c.in-Ok.ensures.same);
  so_far = section_more c.args.file.now c.loop-position.file c.add_block.new.file c.loop-position.position c.in-Ok-Some.cid c.in-Ok-Some.field-0 (replica_state g.K.Keeper.told g.K.Keeper.fuse c.args.replica.now) (replica_state g.K.Keeper.told g.K.Keeper.fuse c.loop-position.replica) (replica_state g.K.Keeper.told g.K.Keeper.fuse c.at.new.self)
      (replica_state g.K.Keeper.told g.K.Keeper.fuse c.add_block.new.replica) c.in-Ok-Some.field-0-is c.loop-position.invariant.so_far c.in-Ok-Some.ensures.call c.in-Ok.ensures.call;
}

pub returns-in-Ok-None-clause-call : goal.returns-in-Ok-None-clause-call
returns-in-Ok-None-clause-call g c =
    sections_end c.args.file.now c.loop-position.file c.loop-position.position c.in-Ok-None.field-0 (replica_state g.K.Keeper.told g.K.Keeper.fuse c.args.replica.now) (replica_state g.K.Keeper.told g.K.Keeper.fuse c.loop-position.replica) (replica_state g.K.Keeper.told g.K.Keeper.fuse c.at.new.self) c.in-Ok-None.field-0-is c.loop-position.invariant.so_far
    c.in-Ok-None.ensures.call

pub returns-in-Ok-None-clause-keeps : goal.returns-in-Ok-None-clause-keeps
returns-in-Ok-None-clause-keeps g c = continues_more c.loop-position.invariant.keeps c.in-Ok-None.ensures.keeps

pub returns-in-Err-clause-keeps : goal.returns-in-Err-clause-keeps
returns-in-Err-clause-keeps g c = continues_more c.loop-position.invariant.keeps c.in-Err.ensures.keeps

pub returns-in-Err-add_block-clause-keeps : goal.returns-in-Err-add_block-clause-keeps
returns-in-Err-add_block-clause-keeps g c = continues_more c.loop-position.invariant.keeps (continues_more c.in-Ok-Some.ensures.keeps c.in-Err-add_block.ensures.keeps)

pub returns-clause-front : goal.returns-clause-front
returns-clause-front g c = sym (ap (λ b. stop_front b None) c.requires.runs)
