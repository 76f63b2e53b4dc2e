use Rattle.std.proofs.Common.{Bool, ◌≡◌, arith, length, refl, rules}
use Rattle.std.proofs.lemmas.Option.{slice_get_read}
use Rattle.mc_core.specs.Counted.{capped}
use Rattle.mc_model.specs.Kept.{Kept}
use Rattle.mc_acts.proofs.SameFacts.{both_any, compares_then, comparing_begins, comparing_ends, comparing_fails, comparing_on, length_stays, read_told, stay_then, up_stays}
use Rattle.mc_acts.proofs.sames.has_all.Goals as goal

pub loop-position-init : goal.loop-position-init
loop-position-init g c = comparing_begins _ c.args.seats.now.items c.args.r c.args.other c.count_of-count.result (read_told g.K.Keeper.told c.args.seats.now.items c.args.r _ (λ (kept : Kept). c.count_of-count.result ≡ capped (length kept.order)) (slice_get_read c.args.seats.now.items (length c.args.seats.now.items) _ _ refl c.requires.there.0 c.index.ensures) c.count_of-count.ensures)

pub has_one-requires-clause-there : goal.has_one-requires-clause-there
has_one-requires-clause-there g c = let same = length_stays _ _ _ c.loop-position.invariant.stay in (omega (arith, same, c.requires.there.0), omega (arith, same, c.requires.there.1))

pub has_one-requires-clause-up : goal.has_one-requires-clause-up
has_one-requires-clause-up g c = (up_stays _ _ _ c.args.r c.loop-position.invariant.stay c.requires.up.0, up_stays _ _ _ c.args.other c.loop-position.invariant.stay c.requires.up.1)

pub loop-position-preserved : goal.loop-position-preserved
loop-position-preserved g c = comparing_on _ _ _ _ c.args.r c.args.other _ _ c.loop-position.invariant c.loop-position-test.true c.in-Ok-true.ensures.acts (rw (c.in-Ok-true.field-0-test) at c.in-Ok-true.ensures.one)

pub returns-in-Ok-false-clause-acts : goal.returns-in-Ok-false-clause-acts
returns-in-Ok-false-clause-acts g c = stay_then _ _ _ _ c.loop-position.invariant.stay c.in-Ok-false.ensures.acts

pub returns-in-Ok-false-clause-all : goal.returns-in-Ok-false-clause-all
returns-in-Ok-false-clause-all g c = comparing_fails _ _ _ c.args.r c.args.other _ _ c.loop-position.invariant c.loop-position-test.true (rw (c.in-Ok-false.field-0-test) at c.in-Ok-false.ensures.one)

pub returns-in-Err-clause-acts : goal.returns-in-Err-clause-acts
returns-in-Err-clause-acts g c = compares_then _ Bool c.args.r c.args.other c.in-Err.error _ _ _ c.loop-position.invariant.stay c.in-Err.ensures.acts

pub returns-in-Err-clause-all : goal.returns-in-Err-clause-all
returns-in-Err-clause-all g c = both_any _ _ _ (λ s t. tt)

pub returns-clause-all : goal.returns-clause-all
returns-clause-all g c = comparing_ends _ _ _ c.args.r c.args.other _ _ c.loop-position.invariant (search rules) (search rules)
