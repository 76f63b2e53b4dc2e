use Rattle.std.proofs.Common.{List, length, ap, option_map, refl, sym, ◌∙◌}
use Rattle.mc_base.specs.declared.cid.Cid.{Cid}
use Rattle.mc_cast.specs.Steps.{digest}
use Rattle.mc_cast.proofs.KeptFacts.{kept_first, kept_same}
use Rattle.mc_cast.proofs.message.Heads.add.Goals as goal

pub returns-then-is_some : goal.returns-then-is_some
returns-then-is_some c heads stands = kept_same c.args.self.now _ heads _ (sym c.is_some.ensures ∙ c.if-is_some.true) refl stands

pub returns-in-None : goal.returns-in-None
returns-in-None c heads stands = kept_first c.args.self.now _ heads _ _ (sym c.is_some.ensures ∙ c.if-is_some.false) refl (ap (λ (cids : List Cid). length cids) c.as_slice.ensures) (ap (option_map digest) c.in-None.is) stands
