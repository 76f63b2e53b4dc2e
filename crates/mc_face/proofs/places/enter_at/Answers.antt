use Rattle.std.proofs.Common.{sym, subst, ◌∙◌, Option}
use Rattle.left_right.specs.Sides.{view}
use Rattle.mc_face.specs.declared.front.Front.{Front}
use Rattle.mc_face.specs.Known.{Knows}
use Rattle.mc_face.proofs.Ruled.{reads, knows_on}
use Rattle.mc_face.proofs.places.enter_at.Goals as goal

pub enter_as-requires : goal.enter_as-requires
enter_as-requires g c x = reads g.X.Exactness.exact c.args.place.place.id (view c.args.place.place) x

pub returns-then-not-reaches-clause-back : goal.returns-then-not-reaches-clause-back
returns-then-not-reaches-clause-back g c =
    let tells = c.in-Ok.ensures.1 in
    subst (λ (v : Option Front). Knows v c.args.seen.now) (sym (c.leave.ensures.1 ∙ tells.1))
    (knows_on c.in-Ok.entry.part.value (view c.args.place.place) c.args.seen.now c.requires.knows tells.0)
