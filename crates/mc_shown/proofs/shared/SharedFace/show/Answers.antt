use Rattle.std.proofs.Common.{◌≡◌, [], ◌∷◌, ◌++◌, ◌∙◌, sym, subst, IfOk}
use Rattle.logbook.specs.Pages.{Book}
use Rattle.mc_turn.specs.Seats.{view}
use Rattle.mc_face.specs.Words.{told_face}
use Rattle.mc_shown.proofs.NameFacts.{extends_name, face_is, node_is, seen_name}
use Rattle.mc_shown.proofs.shared.SharedFace.show.Goals as goal

pub show-value-requires-clause-of : goal.show-value-requires-clause-of
show-value-requires-clause-of g c = node_is _ _ c.args.seat.now.named c.take-held.ensures.taken.seen ∙ c.requires.of

pub give-requires-clause-extends : goal.give-requires-clause-extends
give-requires-clause-extends g c =
    extends_name (view c.args.seat.now.seat) (view c.take-held.new.seat) (c.take-held.ensures.held.0 ++ 0 ∷ []) _ _ c.take-held.ensures.held.2 c.show-value.ensures.one
    (c.show-value.ensures.of ∙ sym (node_is _ _ c.args.seat.now.named c.take-held.ensures.taken.seen ∙ c.requires.of))

pub returns-clause-same : goal.returns-clause-same
returns-clause-same g c =
    seen_name (view c.args.seat.now.seat) (view c.take-held.new.seat) (view c.give.new.seat) (c.take-held.ensures.held.0 ++ 0 ∷ []) _ _ c.args.seat.now.named c.take-held.ensures.taken.seen c.take-held.ensures.held.2 c.give.ensures.given c.show-value.ensures.one
    (c.show-value.ensures.of ∙ sym (node_is _ _ c.args.seat.now.named c.take-held.ensures.taken.seen ∙ c.requires.of))

pub returns-clause-face : goal.returns-clause-face
returns-clause-face g c =
    subst (λ (book : Book). IfOk c.show-value.result.1 (λ seen. told_face seen.answer ≡ book)) (face_is _ _ c.args.seat.now.named c.take-held.ensures.taken.seen) c.show-value.ensures.face
