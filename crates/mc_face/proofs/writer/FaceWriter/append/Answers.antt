use Rattle.std.proofs.Common.{◌≡◌, List, ◌++◌, [], ◌∷◌, map, true, ap, sym, ◌∙◌, subst}
use Rattle.std.specs.Prelude.{drop}
use Rattle.mc_face.specs.declared.shown.Op.{Op}
use Rattle.mc_face.specs.declared.shown.Op.TheVariants.{Set, Reach}
use Rattle.mc_face.specs.declared.front.Front.{Front}
use Rattle.mc_face.specs.Book.{head_of}
use Rattle.mc_face.specs.Exact.{AreValues}
use Rattle.mc_face.specs.Faces.{blocks_of}
use Rattle.mc_face.specs.Words.{WriterValue}
use Rattle.mc_face.proofs.StartFacts.{regroup}
use Rattle.mc_face.proofs.WriterFacts.{ready_appended}
use Rattle.mc_face.proofs.writer.FaceWriter.append.Goals as goal

pub invariant_of-self-2 : goal.invariant_of-self-2
invariant_of-self-2 g c =
    let exact = g.X.Exactness.exact in
    let front = c.self.inside.front in
    let next = c.in-Some-extend.front in
    let told = c.in-Some-extend.ensures in
    let pending : List Op = drop c.self.inside.pen.behind c.self.inside.pen.log.items in
    let queue : List Op = c.self.inside.queue.items in
    let sets : List Op = map Set c.args.changes in
    let put = c.put_changes.ensures
    ∙ (ap (λ (q : List Op). (q ++ sets) ++ Reach c.again.result ∷ []) c.reserve.ensures.items
    ∙ ap (λ (f : Front). (queue ++ sets) ++ Reach f ∷ []) c.again.ensures) in
    let is = ap (λ (l : List Op). pending ++ l) put ∙ regroup pending queue sets (Reach next ∷ []) in
    let values : exact ≡ true → AreValues (blocks_of front ++ c.args.blocks) c.args.changes =
    subst (λ (v : WriterValue). exact ≡ true → AreValues (v.list ++ c.args.blocks) c.args.changes) (sym c.self.view_is) c.requires.values in
    record {
      head_is = c.self.invariant.head_is ∙ ap head_of (sym told.0);
      ready = ready_appended exact c.self.inside.pen.desk.shown.value (pending ++ queue) front next c.args.blocks c.args.changes
          (pending ++ c.put_changes.new.queue.items) is told.0 told.1 c.requires.covers values c.self.invariant.ready;
    }
