use Rattle.std.proofs.Common.{rules, arith, All, List, [], ◌∷◌, ◌++◌, ◌≡◌, ap, sym, subst, ◌∙◌}
use Rattle.std.proofs.lemmas.List.Elements.{All-push}
use Rattle.mc_face.specs.Words.{BeginsAt, ReaderValue}
use Rattle.logbook.specs.Pages.{Book}
use Rattle.mc_face.specs.Faces.{blocks_of}
use Rattle.mc_face.specs.declared.front.Front.{Front}
use Rattle.mc_face.proofs.Ruled.{admits, forks, merges}
use Rattle.mc_face.proofs.making.hire.Goals as goal

-- one reader more that has seen nothing
hired : (face : Book) (readers more : List ReaderValue) (reader : ReaderValue) → more ≡ readers ++ reader ∷ [] → All (BeginsAt face) readers → BeginsAt face reader → All (BeginsAt face) more
hired face readers more reader are all fresh = subst (All (BeginsAt face)) (sym are) (All-push (BeginsAt face) readers reader all fresh)

pub reader-requires : goal.reader-requires
reader-requires g c = admits g.X.Exactness.exact

pub tell-requires : goal.tell-requires
tell-requires g c = forks g.X.Exactness.exact _ _

pub learn-requires : goal.learn-requires
learn-requires g c = record { own = search rules; rule = merges g.X.Exactness.exact _ _ _ _ }

pub loop-preserved : goal.loop-preserved
loop-preserved g c =
    let made : ReaderValue = record { seen = blocks_of c.again.result; told = blocks_of c.again-in-loop.result; face = c.again.result.seen.book } in
    let fresh : BeginsAt c.args.front.now.seen.book made = record {
      nothing = ap blocks_of c.again.ensures ∙ c.requires.nothing;
      untold = ap blocks_of c.again-in-loop.ensures ∙ c.requires.nothing;
      one = ap (λ (f : Front). f.seen.book) c.again.ensures;
    } in (
      search rules,
      search rules,
      search rules,
      search rules,
      search rules,
      omega arith,
      hired c.args.front.now.seen.book c.loop.readers.items c.push_reserved.new.self.items made c.push_reserved.ensures.items c.loop.invariant.6 fresh,
    )
