-- What a writer has still to show, over its calls.
use Rattle.std.proofs.Common.{◌≡◌, Bool, true, List, [], ◌∷◌, ◌++◌, map, refl, ap, sym, ◌∙◌, subst}
use Rattle.std.specs.Prelude.{fold, Option, Some, Result, Ok, Err, MatchResult, OnOk}
use Rattle.std.specs.declared.alloc.AllocError.{AllocError}
use Rattle.mc_model.specs.declared.block.Block.{Block}
use Rattle.mc_face.specs.declared.change.Change.{Change}
use Rattle.mc_face.specs.declared.front.Front.{Front}
use Rattle.mc_face.specs.declared.shown.Shown.{Shown}
use Rattle.mc_face.specs.declared.shown.Op.{Op}
use Rattle.mc_face.specs.declared.shown.Op.TheVariants.{Set, Reach}
use Rattle.mc_face.specs.Pairs.{Pair, pairs_of, with_change}
use Rattle.mc_face.specs.Exact.{Covers, AreValues, StandsFor}
use Rattle.mc_face.specs.Faces.{State, applied, blocks_of, state_of, IsReady}
use Rattle.mc_face.specs.Lists.{Starts}
use Rattle.mc_face.specs.Rule.{Shows, Stands}
use Rattle.mc_face.proofs.ExactFacts.{changes_stand}
use Rattle.mc_face.proofs.StartFacts.{starts_self, starts_more, starts_trans}

fold_append : (s : State) (xs ys : List Op) → fold applied s (xs ++ ys) ≡ fold applied (fold applied s xs) ys
fold_append s [] ys = refl
fold_append s (x ∷ xs) ys = fold_append (applied s x) xs ys

-- changes alone leave the front
fold_sets : (s : State) (changes : List Change) → fold applied s (map Set changes) ≡ (s.0, fold with_change s.1 changes)
fold_sets s [] = refl
fold_sets s (change ∷ changes) = fold_sets (applied s (Set change)) changes

module _ (exact : Bool) (shown : Shown) (ops : List Op) (front next : Front) (more : List Block) (changes : List Change) (all : List Op) where
  pub ready_appended : all ≡ ops ++ (map Set changes ++ Reach next ∷ []) → next.seen.book ≡ front.seen.book → blocks_of next ≡ blocks_of front ++ more
      → Covers more changes → (exact ≡ true → AreValues (blocks_of front ++ more) changes) → IsReady exact shown ops front → IsReady exact shown all next
  ready_appended is one list covers values ready =
      let s = fold applied (state_of shown) ops in
      let end : fold applied (state_of shown) all ≡ (next, fold with_change s.1 changes) =
      ap (fold applied (state_of shown)) is
      ∙ (fold_append (state_of shown) ops (map Set changes ++ Reach next ∷ [])
      ∙ (fold_append s (map Set changes) (Reach next ∷ [])
      ∙ ap (λ (t : State). fold applied t (Reach next ∷ [])) (fold_sets s changes))) in
      let stands : StandsFor exact (fold with_change s.1 changes) (blocks_of front ++ more) = changes_stand exact (blocks_of front) more changes s.1 ready.stands covers values in
      record {
        comes = ap (λ (t : State). t.0) end;
        stands = subst (λ (pairs : List Pair). StandsFor exact pairs (blocks_of next)) (sym (ap (λ (t : State). t.1) end))
            (subst (StandsFor exact (fold with_change s.1 changes)) (sym list) stands);
        begins = subst (λ (bs : List Block). Starts bs (blocks_of shown.front)) (sym list)
            (starts_trans (blocks_of shown.front) (blocks_of front) (blocks_of front ++ more) ready.begins (starts_more (blocks_of front) more));
        one = ready.one ∙ sym one;
      }

-- what is shown once all is applied
module _ (exact : Bool) (shown next : Shown) (ops : List Op) (front : Front) (ready : IsReady exact shown ops front) (is : state_of next ≡ fold applied (state_of shown) ops) where
  pub shown_front : next.front ≡ front
  shown_front = ap (λ (t : State). t.0) is ∙ ready.comes

  pub shown_stands : Stands exact next
  shown_stands = subst (λ (f : Front). StandsFor exact (pairs_of next.values.entries) (blocks_of f)) (sym shown_front)
      (subst (λ (pairs : List Pair). StandsFor exact pairs (blocks_of front)) (sym (ap (λ (t : State). t.1) is)) ready.stands)

  pub shown_begins : Starts (blocks_of next.front) (blocks_of shown.front)
  shown_begins = subst (λ (f : Front). Starts (blocks_of f) (blocks_of shown.front)) (sym shown_front) ready.begins

  pub shown_one : shown.front.seen.book ≡ next.front.seen.book
  shown_one = ready.one ∙ sym (ap (λ (f : Front). f.seen.book) shown_front)

  pub ready_shown : IsReady exact next [] front
  ready_shown = record {
    comes = shown_front;
    stands = subst (λ (f : Front). StandsFor exact (pairs_of next.values.entries) (blocks_of f)) shown_front shown_stands;
    begins = subst (λ (f : Front). Starts (blocks_of front) (blocks_of f)) (sym shown_front) (starts_self (blocks_of front));
    one = ap (λ (f : Front). f.seen.book) shown_front;
  }

-- after a call that shows what is pending, or refuses
module _ (exact : Bool) (shown now : Shown) (ops left : List Op) (front : Front) (ready : IsReady exact shown ops front) where
  pub ready_after : (r : Result (Unit {0}) AllocError)
      → MatchResult r (λ _. (state_of now ≡ fold applied (state_of shown) ops) × (left ≡ [])) (λ _. (now ≡ shown) × (left ≡ ops)) → IsReady exact now left front
  ready_after (Ok x) h = subst (λ (l : List Op). IsReady exact now l front) (sym h.1) (ready_shown exact shown now ops front ready h.0)
  ready_after (Err x) h = subst (λ (l : List Op). IsReady exact now l front) (sym h.1) (subst (λ (s : Shown). IsReady exact s ops front) (sym h.0) ready)

  pub viewed_after : (before after : Option Front) (r : Result (Unit {0}) AllocError)
      → MatchResult r (λ _. (state_of now ≡ fold applied (state_of shown) ops) × (left ≡ [])) (λ _. (now ≡ shown) × (left ≡ ops))
      → MatchResult r (λ _. Shows exact before shown now after) (λ _. after ≡ before) → OnOk r (after ≡ Some front)
  viewed_after before after (Ok x) h s = s.1 ∙ ap Some (shown_front exact shown now ops front ready h.0)
  viewed_after before after (Err x) h s = tt

  pub front_after : (r : Result (Unit {0}) AllocError)
      → MatchResult r (λ _. (state_of now ≡ fold applied (state_of shown) ops) × (left ≡ [])) (λ _. (now ≡ shown) × (left ≡ ops)) → OnOk r (now.front ≡ front)
  front_after (Ok x) h = shown_front exact shown now ops front ready h.0
  front_after (Err x) h = tt
