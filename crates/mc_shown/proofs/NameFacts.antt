-- The one name that all seats of a shared face have seen.
use Rattle.std.proofs.Common.{◌≡◌, ℕ, List, [], ◌∷◌, ◌++◌, Bool, true, false, Option, refl, sym, ap, ◌∙◌, subst}
use Rattle.std.proofs.lemmas.Bool.{false≢true}
use mathlib.Core.List.{head-eq_of_cons-eq, tail-eq_of_cons-eq}
use Rattle.mc_turn.specs.declared.view.View.{View}
use Rattle.mc_turn.specs.Lists.{Begins}
use Rattle.mc_turn.specs.Views.{Extends, given_view, held_view}
use Rattle.mc_shown.specs.Names.{Name, face_in, has_name, node_in}

none_of : {A : Type 0} (xs ys : List A) → xs ++ ys ≡ [] → xs ≡ []
none_of [] ys e = refl
none_of (x ∷ xs) ys e = absurd (false≢true (ap is_nil e))
  where
    is_nil : {A : Type 0} → List A → Bool
    is_nil [] = true
    is_nil (x ∷ xs) = false

pub names_are : (names : List Name) (name : Name) → has_name names ≡ true → Begins names (name ∷ []) → names ≡ name ∷ []
names_are [] name has b = absurd (false≢true has)
names_are (n ∷ ns) name has b = λ i. head-eq_of_cons-eq b.1 i ∷ none_of ns b.0 (tail-eq_of_cons-eq b.1) i

pub face_is : (names : List Name) (name : Name) → has_name names ≡ true → Begins names (name ∷ []) → name.face ≡ face_in names
face_is names name has b = ap face_in (sym (names_are names name has b))

pub node_is : (names : List Name) (name : Name) → has_name names ≡ true → Begins names (name ∷ []) → name.node ≡ node_in names
node_is names name has b = ap node_in (sym (names_are names name has b))

-- what a list of names begins with stays
pub has_on : (names more : List Name) → has_name names ≡ true → Begins names more → has_name more ≡ true
has_on [] more has b = absurd (false≢true has)
has_on (n ∷ ns) more has b = ap has_name (sym b.1)

pub face_on : (names more : List Name) → has_name names ≡ true → Begins names more → face_in more ≡ face_in names
face_on [] more has b = absurd (false≢true has)
face_on (n ∷ ns) more has b = ap face_in (sym b.1)

pub node_on : (names more : List Name) → has_name names ≡ true → Begins names more → node_in more ≡ node_in names
node_on [] more has b = absurd (false≢true has)
node_on (n ∷ ns) more has b = ap node_in (sym b.1)

name_same : (old new : Name) → new.face ≡ old.face → new.node ≡ old.node → new ≡ old
name_same old new face node = λ i. record { face = face i; node = node i }

-- what was changed while the lock was held has the same name
pub extends_name : (before held : View Name) (words : List ℕ) (old new : Name) → held ≡ held_view before words (old ∷ []) → new.face ≡ old.face → new.node ≡ old.node → Extends held.held (new ∷ [])
extends_name before held words old new is face node = subst (λ (h : Option (List Name)). Extends h (new ∷ [])) (sym (ap (λ (v : View Name). v.held) is)) ([], ap (λ (n : Name). n ∷ []) (sym (name_same old new face node)))

pub seen_name : (before held after : View Name) (words : List ℕ) (old new : Name) → has_name before.seen ≡ true → Begins before.seen (old ∷ []) → held ≡ held_view before words (old ∷ []) → after ≡ given_view held (new ∷ []) → new.face ≡ old.face → new.node ≡ old.node
    → after.seen ≡ before.seen
seen_name before held after words old new has begins is given face node =
    ap (λ (v : View Name). v.seen) given ∙ (ap (λ (n : Name). n ∷ []) (name_same old new face node) ∙ sym (names_are before.seen old has begins))
