-- One entry more in a log.
use Rattle.std.proofs.Common.{◌≡◌, ◌≤◌, Bool, true, false, ◌||◌, List, [], ◌∷◌, ◌++◌, take, drop, length, fold, refl, sym, ap, ◌∙◌, subst, arith, length-append}
use mathlib.Core.Logic.{dite}
use native.Mathlib.Decide.{dec_le}
use Rattle.std.proofs.lemmas.Bool.{false≢true}
use Rattle.std.proofs.lemmas.List.{take-append-drop, take-append-le, take_all}
use Rattle.std.proofs.Math.Seq.{take-append_seam, take-length}
use Rattle.mc_turn.specs.Lists.{Begins}
use Rattle.mc_turn.proofs.Lists.{begins_trans}
use Rattle.mc_model.specs.declared.block.Block.{Block}
use Rattle.mc_node.specs.declared.note.Note.{Note}
use Rattle.mc_node.specs.Items.{Item, Shown, blocks, blocks_in, has_note, is_first, is_rooted, last, nothing_shown, root, state_in}
use Rattle.mc_node.specs.Ties.{IsGrowing}

pub first_on : (test : Note → Bool) (log : List Item) (i : Item) → is_rooted log ≡ true → is_first test (log ++ i ∷ []) ≡ is_first test log
first_on test [] i r = absurd (false≢true r)
first_on test (x ∷ xs) i r = refl

pub root_on : (log : List Item) (i : Item) → is_rooted log ≡ true → root (log ++ i ∷ []) ≡ root log
root_on [] i r = absurd (false≢true r)
root_on (x ∷ xs) i r = refl

last_from : (start : Shown) (log : List Item) (i : Item) → fold (λ (shown : Shown) (item : Item). item.shown) start (log ++ i ∷ []) ≡ i.shown
last_from start [] i = refl
last_from start (x ∷ xs) i = last_from x.shown xs i

pub last_on : (log : List Item) (i : Item) → last (log ++ i ∷ []) ≡ i.shown
last_on log i = last_from nothing_shown log i

or-assoc : (a b c : Bool) → (a || (b || c)) ≡ ((a || b) || c)
or-assoc true b c = refl
or-assoc false b c = refl

or-false : (a : Bool) → (a || false) ≡ a
or-false true = refl
or-false false = refl

pub has_on : (test : Note → Bool) (log : List Item) (i : Item) → has_note test (log ++ i ∷ []) ≡ (has_note test log || test i.note)
has_on test [] i = or-false (test i.note)
has_on test (x ∷ xs) i = ap (λ b. test x.note || b) (has_on test xs i) ∙ or-assoc (test x.note) (has_note test xs) (test i.note)

-- a list that is the first part of another begins it
pub begins_of : (xs ys : List Block) → take (length xs) ys ≡ xs → Begins xs ys
begins_of xs ys e = (drop (length xs) ys, ap (λ l. l ++ drop (length xs) ys) (sym e) ∙ take-append-drop (length xs) ys)

pub first_of : (xs ys : List Block) → Begins xs ys → take (length xs) ys ≡ xs
first_of xs ys b = ap (take (length xs)) (sym b.1) ∙ take-append_seam xs b.0

-- first parts in turn
pub longer_on : (xs ys zs : List Block) → take (length xs) ys ≡ xs → take (length ys) zs ≡ ys → take (length xs) zs ≡ xs
longer_on xs ys zs a b = first_of xs zs (begins_trans xs ys zs (begins_of xs ys a) (begins_of ys zs b))

-- a part of the longer log is one of the shorter log, or the whole
pub growing_on : (log : List Item) (i : Item) → IsGrowing log → take (length (blocks log)) (blocks_in (state_in i.shown)) ≡ blocks log → IsGrowing (log ++ i ∷ [])
growing_on log i grown more n = dite (dec_le n (length log)) shorter longer
  where
    now : blocks (log ++ i ∷ []) ≡ blocks_in (state_in i.shown)
    now = ap (λ s. blocks_in (state_in s)) (last_on log i)

    shorter : n ≤ length log → take (length (blocks (take n (log ++ i ∷ [])))) (blocks (log ++ i ∷ [])) ≡ blocks (take n (log ++ i ∷ []))
    shorter le =
        subst (λ (l : List Item). take (length (blocks l)) (blocks (log ++ i ∷ [])) ≡ blocks l) (sym (take-append-le n log (i ∷ []) le))
        (subst (λ (bs : List Block). take (length (blocks (take n log))) bs ≡ blocks (take n log)) (sym now)
        (first_of (blocks (take n log)) (blocks_in (state_in i.shown))
        (begins_trans (blocks (take n log)) (blocks log) (blocks_in (state_in i.shown)) (begins_of (blocks (take n log)) (blocks log) (grown n)) (begins_of (blocks log) (blocks_in (state_in i.shown)) more))))

    longer : (n ≤ length log → ⊥) → take (length (blocks (take n (log ++ i ∷ [])))) (blocks (log ++ i ∷ [])) ≡ blocks (take n (log ++ i ∷ []))
    longer gt =
        let all : take n (log ++ i ∷ []) ≡ log ++ i ∷ [] = take_all n (log ++ i ∷ []) (omega (arith, length-append log (i ∷ []), gt)) in
        subst (λ (l : List Item). take (length (blocks l)) (blocks (log ++ i ∷ [])) ≡ blocks l) (sym all) (take-length (blocks (log ++ i ∷ [])))
