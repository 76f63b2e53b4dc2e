-- Segments are looked at one by one.
use Rattle.std.proofs.Common.{◌≡◌, ℕ, zero, suc, ◌<◌, Bool, true, false, List, [], ◌∷◌, length, get_or, map, None, Some, refl, arith}
use Rattle.std.specs.List.{list_any}
use Rattle.std.proofs.Math.Bool.{or-true}
use denote.Ref.{Bor}
use Rattle.mc_key.specs.declared.fault.KeyFault.TheVariants.{EmptySegment, DotSegment}
use Rattle.mc_key.specs.KeyRule.{is_dots, is_empty, segments_fault}

-- the texts that references point to
abbrev pub texts_of : List (Bor (List ℕ)) → List (List ℕ)
texts_of texts = map (λ text. text.now) texts

-- no segment so far is empty, and whether one is dots
pub record SoFar (done : List (List ℕ)) (has_dots : Bool) : Type 0 where
  pub none_empty : list_any is_empty done ≡ false
  pub dots : has_dots ≡ list_any is_dots done

-- an empty segment at a place
empty_at : (all : List (List ℕ)) (place : ℕ) (segment : List ℕ) → place < length all → segment ≡ get_or all place segment → is_empty segment ≡ true → list_any is_empty all ≡ true
empty_at [] place segment within is empty = absurd (omega arith)
empty_at (first ∷ all) zero segment within is empty = rw (rw is at empty) refl
empty_at (first ∷ all) (suc place) segment within is empty = rw (empty_at all place segment (omega arith) is empty) (or-true (is_empty first))

no_bytes : (segment : List ℕ) → length segment ≡ 0 → is_empty segment ≡ true
no_bytes [] h = refl
no_bytes (byte ∷ segment) h = absurd (omega arith)

pub empty_found : (all : List (List ℕ)) (place : ℕ) (segment : List ℕ) → (place < length all) × (segment ≡ get_or all place segment) → length segment ≡ 0 → segments_fault all ≡ Some EmptySegment
empty_found all place segment turn none = rw (empty_at all place segment turn.0 turn.1 (no_bytes segment none)) refl

pub dots_found : (done all : List (List ℕ)) (has_dots : Bool) → SoFar done has_dots → done ≡ all → has_dots ≡ true → segments_fault all ≡ Some DotSegment
dots_found done all has_dots so_far same found = rw (← same, so_far.none_empty, ← so_far.dots, found) refl

pub nothing_found : (done all : List (List ℕ)) (has_dots : Bool) → SoFar done has_dots → done ≡ all → has_dots ≡ false → segments_fault all ≡ None
nothing_found done all has_dots so_far same other = rw (← same, so_far.none_empty, ← so_far.dots, other) refl
