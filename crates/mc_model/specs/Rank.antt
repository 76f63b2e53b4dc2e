-- Values with the priorities of their blocks, and the greatest of them: by priority, and of equal priorities by the
-- bytes.
use Rattle.std.specs.Prelude.{◌≡◌, ℕ, Bool, false, ◌&&◌, nat_eq, List, [], fold, Option, Some, None, if◌then◌else◌, All}
use Rattle.std.specs.Prelude.{Contains}
use Rattle.std.specs.Str.{bytes_eq}
use Rattle.std.specs.Ordering.{is_lt, is_gt, nat_cmp, on, then_cmp}
use Rattle.std.specs.declared.cmp.Ordering.{Ordering}
use Rattle.std.specs.Cmp.Lexicographic.{slice_cmp}

-- a priority and a value
abbrev pub Ranked : Type 0
Ranked = ℕ × List ℕ

abbrev pub rank_cmp : Ranked → Ranked → Ordering
rank_cmp = then_cmp (on (λ ranked. ranked.0) nat_cmp) (on (λ ranked. ranked.1) (slice_cmp nat_cmp))

-- whether these are one
abbrev pub same_ranked : Ranked → Ranked → Bool
same_ranked a b = nat_eq a.0 b.0 && bytes_eq a.1 b.1

abbrev pub greater : Option Ranked → Ranked → Option Ranked
greater None next = Some next
greater (Some best) next = if is_lt (rank_cmp best next) then Some next else Some best

abbrev pub greatest : List Ranked → Option Ranked
greatest ranked = fold greater None ranked

-- one of the list, above which none of the list is
pub record IsGreatest (ranked : List Ranked) (best : Ranked) : Type 0 where
  pub member : Contains ranked best
  pub bound : All (λ other. is_gt (rank_cmp other best) ≡ false) ranked

-- no value at all, or one that is greatest
abbrev pub IsGreatestOf : List Ranked → Option Ranked → Type 0
IsGreatestOf ranked None = ranked ≡ []
IsGreatestOf ranked (Some best) = IsGreatest ranked best
