-- The links between replicas: each is that of two, in either order.
use Rattle.std.proofs.Common.{◌≡◌, ◌≢◌, ℕ, Bool, true, false, not, ◌&&◌, arith, List, [], ◌∷◌, ◌++◌, refl, sym, ◌∙◌, ap}
use Rattle.std.specs.Prelude.{◌==◌, ◌||◌, if◌then◌else◌}
use Rattle.std.specs.List.{list_any}
use Rattle.std.specs.Cmp.{both_ways}
use Rattle.std.proofs.lemmas.Bool.{and_from, eq-eqb, eqb-true, false_from_ne_true, not_from_false, not_from_true, or_left, or_right}
use Rattle.std.proofs.lemmas.Bool.Decides.{nat_tests}
use Rattle.std.proofs.lemmas.List.Folds.{list_any-append}
use Rattle.std.proofs.lemmas.Map.Views.{any-filter_same}
use Rattle.std.proofs.Math.Bool.{and_comm, or_comm}
use Rattle.mc_model.proofs.Members.{any_agree}
use Rattle.mc_runs.specs.Promises.{same_pair}
use Rattle.mc_seats.specs.Step.{with_link}
use Rattle.mc_seats.specs.Worlds.{is_linked, joins}
use Rattle.mc_seats.specs.declared.links.Link.{Link}

equal_back : (a b : ℕ) → (a == b) ≡ (b == a)
equal_back a b = both_ways (a == b) (b == a) (λ e. eq-eqb b a (sym (eqb-true a b e))) (λ e. eq-eqb a b (sym (eqb-true b a e)))

swapped : (a b c d : Bool) → ((a && b) || (c && d)) ≡ ((d && c) || (b && a))
swapped a b c d = or_comm (a && b) (c && d) ∙ ap (λ x. x || (a && b)) (and_comm c d) ∙ ap (λ x. (d && c) || x) (and_comm a b)

-- a link is that of two in either order
joins_back : (r other : ℕ) (link : Link) → joins r other link ≡ joins other r link
joins_back r other link = swapped (r == link.first) (other == link.second) (r == link.second) (other == link.first)

pub linked_back : (down : List Link) (r other : ℕ) → is_linked down r other ≡ is_linked down other r
linked_back down r other =
    ap (λ b. not b && not (list_any (joins r other) down)) (equal_back r other)
    ∙ ap (λ b. not (other == r) && not b) (any_agree (joins r other) (joins other r) (joins_back r other) down)

-- the link of two, once it is set

itself : (r other : ℕ) → joins r other (record { first = r; second = other }) ≡ true
itself r other = or_left ((r == r) && (other == other)) ((r == other) && (other == r)) (and_from (r == r) (other == other) (eq-eqb r r refl) (eq-eqb other other refl))

down_or_not : (down : List Link) (r other : ℕ) (up : Bool) → list_any (joins r other) (with_link down r other up) ≡ not up
down_or_not down r other true = any-filter_same (joins r other) (λ link. not (joins r other link)) false (λ link is. not_from_true (joins r other link) is) down
down_or_not down r other false = by_test (list_any (joins r other) down) refl
  where
    by_test : (b : Bool) → list_any (joins r other) down ≡ b → list_any (joins r other) (if b then down else down ++ record { first = r; second = other } ∷ []) ≡ true
    by_test true is = is
    by_test false is =
        list_any-append (joins r other) down (record { first = r; second = other } ∷ [])
        ∙ or_right (list_any (joins r other) down) (joins r other (record { first = r; second = other }) || false) (or_left (joins r other (record { first = r; second = other })) false (itself r other))

pub set_is_up : (down : List Link) (r other : ℕ) (up : Bool) → r ≢ other → is_linked (with_link down r other up) r other ≡ up
set_is_up down r other up apart =
    ap (λ b. not b && not (list_any (joins r other) (with_link down r other up))) (false_from_ne_true (r == other) (λ e. apart (eqb-true r other e)))
    ∙ ap not (down_or_not down r other up) ∙ twice up
  where
    twice : (b : Bool) → not (not b) ≡ b
    twice true = refl
    twice false = refl

-- the links of all other pairs

no_meeting : (r other a b first second : ℕ) → ((r == a && other == b) || (r == b && other == a)) ≡ false → ((a == first && b == second) || (a == second && b == first)) ≡ true
    → ((r == first && other == second) || (r == second && other == first)) ≡ false
no_meeting r other a b first second apart is = grind (arith, nat_tests, apart, is)

pub others_as_before : (down : List Link) (r other : ℕ) (up : Bool) (a b : ℕ) → same_pair r other a b ≡ false → is_linked (with_link down r other up) a b ≡ is_linked down a b
others_as_before down r other up a b apart = ap (λ t. not (a == b) && not t) (as_before up)
  where
    as_before : (up : Bool) → list_any (joins a b) (with_link down r other up) ≡ list_any (joins a b) down
    as_before true = any-filter_same (joins a b) (λ link. not (joins r other link)) true (λ link is. not_from_false (joins r other link) (no_meeting r other a b link.first link.second apart is)) down
    as_before false = by_test (list_any (joins r other) down)
      where
        by_test : (t : Bool) → list_any (joins a b) (if t then down else down ++ record { first = r; second = other } ∷ []) ≡ list_any (joins a b) down
        by_test true = refl
        by_test false = list_any-append (joins a b) down (record { first = r; second = other } ∷ [])
            ∙ ap (λ t. list_any (joins a b) down || (t || false)) (no_meeting a b r other r other (turned apart) (itself r other))
            ∙ or_comm (list_any (joins a b) down) false
          where
            turned : same_pair r other a b ≡ false → same_pair a b r other ≡ false
            turned e = grind (arith, nat_tests, e)
