-- The desks of a world, of which those of one replica are taken out and put back.
use Rattle.std.proofs.Common.{◌≡◌, ◌≤◌, ◌∙◌, ℕ, zero, suc, ◌+◌, Bool, true, false, List, [], ◌∷◌, ◌++◌, drop, length, map, take, Some, None, refl, sym, ap, subst, arith}
use Rattle.std.specs.Prelude.{is_some, nat_eq, slice_get, unwrap_or}
use Rattle.std.specs.List.{AllZip, insert, list_all, remove}
use Rattle.std.proofs.lemmas.Bool.{and_from, and_parts, false≢true}
use Rattle.std.proofs.lemmas.Bool.Decides.{nat_tests}
use Rattle.mc_base.specs.declared.counted.Counted as counted
use Rattle.mc_keep.specs.Calls.{Members}
use Rattle.mc_keep.specs.declared.keeper.Keeper as keeper
use Rattle.mc_lend.specs.Lending.{HaveAt, HaveDesks}
use Rattle.mc_pull.specs.Pulls.{DeskListGoes}
use Rattle.mc_seats.specs.declared.links.Link.{Link}
use Rattle.mc_seats.specs.declared.seat.Seat.{Seat}
use Rattle.mc_seats.specs.Desked.{desk_sums, desks_each, is_desked, is_full_list}
use Rattle.mc_world.specs.Pulling.{AreAsLong}
use Rattle.mc_seats.specs.Words.{place}
use Rattle.mc_seats.specs.Worlds.{Place, peer_row}
use Rattle.mc_seats.proofs.DeskedFacts.{as_many, map_long}
use Rattle.mc_seats.proofs.SeatFacts.{replaced, same_length, set_of_get}

none_is : {A P : Type 0} {x : A} → None ≡ Some x → P
none_is e = absurd (false≢true (ap is_some e))

row_long : (down : List Link) (r number : ℕ) (places : List Place) → length (peer_row down r number places) ≡ length places
row_long down r number [] = refl
row_long down r number (p ∷ places) = ap suc (row_long down r (number + 1) places)

module _ (count : ℕ) (few : count ≤ desks_each) where
  have_at : {D : Type 0} (mark : Bool) (list : List D) → is_full_list list ≡ true → HaveAt count mark list
  have_at false list full = tt
  have_at true list full = let long = as_many (length list) desks_each full in omega (arith, few, long)

  have_all : {D : Type 0} (marks : List Bool) (lists : List (List D)) → length marks ≡ length lists → list_all is_full_list lists ≡ true → HaveDesks count marks lists
  have_all [] [] many all = tt
  have_all [] (l ∷ lists) many all = absurd (omega (arith, many))
  have_all (m ∷ marks) [] many all = absurd (omega (arith, many))
  have_all (m ∷ marks) (l ∷ lists) many all = let parts = and_parts (is_full_list l) (list_all is_full_list lists) all in (have_at m l parts.0, have_all marks lists (omega (arith, many)) parts.1)

  have_removed : {D : Type 0} (marks : List Bool) (lists : List (List D)) (r : ℕ) → length marks ≡ length lists → list_all is_full_list lists ≡ true → HaveDesks count (remove marks r) (remove lists r)
  have_removed [] [] zero many all = tt
  have_removed [] [] (suc r) many all = tt
  have_removed [] (l ∷ lists) r many all = absurd (omega (arith, many))
  have_removed (m ∷ marks) [] r many all = absurd (omega (arith, many))
  have_removed (m ∷ marks) (l ∷ lists) zero many all = have_all marks lists (omega (arith, many)) (and_parts (is_full_list l) (list_all is_full_list lists) all).1
  have_removed (m ∷ marks) (l ∷ lists) (suc r) many all = let parts = and_parts (is_full_list l) (list_all is_full_list lists) all in (have_at m l parts.0, have_removed marks lists r (omega (arith, many)) parts.1)

  -- the others have so many desks each at least
  pub others_desked : {K D : Type 0} {g : keeper.Ghosts K D} {h : counted.Ghosts K} {i : counted.Ghosts D} (k : Members K D) (down : List Link) (r : ℕ) (seats mid : List (Seat K D g h i)) (x : Seat K D g h i) (desks lists : List (List D))
      → is_desked (length seats) desks ≡ true → slice_get seats r ≡ Some x → mid ≡ remove seats r → lists ≡ remove desks r → HaveDesks count (remove (peer_row down r 0 (map (place k) (insert mid r x))) r) lists
  others_desked {K = K} {D = D} {g = g} {h = h} {i = i} k down r seats mid x desks lists desked stands out taken =
      let parts = and_parts (nat_eq (length seats) (length desks)) (list_all is_full_list desks) desked in
      subst (λ (l : List (Seat K D g h i)). HaveDesks count (remove (peer_row down r 0 (map (place k) l)) r) lists) (sym (replaced seats mid (insert mid r x) r x x stands out refl ∙ set_of_get seats r x stands))
      (subst (λ (l : List (List D)). HaveDesks count (remove (peer_row down r 0 (map (place k) seats)) r) l) (sym taken)
      (have_removed (peer_row down r 0 (map (place k) seats)) desks r (row_long down r 0 (map (place k) seats) ∙ map_long (place k) seats ∙ as_many (length seats) (length desks) parts.0) parts.1))

-- lists as long as before

pub all_long : {K D : Type 0} (k : Members K D) (desk_faults : D → ℕ) (quiet : Bool) (desks left : List (List D)) → AllZip (DeskListGoes k desk_faults quiet) desks left → AreAsLong desks left
all_long k desk_faults quiet [] [] goes = tt
all_long k desk_faults quiet [] (n ∷ left) goes = absurd goes
all_long k desk_faults quiet (o ∷ desks) [] goes = absurd goes
all_long k desk_faults quiet (o ∷ desks) (n ∷ left) goes = (goes.0.many, all_long k desk_faults quiet desks left goes.1)

pub same_long : {D : Type 0} (desks : List (List D)) → AreAsLong desks desks
same_long [] = tt
same_long (o ∷ desks) = (refl, same_long desks)

insert_long : {D : Type 0} (xs ys : List (List D)) (r : ℕ) (x : List D) → slice_get xs r ≡ Some x → AreAsLong (remove xs r) ys → AreAsLong xs (insert ys r x)
insert_long [] ys r x stands goes = none_is stands
insert_long (z ∷ xs) ys zero x stands goes = (ap length (sym (ap (λ o. unwrap_or o z) stands)), goes)
insert_long (z ∷ xs) [] (suc r) x stands goes = absurd goes
insert_long (z ∷ xs) (y ∷ ys) (suc r) x stands goes = (goes.0, insert_long xs ys r x stands goes.1)

full_of : {D : Type 0} (xs ys : List D) → length ys ≡ length xs → is_full_list xs ≡ true → is_full_list ys ≡ true
full_of xs ys many is = ap (λ n. nat_eq n desks_each) many ∙ is

all_full : {D : Type 0} (olds news : List (List D)) → AreAsLong olds news → list_all is_full_list olds ≡ true → (length news ≡ length olds) × (list_all is_full_list news ≡ true)
all_full [] [] goes all = (refl, refl)
all_full [] (n ∷ news) goes all = absurd goes
all_full (o ∷ olds) [] goes all = absurd goes
all_full (o ∷ olds) (n ∷ news) goes all =
    let parts = and_parts (is_full_list o) (list_all is_full_list olds) all in
    let rest = all_full olds news goes.1 parts.1 in
    (ap suc rest.0, and_from (is_full_list n) (list_all is_full_list news) (full_of o n goes.0 parts.0) rest.1)

-- a list that was written through a slice
take_all : {X : Type 0} (xs ys : List X) → take (length xs) (xs ++ ys) ≡ xs
take_all [] ys = refl
take_all (x ∷ xs) ys = ap (λ l. x ∷ l) (take_all xs ys)

as_long : {D : Type 0} (olds news : List (List D)) → AreAsLong olds news → length news ≡ length olds
as_long [] [] goes = refl
as_long [] (n ∷ news) goes = absurd goes
as_long (o ∷ olds) [] goes = absurd goes
as_long (o ∷ olds) (n ∷ news) goes = ap suc (as_long olds news goes.1)

pub written_back : {D : Type 0} (desks left olds after : List (List D)) (len r : ℕ) (list : List D) → AreAsLong desks left → desks ≡ olds → len ≡ length olds → after ≡ insert (take len (left ++ drop (length left) olds)) r list → after ≡ insert left r list
written_back desks left olds after len r list long same many is =
    let same_len : len ≡ length left = many ∙ ap length (sym same) ∙ sym (as_long desks left long) in
    is ∙ ap (λ l. insert l r list) (ap (λ n. take n (left ++ drop (length left) olds)) same_len ∙ take_all left (drop (length left) olds))

-- each replica has its desks at hand again
pub desked_again : {A D : Type 0} (seats mid news : List A) (x y : A) (r : ℕ) (desks lists left back : List (List D)) (list : List D) → is_desked (length seats) desks ≡ true → slice_get seats r ≡ Some x → mid ≡ remove seats r → news ≡ insert mid r y
    → slice_get desks r ≡ Some list → lists ≡ remove desks r → AreAsLong lists left → back ≡ insert left r list → is_desked (length news) back ≡ true
desked_again {D = D} seats mid news x y r desks lists left back list desked stands out again at taken goes is =
    let parts = and_parts (nat_eq (length seats) (length desks)) (list_all is_full_list desks) desked in
    let all = all_full desks (insert left r list) (insert_long desks left r list at (subst (λ (l : List (List D)). AreAsLong l left) taken goes)) parts.1 in
    subst (λ (l : List (List D)). is_desked (length news) l ≡ true) (sym is)
    (and_from (nat_eq (length news) (length (insert left r list))) (list_all is_full_list (insert left r list))
    (ap (λ n. nat_eq n (length (insert left r list))) (sym (same_length seats mid news r x y stands out again)) ∙ ap (λ n. nat_eq (length seats) n) all.0 ∙ parts.0) all.1)
