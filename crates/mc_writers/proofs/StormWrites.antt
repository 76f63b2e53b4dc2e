-- The writes of one writer of a storm.
use Rattle.std.proofs.Common.{◌≡◌, ◌≤◌, ◌<◌, ℕ, suc, true, false, List, [], ◌++◌, length, map, Some, None, refl, sym, ap, ◌∙◌, subst, arith, append-nil}
use Rattle.std.proofs.lemmas.Bool.{false≢true}
use Rattle.mc_turn.specs.declared.view.View.{View}
use Rattle.mc_turn.proofs.Lists.{begins_self}
use Rattle.mc_storm.specs.declared.outcome.Stormed.{Stormed}
use Rattle.mc_writers.specs.declared.writing.Wrote.{Wrote}
use Rattle.mc_storm.specs.Interleavings.{StormCall}
use Rattle.mc_node.specs.Items.{Item}
use Rattle.mc_writers.specs.Tooks.{Took}
use Rattle.mc_writers.specs.Writers.{HasWritten, IsBad, IsGood, SeatGoes, WriteGoes, WriterRan, WritesOnce, counted}
use Rattle.mc_writers.proofs.StormSeats.{begins_items, good_longer, seat_on}
use Rattle.mc_writers.proofs.WriterFacts.{IsWriting, writing_ends, writing_on, writing_start, writing_stops}

pub record IsStorming {E : Type 0} (Owned Unsealed : Type 0) (writer count : ℕ) (stormed : Stormed) (log : List Item) (before now : View E) : Type 0 where
  pub own : Owned
  pub unsealed : Unsealed
  pub more : List ℕ
  pub seat : SeatGoes before now more
  pub writing : IsWriting writer count (length before.seen) (length now.seen) stormed.made stormed.same more (IsGood log)

module _ {E : Type 0} (item : E → Item) where
  pub storming_start : (Owned Unsealed : Type 0) (writer : ℕ) (before : View E) → Owned → Unsealed → IsStorming Owned Unsealed writer 0 (record { made = 0; same = 0 }) (map item before.seen) before before
  storming_start Owned Unsealed writer before own unsealed = record {
    own = own;
    unsealed = unsealed;
    more = [];
    seat = record { grown = begins_self before.seen; mine_more = sym (append-nil before.mine); parts_same = refl; base_same = refl };
    writing = writing_start writer (length before.seen) [] (IsGood (map item before.seen)) refl;
  }

  pub storming_on : (Owned Unsealed Owned' Unsealed' : Type 0) (writer count number : ℕ) (stormed new : Stormed) (wrote : Wrote) (before mid now : View E) → number ≡ suc count
      → IsStorming Owned Unsealed writer count stormed (map item mid.seen) before mid → WritesOnce writer number (Some wrote) (map item now.seen) mid now → new ≡ counted stormed wrote → Owned' → Unsealed'
      → IsStorming Owned' Unsealed' writer number new (map item now.seen) before now
  storming_on Owned Unsealed Owned' Unsealed' writer count number stormed new wrote before mid now e s w is own unsealed = record {
    own = own;
    unsealed = unsealed;
    more = s.more ++ w.more;
    seat = seat_on item before mid now s.more w.more s.seat w.seat;
    writing = subst (λ (x : Stormed). IsWriting writer number (length before.seen) (length now.seen) x.made x.same (s.more ++ w.more) (IsGood (map item now.seen))) (sym is)
        (subst (λ (n : ℕ). IsWriting writer n (length before.seen) (length now.seen) (counted stormed wrote).made (counted stormed wrote).same (s.more ++ w.more) (IsGood (map item now.seen))) (sym e)
        (writing_on writer count (length before.seen) (length mid.seen) (length now.seen) stormed.made stormed.same s.more wrote.made wrote.same w.more (IsGood (map item mid.seen)) (IsGood (map item now.seen)) (IsBad (map item now.seen))
        s.writing (subst (λ (n : ℕ). WriteGoes writer n (length mid.seen) (length now.seen) true wrote.made wrote.same w.more (IsGood (map item now.seen)) (IsBad (map item now.seen))) e w.goes)
        (good_longer (map item mid.seen) (map item now.seen) (begins_items item mid.seen now.seen w.seat.grown))));
  }

  mine_is : (before now : View E) (more : List ℕ) → before.mine ≡ [] → SeatGoes before now more → now.mine ≡ more
  mine_is before now more none s = s.mine_more ∙ ap (λ l. l ++ more) none

  pub storming_ends : (Owned Unsealed : Type 0) (writer number count : ℕ) (stormed : Stormed) (before now : View E) → 1 ≤ length before.seen → before.mine ≡ [] → number ≡ count
      → IsStorming Owned Unsealed writer number stormed (map item now.seen) before now → HasWritten writer count (Some stormed) (map item now.seen) now
  storming_ends Owned Unsealed writer number count stormed before now one none e s = record {
    first = length before.seen;
    begun = one;
    ran = subst (λ (l : List ℕ). WriterRan writer count (length before.seen) (length now.seen) true stormed.made stormed.same l (IsGood (map item now.seen)) (IsBad (map item now.seen))) (sym (mine_is before now s.more none s.seat))
        (writing_ends writer count (length before.seen) (length now.seen) stormed.made stormed.same s.more (IsGood (map item now.seen)) (IsBad (map item now.seen))
        (subst (λ (n : ℕ). IsWriting writer n (length before.seen) (length now.seen) stormed.made stormed.same s.more (IsGood (map item now.seen))) e s.writing));
  }

  -- the counts of a writer that ended before aren't kept
  uncounted : (writer count lo hi made same : ℕ) (mine : List ℕ) (Good Bad : Took StormCall → Type 0) → WriterRan writer count lo hi false made same mine Good Bad → WriterRan writer count lo hi false 0 0 mine Good Bad
  uncounted writer count lo hi made same mine Good Bad w = record {
    tooks = w.tooks;
    fails = w.fails;
    of_one = w.of_one;
    fails_of = w.fails_of;
    rising = w.rising;
    writes = w.writes;
    numbered = w.numbered;
    part = w.part;
    whole = w.whole;
    places_are = w.places_are;
    made_is = λ e. absurd (false≢true e);
    same_is = λ e. absurd (false≢true e);
    made_most = omega arith;
    same_most = omega arith;
    good = w.good;
    bad = w.bad;
  }

  pub storming_stops : (Owned Unsealed : Type 0) (writer count writes number : ℕ) (stormed : Stormed) (before mid now : View E) → 1 ≤ length before.seen → before.mine ≡ [] → number ≡ suc count → count < writes
      → IsStorming Owned Unsealed writer count stormed (map item mid.seen) before mid → WritesOnce writer number None (map item now.seen) mid now → HasWritten writer writes None (map item now.seen) now
  storming_stops Owned Unsealed writer count writes number stormed before mid now one none e lt s w = record {
    first = length before.seen;
    begun = one;
    ran = subst (λ (l : List ℕ). WriterRan writer writes (length before.seen) (length now.seen) false 0 0 l (IsGood (map item now.seen)) (IsBad (map item now.seen))) (sym (mine_is before now (s.more ++ w.more) none (seat_on item before mid now s.more w.more s.seat w.seat)))
        (uncounted writer writes (length before.seen) (length now.seen) stormed.made stormed.same (s.more ++ w.more) (IsGood (map item now.seen)) (IsBad (map item now.seen))
        (writing_stops writer count writes (length before.seen) (length mid.seen) (length now.seen) stormed.made stormed.same s.more false false w.more (IsGood (map item mid.seen)) (IsGood (map item now.seen)) (IsBad (map item now.seen))
        s.writing (subst (λ (n : ℕ). WriteGoes writer n (length mid.seen) (length now.seen) false false false w.more (IsGood (map item now.seen)) (IsBad (map item now.seen))) e w.goes) lt
        (good_longer (map item mid.seen) (map item now.seen) (begins_items item mid.seen now.seen w.seat.grown))));
  }
