-- What holds of all writers of a storm, from what holds of each.
use Rattle.std.proofs.Common.{◌≡◌, ◌≤◌, ◌<◌, ◌+◌, ℕ, zero, suc, Bool, true, List, [], ◌∷◌, ◌++◌, length, map, take, drop, Option, None, Result, refl, sym, ap, ◌∙◌, subst, arith, slice_index_or}
use Rattle.std.proofs.lemmas.Bool.{false≢true}
use Rattle.std.proofs.lemmas.List.{take-append-le, take_all}
use Rattle.mc_base.specs.declared.counted.Counted as counted
use Rattle.mc_keep.specs.declared.keeper.Keeper as keeper
use Rattle.mc_turn.specs.declared.view.View.{View}
use Rattle.mc_turn.specs.Lists.{places, total}
use Rattle.mc_core.specs.declared.Written.{Written}
use Rattle.mc_core.specs.declared.CoreError.{CoreError}
use Rattle.mc_node.specs.declared.entry.Entry.{Entry}
use Rattle.mc_node.specs.declared.node.Seen.{Seen}
use Rattle.mc_keep.specs.Plan.{Schedule}
use Rattle.mc_keep.specs.declared.fuse.Fuse.{Fuse}
use Rattle.mc_node.specs.Entries.{is_open, shown_at}
use Rattle.mc_storm.specs.Interleavings.{calls_of}
use Rattle.mc_node.specs.Items.{Item}
use Rattle.mc_node.specs.Moves.{PutDoes, ReadDoes}
use Rattle.mc_storm.specs.Storms.{storm_key, storm_value}
use Rattle.mc_node.specs.Views.{Turned}
use Rattle.mc_writers.specs.Writers.{HasWritten}
use Rattle.mc_model.specs.Kept.{Kept, processed}
use Rattle.mc_model.specs.Live.{value}
use Rattle.mc_writers.proofs.StormSeats.{GetTurn, PutTurn}
use Rattle.mc_writers.proofs.WriterFacts.{unmade, unmade_numbers}

pub pointwise_map : {W : Type 0} (R : W → W → Type 0) (f : W → ℕ) → ((x y : W) → R x y → f y ≡ f x) → (xs ys : List W) → length ys ≡ length xs
    → ((k : ℕ) (d : W) → k < length xs → R (slice_index_or xs k d) (slice_index_or ys k d)) → map f ys ≡ map f xs
pointwise_map R f same [] [] e each = refl
pointwise_map R f same [] (y ∷ ys) e each = absurd (omega (arith, e))
pointwise_map R f same (x ∷ xs) [] e each = absurd (omega (arith, e))
pointwise_map R f same (x ∷ xs) (y ∷ ys) e each = (λ i. same x y (each 0 x (omega arith)) i ∷ pointwise_map R f same xs ys (omega (arith, e)) (λ k d lt. each (suc k) d (omega (arith, lt))) i)

total_map : {W : Type 0} (f : W → ℕ) (xs : List W) → total f xs ≡ total (λ (n : ℕ). n) (map f xs)
total_map f [] = refl
total_map f (x ∷ xs) = ap (λ n. f x + n) (total_map f xs)

pub pointwise_total : {W : Type 0} (R : W → W → Type 0) (f : W → ℕ) → ((x y : W) → R x y → f y ≡ f x) → (xs ys : List W) → length ys ≡ length xs
    → ((k : ℕ) (d : W) → k < length xs → R (slice_index_or xs k d) (slice_index_or ys k d)) → total f ys ≡ total f xs
pointwise_total R f same xs ys e each = total_map f ys ∙ ap (total (λ (n : ℕ). n)) (pointwise_map R f same xs ys e each) ∙ sym (total_map f xs)

-- what a slice of all of a list leaves of it
pub slice_back : {A : Type 0} (n : ℕ) (new old : List A) → n ≡ length new → take n (new ++ drop (length new) old) ≡ new
slice_back n new old e = take-append-le n new (drop (length new) old) (omega (arith, e)) ∙ take_all n new (omega (arith, e))

pub places_length : (first n : ℕ) → length (places first n) ≡ n
places_length first zero = refl
places_length first (suc n) = ap suc (places_length (suc first) n)

-- a writer that called nothing
pub written_nothing : {E : Type 0} (writer writes : ℕ) (log : List Item) (seat : View E) → 1 ≤ length seat.seen → seat.mine ≡ [] → HasWritten writer writes None log seat
written_nothing writer writes log seat one none = record {
  first = length seat.seen;
  begun = one;
  ran = record {
    tooks = [];
    fails = [];
    of_one = tt;
    fails_of = tt;
    rising = tt;
    writes = unmade 1 writes;
    numbered = unmade_numbers 1 writes;
    part = (calls_of writer (unmade 1 writes), refl);
    whole = λ e. absurd (false≢true e);
    places_are = none;
    made_is = λ e. absurd (false≢true e);
    same_is = λ e. absurd (false≢true e);
    made_most = omega arith;
    same_most = omega arith;
    good = tt;
    bad = tt;
  };
}

module _ {K D : Type 0} {g : keeper.Ghosts K D} {h : counted.Ghosts K} {i : counted.Ghosts D} where
  -- an entry as an item
  abbrev pub item_at : (K → Option Kept) → (K → Option Fuse) → (K → ℕ) → (K → ℕ) → (K → Bool) → (K → Option Schedule) → Entry K D g h i → Item
  item_at told fuse own faults quiet schedule entry = record { note = entry.note; shown = shown_at told fuse own faults quiet schedule entry.replica.value }

  -- an open log has its root
  pub open_one : (log : List (Entry K D g h i)) → is_open log ≡ true → 1 ≤ length log
  open_one [] e = absurd (false≢true e)
  open_one (x ∷ xs) e = omega arith

module _ {E : Type 0} (item : E → Item) where
  -- the put of a writer, in its words
  pub put_turn : (writer number : ℕ) (key bytes : List ℕ) (result : Result Written CoreError) (before after : View E) → key ≡ storm_key writer → bytes ≡ storm_value number
      → Turned before after (λ old new. PutDoes key bytes result (map item old) (map item new)) → PutTurn item writer number result before after
  put_turn writer number key bytes result before after k b t =
      subst (λ (x : List ℕ). Turned before after (λ old new. PutDoes (storm_key writer) x result (map item old) (map item new))) b
      (subst (λ (x : List ℕ). Turned before after (λ old new. PutDoes x bytes result (map item old) (map item new))) k t)

  pub get_turn : (writer : ℕ) (key : List ℕ) (result : Result (Seen (Option (List ℕ))) CoreError) (before after : View E) → key ≡ storm_key writer
      → Turned before after (λ old new. ReadDoes (λ kept found. found ≡ value (processed kept) key) result (map item old) (map item new)) → GetTurn item writer result before after
  get_turn writer key result before after k t =
      subst (λ (x : List ℕ). Turned before after (λ old new. ReadDoes (λ kept found. found ≡ value (processed kept) x) result (map item old) (map item new))) k t
