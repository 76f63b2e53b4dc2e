-- The calls of all writers of a storm, while their seats are joined.
use Rattle.std.specs.Prelude.{◌≡◌, ◌≤◌, ◌+◌, ◌*◌, ℕ, suc, Bool, true, List, ◌++◌, map}
use Rattle.std.specs.List.{filter}
use Rattle.mc_turn.specs.Lists.{Begins, places, times, total}
use Rattle.mc_storm.specs.Interleavings.{StormCall, Write, calls_of, share_of}
use Rattle.mc_writers.specs.Tooks.{Each, Took, IsRising, made_places}
use Rattle.mc_writers.specs.Writers.{Tooks, calls_in, is_of, made_at, same_at}

abbrev pub by : ℕ → Tooks → Tooks
by writer xs = filter (is_of writer) xs

-- what one writer has called, among all
pub record WriterMade (count writer hi : ℕ) (done : Bool) (tooks fails : Tooks) : Type 0 where
  pub rising : IsRising 1 hi tooks
  pub writes : List Write
  pub numbered : map (λ write. write.number) writes ≡ places 1 count
  pub part : Begins (calls_in tooks ++ calls_in fails) (calls_of writer writes)
  pub whole : done ≡ true → calls_in tooks ≡ calls_of writer writes

-- the calls of the first writers, whose seats are joined
pub record Joined (count writes hi : ℕ) (done : Bool) (made same : ℕ) (mine : List ℕ)
    (Good Bad : Took StormCall → Type 0) : Type 0 where
  pub all : Tooks
  pub fails : Tooks
  pub each : (writer : ℕ) → WriterMade (share_of count writes writer) writer (suc hi) done (by writer all)
      (by writer fails)
  pub places_are : (p : ℕ) → times p mine ≡ times p (made_places all) + times p (made_places fails)
  pub made_is : done ≡ true → made ≡ total made_at all
  pub same_is : done ≡ true → same ≡ total same_at all
  pub made_most : made ≤ count * writes
  pub same_most : same ≤ count * writes
  pub good : Each Good all
  pub bad : Each Bad fails
