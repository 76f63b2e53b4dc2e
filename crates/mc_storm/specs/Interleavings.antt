-- The calls of a storm's writers, and what an interleaving of them is.
use Rattle.std.specs.Prelude.{◌≡◌, ◌==◌, ℕ, zero, suc, Bool, true, false, not, ◌&&◌, nat_le, if◌then◌else◌, List, []}
use Rattle.std.specs.Prelude.{◌∷◌, map}
use Rattle.std.specs.List.{filter}
use Rattle.mc_turn.specs.Lists.{Begins, places, total}

-- one write: its number, from 1; whether its put made a block; and whether the get after it gave the put's bytes
pub record Write : Type 0 where
  pub number : ℕ
  pub made : Bool
  pub same : Bool

-- a call of a writer: the put of a write, or the get after it
pub record StormCall : Type 0 where
  pub writer : ℕ
  pub gets : Bool
  pub write : Write

-- the calls of a writer, in their order
abbrev pub calls_of : ℕ → List Write → List StormCall
calls_of writer [] = []
calls_of writer (write ∷ writes) =
    record { writer = writer; gets = false; write = write } ∷ record { writer = writer; gets = true; write = write }
    ∷ calls_of writer writes

-- those of this writer among others
abbrev pub is_by : ℕ → StormCall → Bool
is_by writer call = call.writer == writer

abbrev pub calls_by : ℕ → List StormCall → List StormCall
calls_by writer calls = filter (is_by writer) calls

-- how many writes a writer makes: the writers are those from 1 up to this number
abbrev pub share_of : ℕ → ℕ → ℕ → ℕ
share_of writers writes zero = 0
share_of writers writes (suc writer) = if nat_le (suc writer) writers then writes else 0

-- a writer's calls among others are all calls of so many writes, numbered from 1
pub record MakesAll (count writer : ℕ) (calls : List StormCall) : Type 0 where
  pub writes : List Write
  pub numbered : map (λ write. write.number) writes ≡ places 1 count
  pub all_made : calls_by writer calls ≡ calls_of writer writes

-- or some first ones of them
pub record MakesSome (count writer : ℕ) (calls : List StormCall) : Type 0 where
  pub writes : List Write
  pub numbered : map (λ write. write.number) writes ≡ places 1 count
  pub some_made : Begins (calls_by writer calls) (calls_of writer writes)

-- The calls are an interleaving of the calls of all writers: read by writer, they are each one's calls in order, and
-- there are no others.
abbrev pub IsInterleaving : ℕ → ℕ → List StormCall → Type 0
IsInterleaving writers writes calls = (writer : ℕ) → MakesAll (share_of writers writes writer) writer calls

-- they are an interleaving of some first calls of each writer
abbrev pub IsPartOfOne : ℕ → ℕ → List StormCall → Type 0
IsPartOfOne writers writes calls = (writer : ℕ) → MakesSome (share_of writers writes writer) writer calls

-- what calls do one after the other, where each does this
abbrev pub InTurn : {C S : Type 0} → (C → S → S → Type 0) → List C → S → S → Type 0
InTurn Acts [] s new = new ≡ s
InTurn {C} {S} Acts (call ∷ calls) s new = (mid : S) × Acts call s mid × InTurn Acts calls mid new

-- how many puts made a block, and how many of these had a get that gave the bytes of the put
abbrev pub one_if : Bool → ℕ
one_if true = 1
one_if false = 0

abbrev pub made_in : StormCall → ℕ
made_in call = one_if (not call.gets && call.write.made)

abbrev pub same_in : StormCall → ℕ
same_in call = one_if (call.gets && (call.write.made && call.write.same))

abbrev pub puts_made : List StormCall → ℕ
puts_made calls = total made_in calls

abbrev pub gets_same : List StormCall → ℕ
gets_same calls = total same_in calls
