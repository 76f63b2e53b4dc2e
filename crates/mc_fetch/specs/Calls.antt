-- The words of `Frame`, at a bound `F: Fetch`.
use Rattle.std.specs.Prelude.{ℕ, Bool, false, Option}
use Rattle.mc_base.specs.declared.counted.Counted as counted
use Rattle.mc_fetch.specs.declared.fetch.Fetch as fetch
use Rattle.mc_fetch.specs.Frame.{AsksAt}
use Rattle.mc_fetch.specs.Offers.{Offered}

-- what `F.Fetch` is in a clause: the ghost members of `Counted` and of `Fetch`
abbrev pub Members : Type 0 → Type 1
Members F = record {
  faults : F → ℕ;
  offers : F → Option Offered;
  leading : F → Offered;
  places : F → ℕ;
  quiet : F → Bool;
  follows : F → F → Type 0;
}

abbrev pub Asks : {F : Type 0} → Members F → Bool → F → F → Type 0
Asks f = AsksAt f.offers f.leading f.places f.quiet f.faults f.follows

-- The same of a loop, in a proof file: `HasAsked g.F.Fetch g.F.Counted l.fn.fetch l.fetch`.
abbrev pub HasAsked : {F : Type 0} → fetch.Ghosts F → counted.Ghosts F → F → F → Type 0
HasAsked f c = AsksAt f.offers f.leading f.places f.quiet c.faults f.follows false
