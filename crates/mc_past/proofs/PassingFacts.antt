-- How the blocks of a replica are passed to a feed, one after another.
use Rattle.std.proofs.Common.{◌≡◌, ℕ, ◌+◌, ◌≤◌, arith, Bool, true, false, List, [], ◌∷◌, ◌++◌, length, take, Option, Some, None, refl, sym, ap, ◌∙◌, subst}
use Rattle.std.specs.Prelude.{IfSome, ⊤, slice_get}
use Rattle.std.proofs.lemmas.Bool.{false≢true}
use Rattle.std.proofs.lemmas.List.{length-take, length-take-le, take_all}
use Rattle.std.proofs.lemmas.Option.{slice_get_within}
use Rattle.mc_feed.specs.Changes.{events_of, feed}
use Rattle.mc_feed.specs.Feed.{BeginsWith, IsFeed, TellsPart}
use Rattle.mc_feed.specs.declared.event.Event.{Event}
use Rattle.mc_feed.specs.declared.feed.Feed.{Feed}
use Rattle.mc_model.specs.declared.block.Block.{Block}
use Rattle.mc_model.specs.Kept.{Kept, processed}
use Rattle.mc_keep.specs.Causes.{Kind, Refusal, Fault, Shortage}
use Rattle.mc_plan.specs.Refusals.{ByKind, kind_of}
use Rattle.mc_plan.specs.declared.error.CoreError.{CoreError}
use Rattle.mc_past.specs.Past.{changes_between}
use Rattle.mc_past.specs.Passings.{FedUpTo, IsFed, IsFedTo, PassesAll, PassesOne}
use Rattle.mc_past.proofs.TellingFacts.{one_more, one_told, past_end}

next_told : (blocks : List Block) (position : ℕ) (block : Block) → Some block ≡ slice_get blocks position → changes_between position 1 blocks ≡ events_of position (take position blocks) block
next_told blocks position block e =
    let same : position + 0 ≡ position = omega arith in
    one_told blocks position 0 block (e ∙ ap (slice_get blocks) (sym same)) ∙ ap (λ n. events_of n (take n blocks) block) same

module _ {H : Type 0} (taken : H → List Event) where
  -- a feed of some first blocks is that of those before its length

  length_is : (blocks : List Block) (position : ℕ) (now : Feed H) → IsFedTo taken blocks position now → now.length ≡ position
  length_is blocks position now fed = fed.is.count ∙ length-take-le position blocks fed.inside

  to_first : (blocks : List Block) (position : ℕ) (now : Feed H) → IsFedTo taken blocks position now → IsFed taken blocks now
  to_first blocks position now fed = subst (λ n. IsFeed taken (take n blocks) now) (sym (length_is blocks position now fed)) fed.is

  from_first : (blocks : List Block) (now : Feed H) → IsFed taken blocks now → IsFedTo taken blocks now.length now
  from_first blocks now fed = record { inside = omega (arith, fed.count, length-take now.length blocks); is = fed }

  goes_on : (blocks : List Block) (now : Feed H) → now.spent ≡ false → IsFed taken blocks now → FedUpTo taken blocks now
  goes_on blocks now unspent fed = record { first = fed; part = λ e. absurd (false≢true (sym unspent ∙ e)) }

  -- the block at a position is passed, refused for want of memory, or not there

  pub passes_some : (told : Option Kept) (position : ℕ) (found : Option Block) (block : Block) (old new : Feed H) → found ≡ Some block → IfSome told (λ kept. found ≡ slice_get (processed kept) position)
      → ((blocks : List Block) → IsFeed taken blocks old → IsFeed taken (blocks ++ block ∷ []) new) → IfSome told (λ kept. PassesOne taken (processed kept) true position old new)
  passes_some None position found block old new is row step = tt
  passes_some (Some kept) position found block old new is row step = λ fed.
      let blocks = processed kept in
      let at : Some block ≡ slice_get blocks position = sym is ∙ row in
      let within = slice_get_within blocks position block (sym at) in
      record { inside = omega (arith, within); is = subst (λ (z : List Block). IsFeed taken z new) (sym (one_more blocks position block at)) (step (take position blocks) fed.is) }

  pub passes_none : (told : Option Kept) (position : ℕ) (found : Option Block) (now : Feed H) → found ≡ None → IfSome told (λ kept. found ≡ slice_get (processed kept) position) → IfSome told (λ kept. PassesOne taken (processed kept) false position now now)
  passes_none None position found now is row = tt
  passes_none (Some kept) position found now is row = (past_end (processed kept) position (sym is ∙ row), refl)

  broken_at : (blocks : List Block) (position : ℕ) (block : Block) (old new : Feed H) → Some block ≡ slice_get blocks position → old.spent ≡ false → IsFedTo taken blocks position old → TellsPart taken (take position blocks) block old new → FedUpTo taken blocks new
  broken_at blocks position block old new at unspent fed tells = record {
    first = record {
      values = λ e. absurd (false≢true (sym e ∙ tells.spent));
      count = sym (length-take-le new.length blocks inside);
      told = λ e. absurd (false≢true (sym e ∙ tells.spent));
    };
    part = λ e. subst (λ n. BeginsWith (feed (take n blocks)) (taken new.hook) (changes_between n 1 blocks)) (sym here) first_ones;
  }
    where
      many : length (take position blocks) ≡ position
      many = length-take-le position blocks fed.inside

      here : new.length ≡ position
      here = tells.length_same ∙ fed.is.count ∙ many

      inside : new.length ≤ length blocks
      inside = omega (arith, here, fed.inside)

      first_ones : BeginsWith (feed (take position blocks)) (taken new.hook) (changes_between position 1 blocks)
      first_ones = record {
        number = tells.events.number;
        first = tells.events.first
            ∙ ap (λ z. z ++ take tells.events.number (events_of (length (take position blocks)) (take position blocks) block)) (fed.is.told unspent)
            ∙ ap (λ n. feed (take position blocks) ++ take tells.events.number (events_of n (take position blocks) block)) many
            ∙ ap (λ z. feed (take position blocks) ++ take tells.events.number z) (sym (next_told blocks position block at));
      }

  pub breaks_some : (told : Option Kept) (position : ℕ) (found : Option Block) (block : Block) (old new : Feed H) → found ≡ Some block → IfSome told (λ kept. found ≡ slice_get (processed kept) position) → old.spent ≡ false
      → ((blocks : List Block) → IsFeed taken blocks old → TellsPart taken blocks block old new) → IfSome told (λ kept. IsFedTo taken (processed kept) position old → FedUpTo taken (processed kept) new)
  breaks_some None position found block old new is row unspent part = tt
  breaks_some (Some kept) position found block old new is row unspent part = λ fed. broken_at (processed kept) position block old new (sym is ∙ row) unspent fed (part (take position (processed kept)) fed.is)

  pub stays_at : (told : Option Kept) (position : ℕ) (now : Feed H) → now.spent ≡ false → IfSome told (λ kept. IsFedTo taken (processed kept) position now → FedUpTo taken (processed kept) now)
  stays_at None position now unspent = tt
  stays_at (Some kept) position now unspent = λ fed. goes_on (processed kept) now unspent (to_first (processed kept) position now fed)

  pub stays_fed : (told : Option Kept) (now : Feed H) → IfSome told (λ kept. now.spent ≡ false → IsFed taken (processed kept) now → FedUpTo taken (processed kept) now)
  stays_fed None now = tt
  stays_fed (Some kept) now = λ unspent fed. goes_on (processed kept) now unspent fed

  -- those before a position are passed

  abbrev pub HasPassed : Option Kept → ℕ → Feed H → Feed H → Type 0
  HasPassed told position first now = IfSome told (λ kept. IsFed taken (processed kept) first → IsFedTo taken (processed kept) position now)

  pub passed_none : (told : Option Kept) (position : ℕ) (now : Feed H) → ((blocks : List Block) → IsFeed taken blocks now → position ≡ length blocks) → HasPassed told position now now
  passed_none None position now length_of = tt
  passed_none (Some kept) position now length_of = λ fed.
      let here : now.length ≡ position = fed.count ∙ sym (length_of (take now.length (processed kept)) fed) in
      subst (λ n. IsFedTo taken (processed kept) n now) here (from_first (processed kept) now fed)

  pub passed_more : (told told_mid : Option Kept) (some : Bool) (position next : ℕ) (first old new : Feed H) → told_mid ≡ told → some ≡ true → next ≡ position + 1 → HasPassed told position first old → IfSome told_mid (λ kept. PassesOne taken (processed kept) some position old new)
      → HasPassed told next first new
  passed_more told told_mid some position next first old new same is moved so step =
      over told so (subst (λ b. IfSome told (λ kept. PassesOne taken (processed kept) b position old new)) is (subst (λ t. IfSome t (λ kept. PassesOne taken (processed kept) some position old new)) same step))
    where
      over : (told : Option Kept) → HasPassed told position first old → IfSome told (λ kept. PassesOne taken (processed kept) true position old new) → HasPassed told next first new
      over None so step = tt
      over (Some kept) so step = λ fed. subst (λ n. IsFedTo taken (processed kept) n new) (sym moved) (step (so fed))

  pub passed_all : (told told_mid : Option Kept) (some : Bool) (position : ℕ) (first old new : Feed H) → told_mid ≡ told → some ≡ false → HasPassed told position first old → IfSome told_mid (λ kept. PassesOne taken (processed kept) some position old new)
      → IfSome told (λ kept. PassesAll taken (processed kept) first new (Some position))
  passed_all told told_mid some position first old new same is so step =
      over told so (subst (λ b. IfSome told (λ kept. PassesOne taken (processed kept) b position old new)) is (subst (λ t. IfSome t (λ kept. PassesOne taken (processed kept) some position old new)) same step))
    where
      over : (told : Option Kept) → HasPassed told position first old → IfSome told (λ kept. PassesOne taken (processed kept) false position old new) → IfSome told (λ kept. PassesAll taken (processed kept) first new (Some position))
      over None so step = tt
      over (Some kept) so step = λ fed.
          let past = step.0 in
          let all = so fed in (
            subst (λ (feed : Feed H). IsFeed taken (processed kept) feed) (sym step.1) (subst (λ (z : List Block). IsFeed taken z old) (take_all position (processed kept) past) all.is),
            omega (arith, past, all.inside),
          )

  pub passed_part : (told told_mid : Option Kept) (position : ℕ) (first old new : Feed H) → told_mid ≡ told → HasPassed told position first old → IfSome told_mid (λ kept. IsFedTo taken (processed kept) position old → FedUpTo taken (processed kept) new)
      → IfSome told (λ kept. first.spent ≡ false → IsFed taken (processed kept) first → FedUpTo taken (processed kept) new)
  passed_part told told_mid position first old new same so part = over told so (subst (λ t. IfSome t (λ kept. IsFedTo taken (processed kept) position old → FedUpTo taken (processed kept) new)) same part)
    where
      over : (told : Option Kept) → HasPassed told position first old → IfSome told (λ kept. IsFedTo taken (processed kept) position old → FedUpTo taken (processed kept) new)
          → IfSome told (λ kept. first.spent ≡ false → IsFed taken (processed kept) first → FedUpTo taken (processed kept) new)
      over None so part = tt
      over (Some kept) so part = λ unspent fed. part (so fed)

-- how a feed that wasn't spent goes on after a refusal
pub goes_err : {H : Type 0} (first old new : Feed H) (error : CoreError) → first.spent ≡ false → ByKind ⊥ ⊤ ⊤ (kind_of error) → ByKind ⊤ (new.spent ≡ false) ⊤ (kind_of error)
    → ByKind (new ≡ first) ((first.spent ≡ false) × (new.spent ≡ false)) (first.spent ≡ false) (kind_of error)
goes_err first old new error unspent may goes = by_kind (kind_of error) may goes
  where
    by_kind : (kind : Kind) → ByKind ⊥ ⊤ ⊤ kind → ByKind ⊤ (new.spent ≡ false) ⊤ kind → ByKind (new ≡ first) ((first.spent ≡ false) × (new.spent ≡ false)) (first.spent ≡ false) kind
    by_kind Refusal may goes = absurd may
    by_kind Fault may goes = (unspent, goes)
    by_kind Shortage may goes = unspent
