-- How the events of blocks are told, a block at a time.
use Rattle.std.proofs.Common.{◌≡◌, ℕ, ◌+◌, ◌≤◌, ◌<◌, arith, Bool, true, false, List, [], ◌∷◌, ◌++◌, length, take, drop, Option, Some, None, refl, sym, ap, ◌∙◌, subst, inl, inr}
use Rattle.std.specs.Prelude.{IfSome, is_some, slice_get}
use Rattle.std.proofs.Math.Seq.{take-add}
use Rattle.std.proofs.lemmas.List.{get_or-drop, length-drop, length-take-le, take_all, take_more}
use Rattle.std.proofs.lemmas.Option.{get_or_from_slice_get, slice_get_cases, slice_get_within}
use Rattle.mc_feed.specs.Changes.{events_of, feed_from}
use Rattle.mc_feed.specs.declared.event.Event.{Event}
use Rattle.mc_feed.proofs.FoldFacts.{feed_more}
use Rattle.mc_live.specs.Stands.{Stands}
use Rattle.mc_live.specs.declared.live.Live.{Live}
use Rattle.mc_model.specs.declared.block.Block.{Block}
use Rattle.mc_model.specs.Kept.{Kept, processed}
use Rattle.mc_past.specs.Past.{changes_between}
use Rattle.mc_past.specs.Pasts.{IsPast, PastFits}
use Rattle.mc_past.specs.Tellings.{IsTelling, Reaches, Takes, Tells}
use Rattle.mc_past.specs.declared.past.Past.{Past}
use Rattle.mc_past.proofs.PastFacts.{one_on, still_past}

pub past_end : {A : Type 0} (xs : List A) (i : ℕ) → None ≡ slice_get xs i → length xs ≤ i
past_end xs i e = elim (slice_get_cases xs i).1 [
  | inl (x, within, is, get) ↦ absurd (let f : false ≡ true = ap is_some (e ∙ is) in cc)
  | inr (past, none) ↦ past
]

pub one_more : (blocks : List Block) (position : ℕ) (block : Block) → Some block ≡ slice_get blocks position → take (position + 1) blocks ≡ take position blocks ++ block ∷ []
one_more blocks position block e =
    take_more blocks position block (slice_get_within blocks position block (sym e)) ∙ ap (λ (b : Block). take position blocks ++ b ∷ []) (get_or_from_slice_get blocks position block block (sym e))

-- the block at a position is taken, or there is none

pub takes_some : (told : Option Kept) (position : ℕ) (found : Option Block) (block : Block) (old new : Live) → found ≡ Some block → IfSome told (λ kept. found ≡ slice_get (processed kept) position)
    → ((blocks : List Block) → Stands blocks old → Stands (blocks ++ block ∷ []) new) → IfSome told (λ kept. Takes true position (processed kept) old new)
takes_some None position found block old new is row step = tt
takes_some (Some kept) position found block old new is row step = (
  slice_get_within (processed kept) position block (sym row ∙ is),
  λ stands. subst (λ (z : List Block). Stands z new) (sym (one_more (processed kept) position block (sym is ∙ row))) (step (take position (processed kept)) stands),
)

pub takes_none : (told : Option Kept) (position : ℕ) (found : Option Block) (live : Live) → found ≡ None → IfSome told (λ kept. found ≡ slice_get (processed kept) position) → IfSome told (λ kept. Takes false position (processed kept) live live)
takes_none None position found live is row = tt
takes_none (Some kept) position found live is row = (past_end (processed kept) position (sym is ∙ row), refl)

-- those before a position are taken

pub record IsTaken (blocks : List Block) (position : ℕ) (past : Past) : Type 0 where
  pub fits : IsPast blocks past
  pub place : past.length ≡ position

abbrev pub HasTaken : Option Kept → ℕ → Past → Type 0
HasTaken told position past = IfSome told (λ kept. IsTaken (processed kept) position past)

-- a clause by cases on a flag, under what was told before
turned : (P : Kept → Bool → Type 0) (told told_mid : Option Kept) (some flag : Bool) → told_mid ≡ told → some ≡ flag → IfSome told_mid (λ kept. P kept some) → IfSome told (λ kept. P kept flag)
turned P told told_mid some flag same is clause = subst (λ b. IfSome told (λ kept. P kept b)) is (subst (λ t. IfSome t (λ kept. P kept some)) same clause)

pub taken_none : (told : Option Kept) (past : Past) → PastFits told past → HasTaken told past.length past
taken_none None past fits = tt
taken_none (Some kept) past fits = record { fits = fits; place = refl }

pub taken_more : (told told_mid : Option Kept) (some : Bool) (position next : ℕ) (old : Past) (live : Live) → told_mid ≡ told → some ≡ true → next ≡ position + 1 → HasTaken told position old
    → IfSome told_mid (λ kept. Takes some position (processed kept) old.live live) → HasTaken told next (record { live = live; length = next; walk = old.walk })
taken_more told told_mid some position next old live same is moved so step = over told so (turned (λ kept b. Takes b position (processed kept) old.live live) told told_mid some true same is step)
  where
    over : (told : Option Kept) → HasTaken told position old → IfSome told (λ kept. Takes true position (processed kept) old.live live) → HasTaken told next (record { live = live; length = next; walk = old.walk })
    over None so step = tt
    over (Some kept) so step =
        let stands : Stands (take position (processed kept)) old.live = subst (λ n. Stands (take n (processed kept)) old.live) so.place so.fits.values in
        let place : next ≡ old.length + 1 = omega (arith, moved, so.place) in
        record {
          fits = one_on (processed kept) old live next place (omega (arith, step.0, so.place)) (subst (λ n. Stands (take n (processed kept)) live) (sym moved) (step.1 stands)) so.fits;
          place = refl;
        }

module _ (told told_mid : Option Kept) (some : Bool) (position from : ℕ) (old : Past) (live : Live) (same : told_mid ≡ told) (is : some ≡ false) (so : HasTaken told position old) (step : IfSome told_mid (λ kept. Takes some position (processed kept) old.live live)) where
  taken_end : IfSome told (λ kept. Takes false position (processed kept) old.live live)
  taken_end = turned (λ kept b. Takes b position (processed kept) old.live live) told told_mid some false same is step

  pub taken_early : position ≤ from → IfSome told (λ kept. length (processed kept) ≤ from)
  taken_early below = over told taken_end
    where
      over : (told : Option Kept) → IfSome told (λ kept. Takes false position (processed kept) old.live live) → IfSome told (λ kept. length (processed kept) ≤ from)
      over None step = tt
      over (Some kept) step = omega (arith, step.0, below)

  pub taken_still : PastFits told (record { live = live; length = old.length; walk = old.walk })
  taken_still = over told so taken_end
    where
      over : (told : Option Kept) → HasTaken told position old → IfSome told (λ kept. Takes false position (processed kept) old.live live) → PastFits told (record { live = live; length = old.length; walk = old.walk })
      over None so step = tt
      over (Some kept) so step = still_past (processed kept) old live step.1 so.fits

pub taken_all : (told : Option Kept) (position from : ℕ) (past : Past) → position ≡ from → HasTaken told position past → IfSome told (λ kept. Reaches true from (processed kept) past)
taken_all None position from past is so = tt
taken_all (Some kept) position from past is so = so.place ∙ is

pub taken_fits : (told : Option Kept) (position : ℕ) (past : Past) → HasTaken told position past → PastFits told past
taken_fits None position past so = tt
taken_fits (Some kept) position past so = so.fits

-- the events of a block more

pub one_told : (blocks : List Block) (from number : ℕ) (block : Block) → Some block ≡ slice_get blocks (from + number)
    → changes_between from (number + 1) blocks ≡ changes_between from number blocks ++ events_of (from + number) (take (from + number) blocks) block
one_told blocks from number block e =
    ap (feed_from from (take from blocks)) more ∙ feed_more from (take from blocks) (take number (drop from blocks)) block (from + number) (omega (arith, long)) ∙ ap (λ (z : List Block). changes_between from number blocks ++ events_of (from + number) z block) (sym (take-add from number blocks))
  where
    within : from + number < length blocks
    within = slice_get_within blocks (from + number) block (sym e)

    inside : number < length (drop from blocks)
    inside = omega (arith, within, length-drop from blocks)

    long : length (take number (drop from blocks)) ≡ number
    long = length-take-le number (drop from blocks) (omega (arith, inside))

    more : take (number + 1) (drop from blocks) ≡ take number (drop from blocks) ++ block ∷ []
    more = take_more (drop from blocks) number block inside ∙ ap (λ (b : Block). take number (drop from blocks) ++ b ∷ []) (get_or-drop from blocks number block ∙ get_or_from_slice_get blocks (from + number) block block (sym e))

pub tells_some : (told : Option Kept) (position : ℕ) (found : Option Block) (block : Block) (old new : Live) (before after : List Event) → found ≡ Some block → IfSome told (λ kept. found ≡ slice_get (processed kept) position)
    → ((blocks : List Block) → Stands blocks old → Stands (blocks ++ block ∷ []) new × (after ≡ before ++ events_of position blocks block)) → IfSome told (λ kept. Tells true position (processed kept) old new before after)
tells_some None position found block old new before after is row step = tt
tells_some (Some kept) position found block old new before after is row step = (
  slice_get_within (processed kept) position block (sym row ∙ is),
  λ from number here telling.
      let blocks = processed kept in
      let at : Some block ≡ slice_get blocks (from + number) = sym is ∙ row ∙ ap (slice_get blocks) here in
      let done = step (take (from + number) blocks) telling.values in
      let next : from + number + 1 ≡ from + (number + 1) = omega arith in
      record {
        values = subst (λ n. Stands (take n blocks) new) next (subst (λ (z : List Block). Stands z new) (sym (one_more blocks (from + number) block at)) done.0);
        told = done.1
            ∙ ap (λ z. z ++ events_of position (take (from + number) blocks) block) telling.told
            ∙ ap (λ n. changes_between from number blocks ++ events_of n (take (from + number) blocks) block) here
            ∙ sym (one_told blocks from number block at);
      },
)

pub tells_none : (told : Option Kept) (position : ℕ) (found : Option Block) (live : Live) (events : List Event) → found ≡ None → IfSome told (λ kept. found ≡ slice_get (processed kept) position)
    → IfSome told (λ kept. Tells false position (processed kept) live live events events)
tells_none None position found live events is row = tt
tells_none (Some kept) position found live events is row = (past_end (processed kept) position (sym is ∙ row), refl, refl)

-- so many are told, and the values are those after them

pub record IsTold (blocks : List Block) (from number : ℕ) (past : Past) (events : List Event) : Type 0 where
  pub fits : IsPast blocks past
  pub place : past.length ≡ from + number
  pub told : events ≡ changes_between from number blocks

abbrev pub HasTold : Option Kept → ℕ → ℕ → Past → List Event → Type 0
HasTold told from number past events = IfSome told (λ kept. IsTold (processed kept) from number past events)

pub told_none : (told : Option Kept) (past : Past) (events : List Event) → events ≡ [] → PastFits told past → HasTold told past.length 0 past events
told_none None past events none fits = tt
told_none (Some kept) past events none fits = record { fits = fits; place = omega arith; told = none }

pub told_more : (told told_mid : Option Kept) (some : Bool) (from number next place : ℕ) (old : Past) (live : Live) (before after : List Event) → told_mid ≡ told → some ≡ true → next ≡ number + 1 → place ≡ old.length + 1 → HasTold told from number old before
    → IfSome told_mid (λ kept. Tells some old.length (processed kept) old.live live before after) → HasTold told from next (record { live = live; length = place; walk = old.walk }) after
told_more told told_mid some from number next place old live before after same is moved along so step = over told so (turned (λ kept b. Tells b old.length (processed kept) old.live live before after) told told_mid some true same is step)
  where
    over : (told : Option Kept) → HasTold told from number old before → IfSome told (λ kept. Tells true old.length (processed kept) old.live live before after) → HasTold told from next (record { live = live; length = place; walk = old.walk }) after
    over None so step = tt
    over (Some kept) so step =
        let blocks = processed kept in
        let stands : Stands (take (from + number) blocks) old.live = subst (λ n. Stands (take n blocks) old.live) so.place so.fits.values in
        let on : IsTelling blocks from (number + 1) live after = step.1 from number so.place (record { values = stands; told = so.told }) in
        let here : from + (number + 1) ≡ place = omega (arith, along, so.place) in
        record {
          fits = one_on blocks old live place along step.0 (subst (λ n. Stands (take n blocks) live) here on.values) so.fits;
          place = omega (arith, along, so.place, moved);
          told = on.told ∙ ap (λ n. changes_between from n blocks) (sym moved);
        }

module _ (told told_mid : Option Kept) (some : Bool) (from number count : ℕ) (old : Past) (live : Live) (before after : List Event) (same : told_mid ≡ told) (is : some ≡ false) (so : HasTold told from number old before) (step : IfSome told_mid (λ kept. Tells some old.length (processed kept) old.live live before after)) where
  told_end : IfSome told (λ kept. Tells false old.length (processed kept) old.live live before after)
  told_end = turned (λ kept b. Tells b old.length (processed kept) old.live live before after) told told_mid some false same is step

  pub told_early : number ≤ count → IfSome told (λ kept. after ≡ changes_between from count (processed kept))
  told_early below = over told so told_end
    where
      over : (told : Option Kept) → HasTold told from number old before → IfSome told (λ kept. Tells false old.length (processed kept) old.live live before after) → IfSome told (λ kept. after ≡ changes_between from count (processed kept))
      over None so step = tt
      over (Some kept) so step =
          let past = step.0 in
          let here = so.place in
          let rest : length (drop from (processed kept)) ≤ number = omega (arith, past, here, length-drop from (processed kept)) in
          step.2
          ∙ so.told
          ∙ ap (feed_from from (take from (processed kept))) (take_all number (drop from (processed kept)) rest ∙ sym (take_all count (drop from (processed kept)) (omega (arith, rest, below))))

  pub told_still : PastFits told (record { live = live; length = old.length; walk = old.walk })
  told_still = over told so told_end
    where
      over : (told : Option Kept) → HasTold told from number old before → IfSome told (λ kept. Tells false old.length (processed kept) old.live live before after) → PastFits told (record { live = live; length = old.length; walk = old.walk })
      over None so step = tt
      over (Some kept) so step = still_past (processed kept) old live step.1 so.fits

pub told_all : (told : Option Kept) (from number count : ℕ) (past : Past) (events : List Event) → number ≡ count → HasTold told from number past events → IfSome told (λ kept. events ≡ changes_between from count (processed kept))
told_all None from number count past events is so = tt
told_all (Some kept) from number count past events is so = so.told ∙ ap (λ n. changes_between from n (processed kept)) is

pub told_fits : (told : Option Kept) (from number : ℕ) (past : Past) (events : List Event) → HasTold told from number past events → PastFits told past
told_fits None from number past events so = tt
told_fits (Some kept) from number past events so = so.fits
