-- What is kept of a replica's past is of the blocks that it has processed.
use Rattle.std.proofs.Common.{◌≡◌, ◌<◌, ◌+◌, ◌++◌, ℕ, arith, List, Option, Some, None, length, length-append, take, sym, ◌∙◌, subst}
use Rattle.std.specs.Prelude.{IfSome}
use Rattle.std.specs.List.{list_any}
use Rattle.std.proofs.lemmas.Bool.{or_parts}
use Rattle.std.proofs.lemmas.List.{take-append-le}
use Rattle.std.proofs.lemmas.List.Folds.{list_any-append}
use Rattle.mc_live.specs.Stands.{Stands}
use Rattle.mc_live.specs.declared.live.Live.{Live}
use Rattle.mc_model.specs.Kept.{processed}
use Rattle.mc_model.specs.declared.block.Block.{Block}
use Rattle.mc_past.specs.Pasts.{IsPast, IsWalkOf, PastsStayFit}
use Rattle.mc_past.specs.declared.past.Past.{Past}
use Rattle.mc_past.specs.declared.past.Walk.{Walk}
use Rattle.mc_view.specs.Reach.{AreOf}

-- what fits goes on fitting

are_of_more : (blocks more visited : List Block) → AreOf blocks visited → AreOf (blocks ++ more) visited
are_of_more blocks more visited all test none =
    let parts = or_parts (list_any test blocks) (list_any test more) (sym (list_any-append test blocks more) ∙ none) in
    all test parts.0

walk_stays : (blocks more : List Block) (walk : Option Walk) → IfSome walk (IsWalkOf blocks) → IfSome walk (IsWalkOf (blocks ++ more))
walk_stays blocks more None is = tt
walk_stays blocks more (Some walk) is = record { visited = is.visited; skipped = is.skipped; is = is.is; of_all = are_of_more blocks more is.visited is.of_all }

pub past_stays : PastsStayFit
past_stays old new past more grown fits =
    subst (λ (blocks : List Block). IsPast blocks past) (sym grown) (record {
      values = subst (λ (blocks : List Block). Stands blocks past.live) (sym (take-append-le past.length (processed old) more fits.within)) fits.values;
      within = omega (arith, fits.within, length-append (processed old) more);
      walked = walk_stays (processed old) more past.walk fits.walked;
    })

-- the values of one block more
pub one_on : (blocks : List Block) (old : Past) (live : Live) (place : ℕ) → place ≡ old.length + 1 → old.length < length blocks → Stands (take place blocks) live → IsPast blocks old → IsPast blocks (record { live = live; length = place; walk = old.walk })
one_on blocks old live place next within stands fits = record { values = stands; within = omega (arith, next, within); walked = fits.walked }

-- the same values, as another value
pub still_past : (blocks : List Block) (old : Past) (live : Live) → live ≡ old.live → IsPast blocks old → IsPast blocks (record { live = live; length = old.length; walk = old.walk })
still_past blocks old live same fits = record { values = subst (Stands (take old.length blocks)) (sym same) fits.values; within = fits.within; walked = fits.walked }
