-- Blocks that are stored alone.
use Rattle.std.proofs.Common.{◌≡◌, Bool, true, false, not, cond, ◌||◌, List, [], ◌∷◌, ◌++◌, map, Option, Some, None, refl, sym, ap, ◌∙◌, subst, ◌≤◌, arith}
use Rattle.std.specs.Prelude.{IfSome, fold}
use Rattle.std.specs.List.{list_all, list_any}
use Rattle.std.proofs.lemmas.List.Folds.{list_any-append}
use Rattle.mc_base.specs.declared.cid.Cid.{Cid}
use Rattle.std.proofs.lemmas.List.Sums.{fold-append}
use Rattle.mc_block.specs.declared.verified.Verified.{Verified}
use Rattle.mc_model.specs.declared.block.Stored.{Stored}
use Rattle.mc_model.specs.Front.{same_cid}
use Rattle.mc_model.specs.Graph.{has, in_graph, times}
use Rattle.mc_model.specs.Kept.{Kept, cids_of, is_stored}
use Rattle.mc_model.specs.State.{durable_of, vertices}
use Rattle.mc_model.specs.Ascending.{is_once}
use Rattle.mc_model.specs.Offer.{is_good}
use Rattle.mc_model.proofs.Blocks.{in_graph_stored, once_times}
use Rattle.mc_model.proofs.Counts.{cid_is, times_none, times-append}
use Rattle.mc_inbox.specs.Waiting.{as_stored}
use Rattle.mc_keep.specs.Tables.{ChangesFit}
use Rattle.mc_plan.proofs.UptakeFacts.{StoringLaw}
use Rattle.mc_group.specs.Planning.{storing}
use Rattle.mc_group.specs.Storing.{unstored, with_new}

-- one that is among them already
pub seen_stays : (told : Option Kept) (new : List Stored) (item : Stored) → has item.cid (cids_of new) ≡ true → IfSome told (λ kept. new ≡ with_new (durable_of kept).graph new item)
seen_stays None new item seen = tt
seen_stays (Some kept) new item seen = rw seen refl

-- one that is new
pub new_comes : (told : Option Kept) (new more : List Stored) (item : Stored) (found : Bool) → has item.cid (cids_of new) ≡ false → found ≡ false → IfSome told (λ kept. found ≡ in_graph (durable_of kept).graph item.cid) → more ≡ new ++ item ∷ []
    → IfSome told (λ kept. more ≡ with_new (durable_of kept).graph new item)
new_comes None new more item found unseen is row made = tt
new_comes (Some kept) new more item found unseen is row made = made ∙ (rw (unseen, sym row ∙ is) refl)

-- one block more was looked at
pub one_more : (told mid : Option Kept) (before : List Verified) (block : Verified) (stores more : List Stored) → mid ≡ told → IfSome told (λ kept. stores ≡ unstored (durable_of kept).graph (map as_stored before))
    → IfSome mid (λ kept. more ≡ with_new (durable_of kept).graph stores (as_stored block)) → IfSome told (λ kept. more ≡ unstored (durable_of kept).graph (map as_stored (before ++ block ∷ [])))
one_more None mid before block stores more same are next = tt
one_more (Some kept) mid before block stores more same are next =
    let step : more ≡ with_new (durable_of kept).graph stores (as_stored block) = subst (λ (told : Option Kept). IfSome told (λ kept. more ≡ with_new (durable_of kept).graph stores (as_stored block))) same next in
    step
    ∙ ap (λ (s : List Stored). with_new (durable_of kept).graph s (as_stored block)) are
    ∙ sym (fold-append (with_new (durable_of kept).graph) [] (map as_stored before) (as_stored block ∷ []))
    ∙ ap (unstored (durable_of kept).graph) (sym (mapped before))
  where
    mapped : (before : List Verified) → map as_stored (before ++ block ∷ []) ≡ map as_stored before ++ as_stored block ∷ []
    mapped [] = refl
    mapped (b ∷ before) = ap (λ z. as_stored b ∷ z) (mapped before)

-- what is stored alone is new, and stands there once
module _ (graph : List Stored) where
  abbrev FitsSo : List Stored → Type 0
  FitsSo stores = (list_any (λ (stored : Stored). is_stored graph stored.cid) stores ≡ false) × ((c : Cid) → times c (cids_of stores) ≤ 1)

  -- one more comes only where it fits
  fits_more : (stores : List Stored) (item : Stored) → FitsSo stores → FitsSo (with_new (vertices graph) stores item)
  fits_more stores item fits = by (has item.cid (cids_of stores)) refl (in_graph (vertices graph) item.cid) refl
    where
      by : (seen : Bool) → has item.cid (cids_of stores) ≡ seen → (there : Bool) → in_graph (vertices graph) item.cid ≡ there → FitsSo (cond (seen || there) stores (stores ++ item ∷ []))
      by true s there t = fits
      by false s true t = fits
      by false s false t = (new, once)
        where
          new : list_any (λ (stored : Stored). is_stored graph stored.cid) (stores ++ item ∷ []) ≡ false
          new = list_any-append (λ (stored : Stored). is_stored graph stored.cid) stores (item ∷ []) ∙ (λ i. fits.0 i || ((sym (in_graph_stored graph item.cid) ∙ t) i || false))

          once : (c : Cid) → times c (cids_of (stores ++ item ∷ [])) ≤ 1
          once c = subst (λ (cids : List Cid). times c cids ≤ 1) (sym (cids_more stores)) (at (same_cid c item.cid) refl)
            where
              cids_more : (stores : List Stored) → cids_of (stores ++ item ∷ []) ≡ cids_of stores ++ item.cid ∷ []
              cids_more [] = refl
              cids_more (s ∷ stores) = ap (λ z. s.cid ∷ z) (cids_more stores)

              at : (same : Bool) → same_cid c item.cid ≡ same → times c (cids_of stores ++ item.cid ∷ []) ≤ 1
              at true e =
                  let none : times c (cids_of stores) ≡ 0 = times_none c (cids_of stores) (ap (λ (d : Cid). has d (cids_of stores)) (cid_is c item.cid e) ∙ s) in
                  let last : times c (item.cid ∷ []) ≡ 1 = ap (λ b. cond b 1 0) e in
                  omega (arith, none, last, times-append c (cids_of stores) (item.cid ∷ []))
              at false e =
                  let before = fits.1 c in
                  let last : times c (item.cid ∷ []) ≡ 0 = ap (λ b. cond b 1 0) e in
                  omega (arith, before, last, times-append c (cids_of stores) (item.cid ∷ []))

  fits_all : (items stores : List Stored) → FitsSo stores → FitsSo (fold (with_new (vertices graph)) stores items)
  fits_all [] stores fits = fits
  fits_all (item ∷ items) stores fits = fits_all items (with_new (vertices graph) stores item) (fits_more stores item fits)

  pub unstored_fits : (items : List Stored) → FitsSo (unstored (vertices graph) items)
  unstored_fits items = fits_all items [] (refl, λ c. omega arith)

-- so it may be committed
pub storing_fits : StoringLaw → (told : Option Kept) (stores : List Stored) (items : List Stored) → list_all (λ (item : Stored). is_good item.cid item.bytes) stores ≡ true → IfSome told (λ kept. stores ≡ unstored (durable_of kept).graph items)
    → IfSome told (λ kept. ChangesFit kept (storing stores))
storing_fits law None stores items good are = tt
storing_fits law (Some kept) stores items good are =
    let fits = unstored_fits kept.graph items in
    law kept stores (record {
      good = good;
      new = ap (list_any (λ (stored : Stored). is_stored kept.graph stored.cid)) are ∙ fits.0;
      once = ap (λ (s : List Stored). is_once same_cid (cids_of s)) are ∙ once_times (cids_of (unstored (vertices kept.graph) items)) fits.1;
    })
