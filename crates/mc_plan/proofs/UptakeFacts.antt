-- What an uptake needs for its commits.
use Rattle.std.proofs.Common.{◌≡◌, ℕ, Bool, true, false, not, cond, filter, ◌&&◌, ◌||◌, List, [], ◌∷◌, ◌++◌, map, Option, Some, None, Ok, refl, sym, ◌∙◌, ap, subst}
use Rattle.std.specs.Prelude.{IfSome, unwrap_or, is_some, find, length, ◌==◌}
use Rattle.std.specs.List.{list_all}
use Rattle.std.specs.Option.{option_map}
use Rattle.std.specs.Result.{is_ok, result_ok}
use Rattle.std.proofs.lemmas.List.{append-nil, map-append}
use Rattle.std.proofs.lemmas.Slice.Eq.{bytes_eq-Decides}
use Rattle.std.proofs.lemmas.Bool.{and_parts}
use Rattle.mc_base.specs.declared.cid.Cid.{Cid}
use Rattle.mc_model.specs.declared.block.Block.{Block}
use Rattle.mc_model.specs.declared.block.Stored.{Stored}
use Rattle.mc_model.specs.Events.{processed_mark, processed_queue}
use Rattle.mc_model.specs.Front.{same_cid, is_among, gaps, links}
use Rattle.mc_model.specs.Graph.{has, all_links}
use Rattle.mc_model.specs.Kept.{Kept, IsKept, processed, blocks_in, block_in, block_under, bytes_at, is_stored}
use Rattle.mc_model.specs.Offer.{offer, block_of, empty_delta}
use Rattle.mc_model.specs.State.{durable_of}
use Rattle.mc_model.specs.Wanted.{Queue, want_all, want_unless, without}
use Rattle.mc_plan.specs.declared.uptakes.After.{After}
use Rattle.mc_keep.specs.declared.changes.Changes.{Changes}
use Rattle.mc_keep.specs.Changes.{changed, no_changes, row_count}
use Rattle.mc_keep.specs.New.{AreNew}
use Rattle.mc_keep.specs.Tables.{StoreFits, MarksFit, RowsFit, FrontFits, ChangesFit}
use Rattle.mc_front.specs.Front.{mark_over}
use Rattle.mc_plan.specs.declared.uptakes.Uptake.{Uptake}
use Rattle.mc_plan.specs.Uptakes.{IsNew, Processes, IsUptake, IsSomeUptake, IsReady, IsShaped, store_change, open_links, wants}
use Rattle.mc_plan.proofs.KnownFacts.{known_is}

-- the laws of the crates below that are used here

abbrev pub FitLaw : Type 0
FitLaw = (kept : Kept) (blocks : List Block) (changes : Changes) → changes.store ≡ [] → changes.marks ≡ map (λ (block : Block). block.cid) blocks → AreNew kept blocks
    → list_all (is_stored kept.graph) (map (λ (block : Block). block.cid) blocks) ≡ true → blocks_in kept.graph (map (λ (block : Block). block.cid) blocks) ≡ blocks
    → RowsFit (processed kept) blocks changes → FrontFits (processed kept) blocks changes → (changes.two ≡ false) × (changes.upto ≡ None) → ChangesFit kept changes

abbrev pub SoundLaw : Type 0
SoundLaw = (kept : Kept) (changes : Changes) → IsKept kept → StoreFits kept changes → MarksFit kept changes → IsKept (changed kept changes)

abbrev pub MarkLaw : Type 0
MarkLaw = (kept : Kept) (cids : List Cid) → IsKept (record { graph = kept.graph; order = kept.order ++ cids; mark = kept.mark })
    → processed_mark true (durable_of kept) (kept.order ++ cids) ≡ not (length (gaps (blocks_in kept.graph (kept.order ++ cids))) == 0)

abbrev pub LinksLaw : Type 0
LinksLaw = (kept : Kept) (cids : List Cid) → list_all (is_stored kept.graph) cids ≡ true → all_links (durable_of kept).graph cids ≡ links (blocks_in kept.graph cids)

abbrev with_order : Kept → List Stored → List Cid → Kept
with_order kept graph cids = record { graph = graph; order = kept.order ++ cids; mark = kept.mark }

abbrev marking : List Cid → Changes
marking cids = record no_changes { marks = cids }

module _ (fit_law : FitLaw) (sound_law : SoundLaw) (mark_law : MarkLaw) (links_law : LinksLaw) where
  more_processed : (kept : Kept) (blocks : List Block) → IsKept kept → AreNew kept blocks
      → list_all (is_stored kept.graph) (map (λ (block : Block). block.cid) blocks) ≡ true → IsKept (with_order kept kept.graph (map (λ (block : Block). block.cid) blocks))
  more_processed kept blocks sound new stored =
      let cids : List Cid = map (λ (block : Block). block.cid) blocks in
      subst (λ graph. IsKept (with_order kept graph cids)) (append-nil kept.graph)
      (sound_law kept (marking cids) sound (record { good = refl; new = refl; once = refl })
      (record { stored = ap (λ graph. list_all (is_stored graph) cids) (append-nil kept.graph) ∙ stored; new = new.1; once = new.0 }))

  mark_fits : (kept : Kept) (whole : Bool) (blocks : List Block) (changes : Changes) → IsKept kept → AreNew kept blocks
      → list_all (is_stored kept.graph) (map (λ (block : Block). block.cid) blocks) ≡ true → blocks_in kept.graph (map (λ (block : Block). block.cid) blocks) ≡ blocks
      → unwrap_or changes.mark kept.mark ≡ mark_over whole kept.mark (processed kept ++ blocks)
      → unwrap_or changes.mark kept.mark ≡ processed_mark whole (durable_of kept) (kept.order ++ map (λ (block : Block). block.cid) blocks)
  mark_fits kept false blocks changes sound new stored are mark = mark
  mark_fits kept true blocks changes sound new stored are mark =
      let cids : List Cid = map (λ (block : Block). block.cid) blocks in
      mark
      ∙ ap (λ b. not (length (gaps b) == 0)) (sym (map-append (block_in kept.graph) kept.order cids ∙ ap (λ b. processed kept ++ b) are))
      ∙ sym (mark_law kept cids (more_processed kept blocks sound new stored))

  -- what is processed then
  processed_then : (kept : Kept) (blocks : List Block) (changes : Changes) → changes.store ≡ [] → changes.marks ≡ map (λ (block : Block). block.cid) blocks
      → blocks_in kept.graph (map (λ (block : Block). block.cid) blocks) ≡ blocks → processed (changed kept changes) ≡ processed kept ++ blocks
  processed_then kept blocks changes only marks are =
      ap (λ (s : List Stored). blocks_in (kept.graph ++ s) (kept.order ++ changes.marks)) only
      ∙ ap (λ (graph : List Stored). blocks_in graph (kept.order ++ changes.marks)) (append-nil kept.graph)
      ∙ ap (λ (cids : List Cid). blocks_in kept.graph (kept.order ++ cids)) marks
      ∙ map-append (block_in kept.graph) kept.order (map (λ (block : Block). block.cid) blocks)
      ∙ ap (λ b. processed kept ++ b) are

  pub ready : (kept : Kept) (whole : Bool) (blocks : List Block) (changes : Changes) (after : After) → IsKept kept → AreNew kept blocks
      → list_all (is_stored kept.graph) (map (λ (block : Block). block.cid) blocks) ≡ true → blocks_in kept.graph (map (λ (block : Block). block.cid) blocks) ≡ blocks
      → Processes kept whole blocks (map (λ (block : Block). block.cid) blocks) changes → after.gaps ≡ length (gaps (processed kept ++ blocks))
      → ((q : Queue) → processed_queue (durable_of kept) q (map (λ (block : Block). block.cid) blocks) ≡ wants (without q (map (λ (block : Block). block.cid) blocks)) after.links)
      → IsReady kept whole changes after
  ready kept whole blocks changes after sound new stored are p left wanted = record {
    fits = fit_law kept blocks changes p.only p.marks new stored are p.rows p.front p.ordinary;
    mark = mark_fits kept whole blocks changes sound new stored are p.mark ∙ ap (λ cids. processed_mark whole (durable_of kept) (kept.order ++ cids)) (sym p.marks);
    gaps_left = left ∙ ap (λ b. length (gaps b)) (sym (processed_then kept blocks changes p.only p.marks are));
    wanted = subst (λ cids. (q : Queue) → processed_queue (durable_of kept) q cids ≡ wants (without q cids) after.links) (sym p.marks) wanted;
  }

  -- only the links that are not processed are wanted
  wants_open : (order : List Cid) (q : Queue) (cids : List Cid) → want_all order q cids ≡ wants q (filter (λ c. not (has c order)) cids)
  wants_open order q [] = refl
  wants_open order q (c ∷ cids) =
      elim (has c order) as (λ t. want_all order (want_unless t q c) cids ≡ wants q (cond (not t) (c ∷ filter (λ d. not (has d order)) cids) (filter (λ d. not (has d order)) cids))) [
        | true ↦ wants_open order q cids
        | false ↦ wants_open order (want_unless false q c) cids
      ]

  pub one_wants : (kept : Kept) (block : Block) (links_left : List Cid) → list_all (is_stored kept.graph) (block.cid ∷ []) ≡ true → blocks_in kept.graph (block.cid ∷ []) ≡ block ∷ []
      → links_left ≡ open_links kept block → (q : Queue) → processed_queue (durable_of kept) q (block.cid ∷ []) ≡ wants (without q (block.cid ∷ [])) links_left
  one_wants kept block links_left stored are linked q =
      ap (λ cids. want_all (kept.order ++ block.cid ∷ []) (without q (block.cid ∷ [])) cids) (links_law kept (block.cid ∷ []) stored ∙ ap links are ∙ append-nil block.links)
      ∙ wants_open (kept.order ++ block.cid ∷ []) (without q (block.cid ∷ [])) block.links
      ∙ ap (wants (without q (block.cid ∷ []))) (sym linked)

-- a stored block is the one that its bytes are

is_block : (block : Block) (bytes : List ℕ) → offer block.cid bytes ≡ Ok block → block_of block.cid bytes ≡ block
is_block block bytes good = ap (λ r. unwrap_or (result_ok r) (record { cid = block.cid; links = []; delta = empty_delta })) good

pub one_stored : (graph : List Stored) (block : Block) (bytes : List ℕ) → bytes_at graph block.cid ≡ Some bytes → list_all (is_stored graph) (block.cid ∷ []) ≡ true
one_stored graph block bytes at = ap (λ b. is_some b && true) at

pub one_block : (graph : List Stored) (block : Block) (bytes : List ℕ) → bytes_at graph block.cid ≡ Some bytes → offer block.cid bytes ≡ Ok block → blocks_in graph (block.cid ∷ []) ≡ block ∷ []
one_block graph block bytes at good = ap (λ b. block_under block.cid b ∷ []) at ∙ ap (λ b. b ∷ []) (is_block block bytes good)

pub one_new : (kept : Kept) (block : Block) → is_among kept.order block.cid ≡ false → AreNew kept (block ∷ [])
one_new kept block new = (refl, ap (λ b. b || false) new)

-- the bytes that are stored now
pub stored_now : (graph : List Stored) (cid : Cid) (bytes : List ℕ) → is_stored graph cid ≡ false → bytes_at (graph ++ record { cid = cid; bytes = bytes } ∷ []) cid ≡ Some bytes
stored_now [] cid bytes e = ap (λ t. option_map (λ (stored : Stored). stored.bytes) (cond t (Some (record { cid = cid; bytes = bytes })) None)) ((bytes_eq-Decides cid.0 cid.0).1 refl)
stored_now (s ∷ graph) cid bytes e =
    elim (same_cid cid s.cid) as (λ t. is_some (option_map (λ (stored : Stored). stored.bytes) (cond t (Some s) (find (λ (stored : Stored). same_cid cid stored.cid) graph))) ≡ false
    → option_map (λ (stored : Stored). stored.bytes) (cond t (Some s) (find (λ (stored : Stored). same_cid cid stored.cid) (graph ++ record { cid = cid; bytes = bytes } ∷ []))) ≡ Some bytes) [
      | true ↦ λ h. absurd (let f : true ≡ false = h in cc)
      | false ↦ λ h. stored_now graph cid bytes h
    ] e

abbrev pub StoringLaw : Type 0
StoringLaw = (kept : Kept) (stored : List Stored) → StoreFits kept (record no_changes { store = stored }) → ChangesFit kept (record no_changes { store = stored })

abbrev pub StoredLaw : Type 0
StoredLaw = (kept : Kept) (stored : List Stored) → changed kept (record no_changes { store = stored }) ≡ record { graph = kept.graph ++ stored; order = kept.order; mark = kept.mark }

abbrev pub SameLaw : Type 0
SameLaw = (kept : Kept) (stored : List Stored) → IsKept kept → processed (changed kept (record no_changes { store = stored })) ≡ processed kept

abbrev storing : Cid → List ℕ → Changes
storing cid bytes = record no_changes { store = record { cid = cid; bytes = bytes } ∷ [] }

abbrev pub Both : Bool → Changes → After → Kept → Type 0
Both whole process after kept = IsReady kept whole process after

process_of : (old new : Kept) (whole : Bool) (blocks : List Block) (cids : List Cid) (changes : Changes) → new.mark ≡ old.mark → processed new ≡ processed old
    → Processes old whole blocks cids changes → Processes new whole blocks cids changes
process_of old new whole blocks cids changes mark same p = record {
  only = p.only;
  marks = p.marks;
  rows = subst (λ b. RowsFit b blocks changes) (sym same) p.rows;
  ordinary = p.ordinary;
  front = subst (λ b. FrontFits b blocks changes) (sym same) p.front;
  mark = ap (λ m. unwrap_or changes.mark m) mark ∙ p.mark ∙ ap (λ m. mark_over whole m (processed old ++ blocks)) (sym mark) ∙ ap (λ b. mark_over whole new.mark (b ++ blocks)) (sym same);
}

some_is : (x y : Changes) → Some x ≡ Some y → x ≡ y
some_is x y e = ap (λ o. unwrap_or o no_changes) e

module _ (fit_law : FitLaw) (sound_law : SoundLaw) (mark_law : MarkLaw) (links_law : LinksLaw) (storing_law : StoringLaw) (stored_law : StoredLaw) (same_law : SameLaw) where
  -- a stored block that is to be processed
  both_stored : (kept : Kept) (whole : Bool) (block : Block) (bytes : List ℕ) (process : Changes) (after : After) → IsKept kept → offer block.cid bytes ≡ Ok block → is_among kept.order block.cid ≡ false
      → after.links ≡ open_links kept block → after.gaps ≡ length (gaps (processed kept ++ block ∷ [])) → bytes_at kept.graph block.cid ≡ Some bytes → Processes kept whole (block ∷ []) (block.cid ∷ []) process
      → Both whole process after kept
  both_stored kept whole block bytes process after sound good new linked left at p =
      let stored = one_stored kept.graph block bytes at in
      let are = one_block kept.graph block bytes at good in
      ready fit_law sound_law mark_law links_law kept whole (block ∷ []) process after sound (one_new kept block new) stored are p left
      (one_wants fit_law sound_law mark_law links_law kept block after.links stored are linked)

  store_ready : (kept : Kept) (whole : Bool) (block : Block) (bytes : List ℕ) (process : Changes) (after : After) → IsKept kept → IsNew kept block bytes after.links → is_stored kept.graph block.cid ≡ false
      → Processes kept whole (block ∷ []) (block.cid ∷ []) process → after.gaps ≡ length (gaps (processed kept ++ block ∷ []))
      → ChangesFit kept (storing block.cid bytes) × Both whole process after (changed kept (storing block.cid bytes))
  store_ready kept whole block bytes process after sound n unstored p left =
      let s : List Stored = record { cid = block.cid; bytes = bytes } ∷ [] in
      let then : Kept = record { graph = kept.graph ++ s; order = kept.order; mark = kept.mark } in
      let store : StoreFits kept (record no_changes { store = s }) = record { good = ap (λ r. is_ok r && true) n.good; new = ap (λ b. b || false) unstored; once = refl } in
      let sound_then : IsKept then = subst IsKept (stored_law kept s) (sound_law kept (record no_changes { store = s }) sound store (record { stored = refl; new = refl; once = refl })) in
      let same : processed then ≡ processed kept = ap processed (sym (stored_law kept s)) ∙ same_law kept s sound in (
        storing_law kept s store,
        subst (Both whole process after) (sym (stored_law kept s))
            (both_stored then whole block bytes process after sound_then n.good n.new n.linked (left ∙ ap (λ b. length (gaps (b ++ block ∷ []))) (sym same)) (stored_now kept.graph block.cid bytes unstored)
            (process_of kept then whole (block ∷ []) (block.cid ∷ []) process refl same p)),
      )

  pub plan_stores : (kept : Kept) (whole : Bool) (store process : Changes) (after : After) → IsKept kept → IsSomeUptake kept whole (record { store = Some store; process = process; after = after })
      → ChangesFit kept store × Both whole process after (changed kept store)
  plan_stores kept whole store process after sound uptake =
      elim (is_stored kept.graph uptake.block.cid) as (λ t. is_stored kept.graph uptake.block.cid ≡ t → Some store ≡ cond t None (Some (storing uptake.block.cid uptake.bytes)) → ChangesFit kept store × Both whole process after (changed kept store)) [
        | true ↦ λ e is. absurd (let f : true ≡ false = ap is_some is in cc)
        | false ↦ λ e is. subst (λ x. ChangesFit kept x × Both whole process after (changed kept x)) (sym (some_is store (storing uptake.block.cid uptake.bytes) is))
            (store_ready kept whole uptake.block uptake.bytes process after sound uptake.plans.block_is_new e uptake.plans.process uptake.plans.gaps_left)
      ] refl uptake.plans.store

  pub plan_has_stored : (kept : Kept) (whole : Bool) (process : Changes) (after : After) → IsKept kept → IsSomeUptake kept whole (record { store = None; process = process; after = after }) → Both whole process after kept
  plan_has_stored kept whole process after sound uptake =
      elim (is_stored kept.graph uptake.block.cid) as (λ t. is_stored kept.graph uptake.block.cid ≡ t → None ≡ cond t None (Some (storing uptake.block.cid uptake.bytes)) → Both whole process after kept) [
        | true ↦ λ e is. both_stored kept whole uptake.block uptake.bytes process after sound uptake.plans.block_is_new.good uptake.plans.block_is_new.new uptake.plans.block_is_new.linked uptake.plans.gaps_left
            (known_is (bytes_at kept.graph uptake.block.cid) uptake.bytes e uptake.plans.block_is_new.known) uptake.plans.process
        | false ↦ λ e is. absurd (let f : false ≡ true = ap is_some is in cc)
      ] refl uptake.plans.store

-- where it is told

abbrev storing_pub : Cid → List ℕ → Changes
storing_pub cid bytes = record no_changes { store = record { cid = cid; bytes = bytes } ∷ [] }

module _ (fit_law : FitLaw) (sound_law : SoundLaw) (mark_law : MarkLaw) (links_law : LinksLaw) (storing_law : StoringLaw) (stored_law : StoredLaw) (same_law : SameLaw) where
  pub told_fits : (told : Option Kept) (whole : Bool) (uptake : Uptake) (store : Changes) → uptake.store ≡ Some store → IfSome told IsKept → IfSome told (λ kept. IsSomeUptake kept whole uptake) → IfSome told (λ kept. ChangesFit kept store)
  told_fits None whole uptake store is sound p = tt
  told_fits (Some kept) whole uptake store is sound p =
      (plan_stores fit_law sound_law mark_law links_law storing_law stored_law same_law kept whole store uptake.process uptake.after sound
      (subst (λ s. IsSomeUptake kept whole (record { store = s; process = uptake.process; after = uptake.after })) is p)).0

  pub told_stores : (told : Option Kept) (whole : Bool) (uptake : Uptake) (store : Changes) → uptake.store ≡ Some store → IfSome told IsKept → IfSome told (λ kept. IsSomeUptake kept whole uptake) → IfSome told (λ kept. Both whole uptake.process uptake.after (changed kept store))
  told_stores None whole uptake store is sound p = tt
  told_stores (Some kept) whole uptake store is sound p =
      (plan_stores fit_law sound_law mark_law links_law storing_law stored_law same_law kept whole store uptake.process uptake.after sound
      (subst (λ s. IsSomeUptake kept whole (record { store = s; process = uptake.process; after = uptake.after })) is p)).1

  pub told_known : (told : Option Kept) (whole : Bool) (uptake : Uptake) → uptake.store ≡ None → IfSome told IsKept → IfSome told (λ kept. IsSomeUptake kept whole uptake) → IfSome told (Both whole uptake.process uptake.after)
  told_known None whole uptake is sound p = tt
  told_known (Some kept) whole uptake is sound p =
      plan_has_stored fit_law sound_law mark_law links_law storing_law stored_law same_law kept whole uptake.process uptake.after sound
      (subst (λ s. IsSomeUptake kept whole (record { store = s; process = uptake.process; after = uptake.after })) is p)

-- what only stores leaves what is processed
pub stores_only : ((kept : Kept) (stored : List Stored) → IsKept kept → processed (changed kept (record no_changes { store = stored })) ≡ processed kept) → (told : Option Kept) (store : Changes) → IfSome told IsKept → store.marks ≡ []
    → (kept : Kept) → told ≡ Some kept → processed (changed kept store) ≡ processed kept
stores_only same told store sound none kept e =
    ap (λ (cids : List Cid). blocks_in (kept.graph ++ store.store) (kept.order ++ cids)) none ∙ same kept store.store (subst (λ t. IfSome t IsKept) e sound)
