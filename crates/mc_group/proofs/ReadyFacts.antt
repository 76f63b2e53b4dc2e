-- A group is ready for its commits.
use Rattle.std.proofs.Common.{◌≡◌, ◌≢◌, ℕ, ◌+◌, ◌≤◌, Bool, true, false, not, cond, ◌&&◌, ◌||◌, List, [], ◌∷◌, ◌++◌, length, map, filter, Option, Some, None, refl, sym, ap, ◌∙◌, subst, arith}
use Rattle.std.specs.Prelude.{IfSome, unwrap_or, is_some, find}
use Rattle.std.specs.List.{list_all, list_any, flat_map}
use Rattle.std.specs.Option.{option_map, option_or}
use Rattle.std.proofs.lemmas.Bool.{and_parts, or_left, or_right, or_cases, false≢true}
use Rattle.std.proofs.lemmas.List.{append-nil, append_assoc}
use Rattle.mc_base.specs.declared.cid.Cid.{Cid}
use Rattle.mc_model.specs.declared.block.Block.{Block}
use Rattle.mc_model.specs.declared.block.Stored.{Stored}
use Rattle.mc_model.specs.Ascending.{is_once}
use Rattle.mc_model.specs.Events.{processed_queue}
use Rattle.mc_model.specs.Front.{same_cid, is_among, gaps, links}
use Rattle.mc_model.specs.Graph.{has, in_graph, times}
use Rattle.mc_model.specs.Kept.{Kept, IsKept, block_in, block_under, blocks_in, bytes_at, cids_of, is_stored, processed}
use Rattle.mc_model.specs.Offer.{block_of, is_good}
use Rattle.mc_model.specs.State.{durable_of}
use Rattle.mc_model.specs.Wanted.{Queue, IsOnce, want_all, want_unless, without}
use Rattle.mc_model.proofs.Blocks.{in_graph_stored, once_times}
use Rattle.mc_model.proofs.Counts.{cid_is, cid_itself, has_all, has_times, has-append, same_cid-symm, times_has, times_none}
use Rattle.mc_model.proofs.Held.{in_parts}
use Rattle.mc_keep.specs.declared.changes.Changes.{Changes}
use Rattle.mc_keep.specs.Changes.{changed, no_changes}
use Rattle.mc_keep.specs.New.{AreNew}
use Rattle.mc_keep.specs.Tables.{ChangesFit, FrontFits, RowsFit, StoreFits}
use Rattle.mc_front.specs.Front.{mark_over}
use Rattle.mc_inbox.specs.Groups.{group_of, to_store}
use Rattle.mc_inbox.proofs.GroupFacts.{all_stored, good_group, good_store, group_flight, group_once, store_within}
use Rattle.mc_plan.specs.Uptakes.{Processes, wants}
use Rattle.mc_plan.proofs.UptakeFacts.{FitLaw, LinksLaw, MarkLaw, SameLaw, SoundLaw, StoredLaw, StoringLaw, ready}
use Rattle.mc_group.specs.declared.group.Slot.{Slot}
use Rattle.mc_group.specs.Gathering.{IsGroup, IsGroupOver, block_at, items_of, picked, stores_in}
use Rattle.mc_group.specs.Planning.{AreReady, open_among, open_links, storing}

-- what is stored after more is stored

bytes_more : (graph more : List Stored) (c : Cid) → bytes_at (graph ++ more) c ≡ option_or (bytes_at graph c) (bytes_at more c)
bytes_more [] more c = refl
bytes_more (s ∷ graph) more c =
    elim (same_cid c s.cid) as (λ t. option_map (λ (stored : Stored). stored.bytes) (cond t (Some s) (find (λ (stored : Stored). same_cid c stored.cid) (graph ++ more)))
    ≡ option_or (option_map (λ (stored : Stored). stored.bytes) (cond t (Some s) (find (λ (stored : Stored). same_cid c stored.cid) graph))) (bytes_at more c)) [
      | true ↦ refl
      | false ↦ bytes_more graph more c
    ]

stored_more : (graph more : List Stored) (c : Cid) → is_stored (graph ++ more) c ≡ (is_stored graph c || is_stored more c)
stored_more graph more c = ap is_some (bytes_more graph more c) ∙ either (bytes_at graph c) (bytes_at more c)
  where
    either : (a b : Option (List ℕ)) → is_some (option_or a b) ≡ (is_some a || is_some b)
    either None b = refl
    either (Some x) b = refl

module _ (kept : Kept) where
  -- the bytes of an item, once what is new of a group is stored
  abbrev then_at : List Stored → Stored → Block
  then_at stores item = block_under item.cid (option_or (bytes_at kept.graph item.cid) (bytes_at stores item.cid))

  -- one that has another identifier is not seen
  skips : (x : Stored) (stores rest : List Stored) → times x.cid (cids_of rest) ≡ 0 → map (then_at (x ∷ stores)) rest ≡ map (then_at stores) rest
  skips x stores [] none = refl
  skips x stores (y ∷ rest) none = by_test (skips x stores rest) (same_cid x.cid y.cid) refl none
    where
      by_test : (times x.cid (cids_of rest) ≡ 0 → map (then_at (x ∷ stores)) rest ≡ map (then_at stores) rest) → (b : Bool) → same_cid x.cid y.cid ≡ b → cond b (1 + times x.cid (cids_of rest)) (times x.cid (cids_of rest)) ≡ 0 → map (then_at (x ∷ stores)) (y ∷ rest) ≡ map (then_at stores) (y ∷ rest)
      by_test ih true s none = absurd (omega (arith, none))
      by_test ih false s none =
          let apart : same_cid y.cid x.cid ≡ false = same_cid-symm y.cid x.cid ∙ s in
          (λ i. block_under y.cid (option_or (bytes_at kept.graph y.cid) (option_map (λ (stored : Stored). stored.bytes) (cond (apart i) (Some x) (find (λ (stored : Stored). same_cid y.cid stored.cid) stores)))) ∷ ih none i)

  -- each block of a group is what is stored of it then
  blocks_then : (group : List Stored) → ((c : Cid) → times c (cids_of group) ≤ 1) → map (then_at (to_store (durable_of kept).graph group)) group ≡ map (block_at kept.graph) group
  blocks_then [] once = refl
  blocks_then (x ∷ group) once = by_test (blocks_then group tail_once) (in_graph (durable_of kept).graph x.cid) refl
    where
      tail_once : (c : Cid) → times c (cids_of group) ≤ 1
      tail_once c = elim (same_cid c x.cid) as (λ t. cond t (1 + times c (cids_of group)) (times c (cids_of group)) ≤ 1 → times c (cids_of group) ≤ 1) [
        | true ↦ λ k. omega (arith, k)
        | false ↦ λ k. k
      ] (once c)

      alone : times x.cid (cids_of group) ≡ 0
      alone =
          let h : times x.cid (x.cid ∷ cids_of group) ≡ 1 + times x.cid (cids_of group) = ap (λ (t : Bool). cond t (1 + times x.cid (cids_of group)) (times x.cid (cids_of group))) (cid_itself x.cid) in
          omega (arith, h, once x.cid)

      stored_same : (b : Option (List ℕ)) (s : Option (List ℕ)) → is_some b ≡ true → block_under x.cid (option_or b s) ≡ block_of x.cid (unwrap_or b x.bytes)
      stored_same None s e = absurd (false≢true e)
      stored_same (Some bytes) s e = refl

      new_same : (b : Option (List ℕ)) → is_some b ≡ false → block_under x.cid (option_or b (Some x.bytes)) ≡ block_of x.cid (unwrap_or b x.bytes)
      new_same None e = refl
      new_same (Some bytes) e = absurd (false≢true (sym e))

      by_test : map (then_at (to_store (durable_of kept).graph group)) group ≡ map (block_at kept.graph) group → (b : Bool) → in_graph (durable_of kept).graph x.cid ≡ b
          → map (then_at (cond b (to_store (durable_of kept).graph group) (x ∷ to_store (durable_of kept).graph group))) (x ∷ group) ≡ map (block_at kept.graph) (x ∷ group)
      by_test ih true e =
          let stored : is_stored kept.graph x.cid ≡ true = sym (in_graph_stored kept.graph x.cid) ∙ e in
          (λ i. stored_same (bytes_at kept.graph x.cid) (bytes_at (to_store (durable_of kept).graph group) x.cid) stored i ∷ ih i)
      by_test ih false e =
          let unstored : is_stored kept.graph x.cid ≡ false = sym (in_graph_stored kept.graph x.cid) ∙ e in
          let s : List Stored = to_store (durable_of kept).graph group in
          let mine : bytes_at (x ∷ s) x.cid ≡ Some x.bytes = ap (λ t. option_map (λ (stored : Stored). stored.bytes) (cond t (Some x) (find (λ (stored : Stored). same_cid x.cid stored.cid) s))) (cid_itself x.cid) in
          let head : then_at (x ∷ s) x ≡ block_at kept.graph x = ap (λ o. block_under x.cid (option_or (bytes_at kept.graph x.cid) o)) mine ∙ new_same (bytes_at kept.graph x.cid) unstored in
          let tail : map (then_at (x ∷ s)) group ≡ map (block_at kept.graph) group = skips x s group alone ∙ ih in
          (λ i. head i ∷ tail i)

  blocks_by_cid : (graph : List Stored) (group : List Stored) → blocks_in graph (cids_of group) ≡ map (λ (item : Stored). block_in graph item.cid) group
  blocks_by_cid graph [] = refl
  blocks_by_cid graph (x ∷ group) = ap (λ xs. block_in graph x.cid ∷ xs) (blocks_by_cid graph group)

  then_is : (stores group : List Stored) → map (λ (item : Stored). block_in (kept.graph ++ stores) item.cid) group ≡ map (then_at stores) group
  then_is stores [] = refl
  then_is stores (x ∷ group) = (λ i. block_under x.cid (bytes_more kept.graph stores x.cid i) ∷ then_is stores group i)

  -- what is new of a group is new
  stores_new : (group : List Stored) → list_any (λ (stored : Stored). is_stored kept.graph stored.cid) (to_store (durable_of kept).graph group) ≡ false
  stores_new [] = refl
  stores_new (x ∷ group) =
      elim (in_graph (durable_of kept).graph x.cid) as (λ b. in_graph (durable_of kept).graph x.cid ≡ b → list_any (λ (stored : Stored). is_stored kept.graph stored.cid) (cond b (to_store (durable_of kept).graph group) (x ∷ to_store (durable_of kept).graph group)) ≡ false) [
        | true ↦ λ e. stores_new group
        | false ↦ λ e. (λ i. (sym (in_graph_stored kept.graph x.cid) ∙ e) i || stores_new group i)
      ] refl

  -- and then all of it is stored
  stored_has : (stores : List Stored) (c : Cid) → is_stored stores c ≡ has c (cids_of stores)
  stored_has [] c = refl
  stored_has (s ∷ stores) c =
      elim (same_cid c s.cid) as (λ t. is_some (option_map (λ (stored : Stored). stored.bytes) (cond t (Some s) (find (λ (stored : Stored). same_cid c stored.cid) stores))) ≡ (t || has c (cids_of stores))) [
        | true ↦ refl
        | false ↦ stored_has stores c
      ]

  all_then : (group : List Stored) (c : Cid) → has c (cids_of group) ≡ true → is_stored (kept.graph ++ to_store (durable_of kept).graph group) c ≡ true
  all_then group c e =
      stored_more kept.graph (to_store (durable_of kept).graph group) c
      ∙ (λ i. sym (in_graph_stored kept.graph c) i || stored_has (to_store (durable_of kept).graph group) c i)
      ∙ all_stored (durable_of kept).graph group c e

  -- a group in flight is not processed
  group_apart : (q : Queue) (items : List Stored) → IsOnce kept.order q → (c : Cid) → has c (cids_of (group_of q.flight items)) ≡ true → is_among kept.order c ≡ false
  group_apart q items once c e = by_test (is_among kept.order c) refl
    where
      by_test : (b : Bool) → is_among kept.order c ≡ b → b ≡ false
      by_test false e2 = refl
      by_test true e2 =
          let there = times_has c (cids_of (group_of q.flight items)) e in
          let ordered = times_has c kept.order e2 in
          absurd (omega (arith, there, ordered, group_flight q.flight items c, in_parts q c, once c))

none_any : (test : Cid → Bool) (cids : List Cid) → ((c : Cid) → has c cids ≡ true → test c ≡ false) → list_any test cids ≡ false
none_any test [] each = refl
none_any test (x ∷ cids) each = (λ i. each x (or_left (same_cid x x) (has x cids) (cid_itself x)) i || none_any test cids (λ c e. each c (or_right (same_cid c x) (has c cids) e)) i)

-- the links that are not processed
open_is : (kept : Kept) (cids : List Cid) (blocks : List Block) → open_links kept cids blocks ≡ filter (λ c. not (has c (kept.order ++ cids))) (links blocks)
open_is kept cids [] = refl
open_is kept cids (b ∷ blocks) = ap (λ rest. open_among kept cids b.links ++ rest) (open_is kept cids blocks) ∙ sym (filter_append (λ c. not (has c (kept.order ++ cids))) b.links (links blocks))
  where
    filter_append : (test : Cid → Bool) (xs ys : List Cid) → filter test (xs ++ ys) ≡ filter test xs ++ filter test ys
    filter_append test [] ys = refl
    filter_append test (x ∷ xs) ys = elim (test x) as (λ t. cond t (x ∷ filter test (xs ++ ys)) (filter test (xs ++ ys)) ≡ cond t (x ∷ filter test xs) (filter test xs) ++ filter test ys) [
      | true ↦ ap (λ rest. x ∷ rest) (filter_append test xs ys)
      | false ↦ filter_append test xs ys
    ]

-- only those are wanted
wants_open : (order : List Cid) (q : Queue) (cids : List Cid) → want_all order q cids ≡ wants q (filter (λ c. not (has c order)) cids)
wants_open order q [] = refl
wants_open order q (c ∷ cids) =
    elim (has c order) as (λ t. want_all order (want_unless t q c) cids ≡ wants q (cond (not t) (c ∷ filter (λ d. not (has d order)) cids) (filter (λ d. not (has d order)) cids))) [
      | true ↦ wants_open order q cids
      | false ↦ wants_open order (want_unless false q c) cids
    ]

-- what stores alone leaves the processed blocks
process_of : (old new : Kept) (whole : Bool) (blocks : List Block) (cids : List Cid) (changes : Changes) → new.mark ≡ old.mark → processed new ≡ processed old
    → Processes old whole blocks cids changes → Processes new whole blocks cids changes
process_of old new whole blocks cids changes mark same p = record {
  only = p.only;
  marks = p.marks;
  rows = subst (λ b. RowsFit b blocks changes) (sym same) p.rows;
  ordinary = p.ordinary;
  front = subst (λ b. FrontFits b blocks changes) (sym same) p.front;
  mark = ap (λ m. unwrap_or changes.mark m) mark ∙ p.mark ∙ ap (λ m. mark_over whole m (processed old ++ blocks)) (sym mark) ∙ ap (λ b. mark_over whole new.mark (b ++ blocks)) (sym same);
}

-- no block of a group is processed, and none stands twice
pub group_new : (kept : Kept) (q : Queue) (slots : List Slot) (blocks : List Block) (cids : List Cid) → IsOnce kept.order q → IsGroup q.flight slots blocks cids → AreNew kept blocks
group_new kept q slots blocks cids once g =
    let are : map (λ (block : Block). block.cid) blocks ≡ cids_of (group_of q.flight (items_of slots)) = g.blocks_named ∙ g.named ∙ ap cids_of g.some in (
      ap (is_once same_cid) are ∙ once_times (cids_of (group_of q.flight (items_of slots))) (group_once q.flight (items_of slots)),
      ap (list_any (is_among kept.order)) are ∙ none_any (is_among kept.order) (cids_of (group_of q.flight (items_of slots))) (group_apart kept q (items_of slots) once),
    )

module _ (fit_law : FitLaw) (sound_law : SoundLaw) (mark_law : MarkLaw) (links_law : LinksLaw) (storing_law : StoringLaw) (stored_law : StoredLaw) (same_law : SameLaw) where
  module _ (kept : Kept) (whole : Bool) (q : Queue) (slots : List Slot) (blocks : List Block) (cids : List Cid) (process : Changes) (left : List Cid) (count : ℕ)
      (sound : IsKept kept) (once : IsOnce kept.order q) (good : list_all (λ (item : Stored). is_good item.cid item.bytes) (items_of slots) ≡ true) (g : IsGroup q.flight slots blocks cids) (o : IsGroupOver kept slots blocks)
      (p : Processes kept whole blocks (map (λ (block : Block). block.cid) blocks) process) (counts : count ≡ length (gaps (processed kept ++ blocks))) (opens : left ≡ open_links kept cids blocks) where
    abbrev group : List Stored
    group = group_of q.flight (items_of slots)

    abbrev stores : List Stored
    stores = to_store (durable_of kept).graph group

    abbrev then_kept : Kept
    then_kept = record { graph = kept.graph ++ stores; order = kept.order; mark = kept.mark }

    named : map (λ (block : Block). block.cid) blocks ≡ cids_of group
    named = g.blocks_named ∙ g.named ∙ ap cids_of g.some

    fits : StoreFits kept (storing stores)
    fits = record {
      good = good_store (λ (item : Stored). is_good item.cid item.bytes) (durable_of kept).graph group (good_group (λ (item : Stored). is_good item.cid item.bytes) q.flight (items_of slots) good);
      new = stores_new kept group;
      once = once_times (cids_of stores) (λ c. let w = store_within (durable_of kept).graph group c in let n = group_once q.flight (items_of slots) c in omega (arith, w, n));
    }

    sound_then : IsKept then_kept
    sound_then = subst IsKept (stored_law kept stores) (sound_law kept (storing stores) sound fits (record { stored = refl; new = refl; once = refl }))

    same : processed then_kept ≡ processed kept
    same = ap processed (sym (stored_law kept stores)) ∙ same_law kept stores sound

    stored_then : list_all (is_stored then_kept.graph) (map (λ (block : Block). block.cid) blocks) ≡ true
    stored_then = ap (list_all (is_stored then_kept.graph)) named ∙ has_all (is_stored then_kept.graph) (cids_of group) (all_then kept group)

    blocks_are : blocks_in then_kept.graph (map (λ (block : Block). block.cid) blocks) ≡ blocks
    blocks_are =
        ap (blocks_in then_kept.graph) named ∙ blocks_by_cid kept then_kept.graph group ∙ then_is kept stores group ∙ blocks_then kept group (group_once q.flight (items_of slots))
        ∙ ap (map (block_at kept.graph)) (sym g.some) ∙ sym o.blocks_are

    wanted_then : (r : Queue) → processed_queue (durable_of then_kept) r (map (λ (block : Block). block.cid) blocks) ≡ wants (without r (map (λ (block : Block). block.cid) blocks)) left
    wanted_then r =
        let marks : List Cid = map (λ (block : Block). block.cid) blocks in
        ap (λ ls. want_all (kept.order ++ marks) (without r marks) ls) (links_law then_kept marks stored_then ∙ ap links blocks_are)
        ∙ wants_open (kept.order ++ marks) (without r marks) (links blocks)
        ∙ ap (wants (without r marks)) (sym (open_is kept marks blocks) ∙ ap (λ cs. open_links kept cs blocks) g.blocks_named ∙ sym opens)

    new_then : AreNew then_kept blocks
    new_then = group_new kept q slots blocks cids once g

    both : ChangesFit kept (storing stores) × AreReady (changed kept (storing stores)) whole process left count
    both = (
      storing_law kept stores fits,
      subst (λ (k : Kept). AreReady k whole process left count) (sym (stored_law kept stores))
          (λ c. ready fit_law sound_law mark_law links_law then_kept whole blocks process (record { cid = c; links = left; gaps = count }) sound_then new_then stored_then blocks_are
          (process_of kept then_kept whole blocks (map (λ (block : Block). block.cid) blocks) process refl same p)
          (counts ∙ ap (λ b. length (gaps (b ++ blocks))) (sym same)) wanted_then),
    )

    stores_same : stores ≡ stores_in slots
    stores_same = ap (to_store (durable_of kept).graph) (sym g.some) ∙ sym o.stores_are

    pub group_ready : ChangesFit kept (storing (stores_in slots)) × AreReady (changed kept (storing (stores_in slots))) whole process left count
    group_ready = subst (λ s. ChangesFit kept (storing s) × AreReady (changed kept (storing s)) whole process left count) stores_same both

  -- where nothing of it is stored
  nothing_more : (kept : Kept) → changed kept (storing []) ≡ kept
  nothing_more kept = ap (λ graph. record { graph = graph; order = kept.order ++ []; mark = kept.mark }) (append-nil kept.graph) ∙ ap (λ order. record { graph = kept.graph; order = order; mark = kept.mark }) (append-nil kept.order)

  -- where it is told

  module _ (whole : Bool) (q : Queue) (slots : List Slot) (blocks : List Block) (cids : List Cid) (process : Changes) (left : List Cid) (count : ℕ)
      (good : list_all (λ (item : Stored). is_good item.cid item.bytes) (items_of slots) ≡ true) (g : IsGroup q.flight slots blocks cids) where
    pub told_fits : (told : Option Kept) → IfSome told IsKept → ((kept : Kept) → told ≡ Some kept → IsOnce kept.order q) → IfSome told (λ kept. IsGroupOver kept slots blocks)
        → IfSome told (λ kept. Processes kept whole blocks (map (λ (block : Block). block.cid) blocks) process) → IfSome told (λ kept. count ≡ length (gaps (processed kept ++ blocks))) → IfSome told (λ kept. left ≡ open_links kept cids blocks)
        → IfSome told (λ kept. ChangesFit kept (storing (stores_in slots)) × AreReady (changed kept (storing (stores_in slots))) whole process left count)
    told_fits None sound once o p counts opens = tt
    told_fits (Some kept) sound once o p counts opens = group_ready kept whole q slots blocks cids process left count sound (once kept refl) good g o p counts opens

  pub told_alone : (told : Option Kept) (whole : Bool) (slots : List Slot) (process : Changes) (left : List Cid) (count : ℕ) → stores_in slots ≡ []
      → IfSome told (λ kept. ChangesFit kept (storing (stores_in slots)) × AreReady (changed kept (storing (stores_in slots))) whole process left count) → IfSome told (λ kept. AreReady kept whole process left count)
  told_alone None whole slots process left count none p = tt
  told_alone (Some kept) whole slots process left count none p =
      subst (λ (k : Kept). AreReady k whole process left count) (ap (λ s. changed kept (storing s)) none ∙ nothing_more kept) p.1
