-- The rows of heads and links, and gaps, as they are found.
use Rattle.std.proofs.Common.{◌≡◌, ℕ, suc, ◌+◌, ◌<◌, ◌≤◌, Bool, true, false, cond, not, ◌||◌, List, [], ◌∷◌, ◌++◌, map, length, take, drop, get_or, sym, refl, ap, ◌∙◌, arith, inl, inr}
use Rattle.std.specs.Prelude.{filter, fold}
use Rattle.std.specs.List.{list_any}
use Rattle.std.proofs.Math.Seq.{drop-cons}
use Rattle.std.proofs.Math.Bool.{or-false}
use Rattle.std.proofs.lemmas.List.{take_more, map-append}
use Rattle.std.proofs.lemmas.List.Elements.{filter-append}
use Rattle.std.proofs.lemmas.List.Folds.{list_any-append}
use Rattle.std.proofs.lemmas.Bool.{or_left, or_right, or_cases}
use Rattle.indexmap.specs.IndexSet.{insert_key}
use Rattle.mc_base.specs.declared.cid.Cid.{Cid}
use Rattle.mc_base.proofs.Booleans.{same_truth}
use Rattle.mc_model.specs.declared.block.Block.{Block}
use Rattle.mc_model.specs.Front.{same_cid, is_among, is_linked, is_processed, links}
use Rattle.mc_model.specs.SameMembers.{SameMembers}
use Rattle.mc_model.proofs.Blocks.{is_linked_has}
use Rattle.mc_model.proofs.Counts.{cid_is}
use Rattle.mc_model.proofs.Members.{list_any-map}
use Rattle.mc_raw.specs.declared.raw.Row.{Row}
use Rattle.mc_keep.specs.declared.rows.HeadRow.{HeadRow}
use Rattle.mc_model.specs.Ascending.{ascending}
use Rattle.mc_raw.specs.RowOrder.{row_cmp}
use Rattle.mc_raw.specs.RowTables.{head_line, link_line, link_table, head_table}
use Rattle.mc_audit.specs.Checks.{Marks, digest_line, unlinked_rows}
use Rattle.mc_audit.specs.Found.{with_links}
use Rattle.mc_audit.specs.Rows.{head_row_of}
use Rattle.mc_audit.specs.Sound.{has_gap}
use Rattle.mc_audit.proofs.Sorts.{same_order}
use Rattle.mc_audit.proofs.Steps.{drop_end}
use Rattle.std.proofs.lemmas.Option.{slice_get_past}

-- one more head
pub unlinked_more : (links : List Cid) (heads : List HeadRow) (i : ℕ) (d : HeadRow) (now new : List Row) → i < length heads → now ≡ unlinked_rows links (take i heads)
    → new ≡ now ++ unlinked_rows links (get_or heads i d ∷ []) → new ≡ unlinked_rows links (take (i + 1) heads)
unlinked_more links heads i d now new within before step =
    let head : HeadRow = get_or heads i d in
    step ∙ ap (λ z. z ++ unlinked_rows links (head ∷ [])) before
    ∙ sym (map-append (λ (h : HeadRow). digest_line h.cid h.height) (filter (λ (h : HeadRow). not (is_among links h.cid)) (take i heads)) (filter (λ (h : HeadRow). not (is_among links h.cid)) (head ∷ [])))
    ∙ ap (map (λ (h : HeadRow). digest_line h.cid h.height)) (sym (filter-append (λ (h : HeadRow). not (is_among links h.cid)) (take i heads) (head ∷ [])))
    ∙ ap (unlinked_rows links) (sym (take_more heads i d within))

-- the links that were gathered are those of the blocks

pub insert_any : (test : Cid → Bool) (keys : List Cid) (link : Cid) → list_any test (insert_key same_cid keys link) ≡ (list_any test keys || test link)
insert_any test keys link =
    elim (is_among keys link) as (λ t. is_among keys link ≡ t → list_any test (cond t keys (keys ++ link ∷ [])) ≡ (list_any test keys || test link)) [
      | true ↦ λ e. same_truth (list_any test keys) (list_any test keys || test link) (λ h. or_left (list_any test keys) (test link) h)
          (λ h. elim (or_cases (list_any test keys) (test link) h) [ inl a ↦ a | inr b ↦ there keys e b ])
      | false ↦ λ e. list_any-append test keys (link ∷ []) ∙ ap (λ t. list_any test keys || t) (or-false (test link))
    ] refl
  where
    there : (some : List Cid) → is_among some link ≡ true → test link ≡ true → list_any test some ≡ true
    there [] e b = absurd (let f : false ≡ true = e in cc)
    there (c ∷ some) e b = elim (or_cases (same_cid link c) (is_among some link) e) [
      | inl same ↦ or_left (test c) (list_any test some) (ap test (sym (cid_is link c same)) ∙ b)
      | inr more ↦ or_right (test c) (list_any test some) (there some more b)
    ]

fold_any : (test : Cid → Bool) (keys cids : List Cid) → list_any test (fold (insert_key same_cid) keys cids) ≡ (list_any test keys || list_any test cids)
fold_any test keys [] = sym (or-false (list_any test keys))
fold_any test keys (c ∷ cids) = fold_any test (insert_key same_cid keys c) cids ∙ ap (λ t. t || list_any test cids) (insert_any test keys c) ∙ joined (list_any test keys) (test c) (list_any test cids)
  where
    joined : (a b c : Bool) → ((a || b) || c) ≡ (a || (b || c))
    joined true b c = refl
    joined false b c = refl

links_any : (test : Cid → Bool) (keys : List Cid) (blocks : List Block) → list_any test (fold with_links keys blocks) ≡ (list_any test keys || list_any test (links blocks))
links_any test keys [] = sym (or-false (list_any test keys))
links_any test keys (b ∷ blocks) =
    links_any test (with_links keys b) blocks ∙ ap (λ t. t || list_any test (links blocks)) (fold_any test keys b.links)
    ∙ joined (list_any test keys) (list_any test b.links) (list_any test (links blocks))
    ∙ ap (λ t. list_any test keys || t) (sym (list_any-append test b.links (links blocks)))
  where
    joined : (a b c : Bool) → ((a || b) || c) ≡ (a || (b || c))
    joined true b c = refl
    joined false b c = refl

pub gathered_links : (keys : List Cid) (blocks : List Block) → keys ≡ fold with_links [] blocks → SameMembers keys (links blocks)
gathered_links keys blocks is = record { same = λ test. ap (list_any test) is ∙ links_any test [] blocks }

pub link_rows_are : (keys : List Cid) (blocks : List Block) (rows once : List Row) → keys ≡ fold with_links [] blocks → rows ≡ map link_line keys → once ≡ ascending row_cmp rows → once ≡ link_table blocks
link_rows_are keys blocks rows once is made order =
    order ∙ ap (ascending row_cmp) made
    ∙ same_order (map link_line keys) (map link_line (links blocks)) (record { same = λ test. list_any-map test link_line keys ∙ (gathered_links keys blocks is).same (λ c. test (link_line c)) ∙ sym (list_any-map test link_line (links blocks)) })

heads_of : (keys : List Cid) (all blocks : List Block) → ((cid : Cid) → is_among keys cid ≡ is_linked all cid) → unlinked_rows keys (map head_row_of blocks) ≡ map head_line (filter (λ (block : Block). not (is_linked all block.cid)) blocks)
heads_of keys all [] same = refl
heads_of keys all (b ∷ blocks) same =
    ap (λ t. map (λ (h : HeadRow). digest_line h.cid h.height) (cond (not t) (head_row_of b ∷ filter (λ (h : HeadRow). not (is_among keys h.cid)) (map head_row_of blocks)) (filter (λ (h : HeadRow). not (is_among keys h.cid)) (map head_row_of blocks)))) (same b.cid)
    ∙ elim (is_linked all b.cid) as (λ t. map (λ (h : HeadRow). digest_line h.cid h.height) (cond (not t) (head_row_of b ∷ filter (λ (h : HeadRow). not (is_among keys h.cid)) (map head_row_of blocks)) (filter (λ (h : HeadRow). not (is_among keys h.cid)) (map head_row_of blocks)))
    ≡ map head_line (cond (not t) (b ∷ filter (λ (block : Block). not (is_linked all block.cid)) blocks) (filter (λ (block : Block). not (is_linked all block.cid)) blocks))) [
      | true ↦ heads_of keys all blocks same
      | false ↦ ap (λ rest. head_line b ∷ rest) (heads_of keys all blocks same)
    ]

pub head_rows_are : (keys : List Cid) (heads : List HeadRow) (blocks : List Block) (rows once : List Row) → heads ≡ map head_row_of blocks → keys ≡ fold with_links [] blocks → rows ≡ unlinked_rows keys heads → once ≡ ascending row_cmp rows → once ≡ head_table blocks
head_rows_are keys heads blocks rows once all is made order =
    order ∙ ap (ascending row_cmp) (made ∙ ap (unlinked_rows keys) all ∙ heads_of keys blocks blocks (λ cid. (gathered_links keys blocks is).same (same_cid cid) ∙ sym (is_linked_has blocks cid)))

pub gap_is : (keys : List Cid) (blocks : List Block) (gap : Bool) → keys ≡ fold with_links [] blocks → gap ≡ list_any (λ (cid : Cid). not (is_processed blocks cid)) keys → gap ≡ has_gap blocks
gap_is keys blocks gap is found = found ∙ (gathered_links keys blocks is).same (λ (cid : Cid). not (is_processed blocks cid))

-- links that lead to marked blocks

pub gap_here : (marked links : List Cid) (i : ℕ) (d : Cid) → i < length links → length (get_or links i d).0 ≡ 32 → true ≡ not (is_among marked (get_or links i d))
    → ((blocks : List Block) → Marks marked blocks → list_any (λ (cid : Cid). not (is_processed blocks cid)) links ≡ list_any (λ (cid : Cid). not (is_processed blocks cid)) (drop i links))
    → (blocks : List Block) → Marks marked blocks → true ≡ list_any (λ (cid : Cid). not (is_processed blocks cid)) links
gap_here marked links i d within digest gap ahead blocks marks =
    let link : Cid = get_or links i d in
    sym (ahead blocks marks ∙ ap (list_any (λ (cid : Cid). not (is_processed blocks cid))) (drop-cons links i d within)
    ∙ ap (λ t. not t || list_any (λ (cid : Cid). not (is_processed blocks cid)) (drop (suc i) links)) (sym (marks link digest))
    ∙ ap (λ t. t || list_any (λ (cid : Cid). not (is_processed blocks cid)) (drop (suc i) links)) (sym gap))

pub gap_later : (marked links : List Cid) (i : ℕ) (d : Cid) → i < length links → length (get_or links i d).0 ≡ 32 → false ≡ not (is_among marked (get_or links i d))
    → ((blocks : List Block) → Marks marked blocks → list_any (λ (cid : Cid). not (is_processed blocks cid)) links ≡ list_any (λ (cid : Cid). not (is_processed blocks cid)) (drop i links))
    → (blocks : List Block) → Marks marked blocks → list_any (λ (cid : Cid). not (is_processed blocks cid)) links ≡ list_any (λ (cid : Cid). not (is_processed blocks cid)) (drop (i + 1) links)
gap_later marked links i d within digest gap ahead blocks marks =
    let link : Cid = get_or links i d in
    let next : suc i ≡ i + 1 = omega arith in
    ahead blocks marks ∙ ap (list_any (λ (cid : Cid). not (is_processed blocks cid))) (drop-cons links i d within)
    ∙ ap (λ t. not t || list_any (λ (cid : Cid). not (is_processed blocks cid)) (drop (suc i) links)) (sym (marks link digest))
    ∙ ap (λ t. t || list_any (λ (cid : Cid). not (is_processed blocks cid)) (drop (suc i) links)) (sym gap)
    ∙ ap (λ n. list_any (λ (cid : Cid). not (is_processed blocks cid)) (drop n links)) next

pub gap_end : (marked links : List Cid) (i : ℕ) → length links ≤ i
    → ((blocks : List Block) → Marks marked blocks → list_any (λ (cid : Cid). not (is_processed blocks cid)) links ≡ list_any (λ (cid : Cid). not (is_processed blocks cid)) (drop i links))
    → (blocks : List Block) → Marks marked blocks → false ≡ list_any (λ (cid : Cid). not (is_processed blocks cid)) links
gap_end marked links i past ahead blocks marks = sym (ahead blocks marks ∙ ap (list_any (λ (cid : Cid). not (is_processed blocks cid))) (drop_end links i (sym (slice_get_past links i past))))
