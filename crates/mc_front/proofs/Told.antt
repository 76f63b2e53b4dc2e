-- The rows over what a keeper tells.
use Rattle.std.proofs.Common.{◌≡◌, ℕ, ◌+◌, ◌-◌, ◌≤◌, Bool, true, false, not, cond, List, [], ◌∷◌, ◌++◌, Option, Some, None, sym, ap, ◌∙◌, subst, inl, inr, arith, length, filter}
use Rattle.std.specs.Prelude.{◌==◌, IfSome, unwrap_or, if◌then◌else◌}
use Rattle.std.specs.List.{list_any}
use Rattle.std.proofs.lemmas.List.{length-map}
use Rattle.std.proofs.lemmas.Bool.{or_cases, or_parts}
use Rattle.mc_base.specs.declared.cid.Cid.{Cid}
use Rattle.mc_model.specs.declared.block.Block.{Block}
use Rattle.mc_model.specs.Front.{same_cid, is_among, is_processed, is_linked, gaps}
use Rattle.mc_model.specs.Kept.{Kept, processed}
use Rattle.mc_model.proofs.Blocks.{is_processed_has}
use Rattle.mc_model.proofs.Counts.{cid_is}
use Rattle.mc_keep.specs.declared.rows.HeadRow.{HeadRow}
use Rattle.mc_keep.specs.declared.rows.Summary.{Summary}
use Rattle.mc_keep.specs.declared.changes.Changes.{Changes}
use Rattle.mc_keep.specs.New.{AreNew}
use Rattle.mc_keep.specs.Tables.{FrontFits, IsSummary}
use Rattle.mc_front.specs.Front.{head_row, new_heads, HeadsOut, MarkFits}
use Rattle.mc_front.specs.Steps.{different_links, unlinked, rows_of_heads}
use Rattle.mc_front.proofs.Heights.{cids_of, among_cids}
use Rattle.mc_front.proofs.Rows.{heads_are, heads_out, front_fits, gaps_count}

none_of : (test : Cid → Bool) (xs : List Cid) → list_any test xs ≡ false → (c : Cid) → is_among xs c ≡ true → test c ≡ false
none_of test [] e c h = absurd (let f : false ≡ true = h in cc)
none_of test (x ∷ xs) e c h =
    let parts = or_parts (test x) (list_any test xs) e in
    elim (or_cases (same_cid c x) (is_among xs c) h) [
      | inl s ↦ ap test (cid_is c x s) ∙ parts.0
      | inr k ↦ none_of test xs parts.1 c k
    ]

length-filter_le : (test : Block → Bool) (xs : List Block) → length (filter test xs) ≤ length xs
length-filter_le test [] = omega arith
length-filter_le test (x ∷ xs) =
    elim (test x) as (λ t. length (cond t (x ∷ filter test xs) (filter test xs)) ≤ length (x ∷ xs)) [
      | true ↦ omega (arith, length-filter_le test xs)
      | false ↦ omega (arith, length-filter_le test xs)
    ]

module _ (kept : Kept) (blocks : List Block) (new : AreNew kept blocks) where
  same : (c : Cid) → is_among kept.order c ≡ is_processed (processed kept) c
  same c = sym (is_processed_has kept.graph kept.order c)

  apart : (c : Cid) → is_processed blocks c ≡ true → is_processed (processed kept) c ≡ false
  apart c e = sym (same c) ∙ none_of (is_among kept.order) (cids_of blocks) new.1 c (among_cids c blocks ∙ e)

  module _ (links out : List Cid) (heads : List HeadRow) (l : links ≡ unlinked (processed kept) (different_links blocks)) (o : out ≡ filter (is_among kept.order) links)
      (h : heads ≡ rows_of_heads (processed kept) (different_links blocks) blocks) where
    out_is : out ≡ filter (is_among kept.order) (unlinked (processed kept) (different_links blocks))
    out_is = o ∙ ap (filter (is_among kept.order)) l

    heads_is : heads ≡ new_heads (processed kept) blocks
    heads_is = h ∙ heads_are (processed kept) blocks

    out_fits : HeadsOut (processed kept) blocks out
    out_fits = subst (HeadsOut (processed kept) blocks) (sym out_is) (heads_out (processed kept) blocks (is_among kept.order) same)

    count_is : (gaps_before : ℕ) (marks : List Cid) → marks ≡ cids_of blocks → gaps_before ≡ length (gaps (processed kept))
        → gaps_before + length links - length out - (length marks - length heads) ≡ length (gaps (processed kept ++ blocks))
    count_is gaps_before marks m g =
        let law = gaps_count (processed kept) blocks (is_among kept.order) same new.0 apart in
        let few : length (new_heads (processed kept) blocks) ≤ length blocks = heads_few in
        omega (
          arith,
          law,
          few,
          g,
          ap (λ (z : List Cid). length z) m,
          ap (λ (z : List Cid). length z) l,
          ap (λ (z : List Cid). length z) out_is,
          ap (λ (z : List HeadRow). length z) heads_is,
          length-map blocks (λ (block : Block). block.cid),
        )
      where
        heads_few : length (new_heads (processed kept) blocks) ≤ length blocks
        heads_few =
            omega (
              arith,
              length-filter_le (λ (block : Block). not (is_linked (processed kept ++ blocks) block.cid)) blocks,
              length-map (filter (λ (block : Block). not (is_linked (processed kept ++ blocks) block.cid)) blocks) head_row,
            )

  fits : (changes : Changes) → changes.links ≡ unlinked (processed kept) (different_links blocks) → changes.heads_out ≡ filter (is_among kept.order) changes.links
      → changes.heads_in ≡ rows_of_heads (processed kept) (different_links blocks) blocks → FrontFits (processed kept) blocks changes
  fits changes l o h =
      front_fits (processed kept) blocks (is_among kept.order) same new.0 apart changes l
      (out_is changes.links changes.heads_out changes.heads_in l o h) (heads_is changes.links changes.heads_out changes.heads_in l o h)

pub fit_told : (told : Option Kept) (blocks : List Block) (changes : Changes)
    → IfSome told (λ kept. changes.links ≡ unlinked (processed kept) (different_links blocks))
    → IfSome told (λ kept. changes.heads_out ≡ filter (is_among kept.order) changes.links)
    → IfSome told (λ kept. changes.heads_in ≡ rows_of_heads (processed kept) (different_links blocks) blocks)
    → IfSome told (λ kept. AreNew kept blocks → FrontFits (processed kept) blocks changes)
fit_told None blocks changes l o h = tt
fit_told (Some kept) blocks changes l o h = λ new. fits kept blocks new changes l o h

pub out_told : (told : Option Kept) (blocks : List Block) (links out : List Cid) (heads : List HeadRow)
    → IfSome told (λ kept. links ≡ unlinked (processed kept) (different_links blocks))
    → IfSome told (λ kept. out ≡ filter (is_among kept.order) links)
    → IfSome told (λ kept. heads ≡ rows_of_heads (processed kept) (different_links blocks) blocks)
    → IfSome told (λ kept. AreNew kept blocks → HeadsOut (processed kept) blocks out)
out_told None blocks links out heads l o h = tt
out_told (Some kept) blocks links out heads l o h = λ new. out_fits kept blocks new links out heads l o h

pub heads_told : (told : Option Kept) (blocks : List Block) (heads : List HeadRow)
    → IfSome told (λ kept. heads ≡ rows_of_heads (processed kept) (different_links blocks) blocks)
    → IfSome told (λ kept. heads ≡ new_heads (processed kept) blocks)
heads_told None blocks heads h = tt
heads_told (Some kept) blocks heads h = h ∙ heads_are (processed kept) blocks

pub count_told : (told : Option Kept) (blocks : List Block) (summary : Summary) (count : ℕ) (marks links out : List Cid) (heads : List HeadRow)
    → marks ≡ cids_of blocks
    → IfSome told (λ kept. links ≡ unlinked (processed kept) (different_links blocks))
    → IfSome told (λ kept. out ≡ filter (is_among kept.order) links)
    → IfSome told (λ kept. heads ≡ rows_of_heads (processed kept) (different_links blocks) blocks)
    → IfSome told (λ kept. IsSummary kept summary)
    → count ≡ summary.gaps + length links - length out - (length marks - length heads)
    → IfSome told (λ kept. AreNew kept blocks → count ≡ length (gaps (processed kept ++ blocks)))
count_told None blocks summary count marks links out heads m l o h s e = tt
count_told (Some kept) blocks summary count marks links out heads m l o h s e = λ new. e ∙ count_is kept blocks new links out heads l o h summary.gaps marks m s.2

pub mark_told : (told : Option Kept) (blocks : List Block) (summary : Summary) (count : ℕ) (whole : Bool) (change : Option Bool)
    → IfSome told (λ kept. IsSummary kept summary)
    → IfSome told (λ kept. AreNew kept blocks → count ≡ length (gaps (processed kept ++ blocks)))
    → unwrap_or change summary.mark ≡ (if whole then not (count == 0) else summary.mark)
    → IfSome change (λ new. new ≡ not summary.mark)
    → IfSome told (λ kept. AreNew kept blocks → MarkFits whole kept.mark (processed kept ++ blocks) change)
mark_told None blocks summary count whole change s g after changes = tt
mark_told (Some kept) blocks summary count whole change s g after changes = λ new. record {
  after =
      ap (unwrap_or change) (sym s.3) ∙ after
      ∙ ap (λ (n : ℕ). if whole then not (n == 0) else summary.mark) (g new)
      ∙ ap (λ (mark : Bool). if whole then not (length (gaps (processed kept ++ blocks)) == 0) else mark) s.3;
  changes = subst (λ (mark : Bool). IfSome change (λ new. new ≡ not mark)) s.3 changes;
}
