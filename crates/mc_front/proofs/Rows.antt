-- The rows of a group of blocks take the front to that with the blocks.
use Rattle.std.proofs.Common.{◌≡◌, ℕ, ◌+◌, Bool, true, false, not, cond, List, [], ◌∷◌, ◌++◌, ◌||◌, ◌&&◌, Option, Some, None, sym, refl, ap, ◌∙◌, arith, length, length-append, map, filter}
use Rattle.std.specs.Prelude.{fold, is_some}
use Rattle.std.specs.List.{list_any}
use Rattle.std.proofs.lemmas.List.Folds.{list_any-append}
use Rattle.std.proofs.lemmas.List.Elements.{filter_agree}
use Rattle.std.proofs.lemmas.List.{length-map}
use Rattle.std.proofs.Math.Bool.{or_comm}
use Rattle.mc_base.specs.declared.cid.Cid.{Cid}
use Rattle.mc_model.specs.declared.block.Block.{Block}
use Rattle.mc_model.specs.Ascending.{is_once}
use Rattle.mc_model.specs.Front.{same_cid, is_among, is_processed, is_linked, gaps, head_at}
use Rattle.mc_model.specs.Graph.{times}
use Rattle.mc_model.proofs.Counts.{times-append}
use Rattle.mc_model.proofs.GapCount.{among_filter, gap_times, once_times_is}
use Rattle.mc_model.proofs.Heads.{is_head}
use Rattle.mc_model.proofs.Members.{list_any-filter}
use Rattle.mc_keep.specs.declared.rows.HeadRow.{HeadRow}
use Rattle.mc_keep.specs.declared.changes.Changes.{Changes}
use Rattle.mc_keep.specs.Changes.{head_without, head_after}
use Rattle.mc_keep.specs.Tables.{FrontFits}
use Rattle.mc_front.specs.Front.{head_row, new_heads, HeadsOut}
use Rattle.mc_front.specs.Steps.{different_links, unlinked, leads_to, rows_of_heads}
use Rattle.mc_front.proofs.Heights.{cids_of, height, or_else, among_cids, height_there, height-append, height-filter, map-filter, rows_put, rows_taken, rows_once}
use Rattle.mc_front.proofs.Linked.{linked_among, linked_once, once_filter}
use Rattle.mc_front.proofs.Times.{same_times_length}

-- tests joined

either : (a b : Bool) → (a || b) ≡ (a || (b && not a))
either true b = refl
either false true = refl
either false false = refl

shifted : (m l p : Bool) → ((m && not l) && p) ≡ ((p && not l) && m)
shifted true true true = refl
shifted true true false = refl
shifted true false true = refl
shifted true false false = refl
shifted false true true = refl
shifted false true false = refl
shifted false false true = refl
shifted false false false = refl

never : (test : Cid → Bool) (xs : List Cid) → list_any (λ x. not (test x) && test x) xs ≡ false
never test [] = refl
never test (x ∷ xs) = elim (test x) as (λ t. ((not t && t) || list_any (λ x. not (test x) && test x) xs) ≡ false) [ true ↦ never test xs | false ↦ never test xs ]

-- the height of a head, by the links and heights of both parts
joined : (l m : Bool) (old new : Option ℕ) → (is_some new ≡ true → is_some old ≡ false)
    → cond (l || m) None (or_else old new) ≡ or_else (cond (not (l || m)) new None) (cond ((m && not l) && is_some old) None (cond l None old))
joined true true old new apart = refl
joined true false old new apart = refl
joined false true None new apart = refl
joined false true (Some n) new apart = refl
joined false false None None apart = refl
joined false false None (Some k) apart = refl
joined false false (Some n) None apart = refl
joined false false (Some n) (Some k) apart = absurd (let f : true ≡ false = apart refl in cc)

abbrev one : Bool → ℕ
one b = cond b 1 0

-- a link is a gap or leads to a processed block, and each of these is a head or is linked to
counted : (l m p b : Bool) → (b ≡ true → p ≡ false)
    → (one ((l || m) && not (p || b)) + one b) + one ((m && not l) && p) ≡ (one (l && not p) + one (m && not l)) + one (b && not (l || m))
counted l m true true apart = absurd (let f : true ≡ false = apart refl in cc)
counted true true true false apart = refl
counted true true false true apart = refl
counted true true false false apart = refl
counted true false true false apart = refl
counted true false false true apart = refl
counted true false false false apart = refl
counted false true true false apart = refl
counted false true false true apart = refl
counted false true false false apart = refl
counted false false true false apart = refl
counted false false false true apart = refl
counted false false false false apart = refl

pub leads : (blocks more : List Block) (c : Cid) → leads_to blocks (different_links more) c ≡ is_linked (blocks ++ more) c
leads blocks more c =
    ap (λ t. t || is_linked blocks c) (linked_among more c)
    ∙ or_comm (is_linked more c) (is_linked blocks c)
    ∙ sym (list_any-append (λ (block : Block). is_among block.links c) blocks more)

-- the rows are those of the heads
pub heads_are : (blocks more : List Block) → rows_of_heads blocks (different_links more) more ≡ new_heads blocks more
heads_are blocks more =
    ap (map head_row)
    (filter_agree (λ (block : Block). not (leads_to blocks (different_links more) block.cid)) (λ (block : Block). not (is_linked (blocks ++ more) block.cid))
    (λ (block : Block). ap not (leads blocks more block.cid)) more)

module _ (blocks more : List Block) where
  abbrev links : List Cid
  links = unlinked blocks (different_links more)

  links_among : (c : Cid) → is_among links c ≡ (is_linked more c && not (is_linked blocks c))
  links_among c = among_filter (λ (cid : Cid). not (is_linked blocks cid)) c (different_links more) ∙ ap (λ t. t && not (is_linked blocks c)) (linked_among more c)

  linked_all : (c : Cid) → is_linked (blocks ++ more) c ≡ (is_linked blocks c || is_linked more c)
  linked_all c = list_any-append (λ (block : Block). is_among block.links c) blocks more

  links_fit : (c : Cid) → is_linked (blocks ++ more) c ≡ (is_linked blocks c || is_among links c)
  links_fit c = linked_all c ∙ either (is_linked blocks c) (is_linked more c) ∙ ap (λ t. is_linked blocks c || t) (sym (links_among c))

  links_new : list_any (is_linked blocks) links ≡ false
  links_new = list_any-filter (is_linked blocks) (λ (cid : Cid). not (is_linked blocks cid)) (different_links more) ∙ never (is_linked blocks) (different_links more)

  links_once : is_once same_cid links ≡ true
  links_once = once_filter (λ (cid : Cid). not (is_linked blocks cid)) (different_links more) (linked_once more)

  module _ (held : Cid → Bool) (same : (c : Cid) → held c ≡ is_processed blocks c) where
    out_among : (c : Cid) → is_among (filter held links) c ≡ ((is_linked more c && not (is_linked blocks c)) && is_processed blocks c)
    out_among c = among_filter held c links ∙ ap (λ t. t && held c) (links_among c) ∙ ap (λ t. (is_linked more c && not (is_linked blocks c)) && t) (same c)

    -- the new links that are processed are the old heads that the blocks link to
    pub heads_out : HeadsOut blocks more (filter held links)
    heads_out = record {
      heads = λ c. out_among c ∙ shifted (is_linked more c) (is_linked blocks c) (is_processed blocks c) ∙ ap (λ t. t && is_linked more c) (sym (is_head blocks c));
      once = once_filter held links links_once;
    }

    module _ (once : is_once same_cid (cids_of more) ≡ true) (apart : (c : Cid) → is_processed more c ≡ true → is_processed blocks c ≡ false) where
      -- whether a block stays a head
      abbrev free : Cid → Bool
      free c = not (is_linked (blocks ++ more) c)

      abbrev heads : List Block
      heads = filter (λ (block : Block). free block.cid) more

      free_once : is_once same_cid (cids_of heads) ≡ true
      free_once = ap (is_once same_cid) (map-filter free more) ∙ once_filter free (cids_of more) once

      heads_fit : (c : Cid) → head_at (blocks ++ more) c ≡ head_after c (head_at blocks c) (filter held links) (new_heads blocks more)
      heads_fit c =
          ap (λ z. cond (is_linked (blocks ++ more) c) None z) (height-append c blocks more)
          ∙ ap (λ t. cond t None (or_else (height blocks c) (height more c))) (linked_all c)
          ∙ joined (is_linked blocks c) (is_linked more c) (height blocks c) (height more c)
          (λ e. height_there c blocks ∙ apart c (sym (height_there c more) ∙ e))
          ∙ ap (λ t. or_else (cond (not t) (height more c) None) (cond ((is_linked more c && not (is_linked blocks c)) && is_some (height blocks c)) None (head_at blocks c))) (sym (linked_all c))
          ∙ ap (λ z. or_else z (cond ((is_linked more c && not (is_linked blocks c)) && is_some (height blocks c)) None (head_at blocks c))) (sym (height-filter free c more))
          ∙ ap (λ t. or_else (height heads c) (cond ((is_linked more c && not (is_linked blocks c)) && t) None (head_at blocks c))) (height_there c blocks)
          ∙ ap (λ t. or_else (height heads c) (cond t None (head_at blocks c))) (sym (out_among c))
          ∙ ap (λ z. or_else (height heads c) z) (sym (rows_taken c (head_at blocks c) (filter held links)))
          ∙ sym (rows_put c (fold (head_without c) (head_at blocks c) (filter held links)) heads free_once)

      pub front_fits : (changes : Changes) → changes.links ≡ links → changes.heads_out ≡ filter held links → changes.heads_in ≡ new_heads blocks more → FrontFits blocks more changes
      front_fits changes new out rows = record {
        links = λ c. links_fit c ∙ ap (λ z. is_linked blocks c || is_among z c) (sym new);
        links_new = ap (list_any (is_linked blocks)) new ∙ links_new;
        links_once = ap (is_once same_cid) new ∙ links_once;
        heads = λ c. heads_fit c ∙ ap (λ z. head_after c (head_at blocks c) z (new_heads blocks more)) (sym out) ∙ ap (λ z. head_after c (head_at blocks c) changes.heads_out z) (sym rows);
        heads_once = ap (is_once (λ (a b : HeadRow). same_cid a.cid b.cid)) rows ∙ rows_once heads ∙ free_once;
      }

      -- how often an identifier stands among all that is counted

      gaps_times : (c : Cid) → times c (gaps (blocks ++ more)) ≡ one ((is_linked blocks c || is_linked more c) && not (is_processed blocks c || is_processed more c))
      gaps_times c =
          gap_times (blocks ++ more) c
          ∙ ap (λ t. one (t && not (is_processed (blocks ++ more) c))) (linked_all c)
          ∙ ap (λ t. one ((is_linked blocks c || is_linked more c) && not t)) (list_any-append (λ (block : Block). same_cid c block.cid) blocks more)

      marks_times : (c : Cid) → times c (cids_of more) ≡ one (is_processed more c)
      marks_times c = once_times_is (cids_of more) once c ∙ ap one (among_cids c more)

      out_times : (c : Cid) → times c (filter held links) ≡ one ((is_linked more c && not (is_linked blocks c)) && is_processed blocks c)
      out_times c = once_times_is (filter held links) (once_filter held links links_once) c ∙ ap one (out_among c)

      links_times : (c : Cid) → times c links ≡ one (is_linked more c && not (is_linked blocks c))
      links_times c = once_times_is links links_once c ∙ ap one (links_among c)

      heads_times : (c : Cid) → times c (cids_of heads) ≡ one (is_processed more c && not (is_linked blocks c || is_linked more c))
      heads_times c =
          once_times_is (cids_of heads) free_once c
          ∙ ap (λ (z : List Cid). one (is_among z c)) (map-filter free more)
          ∙ ap one (among_filter free c (cids_of more) ∙ ap (λ t. t && free c) (among_cids c more) ∙ ap (λ t. is_processed more c && not t) (linked_all c))

      all_times : (c : Cid) → times c ((gaps blocks ++ links) ++ cids_of heads) ≡ times c ((gaps (blocks ++ more) ++ cids_of more) ++ filter held links)
      all_times c =
          let law = counted (is_linked blocks c) (is_linked more c) (is_processed blocks c) (is_processed more c) (apart c) in
          omega (
            arith,
            law,
            times-append c (gaps blocks ++ links) (cids_of heads),
            times-append c (gaps blocks) links,
            times-append c (gaps (blocks ++ more) ++ cids_of more) (filter held links),
            times-append c (gaps (blocks ++ more)) (cids_of more),
            gaps_times c,
            marks_times c,
            out_times c,
            links_times c,
            heads_times c,
            gap_times blocks c,
          )

      -- the gaps, the blocks and the heads that are none any more are as many as the old gaps, the new links and the new heads
      pub gaps_count : length (gaps (blocks ++ more)) + length (cids_of more) + length (filter held links) ≡ length (gaps blocks) + length links + length (new_heads blocks more)
      gaps_count =
          let all = same_times_length ((gaps (blocks ++ more) ++ cids_of more) ++ filter held links) ((gaps blocks ++ links) ++ cids_of heads) all_times in
          omega (
            arith,
            all,
            length-append (gaps (blocks ++ more) ++ cids_of more) (filter held links),
            length-append (gaps (blocks ++ more)) (cids_of more),
            length-append (gaps blocks ++ links) (cids_of heads),
            length-append (gaps blocks) links,
            length-map heads (λ (block : Block). block.cid),
            length-map heads head_row,
          )
