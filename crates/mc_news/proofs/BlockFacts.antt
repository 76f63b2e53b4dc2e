-- The block at a place in the order of processing, and those from a place on.
use Rattle.std.proofs.Common.{◌≡◌, ℕ, zero, suc, ◌+◌, ◌<◌, Bool, true, false, cond, List, [], ◌∷◌, ◌++◌, length, drop, Option, Some, None, refl, sym, ◌∙◌, ap, subst, get_or, append_assoc, inl, inr}
use Rattle.std.specs.Prelude.{IfSome, find, is_some, slice_get, unwrap_or}
use Rattle.std.specs.List.{list_all}
use Rattle.std.specs.Option.{option_map}
use Rattle.std.proofs.lemmas.Bool.{and_parts}
use Rattle.std.proofs.lemmas.List.{append-nil, drop_all, drop_more}
use Rattle.std.proofs.lemmas.Option.{get_or_from_slice_get, slice_get-map, slice_get_cases, slice_get_within}
use Rattle.mc_base.specs.declared.cid.Cid.{Cid}
use Rattle.mc_model.proofs.Counts.{cid_is}
use Rattle.mc_model.specs.declared.block.Block.{Block}
use Rattle.mc_model.specs.declared.block.Stored.{Stored}
use Rattle.mc_model.specs.Front.{same_cid}
use Rattle.mc_model.specs.Kept.{Kept, IsKept, block_in, block_under, bytes_at, is_stored, processed}
use Rattle.mc_model.specs.Offer.{block_of, is_good}

-- past the end
pub none_past : (told : Option Kept) (position : ℕ) (found : Option Cid) → found ≡ None → IfSome told (λ kept. found ≡ slice_get kept.order position) → IfSome told (λ kept. None ≡ slice_get (processed kept) position)
none_past None position found none row = tt
none_past (Some kept) position found none row = ap (option_map (block_in kept.graph)) (sym none ∙ row) ∙ sym (slice_get-map (block_in kept.graph) kept.order position)

stored_at : (graph : List Stored) (order : List Cid) (position : ℕ) (cid : Cid) → list_all (is_stored graph) order ≡ true → slice_get order position ≡ Some cid → is_stored graph cid ≡ true
stored_at graph [] position cid all e = absurd (let no : false ≡ true = ap is_some e in cc)
stored_at graph (c ∷ order) zero cid all e = subst (λ d. is_stored graph d ≡ true) (ap (λ o. unwrap_or o c) e) (and_parts (is_stored graph c) (list_all (is_stored graph) order) all).0
stored_at graph (c ∷ order) (suc n) cid all e = stored_at graph order n cid (and_parts (is_stored graph c) (list_all (is_stored graph) order) all).1 e

-- each processed block is stored
pub none_stored : (told told_mid : Option Kept) (position : ℕ) (found : Option Cid) (cid : Cid) (bytes : Option (List ℕ)) → IfSome told IsKept → told_mid ≡ told → found ≡ Some cid → bytes ≡ None
    → IfSome told (λ kept. found ≡ slice_get kept.order position) → IfSome told_mid (λ kept. bytes ≡ bytes_at kept.graph cid) → IfSome told (λ kept. None ≡ slice_get (processed kept) position)
none_stored told told_mid position found cid bytes sound same is none row at_cid = over told sound row (subst (λ t. IfSome t (λ kept. bytes ≡ bytes_at kept.graph cid)) same at_cid)
  where
    over : (told : Option Kept) → IfSome told IsKept → IfSome told (λ kept. found ≡ slice_get kept.order position) → IfSome told (λ kept. bytes ≡ bytes_at kept.graph cid) → IfSome told (λ kept. None ≡ slice_get (processed kept) position)
    over None sound row at_cid = tt
    over (Some kept) sound row at_cid = absurd (let no : true ≡ false = sym (stored_at kept.graph kept.order position cid sound.stored (sym row ∙ is)) ∙ ap is_some (sym at_cid ∙ none) in cc)

stored_good : (graph : List Stored) (cid : Cid) (bytes : List ℕ) → list_all (λ (stored : Stored). is_good stored.cid stored.bytes) graph ≡ true → bytes_at graph cid ≡ Some bytes → is_good cid bytes ≡ true
stored_good [] cid bytes all e = absurd (let no : false ≡ true = ap is_some e in cc)
stored_good (s ∷ graph) cid bytes all e =
    let parts = and_parts (is_good s.cid s.bytes) (list_all (λ (stored : Stored). is_good stored.cid stored.bytes) graph) all in
    elim (same_cid cid s.cid) as (λ t. same_cid cid s.cid ≡ t → option_map (λ (stored : Stored). stored.bytes) (cond t (Some s) (find (λ (stored : Stored). same_cid cid stored.cid) graph)) ≡ Some bytes → is_good cid bytes ≡ true) [
      | true ↦ λ same h. subst (λ b. is_good cid b ≡ true) (ap (λ o. unwrap_or o bytes) h) (subst (λ c. is_good c s.bytes ≡ true) (sym (cid_is cid s.cid same)) parts.0)
      | false ↦ λ same h. stored_good graph cid bytes parts.1 h
    ] refl e

-- a block that is good, as each stored one is
pub found_at : (told told_mid : Option Kept) (position : ℕ) (found : Option Cid) (cid : Cid) (stored : Option (List ℕ)) (bytes text : List ℕ) (block : Option Block) → IfSome told IsKept → told_mid ≡ told → found ≡ Some cid → stored ≡ Some bytes → text ≡ bytes
    → IfSome told (λ kept. found ≡ slice_get kept.order position) → IfSome told_mid (λ kept. stored ≡ bytes_at kept.graph cid) → (is_good cid text ≡ true → block ≡ Some (block_of cid text))
    → IfSome told (λ kept. block ≡ slice_get (processed kept) position)
found_at told told_mid position found cid stored bytes text block sound same is there whole row at_cid good = over told sound row (subst (λ t. IfSome t (λ kept. stored ≡ bytes_at kept.graph cid)) same at_cid)
  where
    over : (told : Option Kept) → IfSome told IsKept → IfSome told (λ kept. found ≡ slice_get kept.order position) → IfSome told (λ kept. stored ≡ bytes_at kept.graph cid) → IfSome told (λ kept. block ≡ slice_get (processed kept) position)
    over None sound row at_cid = tt
    over (Some kept) sound row at_cid =
        let here : bytes_at kept.graph cid ≡ Some bytes = sym at_cid ∙ there in
        subst (λ t. is_good cid t ≡ true → block ≡ Some (block_of cid t)) whole good (stored_good kept.graph cid bytes sound.good here)
        ∙ ap (λ b. Some (block_under cid b)) (sym here)
        ∙ ap (option_map (block_in kept.graph)) (sym is ∙ row)
        ∙ sym (slice_get-map (block_in kept.graph) kept.order position)

-- the blocks so far, and those still to come
abbrev pub SoFar : Option Kept → List Block → ℕ → ℕ → Type 0
SoFar told blocks position from = IfSome told (λ kept. blocks ++ drop position (processed kept) ≡ drop from (processed kept))

pub so_far_first : (told : Option Kept) (blocks : List Block) (from : ℕ) → blocks ≡ [] → SoFar told blocks from from
so_far_first None blocks from none = tt
so_far_first (Some kept) blocks from none = ap (λ (z : List Block). z ++ drop from (processed kept)) none

past_none : {A : Type 0} (xs : List A) (position : ℕ) → slice_get xs position ≡ None → drop position xs ≡ []
past_none xs position e = elim (slice_get_cases xs position).1 [
  | inl (x, within, is, get) ↦ absurd (let no : true ≡ false = ap is_some (sym is ∙ e) in cc)
  | inr (past, none) ↦ drop_all position xs past
]

pub so_far_last : (told told_mid : Option Kept) (blocks : List Block) (position from : ℕ) (found : Option Block) → told_mid ≡ told → found ≡ None → SoFar told blocks position from → IfSome told_mid (λ kept. found ≡ slice_get (processed kept) position)
    → IfSome told (λ kept. blocks ≡ drop from (processed kept))
so_far_last told told_mid blocks position from found same none so row = over told so (subst (λ t. IfSome t (λ kept. found ≡ slice_get (processed kept) position)) same row)
  where
    over : (told : Option Kept) → SoFar told blocks position from → IfSome told (λ kept. found ≡ slice_get (processed kept) position) → IfSome told (λ kept. blocks ≡ drop from (processed kept))
    over None so row = tt
    over (Some kept) so row = sym (append-nil blocks) ∙ ap (λ (z : List Block). blocks ++ z) (sym (past_none (processed kept) position (sym row ∙ none))) ∙ so

pub so_far_more : (told told_mid : Option Kept) (blocks more : List Block) (position next from : ℕ) (found : Option Block) (block : Block) → told_mid ≡ told → found ≡ Some block → more ≡ blocks ++ block ∷ [] → next ≡ position + 1 → SoFar told blocks position from
    → IfSome told_mid (λ kept. found ≡ slice_get (processed kept) position) → SoFar told more next from
so_far_more told told_mid blocks more position next from found block same is pushed moved so row = over told so (subst (λ t. IfSome t (λ kept. found ≡ slice_get (processed kept) position)) same row)
  where
    over : (told : Option Kept) → SoFar told blocks position from → IfSome told (λ kept. found ≡ slice_get (processed kept) position) → SoFar told more next from
    over None so row = tt
    over (Some kept) so row =
        let here : slice_get (processed kept) position ≡ Some block = sym row ∙ is in
        let rest : drop position (processed kept) ≡ block ∷ drop next (processed kept) =
        drop_more (processed kept) position block (slice_get_within (processed kept) position block here)
        ∙ ap (λ (b : Block). b ∷ drop (position + 1) (processed kept)) (get_or_from_slice_get (processed kept) position block block here)
        ∙ ap (λ n. block ∷ drop n (processed kept)) (sym moved) in
        ap (λ (z : List Block). z ++ drop next (processed kept)) pushed
        ∙ append_assoc blocks (block ∷ []) (drop next (processed kept))
        ∙ ap (λ (z : List Block). blocks ++ z) (sym rest)
        ∙ so
