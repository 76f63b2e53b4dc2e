-- The blocks of a delete, made one after another.
use Rattle.std.proofs.Common.{◌≡◌, ◌≤◌, ℕ, Bool, true, false, cond, ◌||◌, List, [], ◌∷◌, ◌++◌, length, map, take, drop, get_or, ◌+◌, ◌<◌, Option, Some, None, Result, Ok, Err, refl, sym, ◌∙◌, ap, subst, inl, inr}
use Rattle.std.specs.Prelude.{IfSome, IfErr, find, is_some}
use Rattle.std.specs.List.{list_all}
use Rattle.std.specs.Option.{option_map, option_or}
use Rattle.std.proofs.lemmas.List.Folds.{list_any-append}
use Rattle.std.proofs.lemmas.List.{take-append-drop, drop_more, map-id}
use Rattle.std.proofs.lemmas.Bool.{or_right, or_left, or_parts}
use Rattle.mc_base.specs.declared.cid.Cid.{Cid}
use Rattle.mc_model.specs.declared.block.Stored.{Stored}
use Rattle.mc_model.specs.declared.delta.Delta.{Delta}
use Rattle.mc_model.specs.Cuts.{IsCuts, pairs}
use Rattle.mc_model.specs.Front.{same_cid, is_among}
use Rattle.mc_model.specs.Kept.{Kept, processed, bytes_at, is_stored}
use Rattle.mc_model.specs.Made.{made_bytes, made_cid, next_priority}
use Rattle.mc_model.specs.Offer.{block_max, offer}
use Rattle.mc_write.specs.Cutting.{CutsRefused}
use Rattle.mc_write.specs.declared.error.WriteError.{WriteError}
use Rattle.mc_write.specs.declared.error.WriteError.TheVariants as write
use Rattle.mc_plan.specs.declared.deletes.MadeBlock.{MadeBlock}
use Rattle.mc_plan.specs.declared.error.CoreError.{CoreError}
use Rattle.mc_plan.specs.declared.error.CoreError.TheVariants.{Clash}
use Rattle.mc_plan.specs.Deletes.{with_made, with_block, with_all, has_made, links_after, chain_clash, is_left, IsDeltas, IsDelete, DeltasRefusal, IsMade, AreMade, IsNextMade}
use Rattle.mc_plan.specs.Puts.{made_block, next_links}
use Rattle.mc_plan.specs.Refusals.{Is, IsDue, OfDelete, kind_of, clash_refusal, other_refusal}
use Rattle.mc_plan.proofs.KindFacts.{by_kind}
use Rattle.mc_plan.proofs.RefusalFacts.{due_first}

-- what isn't the identifier of a block is processed, and stored, as it was before the block

among_last : (cid last : Cid) (cids : List Cid) → same_cid cid last ≡ false → is_among (cids ++ last ∷ []) cid ≡ is_among cids cid
among_last cid last [] e = ap (λ b. b || false) e
among_last cid last (c ∷ cids) e = ap (λ b. same_cid cid c || b) (among_last cid last cids e)

pub at_last : (cid last : Cid) (bytes : List ℕ) (graph : List Stored) → same_cid cid last ≡ false → bytes_at (graph ++ record { cid = last; bytes = bytes } ∷ []) cid ≡ bytes_at graph cid
at_last cid last bytes [] e = ap (λ t. option_map (λ (stored : Stored). stored.bytes) (cond t (Some (record { cid = last; bytes = bytes })) None)) e
at_last cid last bytes (s ∷ graph) e =
    elim (same_cid cid s.cid) as (λ t. option_map (λ (stored : Stored). stored.bytes) (cond t (Some s) (find (λ (stored : Stored). same_cid cid stored.cid) (graph ++ record { cid = last; bytes = bytes } ∷ [])))
    ≡ option_map (λ (stored : Stored). stored.bytes) (cond t (Some s) (find (λ (stored : Stored). same_cid cid stored.cid) graph))) [
      | true ↦ refl
      | false ↦ at_last cid last bytes graph e
    ]

at_with : (kept : Kept) (cid last : Cid) (bytes : List ℕ) → same_cid cid last ≡ false → bytes_at (with_made kept last bytes).graph cid ≡ bytes_at kept.graph cid
at_with kept cid last bytes e =
    elim (is_stored kept.graph last) as (λ t. bytes_at (cond t kept.graph (kept.graph ++ record { cid = last; bytes = bytes } ∷ [])) cid ≡ bytes_at kept.graph cid) [
      | true ↦ refl
      | false ↦ at_last cid last bytes kept.graph e
    ]

among_all : (blocks : List MadeBlock) (kept : Kept) (cid : Cid) → has_made blocks cid ≡ false → is_among (with_all kept blocks).order cid ≡ is_among kept.order cid
among_all [] kept cid e = refl
among_all (made ∷ blocks) kept cid e =
    let parts = or_parts (same_cid cid made.block.cid) (has_made blocks cid) e in
    among_all blocks (with_block kept made) cid parts.1 ∙ among_last cid made.block.cid kept.order parts.0

at_all : (blocks : List MadeBlock) (kept : Kept) (cid : Cid) → has_made blocks cid ≡ false → bytes_at (with_all kept blocks).graph cid ≡ bytes_at kept.graph cid
at_all [] kept cid e = refl
at_all (made ∷ blocks) kept cid e =
    let parts = or_parts (same_cid cid made.block.cid) (has_made blocks cid) e in
    at_all blocks (with_block kept made) cid parts.1 ∙ at_with kept cid made.block.cid made.bytes parts.0

among_more : (cid last : Cid) (cids : List Cid) → is_among cids cid ≡ true → is_among (cids ++ last ∷ []) cid ≡ true
among_more cid last cids e = list_any-append (same_cid cid) cids (last ∷ []) ∙ or_left (is_among cids cid) (is_among (last ∷ []) cid) e

pub among_here : (cid last : Cid) (cids : List Cid) → same_cid cid last ≡ true → is_among (cids ++ last ∷ []) cid ≡ true
among_here cid last cids e = list_any-append (same_cid cid) cids (last ∷ []) ∙ or_right (is_among cids cid) (is_among (last ∷ []) cid) (ap (λ b. b || false) e)

stays_among : (blocks : List MadeBlock) (kept : Kept) (cid : Cid) → is_among kept.order cid ≡ true → is_among (with_all kept blocks).order cid ≡ true
stays_among [] kept cid e = e
stays_among (made ∷ blocks) kept cid e = stays_among blocks (with_block kept made) cid (among_more cid made.block.cid kept.order e)

among_made : (blocks : List MadeBlock) (kept : Kept) (cid : Cid) → has_made blocks cid ≡ true → is_among (with_all kept blocks).order cid ≡ true
among_made [] kept cid e = absurd (let f : false ≡ true = e in cc)
among_made (made ∷ blocks) kept cid e =
    elim (same_cid cid made.block.cid) as (λ t. same_cid cid made.block.cid ≡ t → (t || has_made blocks cid) ≡ true → is_among (with_all kept (made ∷ blocks)).order cid ≡ true) [
      | true ↦ λ same h. stays_among blocks (with_block kept made) cid (among_here cid made.block.cid kept.order same)
      | false ↦ λ same h. among_made blocks (with_block kept made) cid h
    ] refl e

-- a clash after some made blocks

clash_same : (blocks : List MadeBlock) (kept : Kept) (cid : Cid) (bytes : List ℕ) → has_made blocks cid ≡ false → clash_refusal (with_all kept blocks) cid bytes ≡ clash_refusal kept cid bytes
clash_same blocks kept cid bytes e =
    ap (λ t. cond t (Some (Clash cid)) (other_refusal cid bytes (bytes_at (with_all kept blocks).graph cid))) (among_all blocks kept cid e)
    ∙ ap (λ found. cond (is_among kept.order cid) (Some (Clash cid)) (other_refusal cid bytes found)) (at_all blocks kept cid e)

clash_made : (blocks : List MadeBlock) (kept : Kept) (cid : Cid) (bytes : List ℕ) → has_made blocks cid ≡ true → clash_refusal (with_all kept blocks) cid bytes ≡ Some (Clash cid)
clash_made blocks kept cid bytes e = ap (λ t. cond t (Some (Clash cid)) (other_refusal cid bytes (bytes_at (with_all kept blocks).graph cid))) (among_made blocks kept cid e)

pub made_clashes : (told : Option Kept) (blocks : List MadeBlock) (links : List Cid) (delta : Delta) (cid : Cid) → has_made blocks cid ≡ true → cid ≡ made_cid links delta
    → IfSome told (λ kept. IsDue (Is (clash_refusal (with_all kept blocks) (made_cid links delta) (made_bytes links delta))) (Clash cid))
made_clashes None blocks links delta cid e is = tt
made_clashes (Some kept) blocks links delta cid e is =
    subst (λ c. Some (Clash cid) ≡ clash_refusal (with_all kept blocks) c (made_bytes links delta)) is (sym (clash_made blocks kept cid (made_bytes links delta) e))

pub check_fails : (told : Option Kept) (blocks : List MadeBlock) (links : List Cid) (delta : Delta) (cid : Cid) (bytes : List ℕ) (error : CoreError) → has_made blocks cid ≡ false
    → cid ≡ made_cid links delta → bytes ≡ made_bytes links delta → IfSome told (λ kept. IsDue (Is (clash_refusal kept cid bytes)) error)
    → IfSome told (λ kept. IsDue (Is (clash_refusal (with_all kept blocks) (made_cid links delta) (made_bytes links delta))) error)
check_fails None blocks links delta cid bytes error e is are due = tt
check_fails (Some kept) blocks links delta cid bytes error e is are due =
    subst (λ b. IsDue (Is (clash_refusal (with_all kept blocks) (made_cid links delta) b)) error) are
    (subst (λ c. IsDue (Is (clash_refusal (with_all kept blocks) c bytes)) error) is
    (subst (λ refusal. IsDue (Is refusal) error) (sym (clash_same blocks kept cid bytes e)) due))

block_is : (cid : Cid) (links : List Cid) (delta : Delta) → cid ≡ made_cid links delta → record { cid = cid; links = links; delta = delta } ≡ made_block links delta
block_is cid links delta e = λ i. record { cid = e i; links = links; delta = delta }

pub made_is : (told : Option Kept) (blocks : List MadeBlock) (links : List Cid) (delta : Delta) (cid : Cid) (bytes : List ℕ) (known : Bool) → has_made blocks cid ≡ false
    → cid ≡ made_cid links delta → bytes ≡ made_bytes links delta → (length bytes ≤ block_max → offer cid bytes ≡ Ok (record { cid = cid; links = links; delta = delta }))
    → IfSome told (λ kept. clash_refusal kept cid bytes ≡ None) → IfSome told (λ kept. known ≡ is_stored kept.graph cid)
    → IfSome told (λ kept. IsMade (with_all kept blocks) links delta (record { block = record { cid = cid; links = links; delta = delta }; bytes = bytes; known = known }))
made_is None blocks links delta cid bytes known e is are good allowed stored = tt
made_is (Some kept) blocks links delta cid bytes known e is are good allowed stored = record {
  is_block = block_is cid links delta is;
  is_bytes = are;
  good = good;
  allowed = clash_same blocks kept cid bytes e ∙ allowed;
  stored = stored ∙ ap is_some (sym (at_all blocks kept cid e));
}

-- one block after another

links_last : (blocks : List MadeBlock) (links : List Cid) (made : MadeBlock) → links_after links (blocks ++ made ∷ []) ≡ made.block.cid ∷ []
links_last [] links made = refl
links_last (first ∷ blocks) links made = links_last blocks (first.block.cid ∷ []) made

are_more : (deltas : List Delta) (blocks : List MadeBlock) (kept : Kept) (links : List Cid) (delta : Delta) (made : MadeBlock) → AreMade kept links deltas blocks
    → IsMade (with_all kept blocks) (links_after links blocks) delta made → AreMade kept links (deltas ++ delta ∷ []) (blocks ++ made ∷ [])
are_more [] [] kept links delta made are is = (is, tt)
are_more [] (first ∷ blocks) kept links delta made are is = absurd are
are_more (d ∷ deltas) [] kept links delta made are is = absurd are
are_more (d ∷ deltas) (first ∷ blocks) kept links delta made are is = (are.0, are_more deltas blocks (with_block kept first) (first.block.cid ∷ []) delta made are.1 is)

abbrev step_clash : Kept → List Delta → Cid → List ℕ → Option CoreError
step_clash kept deltas cid bytes = option_or (clash_refusal kept cid bytes) (chain_clash (with_made kept cid bytes) (cid ∷ []) deltas)

pub is_cid : (kept : Kept) (links : List Cid) (delta : Delta) (made : MadeBlock) → IsMade kept links delta made → made.block.cid ≡ made_cid links delta
is_cid kept links delta made is = ap (λ block. block.cid) is.is_block

-- the blocks that were made don't clash
pub clash_left : (deltas more : List Delta) (blocks : List MadeBlock) (kept : Kept) (links : List Cid) → AreMade kept links deltas blocks
    → chain_clash kept links (deltas ++ more) ≡ chain_clash (with_all kept blocks) (links_after links blocks) more
clash_left [] more [] kept links are = refl
clash_left [] more (made ∷ blocks) kept links are = absurd are
clash_left (delta ∷ deltas) more [] kept links are = absurd are
clash_left (delta ∷ deltas) more (made ∷ blocks) kept links are =
    ap (λ cid. step_clash kept (deltas ++ more) cid (made_bytes links delta)) (sym (is_cid kept links delta made are.0))
    ∙ ap (step_clash kept (deltas ++ more) made.block.cid) (sym are.0.is_bytes)
    ∙ ap (λ refusal. option_or refusal (chain_clash (with_block kept made) (made.block.cid ∷ []) (deltas ++ more))) are.0.allowed
    ∙ clash_left deltas more blocks (with_block kept made) (made.block.cid ∷ []) are.1

-- the blocks so far, and the links of the next one
pub record IsMaking (kept : Kept) (first : List Cid) (deltas : List Delta) (blocks : List MadeBlock) (links : List Cid) : Type 0 where
  pub are : AreMade kept first deltas blocks
  pub last : links ≡ links_after first blocks

pub making_begins : (told : Option Kept) (links : List Cid) → IfSome told (λ kept. IsMaking kept links [] [] links)
making_begins None links = tt
making_begins (Some kept) links = record { are = tt; last = refl }

pub making_goes_on : (told : Option Kept) (first : List Cid) (deltas : List Delta) (blocks : List MadeBlock) (links : List Cid) (delta : Delta) (new : List MadeBlock) (next : List Cid)
    → IfSome told (λ kept. IsMaking kept first deltas blocks links) → IfSome told (λ kept. IsNextMade kept blocks links delta new next) → IfSome told (λ kept. IsMaking kept first (deltas ++ delta ∷ []) new next)
making_goes_on None first deltas blocks links delta new next so_far more = tt
making_goes_on (Some kept) first deltas blocks links delta new next so_far more = record {
  are = subst (λ b. AreMade kept first (deltas ++ delta ∷ []) b) (sym more.is_new)
      (are_more deltas blocks kept first delta more.made so_far.are (subst (λ l. IsMade (with_all kept blocks) l delta more.made) so_far.last more.is_made));
  last = more.is_next ∙ sym (links_last blocks first more.made) ∙ ap (links_after first) (sym more.is_new);
}

pub making_ends : (told : Option Kept) (first : List Cid) (deltas all : List Delta) (blocks : List MadeBlock) (links : List Cid) → deltas ≡ all
    → IfSome told (λ kept. IsMaking kept first deltas blocks links) → IfSome told (λ kept. AreMade kept first all blocks)
making_ends None first deltas all blocks links e so_far = tt
making_ends (Some kept) first deltas all blocks links e so_far = subst (λ d. AreMade kept first d blocks) e so_far.are

pub making_fails : (told : Option Kept) (first : List Cid) (deltas rest all : List Delta) (blocks : List MadeBlock) (links : List Cid) (delta : Delta) (error : CoreError) → all ≡ deltas ++ delta ∷ rest
    → IfSome told (λ kept. IsMaking kept first deltas blocks links) → IfSome told (λ kept. IsDue (Is (clash_refusal (with_all kept blocks) (made_cid links delta) (made_bytes links delta))) error)
    → IfSome told (λ kept. IsDue (Is (chain_clash kept first all)) error)
making_fails None first deltas rest all blocks links delta error e so_far due = tt
making_fails (Some kept) first deltas rest all blocks links delta error e so_far due =
    subst (λ refusal. IsDue (Is refusal) error) (sym (ap (chain_clash kept first) e ∙ clash_left deltas (delta ∷ rest) blocks kept first so_far.are ∙ ap (λ l. chain_clash (with_all kept blocks) l (delta ∷ rest)) (sym so_far.last)))
    (due_first (clash_refusal (with_all kept blocks) (made_cid links delta) (made_bytes links delta)) _ error due)

-- the refusal of a delete whose deltas are known is a clash
deltas_due : (kept : Kept) (key : List ℕ) (deltas : List Delta) (error : CoreError) → IsDeltas kept key deltas → IsDue (Is (chain_clash kept (next_links kept) deltas)) error → IsDue (DeltasRefusal kept key) error
deltas_due kept key deltas error is due = by_kind (kind_of error) (λ clash. inl (deltas, is, clash)) (λ x. x) (λ x. x) due

-- that of a delete without deltas is what they are refused for
pub tombs_due : (told : Option Kept) (key : List ℕ) (cause : WriteError) (error : CoreError) → OfDelete cause error
    → IfSome told (λ kept. CutsRefused (next_links kept) (next_priority (processed kept)) key (pairs (processed kept) key) cause) → IfSome told (λ kept. IsDue (DeltasRefusal kept key) error)
tombs_due None key cause error of refused = tt
tombs_due (Some kept) key (write.BlockTooLarge len) error of refused = subst (IsDue (DeltasRefusal kept key)) (sym of) (inr (inr (len, refl, refused)))
tombs_due (Some kept) key write.PriorityFull error of refused = subst (IsDue (DeltasRefusal kept key)) (sym of) (inr (inl (refl, refused)))
tombs_due (Some kept) key write.Failed error of refused = subst (IsDue (DeltasRefusal kept key)) (sym of) tt
tombs_due (Some kept) key write.Memory error of refused = subst (IsDue (DeltasRefusal kept key)) (sym of) tt

pub blocks_due : {T : Type 0} (told : Option Kept) (key : List ℕ) (links : List Cid) (deltas : List Delta) (result : Result T CoreError) → list_all is_left deltas ≡ true
    → IfSome told (λ kept. IsCuts (next_links kept) (next_priority (processed kept)) key (pairs (processed kept) key) deltas) → IfSome told (λ kept. links ≡ next_links kept)
    → IfSome told (λ kept. IfErr result (IsDue (Is (chain_clash kept links deltas)))) → IfSome told (λ kept. IfErr result (IsDue (DeltasRefusal kept key)))
blocks_due None key links deltas result left cuts first due = tt
blocks_due (Some kept) key links deltas (Ok value) left cuts first due = tt
blocks_due (Some kept) key links deltas (Err error) left cuts first due =
    deltas_due kept key deltas error (record { cuts = cuts; left = left }) (subst (λ l. IsDue (Is (chain_clash kept l deltas)) error) first due)

pub delete_is : (told : Option Kept) (key : List ℕ) (links : List Cid) (deltas : List Delta) (blocks : List MadeBlock) → list_all is_left deltas ≡ true
    → IfSome told (λ kept. IsCuts (next_links kept) (next_priority (processed kept)) key (pairs (processed kept) key) deltas) → IfSome told (λ kept. links ≡ next_links kept)
    → IfSome told (λ kept. AreMade kept links deltas blocks) → IfSome told (λ kept. IsDelete kept key blocks)
delete_is None key links deltas blocks left cuts first are = tt
delete_is (Some kept) key links deltas blocks left cuts first are =
    record { deltas = deltas; is = record { cuts = cuts; left = left }; are = subst (λ l. AreMade kept l deltas blocks) first are }

-- where an item was yielded, it stands after those before
pub rest_of : {A : Type 0} (xs all : List A) (x : A) → map (λ y. y) xs ≡ take (length xs) all → length xs < length all → x ≡ get_or all (length xs) x → (rest : List A) × (all ≡ xs ++ x ∷ rest)
rest_of xs all x so_far within is = (
  drop (length xs + 1) all,
  sym (take-append-drop (length xs) all) ∙ ap (λ l. l ++ drop (length xs) all) (sym so_far ∙ map-id xs)
      ∙ ap (λ l. xs ++ l) (drop_more all (length xs) x within ∙ ap (λ y. y ∷ drop (length xs + 1) all) (sym is)),
)
