-- What is linked follows from the order, the heads and the gaps: a processed block is linked unless it is a head, and
-- another one where it is a gap.
use Rattle.std.proofs.Common.{◌≡◌, ℕ, Bool, true, false, not, cond, List, [], ◌∷◌, ◌||◌, ◌&&◌, Option, Some, None, sym, refl, ap, ◌∙◌}
use Rattle.std.specs.Prelude.{find, is_some, if◌then◌else◌}
use Rattle.std.specs.List.{list_any}
use Rattle.std.specs.Option.{option_map}
use Rattle.mc_base.specs.declared.cid.Cid.{Cid}
use Rattle.mc_model.specs.declared.block.Block.{Block}
use Rattle.mc_model.specs.Front.{same_cid, is_among, is_linked, is_processed, is_gap, head_at}
use Rattle.mc_model.specs.Kept.{Kept, processed}
use Rattle.mc_model.proofs.Blocks.{is_processed_has}

find_any : {X : Type 0} (test : X → Bool) (xs : List X) → is_some (find test xs) ≡ list_any test xs
find_any test [] = refl
find_any test (x ∷ xs) = elim (test x) as (λ t. is_some (cond t (Some x) (find test xs)) ≡ (t || list_any test xs)) [
  | true ↦ refl
  | false ↦ find_any test xs
]

mapped : {X Y : Type 0} (f : X → Y) (o : Option X) → is_some (option_map f o) ≡ is_some o
mapped f None = refl
mapped f (Some x) = refl

linked_from : (blocks : List Block) (cid : Cid) → is_linked blocks cid ≡ cond (is_processed blocks cid) (not (is_some (head_at blocks cid))) (is_gap blocks cid)
linked_from blocks cid = by (is_linked blocks cid) (is_processed blocks cid) refl
  where
    by : (linked done : Bool) → is_processed blocks cid ≡ done → linked ≡ cond done (not (is_some (if linked then None else option_map (λ (block : Block). block.delta.priority) (find (λ (block : Block). same_cid cid block.cid) blocks)))) (linked && not done)
    by true true e = refl
    by true false e = refl
    by false true e = sym (ap not (mapped (λ (block : Block). block.delta.priority) (find (λ (block : Block). same_cid cid block.cid) blocks) ∙ find_any (λ (block : Block). same_cid cid block.cid) blocks ∙ e))
    by false false e = refl

pub linked_at_head : (kept : Kept) (cid : Cid) (height : Option ℕ) → height ≡ head_at (processed kept) cid → is_among kept.order cid ≡ true → not (is_some height) ≡ is_linked (processed kept) cid
linked_at_head kept cid height is done =
    ap (λ (z : Option ℕ). not (is_some z)) is
    ∙ sym (linked_from (processed kept) cid ∙ ap (λ p. cond p (not (is_some (head_at (processed kept) cid))) (is_gap (processed kept) cid)) (is_processed_has kept.graph kept.order cid ∙ done))

pub linked_at_gap : (kept : Kept) (cid : Cid) (gap : Bool) → gap ≡ is_gap (processed kept) cid → is_among kept.order cid ≡ false → gap ≡ is_linked (processed kept) cid
linked_at_gap kept cid gap is open' =
    is ∙ sym (linked_from (processed kept) cid ∙ ap (λ p. cond p (not (is_some (head_at (processed kept) cid))) (is_gap (processed kept) cid)) (is_processed_has kept.graph kept.order cid ∙ open'))
