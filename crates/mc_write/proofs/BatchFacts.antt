-- A batch after a delete, and its tombstones.
use Rattle.std.proofs.Common.{◌≡◌, ℕ, not, List, [], ◌∷◌, ◌++◌, map, Option, Some, None, sym, ap, ◌∙◌}
use Rattle.std.specs.Prelude.{filter, IfSome}
use Rattle.std.specs.Str.{bytes_eq}
use Rattle.std.proofs.lemmas.List.{append-nil, map-append}
use Rattle.std.proofs.lemmas.List.Concat.{flat_map-append}
use Rattle.mc_model.specs.declared.delta.Element.{Element}
use Rattle.mc_model.specs.declared.delta.Tomb.{Tomb}
use Rattle.mc_model.specs.Ascending.{ascending}
use Rattle.mc_model.specs.Batch.{deleted_cmp, deleted_tomb, batch_delete}
use Rattle.mc_model.specs.Cuts.{Pair, pairs}
use Rattle.mc_model.specs.Kept.{Kept, processed}
use Rattle.mc_model.specs.State.{OpenBatch}
use Rattle.mc_write.specs.Held.{Dropped, deleted_of, deleted_in}

-- what is read of a keeper that tells is what a batch's delete takes
pub deleted_told : (told : Option Kept) (key : List ℕ) (old new : OpenBatch) (found : List Pair) → IfSome told (λ kept. found ≡ pairs (processed kept) key)
    → new.elements ≡ filter (λ (element : Element). not (bytes_eq element.key key)) old.elements → new.pairs ≡ ascending deleted_cmp (old.pairs ++ map (λ (pair : Pair). (key, pair.cid)) found)
    → IfSome told (λ kept. new ≡ batch_delete key (pairs (processed kept) key) old)
deleted_told None key old new found f e p = f
deleted_told (Some kept) key old new found f e p =
    let all = p ∙ ap (λ (taken : List Pair). ascending deleted_cmp (old.pairs ++ map (λ (pair : Pair). (key, pair.cid)) taken)) f in
    λ i. record { elements = e i; pairs = all i }

-- the tombstones of one key more
pub tombs_more : {A : Type 0} (f : A → Dropped) (yielded : List A) (entry : A) (tombs now : List Tomb) → tombs ≡ map deleted_tomb (deleted_in (map f yielded)) → now ≡ tombs ++ map deleted_tomb (deleted_of (f entry))
    → now ≡ map deleted_tomb (deleted_in (map f (yielded ++ entry ∷ [])))
tombs_more f yielded entry tombs now so_far more =
    let all : deleted_in (map f (yielded ++ entry ∷ [])) ≡ deleted_in (map f yielded) ++ deleted_of (f entry) =
    ap deleted_in (map-append f yielded (entry ∷ [])) ∙ flat_map-append deleted_of (map f yielded) (f entry ∷ []) ∙ ap (λ rest. deleted_in (map f yielded) ++ rest) (append-nil (deleted_of (f entry))) in
    more ∙ ap (λ before. before ++ map deleted_tomb (deleted_of (f entry))) so_far ∙ sym (map-append deleted_tomb (deleted_in (map f yielded)) (deleted_of (f entry))) ∙ ap (map deleted_tomb) (sym all)
