-- New identifiers, one after another.
use Rattle.std.proofs.Common.{◌≡◌, Bool, true, false, not, ◌||◌, ◌&&◌, List, [], ◌∷◌, ◌++◌, sym, refl, ap, ◌∙◌, append_assoc}
use Rattle.std.specs.List.{list_any}
use Rattle.std.specs.Prelude.{fold, if◌then◌else◌}
use Rattle.std.proofs.lemmas.List.{append-nil}
use Rattle.indexmap.specs.IndexSet.{insert_key}
use Rattle.std.proofs.lemmas.List.Folds.{list_any-append}
use Rattle.std.proofs.lemmas.Bool.{or_from, or_parts, not-true, and_parts}
use Rattle.mc_base.specs.declared.cid.Cid.{Cid}
use Rattle.mc_model.specs.Ascending.{is_once}
use Rattle.mc_model.specs.Front.{same_cid, is_among}
use Rattle.mc_model.proofs.Counts.{same_cid-symm}
use Rattle.mc_graph.specs.Front.{are_fresh}

or_none : (a b : Bool) → not (a || b) ≡ true → (a ≡ false) × (b ≡ false)
or_none true b e = absurd (let f : false ≡ true = e in cc)
or_none false false e = (refl, refl)
or_none false true e = absurd (let f : false ≡ true = e in cc)

both : (a b : Bool) → a ≡ false → b ≡ true → (not a && b) ≡ true
both a b e f = ap (λ z. not z && b) e ∙ f

-- with one more key that is none of them, they are still new
still_new : (keys : List Cid) (cid : Cid) (cids : List Cid) → list_any (is_among keys) cids ≡ false → list_any (same_cid cid) cids ≡ false → list_any (is_among (keys ++ cid ∷ [])) cids ≡ false
still_new keys cid [] e f = refl
still_new keys cid (other ∷ cids) e f =
    let here = or_parts (is_among keys other) (list_any (is_among keys) cids) e in
    let there = or_parts (same_cid cid other) (list_any (same_cid cid) cids) f in
    ap (λ t. t || list_any (is_among (keys ++ cid ∷ [])) cids) (list_any-append (same_cid other) keys (cid ∷ []) ∙ or_from (is_among keys other) (same_cid other cid || false) here.0 (ap (λ t. t || false) (same_cid-symm other cid ∙ there.0)))
    ∙ still_new keys cid cids here.1 there.1

pub fresh_head : (keys : List Cid) (cid : Cid) (cids : List Cid) → are_fresh keys (cid ∷ cids) ≡ true → is_among keys cid ≡ false
fresh_head keys cid cids e = (or_none (is_among keys cid) (list_any (is_among keys) cids) (and_parts (not (list_any (is_among keys) (cid ∷ cids))) (is_once same_cid (cid ∷ cids)) e).0).0

pub fresh_tail : (keys : List Cid) (cid : Cid) (cids : List Cid) → are_fresh keys (cid ∷ cids) ≡ true → are_fresh (keys ++ cid ∷ []) cids ≡ true
fresh_tail keys cid cids e =
    let parts = and_parts (not (list_any (is_among keys) (cid ∷ cids))) (is_once same_cid (cid ∷ cids)) e in
    let new = or_none (is_among keys cid) (list_any (is_among keys) cids) parts.0 in
    let once = and_parts (not (list_any (same_cid cid) cids)) (is_once same_cid cids) parts.1 in
    both (list_any (is_among (keys ++ cid ∷ [])) cids) (is_once same_cid cids) (still_new keys cid cids new.1 (not-true (list_any (same_cid cid) cids) once.0)) once.1

-- new identifiers that are inserted in turn stand at the end
pub insert_fresh : (keys cids : List Cid) → are_fresh keys cids ≡ true → fold (insert_key same_cid) keys cids ≡ keys ++ cids
insert_fresh keys [] e = sym (append-nil keys)
insert_fresh keys (cid ∷ cids) e =
    ap (λ (z : List Cid). fold (insert_key same_cid) z cids) (ap (λ t. if t then keys else keys ++ cid ∷ []) (fresh_head keys cid cids e))
    ∙ insert_fresh (keys ++ cid ∷ []) cids (fresh_tail keys cid cids e)
    ∙ append_assoc keys (cid ∷ []) cids
