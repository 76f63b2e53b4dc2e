-- What is kept of the heads that were read.
use Rattle.std.proofs.Common.{◌≡◌, ℕ, ◌+◌, true, false, List, [], ◌∷◌, ◌++◌, length, map, Option, None, Some, sym, ap, ◌∙◌, arith}
use Rattle.std.specs.Prelude.{IfSome, is_some}
use Rattle.mc_base.specs.declared.cid.Cid.{Cid}
use Rattle.mc_base.proofs.Booleans.{none_there}
use Rattle.mc_cast.specs.declared.message.Heads.{Heads}
use Rattle.mc_cast.specs.Cast.{first_unnamed}
use Rattle.mc_cast.specs.Steps.{StandFor, digests_of}

-- the first unnamed head stays the first
first_stays : (at : ℕ) (heads : List (Option (List ℕ))) (next : Option (List ℕ)) (index : ℕ) → first_unnamed at heads ≡ Some index → first_unnamed at (heads ++ next ∷ []) ≡ Some index
first_stays at [] next index h = absurd (cc)
first_stays at (None ∷ heads) next index h = h
first_stays at (Some named ∷ heads) next index h = first_stays (at + 1) heads next index h

stays : (heads : List (Option (List ℕ))) (next : Option (List ℕ)) (unnamed : Option ℕ) → IfSome unnamed (λ index. first_unnamed 0 heads ≡ Some index) → IfSome unnamed (λ index. first_unnamed 0 (heads ++ next ∷ []) ≡ Some index)
stays heads next None h = tt
stays heads next (Some index) h = first_stays 0 heads next index h

some_is_not_none : (unnamed : Option ℕ) → is_some unnamed ≡ true → unnamed ≡ None → ⊥
some_is_not_none None h e = absurd (cc)
some_is_not_none (Some index) h e = absurd (cc)

-- after an unnamed head nothing more is kept
pub kept_same : (kept new : Heads) (heads : List (Option (List ℕ))) (next : Option (List ℕ)) → is_some kept.unnamed ≡ true → new.unnamed ≡ kept.unnamed → StandFor kept heads → StandFor new (heads ++ next ∷ [])
kept_same kept new heads next unnamed same stands = record {
  all_named = λ none. absurd (some_is_not_none kept.unnamed unnamed (sym same ∙ none));
  unnamed = rw same (stays heads next kept.unnamed stands.unnamed);
}

-- all named, and then one that isn't
named_then_none : (at : ℕ) (cids : List Cid) → first_unnamed at (map Some (digests_of cids) ++ None ∷ []) ≡ Some (at + length cids)
named_then_none at [] = ap (λ (index : ℕ). Some index) (omega arith)
named_then_none at (cid ∷ cids) = named_then_none (at + 1) cids ∙ ap (λ (index : ℕ). Some index) (omega arith)

absurd_none : (index : ℕ) → ◌≡◌ {A = Option ℕ} (Some index) None → ⊥
absurd_none index e = cc

-- the first unnamed head
pub kept_first : (kept new : Heads) (heads : List (Option (List ℕ))) (next : Option (List ℕ)) (count : ℕ) → is_some kept.unnamed ≡ false → new.unnamed ≡ Some count → count ≡ length kept.cids → next ≡ None → StandFor kept heads → StandFor new (heads ++ next ∷ [])
kept_first kept new heads next count named first counted none stands = record {
  all_named = λ other. absurd (absurd_none count (sym first ∙ other));
  unnamed = rw (first, none, counted, stands.all_named (none_there kept.unnamed named)) (named_then_none 0 kept.cids ∙ ap (λ (index : ℕ). Some index) (omega arith));
}
