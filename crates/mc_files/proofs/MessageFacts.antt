-- A broadcast that names some roots names these alone.
use Rattle.std.proofs.Common.{◌≡◌, ◌∙◌, ℕ, true, List, [], ◌∷◌, length, map, Option, Some, None, Result, Ok, Err, refl, sym, subst, ap}
use Rattle.std.specs.Prelude.{All, IfOk}
use Rattle.std.specs.List.{list_all}
use Rattle.std.specs.Option.{unwrap_or}
use Rattle.std.proofs.lemmas.Bool.{and_parts, eqb-true}
use Rattle.std.proofs.lemmas.List.Elements.{All-cons, All-nil}
use Rattle.mc_base.specs.declared.cid.Cid.{Cid}
use Rattle.mc_car.specs.Car.{has_digest}
use Rattle.mc_cast.specs.Cast.{cast_bytes}
use Rattle.mc_cast.specs.Reads.{IsCast, IsReadAgain}
use Rattle.mc_cast.specs.Steps.{digest, digests_of}
use Rattle.mc_plan.specs.Hears.{cast_refusal}
use Rattle.mc_plan.proofs.HearFacts.{read_allowed}
use Rattle.mc_files.specs.Steps.{NamesJust}

-- ---- what names the same digests names the same blocks

abbrev somes : List (Option (List ℕ)) → List (List ℕ)
somes [] = []
somes (None ∷ heads) = somes heads
somes (Some name ∷ heads) = name ∷ somes heads

somes_back : (names : List (List ℕ)) → somes (map Some names) ≡ names
somes_back [] = refl
somes_back (name ∷ names) = ap (λ (l : List (List ℕ)). name ∷ l) (somes_back names)

abbrev cid_with : List ℕ → Cid
cid_with name = record { 0 = name }

cids_back : (cids : List Cid) → map cid_with (digests_of cids) ≡ cids
cids_back [] = refl
cids_back (cid ∷ cids) = ap (λ (l : List Cid). cid ∷ l) (cids_back cids)

same_names : (text : List ℕ) (cids roots : List Cid) → IsCast text (digests_of cids) → IsCast text (digests_of roots) → cids ≡ roots
same_names text cids roots one other =
    let heads : map Some (digests_of cids) ≡ map Some (digests_of roots) = ap (λ (o : Option (List (Option (List ℕ)))). unwrap_or o []) (sym one.heads ∙ other.heads) in
    let names : digests_of cids ≡ digests_of roots = sym (somes_back (digests_of cids)) ∙ ap somes heads ∙ somes_back (digests_of roots) in
    sym (cids_back cids) ∙ ap (map cid_with) names ∙ cids_back roots

-- ---- the written message

all_long : (roots : List Cid) → list_all has_digest roots ≡ true → All (λ (name : List ℕ). length name ≡ 32) (digests_of roots)
all_long [] is = All-nil (λ (name : List ℕ). length name ≡ 32)
all_long (root ∷ roots) is =
    let parts = and_parts (has_digest root) (list_all has_digest roots) is in
    All-cons (λ (name : List ℕ). length name ≡ 32) (digest root) (digests_of roots) (eqb-true (length root.0) 32 parts.0) (all_long roots parts.1)

written : IsReadAgain → (roots : List Cid) → list_all has_digest roots ≡ true → IsCast (cast_bytes (digests_of roots)) (digests_of roots)
written again roots digests = again (digests_of roots) (all_long roots digests)

pub message_named : {E : Type 0} → IsReadAgain → (roots : List Cid) (result : Result (List ℕ) E) → list_all has_digest roots ≡ true → IfOk result (λ message. message ≡ cast_bytes (digests_of roots)) → IfOk result (λ message. NamesJust message roots)
message_named again roots (Ok message) digests is =
    subst (λ (text : List ℕ). NamesJust text roots) (sym is) (λ cids named. same_names (cast_bytes (digests_of roots)) cids roots named (written again roots digests))
message_named again roots (Err error) digests is = tt

pub message_allowed : {E : Type 0} → IsReadAgain → (roots : List Cid) (result : Result (List ℕ) E) → list_all has_digest roots ≡ true → IfOk result (λ message. message ≡ cast_bytes (digests_of roots)) → IfOk result (λ message. cast_refusal message ≡ None)
message_allowed again roots (Ok message) digests is =
    subst (λ (text : List ℕ). cast_refusal text ≡ None) (sym is) (read_allowed (cast_bytes (digests_of roots)) (Ok roots) (written again roots digests))
message_allowed again roots (Err error) digests is = tt
