-- The processed blocks as sections, one after another.
use Rattle.std.proofs.Common.{◌≡◌, ◌∙◌, ℕ, suc, ◌+◌, List, [], ◌∷◌, ◌++◌, take, Option, Some, None, Ok, sym, subst, inl, inr, ap, append_assoc, arith}
use Rattle.std.specs.Prelude.{⊤, slice_get}
use Rattle.std.proofs.Math.Seq.{take-suc}
use Rattle.std.proofs.lemmas.Grind.{flat_map-append}
use Rattle.std.proofs.lemmas.List.{append-nil, take_all}
use Rattle.std.proofs.lemmas.Option.{get_or_from_slice_get, slice_get_cases, slice_get_within}
use Rattle.mc_base.specs.Told.{Told}
use Rattle.mc_base.specs.declared.cid.Cid.{Cid}
use Rattle.mc_car.specs.Car.{IsCarText}
use Rattle.mc_car.specs.Places.{AddsSections}
use Rattle.mc_car.specs.declared.car.Section.{Section}
use Rattle.mc_model.specs.declared.block.Stored.{Stored}
use Rattle.mc_model.specs.Kept.{Kept, bytes_at, processed}
use Rattle.mc_model.specs.Made.{head_cids}
use Rattle.mc_plan.specs.Events.{ReplicaState}
use Rattle.mc_files.specs.Files.{IsExport, section_of, sections_in, sections_of}
use Rattle.mc_files.proofs.LookFacts.{Looked, Looks, looked, looked_answer, looked_first, looked_then}

-- a file has the sections of the first so many besides
abbrev pub HasFirst : List ℕ → List ℕ → ℕ → Kept → Type 0
HasFirst old file count kept = AddsSections old file (sections_in kept.graph (take count kept.order))

adds_more : (old mid new : List ℕ) (first more : List Section) → AddsSections old mid first → AddsSections mid new more → AddsSections old new (first ++ more)
adds_more old mid new first more begins goes = λ roots sections is. subst (IsCarText new roots) (append_assoc sections first more) (goes roots (sections ++ first) (begins roots sections is))

pub adds_none : (file : List ℕ) → AddsSections file file []
adds_none file = λ roots sections is. subst (IsCarText file roots) (sym (append-nil sections)) is

one_section : (graph : List Stored) (cids : List Cid) (cid : Cid) → sections_in graph (cids ++ cid ∷ []) ≡ sections_in graph cids ++ section_of cid (bytes_at graph cid)
one_section graph cids cid =
    flat_map-append (λ (c : Cid). section_of c (bytes_at graph c)) cids (cid ∷ []) ∙ ap (λ (l : List Section). sections_in graph cids ++ l) (append-nil (section_of cid (bytes_at graph cid)))

one_taken : (order : List Cid) (position : ℕ) (cid : Cid) → Some cid ≡ slice_get order position → take position order ++ cid ∷ [] ≡ take (position + 1) order
one_taken order position cid is =
    ap (λ (c : Cid). take position order ++ c ∷ []) (sym (get_or_from_slice_get order position cid cid (sym is)))
    ∙ sym (take-suc order position cid (slice_get_within order position cid (sym is)))
    ∙ ap (λ (n : ℕ). take n order) (let next : suc position ≡ position + 1 = omega arith in next)

one_more : (kept : Kept) (old file new : List ℕ) (position : ℕ) (cid : Cid) → HasFirst old file position kept → Some cid ≡ slice_get kept.order position → AddsSections file new (section_of cid (bytes_at kept.graph cid)) → HasFirst old new (position + 1) kept
one_more kept old file new position cid so_far is more =
    let first = take position kept.order in
    let section = section_of cid (bytes_at kept.graph cid) in
    subst (AddsSections old new) (sym (one_section kept.graph first cid) ∙ ap (sections_in kept.graph) (one_taken kept.order position cid is)) (adds_more old file new (sections_in kept.graph first) section so_far more)

all_taken : (order : List Cid) (position : ℕ) → None ≡ slice_get order position → take position order ≡ order
all_taken order position is = elim (slice_get_cases order position).1 [
  | inl within ↦ absurd (let e : Some within.0 ≡ None = sym within.2 ∙ sym is in cc)
  | inr past ↦ take_all position order past.0
]

-- a block is added as it is read
pub block_added : (old new : List ℕ) (cid : Cid) (found : Option (List ℕ)) (s after : Option ReplicaState) → AddsSections old new (section_of cid found)
    → Told s after (Looks (λ (kept : Kept) (bytes : Option (List ℕ)). bytes ≡ bytes_at kept.graph cid) ⊤ (Ok found))
    → Told s after (Looks (λ (kept : Kept) (done : ⊤). AddsSections old new (section_of cid (bytes_at kept.graph cid))) ⊤ (Ok tt))
block_added old new cid found s after adds read =
    looked_answer (λ (kept : Kept). ⊤) (λ (kept : Kept) (bytes : Option (List ℕ)). bytes ≡ bytes_at kept.graph cid) (λ (kept : Kept) (done : ⊤). AddsSections old new (section_of cid (bytes_at kept.graph cid))) ⊤ ⊤ found tt s s after
    (λ kept any is. subst (λ (bytes : Option (List ℕ)). AddsSections old new (section_of cid bytes)) is adds) (looked_first (λ (kept : Kept). ⊤) s (λ kept. tt)) read

-- one block more, which stands at this place and is read

pub section_more : (old file new : List ℕ) (position : ℕ) (cid : Cid) (found : Option Cid) (s before mid after : Option ReplicaState) → found ≡ Some cid → Told s before (Looked (HasFirst old file position))
    → Told before mid (Looks (λ (kept : Kept) (found : Option Cid). found ≡ slice_get kept.order position) ⊤ (Ok found))
    → Told mid after (Looks (λ (kept : Kept) (done : ⊤). AddsSections file new (section_of cid (bytes_at kept.graph cid))) ⊤ (Ok tt))
    → Told s after (Looked (HasFirst old new (position + 1)))
section_more old file new position cid found s before mid after is so_far here more =
    looked_then (λ (kept : Kept). HasFirst old file position kept × (Some cid ≡ slice_get kept.order position)) (λ (kept : Kept). AddsSections file new (section_of cid (bytes_at kept.graph cid))) (HasFirst old new (position + 1)) s mid after
    (λ kept here next. one_more kept old file new position cid here.0 here.1 next)
    (looked_then (HasFirst old file position) (λ (kept : Kept). found ≡ slice_get kept.order position) (λ (kept : Kept). HasFirst old file position kept × (Some cid ≡ slice_get kept.order position)) s before mid (λ kept here next. (here, sym is ∙ next)) so_far
    (looked (λ (kept : Kept) (found : Option Cid). found ≡ slice_get kept.order position) ⊤ found before mid here))
    (looked (λ (kept : Kept) (done : ⊤). AddsSections file new (section_of cid (bytes_at kept.graph cid))) ⊤ tt mid after more)

-- and where none stands these are all

pub sections_end : (old file : List ℕ) (position : ℕ) (found : Option Cid) (s mid after : Option ReplicaState) → found ≡ None → Told s mid (Looked (HasFirst old file position))
    → Told mid after (Looks (λ (kept : Kept) (found : Option Cid). found ≡ slice_get kept.order position) ⊤ (Ok found))
    → Told s after (Looks (λ (kept : Kept) (done : ⊤). AddsSections old file (sections_of kept)) ⊤ (Ok tt))
sections_end old file position found s mid after is so_far here =
    looked_answer (HasFirst old file position) (λ (kept : Kept) (found : Option Cid). found ≡ slice_get kept.order position) (λ (kept : Kept) (done : ⊤). AddsSections old file (sections_of kept)) ⊤ ⊤ found tt s mid after
    (λ kept first none. subst (λ (cids : List Cid). AddsSections old file (sections_in kept.graph cids)) (all_taken kept.order position (sym is ∙ none)) first) so_far here

-- ---- the whole file

whole : (kept : Kept) (roots : List Cid) (first file : List ℕ) → roots ≡ head_cids (processed kept) → IsCarText first roots [] → AddsSections first file (sections_of kept) → IsExport kept (Ok file)
whole kept roots first file are begins adds = subst (λ (cids : List Cid). IsCarText file cids (sections_of kept)) are (adds roots [] begins)

pub file_ends : (roots : List Cid) (first file : List ℕ) (s mid after : Option ReplicaState) → IsCarText first roots []
    → Told s mid (Looks (λ (kept : Kept) (cids : List Cid). cids ≡ head_cids (processed kept)) ⊤ (Ok roots))
    → Told mid after (Looks (λ (kept : Kept) (done : ⊤). AddsSections first file (sections_of kept)) ⊤ (Ok tt))
    → Told s after (Looks IsExport ⊤ (Ok (Ok file)))
file_ends roots first file s mid after begins heads adds =
    looked_answer (λ (kept : Kept). roots ≡ head_cids (processed kept)) (λ (kept : Kept) (done : ⊤). AddsSections first file (sections_of kept)) IsExport ⊤ ⊤ tt (Ok file) s mid after
    (λ kept are goes. whole kept roots first file are begins goes)
    (looked (λ (kept : Kept) (cids : List Cid). cids ≡ head_cids (processed kept)) ⊤ roots s mid heads) adds
