-- Walks along tables 1 and 2.
use Rattle.std.proofs.Common.{◌≡◌, ℕ, ◌+◌, ◌≤◌, Bool, true, false, cond, List, [], ◌∷◌, ◌++◌, length, take, drop, Option, Some, None, sym, ap, ◌∙◌, subst, arith}
use Rattle.std.specs.Prelude.{slice_get, IfSome, ◌≢◌}
use Rattle.std.proofs.lemmas.List.{take_all}
use Rattle.mc_base.specs.declared.cid.Cid.{Cid}
use Rattle.mc_model.specs.Front.{is_among}
use Rattle.mc_raw.specs.declared.raw.Row.{Row}
use Rattle.mc_raw.specs.Raw.{Tables}
use Rattle.mc_audit.specs.declared.blocks.Blocks.{Blocks}
use Rattle.mc_audit.specs.Checks.{AreCids, AreTaken}
use Rattle.mc_audit.specs.Rows.{cid_in}
use Rattle.mc_audit.specs.Sound.{block_break, is_block, place_break, is_place}
use Rattle.mc_audit.proofs.Steps.{drop_at, drop_end, take_at, row_past, row_within}

-- table 1 up to a place
pub record IsTaking (marked : List Cid) (rows : List Row) (at : ℕ) (blocks : Blocks) : Type 0 where
  pub ahead : block_break 0 None rows ≡ block_break at blocks.last (drop at rows)
  pub taken : AreTaken marked (take at rows) blocks
  pub within : at ≤ length rows

pub taking_more : (raw : Option Tables) (marked : List Cid) (at : ℕ) (row : Row) (old new : Blocks) → IfSome raw (λ t. Some row ≡ slice_get (t 1) at) → true ≡ is_block old.last row → new.last ≡ Some (cid_in row)
    → ((rows : List Row) → AreTaken marked rows old → AreTaken marked (rows ++ row ∷ []) new) → IfSome raw (λ t. IsTaking marked (t 1) at old) → IfSome raw (λ t. IsTaking marked (t 1) (at + 1) new)
taking_more None marked at row old new found right last more before = tt
taking_more (Some t) marked at row old new found right last more before = record {
  ahead =
      before.ahead ∙ ap (block_break at old.last) (drop_at (t 1) at row found)
      ∙ ap (λ b. cond b (block_break (at + 1) (Some (cid_in row)) (drop (at + 1) (t 1))) (Some at)) (sym right)
      ∙ ap (λ l. block_break (at + 1) l (drop (at + 1) (t 1))) (sym last);
  taken = subst (λ (z : List Row). AreTaken marked z new) (sym (take_at (t 1) at row found)) (more (take at (t 1)) before.taken);
  within = let inside = row_within (t 1) at row found in omega (arith, inside);
}

pub taking_broken : (raw : Option Tables) (marked : List Cid) (at : ℕ) (row : Row) (old : Blocks) → IfSome raw (λ t. Some row ≡ slice_get (t 1) at) → false ≡ is_block old.last row
    → IfSome raw (λ t. IsTaking marked (t 1) at old) → IfSome raw (λ t. block_break 0 None (t 1) ≡ Some at)
taking_broken None marked at row old found wrong before = tt
taking_broken (Some t) marked at row old found wrong before =
    before.ahead ∙ ap (block_break at old.last) (drop_at (t 1) at row found)
    ∙ ap (λ b. cond b (block_break (at + 1) (Some (cid_in row)) (drop (at + 1) (t 1))) (Some at)) (sym wrong)

pub taking_whole : (raw : Option Tables) (marked : List Cid) (at : ℕ) (old : Blocks) → IfSome raw (λ t. None ≡ slice_get (t 1) at)
    → IfSome raw (λ t. IsTaking marked (t 1) at old) → IfSome raw (λ t. (block_break 0 None (t 1) ≡ None) × AreTaken marked (t 1) old × (at ≡ length (t 1)))
taking_whole None marked at old found before = tt
taking_whole (Some t) marked at old found before =
    let past = row_past (t 1) at found in (
      before.ahead ∙ ap (block_break at old.last) (drop_end (t 1) at found),
      subst (λ (z : List Row). AreTaken marked z old) (take_all at (t 1) past) before.taken,
      (let within = before.within in omega (arith, past, within)),
    )

-- table 2 up to a place
pub record IsPlacing (stored : Cid → Bool) (rows : List Row) (at : ℕ) (seen : List Cid) : Type 0 where
  pub ahead : place_break stored 0 [] rows ≡ place_break stored at seen (drop at rows)
  pub within : at ≤ length rows

-- no identifier of another length is stored
abbrev pub AllFull : List Cid → Type 0
AllFull stored = (cid : Cid) → length cid.0 ≢ 32 → is_among stored cid ≡ false

abbrev pub MayPlace : List Cid → List Row → ℕ → List Cid → Type 0
MayPlace stored rows at seen = AllFull stored → IsPlacing (is_among stored) rows at seen

pub placing_more : (raw : Option Tables) (stored : List Cid) (at : ℕ) (row : Row) (old new : List Cid) → IfSome raw (λ t. Some row ≡ slice_get (t 2) at) → (AllFull stored → true ≡ is_place (is_among stored) at old row)
    → new ≡ old ++ cid_in row ∷ [] → IfSome raw (λ t. MayPlace stored (t 2) at old) → IfSome raw (λ t. MayPlace stored (t 2) (at + 1) new)
placing_more None stored at row old new found right seen before = tt
placing_more (Some t) stored at row old new found right seen before = λ full. record {
  ahead =
      (before full).ahead ∙ ap (place_break (is_among stored) at old) (drop_at (t 2) at row found)
      ∙ ap (λ b. cond b (place_break (is_among stored) (at + 1) (old ++ cid_in row ∷ []) (drop (at + 1) (t 2))) (Some at)) (sym (right full))
      ∙ ap (λ s. place_break (is_among stored) (at + 1) s (drop (at + 1) (t 2))) (sym seen);
  within = let inside = row_within (t 2) at row found in omega (arith, inside);
}

pub placing_broken : (raw : Option Tables) (stored : List Cid) (at : ℕ) (row : Row) (old : List Cid) → IfSome raw (λ t. Some row ≡ slice_get (t 2) at) → (AllFull stored → false ≡ is_place (is_among stored) at old row)
    → IfSome raw (λ t. MayPlace stored (t 2) at old) → IfSome raw (λ t. AllFull stored → place_break (is_among stored) 0 [] (t 2) ≡ Some at)
placing_broken None stored at row old found wrong before = tt
placing_broken (Some t) stored at row old found wrong before = λ full.
    (before full).ahead ∙ ap (place_break (is_among stored) at old) (drop_at (t 2) at row found)
    ∙ ap (λ b. cond b (place_break (is_among stored) (at + 1) (old ++ cid_in row ∷ []) (drop (at + 1) (t 2))) (Some at)) (sym (wrong full))

pub placing_whole : (raw : Option Tables) (stored : List Cid) (at : ℕ) (old : List Cid) → IfSome raw (λ t. None ≡ slice_get (t 2) at)
    → IfSome raw (λ t. MayPlace stored (t 2) at old) → IfSome raw (λ t. AllFull stored → (place_break (is_among stored) 0 [] (t 2) ≡ None) × (at ≡ length (t 2)))
placing_whole None stored at old found before = tt
placing_whole (Some t) stored at old found before = λ full.
    let past = row_past (t 2) at found in
    ((before full).ahead ∙ ap (place_break (is_among stored) at old) (drop_end (t 2) at found), (let within = (before full).within in omega (arith, past, within)))

-- the identifiers of table 2 up to a place
pub marking_more : (raw : Option Tables) (at : ℕ) (row : Row) (old new : List Cid) → IfSome raw (λ t. Some row ≡ slice_get (t 2) at) → ((rows : List Row) → AreCids old rows → AreCids new (rows ++ row ∷ []))
    → IfSome raw (λ t. AreCids old (take at (t 2))) → IfSome raw (λ t. AreCids new (take (at + 1) (t 2)))
marking_more None at row old new found more before = tt
marking_more (Some t) at row old new found more before = subst (λ (z : List Row). AreCids new z) (sym (take_at (t 2) at row found)) (more (take at (t 2)) before)

pub marking_whole : (raw : Option Tables) (at : ℕ) (old : List Cid) → IfSome raw (λ t. None ≡ slice_get (t 2) at) → IfSome raw (λ t. AreCids old (take at (t 2))) → IfSome raw (λ t. AreCids old (t 2))
marking_whole None at old found before = tt
marking_whole (Some t) at old found before = subst (λ (z : List Row). AreCids old z) (take_all at (t 2) (row_past (t 2) at found)) before
