-- The table of planted offers against the list of them.
use Rattle.std.proofs.Common.{◌≡◌, ℕ, Bool, true, false, cond, List, [], ◌∷◌, map, Option, Some, None, refl, sym, ap, ◌∙◌, subst}
use Rattle.std.specs.Prelude.{find, Result, Ok, Err, OnOk}
use Rattle.std.specs.Option.{option_map}
use Rattle.std.specs.Map.{lookup}
use Rattle.indexmap.specs.IndexMap.{insert_entry}
use Rattle.mc_base.specs.declared.cid.Cid.{Cid}
use Rattle.mc_model.specs.Front.{same_cid}
use Rattle.mc_model.proofs.Counts.{cid_is, same_cid-symm}
use Rattle.mc_fetch.specs.declared.plants.Planted.{Planted}
use Rattle.mc_fetch.specs.Plants.{planted_of, planted_at, planted_with}

pub planted_lookup : (cid : Cid) (entries : List (Cid × List ℕ)) → planted_at (map planted_of entries) cid ≡ lookup (same_cid cid) entries
planted_lookup cid [] = refl
planted_lookup cid (entry ∷ entries) =
    elim (same_cid cid entry.0) as (λ t. option_map (λ (offer : Planted). offer.bytes) (cond t (Some (planted_of entry)) (find (λ (offer : Planted). same_cid cid offer.cid) (map planted_of entries)))
    ≡ cond t (Some entry.1) (lookup (same_cid cid) entries)) [
      | true ↦ refl
      | false ↦ planted_lookup cid entries
    ]

abbrev before : Planted → List Planted → List Planted
before offer offers = offer ∷ offers

pub planted_insert : (entries : List (Cid × List ℕ)) (cid : Cid) (bytes : List ℕ) → map planted_of (insert_entry same_cid entries cid bytes) ≡ planted_with (map planted_of entries) (record { cid = cid; bytes = bytes })
planted_insert [] cid bytes = refl
planted_insert (entry ∷ entries) cid bytes =
    elim (same_cid cid entry.0) as (λ t. same_cid cid entry.0 ≡ t → map planted_of (cond t ((entry.0, bytes) ∷ entries) (entry ∷ insert_entry same_cid entries cid bytes))
    ≡ cond t (record { cid = cid; bytes = bytes } ∷ map planted_of entries) (planted_of entry ∷ planted_with (map planted_of entries) (record { cid = cid; bytes = bytes }))) [
      | true ↦ λ e. ap (λ (c : Cid). before (record { cid = c; bytes = bytes }) (map planted_of entries)) (sym (cid_is cid entry.0 e))
      | false ↦ λ e. ap (λ rest. planted_of entry ∷ rest) (planted_insert entries cid bytes)
    ] refl

module _ (cid : Cid) (offer older : Planted) (offers : List Planted) where
  abbrev tested : Planted → Bool
  tested p = same_cid cid p.cid

  abbrev bytes_of : Option Planted → Option (List ℕ)
  bytes_of found = option_map (λ (p : Planted). p.bytes) found

  either_way : (t : Bool) → bytes_of (cond t (Some offer) (find tested offers)) ≡ cond t (Some offer.bytes) (bytes_of (cond t (Some older) (find tested offers)))
  either_way true = refl
  either_way false = refl

  -- the older offer of a block is no longer looked at
  replaced : offer.cid ≡ older.cid → planted_at (offer ∷ offers) cid ≡ cond (same_cid cid offer.cid) (Some offer.bytes) (planted_at (older ∷ offers) cid)
  replaced e =
      subst (λ (c : Cid). bytes_of (cond (same_cid cid offer.cid) (Some offer) (find tested offers)) ≡ cond (same_cid cid offer.cid) (Some offer.bytes) (bytes_of (cond (same_cid cid c) (Some older) (find tested offers))))
      e (either_way (same_cid cid offer.cid))

  -- an offer for another block stays
  kept : same_cid offer.cid older.cid ≡ false → planted_at (planted_with offers offer) cid ≡ cond (same_cid cid offer.cid) (Some offer.bytes) (planted_at offers cid)
      → planted_at (older ∷ planted_with offers offer) cid ≡ cond (same_cid cid offer.cid) (Some offer.bytes) (planted_at (older ∷ offers) cid)
  kept e rest =
      elim (same_cid cid older.cid) as (λ t. same_cid cid older.cid ≡ t → bytes_of (cond t (Some older) (find tested (planted_with offers offer))) ≡ cond (same_cid cid offer.cid) (Some offer.bytes) (bytes_of (cond t (Some older) (find tested offers)))) [
        | true ↦ λ s. ap (λ t. cond t (Some offer.bytes) (Some older.bytes)) (sym (ap (λ (c : Cid). same_cid c offer.cid) (cid_is cid older.cid s) ∙ same_cid-symm older.cid offer.cid ∙ e))
        | false ↦ λ s. rest
      ] refl

  after_one : planted_at (planted_with offers offer) cid ≡ cond (same_cid cid offer.cid) (Some offer.bytes) (planted_at offers cid)
      → planted_at (planted_with (older ∷ offers) offer) cid ≡ cond (same_cid cid offer.cid) (Some offer.bytes) (planted_at (older ∷ offers) cid)
  after_one rest =
      elim (same_cid offer.cid older.cid) as (λ t. same_cid offer.cid older.cid ≡ t → planted_at (cond t (offer ∷ offers) (older ∷ planted_with offers offer)) cid ≡ cond (same_cid cid offer.cid) (Some offer.bytes) (planted_at (older ∷ offers) cid)) [
        | true ↦ λ s. replaced (cid_is offer.cid older.cid s)
        | false ↦ λ s. kept s rest
      ] refl

-- a block's offer is the new one where that is for it, and else the old one
pub planted_after : (offers : List Planted) (offer : Planted) (cid : Cid) → planted_at (planted_with offers offer) cid ≡ cond (same_cid cid offer.cid) (Some offer.bytes) (planted_at offers cid)
planted_after [] offer cid =
    elim (same_cid cid offer.cid) as (λ t. option_map (λ (p : Planted). p.bytes) (cond t (Some offer) None) ≡ cond t (Some offer.bytes) None) [
      | true ↦ refl
      | false ↦ refl
    ]
planted_after (older ∷ offers) offer cid = after_one cid offer older offers (planted_after offers offer cid)

-- the same of a call that may want memory
pub put_planted : {T E : Type 0} (result : Result T E) (old new : List (Cid × List ℕ)) (offer : Planted) → OnOk result (new ≡ insert_entry same_cid old offer.cid offer.bytes)
    → OnOk result (map planted_of new ≡ planted_with (map planted_of old) offer)
put_planted (Ok value) old new offer e = ap (map planted_of) e ∙ planted_insert old offer.cid offer.bytes
put_planted (Err error) old new offer e = tt
