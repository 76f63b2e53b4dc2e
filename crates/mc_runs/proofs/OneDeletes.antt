-- What a delete makes of a world's contents is one: its deltas, and the refusal that is due.
use Rattle.std.proofs.Common.{◌≡◌, ℕ, ◌+◌, ◌^◌, ◌<◌, ◌≤◌, true, List, [], ◌∷◌, length, Option, Some, None, refl, sym, ◌∙◌, ap, subst, inl, inr, arith}
use Rattle.std.specs.List.{list_all}
use Rattle.std.proofs.lemmas.Bool.{and_parts, ltb-true}
use Rattle.mc_base.specs.declared.cid.Cid.{Cid}
use Rattle.mc_model.specs.Cuts.{IsCuts, IsPriorityFull, IsTooLarge, Pair, pairs, tombs_size}
use Rattle.mc_model.specs.Kept.{Kept, processed}
use Rattle.mc_model.specs.Made.{made_bytes, made_cid, next_priority}
use Rattle.mc_model.specs.Offer.{block_max}
use Rattle.mc_model.specs.State.{Running, kept_of}
use Rattle.mc_model.specs.declared.delta.Delta.{Delta}
use Rattle.mc_core.specs.Deletes.{DeleteKeptRefusal, DeleteRefusal, DeltasRefusal, IsDeltas, RunRefusal, chain_clash, is_left}
use Rattle.mc_core.specs.Events.{ReplicaState}
use Rattle.mc_core.specs.Puts.{next_links}
use Rattle.mc_core.specs.Refusals.{key_refusal}
use Rattle.mc_core.specs.declared.CoreError.{CoreError}
use Rattle.mc_core.specs.declared.CoreError.TheVariants.{BlockTooLarge}
use Rattle.mc_runs.proofs.LowHeights.{next_within}
use Rattle.mc_runs.proofs.OneCuts.{cuts_one, first_or, size_more}

-- the deltas of a delete

pub deltas_one : (kept : Kept) (key : List ℕ) (deltas deltas2 : List Delta) → IsDeltas kept key deltas → IsDeltas kept key deltas2 → deltas ≡ deltas2
deltas_one kept key deltas deltas2 a b = cuts_one (next_links kept) (next_priority (processed kept)) key (pairs (processed kept) key) deltas deltas2 a.cuts b.cuts

-- where all have a priority, there is one for each

cuts_left : (links : List Cid) (priority : ℕ) (key : List ℕ) (pairs : List Pair) (deltas : List Delta) → IsCuts links priority key pairs deltas → list_all is_left deltas ≡ true → 0 < length deltas → priority + length deltas ≤ 2 ^ 64
cuts_left links priority key pairs [] cuts left some = absurd (omega (arith, some))
cuts_left links priority key pairs (delta ∷ []) (taken, rest, split, cut, more) left some =
    let below : delta.priority < 2 ^ 64 = ltb-true delta.priority (2 ^ 64) (and_parts (is_left delta) (list_all is_left []) left).0 in
    let is : delta.priority ≡ priority = ap (λ (d : Delta). d.priority) cut.made in omega (arith, below, is)
cuts_left links priority key pairs (delta ∷ next ∷ deltas) (taken, rest, split, cut, more) left some =
    let behind = cuts_left (made_cid links delta ∷ []) (priority + 1) key rest (next ∷ deltas) more (and_parts (is_left delta) (list_all is_left (next ∷ deltas)) left).1 (omega arith) in
    omega (arith, behind)

-- the first block has room for a tombstone

first_fits : (links : List Cid) (priority : ℕ) (key : List ℕ) (pair : Pair) (pairs : List Pair) (deltas : List Delta) → IsCuts links priority key (pair ∷ pairs) deltas → tombs_size links priority key (pair ∷ []) ≤ block_max
first_fits links priority key pair pairs [] cuts = absurd (omega (arith, ap length cuts))
first_fits links priority key pair pairs (delta ∷ deltas) ([], rest, split, cut, more) = absurd (cut.some refl)
first_fits links priority key pair pairs (delta ∷ deltas) (x ∷ taken, rest, split, cut, more) =
    let same : pair ≡ x = ap (first_or pair) split in
    let fits : tombs_size links priority key (x ∷ taken) ≤ block_max = subst (λ (d : Delta). length (made_bytes links d) ≤ block_max) cut.made cut.fits in
    let one : tombs_size links priority key (pair ∷ []) ≡ tombs_size links priority key (x ∷ []) = ap (λ (p : Pair). tombs_size links priority key (p ∷ [])) same in
    omega (arith, fits, one, size_more links priority key (x ∷ []) taken)

-- the refusals exclude one another

not_too_large : (links : List Cid) (priority : ℕ) (key : List ℕ) (pairs : List Pair) (deltas : List Delta) (len : ℕ) → IsCuts links priority key pairs deltas → IsTooLarge links priority key pairs len → ⊥
not_too_large links priority key [] deltas len cuts large = large
not_too_large links priority key (pair ∷ pairs) deltas len cuts (below, large, is) = omega (arith, large, first_fits links priority key pair pairs deltas cuts)

not_full : (kept : Kept) (key : List ℕ) (deltas : List Delta) → IsDeltas kept key deltas → IsPriorityFull (next_links kept) (next_priority (processed kept)) key (pairs (processed kept) key) → ⊥
not_full kept key deltas is (inl (some, high)) = over deltas is
  where
    over : (deltas : List Delta) → IsDeltas kept key deltas → ⊥
    over [] is = some is.cuts
    over (delta ∷ deltas) is = omega (arith, high, cuts_left (next_links kept) (next_priority (processed kept)) key (pairs (processed kept) key) (delta ∷ deltas) is.cuts is.left (omega arith))
not_full kept key deltas is (inr (deltas2, cuts2, high)) =
    over deltas is (subst (λ (l : List Delta). 2 ^ 64 < next_priority (processed kept) + length l) (sym (cuts_one (next_links kept) (next_priority (processed kept)) key (pairs (processed kept) key) deltas deltas2 is.cuts cuts2)) high)
  where
    over : (deltas : List Delta) → IsDeltas kept key deltas → 2 ^ 64 < next_priority (processed kept) + length deltas → ⊥
    over [] is high = omega (arith, high, next_within kept)
    over (delta ∷ deltas) is high = omega (arith, high, cuts_left (next_links kept) (next_priority (processed kept)) key (pairs (processed kept) key) (delta ∷ deltas) is.cuts is.left (omega arith))

full_or_large : (links : List Cid) (priority : ℕ) (key : List ℕ) (pairs : List Pair) (len : ℕ) → IsPriorityFull links priority key pairs → IsTooLarge links priority key pairs len → ⊥
full_or_large links priority key [] len full large = large
full_or_large links priority key (pair ∷ pairs) len (inl (some, high)) (below, large, is) = omega (arith, high, below)
full_or_large links priority key (pair ∷ pairs) len (inr (deltas, cuts, high)) large = not_too_large links priority key (pair ∷ pairs) deltas len cuts large

large_one : (links : List Cid) (priority : ℕ) (key : List ℕ) (pairs : List Pair) (len len2 : ℕ) → IsTooLarge links priority key pairs len → IsTooLarge links priority key pairs len2 → len ≡ len2
large_one links priority key [] len len2 a b = absurd a
large_one links priority key (pair ∷ pairs) len len2 (below, large, is) (below2, large2, is2) = is ∙ sym is2

refusal_one : (kept : Kept) (key : List ℕ) (due due2 : Option CoreError) → DeltasRefusal kept key due → DeltasRefusal kept key due2 → due ≡ due2
refusal_one kept key due due2 (inl (deltas, is, clash)) (inl (deltas2, is2, clash2)) = clash ∙ ap (chain_clash kept (next_links kept)) (deltas_one kept key deltas deltas2 is is2) ∙ sym clash2
refusal_one kept key due due2 (inl (deltas, is, clash)) (inr (inl (error, full))) = absurd (not_full kept key deltas is full)
refusal_one kept key due due2 (inl (deltas, is, clash)) (inr (inr (len, error, large))) = absurd (not_too_large (next_links kept) (next_priority (processed kept)) key (pairs (processed kept) key) deltas len is.cuts large)
refusal_one kept key due due2 (inr (inl (error, full))) (inl (deltas, is, clash)) = absurd (not_full kept key deltas is full)
refusal_one kept key due due2 (inr (inl (error, full))) (inr (inl (error2, full2))) = error ∙ sym error2
refusal_one kept key due due2 (inr (inl (error, full))) (inr (inr (len, error2, large))) = absurd (full_or_large (next_links kept) (next_priority (processed kept)) key (pairs (processed kept) key) len full large)
refusal_one kept key due due2 (inr (inr (len, error, large))) (inl (deltas, is, clash)) = absurd (not_too_large (next_links kept) (next_priority (processed kept)) key (pairs (processed kept) key) deltas len is.cuts large)
refusal_one kept key due due2 (inr (inr (len, error, large))) (inr (inl (error2, full))) = absurd (full_or_large (next_links kept) (next_priority (processed kept)) key (pairs (processed kept) key) len full large)
refusal_one kept key due due2 (inr (inr (len, error, large))) (inr (inr (len2, error2, large2))) =
    error ∙ ap (λ (n : ℕ). Some (BlockTooLarge n)) (large_one (next_links kept) (next_priority (processed kept)) key (pairs (processed kept) key) len len2 large large2) ∙ sym error2

pub delete_due_one : (s : ReplicaState) (key : List ℕ) (due due2 : Option CoreError) → DeleteRefusal s key due → DeleteRefusal s key due2 → due ≡ due2
delete_due_one s key due due2 a b = over s.state.run (key_refusal key) a b
  where
    over : (run : Option Running) (refusal : Option CoreError) → RunRefusal run (DeleteKeptRefusal (kept_of s.state.durable) key refusal) due → RunRefusal run (DeleteKeptRefusal (kept_of s.state.durable) key refusal) due2 → due ≡ due2
    over None refusal a b = a ∙ sym b
    over (Some run) (Some error) a b = a ∙ sym b
    over (Some run) None a b = refusal_one (kept_of s.state.durable) key due due2 a b
