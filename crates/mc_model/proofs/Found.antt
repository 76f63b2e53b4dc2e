-- Offers that are good, and closed sets as least sets.
use Rattle.std.proofs.Common.{◌≡◌, ℕ, Bool, true, false, not, cond, List, [], ◌∷◌, Some, ◌&&◌, refl, ap, ◌∙◌, inl, inr, length}
use Rattle.std.specs.Prelude.{nat_le, Result, Ok, Err, unwrap_or}
use Rattle.std.specs.List.{find}
use Rattle.std.specs.Result.{is_ok, result_ok}
use Rattle.std.specs.Str.{bytes_eq}
use Rattle.std.proofs.lemmas.Bool.{and_from, and_parts}
use Rattle.mc_base.specs.Cid.{digest_of}
use Rattle.mc_base.specs.NodeRead.{node_of}
use Rattle.mc_base.specs.declared.cid.Cid.{Cid}
use Rattle.mc_model.specs.declared.block.Block.{Block}
use Rattle.mc_model.specs.Drain.{is_new, is_way, IsAdded, IsClosed}
use Rattle.mc_model.specs.Found.{Good, Offers, found_bytes, found_reading, found_as, found_in, is_found, found_links}
use Rattle.mc_model.specs.Graph.{has}
use Rattle.mc_model.specs.Offer.{Damage, TooLarge, WrongDigest, block_max, empty_delta, offer, is_good, block_of, block_of_node}

-- good bytes have the digest
pub good_digest : (cid : Cid) (bytes : List ℕ) → is_good cid bytes ≡ true → bytes_eq (digest_of bytes) cid.0 ≡ true
unfolding offer
good_digest cid bytes e =
    elim (not (nat_le (length bytes) block_max)) as (λ t. is_ok (cond t (Err (TooLarge (length bytes))) (cond (not (bytes_eq (digest_of bytes) cid.0)) (Err (WrongDigest (digest_of bytes))) (block_of_node cid (node_of bytes)))) ≡ true → bytes_eq (digest_of bytes) cid.0 ≡ true) [
      | true ↦ λ h. absurd (let no : false ≡ true = h in cc)
      | false ↦ λ h. elim (bytes_eq (digest_of bytes) cid.0) as (λ t. is_ok (cond (not t) (Err (WrongDigest (digest_of bytes))) (block_of_node cid (node_of bytes))) ≡ true → t ≡ true) [
        | true ↦ λ k. refl
        | false ↦ λ k. absurd (let no : false ≡ true = k in cc)
      ] h
    ] e

pub good_reading : (cid : Cid) (reading : Result Block Damage) → is_ok reading ≡ true → found_reading reading ≡ Good (unwrap_or (result_ok reading) (record { cid = cid; links = []; delta = empty_delta })).links
good_reading cid (Ok block) e = refl
good_reading cid (Err damage) e = absurd (let no : false ≡ true = e in cc)

-- good bytes that are offered first decide
pub first_good : (cid : Cid) (bytes : List ℕ) (rest : List (List ℕ)) → is_good cid bytes ≡ true → found_in (bytes ∷ rest) cid ≡ Good (block_of cid bytes).links
first_good cid bytes rest e =
    ap (λ t. found_as cid (cond t (Some bytes) (find (λ offered. bytes_eq (digest_of offered) cid.0) rest))) (good_digest cid bytes e) ∙ good_reading cid (offer cid bytes) e

-- and bytes that decide are found where they are good
reading_found : (reading : Result Block Damage) → is_found (found_reading reading) ≡ is_ok reading
reading_found (Ok block) = refl
reading_found (Err damage) = refl

pub found_good : (cid : Cid) (offers : List (List ℕ)) (bytes : List ℕ) → found_bytes offers cid ≡ Some bytes → is_found (found_in offers cid) ≡ is_good cid bytes
found_good cid offers bytes e = ap (λ z. is_found (found_as cid z)) e ∙ reading_found (offer cid bytes)

pub found_block : (cid : Cid) (offers : List (List ℕ)) (bytes : List ℕ) → found_bytes offers cid ≡ Some bytes → is_good cid bytes ≡ true → found_in offers cid ≡ Good (block_of cid bytes).links
found_block cid offers bytes e good = ap (found_as cid) e ∙ good_reading cid (offer cid bytes) good

-- the closed set is the least one
module _ (found : Offers) (order start : List Cid) (test : Cid → Bool)
    (starts : (c : Cid) → has c start ≡ true → is_found (found c) ≡ true → test c ≡ true)
    (goes : (m c : Cid) → IsAdded found order start m → test m ≡ true → has c (found_links (found m)) ≡ true → is_found (found c) ≡ true → test c ≡ true) where
  way_least : (path : List Cid) (c : Cid) → is_way found order start path c ≡ true → test c ≡ true
  way_least [] c e =
      let parts = and_parts (has c start) (is_new found order c) e in
      starts c parts.0 (and_parts (is_found (found c)) (not (has c order)) parts.1).0
  way_least (m ∷ path) c e =
      let parts = and_parts (is_way found order start path m) (has c (found_links (found m)) && is_new found order c) e in
      let link = and_parts (has c (found_links (found m))) (is_new found order c) parts.1 in
      goes m c (record { path = path; along = parts.0 }) (way_least path m parts.0) link.0 (and_parts (is_found (found c)) (not (has c order)) link.1).0

  pub closed_least : ((c : Cid) → has c order ≡ true → test c ≡ true) → (c : Cid) → IsClosed found order start c → test c ≡ true
  closed_least old c (inl h) = old c h
  closed_least old c (inr h) = way_least h.path c h.along

-- and it holds what it says

pub closed_wanted : (found : Offers) (order start : List Cid) (c : Cid) → has c start ≡ true → is_found (found c) ≡ true → IsClosed found order start c
closed_wanted found order start c w good =
    elim (has c order) as (λ t. has c order ≡ t → IsClosed found order start c) [
      | true ↦ λ h. inl h
      | false ↦ λ h. inr (record { path = []; along = and_from _ _ w (and_from _ _ good (ap not h)) })
    ] refl

pub closed_linked : (found : Offers) (order start : List Cid) (m c : Cid) → IsAdded found order start m → has c (found_links (found m)) ≡ true → is_found (found c) ≡ true → IsClosed found order start c
closed_linked found order start m c added l good =
    elim (has c order) as (λ t. has c order ≡ t → IsClosed found order start c) [
      | true ↦ λ h. inl h
      | false ↦ λ h. inr (record { path = m ∷ added.path; along = and_from _ _ added.along (and_from _ _ l (and_from _ _ good (ap not h))) })
    ] refl
