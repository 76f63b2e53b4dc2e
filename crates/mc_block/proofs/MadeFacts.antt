-- What is made is offered as what it was made of.
use Rattle.std.proofs.Common.{◌≡◌, ℕ, ◌+◌, ◌*◌, ◌<◌, ◌≤◌, ◌^◌, List, [], ◌∷◌, length, map, true, refl, ap, sym, ◌∙◌, subst, arith, Some, Ok}
use Rattle.std.proofs.lemmas.Bool.{eqb-true, and_parts}
use Rattle.std.proofs.lemmas.Slice.Eq.{bytes_eq-Decides}
use Rattle.std.specs.List.{list_all}
use Rattle.std.specs.Prelude.{IsTrue}
use Rattle.std.specs.Result.{is_ok}
use Rattle.mc_base.specs.Cid.{digest_of, CidsAreRead}
use Rattle.mc_base.specs.NodeRead.{node_of}
use Rattle.mc_base.specs.Node.{node_bytes}
use Rattle.mc_base.specs.Wire.{varint_bytes}
use Rattle.mc_base.specs.declared.cid.Cid.{Cid}
use Rattle.mc_model.specs.DeltaText.{delta_read, delta_bytes}
use Rattle.mc_model.specs.Made.{made_bytes, made_cid}
use Rattle.mc_model.specs.Offer.{offer, is_good, block_max, cid_of_bytes}
use Rattle.mc_model.specs.declared.delta.Delta.{Delta}
use Rattle.mc_dagpb.specs.Written.{cid_bytes, has_digest}
use Rattle.mc_delta.specs.Written.{IsWritable}
use Rattle.mc_block.specs.Limits.{FitsTypes}
use Rattle.mc_block.proofs.LinkFacts.{Named, links_named}
use Rattle.mc_block.proofs.OfferFacts.{node_by}

-- what the lower crates promise of what is written
abbrev pub NodesAreRead : Type 0
NodesAreRead = (links : List Cid) (payload : List ℕ) → IsTrue (list_all has_digest links) → length payload < 2 ^ 64 →
    node_of (node_bytes links payload) ≡ Ok (record { links = map cid_bytes links; payload = Some payload })

abbrev pub NodesHaveLength : Type 0
NodesHaveLength = (links : List Cid) (payload : List ℕ) → IsTrue (list_all has_digest links) →
    length (node_bytes links payload) ≡ 44 * length links + 1 + length (varint_bytes (length payload)) + length payload

abbrev pub DeltasAreRead : Type 0
DeltasAreRead = (delta : Delta) → IsWritable delta → delta_read (delta_bytes delta) ≡ Ok delta

cid_named : CidsAreRead → (cid : Cid) → has_digest cid ≡ true → cid_of_bytes (cid_bytes cid) ≡ Some cid
cid_named read cid digest = rw (read cid.0 (eqb-true (length cid.0) 32 digest)) refl

named : CidsAreRead → (links : List Cid) → list_all has_digest links ≡ true → Named (map cid_bytes links) links
named read [] digests = tt
named read (cid ∷ links) digests =
    let parts = and_parts (has_digest cid) (list_all has_digest links) digests in
    (cid_named read cid parts.0, named read links parts.1)

module _ (cids : CidsAreRead) (nodes : NodesAreRead) (lengths : NodesHaveLength) (deltas : DeltasAreRead) where
  pub made_is_offered : (links : List Cid) (delta : Delta) → FitsTypes links delta → length (made_bytes links delta) ≤ block_max →
      offer (made_cid links delta) (made_bytes links delta) ≡ Ok (record { cid = made_cid links delta; links = links; delta = delta })
  made_is_offered links delta types fits =
      let short : length (delta_bytes delta) < 2 ^ 64 = omega (arith, fits, lengths links (delta_bytes delta) types.digests) in
      let read = nodes links (delta_bytes delta) types.digests short in
      let same = deltas delta (record { elements = types.elements; tombstones = types.tombstones; priority = types.priority; short = short }) in
      let linked = links_named 0 (map cid_bytes links) links (named cids links types.digests) in
      let begins = node_by (made_cid links delta) (made_bytes links delta) fits ((bytes_eq-Decides (digest_of (made_bytes links delta)) (digest_of (made_bytes links delta))).1 refl) in
      rw (begins, read, linked, same) refl

  pub made_is_good : (links : List Cid) (delta : Delta) → FitsTypes links delta → length (made_bytes links delta) ≤ block_max →
      is_good (made_cid links delta) (made_bytes links delta) ≡ true
  made_is_good links delta types fits = ap is_ok (made_is_offered links delta types fits)

abbrev pub cid_with : List ℕ → Cid
cid_with digest = record { 0 = digest }

-- bytes and an identifier that are those of the made block
pub made_as : (links : List Cid) (delta : Delta) (cid : Cid) (bytes : List ℕ) → bytes ≡ made_bytes links delta → cid.0 ≡ digest_of bytes →
    (length (made_bytes links delta) ≤ block_max → offer (made_cid links delta) (made_bytes links delta) ≡ Ok (record { cid = made_cid links delta; links = links; delta = delta })) →
    length bytes ≤ block_max → offer cid bytes ≡ Ok (record { cid = cid; links = links; delta = delta })
made_as links delta cid bytes same named offered fits =
    let is : made_cid links delta ≡ cid = ap cid_with (sym (named ∙ ap digest_of same)) in
    subst (λ (name : Cid). offer name bytes ≡ Ok (record { cid = name; links = links; delta = delta })) is (rw same (offered (rw same at fits)))
