-- Processed blocks with one id are one block: an id has all the bits of a digest.
use Rattle.std.proofs.Common.{◌≡◌, ℕ, Bool, true, false, cond, List, [], ◌∷◌, drop, Option, Some, None, refl, sym, ◌∙◌, ap, subst, arith, inl, inr}
use Rattle.std.specs.Prelude.{find, is_some}
use Rattle.std.specs.List.{list_all}
use Rattle.std.specs.Option.{option_map}
use Rattle.std.specs.Result.{result_ok}
use Rattle.std.proofs.lemmas.Bool.{and_parts}
use Rattle.std.proofs.lemmas.Slice.Eq.{bytes_eq-Decides}
use Rattle.mc_base.specs.Base32.{base32_of}
use Rattle.mc_base.proofs.Digest.{AreBytes, digest_bytes_below}
use Rattle.mc_base.specs.Cid.{digest_of}
use Rattle.mc_base.specs.declared.base32.Case.TheVariants.{Upper}
use Rattle.mc_base.specs.declared.cid.Cid.{Cid}
use Rattle.mc_base32.specs.Reading.{decode32}
use Rattle.mc_base32.proofs.Laws.{written_is_read}
use Rattle.mc_model.specs.declared.block.Stored.{Stored}
use Rattle.mc_model.specs.Front.{same_cid, is_among}
use Rattle.mc_model.specs.Id.{id_text, multihash_of}
use Rattle.mc_model.specs.Kept.{Kept, IsKept, is_stored}
use Rattle.mc_model.specs.Offer.{is_good}
use Rattle.mc_model.proofs.Found.{good_digest}
use Rattle.mc_write.proofs.Membership.{In, Passing, in_from_any}

-- no two processed blocks have one id
abbrev pub AreApart : Kept → Type 0
AreApart kept = (a b : Cid) → is_among kept.order a ≡ true → is_among kept.order b ≡ true → id_text a.0 ≡ id_text b.0 → a ≡ b

-- one id has one digest

or_nothing : Option (List ℕ) → List ℕ
or_nothing None = []
or_nothing (Some bytes) = bytes

same_text : (xs ys : List ℕ) → AreBytes xs → AreBytes ys → base32_of Upper xs ≡ base32_of Upper ys → xs ≡ ys
unfolding or_nothing
same_text xs ys hx hy e = ap (λ r. or_nothing (result_ok r)) (sym (written_is_read Upper xs hx) ∙ ap (decode32 Upper) e ∙ written_is_read Upper ys hy)

same_id : (a b : List ℕ) → AreBytes a → AreBytes b → id_text a ≡ id_text b → a ≡ b
unfolding id_text
same_id a b ha hb e = ap (drop 2) (same_text (multihash_of a) (multihash_of b) (omega arith, (omega arith, ha)) (omega arith, (omega arith, hb)) (ap (drop 1) e))

-- the identifier of a processed block is a digest

all_in : {X : Type 0} (test : X → Bool) (xs : List X) (x : X) → list_all test xs ≡ true → In x xs → test x ≡ true
all_in test [] x e i = absurd i
all_in test (y ∷ ys) x e (inl same) = ap test same ∙ (and_parts (test y) (list_all test ys) e).0
all_in test (y ∷ ys) x e (inr i) = all_in test ys x (and_parts (test y) (list_all test ys) e).1 i

-- the stored block of an identifier
stored_one : (graph : List Stored) (cid : Cid) → is_stored graph cid ≡ true → Passing (λ (stored : Stored). same_cid cid stored.cid) graph
stored_one [] cid e = absurd (let f : false ≡ true = e in cc)
stored_one (s ∷ graph) cid e =
    elim (same_cid cid s.cid) as (λ t. same_cid cid s.cid ≡ t
    → is_some (option_map (λ (stored : Stored). stored.bytes) (cond t (Some s) (find (λ (stored : Stored). same_cid cid stored.cid) graph))) ≡ true → Passing (λ (stored : Stored). same_cid cid stored.cid) (s ∷ graph)) [
      | true ↦ λ same h. record { item = s; within = inl refl; passes = same }
      | false ↦ λ same h. let found = stored_one graph cid h in record { item = found.item; within = inr found.within; passes = found.passes }
    ] refl e

is_digest : (kept : Kept) (cid : Cid) → IsKept kept → is_among kept.order cid ≡ true → (bytes : List ℕ) × (cid.0 ≡ digest_of bytes)
is_digest kept cid sound among =
    let here = in_from_any (same_cid cid) kept.order among in
    let found = stored_one kept.graph here.item (all_in (is_stored kept.graph) kept.order here.item sound.stored here.within) in
    let good : is_good found.item.cid found.item.bytes ≡ true = all_in (λ (stored : Stored). is_good stored.cid stored.bytes) kept.graph found.item sound.good found.within in (
      found.item.bytes,
      (bytes_eq-Decides cid.0 here.item.0).0 here.passes ∙ (bytes_eq-Decides here.item.0 found.item.cid.0).0 found.passes
          ∙ sym ((bytes_eq-Decides (digest_of found.item.bytes) found.item.cid.0).0 (good_digest found.item.cid found.item.bytes good)),
    )

pub are_apart : (kept : Kept) → IsKept kept → AreApart kept
are_apart kept sound = λ a b i j e.
    let x = is_digest kept a sound i in
    let y = is_digest kept b sound j in
    let same : a.0 ≡ b.0 =
    same_id a.0 b.0 (subst AreBytes (sym x.1) (digest_bytes_below x.0)) (subst AreBytes (sym y.1) (digest_bytes_below y.0)) e in
    λ k. record { 0 = same k }
