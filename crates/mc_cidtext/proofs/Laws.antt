-- Writing and reading texts of identifiers are each other's inverse.
use Rattle.std.proofs.Common.{◌≡◌, ℕ, ◌<◌, inl, inr, Bool, true, false, List, [], ◌∷◌, ◌++◌, length, take, drop, Some, None, Result, Ok, Err, refl, sym, ap, ◌∙◌, arith}
use Rattle.std.specs.Prelude.{◌==◌, if◌then◌else◌}
use Rattle.std.specs.Option.{ok_or}
use Rattle.std.specs.Str.{bytes_eq}
use Rattle.std.specs.List.{All}
use Rattle.std.proofs.lemmas.Bool.Decides.{eqb_tells}
use Rattle.std.proofs.lemmas.List.{take-append-drop}
use Rattle.std.proofs.lemmas.List.Elements.{All-cons}
use Rattle.std.proofs.lemmas.Slice.Eq.{bytes_eq-Decides}
use Rattle.std.proofs.lemmas.Bool.{and_parts, ne_eqb}
use Rattle.mc_base.specs.Base32.{base32_of}
use Rattle.mc_base.specs.Cid.{CidsAreRead, cid_prefix, is_cid}
use Rattle.mc_base.specs.declared.base32.Case.TheVariants.{Lower}
use Rattle.mc_base32.specs.Reading.{decode32, IsOneText as IsOneText32, IsReadAgain as IsReadAgain32}
use Rattle.mc_base32.specs.declared.fault.Base32Fault.{Base32Fault}
use Rattle.mc_cidtext.specs.declared.fault.CidTextFault.{CidTextFault}
use Rattle.mc_cidtext.specs.declared.fault.CidTextFault.TheVariants.{Prefix, NotProfile}
use Rattle.mc_cidtext.specs.CidText.{cid_text, digest_read, read_cid_text}

-- a text that doesn't begin with `b`
pub no_prefix : (text : List ℕ) → ((rest : List ℕ) → text ≡ 98 ∷ rest → ⊥) → read_cid_text text ≡ Err Prefix
no_prefix [] none = refl
no_prefix (byte ∷ text) none = rw (ne_eqb byte 98 (λ (same : byte ≡ 98). none text (rw same refl))) refl

-- the bytes of an identifier are its beginning and its digest
cid_parts : (bytes : List ℕ) → is_cid bytes ≡ true → bytes ≡ cid_prefix ++ drop 4 bytes
cid_parts bytes h =
    let parts = and_parts (length bytes == 36) (bytes_eq (take 4 bytes) cid_prefix) h in
    sym (take-append-drop 4 bytes) ∙ ap (λ (front : List ℕ). front ++ drop 4 bytes) (bytes_are parts.1)
  where
    bytes_are : bytes_eq (take 4 bytes) cid_prefix ≡ true → take 4 bytes ≡ cid_prefix
    bytes_are same = (bytes_eq-Decides (take 4 bytes) cid_prefix).0 same

pub written_is_read : IsReadAgain32 → CidsAreRead → (digest : List ℕ) → length digest ≡ 32 → All (λ byte. byte < 256) digest → read_cid_text (cid_text digest) ≡ Ok digest
written_is_read again cids digest len are =
    let small = All-cons (λ (byte : ℕ). byte < 256) 1 (112 ∷ 18 ∷ 32 ∷ digest) (omega arith) (All-cons (λ (byte : ℕ). byte < 256) 112 (18 ∷ 32 ∷ digest) (omega arith) (All-cons (λ (byte : ℕ). byte < 256) 18 (32 ∷ digest) (omega arith) (All-cons (λ (byte : ℕ). byte < 256) 32 digest (omega arith) are))) in
    rw (again Lower (cid_prefix ++ digest) small, cids digest len) refl

-- which way a reading went that gave a digest
cid_chosen : (test : Bool) (bytes digest : List ℕ) → ok_or (if test then Some (drop 4 bytes) else None) NotProfile ≡ Ok digest → (test ≡ true) × (drop 4 bytes ≡ digest)
cid_chosen true bytes digest h = (refl, cc)
cid_chosen false bytes digest h = absurd (cc)

after_prefix : IsOneText32 → (text : List ℕ) (read : Result (List ℕ) Base32Fault) (digest : List ℕ) → decode32 Lower text ≡ read → digest_read read ≡ Ok digest → text ≡ base32_of Lower (cid_prefix ++ digest)
after_prefix one text (Ok bytes) digest is h =
    let went = cid_chosen (is_cid bytes) bytes digest h in
    one Lower text bytes is ∙ ap (base32_of Lower) (cid_parts bytes went.0 ∙ ap (λ (rest : List ℕ). cid_prefix ++ rest) went.1)
after_prefix one text (Err fault) digest is h = absurd (cc)

first_chosen : (byte : ℕ) (read : Result (List ℕ) CidTextFault) (digest : List ℕ) → (if byte == 98 then read else Err Prefix) ≡ Ok digest → (byte ≡ 98) × (read ≡ Ok digest)
first_chosen byte read digest h = elim (eqb_tells byte 98) [
  | inl same ↦ (same.1, rw same.0 at h)
  | inr other ↦ absurd (no_digest digest (rw other.0 at h))
]
  where
    no_digest : (digest : List ℕ) → ◌≡◌ {A = Result (List ℕ) CidTextFault} (Err Prefix) (Ok digest) → ⊥
    no_digest digest e = cc

pub read_was_written : IsOneText32 → (text digest : List ℕ) → read_cid_text text ≡ Ok digest → text ≡ cid_text digest
read_was_written one [] digest h = absurd (cc)
read_was_written one (byte ∷ text) digest h =
    let went = first_chosen byte (digest_read (decode32 Lower text)) digest h in
    rw (went.0, ← after_prefix one text (decode32 Lower text) digest refl went.1) refl
