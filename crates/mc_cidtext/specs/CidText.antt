-- The text of an identifier (Multiformats CID specification): the Multibase code `b`, and the lower-case base32 of its
-- 36 bytes without padding (RFC 4648, section 6).
use Rattle.std.specs.Prelude.{◌≡◌, ℕ, ◌==◌, ◌++◌, if◌then◌else◌, List, [], ◌∷◌, length, codes, All, ◌<◌, Result, Ok}
use Rattle.std.specs.Prelude.{Err, ⊤}
use Rattle.std.specs.Option.{ok_or}
use Rattle.mc_base.specs.Base32.{base32_of}
use Rattle.mc_base.specs.Cid.{cid_prefix, cid_digest}
use Rattle.mc_base.specs.declared.base32.Case.TheVariants.{Lower}
use Rattle.mc_base32.specs.Reading.{decode32}
use Rattle.mc_base32.specs.declared.fault.Base32Fault.{Base32Fault}
use Rattle.mc_cidtext.specs.declared.fault.CidTextFault.{CidTextFault}
use Rattle.mc_cidtext.specs.declared.fault.CidTextFault.TheVariants.{Prefix, Base32, NotProfile}
use Rattle.mc_cidtext.specs.declared.fault.CidTextError.{CidTextError}
use Rattle.mc_cidtext.specs.declared.fault.CidTextError.TheVariants.{Memory, Fault}

-- the text of the identifier of this digest
abbrev pub cid_text : List ℕ → List ℕ
cid_text digest = codes "b" ++ base32_of Lower (cid_prefix ++ digest)

-- what the base32 after the `b` gives: a digest where its bytes are an identifier
abbrev pub digest_read : Result (List ℕ) Base32Fault → Result (List ℕ) CidTextFault
digest_read (Ok bytes) = ok_or (cid_digest bytes) NotProfile
digest_read (Err fault) = Err (Base32 fault)

-- the digest of the identifier of a text, or the first fault: the first byte isn't `b`; the others aren't base32; their
-- bytes aren't an identifier of this kind
abbrev pub read_cid_text : List ℕ → Result (List ℕ) CidTextFault
read_cid_text [] = Err Prefix
read_cid_text (byte ∷ text) = if byte == 98 then digest_read (decode32 Lower text) else Err Prefix

-- an error is the fault of what was read, or want of memory
abbrev pub IsFaultOf : {A : Type 0} → CidTextError → Result A CidTextFault → Type 0
IsFaultOf Memory reading = ⊤
IsFaultOf (Fault fault) reading = reading ≡ Err fault

-- what was written is read again
abbrev pub IsReadAgain : Type 0
IsReadAgain =
    (digest : List ℕ) → length digest ≡ 32 → All (λ byte. byte < 256) digest →
    read_cid_text (cid_text digest) ≡ Ok digest

-- only the text of an identifier is read as it, so each has one text
abbrev pub IsOneText : Type 0
IsOneText = (text digest : List ℕ) → read_cid_text text ≡ Ok digest → text ≡ cid_text digest
