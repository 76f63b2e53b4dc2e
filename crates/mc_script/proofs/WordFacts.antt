-- Which words say the other replica of a link, its way, a number up to a greatest one and an identifier.
use Rattle.std.proofs.Common.{◌≡◌, ◌≢◌, ℕ, ◌==◌, inl, inr, Bool, true, false, List, Option, Some, None, Result, Ok, Err, codes, refl, sym, ap, ◌∙◌, subst}
use Rattle.std.specs.Prelude.{if◌then◌else◌, nat_le}
use Rattle.std.specs.Option.{option_map}
use Rattle.std.specs.Result.{result_ok}
use Rattle.std.specs.Str.{bytes_eq}
use Rattle.std.proofs.lemmas.Bool.{and_parts, le-leb, leb-true, ne_eqb}
use Rattle.std.proofs.lemmas.Bool.Decides.{eqb_tells}
use Rattle.std.proofs.lemmas.Slice.Eq.{bytes_eq-Decides}
use Rattle.mc_base.specs.declared.cid.Cid.{Cid}
use Rattle.mc_cidtext.specs.CidText.{IsOneText, read_cid_text}
use Rattle.mc_cidtext.specs.declared.fault.CidTextFault.{CidTextFault}
use Rattle.mc_script.specs.Grammar.{Identifier, OtherThan, Replica, Says, UpTo, Way, is_whole_word, way_word}
use Rattle.mc_script.specs.Words.{◌>>=◌, cid_of, identifier_of, is_up_to, number_of, other_of, replica_of, up_to_of, way_of}
use Rattle.mc_script.proofs.PartFacts.{chosen, no_other, number_found, number_read, replica_found, replica_read}

pub bind_some : {A B : Type 0} (o : Option A) (f : A → Option B) (b : B) → (o >>= f) ≡ Some b → (a : A) × (o ≡ Some a) × (f a ≡ Some b)
bind_some (Some a) f b h = (a, refl, h)
bind_some None f b h = cc h

-- ---- the other replica

differs : (r second other : ℕ) → (if r == second then None else Some second) ≡ Some other → (r ≢ other) × (second ≡ other)
differs r second other h = elim (eqb_tells r second) [
  | inl same ↦ no_other (rw same.0 at h)
  | inr apart ↦
      let is : second ≡ other = some_is (rw apart.0 at h) in
      (λ e. apart.1 (e ∙ sym is), is)
]
  where
    some_is : {x y : ℕ} → Some x ≡ Some y → x ≡ y
    some_is e = cc e

pub other_found : (r other : ℕ) (word : List ℕ) → other_of r word ≡ Some other → Says word (OtherThan r other)
other_found r other word h =
    let first = bind_some (replica_of word) _ other h in
    let replica = replica_found word first.0 first.1 in
    let went = differs r first.0 other first.2 in
    let same = subst (λ (second : ℕ). Says word (Replica second)) went.1 replica in
    (went.0, same.0, same.1)

pub other_read : (r other : ℕ) (word : List ℕ) → Says word (OtherThan r other) → other_of r word ≡ Some other
other_read r other word says = rw (replica_read word other (says.1, says.2), ne_eqb r other says.0) refl

-- ---- the way of a link

pub way_found : (word : List ℕ) (up : Bool) → way_of word ≡ Some up → Says word (Way up)
way_found word up h = elim (chosen (bytes_eq word (codes "up")) true (if bytes_eq word (codes "down") then Some false else None) up h) [
  | inl first ↦ (bytes_eq-Decides word (codes "up")).0 first.0 ∙ ap way_word first.1
  | inr other ↦ elim (chosen (bytes_eq word (codes "down")) false None up other.1) [
    | inl second ↦ (bytes_eq-Decides word (codes "down")).0 second.0 ∙ ap way_word second.1
    | inr neither ↦ no_other neither.1
  ]
]

pub way_read : (word : List ℕ) (up : Bool) → Says word (Way up) → way_of word ≡ Some up
way_read word true is = rw is refl
way_read word false is = rw is refl

-- ---- a number up to a greatest one

pub up_to_found : (most : ℕ) (word : List ℕ) (wanted : ℕ) → up_to_of most word ≡ Some wanted → Says word (UpTo most wanted)
up_to_found most word wanted h =
    let first = bind_some (number_of word) _ wanted h in
    elim (chosen (is_up_to most first.0) first.0 None wanted first.2) [
      | inl went ↦
          let number = number_found word first.0 first.1 in
          let parts = and_parts (nat_le 1 first.0) (nat_le first.0 most) went.0 in
          subst (λ (wanted : ℕ). Says word (UpTo most wanted)) went.1 ((leb-true 1 first.0 parts.0, leb-true first.0 most parts.1), number)
      | inr other ↦ no_other other.1
    ]

pub up_to_read : (most : ℕ) (word : List ℕ) (wanted : ℕ) → Says word (UpTo most wanted) → up_to_of most word ≡ Some wanted
up_to_read most word wanted says = rw (number_read word wanted says.1, le-leb 1 wanted says.0.0, le-leb wanted most says.0.1) refl

-- ---- an identifier

pub identifier_found : IsOneText → (word : List ℕ) (cid : Cid) → is_whole_word word ≡ true → identifier_of word ≡ Some cid → Says word (Identifier cid)
identifier_found one word cid whole h = by_read (read_cid_text word) refl h
  where
    some_is : {x y : Cid} → Some x ≡ Some y → x ≡ y
    some_is e = cc e

    by_read : (read : Result (List ℕ) CidTextFault) → read_cid_text word ≡ read → option_map cid_of (result_ok read) ≡ Some cid → Says word (Identifier cid)
    by_read (Err fault) is h = cc h
    by_read (Ok digest) is h =
        let same : cid_of digest ≡ cid = some_is h in
        subst (λ (cid : Cid). Says word (Identifier cid)) same (one word digest is, is, whole)

pub identifier_read : (word : List ℕ) (cid : Cid) → Says word (Identifier cid) → identifier_of word ≡ Some cid
identifier_read word cid says = ap (λ (read : Result (List ℕ) CidTextFault). option_map cid_of (result_ok read)) says.1
