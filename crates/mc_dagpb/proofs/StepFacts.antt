-- A field of a node, by its bytes.
use Rattle.std.proofs.Common.{◌≡◌, ℕ, zero, suc, ◌+◌, ◌-◌, ◌≤◌, List, [], ◌∷◌, length, take, drop, true, false, refl, ap, subst, ◌∙◌, arith, Option, Some, None, Ok, ◌⊎◌}
use Rattle.std.proofs.lemmas.List.{length-take-le, length-drop, drop-take, take-take}
use Rattle.std.specs.List.{cons_option}
use Rattle.mc_base.specs.WireRead.{front_of, is_whole, len_of, fronts_past, fronts_from}
use Rattle.mc_base.specs.NodeRead.{NodeFault, link_of, link_fault, unless, hash_or, fault_in, body_fault, part_in, parts_in, first_of}
use Rattle.mc_wire.specs.Named.{FieldAt, field_at}
use Rattle.mc_wire.specs.declared.field.Content.TheVariants.{Part as PartAt}
use Rattle.mc_wire.specs.declared.field.Field.{Field as PlacedField}
use Rattle.mc_dagpb.specs.Named.{IsSpan, span_bytes}
use Rattle.mc_dagpb.specs.Step.{StepOf}
use Rattle.mc_dagpb.specs.declared.link.Span.{Span}
use Rattle.mc_dagpb.specs.declared.step.NodeField.TheVariants.{Link}

-- the bytes of a part are where a text that is cut at its end goes on
cut_body : (text : List ℕ) (from to : ℕ) → from ≤ to → to ≤ length text → drop from (take to text) ≡ take (to - from) (drop from text)
cut_body text from to order within = let e : from + (to - from) ≡ to = omega arith in subst (λ (end : ℕ). drop from (take end text) ≡ take (to - from) (drop from text)) e (drop-take from (to - from) text)

-- where the places of fields count from is no part of what they hold
parts_in-past : (number skipped first second : ℕ) (text : List ℕ) → parts_in number (fronts_past skipped first text) ≡ parts_in number (fronts_past skipped second text)
parts_in-past number skipped first second [] = refl
parts_in-past number (suc skipped) first second (byte ∷ bytes) = parts_in-past number skipped (first + 1) (second + 1) bytes
parts_in-past number zero first second (byte ∷ bytes) =
    let front = front_of (byte ∷ bytes) in
    (elim (is_whole front) as (λ b. is_whole front ≡ b → parts_in number (fronts_past 0 first (byte ∷ bytes)) ≡ parts_in number (fronts_past 0 second (byte ∷ bytes))) [
      | true ↦ λ e. rw e (ap (cons_option (part_in number front)) (parts_in-past number (len_of front - 1) (first + 1) (second + 1) bytes))
      | false ↦ λ e. rw e
    ]) refl

parts_in-anywhere : (number first second : ℕ) (text : List ℕ) → parts_in number (fronts_from first text) ≡ parts_in number (fronts_from second text)
unfolding fronts_from
parts_in-anywhere number first second text = parts_in-past number 0 first second text

pub hash_read : (key : ℕ) (fault : Option NodeFault) (found : Option (List ℕ)) (hash : List ℕ) → unless fault (hash_or key found) ≡ Ok hash → found ≡ Some hash
hash_read key None (Some found) hash e = cc
hash_read key None None hash e = absurd (cc)
hash_read key (Some fault) found hash e = absurd (cc)

-- the Hash of a link, wherever the link stands
pub hash_of_link : (key from : ℕ) (body hash : List ℕ) → link_of key from body ≡ Ok hash → first_of (parts_in 1 (fronts_from 0 body)) ≡ Some hash
hash_of_link key from body hash e = rw (parts_in-anywhere 1 0 from body) (hash_read key (link_fault 0 (fronts_from from body)) (first_of (parts_in 1 (fronts_from from body))) hash e)

-- a span of a text that is cut is one of the whole text
span_cut : (text : List ℕ) (to : ℕ) (span : Span) → to ≤ length text → IsSpan (take to text) span → (span_bytes (take to text) span ≡ span_bytes text span) × IsSpan text span
span_cut text to span within inside =
    let len : length (take to text) ≡ to = length-take-le to text within in
    let bytes : span_bytes (take to text) span ≡ span_bytes text span =
    rw (cut_body text span.from to (omega arith) within) (take-take (span.to - span.from) (to - span.from) (drop span.from text) (omega arith)) in
    (bytes, (inside.0, omega arith))

-- what is asked of a link stands where its body does
pub link_body : (text : List ℕ) (at : ℕ) (field : PlacedField) (from to : ℕ) → field.content ≡ PartAt from to → field.number ≡ 2 → FieldAt text at field →
    body_fault at (field.next - at) (field_at text field) ≡ fault_in (link_of at from (drop from (take to text)))
link_body text at field from to part two placed =
    let ends : (from ≤ to) × (to ≡ field.next) = rw part at placed.bytes in
    let within : to ≤ length text = omega (arith, placed.ends) in
    let body = cut_body text from to ends.0 within in
    let size : length (take (to - from) (drop from text)) ≡ to - from = length-take-le (to - from) (drop from text) (omega (arith, length-drop from text)) in
    let begin : at + (field.next - at) - (to - from) ≡ from = omega (arith, placed.begins) in
    rw (part, two, size, begin, body)

-- a link that is fine
pub link_step : (text : List ℕ) (at : ℕ) (field : PlacedField) (from to : ℕ) (hash : Span) → field.content ≡ PartAt from to → field.number ≡ 2 → FieldAt text at field →
    link_of at from (drop from (take to text)) ≡ Ok (span_bytes (take to text) hash) → IsSpan (take to text) hash → StepOf text at field (record { field = Link hash; next = field.next })
link_step text at field from to hash part two placed found inside =
    let ends : (from ≤ to) × (to ≡ field.next) = rw part at placed.bytes in
    let within : to ≤ length text = omega (arith, placed.ends) in
    let span = span_cut text to hash within inside in
    let body = cut_body text from to ends.0 within in
    record {
      fine = link_body text at field from to part two placed ∙ rw found;
      says = (
        take (to - from) (drop from text),
        rw two,
        rw (part, two),
        subst (λ (bytes : List ℕ). first_of (parts_in 1 (fronts_from 0 bytes)) ≡ Some (span_bytes text hash)) body
            (hash_of_link at from (drop from (take to text)) (span_bytes text hash) (found ∙ rw span.0)),
      );
      inside = span.1;
      next = refl;
      number = λ one. absurd (omega arith);
      other = λ _. refl;
    }

pub link_number : (number : ℕ) → (number ≡ 1) ⊎ (number ≡ 2) → (number ≡ 1 → ⊥) → number ≡ 2
link_number number either not_data = omega arith
