-- Sections one after another.
use Rattle.std.proofs.Common.{◌≡◌, ℕ, zero, suc, ◌+◌, ◌-◌, ◌<◌, ◌≤◌, List, [], ◌∷◌, ◌++◌, length, take, drop, Result, Ok, Err, refl, sym, ap, ◌∙◌, arith, append_assoc}
use Rattle.std.proofs.lemmas.List.{drop-drop, drop_all, length-drop, length-take, append-nil}
use Rattle.mc_car.specs.declared.car.Section.{Section}
use Rattle.mc_car.specs.declared.fault.CarError.{CarError}
use Rattle.mc_car.specs.declared.fault.CarError.TheVariants.{Fault, Memory}
use Rattle.mc_car.specs.declared.fault.CarFault.{CarFault}
use Rattle.mc_car.specs.declared.piece.Span.{Span}
use Rattle.mc_car.specs.CarRead.{onto_sections, piece_len, piece_of, section_in, section_of, sections_at, sections_past}
use Rattle.mc_car.specs.Steps.{IsFaultOf, PieceAt}

-- skipping bytes is dropping them
pub past : (skipped at : ℕ) (text : List ℕ) → sections_past skipped at text ≡ sections_past 0 (at + skipped) (drop skipped text)
past zero at text = let same : at ≡ at + 0 = omega arith in ap (λ n. sections_past 0 n text) same
past (suc skipped) at [] = refl
past (suc skipped) at (byte ∷ bytes) =
    let same : at + 1 + skipped ≡ at + suc skipped = omega arith in
    past skipped (at + 1) bytes ∙ ap (λ n. sections_past 0 n (drop skipped bytes)) same

drop_one_less : (n : ℕ) (byte : ℕ) (bytes : List ℕ) → 0 < n → drop (n - 1) bytes ≡ drop n (byte ∷ bytes)
drop_one_less zero byte bytes some = absurd (omega (arith, some))
drop_one_less (suc n) byte bytes some = let same : suc n - 1 ≡ n = omega arith in ap (λ k. drop k bytes) same

-- the first section of a text that isn't empty, and those after it
pub first_past : (at : ℕ) (text : List ℕ) (n : ℕ) → 0 < length text → 0 < n → piece_len (piece_of at text) ≡ n
    → sections_past 0 at text ≡ onto_sections (section_in at (piece_of at text)) (sections_past 0 (at + n) (drop n text))
first_past at [] n some long len = absurd (omega (arith, some))
first_past at (byte ∷ bytes) n some long len =
    let same : at + 1 + (n - 1) ≡ at + n = omega (arith, long) in
    ap (onto_sections (section_in at (piece_of at (byte ∷ bytes))))
    (ap (λ k. sections_past (k - 1) (at + 1) bytes) len
    ∙ past (n - 1) (at + 1) bytes
    ∙ ap (λ k. sections_past 0 k (drop (n - 1) bytes)) same
    ∙ ap (sections_past 0 (at + n)) (drop_one_less n byte bytes long))

pub no_piece : (at : ℕ) (text : List ℕ) (fault : CarFault) → 0 < length text → piece_of at text ≡ Err fault → sections_past 0 at text ≡ Err fault
no_piece at [] fault some is = absurd (omega (arith, some))
no_piece at (byte ∷ bytes) fault some is =
    ap (λ p. onto_sections (section_in at p) (sections_past (piece_len (piece_of at (byte ∷ bytes)) - 1) (at + 1) bytes)) is

-- sections that were read, and those that are still to come
abbrev pub onto_all : List Section → Result (List Section) CarFault → Result (List Section) CarFault
onto_all sections (Err fault) = Err fault
onto_all sections (Ok rest) = Ok (sections ++ rest)

onto_none : (rest : Result (List Section) CarFault) → rest ≡ onto_all [] rest
onto_none (Err fault) = refl
onto_none (Ok rest) = refl

pub onto_next : (sections : List Section) (section : Section) (rest : Result (List Section) CarFault) → onto_all sections (onto_sections (Ok section) rest) ≡ onto_all (sections ++ section ∷ []) rest
onto_next sections section (Err fault) = refl
onto_next sections section (Ok rest) = ap (λ z. Ok z) (sym (append_assoc sections (section ∷ []) rest))

pub record IsReading (text : List ℕ) (from at : ℕ) (sections : List Section) : Type 0 where
  pub inside : at ≤ length text
  pub whole : sections_at text from ≡ onto_all sections (sections_at text at)

pub reading_begins : (text : List ℕ) (from : ℕ) → from ≤ length text → IsReading text from from []
reading_begins text from inside = record { inside = inside; whole = onto_none (sections_at text from) }

-- the piece at an offset, and the sections after it
pub step : (text : List ℕ) (at : ℕ) (span : Span) → at < length text → PieceAt text at span
    → sections_at text at ≡ onto_sections (section_of at (take (span.to - span.from) (drop span.from text))) (sections_at text span.to)
unfolding sections_at
step text at span inside piece =
    let body = take (span.to - span.from) (drop span.from text) in
    let some : 0 < length (drop at text) = omega (arith, inside, length-drop at text) in
    let size : length body ≡ span.to - span.from = omega (arith, length-take {A = ℕ}, length-drop span.from text, piece.ends, piece.order) in
    let n = span.to - at in
    let long : 0 < n = omega (arith, piece.begins, piece.order) in
    let len : piece_len (piece_of at (drop at text)) ≡ n = ap piece_len piece.found ∙ omega (arith, size, piece.begins, piece.order) in
    let end : at + n ≡ span.to = omega (arith, piece.begins, piece.order) in
    first_past at (drop at text) n some long len
    ∙ ap (λ p. onto_sections (section_in at p) (sections_past 0 (at + n) (drop n (drop at text)))) piece.found
    ∙ ap (λ z. onto_sections (section_of at body) (sections_past 0 (at + n) z)) (drop-drop n at text)
    ∙ ap (λ z. onto_sections (section_of at body) (sections_past 0 z (drop z text))) end

pub reading_next : (text : List ℕ) (from at : ℕ) (sections : List Section) (span : Span) (section : Section) → IsReading text from at sections → at < length text → PieceAt text at span
    → section_of at (take (span.to - span.from) (drop span.from text)) ≡ Ok section → IsReading text from span.to (sections ++ section ∷ [])
reading_next text from at sections span section reading inside piece is = record {
  inside = piece.ends;
  whole = reading.whole
      ∙ ap (onto_all sections) (step text at span inside piece ∙ ap (λ s. onto_sections s (sections_at text span.to)) is)
      ∙ onto_next sections section (sections_at text span.to);
}

pub reading_ends : (text : List ℕ) (from at : ℕ) (sections : List Section) → IsReading text from at sections → length text ≤ at → sections_at text from ≡ Ok sections
unfolding sections_at
reading_ends text from at sections reading all =
    reading.whole ∙ ap (λ z. onto_all sections (sections_past 0 at z)) (drop_all at text all) ∙ ap (λ z. Ok z) (append-nil sections)

pub reading_breaks : (text : List ℕ) (from at : ℕ) (sections : List Section) (fault : CarFault) → IsReading text from at sections → at < length text → piece_of at (drop at text) ≡ Err fault → sections_at text from ≡ Err fault
unfolding sections_at
reading_breaks text from at sections fault reading inside is =
    reading.whole ∙ ap (onto_all sections) (no_piece at (drop at text) fault (omega (arith, inside, length-drop at text)) is)

pub reading_stops : (text : List ℕ) (from at : ℕ) (sections : List Section) (span : Span) (error : CarError) → IsReading text from at sections → at < length text → PieceAt text at span
    → IsFaultOf (section_of at (take (span.to - span.from) (drop span.from text))) error → IsFaultOf (sections_at text from) error
reading_stops text from at sections span Memory reading inside piece is = tt
reading_stops text from at sections span (Fault fault) reading inside piece is =
    reading.whole ∙ ap (onto_all sections) (step text at span inside piece ∙ ap (λ s. onto_sections s (sections_at text span.to)) is)
