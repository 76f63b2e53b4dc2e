-- Pieces one after another.
use Rattle.std.proofs.Common.{◌≡◌, ℕ, ◌+◌, ◌<◌, List, [], ◌∷◌, ◌++◌, length, take, get_or, refl, sym, ap, ◌∙◌, append_assoc}
use Rattle.std.proofs.lemmas.List.{append-nil, take_more}
use Rattle.mc_car.specs.declared.car.Section.{Section}
use Rattle.mc_car.specs.Car.{AreSections, IsPiece, section_body}
use Rattle.mc_car.specs.Steps.{AppendsPiece, AppendsSections}

pub sections_more : (text piece : List ℕ) (sections : List Section) (section : Section) → AreSections text sections → IsPiece piece (section_body section) → AreSections (text ++ piece) (sections ++ section ∷ [])
sections_more text piece [] section are is = (piece, [], rw are (sym (append-nil piece)), is, refl)
sections_more text piece (first ∷ sections) section are is =
    (are.0, are.1 ++ piece, ap (λ z. z ++ piece) are.2 ∙ append_assoc are.0 are.1 piece, are.3, sections_more are.1 piece sections section are.4 is)

-- one section more
pub appends_section : (first now new : List ℕ) (sections : List Section) (i : ℕ) (section : Section) → i < length sections → section ≡ get_or sections i section
    → AppendsSections first now (take i sections) → AppendsPiece now new (section_body section) → AppendsSections first new (take (i + 1) sections)
appends_section first now new sections i section within at before step =
    let more : take (i + 1) sections ≡ take i sections ++ section ∷ [] = take_more sections i section within ∙ ap (λ (z : Section). take i sections ++ z ∷ []) (sym at) in
    (before.0 ++ step.0, rw more (sections_more before.0 step.0 (take i sections) section before.1 step.1), step.2 ∙ ap (λ z. z ++ step.0) before.2 ∙ append_assoc first before.0 step.0)
