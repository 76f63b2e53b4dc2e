-- Words that are joined.
use Rattle.std.proofs.Common.{◌≡◌, ℕ, List, [], ◌∷◌, ◌++◌, refl, sym, ap, ◌∙◌, append_assoc}
use Rattle.std.specs.List.{join_with_byte}

-- some words and others, with a space between them
pub joined_parts : (first : List ℕ) (firsts : List (List ℕ)) (second : List ℕ) (seconds : List (List ℕ)) → join_with_byte 32 ((first ∷ firsts) ++ (second ∷ seconds)) ≡ join_with_byte 32 (first ∷ firsts) ++ (32 ∷ join_with_byte 32 (second ∷ seconds))
joined_parts first [] second seconds = refl
joined_parts first (next ∷ firsts) second seconds =
    ap (λ (rest : List ℕ). first ++ (32 ∷ rest)) (joined_parts next firsts second seconds)
    ∙ sym (append_assoc first (32 ∷ join_with_byte 32 (next ∷ firsts)) (32 ∷ join_with_byte 32 (second ∷ seconds)))
