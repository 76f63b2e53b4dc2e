-- Each file has one spelling.
use Rattle.std.proofs.Common.{◌≡◌, ℕ, List, [], ◌∷◌, ◌++◌, length, refl, sym, ap, ◌∙◌, arith}
use Rattle.mc_base.specs.Varint.{IsBase128}
use Rattle.mc_base.specs.declared.cid.Cid.{Cid}
use Rattle.mc_car.specs.declared.car.Section.{Section}
use Rattle.mc_car.specs.Car.{AreSections, IsCarText, IsPiece, header_bytes, section_body}

one_base : (first second : List ℕ) (value other : ℕ) → value ≡ other → IsBase128 first value → IsBase128 second other → first ≡ second
one_base [] second value other same is also = absurd is
one_base (x ∷ xs) [] value other same is also = absurd also
one_base (x ∷ []) (y ∷ []) value other same is also = ap (λ z. z ∷ []) (omega (arith, same, is.1, also.1))
one_base (x ∷ []) (y ∷ z ∷ ys) value other same is also = absurd (omega (arith, same, is.0, is.1, also.0, also.3, also.4))
one_base (x ∷ z ∷ xs) (y ∷ []) value other same is also = absurd (omega (arith, same, also.0, also.1, is.0, is.3, is.4))
one_base (x ∷ v ∷ xs) (y ∷ w ∷ ys) value other same is also =
    let high : is.2 ≡ also.2 = omega (arith, same, is.0, is.1, is.4, also.0, also.1, also.4) in
    let byte : x ≡ y = omega (arith, same, high, is.4, also.4) in
    ap (λ b. b ∷ v ∷ xs) byte ∙ ap (λ z. y ∷ z) (one_base (v ∷ xs) (w ∷ ys) is.2 also.2 high is.5 also.5)

one_piece : (first second body : List ℕ) → IsPiece first body → IsPiece second body → first ≡ second
one_piece first second body is also =
    is.parts ∙ ap (λ z. z ++ body) (one_base is.size also.size (length body) (length body) refl is.size_is.spelled also.size_is.spelled) ∙ sym also.parts

one_sections : (first second : List ℕ) (sections : List Section) → AreSections first sections → AreSections second sections → first ≡ second
one_sections first second [] are also = are ∙ sym also
one_sections first second (section ∷ sections) are also =
    are.2
    ∙ ap (λ z. z ++ are.1) (one_piece are.0 also.0 (section_body section) are.3 also.3)
    ∙ ap (λ z. also.0 ++ z) (one_sections are.1 also.1 sections are.4 also.4)
    ∙ sym also.2

pub one_text : (first second : List ℕ) (roots : List Cid) (sections : List Section) → IsCarText first roots sections → IsCarText second roots sections → first ≡ second
one_text first second roots sections is also =
    is.parts
    ∙ ap (λ z. z ++ is.rest) (one_piece is.header also.header (header_bytes roots) is.header_is also.header_is)
    ∙ ap (λ z. also.header ++ z) (one_sections is.rest also.rest sections is.rest_is also.rest_is)
    ∙ sym also.parts
