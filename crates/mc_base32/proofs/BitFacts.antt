-- Bits in groups of five and of eight.
use Rattle.std.proofs.Common.{◌≡◌, ℕ, ◌/◌, ◌%◌, ◌<◌, List, [], ◌∷◌, ◌++◌, refl, ap, ◌∙◌, arith}
use Rattle.std.specs.List.{flat_map, AllByRecursion}
use Rattle.mc_base.specs.Base32.{byte_bits, five, fives}
use Rattle.mc_base32.specs.Reading.{eight, eights, five_bits, unused}

-- each is 0 or 1
abbrev pub AreBits : List ℕ → Type 0
AreBits bits = AllByRecursion (λ bit. bit < 2) bits

five_back : (a b c d e : ℕ) → a < 2 → b < 2 → c < 2 → d < 2 → e < 2 → five_bits (five a b c d e) ≡ a ∷ b ∷ c ∷ d ∷ e ∷ []
five_back a b c d e ha hb hc hd he =
    let h1 : five a b c d e / 16 ≡ a = omega arith in
    let h2 : five a b c d e / 8 % 2 ≡ b = omega arith in
    let h3 : five a b c d e / 4 % 2 ≡ c = omega arith in
    let h4 : five a b c d e / 2 % 2 ≡ d = omega arith in
    let h5 : five a b c d e % 2 ≡ e = omega arith in
    rw (h1, h2, h3, h4, h5) refl

value_back : (v : ℕ) → v < 32 → five (v / 16) (v / 8 % 2) (v / 4 % 2) (v / 2 % 2) (v % 2) ≡ v
value_back v h = omega arith

-- the zeros that fill up the last group of five
abbrev pub fill : List ℕ → List ℕ
fill [] = []
fill (a ∷ []) = 0 ∷ 0 ∷ 0 ∷ 0 ∷ []
fill (a ∷ b ∷ []) = 0 ∷ 0 ∷ 0 ∷ []
fill (a ∷ b ∷ c ∷ []) = 0 ∷ 0 ∷ []
fill (a ∷ b ∷ c ∷ d ∷ []) = 0 ∷ []
fill (a ∷ b ∷ c ∷ d ∷ e ∷ bits) = fill bits

-- the bits of the groups are the bits, filled up
pub fives_spread : (bits : List ℕ) → AreBits bits → flat_map five_bits (fives bits) ≡ bits ++ fill bits
unfolding fives
fives_spread [] h = refl
fives_spread (a ∷ []) h = five_back a 0 0 0 0 h.0 (omega arith) (omega arith) (omega arith) (omega arith)
fives_spread (a ∷ b ∷ []) h = five_back a b 0 0 0 h.0 h.1.0 (omega arith) (omega arith) (omega arith)
fives_spread (a ∷ b ∷ c ∷ []) h = five_back a b c 0 0 h.0 h.1.0 h.1.1.0 (omega arith) (omega arith)
fives_spread (a ∷ b ∷ c ∷ d ∷ []) h = five_back a b c d 0 h.0 h.1.0 h.1.1.0 h.1.1.1.0 (omega arith)
fives_spread (a ∷ b ∷ c ∷ d ∷ e ∷ bits) h =
    ap (λ (front : List ℕ). front ++ flat_map five_bits (fives bits)) (five_back a b c d e h.0 h.1.0 h.1.1.0 h.1.1.1.0 h.1.1.1.1.0)
    ∙ ap (λ (rest : List ℕ). a ∷ b ∷ c ∷ d ∷ e ∷ rest) (fives_spread bits h.1.1.1.1.1)

-- the groups of the bits of values are the values
pub spread_fives : (values : List ℕ) → AllByRecursion (λ value. value < 32) values → fives (flat_map five_bits values) ≡ values
unfolding fives
spread_fives [] h = refl
spread_fives (v ∷ values) h = rw (value_back v h.0, spread_fives values h.1) refl

-- ---- bits and bytes

byte_back : (byte : ℕ) → byte < 256 → eight (byte / 128) (byte / 64 % 2) (byte / 32 % 2) (byte / 16 % 2) (byte / 8 % 2) (byte / 4 % 2) (byte / 2 % 2) (byte % 2) ≡ byte
byte_back byte h = omega arith

bits_back : (a b c d e f g h : ℕ) → a < 2 → b < 2 → c < 2 → d < 2 → e < 2 → f < 2 → g < 2 → h < 2 → byte_bits (eight a b c d e f g h) ≡ a ∷ b ∷ c ∷ d ∷ e ∷ f ∷ g ∷ h ∷ []
bits_back a b c d e f g h ha hb hc hd he hf hg hh =
    let h1 : eight a b c d e f g h / 128 ≡ a = omega arith in
    let h2 : eight a b c d e f g h / 64 % 2 ≡ b = omega arith in
    let h3 : eight a b c d e f g h / 32 % 2 ≡ c = omega arith in
    let h4 : eight a b c d e f g h / 16 % 2 ≡ d = omega arith in
    let h5 : eight a b c d e f g h / 8 % 2 ≡ e = omega arith in
    let h6 : eight a b c d e f g h / 4 % 2 ≡ f = omega arith in
    let h7 : eight a b c d e f g h / 2 % 2 ≡ g = omega arith in
    let h8 : eight a b c d e f g h % 2 ≡ h = omega arith in
    rw (h1, h2, h3, h4, h5, h6, h7, h8) refl

-- the bytes of the bits of bytes, whatever follows them
pub eights_of_bytes : (bytes tail : List ℕ) → AllByRecursion (λ byte. byte < 256) bytes → (eights (flat_map byte_bits bytes ++ tail) ≡ bytes ++ eights tail) × (unused (flat_map byte_bits bytes ++ tail) ≡ unused tail)
unfolding eights unused
eights_of_bytes [] tail h = (refl, refl)
eights_of_bytes (byte ∷ bytes) tail h =
    let rest = eights_of_bytes bytes tail h.1 in
    (rw (byte_back byte h.0, rest.0) refl, rest.1)

-- bits are the bits of their bytes, and those left over
pub bits_parts : (bits : List ℕ) → AreBits bits → flat_map byte_bits (eights bits) ++ unused bits ≡ bits
unfolding eights unused
bits_parts [] h = refl
bits_parts (a ∷ []) h = refl
bits_parts (a ∷ b ∷ []) h = refl
bits_parts (a ∷ b ∷ c ∷ []) h = refl
bits_parts (a ∷ b ∷ c ∷ d ∷ []) h = refl
bits_parts (a ∷ b ∷ c ∷ d ∷ e ∷ []) h = refl
bits_parts (a ∷ b ∷ c ∷ d ∷ e ∷ f ∷ []) h = refl
bits_parts (a ∷ b ∷ c ∷ d ∷ e ∷ f ∷ g ∷ []) h = refl
bits_parts (a ∷ b ∷ c ∷ d ∷ e ∷ f ∷ g ∷ i ∷ bits) h =
    ap (λ (front : List ℕ). front ++ (flat_map byte_bits (eights bits) ++ unused bits)) (bits_back a b c d e f g i h.0 h.1.0 h.1.1.0 h.1.1.1.0 h.1.1.1.1.0 h.1.1.1.1.1.0 h.1.1.1.1.1.1.0 h.1.1.1.1.1.1.1.0)
    ∙ ap (λ (rest : List ℕ). a ∷ b ∷ c ∷ d ∷ e ∷ f ∷ g ∷ i ∷ rest) (bits_parts bits h.1.1.1.1.1.1.1.1)

bits_of_byte : (byte : ℕ) (tail : List ℕ) → byte < 256 → AreBits tail → AreBits (byte_bits byte ++ tail)
bits_of_byte byte tail h rest = (omega arith, (omega arith, (omega arith, (omega arith, (omega arith, (omega arith, (omega arith, (omega arith, rest))))))))

pub bits_of_bytes : (bytes : List ℕ) → AllByRecursion (λ byte. byte < 256) bytes → AreBits (flat_map byte_bits bytes)
bits_of_bytes [] h = tt
bits_of_bytes (byte ∷ bytes) h = bits_of_byte byte (flat_map byte_bits bytes) h.0 (bits_of_bytes bytes h.1)

bits_of_value : (value : ℕ) (tail : List ℕ) → value < 32 → AreBits tail → AreBits (five_bits value ++ tail)
bits_of_value value tail h rest = (omega arith, (omega arith, (omega arith, (omega arith, (omega arith, rest)))))

pub bits_of_values : (values : List ℕ) → AllByRecursion (λ value. value < 32) values → AreBits (flat_map five_bits values)
bits_of_values [] h = tt
bits_of_values (value ∷ values) h = bits_of_value value (flat_map five_bits values) h.0 (bits_of_values values h.1)
