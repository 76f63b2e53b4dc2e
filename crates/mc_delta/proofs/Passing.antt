-- A test of the bytes of each field of the numbers 1 and 2.
use Rattle.std.proofs.Common.{◌≡◌, ℕ, List, ◌∷◌, Bool, true, false, refl, Some, None, ◌==◌, ◌&&◌, ◌||◌, not}
use Rattle.std.proofs.Math.Dec.{eqb}
use Rattle.std.proofs.lemmas.Bool.{false≢true}
use Rattle.std.specs.Bool.{if◌then◌else◌}
use Rattle.std.specs.List.{list_all, cons_option}
use Rattle.mc_base.specs.Wire.{Field, Content, Varint, Fixed64, Part, Fixed32}
use Rattle.mc_model.specs.DeltaText.{parts_of}

abbrev pub passes : (List ℕ → Bool) → Content → Bool
passes test (Part bytes) = test bytes
passes test content = true

-- a field of another number, or one that passes
abbrev pub field_passes : (List ℕ → Bool) → Field → Bool
field_passes test field = not ((field.number == 1 || field.number == 2) && not (passes test field.content))

abbrev pub all_pass : (List ℕ → Bool) → List Field → Bool
all_pass test fields = list_all test (parts_of 1 fields) && list_all test (parts_of 2 fields)

pass_by : (one two it all_one all_two : Bool) → not ((one || two) && not it) ≡ true → (all_one && all_two) ≡ true → ((if one then (it && all_one) else all_one) && (if two then (it && all_two) else all_two)) ≡ true
pass_by true true true all_one all_two fine all = all
pass_by true false true all_one all_two fine all = all
pass_by false true true all_one all_two fine all = all
pass_by false false it all_one all_two fine all = all
pass_by true true false all_one all_two fine all = absurd (false≢true fine)
pass_by true false false all_one all_two fine all = absurd (false≢true fine)
pass_by false true false all_one all_two fine all = absurd (false≢true fine)

passed_by : (one two it all_one all_two : Bool) → ((if one then (it && all_one) else all_one) && (if two then (it && all_two) else all_two)) ≡ true → (not ((one || two) && not it) ≡ true) × ((all_one && all_two) ≡ true)
passed_by true true true all_one all_two all = (refl, all)
passed_by true false true all_one all_two all = (refl, all)
passed_by false true true all_one all_two all = (refl, all)
passed_by false false it all_one all_two all = (refl, all)
passed_by true true false all_one all_two all = absurd (false≢true all)
passed_by true false false all_one all_two all = absurd (false≢true all)
passed_by false true false true all_two all = absurd (false≢true all)
passed_by false true false false all_two all = absurd (false≢true all)

-- the parts of a number, with one field more
parts_more : (test : List ℕ → Bool) (number field : ℕ) (content : Content) (fields : List Field) →
    list_all test (parts_of number (record { number = field; content = content } ∷ fields)) ≡ (if field == number then (passes test content && list_all test (parts_of number fields)) else list_all test (parts_of number fields))
parts_more test number field (Varint value) fields = (elim (eqb field number) as (λ b. list_all test (cons_option (if b then None else None) (parts_of number fields)) ≡ (if b then list_all test (parts_of number fields) else list_all test (parts_of number fields))) [ true ↦ refl | false ↦ refl ])
parts_more test number field (Fixed64 bytes) fields = (elim (eqb field number) as (λ b. list_all test (cons_option (if b then None else None) (parts_of number fields)) ≡ (if b then list_all test (parts_of number fields) else list_all test (parts_of number fields))) [ true ↦ refl | false ↦ refl ])
parts_more test number field (Part bytes) fields = (elim (eqb field number) as (λ b. list_all test (cons_option (if b then Some bytes else None) (parts_of number fields)) ≡ (if b then (test bytes && list_all test (parts_of number fields)) else list_all test (parts_of number fields))) [ true ↦ refl | false ↦ refl ])
parts_more test number field (Fixed32 bytes) fields = (elim (eqb field number) as (λ b. list_all test (cons_option (if b then None else None) (parts_of number fields)) ≡ (if b then list_all test (parts_of number fields) else list_all test (parts_of number fields))) [ true ↦ refl | false ↦ refl ])

pub pass_more : (test : List ℕ → Bool) (field : Field) (fields : List Field) → field_passes test field ≡ true → all_pass test fields ≡ true → all_pass test (field ∷ fields) ≡ true
pass_more test field fields fine all =
    rw (parts_more test 1 field.number field.content fields, parts_more test 2 field.number field.content fields)
    (pass_by (field.number == 1) (field.number == 2) (passes test field.content) (list_all test (parts_of 1 fields)) (list_all test (parts_of 2 fields)) fine all)

pub pass_less : (test : List ℕ → Bool) (field : Field) (fields : List Field) → all_pass test (field ∷ fields) ≡ true → (field_passes test field ≡ true) × (all_pass test fields ≡ true)
pass_less test field fields all =
    passed_by (field.number == 1) (field.number == 2) (passes test field.content) (list_all test (parts_of 1 fields)) (list_all test (parts_of 2 fields))
    (rw (parts_more test 1 field.number field.content fields, parts_more test 2 field.number field.content fields) at all)
