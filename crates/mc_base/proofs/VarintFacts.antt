-- Reading and writing varints, over plain values.
use Rattle.std.proofs.Common.{◌≡◌, ◌≢◌, inl, inr, ℕ, suc, ◌/◌, slice_set, ◌+◌, ◌-◌, ◌*◌, ◌%◌, ◌^◌, ◌<◌, ◌≤◌, List, [], ◌∷◌, ◌++◌, length, get_or, take, drop, None, Some, Result, Ok, Err, refl, sym, ap, ◌∙◌, append_assoc, add-one, arith, length-take}
use Rattle.std.specs.List.{slice_index}
use Rattle.std.proofs.lemmas.Bool.{le-ltb, cases_lt}
use Rattle.std.proofs.Math.Nat.{pow-le-pow_right, mul-le-mul_right, mul-add, mul_comm, mul_assoc, pow-succ'}
use Rattle.std.proofs.lemmas.List.{take_more, take_more_set, length-set, drop_more, take-append-drop}
use Rattle.std.specs.Prelude.{IfOk, IfErr, nat_le, nat_lt, ◌==◌, ◌&&◌, if◌then◌else◌}
use Rattle.mc_base.specs.declared.varint.VarintFault.{VarintFault}
use Rattle.mc_base.specs.declared.varint.VarintFault.TheVariants.{Short, Long, NotMinimal}
use Rattle.mc_base.specs.Varint.{IsBase128, IsUnsignedVarint, high_run, varint_fault}

-- the first bytes all have the high bit, and any spelling of the rest completes them
pub record IsReading (bytes : List ℕ) (at value weight : ℕ) : Type 0 where
  pub in_bytes : at ≤ length bytes
  pub size : at ≤ 9
  pub power : weight ≡ 128 ^ at
  pub below : value < weight
  pub run : high_run bytes ≡ at + high_run (drop at bytes)
  pub complete : (tail : List ℕ) (high : ℕ) → (0 < at → 0 < high) → IsBase128 tail high → IsBase128 (take at bytes ++ tail) (value + weight * high)

-- the weights of the nine groups
weight_small : (at weight : ℕ) → at < 9 → weight ≡ 128 ^ at → weight ≤ 2 ^ 56
weight_small at weight h e =
    let p : 128 ^ at ≤ 128 ^ 8 = pow-le-pow_right {n = 128} (omega arith) {i = at} {j = 8} (omega arith) in
    omega (arith, p, e)

group_below : (byte weight : ℕ) → byte < 128 → byte * weight + weight ≤ 128 * weight
group_below byte weight h =
    let p : byte * weight ≤ 127 * weight = mul-le-mul_right weight (omega arith) in
    omega arith

-- no sum or product of reading is too large
pub record Fit (value weight group : ℕ) : Type 0 where
  pub product : group * weight < 2 ^ 64
  pub total : value + group * weight < 2 ^ 64
  pub heavier : weight * 128 < 2 ^ 64

pub groups_fit : (bytes : List ℕ) (at value weight group : ℕ) → IsReading bytes at value weight → at < 9 → group < 128 → Fit value weight group
groups_fit bytes at value weight group reading h small =
    let light = weight_small at weight h reading.power in
    let below = group_below group weight small in
    record { product = omega (arith, below, light); total = omega (arith, below, light, reading.below); heavier = omega (arith, light) }

regroup : (value byte weight high : ℕ) → value + weight * (byte + 128 * high) ≡ value + byte * weight + weight * 128 * high
regroup value byte weight high =
    let e = mul-add weight byte (128 * high) in
    let f = mul_comm weight byte in
    let g = mul_assoc weight 128 high in
    omega arith

-- the byte at a place
pub record IsAt (bytes : List ℕ) (at byte : ℕ) : Type 0 where
  pub within : at < length bytes
  pub is : get_or bytes at 0 ≡ byte

take_place : (bytes : List ℕ) (at byte : ℕ) → IsAt bytes at byte → take (at + 1) bytes ≡ take at bytes ++ byte ∷ []
take_place bytes at byte place = rw (take_more bytes at 0 place.within, place.is) refl

drop_place : (bytes : List ℕ) (at byte : ℕ) → IsAt bytes at byte → drop at bytes ≡ byte ∷ drop (at + 1) bytes
drop_place bytes at byte place = rw (drop_more bytes at 0 place.within, place.is) refl

-- the last group ends the varint
pub last_group : (bytes : List ℕ) (at value weight byte group : ℕ) → IsReading bytes at value weight → at < 9 → IsAt bytes at byte → byte < 128 → (0 < at → 0 < byte) → group ≡ byte
    → IsUnsignedVarint (take (at + 1) bytes) (value + group * weight)
last_group bytes at value weight byte group reading h found below positive same =
    let whole = reading.complete (byte ∷ []) byte positive (below, refl) in
    record {
      spelled = rw (same, take_place bytes at byte found, mul_comm byte weight) whole;
      size = omega (arith, length-take {A = ℕ});
    }

run_next : (bytes : List ℕ) (at byte : ℕ) → high_run bytes ≡ at + high_run (drop at bytes) → IsAt bytes at byte → 128 ≤ byte → high_run bytes ≡ at + 1 + high_run (drop (at + 1) bytes)
run_next bytes at byte run found least =
    let e = le-ltb byte 128 least in
    let d : high_run (drop at bytes) ≡ high_run (drop (at + 1) bytes) + 1 = rw (drop_place bytes at byte found, e) refl in
    omega arith

complete_next : (bytes : List ℕ) (at value weight byte : ℕ) → IsReading bytes at value weight → IsAt bytes at byte → 128 ≤ byte → byte < 256
    → (tail : List ℕ) (high : ℕ) → (0 < at + 1 → 0 < high) → IsBase128 tail high → IsBase128 (take (at + 1) bytes ++ tail) (value + byte % 128 * weight + weight * 128 * high)
complete_next bytes at value weight byte reading found least most [] high positive spelled = absurd spelled
complete_next bytes at value weight byte reading found least most (x ∷ xs) high positive spelled =
    let more = positive (omega arith) in
    let whole = reading.complete (byte ∷ x ∷ xs) (byte % 128 + 128 * high) (λ _. omega arith) (least, most, high, more, omega arith, spelled) in
    let e : take (at + 1) bytes ++ (x ∷ xs) ≡ take at bytes ++ (byte ∷ x ∷ xs) = rw (take_place bytes at byte found) (append_assoc (take at bytes) (byte ∷ []) (x ∷ xs)) in
    rw (e, ← regroup value (byte % 128) weight high) whole

power_next : (at weight : ℕ) → weight ≡ 128 ^ at → weight * 128 ≡ 128 ^ (at + 1)
power_next at weight power = rw (power, add-one, pow-succ') (mul_comm (128 ^ at) 128)

-- a group with the high bit goes before what is left
pub next_group : (bytes : List ℕ) (at value weight byte group : ℕ) → IsReading bytes at value weight → at < 9 → IsAt bytes at byte → 128 ≤ byte → byte < 256 → group ≡ byte % 128
    → IsReading bytes (at + 1) (value + group * weight) (weight * 128)
next_group bytes at value weight byte group reading h found least most same =
    rw same (record {
      in_bytes = omega (arith, found.within);
      size = omega arith;
      power = power_next at weight reading.power;
      below = omega (arith, group_below (byte % 128) weight (omega arith), reading.below);
      run = run_next bytes at byte reading.run found least;
      complete = complete_next bytes at value weight byte reading found least most;
    })

-- where a spelling ends
record EndsAt (bytes rest : List ℕ) (value : ℕ) : Type 0 where
  run : high_run (bytes ++ rest) + 1 ≡ length bytes
  more : 0 < high_run (bytes ++ rest) → 0 < value
  last : 0 < value → slice_index (bytes ++ rest) (high_run (bytes ++ rest)) ≢ 0

ends_at : (bytes rest : List ℕ) (value : ℕ) → IsBase128 bytes value → EndsAt bytes rest value
ends_at [] rest value spelled = absurd spelled
ends_at (byte ∷ []) rest value spelled = record { run = grind (arith, spelled.0); more = grind (arith, spelled.0); last = grind (arith, spelled.0, spelled.1) }
ends_at (byte ∷ next ∷ bytes) rest value spelled =
    let below = ends_at (next ∷ bytes) rest spelled.2 spelled.5 in
    record { run = grind (arith, spelled.0, below.run); more = λ _. omega (arith, spelled.0, spelled.3, spelled.4); last = λ _. rw (le-ltb byte 128 spelled.0, add-one) (below.last spelled.3) }

chosen_none : (run len byte : ℕ) → run < 9 → run < len → (0 < run → byte ≢ 0)
    → (if nat_le 9 run then Some Long else if run == len then Some Short else if nat_lt 0 run && (byte == 0) then Some NotMinimal else None) ≡ None
chosen_none run len byte size within last = grind arith

-- no spelling begins another
pub one_spelling : (first second after other : List ℕ) (one two : ℕ) → IsBase128 first one → IsBase128 second two → first ++ after ≡ second ++ other → (first ≡ second) × (one ≡ two)
one_spelling [] second after other one two h k e = absurd h
one_spelling (a ∷ first) [] after other one two h k e = absurd k
one_spelling (a ∷ []) (b ∷ []) after other one two h k e =
    let same : a ≡ b = cc in
    (ap (λ (byte : ℕ). byte ∷ []) same, omega arith)
one_spelling (a ∷ []) (b ∷ d ∷ second) after other one two h k e =
    let same : a ≡ b = cc in
    absurd (omega arith)
one_spelling (a ∷ c ∷ first) (b ∷ []) after other one two h k e =
    let same : a ≡ b = cc in
    absurd (omega arith)
one_spelling (a ∷ c ∷ first) (b ∷ d ∷ second) after other one two h k e =
    let same : a ≡ b = cc in
    let rest : (c ∷ first) ++ after ≡ (d ∷ second) ++ other = cc in
    let below = one_spelling (c ∷ first) (d ∷ second) after other h.2 k.2 h.5 k.5 rest in
    (cc, omega arith)

-- a varint at the front is no fault
pub no_fault : (bytes : List ℕ) (value count : ℕ) → count ≤ length bytes → IsUnsignedVarint (take count bytes) value → varint_fault bytes ≡ None
no_fault bytes value count h is =
    let ends = ends_at (take count bytes) (drop count bytes) value is.spelled in
    let whole = take-append-drop count bytes in
    let run : high_run bytes + 1 ≡ length (take count bytes) = rw whole at ends.run in
    let last : 0 < value → get_or bytes (high_run bytes) 0 ≢ 0 = rw whole at ends.last in
    let positive : 0 < high_run bytes → 0 < value = rw whole at ends.more in
    chosen_none (high_run bytes) (length bytes) (get_or bytes (high_run bytes) 0) (omega (arith, is.size)) (omega (arith, length-take {A = ℕ})) (λ more. last (positive more))

-- a reading of the first varint reads each varint
pub every_varint : (bytes : List ℕ) (result : Result (ℕ × ℕ) VarintFault) → IfOk result (λ read. read.1 ≤ length bytes) → IfOk result (λ read. IsUnsignedVarint (take read.1 bytes) read.0) → IfErr result (λ fault. varint_fault bytes ≡ Some fault)
    → (value count : ℕ) → count ≤ length bytes → IsUnsignedVarint (take count bytes) value → result ≡ Ok (value, count)
every_varint bytes (Ok read) within is fault value count h varint =
    let whole : take read.1 bytes ++ drop read.1 bytes ≡ take count bytes ++ drop count bytes = take-append-drop read.1 bytes ∙ sym (take-append-drop count bytes) in
    let same = one_spelling (take read.1 bytes) (take count bytes) (drop read.1 bytes) (drop count bytes) read.0 value is.spelled varint.spelled whole in
    let lengths = ap length same.0 in
    let counts : read.1 ≡ count = omega (arith, lengths, length-take {A = ℕ}) in
    let values : read.0 ≡ value = same.1 in
    rw (← values, ← counts) refl
every_varint bytes (Err e) within is fault value count h varint =
    let none = no_fault bytes value count h varint in
    absurd (cc)

-- any spelling of the rest completes the groups that are written
pub record IsWriting (value rest len : ℕ) (spelling : List ℕ) : Type 0 where
  pub size : length spelling ≡ 9
  pub room : len < 9
  pub small : rest < 128 ^ (9 - len)
  pub more : 0 < len → 0 < rest
  pub complete : (tail : List ℕ) → IsBase128 tail rest → IsBase128 (take len spelling ++ tail) value

small_next : (rest len : ℕ) → len < 9 → rest < 128 ^ (9 - len) → 128 ≤ rest → (len < 8) × (rest / 128 < 128 ^ (8 - len))
small_next rest len room small large =
    let e : 9 - len ≡ suc (8 - len) = omega arith in
    let p : rest < 128 * 128 ^ (8 - len) = rw (e, pow-succ') at small in
    (elim (cases_lt len 8) [ inl below ↦ below | inr top ↦ let last : 8 - len ≡ 0 = omega arith in absurd (omega (arith, rw last at p)) ], omega arith)

write_next_complete : (value rest len : ℕ) (spelling : List ℕ) (byte : ℕ) → IsWriting value rest len spelling → 128 ≤ rest → byte ≡ rest % 128 + 128 → (tail : List ℕ) → IsBase128 tail (rest / 128)
    → IsBase128 (take (len + 1) (slice_set spelling len byte) ++ tail) value
write_next_complete value rest len spelling byte writing large is [] spelled = absurd spelled
write_next_complete value rest len spelling byte writing large is (x ∷ xs) spelled =
    let whole = writing.complete (byte ∷ x ∷ xs) (omega arith, omega arith, rest / 128, omega arith, omega arith, spelled) in
    let e : take (len + 1) (slice_set spelling len byte) ++ (x ∷ xs) ≡ take len spelling ++ (byte ∷ x ∷ xs) = rw (take_more_set spelling len byte (omega (arith, writing.size, writing.room))) (append_assoc (take len spelling) (byte ∷ []) (x ∷ xs)) in
    rw e whole

-- one more group is written
pub write_next : (value rest len : ℕ) (spelling : List ℕ) (byte : ℕ) → IsWriting value rest len spelling → 128 ≤ rest → byte ≡ rest % 128 + 128 → IsWriting value (rest / 128) (len + 1) (slice_set spelling len byte)
write_next value rest len spelling byte writing large is =
    let next = small_next rest len writing.room writing.small large in
    let e : 9 - (len + 1) ≡ 8 - len = omega arith in
    record {
      size = length-set spelling len byte ∙ writing.size;
      room = omega (arith, next.0);
      small = rw e next.1;
      more = λ _. omega arith;
      complete = write_next_complete value rest len spelling byte writing large is;
    }

-- the last group is written
pub write_last : (value rest len : ℕ) (spelling : List ℕ) (byte : ℕ) → IsWriting value rest len spelling → rest < 128 → byte ≡ rest → IsUnsignedVarint (take (len + 1) (slice_set spelling len byte)) value
write_last value rest len spelling byte writing below is =
    let whole = writing.complete (byte ∷ []) (omega arith, sym is) in
    record {
      spelled = rw (take_more_set spelling len byte (omega (arith, writing.size, writing.room))) whole;
      size = omega (arith, writing.room, length-take {A = ℕ});
    }
