-- Each line of a generated script is a command's.
use Rattle.std.proofs.Common.{◌≡◌, ℕ, zero, suc, ◌+◌, ◌%◌, ◌<◌, ◌≤◌, ◌^◌, ◌==◌, Bool, true, false, not, List, [], ◌∷◌, ◌++◌, length, Some, None, codes, refl, sym, ap, subst, ◌∙◌, arith, append_assoc}
use Rattle.std.specs.Prelude.{if◌then◌else◌, nat_lt}
use Rattle.std.specs.Fmt.{decimal}
use Rattle.std.specs.Int.{byte_at, bytes_high_first, to_be_bytes, w32}
use Rattle.std.specs.List.{AllByRecursion, list_all}
use Rattle.std.specs.Str.{IsAscii, IsUtf8, all_ascii_digits}
use Rattle.std.specs.Str.Parse.{digits_value}
use Rattle.std.proofs.lemmas.Str.Parse.{IsNumeralModel, numerals_by_value, tells_all_ascii_digits}
use Rattle.std.proofs.lemmas.Bool.{and_from, and_parts, lt-ltb}
use Rattle.std.proofs.lemmas.Bool.Decides.{nat_tests}
use Rattle.std.proofs.lemmas.Fmt.{IsAscii-decimal, decimal-digits_value, decimal_digit}
use Rattle.std.proofs.lemmas.List.{append-nil}
use Rattle.std.proofs.Math.Nat.{mod-le}
use Rattle.std.proofs.lemmas.Str.{IsUtf8-from_ascii}
use Rattle.hex.specs.Hex.{IsBytes}
use Rattle.mc_gen.specs.Draws.{drawn, first_after, next_number, second_after, third_after}
use Rattle.mc_gen.specs.Lines.{cast_line, del_line, hear_line, is_cast, key_of, last_lines, line_of_draws, meeting_lines, put_line, value_of, work_line}
use Rattle.mc_gen.specs.Script.{line_at, lines_before, number_at, script_text, sent_before}
use Rattle.mc_script.specs.Grammar.{IsWritable, command_text, is_whole_word}
use Rattle.mc_script.specs.Line.{line_of}
use Rattle.mc_script.specs.declared.command.Command.{Command}
use Rattle.mc_script.specs.declared.command.Command.TheVariants.{Cast, Del, Hear, Put, Query, Same, Work}
use Rattle.mc_script.proofs.ReplyFacts.{graphic_decimal, graphic_hex, is_graphic}
use Rattle.mc_app.specs.Generated.{AreCommandLines, IsCommandLine}
use Rattle.mc_app.specs.Lines.{lines_of}

-- no byte is a line feed or below it
abbrev is_one_line : List ℕ → Bool
is_one_line text = list_all (λ byte. nat_lt 10 byte) text

graphic_line : (text : List ℕ) → is_graphic text ≡ true → is_one_line text ≡ true
graphic_line [] all = refl
graphic_line (byte ∷ text) all =
    let parts = and_parts (nat_lt 32 byte) (is_graphic text) all in
    let one : nat_lt 10 byte ≡ true = grind (arith, nat_tests, parts.0) in
    and_from (nat_lt 10 byte) (is_one_line text) one (graphic_line text parts.1)

line_append : (first second : List ℕ) → is_one_line first ≡ true → is_one_line second ≡ true → is_one_line (first ++ second) ≡ true
line_append [] second a b = b
line_append (byte ∷ first) second a b =
    let parts = and_parts (nat_lt 10 byte) (is_one_line first) a in
    and_from (nat_lt 10 byte) (is_one_line (first ++ second)) parts.0 (line_append first second parts.1 b)

first_of_lines : (text rest : List ℕ) → is_one_line text ≡ true → lines_of (text ++ 10 ∷ rest) ≡ text ∷ lines_of rest
first_of_lines [] rest all = refl
first_of_lines (byte ∷ text) rest all =
    let parts = and_parts (nat_lt 10 byte) (is_one_line text) all in
    let other : (byte == 10) ≡ false = grind (arith, nat_tests, parts.0) in
    rw (other, first_of_lines text rest parts.1) refl

-- what is read again
abbrev ReadAgain : Type 0
ReadAgain = (command : Command) → IsWritable command → line_of (command_text command) ≡ Some (Some command)

-- the lines of a text, before any others that are commands, are commands
record Leads (text : List ℕ) : Type 0 where
  on : (rest : List ℕ) → AreCommandLines rest → AreCommandLines (text ++ rest)

leads_none : Leads []
leads_none = record { on = λ rest are. are }

leads_both : (first second : List ℕ) → Leads first → Leads second → Leads (first ++ second)
leads_both first second a b = record { on = λ rest are. subst AreCommandLines (sym (append_assoc first second rest)) (a.on (second ++ rest) (b.on rest are)) }

leads_line : ReadAgain → (text : List ℕ) (command : Command) → text ≡ command_text command ++ 10 ∷ [] → IsWritable command → is_one_line (command_text command) ≡ true → Leads text
leads_line again text command is can one = record {
  on = λ rest are. subst AreCommandLines (sym (ap (λ t. t ++ rest) is ∙ append_assoc (command_text command) (10 ∷ []) rest))
      (subst (AllByRecursion IsCommandLine) (sym (first_of_lines (command_text command) rest one)) ((command, again command can), are));
}

leads_if : (test : Bool) (first second : List ℕ) → Leads first → Leads second → Leads (if test then first else second)
leads_if true first second a b = a
leads_if false first second a b = b

-- ---- the words of the commands

decimal_line : (number : ℕ) → number < 2 ^ 64 → is_one_line (decimal number) ≡ true
decimal_line number small = graphic_line (decimal number) (graphic_decimal number small)

graphic_word : (text : List ℕ) → is_graphic text ≡ true → list_all (λ byte. not (byte == 32)) text ≡ true
graphic_word [] all = refl
graphic_word (byte ∷ text) all =
    let parts = and_parts (nat_lt 32 byte) (is_graphic text) all in
    let other : not (byte == 32) ≡ true = grind (arith, nat_tests, parts.0) in
    and_from (not (byte == 32)) (list_all (λ byte. not (byte == 32)) text) other (graphic_word text parts.1)

byte_small : (k n : ℕ) → byte_at k n < 256
byte_small zero n = omega arith
byte_small (suc k) n = omega arith

are_bytes : (k n : ℕ) → IsBytes (bytes_high_first k n)
are_bytes zero n i = omega arith
are_bytes (suc k) n zero = byte_small k n
are_bytes (suc k) n (suc i) = are_bytes k n i

key_is_ascii : (draw : ℕ) → IsAscii (key_of draw)
key_is_ascii draw zero = omega arith
key_is_ascii draw (suc zero) = omega arith
key_is_ascii draw (suc (suc zero)) = omega arith
key_is_ascii draw (suc (suc (suc i))) = IsAscii-decimal (draw % 64) (omega arith) i

key_is_graphic : (draw : ℕ) → is_graphic (key_of draw) ≡ true
key_is_graphic draw = graphic_decimal (draw % 64) (omega arith)

key_has_word : (draw : ℕ) → IsUtf8 (key_of draw) × (is_whole_word (key_of draw) ≡ true)
key_has_word draw = (IsUtf8-from_ascii (key_of draw) (key_is_ascii draw), and_from (nat_lt 0 (length (key_of draw))) (list_all (λ byte. not (byte == 32)) (key_of draw)) (lt-ltb 0 (length (key_of draw)) (omega arith)) (graphic_word (key_of draw) (key_is_graphic draw)))

letter_line : (replica : ℕ) (rest : List ℕ) → is_one_line rest ≡ true → is_one_line ((97 + replica) ∷ rest) ≡ true
letter_line replica rest all =
    let one : nat_lt 10 (97 + replica) ≡ true = grind (arith, nat_tests) in
    and_from (nat_lt 10 (97 + replica)) (is_one_line rest) one all

slash_is_ascii : IsAscii (47 ∷ [])
slash_is_ascii zero = omega arith
slash_is_ascii (suc i) = omega arith

own : IsNumeralModel (λ ds. all_ascii_digits ds ≡ true) (digits_value 10)
own = numerals_by_value _ tells_all_ascii_digits

hundred : decimal 100 ≡ codes "100"
hundred = decimal-digits_value own (codes "100") refl (omega arith) (λ e. absurd (omega (arith, e))) (omega arith)

module _ (again : ReadAgain) where
  put_leads : (replica draw : ℕ) → replica < 8 → Leads (put_line replica draw)
  put_leads replica draw few =
      leads_line again (put_line replica draw) (Put replica (key_of draw) (to_be_bytes w32 draw))
      refl
      (few, (key_has_word draw, (are_bytes 4 draw, tt)))
      (letter_line replica (32 ∷ key_of draw ++ 32 ∷ value_of draw) (line_append (key_of draw) (32 ∷ value_of draw) (graphic_line (key_of draw) (key_is_graphic draw)) (graphic_line (value_of draw) (graphic_hex (to_be_bytes w32 draw) (are_bytes 4 draw)))))

  del_leads : (replica draw : ℕ) → replica < 8 → Leads (del_line replica draw)
  del_leads replica draw few =
      leads_line again (del_line replica draw) (Del replica (key_of draw)) refl (few, (key_has_word draw, tt))
      (letter_line replica (32 ∷ key_of draw) (graphic_line (key_of draw) (key_is_graphic draw)))

  cast_leads : (replica : ℕ) → replica < 8 → Leads (cast_line replica)
  cast_leads replica few = leads_line again (cast_line replica) (Cast replica) refl (few, tt) (letter_line replica [] refl)

  hear_leads : (replica message : ℕ) → replica < 8 → message < 2 ^ 64 → Leads (hear_line replica message)
  hear_leads replica message few small =
      leads_line again (hear_line replica message) (Hear replica message) refl (few, (small, tt))
      (letter_line replica (32 ∷ decimal message) (decimal_line message small))

  work_leads : (replica workers : ℕ) → replica < 8 → 1 ≤ workers → workers ≤ 16 → Leads (work_line replica workers)
  work_leads replica workers few some most =
      leads_line again (work_line replica workers) (Work replica workers None) refl (few, (((some, most), omega (arith, most)), tt))
      (letter_line replica (32 ∷ decimal workers) (decimal_line workers (omega (arith, most))))

  drawn_leads : (first second third sent : ℕ) → second < 2 ^ 32 → Leads (line_of_draws first second third sent)
  drawn_leads first second third sent small =
      leads_if (nat_lt (third % 8) 4) (put_line (first % 3) second) others (put_leads (first % 3) second (omega arith))
      (leads_if (third % 8 == 4) (del_line (first % 3) second) calls (del_leads (first % 3) second (omega arith))
      (leads_if (is_cast third sent) (cast_line (first % 3)) pulls (cast_leads (first % 3) (omega arith))
      (leads_if (third % 8 == 6) (hear_line (first % 3) (second % sent + 1)) (work_line (first % 3) (second % 4 + 1))
      (hear_leads (first % 3) (second % sent + 1) (omega arith) (omega (arith, small, mod-le second sent)))
      (work_leads (first % 3) (second % 4 + 1) (omega arith) (omega arith) (omega arith)))))
    where
      pulls : List ℕ
      pulls = if third % 8 == 6 then hear_line (first % 3) (second % sent + 1) else work_line (first % 3) (second % 4 + 1)

      calls : List ℕ
      calls = if is_cast third sent then cast_line (first % 3) else pulls

      others : List ℕ
      others = if third % 8 == 4 then del_line (first % 3) second else calls

  -- ---- the drawn lines, and the last ones

  one_more : (test : Bool) (sent index : ℕ) → sent ≤ index → sent + (if test then 1 else 0) ≤ suc index
  one_more true sent index less = omega (arith, less)
  one_more false sent index less = omega (arith, less)

  draws_are_small : (x : ℕ) → drawn (next_number x) < 2 ^ 32
  draws_are_small x = omega arith

  sent_is_small : (start count : ℕ) → sent_before start count ≤ count
  sent_is_small start zero = omega arith
  sent_is_small start (suc index) = one_more (is_cast (drawn (third_after (number_at start index))) (sent_before start index)) (sent_before start index) index (sent_is_small start index)

  before_leads : (start count : ℕ) → Leads (lines_before start count)
  before_leads start zero = leads_none
  before_leads start (suc index) = leads_both (lines_before start index) (line_at start index) (before_leads start index)
      (drawn_leads (drawn (first_after (number_at start index))) (drawn (second_after (number_at start index))) (drawn (third_after (number_at start index))) (sent_before start index) (draws_are_small (first_after (number_at start index))))

  meeting_leads : (replica sent : ℕ) → replica < 8 → sent + 3 < 2 ^ 64 → Leads (meeting_lines replica sent)
  meeting_leads replica sent few small =
      leads_both (hear_line replica (sent + 1) ++ hear_line replica (sent + 2) ++ hear_line replica (sent + 3)) (work_line replica 4)
      (leads_both (hear_line replica (sent + 1) ++ hear_line replica (sent + 2)) (hear_line replica (sent + 3))
      (leads_both (hear_line replica (sent + 1)) (hear_line replica (sent + 2)) (hear_leads replica (sent + 1) few (omega (arith, small))) (hear_leads replica (sent + 2) few (omega (arith, small))))
      (hear_leads replica (sent + 3) few small))
      (work_leads replica 4 few (omega arith) (omega arith))

  same_leads : (replica other : ℕ) → replica < 8 → other < 8 → Leads (command_text (Same replica other) ++ 10 ∷ [])
  same_leads replica other few some =
      leads_line again _ (Same replica other) refl (few, (some, tt)) (letter_line replica (32 ∷ (97 + other) ∷ []) (letter_line other [] refl))

  query_leads : Leads (command_text (Query 0 (47 ∷ []) 0 100) ++ 10 ∷ [])
  query_leads = leads_line again _ (Query 0 (47 ∷ []) 0 100) refl
      (omega arith, ((IsUtf8-from_ascii (47 ∷ []) slash_is_ascii, refl), (omega arith, (omega arith, tt))))
      (line_append (decimal 0) (32 ∷ decimal 100) (decimal_line 0 (omega arith)) (decimal_line 100 (omega arith)))

  abbrev end_lines : List ℕ
  end_lines = codes "same a b\nsame b c\nquery a / 0 100\n"

  written_end : (command_text (Same 0 1) ++ 10 ∷ []) ++ ((command_text (Same 1 2) ++ 10 ∷ []) ++ (command_text (Query 0 (47 ∷ []) 0 100) ++ 10 ∷ [])) ≡ end_lines
  written_end = rw (decimal_digit 0 (omega arith), hundred) refl

  end_leads : Leads end_lines
  end_leads = subst Leads written_end (leads_both _ _ (same_leads 0 1 (omega arith) (omega arith)) (leads_both _ _ (same_leads 1 2 (omega arith) (omega arith)) query_leads))

  last_leads : (sent : ℕ) → sent + 3 < 2 ^ 64 → Leads (last_lines sent)
  last_leads sent small =
      leads_both (cast_line 0 ++ cast_line 1 ++ cast_line 2 ++ meeting_lines 0 sent ++ meeting_lines 1 sent ++ meeting_lines 2 sent) end_lines
      (leads_both (cast_line 0 ++ cast_line 1 ++ cast_line 2 ++ meeting_lines 0 sent ++ meeting_lines 1 sent) (meeting_lines 2 sent)
      (leads_both (cast_line 0 ++ cast_line 1 ++ cast_line 2 ++ meeting_lines 0 sent) (meeting_lines 1 sent)
      (leads_both (cast_line 0 ++ cast_line 1 ++ cast_line 2) (meeting_lines 0 sent)
      (leads_both (cast_line 0 ++ cast_line 1) (cast_line 2)
      (leads_both (cast_line 0) (cast_line 1) (cast_leads 0 (omega arith)) (cast_leads 1 (omega arith))) (cast_leads 2 (omega arith)))
      (meeting_leads 0 sent (omega arith) small)) (meeting_leads 1 sent (omega arith) small)) (meeting_leads 2 sent (omega arith) small)) end_leads

  pub are_commands : (start count : ℕ) → count + 3 < 2 ^ 64 → AreCommandLines (script_text start count)
  are_commands start count small =
      let few = sent_is_small start count in
      let last = (last_leads (sent_before start count) (omega (arith, few, small))).on [] tt in
      (before_leads start count).on (last_lines (sent_before start count)) (subst AreCommandLines (append-nil (last_lines (sent_before start count))) last)
