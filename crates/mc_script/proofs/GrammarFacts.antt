-- Lines of commands are read as them, and only they are.
use Rattle.std.proofs.Common.{◌≡◌, ℕ, ◌==◌, ◌⊎◌, inl, inr, Bool, true, false, ◌&&◌, not, List, [], ◌∷◌, map, Option, Some, None, cond, codes, refl, sym, ap, ◌∙◌, subst}
use Rattle.std.specs.Prelude.{◌↔◌, if◌then◌else◌, nat_lt}
use Rattle.std.specs.List.{All, AllByRecursion, join_with_byte, list_all, onto_first}
use Rattle.std.specs.Option.{option_map}
use Rattle.std.specs.Str.{IsUtf8, bytes_eq, is_utf8}
use Rattle.std.proofs.lemmas.Bool.{and_parts, eqb-true}
use Rattle.std.proofs.lemmas.List.Elements.{All-cons, All-nil}
use Rattle.std.proofs.lemmas.List.Splits.{join_with_byte-slice_split, slice_split_at, slice_split_none}
use Rattle.std.proofs.lemmas.Slice.Eq.{bytes_eq-Decides}
use Rattle.std.proofs.lemmas.Str.{IsUtf8-append, IsUtf8-from_ascii, IsUtf8-from_is_utf8, is_utf8-from_IsUtf8}
use Rattle.mc_base.specs.declared.cid.Cid.{Cid}
use Rattle.mc_cidtext.specs.CidText.{IsOneText, IsReadAgain}
use Rattle.mc_script.specs.Arguments.{budget_words, hex_words, key_words, link_words, message_words, offer_words, pair_words, range_words, replica_words, span_words, storm_words, up_to_words, value_words, view_words, work_words}
use Rattle.mc_script.specs.Limits.{budget_max, commit_max, thread_max, write_max}
use Rattle.mc_script.specs.Grammar.{HasWord, Identifier, IsComment, IsLineOf, IsSilent, IsWritable, Key, Number, OtherThan, Part, Prefix, Replica, Say, Says, UpTo, Value, Way, budget_parts, command_text, form, is_whole_word, word_of}
use Rattle.mc_script.specs.Line.{batch_by_name, command_by_name, command_of_words, crowd_by_name, has_no_reply, history_by_name, line_of, line_of_text, message_by_name, on_hex, on_key, on_link, on_message, on_offer, on_pair, on_range, on_replica, on_span, on_storm, on_up_to, on_value, on_view, on_work, run_by_name}
use Rattle.mc_script.specs.Words.{◌>>=◌, bytes_of_hex, identifier_of, is_word, number_of, other_of, replica_of, up_to_of, way_of, words_of}
use Rattle.mc_script.specs.declared.command.Command.{Command}
use Rattle.mc_script.specs.declared.command.Command.TheVariants.{Put, Del, Begin, BatchPut, BatchDel, Commit, Get, Has, Query, Heads, Cast, Wire, Hear, Plant, Link, Step, Work, Repair, Storm, State, Same, Stop, Open, StopAt, StopAfter, Export, CarIn, Import, Feed, GetAt}
use Rattle.mc_script.proofs.PartFacts.{number_found, number_read, plain_ascii, replica_found, replica_read, says_whole, value_found, value_read, word_is_utf8, word_says}
use Rattle.mc_script.proofs.WordFacts.{bind_some, identifier_found, identifier_read, other_found, other_read, up_to_found, up_to_read, way_found, way_read}

-- ---- words and lines

abbrev has_no_space : List ℕ → Bool
has_no_space word = list_all (λ byte. not (byte == 32)) word

no_space_all : (word : List ℕ) → has_no_space word ≡ true → All (λ byte. (byte == 32) ≡ false) word
no_space_all [] h = All-nil (λ (byte : ℕ). (byte == 32) ≡ false)
no_space_all (byte ∷ word) h =
    let parts = and_parts (not (byte == 32)) (has_no_space word) h in
    All-cons (λ (byte : ℕ). (byte == 32) ≡ false) byte word (is_not (byte == 32) parts.0) (no_space_all word parts.1)
  where
    is_not : (b : Bool) → not b ≡ true → b ≡ false
    is_not true e = cc e
    is_not false e = refl

-- words without a space are the words of the line that they make
pub joined_is_split : (word : List ℕ) (words : List (List ℕ)) → has_no_space word ≡ true → list_all has_no_space words ≡ true → words_of (join_with_byte 32 (word ∷ words)) ≡ word ∷ words
joined_is_split word [] one all = slice_split_none (λ byte. byte == 32) word (no_space_all word one)
joined_is_split word (next ∷ words) one all =
    let parts = and_parts (has_no_space next) (list_all has_no_space words) all in
    slice_split_at (λ byte. byte == 32) word 32 (join_with_byte 32 (next ∷ words)) (no_space_all word one) refl
    ∙ ap (λ (rest : List (List ℕ)). word ∷ rest) (joined_is_split next words parts.0 parts.1)

-- no word of a line has a space
split_step : (byte : ℕ) (parts : List (List ℕ)) (b : Bool) → (byte == 32) ≡ b → list_all has_no_space parts ≡ true → list_all has_no_space (cond b ([] ∷ parts) (onto_first byte parts)) ≡ true
split_step byte parts true is all = all
split_step byte [] false is all = rw is refl
split_step byte (part ∷ parts) false is all = rw is all

words_have_no_space : (line : List ℕ) → list_all has_no_space (words_of line) ≡ true
words_have_no_space [] = refl
words_have_no_space (byte ∷ line) = split_step byte (words_of line) (byte == 32) refl (words_have_no_space line)

-- ---- what is read of the words behind a name

map_some : {A B : Type 0} (f : A → B) (o : Option A) (b : B) → option_map f o ≡ Some b → (a : A) × (o ≡ Some a) × (b ≡ f a)
map_some f (Some a) b h = (a, refl, is b (f a) h)
  where
    is : {B : Type 0} (b c : B) → Some c ≡ Some b → b ≡ c
    is b c h = cc h
map_some f None b h = cc h

-- the name and the words are those of the command
abbrev IsNamed : List ℕ → List (List ℕ) → Command → Type 0
IsNamed name words command = (name ≡ (form command).0) × Say words (form command).1

replica_words_found : (words : List (List ℕ)) (r : ℕ) → replica_words words ≡ Some r → Say words (Replica r ∷ [])
replica_words_found [] r h = cc h
replica_words_found (replica ∷ []) r h = (replica_found replica r h, tt)
replica_words_found (replica ∷ next ∷ rest) r h = cc h

key_words_found : (words : List (List ℕ)) (said : ℕ × List ℕ) → list_all is_whole_word words ≡ true → key_words words ≡ Some said → Say words (Replica said.0 ∷ Key said.1 ∷ [])
key_words_found [] said all h = cc h
key_words_found (replica ∷ []) said all h = cc h
key_words_found (replica ∷ key ∷ []) said all h =
    let first = bind_some (replica_of replica) _ said h in
    let whole = and_parts (is_whole_word key) true (and_parts (is_whole_word replica) (is_whole_word key && true) all).1 in
    let same : (first.0, key) ≡ said = cc in
    subst (λ (said : ℕ × List ℕ). Say (replica ∷ key ∷ []) (Replica said.0 ∷ Key said.1 ∷ [])) same (replica_found replica first.0 first.1, ((refl, whole.0), tt))
key_words_found (replica ∷ key ∷ next ∷ rest) said all h = cc h

value_words_found : (words : List (List ℕ)) (said : ℕ × List ℕ × List ℕ) → list_all is_whole_word words ≡ true → value_words words ≡ Some said → Say words (Replica said.0 ∷ Key said.1 ∷ Value said.2 ∷ [])
value_words_found [] said all h = cc h
value_words_found (replica ∷ []) said all h = cc h
value_words_found (replica ∷ key ∷ []) said all h = cc h
value_words_found (replica ∷ key ∷ hex ∷ []) said all h =
    let first = bind_some (replica_of replica) _ said h in
    let third = bind_some (bytes_of_hex hex) _ said first.2 in
    let whole = and_parts (is_whole_word key) (is_whole_word hex && true) (and_parts (is_whole_word replica) (is_whole_word key && (is_whole_word hex && true)) all).1 in
    let same : (first.0, key, third.0) ≡ said = cc in
    subst (λ (said : ℕ × List ℕ × List ℕ). Say (replica ∷ key ∷ hex ∷ []) (Replica said.0 ∷ Key said.1 ∷ Value said.2 ∷ [])) same (replica_found replica first.0 first.1, ((refl, whole.0), (value_found hex third.0 third.1, tt)))
value_words_found (replica ∷ key ∷ hex ∷ next ∷ rest) said all h = cc h

range_words_found : (words : List (List ℕ)) (said : ℕ × List ℕ × ℕ × ℕ) → list_all is_whole_word words ≡ true → range_words words ≡ Some said → Say words (Replica said.0 ∷ Prefix said.1 ∷ Number said.2 ∷ Number said.3 ∷ [])
range_words_found [] said all h = cc h
range_words_found (replica ∷ []) said all h = cc h
range_words_found (replica ∷ prefix ∷ []) said all h = cc h
range_words_found (replica ∷ prefix ∷ skip ∷ []) said all h = cc h
range_words_found (replica ∷ prefix ∷ skip ∷ take ∷ []) said all h =
    let first = bind_some (replica_of replica) _ said h in
    let third = bind_some (number_of skip) _ said first.2 in
    let fourth = bind_some (number_of take) _ said third.2 in
    let whole = and_parts (is_whole_word prefix) (is_whole_word skip && (is_whole_word take && true)) (and_parts (is_whole_word replica) (is_whole_word prefix && (is_whole_word skip && (is_whole_word take && true))) all).1 in
    let same : (first.0, prefix, third.0, fourth.0) ≡ said = cc in
    subst (λ (said : ℕ × List ℕ × ℕ × ℕ). Say (replica ∷ prefix ∷ skip ∷ take ∷ []) (Replica said.0 ∷ Prefix said.1 ∷ Number said.2 ∷ Number said.3 ∷ [])) same (replica_found replica first.0 first.1, ((refl, whole.0), (number_found skip third.0 third.1, (number_found take fourth.0 fourth.1, tt))))
range_words_found (replica ∷ prefix ∷ skip ∷ take ∷ next ∷ rest) said all h = cc h

hex_words_found : (words : List (List ℕ)) (bytes : List ℕ) → hex_words words ≡ Some bytes → Say words (Value bytes ∷ [])
hex_words_found [] bytes h = cc h
hex_words_found (hex ∷ []) bytes h = (value_found hex bytes h, tt)
hex_words_found (hex ∷ next ∷ rest) bytes h = cc h

-- a replica, and a word that says one number more
two_words_found : (second_of : List ℕ → Option ℕ) (part : ℕ → Part) → ((word : List ℕ) (number : ℕ) → second_of word ≡ Some number → Says word (part number)) → (replica second : List ℕ) (said : ℕ × ℕ)
    → (replica_of replica >>= (λ r. second_of second >>= (λ number. Some (r, number)))) ≡ Some said → Say (replica ∷ second ∷ []) (Replica said.0 ∷ part said.1 ∷ [])
two_words_found second_of part found replica second said h =
    let first = bind_some (replica_of replica) _ said h in
    let next = bind_some (second_of second) _ said first.2 in
    let same : (first.0, next.0) ≡ said = cc in
    subst (λ (said : ℕ × ℕ). Say (replica ∷ second ∷ []) (Replica said.0 ∷ part said.1 ∷ [])) same (replica_found replica first.0 first.1, (found second next.0 next.1, tt))

message_words_found : (words : List (List ℕ)) (said : ℕ × ℕ) → message_words words ≡ Some said → Say words (Replica said.0 ∷ Number said.1 ∷ [])
message_words_found [] said h = cc h
message_words_found (replica ∷ []) said h = cc h
message_words_found (replica ∷ message ∷ []) said h = two_words_found number_of Number number_found replica message said h
message_words_found (replica ∷ message ∷ next ∷ rest) said h = cc h

pair_words_found : (words : List (List ℕ)) (said : ℕ × ℕ) → pair_words words ≡ Some said → Say words (Replica said.0 ∷ Replica said.1 ∷ [])
pair_words_found [] said h = cc h
pair_words_found (replica ∷ []) said h = cc h
pair_words_found (replica ∷ second ∷ []) said h = two_words_found replica_of Replica replica_found replica second said h
pair_words_found (replica ∷ second ∷ next ∷ rest) said h = cc h

up_to_words_found : (most : ℕ) (words : List (List ℕ)) (said : ℕ × ℕ) → up_to_words most words ≡ Some said → Say words (Replica said.0 ∷ UpTo most said.1 ∷ [])
up_to_words_found most [] said h = cc h
up_to_words_found most (replica ∷ []) said h = cc h
up_to_words_found most (replica ∷ number ∷ []) said h = two_words_found (up_to_of most) (UpTo most) (up_to_found most) replica number said h
up_to_words_found most (replica ∷ number ∷ next ∷ rest) said h = cc h

budget_words_found : (words : List (List ℕ)) (budget : Option ℕ) → budget_words words ≡ Some budget → Say words (budget_parts budget)
budget_words_found [] None h = tt
budget_words_found [] (Some budget) h = cc h
budget_words_found (word ∷ []) None h = cc (map_some Some (up_to_of budget_max word) None h).2
budget_words_found (word ∷ []) (Some budget) h =
    let said = map_some Some (up_to_of budget_max word) (Some budget) h in
    let same : said.0 ≡ budget = is said.0 budget (sym said.2) in
    (up_to_found budget_max word budget (said.1 ∙ ap Some same), tt)
  where
    is : (number other : ℕ) → Some number ≡ Some other → number ≡ other
    is number other h = cc h
budget_words_found (word ∷ next ∷ rest) budget h = cc h

work_words_found : (words : List (List ℕ)) (said : ℕ × ℕ × Option ℕ) → work_words words ≡ Some said → Say words (Replica said.0 ∷ UpTo thread_max said.1 ∷ budget_parts said.2)
work_words_found [] said h = cc h
work_words_found (replica ∷ []) said h = cc h
work_words_found (replica ∷ workers ∷ budget) said h =
    let first = bind_some (replica_of replica) _ said h in
    let next = bind_some (up_to_of thread_max workers) _ said first.2 in
    let third = bind_some (budget_words budget) _ said next.2 in
    let same : (first.0, next.0, third.0) ≡ said = cc in
    subst (λ (said : ℕ × ℕ × Option ℕ). Say (replica ∷ workers ∷ budget) (Replica said.0 ∷ UpTo thread_max said.1 ∷ budget_parts said.2)) same (replica_found replica first.0 first.1, (up_to_found thread_max workers next.0 next.1, budget_words_found budget third.0 third.1))

storm_words_found : (words : List (List ℕ)) (said : ℕ × ℕ × ℕ) → storm_words words ≡ Some said → Say words (Replica said.0 ∷ UpTo thread_max said.1 ∷ UpTo write_max said.2 ∷ [])
storm_words_found [] said h = cc h
storm_words_found (replica ∷ []) said h = cc h
storm_words_found (replica ∷ writers ∷ []) said h = cc h
storm_words_found (replica ∷ writers ∷ writes ∷ []) said h =
    let first = bind_some (replica_of replica) _ said h in
    let next = bind_some (up_to_of thread_max writers) _ said first.2 in
    let third = bind_some (up_to_of write_max writes) _ said next.2 in
    let same : (first.0, next.0, third.0) ≡ said = cc in
    subst (λ (said : ℕ × ℕ × ℕ). Say (replica ∷ writers ∷ writes ∷ []) (Replica said.0 ∷ UpTo thread_max said.1 ∷ UpTo write_max said.2 ∷ [])) same (replica_found replica first.0 first.1, (up_to_found thread_max writers next.0 next.1, (up_to_found write_max writes third.0 third.1, tt)))
storm_words_found (replica ∷ writers ∷ writes ∷ next ∷ rest) said h = cc h

offer_words_found : IsOneText → (words : List (List ℕ)) (said : ℕ × Cid × List ℕ) → list_all is_whole_word words ≡ true → offer_words words ≡ Some said → Say words (Replica said.0 ∷ Identifier said.1 ∷ Value said.2 ∷ [])
offer_words_found one [] said all h = cc h
offer_words_found one (replica ∷ []) said all h = cc h
offer_words_found one (replica ∷ cid ∷ []) said all h = cc h
offer_words_found one (replica ∷ cid ∷ hex ∷ []) said all h =
    let first = bind_some (replica_of replica) _ said h in
    let second = bind_some (identifier_of cid) _ said first.2 in
    let third = bind_some (bytes_of_hex hex) _ said second.2 in
    let whole = and_parts (is_whole_word cid) (is_whole_word hex && true) (and_parts (is_whole_word replica) (is_whole_word cid && (is_whole_word hex && true)) all).1 in
    let same : (first.0, second.0, third.0) ≡ said = cc in
    subst (λ (said : ℕ × Cid × List ℕ). Say (replica ∷ cid ∷ hex ∷ []) (Replica said.0 ∷ Identifier said.1 ∷ Value said.2 ∷ [])) same (replica_found replica first.0 first.1, (identifier_found one cid second.0 whole.0 second.1, (value_found hex third.0 third.1, tt)))
offer_words_found one (replica ∷ cid ∷ hex ∷ next ∷ rest) said all h = cc h

span_words_found : (words : List (List ℕ)) (said : ℕ × ℕ × ℕ) → span_words words ≡ Some said → Say words (Replica said.0 ∷ Number said.1 ∷ Number said.2 ∷ [])
span_words_found [] said h = cc h
span_words_found (replica ∷ []) said h = cc h
span_words_found (replica ∷ from ∷ []) said h = cc h
span_words_found (replica ∷ from ∷ count ∷ []) said h =
    let first = bind_some (replica_of replica) _ said h in
    let next = bind_some (number_of from) _ said first.2 in
    let third = bind_some (number_of count) _ said next.2 in
    let same : (first.0, next.0, third.0) ≡ said = cc in
    subst (λ (said : ℕ × ℕ × ℕ). Say (replica ∷ from ∷ count ∷ []) (Replica said.0 ∷ Number said.1 ∷ Number said.2 ∷ [])) same (replica_found replica first.0 first.1, (number_found from next.0 next.1, (number_found count third.0 third.1, tt)))
span_words_found (replica ∷ from ∷ count ∷ next ∷ rest) said h = cc h

view_words_found : IsOneText → (words : List (List ℕ)) (said : ℕ × Cid × List ℕ) → list_all is_whole_word words ≡ true → view_words words ≡ Some said → Say words (Replica said.0 ∷ Identifier said.1 ∷ Key said.2 ∷ [])
view_words_found one [] said all h = cc h
view_words_found one (replica ∷ []) said all h = cc h
view_words_found one (replica ∷ cid ∷ []) said all h = cc h
view_words_found one (replica ∷ cid ∷ key ∷ []) said all h =
    let first = bind_some (replica_of replica) _ said h in
    let second = bind_some (identifier_of cid) _ said first.2 in
    let whole = and_parts (is_whole_word cid) (is_whole_word key && true) (and_parts (is_whole_word replica) (is_whole_word cid && (is_whole_word key && true)) all).1 in
    let key_whole = and_parts (is_whole_word key) true whole.1 in
    let same : (first.0, second.0, key) ≡ said = cc in
    subst (λ (said : ℕ × Cid × List ℕ). Say (replica ∷ cid ∷ key ∷ []) (Replica said.0 ∷ Identifier said.1 ∷ Key said.2 ∷ [])) same (replica_found replica first.0 first.1, (identifier_found one cid second.0 whole.0 second.1, ((refl, key_whole.0), tt)))
view_words_found one (replica ∷ cid ∷ key ∷ next ∷ rest) said all h = cc h

link_words_found : (words : List (List ℕ)) (said : ℕ × ℕ × Bool) → link_words words ≡ Some said → Say words (Replica said.0 ∷ OtherThan said.0 said.1 ∷ Way said.2 ∷ [])
link_words_found [] said h = cc h
link_words_found (replica ∷ []) said h = cc h
link_words_found (replica ∷ second ∷ []) said h = cc h
link_words_found (replica ∷ second ∷ way ∷ []) said h =
    let first = bind_some (replica_of replica) _ said h in
    let next = bind_some (other_of first.0 second) _ said first.2 in
    let third = bind_some (way_of way) _ said next.2 in
    let same : (first.0, next.0, third.0) ≡ said = cc in
    subst (λ (said : ℕ × ℕ × Bool). Say (replica ∷ second ∷ way ∷ []) (Replica said.0 ∷ OtherThan said.0 said.1 ∷ Way said.2 ∷ [])) same (replica_found replica first.0 first.1, (other_found first.0 next.0 second next.1, (way_found way third.0 third.1, tt)))
link_words_found (replica ∷ second ∷ way ∷ next ∷ rest) said h = cc h

-- a command by its name, where the words behind it say what its form has
module _ (name : List ℕ) (words : List (List ℕ)) (command : Command) (all : list_all is_whole_word words ≡ true) where
  on_replica_found : (make : ℕ → Command) (wanted : List ℕ) → ((r : ℕ) → form (make r) ≡ (wanted, Replica r ∷ [])) → name ≡ wanted → on_replica make words ≡ Some command → IsNamed name words command
  on_replica_found make wanted has is h =
      let said = map_some make (replica_words words) command h in
      rw (said.2, has said.0) (is, replica_words_found words said.0 said.1)

  on_key_found : (make : ℕ → List ℕ → Command) (wanted : List ℕ) → ((r : ℕ) (key : List ℕ) → form (make r key) ≡ (wanted, Replica r ∷ Key key ∷ [])) → name ≡ wanted → on_key make words ≡ Some command → IsNamed name words command
  on_key_found make wanted has is h =
      let said = map_some (λ (said : ℕ × List ℕ). make said.0 said.1) (key_words words) command h in
      rw (said.2, has said.0.0 said.0.1) (is, key_words_found words said.0 all said.1)

  on_value_found : (make : ℕ → List ℕ → List ℕ → Command) (wanted : List ℕ) → ((r : ℕ) (key bytes : List ℕ) → form (make r key bytes) ≡ (wanted, Replica r ∷ Key key ∷ Value bytes ∷ [])) → name ≡ wanted → on_value make words ≡ Some command → IsNamed name words command
  on_value_found make wanted has is h =
      let said = map_some (λ (said : ℕ × List ℕ × List ℕ). make said.0 said.1 said.2) (value_words words) command h in
      rw (said.2, has said.0.0 said.0.1 said.0.2) (is, value_words_found words said.0 all said.1)

  on_range_found : (make : ℕ → List ℕ → ℕ → ℕ → Command) (wanted : List ℕ) → ((r : ℕ) (prefix : List ℕ) (skip take : ℕ) → form (make r prefix skip take) ≡ (wanted, Replica r ∷ Prefix prefix ∷ Number skip ∷ Number take ∷ [])) → name ≡ wanted → on_range make words ≡ Some command → IsNamed name words command
  on_range_found make wanted has is h =
      let said = map_some (λ (said : ℕ × List ℕ × ℕ × ℕ). make said.0 said.1 said.2 said.3) (range_words words) command h in
      rw (said.2, has said.0.0 said.0.1 said.0.2 said.0.3) (is, range_words_found words said.0 all said.1)

  -- any command, by what is read of the words behind its name
  said_found : {A : Type 0} (make : A → Command) (read : List (List ℕ) → Option A) (wanted : List ℕ) (parts : A → List Part) → ((said : A) → form (make said) ≡ (wanted, parts said)) → ((said : A) → read words ≡ Some said → Say words (parts said)) → name ≡ wanted → option_map make (read words) ≡ Some command → IsNamed name words command
  said_found make read wanted parts has says is h =
      let said = map_some make (read words) command h in
      rw (said.2, has said.0) (is, says said.0 said.1)

  -- which way a test of the name went
  went : (wanted : List ℕ) (first other : Option Command) → (if bytes_eq name wanted then first else other) ≡ Some command → ((name ≡ wanted) × (first ≡ Some command)) ⊎ (other ≡ Some command)
  went wanted first other h = by_test (bytes_eq name wanted) refl h
    where
      by_test : (test : Bool) → bytes_eq name wanted ≡ test → (if test then first else other) ≡ Some command → ((name ≡ wanted) × (first ≡ Some command)) ⊎ (other ≡ Some command)
      by_test true is h = inl ((bytes_eq-Decides name wanted).0 is, h)
      by_test false is h = inr h

  crowd_found : crowd_by_name name words ≡ Some command → IsNamed name words command
  crowd_found h = elim (went (codes "work") (on_work Work words) _ h) [
    | inl at ↦ said_found (λ (said : ℕ × ℕ × Option ℕ). Work said.0 said.1 said.2) work_words (codes "work") (λ (said : ℕ × ℕ × Option ℕ). Replica said.0 ∷ UpTo thread_max said.1 ∷ budget_parts said.2) (λ said. refl) (work_words_found words) at.0 at.1
    | inr h ↦ elim (went (codes "repair") (on_up_to thread_max Repair words) _ h) [
      | inl at ↦ said_found (λ (said : ℕ × ℕ). Repair said.0 said.1) (up_to_words thread_max) (codes "repair") (λ (said : ℕ × ℕ). Replica said.0 ∷ UpTo thread_max said.1 ∷ []) (λ said. refl) (up_to_words_found thread_max words) at.0 at.1
      | inr h ↦ elim (went (codes "storm") (on_storm Storm words) None h) [
        | inl at ↦ said_found (λ (said : ℕ × ℕ × ℕ). Storm said.0 said.1 said.2) storm_words (codes "storm") (λ (said : ℕ × ℕ × ℕ). Replica said.0 ∷ UpTo thread_max said.1 ∷ UpTo write_max said.2 ∷ []) (λ said. refl) (storm_words_found words) at.0 at.1
        | inr h ↦ cc h
      ]
    ]
  ]

  run_found : run_by_name name words ≡ Some command → IsNamed name words command
  run_found h = elim (went (codes "state") (on_replica State words) _ h) [
    | inl at ↦ on_replica_found State (codes "state") (λ r. refl) at.0 at.1
    | inr h ↦ elim (went (codes "same") (on_pair Same words) _ h) [
      | inl at ↦ said_found (λ (said : ℕ × ℕ). Same said.0 said.1) pair_words (codes "same") (λ (said : ℕ × ℕ). Replica said.0 ∷ Replica said.1 ∷ []) (λ said. refl) (pair_words_found words) at.0 at.1
      | inr h ↦ elim (went (codes "stop") (on_replica Stop words) _ h) [
        | inl at ↦ on_replica_found Stop (codes "stop") (λ r. refl) at.0 at.1
        | inr h ↦ elim (went (codes "open") (on_replica Open words) _ h) [
          | inl at ↦ on_replica_found Open (codes "open") (λ r. refl) at.0 at.1
          | inr h ↦ elim (went (codes "stopat") (on_up_to commit_max StopAt words) _ h) [
            | inl at ↦ said_found (λ (said : ℕ × ℕ). StopAt said.0 said.1) (up_to_words commit_max) (codes "stopat") (λ (said : ℕ × ℕ). Replica said.0 ∷ UpTo commit_max said.1 ∷ []) (λ said. refl) (up_to_words_found commit_max words) at.0 at.1
            | inr h ↦ elim (went (codes "stopafter") (on_up_to commit_max StopAfter words) _ h) [
              | inl at ↦ said_found (λ (said : ℕ × ℕ). StopAfter said.0 said.1) (up_to_words commit_max) (codes "stopafter") (λ (said : ℕ × ℕ). Replica said.0 ∷ UpTo commit_max said.1 ∷ []) (λ said. refl) (up_to_words_found commit_max words) at.0 at.1
              | inr h ↦ crowd_found h
            ]
          ]
        ]
      ]
    ]
  ]

  history_found : IsOneText → history_by_name name words ≡ Some command → IsNamed name words command
  history_found one h = elim (went (codes "export") (on_replica Export words) _ h) [
    | inl at ↦ on_replica_found Export (codes "export") (λ r. refl) at.0 at.1
    | inr h ↦ elim (went (codes "carin") (on_hex CarIn words) _ h) [
      | inl at ↦ said_found CarIn hex_words (codes "carin") (λ (bytes : List ℕ). Value bytes ∷ []) (λ bytes. refl) (hex_words_found words) at.0 at.1
      | inr h ↦ elim (went (codes "import") (on_message Import words) _ h) [
        | inl at ↦ said_found (λ (said : ℕ × ℕ). Import said.0 said.1) message_words (codes "import") (λ (said : ℕ × ℕ). Replica said.0 ∷ Number said.1 ∷ []) (λ said. refl) (message_words_found words) at.0 at.1
        | inr h ↦ elim (went (codes "feed") (on_span Feed words) _ h) [
          | inl at ↦ said_found (λ (said : ℕ × ℕ × ℕ). Feed said.0 said.1 said.2) span_words (codes "feed") (λ (said : ℕ × ℕ × ℕ). Replica said.0 ∷ Number said.1 ∷ Number said.2 ∷ []) (λ said. refl) (span_words_found words) at.0 at.1
          | inr h ↦ elim (went (codes "getat") (on_view GetAt words) _ h) [
            | inl at ↦ said_found (λ (said : ℕ × Cid × List ℕ). GetAt said.0 said.1 said.2) view_words (codes "getat") (λ (said : ℕ × Cid × List ℕ). Replica said.0 ∷ Identifier said.1 ∷ Key said.2 ∷ []) (λ said. refl) (λ said. view_words_found one words said all) at.0 at.1
            | inr h ↦ run_found h
          ]
        ]
      ]
    ]
  ]

  message_found : IsOneText → message_by_name name words ≡ Some command → IsNamed name words command
  message_found one h = elim (went (codes "cast") (on_replica Cast words) _ h) [
    | inl at ↦ on_replica_found Cast (codes "cast") (λ r. refl) at.0 at.1
    | inr h ↦ elim (went (codes "wire") (on_hex Wire words) _ h) [
      | inl at ↦ said_found Wire hex_words (codes "wire") (λ (bytes : List ℕ). Value bytes ∷ []) (λ bytes. refl) (hex_words_found words) at.0 at.1
      | inr h ↦ elim (went (codes "hear") (on_message Hear words) _ h) [
        | inl at ↦ said_found (λ (said : ℕ × ℕ). Hear said.0 said.1) message_words (codes "hear") (λ (said : ℕ × ℕ). Replica said.0 ∷ Number said.1 ∷ []) (λ said. refl) (message_words_found words) at.0 at.1
        | inr h ↦ elim (went (codes "plant") (on_offer Plant words) _ h) [
          | inl at ↦ said_found (λ (said : ℕ × Cid × List ℕ). Plant said.0 said.1 said.2) offer_words (codes "plant") (λ (said : ℕ × Cid × List ℕ). Replica said.0 ∷ Identifier said.1 ∷ Value said.2 ∷ []) (λ said. refl) (λ said. offer_words_found one words said all) at.0 at.1
          | inr h ↦ elim (went (codes "link") (on_link Link words) _ h) [
            | inl at ↦ said_found (λ (said : ℕ × ℕ × Bool). Link said.0 said.1 said.2) link_words (codes "link") (λ (said : ℕ × ℕ × Bool). Replica said.0 ∷ OtherThan said.0 said.1 ∷ Way said.2 ∷ []) (λ said. refl) (link_words_found words) at.0 at.1
            | inr h ↦ elim (went (codes "step") (on_replica Step words) _ h) [
              | inl at ↦ on_replica_found Step (codes "step") (λ r. refl) at.0 at.1
              | inr h ↦ history_found one h
            ]
          ]
        ]
      ]
    ]
  ]

  batch_found : IsOneText → batch_by_name name words ≡ Some command → IsNamed name words command
  batch_found one h = elim (went (codes "begin") (on_replica Begin words) _ h) [
    | inl at ↦ on_replica_found Begin (codes "begin") (λ r. refl) at.0 at.1
    | inr h ↦ elim (went (codes "bput") (on_value BatchPut words) _ h) [
      | inl at ↦ on_value_found BatchPut (codes "bput") (λ r key bytes. refl) at.0 at.1
      | inr h ↦ elim (went (codes "bdel") (on_key BatchDel words) _ h) [
        | inl at ↦ on_key_found BatchDel (codes "bdel") (λ r key. refl) at.0 at.1
        | inr h ↦ elim (went (codes "commit") (on_replica Commit words) _ h) [
          | inl at ↦ on_replica_found Commit (codes "commit") (λ r. refl) at.0 at.1
          | inr h ↦ message_found one h
        ]
      ]
    ]
  ]

  command_found : IsOneText → command_by_name name words ≡ Some command → IsNamed name words command
  command_found one h = elim (went (codes "put") (on_value Put words) _ h) [
    | inl at ↦ on_value_found Put (codes "put") (λ r key bytes. refl) at.0 at.1
    | inr h ↦ elim (went (codes "del") (on_key Del words) _ h) [
      | inl at ↦ on_key_found Del (codes "del") (λ r key. refl) at.0 at.1
      | inr h ↦ elim (went (codes "get") (on_key Get words) _ h) [
        | inl at ↦ on_key_found Get (codes "get") (λ r key. refl) at.0 at.1
        | inr h ↦ elim (went (codes "has") (on_key Has words) _ h) [
          | inl at ↦ on_key_found Has (codes "has") (λ r key. refl) at.0 at.1
          | inr h ↦ elim (went (codes "query") (on_range Query words) _ h) [
            | inl at ↦ on_range_found Query (codes "query") (λ r prefix skip take. refl) at.0 at.1
            | inr h ↦ elim (went (codes "heads") (on_replica Heads words) _ h) [
              | inl at ↦ on_replica_found Heads (codes "heads") (λ r. refl) at.0 at.1
              | inr h ↦ batch_found one h
            ]
          ]
        ]
      ]
    ]
  ]

-- ---- the words that say a command's parts are read as it

said_replica : (make : ℕ → Command) (r : ℕ) (words : List (List ℕ)) → Say words (Replica r ∷ []) → on_replica make words ≡ Some (make r)
said_replica make r [] say = absurd say
said_replica make r (replica ∷ []) say = ap (option_map make) (replica_read replica r say.0)
said_replica make r (replica ∷ next ∷ rest) say = absurd say.1

said_key : (make : ℕ → List ℕ → Command) (r : ℕ) (key : List ℕ) (words : List (List ℕ)) → Say words (Replica r ∷ Key key ∷ []) → on_key make words ≡ Some (make r key)
said_key make r key [] say = absurd say
said_key make r key (replica ∷ []) say = absurd say.1
said_key make r key (replica ∷ word ∷ []) say = rw (replica_read replica r say.0, say.1.0.0) refl
said_key make r key (replica ∷ word ∷ next ∷ rest) say = absurd say.1.1

said_value : (make : ℕ → List ℕ → List ℕ → Command) (r : ℕ) (key bytes : List ℕ) (words : List (List ℕ)) → Say words (Replica r ∷ Key key ∷ Value bytes ∷ []) → on_value make words ≡ Some (make r key bytes)
said_value make r key bytes [] say = absurd say
said_value make r key bytes (replica ∷ []) say = absurd say.1
said_value make r key bytes (replica ∷ word ∷ []) say = absurd say.1.1
said_value make r key bytes (replica ∷ word ∷ hex ∷ []) say = rw (replica_read replica r say.0, say.1.0.0, value_read hex bytes say.1.1.0) refl
said_value make r key bytes (replica ∷ word ∷ hex ∷ next ∷ rest) say = absurd say.1.1.1

said_range : (make : ℕ → List ℕ → ℕ → ℕ → Command) (r : ℕ) (prefix : List ℕ) (skip take : ℕ) (words : List (List ℕ)) → Say words (Replica r ∷ Prefix prefix ∷ Number skip ∷ Number take ∷ []) → on_range make words ≡ Some (make r prefix skip take)
said_range make r prefix skip take [] say = absurd say
said_range make r prefix skip take (replica ∷ []) say = absurd say.1
said_range make r prefix skip take (replica ∷ word ∷ []) say = absurd say.1.1
said_range make r prefix skip take (replica ∷ word ∷ first ∷ []) say = absurd say.1.1.1
said_range make r prefix skip take (replica ∷ word ∷ first ∷ second ∷ []) say = rw (replica_read replica r say.0, say.1.0.0, number_read first skip say.1.1.0, number_read second take say.1.1.1.0) refl
said_range make r prefix skip take (replica ∷ word ∷ first ∷ second ∷ next ∷ rest) say = absurd say.1.1.1.1

said_hex : (make : List ℕ → Command) (bytes : List ℕ) (words : List (List ℕ)) → Say words (Value bytes ∷ []) → on_hex make words ≡ Some (make bytes)
said_hex make bytes [] say = absurd say
said_hex make bytes (hex ∷ []) say = ap (option_map make) (value_read hex bytes say.0)
said_hex make bytes (hex ∷ next ∷ rest) say = absurd say.1

-- what is read of words that are read one after another
two_read : {A B : Type 0} (first : Option A) (second : Option B) (a : A) (b : B) → first ≡ Some a → second ≡ Some b → ◌>>=◌ {B = A × B} first (λ a. ◌>>=◌ {B = A × B} second (λ b. Some (a, b))) ≡ Some (a, b)
two_read first second a b is also = rw (is, also) refl

three_read : {A B C : Type 0} (first : Option A) (second : Option B) (third : Option C) (a : A) (b : B) (c : C) → first ≡ Some a → second ≡ Some b → third ≡ Some c → ◌>>=◌ {B = A × B × C} first (λ a. ◌>>=◌ {B = A × B × C} second (λ b. ◌>>=◌ {B = A × B × C} third (λ c. Some (a, b, c)))) ≡ Some (a, b, c)
three_read first second third a b c is also last = rw (is, also, last) refl

said_message : (make : ℕ → ℕ → Command) (r message : ℕ) (words : List (List ℕ)) → Say words (Replica r ∷ Number message ∷ []) → on_message make words ≡ Some (make r message)
said_message make r message [] say = absurd say
said_message make r message (replica ∷ []) say = absurd say.1
said_message make r message (replica ∷ word ∷ []) say = rw (replica_read replica r say.0, number_read word message say.1.0) refl
said_message make r message (replica ∷ word ∷ next ∷ rest) say = absurd say.1.1

said_pair : (make : ℕ → ℕ → Command) (r other : ℕ) (words : List (List ℕ)) → Say words (Replica r ∷ Replica other ∷ []) → on_pair make words ≡ Some (make r other)
said_pair make r other [] say = absurd say
said_pair make r other (replica ∷ []) say = absurd say.1
said_pair make r other (replica ∷ word ∷ []) say = rw (replica_read replica r say.0, replica_read word other say.1.0) refl
said_pair make r other (replica ∷ word ∷ next ∷ rest) say = absurd say.1.1

said_up_to : (most : ℕ) (make : ℕ → ℕ → Command) (r number : ℕ) (words : List (List ℕ)) → Say words (Replica r ∷ UpTo most number ∷ []) → on_up_to most make words ≡ Some (make r number)
said_up_to most make r number [] say = absurd say
said_up_to most make r number (replica ∷ []) say = absurd say.1
said_up_to most make r number (replica ∷ word ∷ []) say = ap (option_map (λ said. make said.0 said.1)) (two_read (replica_of replica) (up_to_of most word) r number (replica_read replica r say.0) (up_to_read most word number say.1.0))
said_up_to most make r number (replica ∷ word ∷ next ∷ rest) say = absurd say.1.1

said_budget : (budget : Option ℕ) (words : List (List ℕ)) → Say words (budget_parts budget) → budget_words words ≡ Some budget
said_budget None [] say = refl
said_budget None (word ∷ words) say = absurd say
said_budget (Some budget) [] say = absurd say
said_budget (Some budget) (word ∷ []) say = ap (option_map Some) (up_to_read budget_max word budget say.0)
said_budget (Some budget) (word ∷ next ∷ rest) say = absurd say.1

said_work : (r workers : ℕ) (budget : Option ℕ) (words : List (List ℕ)) → Say words (Replica r ∷ UpTo thread_max workers ∷ budget_parts budget) → on_work Work words ≡ Some (Work r workers budget)
said_work r workers budget [] say = absurd say
said_work r workers budget (replica ∷ []) say = absurd say.1
said_work r workers budget (replica ∷ word ∷ words) say = ap (option_map (λ said. Work said.0 said.1 said.2)) (three_read (replica_of replica) (up_to_of thread_max word) (budget_words words) r workers budget (replica_read replica r say.0) (up_to_read thread_max word workers say.1.0) (said_budget budget words say.1.1))

said_storm : (r writers writes : ℕ) (words : List (List ℕ)) → Say words (Replica r ∷ UpTo thread_max writers ∷ UpTo write_max writes ∷ []) → on_storm Storm words ≡ Some (Storm r writers writes)
said_storm r writers writes [] say = absurd say
said_storm r writers writes (replica ∷ []) say = absurd say.1
said_storm r writers writes (replica ∷ word ∷ []) say = absurd say.1.1
said_storm r writers writes (replica ∷ word ∷ second ∷ []) say = ap (option_map (λ said. Storm said.0 said.1 said.2)) (three_read (replica_of replica) (up_to_of thread_max word) (up_to_of write_max second) r writers writes (replica_read replica r say.0) (up_to_read thread_max word writers say.1.0) (up_to_read write_max second writes say.1.1.0))
said_storm r writers writes (replica ∷ word ∷ second ∷ next ∷ rest) say = absurd say.1.1.1

said_offer : (make : ℕ → Cid → List ℕ → Command) (r : ℕ) (cid : Cid) (bytes : List ℕ) (words : List (List ℕ)) → Say words (Replica r ∷ Identifier cid ∷ Value bytes ∷ []) → on_offer make words ≡ Some (make r cid bytes)
said_offer make r cid bytes [] say = absurd say
said_offer make r cid bytes (replica ∷ []) say = absurd say.1
said_offer make r cid bytes (replica ∷ word ∷ []) say = absurd say.1.1
said_offer make r cid bytes (replica ∷ word ∷ hex ∷ []) say = rw (replica_read replica r say.0, identifier_read word cid say.1.0, value_read hex bytes say.1.1.0) refl
said_offer make r cid bytes (replica ∷ word ∷ hex ∷ next ∷ rest) say = absurd say.1.1.1

said_span : (make : ℕ → ℕ → ℕ → Command) (r from count : ℕ) (words : List (List ℕ)) → Say words (Replica r ∷ Number from ∷ Number count ∷ []) → on_span make words ≡ Some (make r from count)
said_span make r from count [] say = absurd say
said_span make r from count (replica ∷ []) say = absurd say.1
said_span make r from count (replica ∷ word ∷ []) say = absurd say.1.1
said_span make r from count (replica ∷ word ∷ second ∷ []) say = rw (replica_read replica r say.0, number_read word from say.1.0, number_read second count say.1.1.0) refl
said_span make r from count (replica ∷ word ∷ second ∷ next ∷ rest) say = absurd say.1.1.1

said_view : (make : ℕ → Cid → List ℕ → Command) (r : ℕ) (cid : Cid) (key : List ℕ) (words : List (List ℕ)) → Say words (Replica r ∷ Identifier cid ∷ Key key ∷ []) → on_view make words ≡ Some (make r cid key)
said_view make r cid key [] say = absurd say
said_view make r cid key (replica ∷ []) say = absurd say.1
said_view make r cid key (replica ∷ word ∷ []) say = absurd say.1.1
said_view make r cid key (replica ∷ word ∷ second ∷ []) say = rw (replica_read replica r say.0, identifier_read word cid say.1.0, say.1.1.0.0) refl
said_view make r cid key (replica ∷ word ∷ second ∷ next ∷ rest) say = absurd say.1.1.1

said_link : (make : ℕ → ℕ → Bool → Command) (r other : ℕ) (up : Bool) (words : List (List ℕ)) → Say words (Replica r ∷ OtherThan r other ∷ Way up ∷ []) → on_link make words ≡ Some (make r other up)
said_link make r other up [] say = absurd say
said_link make r other up (replica ∷ []) say = absurd say.1
said_link make r other up (replica ∷ word ∷ []) say = absurd say.1.1
said_link make r other up (replica ∷ word ∷ way ∷ []) say = rw (replica_read replica r say.0, other_read r other word say.1.0, way_read way up say.1.1.0) refl
said_link make r other up (replica ∷ word ∷ way ∷ next ∷ rest) say = absurd say.1.1.1

command_said : (command : Command) (words : List (List ℕ)) → Say words (form command).1 → command_by_name (form command).0 words ≡ Some command
command_said (Put r key bytes) words say = said_value Put r key bytes words say
command_said (Del r key) words say = said_key Del r key words say
command_said (Begin r) words say = said_replica Begin r words say
command_said (BatchPut r key bytes) words say = said_value BatchPut r key bytes words say
command_said (BatchDel r key) words say = said_key BatchDel r key words say
command_said (Commit r) words say = said_replica Commit r words say
command_said (Get r key) words say = said_key Get r key words say
command_said (Has r key) words say = said_key Has r key words say
command_said (Query r prefix skip take) words say = said_range Query r prefix skip take words say
command_said (Heads r) words say = said_replica Heads r words say
command_said (Cast r) words say = said_replica Cast r words say
command_said (Wire bytes) words say = said_hex Wire bytes words say
command_said (Hear r message) words say = said_message Hear r message words say
command_said (Plant r cid bytes) words say = said_offer Plant r cid bytes words say
command_said (Link r other up) words say = said_link Link r other up words say
command_said (Step r) words say = said_replica Step r words say
command_said (Export r) words say = said_replica Export r words say
command_said (CarIn bytes) words say = said_hex CarIn bytes words say
command_said (Import r car) words say = said_message Import r car words say
command_said (Feed r from count) words say = said_span Feed r from count words say
command_said (GetAt r cid key) words say = said_view GetAt r cid key words say
command_said (Work r workers budget) words say = said_work r workers budget words say
command_said (Repair r workers) words say = said_up_to thread_max Repair r workers words say
command_said (Storm r writers writes) words say = said_storm r writers writes words say
command_said (State r) words say = said_replica State r words say
command_said (Same r other) words say = said_pair Same r other words say
command_said (Stop r) words say = said_replica Stop r words say
command_said (Open r) words say = said_replica Open r words say
command_said (StopAt r commit) words say = said_up_to commit_max StopAt r commit words say
command_said (StopAfter r commit) words say = said_up_to commit_max StopAfter r commit words say

-- a name is a word that doesn't begin with `#`
abbrev is_name : List ℕ → Bool
is_name [] = false
is_name (first ∷ rest) = not (first == 35) && is_whole_word (first ∷ rest)

form_has_name : (command : Command) → is_name (form command).0 ≡ true
form_has_name (Put r key bytes) = refl
form_has_name command = refl

say_whole : (words : List (List ℕ)) (parts : List Part) → Say words parts → (list_all is_word words ≡ true) × (list_all has_no_space words ≡ true)
say_whole [] [] say = (refl, refl)
say_whole [] (part ∷ parts) say = absurd say
say_whole (word ∷ words) [] say = absurd say
say_whole (word ∷ words) (part ∷ parts) say =
    let first = and_parts (is_word word) (has_no_space word) (says_whole word part say.0) in
    let rest = say_whole words parts say.1 in
    (rw (first.0, rest.0) refl, rw (first.1, rest.1) refl)

first_is_no_hash : (first : ℕ) (rest : List ℕ) → is_name (first ∷ rest) ≡ true → (first == 35) ≡ false
first_is_no_hash first rest h = is_not (first == 35) (and_parts (not (first == 35)) (is_whole_word (first ∷ rest)) h).0
  where
    is_not : (b : Bool) → not b ≡ true → b ≡ false
    is_not true e = cc e
    is_not false e = refl

line_has_reply : (name : List ℕ) (words : List (List ℕ)) → is_name name ≡ true → has_no_reply (join_with_byte 32 (name ∷ words)) ≡ false
line_has_reply [] words h = cc h
line_has_reply (first ∷ rest) [] h = first_is_no_hash first rest h
line_has_reply (first ∷ rest) (word ∷ words) h = first_is_no_hash first rest h

name_whole : (name : List ℕ) → is_name name ≡ true → is_whole_word name ≡ true
name_whole [] h = cc h
name_whole (first ∷ rest) h = (and_parts (not (first == 35)) (is_whole_word (first ∷ rest)) h).1

words_are_read : (name : List ℕ) (words : List (List ℕ)) (command : Command) → is_name name ≡ true → list_all is_word words ≡ true → list_all has_no_space words ≡ true → command_by_name name words ≡ Some command → line_of_text (join_with_byte 32 (name ∷ words)) ≡ Some (Some command)
words_are_read name words command named some none h =
    let whole = and_parts (is_word name) (has_no_space name) (name_whole name named) in
    rw (line_has_reply name words named, joined_is_split name words whole.1 none, whole.0, some, h) refl

pub line_is_read : (command : Command) (line : List ℕ) → IsLineOf command line → line_of line ≡ Some (Some command)
line_is_read command line is =
    let whole = say_whole is.words (form command).1 is.said in
    let read = words_are_read (form command).0 is.words command (form_has_name command) whole.0 whole.1 (command_said command is.words is.said) in
    rw (is_utf8-from_IsUtf8 line is.text) (ap line_of_text is.joined ∙ read)

-- ---- a line that is read

list_all_both : (words : List (List ℕ)) → list_all is_word words ≡ true → list_all has_no_space words ≡ true → list_all is_whole_word words ≡ true
list_all_both [] some none = refl
list_all_both (word ∷ words) some none =
    let first = and_parts (is_word word) (list_all is_word words) some in
    let second = and_parts (has_no_space word) (list_all has_no_space words) none in
    rw (first.0, second.0, list_all_both words first.1 second.1) refl

words_found : IsOneText → (words : List (List ℕ)) (command : Command) → list_all has_no_space words ≡ true → command_of_words words ≡ Some command → (rest : List (List ℕ)) × (words ≡ (form command).0 ∷ rest) × Say rest (form command).1
words_found one [] command none h = cc h
words_found one (name ∷ words) command none h = by_test (list_all is_word (name ∷ words)) refl h
  where
    by_test : (test : Bool) → list_all is_word (name ∷ words) ≡ test → (if test then command_by_name name words else None) ≡ Some command → (rest : List (List ℕ)) × (name ∷ words ≡ (form command).0 ∷ rest) × Say rest (form command).1
    by_test true is h =
        let all = (and_parts (is_whole_word name) (list_all is_whole_word words) (list_all_both (name ∷ words) is none)).1 in
        let named = command_found name words command all one h in
        (words, ap (λ (name : List ℕ). name ∷ words) named.0, named.1)
    by_test false is h = cc h

text_found : (line : List ℕ) (command : Command) → line_of_text line ≡ Some (Some command) → command_of_words (words_of line) ≡ Some command
text_found line command h = by_test (has_no_reply line) h
  where
    some_some : (command : Command) (o : Option Command) → option_map (λ command. Some command) o ≡ Some (Some command) → o ≡ Some command
    some_some command (Some other) h = cc h
    some_some command None h = cc h

    by_test : (test : Bool) → (if test then Some None else option_map (λ command. Some command) (command_of_words (words_of line))) ≡ Some (Some command) → command_of_words (words_of line) ≡ Some command
    by_test true h = cc h
    by_test false h = some_some command (command_of_words (words_of line)) h

pub line_is_found : IsOneText → (command : Command) (line : List ℕ) → line_of line ≡ Some (Some command) → IsLineOf command line
line_is_found one command line h = by_test (is_utf8 line) refl h
  where
    by_test : (test : Bool) → is_utf8 line ≡ test → (if test then line_of_text line else None) ≡ Some (Some command) → IsLineOf command line
    by_test true is h =
        let found = words_found one (words_of line) command (words_have_no_space line) (text_found line command h) in
        record { words = found.0; text = IsUtf8-from_is_utf8 line is; said = found.2; joined = sym (join_with_byte-slice_split 32 line) ∙ ap (join_with_byte 32) found.1 }
    by_test false is h = cc h

-- ---- a line without a reply

comment_found : (line : List ℕ) → has_no_reply line ≡ true → IsComment line
comment_found [] h = tt
comment_found (first ∷ rest) h = eqb-true first 35 h

comment_read : (line : List ℕ) → IsComment line → has_no_reply line ≡ true
comment_read [] is = refl
comment_read (first ∷ rest) is = rw is refl

silent_is_found : (line : List ℕ) → line_of line ≡ Some None → IsSilent line
silent_is_found line h = by_test (is_utf8 line) refl h
  where
    no_command : (o : Option Command) → option_map (λ command. Some command) o ≡ Some None → ⊥
    no_command (Some command) h = cc h
    no_command None h = cc h

    by_reply : (test : Bool) → has_no_reply line ≡ test → (if test then Some None else option_map (λ command. Some command) (command_of_words (words_of line))) ≡ Some None → IsComment line
    by_reply true is h = comment_found line is
    by_reply false is h = absurd (no_command (command_of_words (words_of line)) h)

    by_test : (test : Bool) → is_utf8 line ≡ test → (if test then line_of_text line else None) ≡ Some None → IsSilent line
    by_test true is h = (IsUtf8-from_is_utf8 line is, by_reply (has_no_reply line) refl h)
    by_test false is h = cc h

pub silent_lines : (line : List ℕ) → line_of line ≡ Some None ↔ IsSilent line
silent_lines line = (silent_is_found line, λ silent. rw (is_utf8-from_IsUtf8 line silent.0, comment_read line silent.1) refl)

-- ---- written lines

written_say : IsReadAgain → (parts : List Part) → AllByRecursion HasWord parts → Say (map word_of parts) parts
written_say again [] all = tt
written_say again (part ∷ parts) all = (word_says again part all.0, written_say again parts all.1)

written_utf8 : (name : List ℕ) (words : List (List ℕ)) → IsUtf8 name → AllByRecursion IsUtf8 words → IsUtf8 (join_with_byte 32 (name ∷ words))
written_utf8 name [] first all = first
written_utf8 name (word ∷ words) first all = IsUtf8-append name (32 ∷ join_with_byte 32 (word ∷ words)) first (IsUtf8-append (32 ∷ []) (join_with_byte 32 (word ∷ words)) space (written_utf8 word words all.0 all.1))
  where
    space : IsUtf8 (32 ∷ [])
    space = IsUtf8-from_ascii (32 ∷ []) (plain_ascii (32 ∷ []) refl)

parts_utf8 : (parts : List Part) → AllByRecursion HasWord parts → AllByRecursion IsUtf8 (map word_of parts)
parts_utf8 [] all = tt
parts_utf8 (part ∷ parts) all = (word_is_utf8 part all.0, parts_utf8 parts all.1)

form_is_plain : (command : Command) → list_all (λ byte. nat_lt byte 128) (form command).0 ≡ true
form_is_plain (Put r key bytes) = refl
form_is_plain command = refl

pub command_is_read : IsReadAgain → (command : Command) → IsWritable command → line_of (command_text command) ≡ Some (Some command)
command_is_read again command all = line_is_read command (command_text command) (record {
  words = map word_of (form command).1;
  text = written_utf8 (form command).0 (map word_of (form command).1) (IsUtf8-from_ascii (form command).0 (plain_ascii (form command).0 (form_is_plain command))) (parts_utf8 (form command).1 all);
  said = written_say again (form command).1 all;
  joined = refl;
})
