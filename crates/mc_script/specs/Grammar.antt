-- The commands, one row for each: its name and the words behind it; and which lines are lines of a command.
use Rattle.std.specs.Prelude.{◌≡◌, ◌≢◌, ℕ, ◌+◌, ◌<◌, ◌≤◌, ◌^◌, ◌==◌, ◌&&◌, ◌++◌, not, nat_lt, Bool, true, false, List}
use Rattle.std.specs.Prelude.{[], ◌∷◌, length, map, codes, Option, Some, None, Ok, ⊤}
use Rattle.std.specs.Fmt.{decimal}
use Rattle.std.specs.List.{AllByRecursion, join_with_byte, list_all, repeat}
use Rattle.std.specs.Str.{IsUtf8, str_to_ascii_lowercase}
use Rattle.hex.specs.Hex.{IsBytes}
use Rattle.mc_base.specs.declared.cid.Cid.{Cid}
use Rattle.mc_cidtext.specs.CidText.{cid_text, read_cid_text}
use Rattle.mc_script.specs.Limits.{IsUpTo, budget_max, commit_max, thread_max, write_max}
use Rattle.mc_script.specs.ReplyText.{IsDigest, hex_text}
use Rattle.mc_script.specs.declared.command.Command.{Command}
use Rattle.mc_script.specs.declared.command.Command.TheVariants.{Put, Del, Begin, BatchPut, BatchDel, Commit, Get, Has}
use Rattle.mc_script.specs.declared.command.Command.TheVariants.{Query, Heads, Cast, Wire, Hear, Plant, Link, Step}
use Rattle.mc_script.specs.declared.command.Command.TheVariants.{Work, Repair, Storm, State, Same, Stop, Open, StopAt}
use Rattle.mc_script.specs.declared.command.Command.TheVariants.{StopAfter, Export, CarIn, Import, Feed, GetAt}

-- what a word behind a command's name says
pub data Part : Type 0 where
  Replica : ℕ → Part
  Key : List ℕ → Part
  Prefix : List ℕ → Part
  Value : List ℕ → Part
  Number : ℕ → Part
  Identifier : Cid → Part
  OtherThan : ℕ → ℕ → Part
  Way : Bool → Part
  UpTo : ℕ → ℕ → Part

-- the word of a budget, where there is one
abbrev pub budget_parts : Option ℕ → List Part
budget_parts None = []
budget_parts (Some budget) = UpTo budget_max budget ∷ []

-- each command's name, and the words behind it
abbrev pub form : Command → List ℕ × List Part
form (Put r key bytes) = (codes "put", Replica r ∷ Key key ∷ Value bytes ∷ [])
form (Del r key) = (codes "del", Replica r ∷ Key key ∷ [])
form (Begin r) = (codes "begin", Replica r ∷ [])
form (BatchPut r key bytes) = (codes "bput", Replica r ∷ Key key ∷ Value bytes ∷ [])
form (BatchDel r key) = (codes "bdel", Replica r ∷ Key key ∷ [])
form (Commit r) = (codes "commit", Replica r ∷ [])
form (Get r key) = (codes "get", Replica r ∷ Key key ∷ [])
form (Has r key) = (codes "has", Replica r ∷ Key key ∷ [])
form (Query r prefix skip take) = (codes "query", Replica r ∷ Prefix prefix ∷ Number skip ∷ Number take ∷ [])
form (Heads r) = (codes "heads", Replica r ∷ [])
form (Cast r) = (codes "cast", Replica r ∷ [])
form (Wire bytes) = (codes "wire", Value bytes ∷ [])
form (Hear r message) = (codes "hear", Replica r ∷ Number message ∷ [])
form (Plant r cid bytes) = (codes "plant", Replica r ∷ Identifier cid ∷ Value bytes ∷ [])
form (Link r other up) = (codes "link", Replica r ∷ OtherThan r other ∷ Way up ∷ [])
form (Step r) = (codes "step", Replica r ∷ [])
form (Export r) = (codes "export", Replica r ∷ [])
form (CarIn bytes) = (codes "carin", Value bytes ∷ [])
form (Import r car) = (codes "import", Replica r ∷ Number car ∷ [])
form (Feed r from count) = (codes "feed", Replica r ∷ Number from ∷ Number count ∷ [])
form (GetAt r cid key) = (codes "getat", Replica r ∷ Identifier cid ∷ Key key ∷ [])
form (Work r workers budget) = (codes "work", Replica r ∷ UpTo thread_max workers ∷ budget_parts budget)
form (Repair r workers) = (codes "repair", Replica r ∷ UpTo thread_max workers ∷ [])
form (Storm r writers writes) = (codes "storm", Replica r ∷ UpTo thread_max writers ∷ UpTo write_max writes ∷ [])
form (State r) = (codes "state", Replica r ∷ [])
form (Same r other) = (codes "same", Replica r ∷ Replica other ∷ [])
form (Stop r) = (codes "stop", Replica r ∷ [])
form (Open r) = (codes "open", Replica r ∷ [])
form (StopAt r commit) = (codes "stopat", Replica r ∷ UpTo commit_max commit ∷ [])
form (StopAfter r commit) = (codes "stopafter", Replica r ∷ UpTo commit_max commit ∷ [])

-- the replica that a command names first, and 0 where it names none
abbrev pub first_replica : List Part → ℕ
first_replica (Replica r ∷ parts) = r
first_replica parts = 0

abbrev pub replica_of : Command → ℕ
replica_of command = first_replica (form command).1

-- at least one byte, and no space
abbrev pub is_whole_word : List ℕ → Bool
is_whole_word word = nat_lt 0 (length word) && list_all (λ byte. not (byte == 32)) word

-- the word of a link that is up or down
abbrev pub way_word : Bool → List ℕ
way_word true = codes "up"
way_word false = codes "down"

-- the word that is written: the letter of a replica, a key or a prefix as it is, a value in lower-case hexadecimal
-- digits or as a dash, a number in decimal digits without leading zeros, an identifier as its text
abbrev pub word_of : Part → List ℕ
word_of (Replica r) = (97 + r) ∷ []
word_of (Key key) = key
word_of (Prefix prefix) = prefix
word_of (Value bytes) = hex_text bytes
word_of (Number number) = decimal number
word_of (Identifier cid) = cid_text cid.0
word_of (OtherThan r other) = (97 + other) ∷ []
word_of (Way up) = way_word up
word_of (UpTo most number) = decimal number

-- whether a part has a word: the other replica of a link differs from the first, and a number with a greatest one is
-- from 1 to it
abbrev pub HasWord : Part → Type 0
HasWord (Replica r) = r < 8
HasWord (Key key) = IsUtf8 key × (is_whole_word key ≡ true)
HasWord (Prefix prefix) = IsUtf8 prefix × (is_whole_word prefix ≡ true)
HasWord (Value bytes) = IsBytes bytes
HasWord (Number number) = number < 2 ^ 64
HasWord (Identifier cid) = IsDigest cid
HasWord (OtherThan r other) = (r ≢ other) × (other < 8)
HasWord (Way up) = ⊤
HasWord (UpTo most number) = IsUpTo most number × (number < 2 ^ 64)

-- zeros may lead a number of up to 20 digits
abbrev pub SaysNumber : List ℕ → ℕ → Type 0
SaysNumber word number =
    (number < 2 ^ 64) × (length word ≤ 20) × ((zeros : ℕ) × (word ≡ repeat zeros (48 ∷ []) ++ decimal number))

-- whether a word says a part: hexadecimal digits may be of either case, and zeros may lead a number; the one text of an
-- identifier is read as it
abbrev pub Says : List ℕ → Part → Type 0
Says word (Replica r) = (r < 8) × (word ≡ (97 + r) ∷ [])
Says word (Key key) = (word ≡ key) × (is_whole_word key ≡ true)
Says word (Prefix prefix) = (word ≡ prefix) × (is_whole_word prefix ≡ true)
Says word (Value bytes) = IsBytes bytes × (str_to_ascii_lowercase word ≡ hex_text bytes)
Says word (Number number) = SaysNumber word number
Says word (Identifier cid) = (word ≡ cid_text cid.0) × (read_cid_text word ≡ Ok cid.0) × (is_whole_word word ≡ true)
Says word (OtherThan r other) = (r ≢ other) × (other < 8) × (word ≡ (97 + other) ∷ [])
Says word (Way up) = word ≡ way_word up
Says word (UpTo most number) = IsUpTo most number × SaysNumber word number

abbrev pub Say : List (List ℕ) → List Part → Type 0
Say [] [] = ⊤
Say (word ∷ words) (part ∷ parts) = Says word part × Say words parts
Say [] (part ∷ parts) = ⊥
Say (word ∷ words) [] = ⊥

-- the line of a command: its name and its words, with one space between two of them
abbrev pub command_text : Command → List ℕ
command_text command = join_with_byte 32 ((form command).0 ∷ map word_of (form command).1)

-- whether the words of a command can be written
abbrev pub IsWritable : Command → Type 0
IsWritable command = AllByRecursion HasWord (form command).1

-- a line of a command is UTF-8, and its name and words that say its parts, with one space between two of them
pub record IsLineOf (command : Command) (line : List ℕ) : Type 0 where
  pub words : List (List ℕ)
  pub text : IsUtf8 line
  pub said : Say words (form command).1
  pub joined : line ≡ join_with_byte 32 ((form command).0 ∷ words)

-- a line without a reply is UTF-8, and empty or a comment, which begins with `#`
abbrev pub IsComment : List ℕ → Type 0
IsComment [] = ⊤
IsComment (first ∷ rest) = first ≡ 35

abbrev pub IsSilent : List ℕ → Type 0
IsSilent line = IsUtf8 line × IsComment line
