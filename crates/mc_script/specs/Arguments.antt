-- What the words behind a command's name say. A key and a prefix are any word.
use Rattle.std.specs.Prelude.{ℕ, List, [], ◌∷◌, Option, Some, None, Bool}
use Rattle.std.specs.Option.{option_map}
use Rattle.mc_base.specs.declared.cid.Cid.{Cid}
use Rattle.mc_script.specs.Limits.{budget_max, thread_max, write_max}
use Rattle.mc_script.specs.Words.{◌>>=◌, replica_of, number_of, bytes_of_hex, other_of, way_of, up_to_of, identifier_of}

-- `R`
abbrev pub replica_words : List (List ℕ) → Option ℕ
replica_words (replica ∷ []) = replica_of replica
replica_words words = None

-- `R KEY`
abbrev pub key_words : List (List ℕ) → Option (ℕ × List ℕ)
key_words (replica ∷ key ∷ []) = do
  r ← replica_of replica
  Some (r, key)
key_words words = None

-- `R KEY HEX`
abbrev pub value_words : List (List ℕ) → Option (ℕ × List ℕ × List ℕ)
value_words (replica ∷ key ∷ hex ∷ []) = do
  r ← replica_of replica
  bytes ← bytes_of_hex hex
  Some (r, key, bytes)
value_words words = None

-- `R PREFIX SKIP TAKE`
abbrev pub range_words : List (List ℕ) → Option (ℕ × List ℕ × ℕ × ℕ)
range_words (replica ∷ prefix ∷ skip ∷ take ∷ []) = do
  r ← replica_of replica
  skip ← number_of skip
  take ← number_of take
  Some (r, prefix, skip, take)
range_words words = None

-- `HEX`
abbrev pub hex_words : List (List ℕ) → Option (List ℕ)
hex_words (hex ∷ []) = bytes_of_hex hex
hex_words words = None

-- `R M`
abbrev pub message_words : List (List ℕ) → Option (ℕ × ℕ)
message_words (replica ∷ message ∷ []) = do
  r ← replica_of replica
  message ← number_of message
  Some (r, message)
message_words words = None

-- `R CID HEX`
abbrev pub offer_words : List (List ℕ) → Option (ℕ × Cid × List ℕ)
offer_words (replica ∷ cid ∷ hex ∷ []) = do
  r ← replica_of replica
  cid ← identifier_of cid
  bytes ← bytes_of_hex hex
  Some (r, cid, bytes)
offer_words words = None

-- `R FROM COUNT`
abbrev pub span_words : List (List ℕ) → Option (ℕ × ℕ × ℕ)
span_words (replica ∷ from ∷ count ∷ []) = do
  r ← replica_of replica
  from ← number_of from
  count ← number_of count
  Some (r, from, count)
span_words words = None

-- `R CID KEY`
abbrev pub view_words : List (List ℕ) → Option (ℕ × Cid × List ℕ)
view_words (replica ∷ cid ∷ key ∷ []) = do
  r ← replica_of replica
  cid ← identifier_of cid
  Some (r, cid, key)
view_words words = None

-- `R R up` or `R R down`, of two replicas that differ
abbrev pub link_words : List (List ℕ) → Option (ℕ × ℕ × Bool)
link_words (replica ∷ second ∷ way ∷ []) = do
  r ← replica_of replica
  other ← other_of r second
  up ← way_of way
  Some (r, other, up)
link_words words = None

-- `R R`
abbrev pub pair_words : List (List ℕ) → Option (ℕ × ℕ)
pair_words (replica ∷ second ∷ []) = do
  r ← replica_of replica
  other ← replica_of second
  Some (r, other)
pair_words words = None

-- `R N`, with a number from 1 to `most`
abbrev pub up_to_words : ℕ → List (List ℕ) → Option (ℕ × ℕ)
up_to_words most (replica ∷ number ∷ []) = do
  r ← replica_of replica
  number ← up_to_of most number
  Some (r, number)
up_to_words most words = None

-- nothing, or `B`
abbrev pub budget_words : List (List ℕ) → Option (Option ℕ)
budget_words [] = Some None
budget_words (budget ∷ []) = option_map Some (up_to_of budget_max budget)
budget_words words = None

-- `R N` or `R N B`
abbrev pub work_words : List (List ℕ) → Option (ℕ × ℕ × Option ℕ)
work_words (replica ∷ workers ∷ budget) = do
  r ← replica_of replica
  workers ← up_to_of thread_max workers
  budget ← budget_words budget
  Some (r, workers, budget)
work_words words = None

-- `R T M`
abbrev pub storm_words : List (List ℕ) → Option (ℕ × ℕ × ℕ)
storm_words (replica ∷ writers ∷ writes ∷ []) = do
  r ← replica_of replica
  writers ← up_to_of thread_max writers
  writes ← up_to_of write_max writes
  Some (r, writers, writes)
storm_words words = None
