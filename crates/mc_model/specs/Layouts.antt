-- How far the winner rows have come, and one commit of a migration.
use Rattle.std.specs.Prelude.{ℕ, Bool, true, false, not, List, [], filter, fold, take, length, nat_lt, Option, Some, None}
use Rattle.std.specs.Prelude.{if◌then◌else◌}
use Rattle.std.specs.Ordering.{is_lt, nat_cmp}
use Rattle.std.specs.Cmp.Lexicographic.{slice_cmp}
use Rattle.mc_base.specs.declared.cid.Cid.{Cid}
use Rattle.mc_model.specs.declared.block.Block.{Block}
use Rattle.mc_model.specs.declared.layout.Layout.{Layout}
use Rattle.mc_model.specs.declared.layout.Layout.TheVariants.{One, Two}
use Rattle.mc_model.specs.Answers.{valued_keys}
use Rattle.mc_model.specs.Who.{who}

-- whether a key is not above this one
abbrev pub is_upto : List ℕ → List ℕ → Bool
is_upto upto key = not (is_lt (slice_cmp nat_cmp upto key))

-- whether a key with a value has its winner row
abbrev pub covers : Layout → List ℕ → Bool
covers (One None) key = false
covers (One (Some upto)) key = is_upto upto key
covers Two key = true

abbrev pub is_two : Layout → Bool
is_two (One upto) = false
is_two Two = true

-- the winner row of a key, or none where it has no value or its row is still to come
abbrev pub winner_in : Layout → List Block → List ℕ → Option Cid
winner_in layout blocks key = if covers layout key then who blocks key else None

-- the keys with a value whose rows are still to come, ascending
abbrev pub uncovered : Layout → List Block → List (List ℕ)
uncovered layout blocks = filter (λ key. not (covers layout key)) (valued_keys blocks)

-- how many keys one commit of a migration takes at most
abbrev pub migrate_most : ℕ
migrate_most = 1024

-- the keys that the next commit of a migration takes
abbrev pub next_keys : Layout → List Block → List (List ℕ)
next_keys layout blocks = take migrate_most (uncovered layout blocks)

-- the last of some keys
abbrev pub last_key : List (List ℕ) → Option (List ℕ)
last_key keys = fold (λ (last : Option (List ℕ)) key. Some key) None keys

-- the layout once the rows of these keys are written: fewer than the most are all that are left
abbrev pub layout_with : List (List ℕ) → Layout
layout_with keys = if nat_lt (length keys) migrate_most then Two else One (last_key keys)

-- the layout after one commit of a migration
abbrev pub migrated : List Block → Layout → Layout
migrated blocks (One upto) = layout_with (next_keys (One upto) blocks)
migrated blocks Two = Two
