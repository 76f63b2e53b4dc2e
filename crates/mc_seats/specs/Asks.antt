-- What a command names: replicas, messages and files.
use Rattle.std.specs.Prelude.{ℕ, ◌-◌, nat_lt, Bool, true, not, ◌&&◌, cond, List, [], ◌∷◌, ◌==◌, length, Option}
use Rattle.std.specs.Prelude.{Some, None, slice_get, unwrap_or}
use Rattle.std.specs.List.{list_any}
use Rattle.mc_script.specs.declared.command.Command.{Command}
use Rattle.mc_seats.specs.declared.bag.Bag.{Bag}
use Rattle.mc_seats.specs.Doing.{Act, At, Calls, Compares, Doing, Hears, Imports, Links, Loads, Sends, Tends, doing}
use Rattle.mc_seats.specs.Worlds.{WorldState}

-- whether a list of replicas has this number
abbrev pub is_named : List ℕ → ℕ → Bool
is_named numbers r = list_any (λ number. number == r) numbers

-- the replica that a command may change, or none
abbrev pub focus_by : Doing → Option ℕ
focus_by (At r act) = Some r
focus_by d = None

abbrev pub focus : Command → Option ℕ
focus command = focus_by (doing command)

-- whether the keeper may fail in what is done at a replica
abbrev pub may_by : Act → Bool
may_by (Calls call) = call.may
may_by (Tends tending) = tending.may
may_by act = true

-- those whose keepers may fail in it
abbrev pub fail_by : Doing → List ℕ
fail_by (At r act) = cond (may_by act) (r ∷ []) []
fail_by (Compares r other) = r ∷ other ∷ []
fail_by d = []

abbrev pub may_fail : Command → List ℕ
may_fail command = fail_by (doing command)

-- whether there is a text with this number, counted from 1
abbrev pub has_text : List (List ℕ) → ℕ → Bool
has_text texts number = nat_lt 0 number && not (nat_lt (length texts) number)

abbrev pub text_at : List (List ℕ) → ℕ → List ℕ
text_at texts number = unwrap_or (slice_get texts (number - 1)) []

-- a message by its number, and a file
abbrev pub has_message : Bag → ℕ → Bool
has_message bag message = has_text bag.messages message

abbrev pub message_at : Bag → ℕ → List ℕ
message_at bag message = text_at bag.messages message

abbrev pub has_car : Bag → ℕ → Bool
has_car bag car = has_text bag.cars car

abbrev pub car_at : Bag → ℕ → List ℕ
car_at bag car = text_at bag.cars car

-- whether all that a command names is there, of so many replicas and of these messages and files
abbrev pub among_by : ℕ → Bag → Doing → Bool
among_by count bag (At r (Hears message)) = nat_lt r count && has_message bag message
among_by count bag (At r (Imports car)) = nat_lt r count && has_car bag car
among_by count bag (At r act) = nat_lt r count
among_by count bag (Sends bytes) = true
among_by count bag (Loads bytes) = true
among_by count bag (Links r other up) = nat_lt r count && nat_lt other count
among_by count bag (Compares r other) = nat_lt r count && nat_lt other count

abbrev pub is_among : ℕ → Bag → Command → Bool
is_among count bag command = among_by count bag (doing command)

abbrev pub is_there : WorldState → Command → Bool
is_there w command = is_among (length w.places) w.around.bag command

-- how many fuses a command arms
abbrev pub arms_by : Doing → ℕ
arms_by (At r (Tends tending)) = tending.arms
arms_by d = 0

abbrev pub arms : Command → ℕ
arms command = arms_by (doing command)
