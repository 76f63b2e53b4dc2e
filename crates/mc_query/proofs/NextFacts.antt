-- The keys past a bound, and the first of them.
use Rattle.std.proofs.Common.{◌≡◌, ℕ, Bool, true, false, cond, List, [], ◌∷◌, ◌++◌, ◌||◌, refl, sym, ap, ◌∙◌, subst, Option, Some, None}
use Rattle.std.proofs.lemmas.Bool.{false≢true}
use Rattle.std.proofs.lemmas.Cmp.{nat_list_cmp_total}
use Rattle.std.specs.Cmp.Lexicographic.{slice_cmp}
use Rattle.std.specs.List.{list_any, AllByRecursion}
use Rattle.std.specs.List.Sorted.{IsStrictlySortedBy}
use Rattle.std.specs.Option.{option_map}
use Rattle.std.specs.Ordering.{is_lt, is_le, is_eq, nat_cmp, ordering_reverse}
use Rattle.std.specs.Prelude.{filter, is_some, IfSome}
use Rattle.std.specs.Str.{bytes_eq}
use Rattle.std.specs.declared.cmp.Ordering.{Ordering}
use Rattle.std.specs.declared.cmp.Ordering.TheVariants.{Less, Equal, Greater}
use Rattle.std.proofs.lemmas.Map.Text.{is_eq-slice_cmp}
use Rattle.std.proofs.Math.Bool.{or-true}
use Rattle.std.proofs.lemmas.Map.Lookups.{exact_bytes}
use Rattle.mc_base.proofs.Orders.{less_is}
use lib.Pointwise.{bytes_decides}
use Rattle.mc_key.specs.Prefix.{is_under}
use Rattle.mc_model.specs.declared.block.Block.{Block}
use Rattle.mc_model.specs.Answers.{has_value, valued_keys}
use Rattle.mc_model.specs.Live.{value_row}
use Rattle.mc_model.specs.Rank.{Ranked}
use Rattle.mc_keep.specs.Next.{is_past, IsNext, IsNextRow}
use Rattle.mc_keep.specs.declared.rows.ValueRow.{ValueRow}
use Rattle.mc_query.specs.Places.{start_of, left_of, selected, row_past, IsNextUnder}
use Rattle.mc_query.proofs.KeyOrder.{begins_past, between, past_more, past_bound, not_past_itself}
use Rattle.mc_query.proofs.Slashes.{selected_is, is_selected}

-- the keys of a list that a key is below
abbrev pub Above : List ℕ → List (List ℕ) → Type 0
Above key keys = AllByRecursion (λ (next : List ℕ). slice_cmp nat_cmp key next ≡ Less) keys

abbrev pub has_key : List ℕ → List (List ℕ) → Bool
has_key key keys = list_any (λ other. bytes_eq other key) keys

all_past : (bound : List ℕ) (inclusive : Bool) (key : List ℕ) (keys : List (List ℕ)) → Above key keys → ((next : List ℕ) → slice_cmp nat_cmp key next ≡ Less → is_past bound inclusive next ≡ true) → filter (is_past bound inclusive) keys ≡ keys
all_past bound inclusive key [] above past = refl
all_past bound inclusive key (next ∷ keys) above past = rw (past next above.0, all_past bound inclusive key keys above.1 past)

past_itself : (key : List ℕ) (keys : List (List ℕ)) → Above key keys → filter (is_past key false) (key ∷ keys) ≡ keys
past_itself key keys above = ap (λ b. cond b (key ∷ filter (is_past key false) keys) (filter (is_past key false) keys)) (not_past_itself key) ∙ all_past key false key keys above (λ next e. ap is_lt e)

not_above : (key : List ℕ) (low : List ℕ) (keys : List (List ℕ)) → Above low keys → slice_cmp nat_cmp low key ≡ Greater → has_key key keys ≡ true → ⊥
not_above key low [] above e there = false≢true there
not_above key low (next ∷ keys) above e there = (elim (bytes_eq next key) as (λ b. bytes_eq next key ≡ b → (b || has_key key keys) ≡ true → ⊥) [
  | true ↦ λ same h.
      let less : slice_cmp nat_cmp low key ≡ Less = subst (λ (k : List ℕ). slice_cmp nat_cmp low k ≡ Less) ((bytes_decides next key).0 same) above.0 in
      absurd (let f : Greater ≡ Less = sym e ∙ less in cc)
  | false ↦ λ same h. not_above key low keys above.1 e h
]) refl there

differs : (x y : List ℕ) (o : Ordering) → slice_cmp nat_cmp x y ≡ o → is_eq o ≡ false → bytes_eq x y ≡ false
differs x y o e f = sym (is_eq-slice_cmp x y) ∙ ap is_eq e ∙ f

-- the keys past a bound, where this one is the least of them
first_past : (bound : List ℕ) (inclusive : Bool) (key : List ℕ) (keys : List (List ℕ)) → IsStrictlySortedBy (slice_cmp nat_cmp) keys → is_past bound inclusive key ≡ true →
    ((other : List ℕ) → is_past bound inclusive other ≡ true → is_lt (slice_cmp nat_cmp other key) ≡ true → has_key other keys ≡ true → ⊥) → has_key key keys ≡ true →
    filter (is_past bound inclusive) keys ≡ key ∷ filter (is_past key false) keys
unfolding IsStrictlySortedBy
first_past bound inclusive key [] sorted past least there = absurd (false≢true there)
first_past bound inclusive key (low ∷ keys) sorted past least there = (elim (is_past bound inclusive low) as (λ b. is_past bound inclusive low ≡ b →
    cond b (low ∷ filter (is_past bound inclusive) keys) (filter (is_past bound inclusive) keys) ≡ key ∷ filter (is_past key false) (low ∷ keys)) [
      | true ↦ λ e. inside e (slice_cmp nat_cmp low key) refl
      | false ↦ λ e. outside (first_past bound inclusive key keys sorted.1 past least_there) e (slice_cmp nat_cmp low key) refl
    ]) refl
  where
    here : has_key low (low ∷ keys) ≡ true
    here = ap (λ b. b || has_key low keys) ((bytes_decides low low).1 refl)

    inside : is_past bound inclusive low ≡ true → (o : Ordering) → slice_cmp nat_cmp low key ≡ o → low ∷ filter (is_past bound inclusive) keys ≡ key ∷ filter (is_past key false) (low ∷ keys)
    inside e Less less = absurd (least low e (ap is_lt less) here)
    inside e Equal same =
        let is : low ≡ key = exact_bytes low key same in
        ap (λ (rest : List (List ℕ)). low ∷ rest) (all_past bound inclusive low keys sorted.0 (λ next above. past_more bound inclusive low next e above) ∙ sym (past_itself low keys sorted.0))
        ∙ ap (λ (k : List ℕ). k ∷ filter (is_past k false) (low ∷ keys)) is
    inside e Greater more = absurd (not_above key low keys sorted.0 more (ap (λ b. b || has_key key keys) (sym (differs low key Greater more refl)) ∙ there))

    more_there : bytes_eq low key ≡ false → has_key key keys ≡ true
    more_there other = ap (λ b. b || has_key key keys) (sym other) ∙ there

    least_there : (next : List ℕ) → is_past bound inclusive next ≡ true → is_lt (slice_cmp nat_cmp next key) ≡ true → has_key next keys ≡ true → ⊥
    least_there next next_past next_below next_there = least next next_past next_below (ap (λ b. bytes_eq low next || b) next_there ∙ or-true (bytes_eq low next))

    Smaller : Type 0
    Smaller = has_key key keys ≡ true → filter (is_past bound inclusive) keys ≡ key ∷ filter (is_past key false) keys

    rest_is : Smaller → bytes_eq low key ≡ false → is_past key false low ≡ false → filter (is_past bound inclusive) keys ≡ key ∷ filter (is_past key false) (low ∷ keys)
    rest_is smaller other below =
        smaller (more_there other)
        ∙ ap (λ b. key ∷ cond b (low ∷ filter (is_past key false) keys) (filter (is_past key false) keys)) (sym below)

    outside : Smaller → is_past bound inclusive low ≡ false → (o : Ordering) → slice_cmp nat_cmp low key ≡ o → filter (is_past bound inclusive) keys ≡ key ∷ filter (is_past key false) (low ∷ keys)
    outside smaller e Less less = rest_is smaller (differs low key Less less refl) (ap is_lt (nat_list_cmp_total.antisymm key low ∙ ap ordering_reverse less))
    outside smaller e Equal same = absurd (false≢true (sym e ∙ subst (λ (k : List ℕ). is_past bound inclusive k ≡ true) (sym (exact_bytes low key same)) past))
    outside smaller e Greater more = absurd (false≢true (sym e ∙ past_more bound inclusive key low past (nat_list_cmp_total.antisymm key low ∙ ap ordering_reverse more)))

-- where no key past a bound is among them, none is
pub none_past : (bound : List ℕ) (inclusive : Bool) (keys : List (List ℕ)) → ((key : List ℕ) → is_past bound inclusive key ≡ true → has_key key keys ≡ true → ⊥) → filter (is_past bound inclusive) keys ≡ []
none_past bound inclusive [] none = refl
none_past bound inclusive (key ∷ keys) none = (elim (is_past bound inclusive key) as (λ b. is_past bound inclusive key ≡ b → cond b (key ∷ filter (is_past bound inclusive) keys) (filter (is_past bound inclusive) keys) ≡ []) [
  | true ↦ λ e. absurd (none key e (ap (λ b. b || has_key key keys) ((bytes_decides key key).1 refl)))
  | false ↦ λ e. none_past bound inclusive keys (λ next past there. none next past (ap (λ b. bytes_eq key next || b) there ∙ or-true (bytes_eq key next)))
]) refl

no_selected : (selects : List ℕ → Bool) (past : List ℕ → Bool) (keys : List (List ℕ)) → ((key : List ℕ) → past key ≡ true → selects key ≡ false) → filter selects (filter past keys) ≡ []
no_selected selects past [] none = refl
no_selected selects past (key ∷ keys) none = (elim (past key) as (λ b. past key ≡ b → filter selects (cond b (key ∷ filter past keys) (filter past keys)) ≡ []) [
  | true ↦ λ e. rw (none key e) (no_selected selects past keys none)
  | false ↦ λ e. no_selected selects past keys none
]) refl

all_selected : (selects : List ℕ → Bool) (past : List ℕ → Bool) (keys : List (List ℕ)) → ((key : List ℕ) → selects key ≡ true → past key ≡ true) → filter selects (filter past keys) ≡ filter selects keys
all_selected selects past [] all = refl
all_selected selects past (key ∷ keys) all = (elim (selects key) as (λ b. selects key ≡ b → filter selects (cond (past key) (key ∷ filter past keys) (filter past keys)) ≡ cond b (key ∷ filter selects keys) (filter selects keys)) [
  | true ↦ λ e. rw (all key e, e, all_selected selects past keys all)
  | false ↦ λ e. (elim (past key) as (λ b. filter selects (cond b (key ∷ filter past keys) (filter past keys)) ≡ filter selects keys) [
    | true ↦ rw e (all_selected selects past keys all)
    | false ↦ all_selected selects past keys all
  ])
]) refl

-- a selected key is past the start
pub selected_past : (prefix key : List ℕ) → is_under prefix key ≡ true → is_past (start_of prefix) true key ≡ true
selected_past prefix key under =
    let is = selected_is prefix key under in
    subst (λ (k : List ℕ). is_past (start_of prefix) true k ≡ true) (sym is.1) (begins_past (start_of prefix) is.0)

-- after a key past the start that isn't selected none is
none_after : (prefix key next : List ℕ) → is_past (start_of prefix) true key ≡ true → is_under prefix key ≡ false → is_past key false next ≡ true → (b : Bool) → is_under prefix next ≡ b → b ≡ false
none_after prefix key next from outside past false e = refl
none_after prefix key next from outside past true e =
    let is = selected_is prefix next e in
    let less : slice_cmp nat_cmp key (start_of prefix ++ is.0) ≡ Less = subst (λ (k : List ℕ). slice_cmp nat_cmp key k ≡ Less) is.1 (less_is (slice_cmp nat_cmp key next) past) in
    let begins = between (start_of prefix) key is.0 from (ap is_le less) in
    absurd (false≢true (sym outside ∙ is_selected prefix key begins.0 begins.1))

-- and so no selected key is left past it
pub none_left_after : (blocks : List Block) (prefix key : List ℕ) → is_past (start_of prefix) true key ≡ true → is_under prefix key ≡ false → left_of blocks prefix key false ≡ []
none_left_after blocks prefix key from outside =
    no_selected (is_under prefix) (is_past key false) (valued_keys blocks) (λ next past. none_after prefix key next from outside past (is_under prefix next) refl)

-- all selected keys are past the start
pub from_start : (blocks : List Block) (prefix : List ℕ) → left_of blocks prefix (start_of prefix) true ≡ filter (is_under prefix) (valued_keys blocks)
from_start blocks prefix = all_selected (is_under prefix) (is_past (start_of prefix) true) (valued_keys blocks) (selected_past prefix)

-- what is known of the keys that have a value
abbrev pub AreSorted : Type 0
AreSorted = (blocks : List Block) → IsStrictlySortedBy (slice_cmp nat_cmp) (valued_keys blocks)

abbrev pub AreExact : Type 0
AreExact = (blocks : List Block) (key : List ℕ) → list_any (λ other. bytes_eq other key) (valued_keys blocks) ≡ has_value blocks key

module _ (sorted : AreSorted) (exact : AreExact) where
  pub no_row : (blocks : List Block) (key : List ℕ) → value_row blocks key ≡ None → has_key key (valued_keys blocks) ≡ true → ⊥
  no_row blocks key none there = false≢true (sym (exact blocks key ∙ ap (λ (row : Option Ranked). is_some (option_map (λ (best : Ranked). best.1) row)) none) ∙ there)

  row_there : (blocks : List Block) (key : List ℕ) (best : Ranked) → value_row blocks key ≡ Some best → has_key key (valued_keys blocks) ≡ true
  row_there blocks key best is = exact blocks key ∙ ap (λ (row : Option Ranked). is_some (option_map (λ (best : Ranked). best.1) row)) is

  pub past_row : (blocks : List Block) (bound : List ℕ) (inclusive : Bool) (row : ValueRow) → IsNextRow (value_row blocks) bound inclusive row →
      filter (is_past bound inclusive) (valued_keys blocks) ≡ row.key ∷ filter (is_past row.key false) (valued_keys blocks)
  past_row blocks bound inclusive row next =
      first_past bound inclusive row.key (valued_keys blocks) (sorted blocks) next.past (λ other past below there. no_row blocks other (next.least other past below) there) (row_there blocks row.key (row.priority, row.value) next.is_value)

  by_test : (blocks : List Block) (prefix bound : List ℕ) (inclusive : Bool) (row : ValueRow) (b : Bool) → is_under prefix row.key ≡ b → is_past (start_of prefix) true bound ≡ true →
      IsNextRow (value_row blocks) bound inclusive row → IsNextUnder blocks prefix bound inclusive (cond b (Some row) None)
  by_test blocks prefix bound inclusive row true under from next = (
    ap (filter (is_under prefix)) (past_row blocks bound inclusive row next) ∙ ap (λ b. cond b (row.key ∷ left_of blocks prefix row.key false) (left_of blocks prefix row.key false)) under,
    ap (option_map (λ (best : Ranked). best.1)) next.is_value,
  )
  by_test blocks prefix bound inclusive row false under from next =
      ap (filter (is_under prefix)) (past_row blocks bound inclusive row next) ∙ ap (λ b. cond b (row.key ∷ left_of blocks prefix row.key false) (left_of blocks prefix row.key false)) under
      ∙ none_left_after blocks prefix row.key (past_bound (start_of prefix) bound inclusive row.key from next.past) under

  -- the row past a bound, where the prefix selects it, is the first of the keys that are left
  pub next_is : (blocks : List Block) (prefix bound : List ℕ) (inclusive : Bool) (row : Option ValueRow) → is_past (start_of prefix) true bound ≡ true →
      IsNext blocks bound inclusive row → IsNextUnder blocks prefix bound inclusive (selected prefix row)
  next_is blocks prefix bound inclusive None from none =
      ap (filter (is_under prefix)) (none_past bound inclusive (valued_keys blocks) (λ key past there. no_row blocks key (none key past) there))
  next_is blocks prefix bound inclusive (Some row) from next = by_test blocks prefix bound inclusive row (is_under prefix row.key) refl from next

-- what holds of what is told
pub told_so : {A : Type 0} {P Q : A → Type 0} (told : Option A) → IfSome told P → ((kept : A) → P kept → Q kept) → IfSome told Q
told_so None holds so = holds
told_so (Some kept) holds so = so kept holds

-- a selected row is past the start
pub selected_from : (prefix : List ℕ) (row : Option ValueRow) → IfSome (selected prefix row) (λ row. is_past (start_of prefix) true row.key ≡ true)
selected_from prefix None = tt
selected_from prefix (Some row) = (elim (is_under prefix row.key) as (λ b. is_under prefix row.key ≡ b → IfSome (cond b (Some row) None) (λ row. is_past (start_of prefix) true row.key ≡ true)) [
  | true ↦ λ e. selected_past prefix row.key e
  | false ↦ λ e. tt
]) refl

-- a row that was looked for past a bound is past it
pub next_past : (blocks : List Block) (bound : List ℕ) (inclusive : Bool) (row : Option ValueRow) → IsNext blocks bound inclusive row → row_past bound inclusive row ≡ row
next_past blocks bound inclusive None none = refl
next_past blocks bound inclusive (Some row) next = ap (λ b. cond b (Some row) None) next.past

-- what a test lets through passes it
passes : (test : List ℕ → Bool) (row : ValueRow) (b : Bool) → test row.key ≡ b → IfSome (cond b (Some row) None) (λ row. test row.key ≡ true)
passes test row true is = is
passes test row false is = tt

pub selected_under : (prefix : List ℕ) (row : Option ValueRow) → IfSome (selected prefix row) (λ row. is_under prefix row.key ≡ true)
selected_under prefix None = tt
selected_under prefix (Some row) = passes (is_under prefix) row (is_under prefix row.key) refl

still_past : (prefix : List ℕ) (test : List ℕ → Bool) (row : Option ValueRow) → IfSome row (λ row. test row.key ≡ true) → IfSome (selected prefix row) (λ row. test row.key ≡ true)
still_past prefix test None past = tt
still_past prefix test (Some row) past = elim (is_under prefix row.key) as (λ b. IfSome (cond b (Some row) None) (λ row. test row.key ≡ true)) [
  | true ↦ past
  | false ↦ tt
]

-- a selected row that was looked at is past the bound
pub selected_beyond : (prefix bound : List ℕ) (inclusive : Bool) (row : Option ValueRow) → IfSome (selected prefix (row_past bound inclusive row)) (λ row. is_past bound inclusive row.key ≡ true)
selected_beyond prefix bound inclusive None = tt
selected_beyond prefix bound inclusive (Some row) =
    still_past prefix (is_past bound inclusive) (row_past bound inclusive (Some row)) (passes (is_past bound inclusive) row (is_past bound inclusive row.key) refl)
