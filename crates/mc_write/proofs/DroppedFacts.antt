-- The deleted keys of a batch after more were added.
use Rattle.std.proofs.Common.{◌≡◌, ◌≢◌, ℕ, suc, length, arith, Bool, true, false, cond, ◌||◌, List, [], ◌∷◌, ◌++◌, map, Some, sym, refl, ap, ◌∙◌, subst}
use Rattle.std.specs.Option.{unwrap_or}
use Rattle.std.proofs.lemmas.List.{append-nil}
use Rattle.std.proofs.lemmas.List.Folds.{list_any-append}
use Rattle.std.specs.Global.{Global}
use Rattle.std.specs.declared.string.String.{String}
use Rattle.std.specs.String.{string_bytes, string_cmp}
use Rattle.std.specs.BTreeMap.{insert_entry, is_at}
use Rattle.std.specs.Map.{keys_of, lookup}
use Rattle.std.specs.List.{list_any, AllByRecursion, dedup, dedup_from}
use Rattle.std.specs.List.Sorted.{IsStrictlySortedBy, IsSorted, IsPermutation}
use Rattle.std.specs.List.Retain.{IsFiltered, DiffersFromLast}
use Rattle.std.proofs.lemmas.List.Filters.{dedup_is}
use Rattle.std.specs.Cmp.{IsTotalOrder}
use Rattle.std.specs.Cmp.Lexicographic.{slice_cmp}
use Rattle.std.specs.Ordering.{nat_cmp, is_eq, match_ordering, ordering_then, eq_by_cmp}
use Rattle.std.specs.declared.cmp.Ordering.TheVariants.{Less, Equal, Greater}
use Rattle.std.proofs.lemmas.Cmp.{nat_list_cmp_total, tied_itself, then_total, on_total}
use Rattle.mc_base.specs.declared.cid.Cid.{Cid}
use Rattle.mc_base.proofs.Orders.{then_equal}
use Rattle.mc_model.specs.Ascending.{ascending, Ascends}
use Rattle.mc_model.specs.Batch.{Deleted, deleted_cmp}
use Rattle.mc_model.specs.Cuts.{Pair}
use Rattle.mc_model.specs.Front.{same_cid}
use Rattle.mc_model.specs.SameMembers.{SameMembers}
use Rattle.mc_model.proofs.Ascending.{ascends_is}
use Rattle.mc_model.proofs.Members.{list_any-map}
use Rattle.std.specs.Prelude.{IsTrue, ◌↔◌}
use Rattle.std.proofs.Math.Bool.{or-true, or-false}
use Rattle.std.proofs.lemmas.Map.Lookups.{exact_bytes}
use Rattle.mc_model.specs.Batch.{is_nil, is_empty_batch}
use Rattle.mc_write.specs.declared.pair.Pair.{Pair as Own}
use Rattle.mc_write.specs.Pairs.{all_seen}
use Rattle.mc_write.specs.Held.{Put, elements_in, Dropped, deleted_of, deleted_in, cid_cmp, AreHeld}
use Rattle.mc_write.proofs.ElementFacts.{bytes_same}
use Rattle.mc_model.proofs.SortFacts.{sorted_once}

-- orders

pub cid_total : IsTotalOrder cid_cmp
cid_total = on_total (λ (cid : Cid). cid.0) nat_list_cmp_total

pub cid_tied : (x y : Cid) → cid_cmp x y ≡ Equal → x ≡ y
cid_tied x y e = ap (λ (bytes : List ℕ). record { 0 = bytes }) (exact_bytes x.0 y.0 e)

deleted_total : IsTotalOrder deleted_cmp
deleted_total = then_total (on_total (λ (d : Deleted). d.0) nat_list_cmp_total) (on_total (λ (d : Deleted). d.1.0) nat_list_cmp_total)

deleted_tied : (x y : Deleted) → deleted_cmp x y ≡ Equal → x ≡ y
deleted_tied x y e =
    let parts = then_equal (slice_cmp nat_cmp x.0 y.0) (slice_cmp nat_cmp x.1.0 y.1.0) e in
    let key : x.0 ≡ y.0 = exact_bytes x.0 y.0 parts.0 in
    let bytes : x.1.0 ≡ y.1.0 = exact_bytes x.1.0 y.1.0 parts.1 in
    λ i. (key i, record { 0 = bytes i })

-- identifiers in order, each once

same_test : (x y : Cid) → same_cid x y ≡ eq_by_cmp cid_cmp x y
same_test x y = bytes_same x.0 y.0

dedup_alike : (cid : Cid) (cids : List Cid) → dedup_from same_cid cid cids ≡ dedup_from (eq_by_cmp cid_cmp) cid cids
dedup_alike cid [] = refl
dedup_alike cid (next ∷ cids) =
    ap (λ t. cond t (dedup_from same_cid cid cids) (cid ∷ dedup_from same_cid next cids)) (same_test next cid)
    ∙ ap (λ rest. cond (eq_by_cmp cid_cmp next cid) rest (cid ∷ dedup_from same_cid next cids)) (dedup_alike cid cids)
    ∙ ap (λ rest. cond (eq_by_cmp cid_cmp next cid) (dedup_from (eq_by_cmp cid_cmp) cid cids) (cid ∷ rest)) (dedup_alike next cids)

dedup_same : (cids : List Cid) → dedup same_cid cids ≡ dedup (eq_by_cmp cid_cmp) cids
dedup_same [] = refl
dedup_same (cid ∷ cids) = dedup_alike cid cids

pub cids_once : (cids sorted once : List Cid) → IsPermutation cids sorted → IsSorted cid_cmp sorted → IsFiltered (DiffersFromLast same_cid) [] sorted once → Ascends cid_cmp once cids
cids_once cids sorted once moved order filtered =
    subst (λ (z : List Cid). Ascends cid_cmp z cids) (sym (dedup_is same_cid sorted once filtered ∙ dedup_same sorted)) (sorted_once cid_cmp cid_total cid_tied cids sorted moved order)

-- the order of all deleted keys

all_below : (key : List ℕ) (cid : Cid) (cids : List Cid) (rest : List Deleted) → AllByRecursion (λ other. cid_cmp cid other ≡ Less) cids → AllByRecursion (λ (d : Deleted). slice_cmp nat_cmp key d.0 ≡ Less) rest
    → AllByRecursion (λ d. deleted_cmp (key, cid) d ≡ Less) (map (λ (c : Cid). (key, c)) cids ++ rest)
all_below key cid [] [] below above = below
all_below key cid [] (d ∷ rest) below above = (ap (λ o. ordering_then o (slice_cmp nat_cmp cid.0 d.1.0)) above.0, all_below key cid [] rest below above.1)
all_below key cid (c ∷ cids) rest below above =
    (ap (λ o. ordering_then o (slice_cmp nat_cmp cid.0 c.0)) (tied_itself nat_list_cmp_total key) ∙ below.0, all_below key cid cids rest below.1 above)

one_sorted : (key : List ℕ) (cids : List Cid) (rest : List Deleted) → IsStrictlySortedBy cid_cmp cids → IsStrictlySortedBy deleted_cmp rest → AllByRecursion (λ (d : Deleted). slice_cmp nat_cmp key d.0 ≡ Less) rest
    → IsStrictlySortedBy deleted_cmp (map (λ (c : Cid). (key, c)) cids ++ rest)
unfolding IsStrictlySortedBy
one_sorted key [] rest sorted s above = s
one_sorted key (cid ∷ cids) rest sorted s above = (all_below key cid cids rest sorted.0 above, one_sorted key cids rest sorted.1 s above)

all_of_key : (key other : List ℕ) (cids : List Cid) (rest : List Deleted) → slice_cmp nat_cmp key other ≡ Less → AllByRecursion (λ (d : Deleted). slice_cmp nat_cmp key d.0 ≡ Less) rest
    → AllByRecursion (λ (d : Deleted). slice_cmp nat_cmp key d.0 ≡ Less) (map (λ (c : Cid). (other, c)) cids ++ rest)
all_of_key key other [] rest e all = all
all_of_key key other (c ∷ cids) rest e all = (e, all_of_key key other cids rest e all)

keys_above : (key : String Global) (entries : List Dropped) → AllByRecursion (λ other. string_cmp key other ≡ Less) (keys_of entries) → AllByRecursion (λ (d : Deleted). slice_cmp nat_cmp (string_bytes key) d.0 ≡ Less) (deleted_in entries)
keys_above key [] all = all
keys_above key (e ∷ es) all = all_of_key (string_bytes key) (string_bytes e.0) e.1 (deleted_in es) all.0 (keys_above key es all.1)

all_sorted : (entries : List Dropped) → IsStrictlySortedBy string_cmp (keys_of entries) → AreHeld entries → IsStrictlySortedBy deleted_cmp (deleted_in entries)
unfolding IsStrictlySortedBy
all_sorted [] sorted held = sorted
all_sorted (e ∷ es) sorted held = one_sorted (string_bytes e.0) e.1 (deleted_in es) held.0.0 (all_sorted es sorted.1 held.1) (keys_above e.0 es sorted.0)

-- an entry more

pub held_put : (entries : List Dropped) (key : String Global) (cids : List Cid) → AreHeld entries → IsStrictlySortedBy cid_cmp cids → cids ≢ [] → AreHeld (insert_entry string_cmp entries key cids)
held_put [] key cids held sorted some = ((sorted, some), held)
held_put (e ∷ es) key cids held sorted some = elim (string_cmp key e.0) as (λ o. AreHeld (match_ordering o ((key, cids) ∷ e ∷ es) ((e.0, cids) ∷ es) (e ∷ insert_entry string_cmp es key cids))) [
  | Less ↦ ((sorted, some), held)
  | Equal ↦ ((sorted, some), held.1)
  | Greater ↦ (held.0, held_put es key cids held.1 sorted some)
]

abbrev any_of : (Deleted → Bool) → List ℕ → List Cid → Bool
any_of test key cids = list_any test (map (λ (c : Cid). (key, c)) cids)

abbrev found : String Global → List Dropped → List Cid
found key entries = unwrap_or (lookup (is_at (string_cmp key)) entries) []

within : (a b c : Bool) → (a || c) ≡ c → (a || (b || c)) ≡ (b || c)
within true true c e = refl
within true false c e = e
within false b c e = refl

twice : (a b : Bool) → (a || (a || b)) ≡ (a || b)
twice true b = refl
twice false b = refl

-- what a key has is there already
absorbed : (test : Deleted → Bool) (entries : List Dropped) (key : String Global) → (any_of test (string_bytes key) (found key entries) || list_any test (deleted_in entries)) ≡ list_any test (deleted_in entries)
absorbed test [] key = refl
absorbed test (e ∷ es) key =
    ap (λ b. any_of test (string_bytes key) (found key (e ∷ es)) || b) (list_any-append test (deleted_of e) (deleted_in es))
    ∙ (elim (string_cmp key e.0) as (λ o. string_cmp key e.0 ≡ o → (any_of test (string_bytes key) (unwrap_or (cond (is_eq o) (Some e.1) (lookup (is_at (string_cmp key)) es)) []) || (list_any test (deleted_of e) || list_any test (deleted_in es)))
    ≡ (list_any test (deleted_of e) || list_any test (deleted_in es))) [
      | Less ↦ λ t. within _ (list_any test (deleted_of e)) (list_any test (deleted_in es)) (absorbed test es key)
      | Equal ↦ λ t. ap (λ (k : List ℕ). any_of test k e.1 || (list_any test (deleted_of e) || list_any test (deleted_in es))) (exact_bytes (string_bytes key) (string_bytes e.0) t) ∙ twice (list_any test (deleted_of e)) (list_any test (deleted_in es))
      | Greater ↦ λ t. within _ (list_any test (deleted_of e)) (list_any test (deleted_in es)) (absorbed test es key)
    ]) refl
    ∙ sym (list_any-append test (deleted_of e) (deleted_in es))

first_of : (a b c : Bool) → (a || c) ≡ c → ((a || b) || c) ≡ (c || b)
first_of true b true e = refl
first_of true b false e = absurd (let f : true ≡ false = e in cc)
first_of false true true e = refl
first_of false true false e = refl
first_of false false true e = refl
first_of false false false e = refl

middle : (a b c : Bool) → ((a || b) || c) ≡ ((a || c) || b)
middle true b c = refl
middle false true true = refl
middle false true false = refl
middle false false true = refl
middle false false false = refl

later : (a b c : Bool) → (a || (b || c)) ≡ ((a || b) || c)
later true b c = refl
later false b c = refl

-- the blocks of a key are those that it had and more
any_put : (test : Deleted → Bool) (entries : List Dropped) (key : String Global) (cids more : List Cid) → any_of test (string_bytes key) cids ≡ (any_of test (string_bytes key) (found key entries) || any_of test (string_bytes key) more)
    → list_any test (deleted_in (insert_entry string_cmp entries key cids)) ≡ (list_any test (deleted_in entries) || any_of test (string_bytes key) more)
any_put test [] key cids more parts = list_any-append test (map (λ (c : Cid). (string_bytes key, c)) cids) [] ∙ or-false (any_of test (string_bytes key) cids) ∙ parts
any_put test (e ∷ es) key cids more parts =
    (elim (string_cmp key e.0) as (λ o. string_cmp key e.0 ≡ o → any_of test (string_bytes key) cids ≡ (any_of test (string_bytes key) (unwrap_or (cond (is_eq o) (Some e.1) (lookup (is_at (string_cmp key)) es)) []) || any_of test (string_bytes key) more)
    → list_any test (deleted_in (match_ordering o ((key, cids) ∷ e ∷ es) ((e.0, cids) ∷ es) (e ∷ insert_entry string_cmp es key cids))) ≡ ((list_any test (deleted_of e) || list_any test (deleted_in es)) || any_of test (string_bytes key) more)) [
      | Less ↦ λ t p.
          list_any-append test (map (λ (c : Cid). (string_bytes key, c)) cids) (deleted_in (e ∷ es))
          ∙ ap (λ b. b || list_any test (deleted_in (e ∷ es))) p
          ∙ ap (λ b. (any_of test (string_bytes key) (found key es) || any_of test (string_bytes key) more) || b) (list_any-append test (deleted_of e) (deleted_in es))
          ∙ first_of (any_of test (string_bytes key) (found key es)) (any_of test (string_bytes key) more) (list_any test (deleted_of e) || list_any test (deleted_in es))
          (within (any_of test (string_bytes key) (found key es)) (list_any test (deleted_of e)) (list_any test (deleted_in es)) (absorbed test es key))
      | Equal ↦ λ t p.
          let same : string_bytes key ≡ string_bytes e.0 = exact_bytes (string_bytes key) (string_bytes e.0) t in
          list_any-append test (map (λ (c : Cid). (string_bytes e.0, c)) cids) (deleted_in es)
          ∙ ap (λ (k : List ℕ). any_of test k cids || list_any test (deleted_in es)) (sym same)
          ∙ ap (λ b. b || list_any test (deleted_in es)) p
          ∙ ap (λ (k : List ℕ). (any_of test k e.1 || any_of test (string_bytes key) more) || list_any test (deleted_in es)) same
          ∙ middle (list_any test (deleted_of e)) (any_of test (string_bytes key) more) (list_any test (deleted_in es))
      | Greater ↦ λ t p.
          list_any-append test (deleted_of e) (deleted_in (insert_entry string_cmp es key cids))
          ∙ ap (λ b. list_any test (deleted_of e) || b) (any_put test es key cids more p)
          ∙ later (list_any test (deleted_of e)) (list_any test (deleted_in es)) (any_of test (string_bytes key) more)
    ]) refl parts
    ∙ ap (λ b. b || any_of test (string_bytes key) more) (sym (list_any-append test (deleted_of e) (deleted_in es)))

same_of : (test : Deleted → Bool) (key : List ℕ) (cids held more : List Cid) → SameMembers cids (held ++ more) → any_of test key cids ≡ (any_of test key held || any_of test key more)
same_of test key cids held more same =
    list_any-map test (λ (c : Cid). (key, c)) cids ∙ same.same (λ (c : Cid). test (key, c)) ∙ list_any-append (λ (c : Cid). test (key, c)) held more
    ∙ ap (λ b. b || list_any (λ (c : Cid). test (key, c)) more) (sym (list_any-map test (λ (c : Cid). (key, c)) held))
    ∙ ap (λ b. any_of test key held || b) (sym (list_any-map test (λ (c : Cid). (key, c)) more))

abbrev cids_of : List Pair → List Cid
cids_of taken = map (λ (pair : Pair). pair.cid) taken

any_taken : (test : Deleted → Bool) (key : List ℕ) (taken : List Pair) → any_of test key (cids_of taken) ≡ list_any test (map (λ (pair : Pair). (key, pair.cid)) taken)
any_taken test key [] = refl
any_taken test key (pair ∷ taken) = ap (λ b. test (key, pair.cid) || b) (any_taken test key taken)

-- where some are added, there are some
not_none : (held : List Cid) (taken : List Pair) → taken ≢ [] → list_any (λ (c : Cid). true) (held ++ cids_of taken) ≡ true
not_none held [] some = absurd (some refl)
not_none held (pair ∷ taken) some = list_any-append (λ (c : Cid). true) held (cids_of (pair ∷ taken)) ∙ or-true (list_any (λ (c : Cid). true) held)

added_some : (cids held : List Cid) (taken : List Pair) → SameMembers cids (held ++ cids_of taken) → taken ≢ [] → cids ≢ []
added_some cids held taken same some e = absurd (let f : false ≡ true = ap (list_any (λ (c : Cid). true)) (sym e) ∙ same.same (λ (c : Cid). true) ∙ not_none held taken some in cc)

-- what a delete adds to the deleted keys
pub record Added (entries now : List Dropped) (key : List ℕ) (taken : List Pair) : Type 0 where
  pub pairs : deleted_in now ≡ ascending deleted_cmp (deleted_in entries ++ map (λ (pair : Pair). (key, pair.cid)) taken)
  pub held : AreHeld now

pub pairs_added : (entries now : List Dropped) (name : String Global) (key : List ℕ) (cids held : List Cid) (taken : List Pair) → string_bytes name ≡ key → IsStrictlySortedBy string_cmp (keys_of now) → AreHeld entries
    → now ≡ insert_entry string_cmp entries name cids → held ≡ unwrap_or (lookup (is_at (λ (k : String Global). slice_cmp nat_cmp key (string_bytes k))) entries) [] → Ascends cid_cmp cids (held ++ cids_of taken) → taken ≢ []
    → Added entries now key taken
pairs_added entries now name key cids held taken named sorted are_held put held_is merged some =
    let held_found : held ≡ found name entries = held_is ∙ ap (λ (bytes : List ℕ). unwrap_or (lookup (is_at (λ (k : String Global). slice_cmp nat_cmp bytes (string_bytes k))) entries) []) (sym named) in
    let still : AreHeld now = subst AreHeld (sym put) (held_put entries name cids are_held merged.sorted (added_some cids held taken merged.members some)) in
    record {
      pairs = ascends_is deleted_cmp deleted_total deleted_tied (deleted_in now) (deleted_in entries ++ map (λ (pair : Pair). (key, pair.cid)) taken) (record {
        sorted = all_sorted now sorted still;
        members = record {
          same = λ test.
              ap (λ es. list_any test (deleted_in es)) put
              ∙ any_put test entries name cids (cids_of taken) (same_of test (string_bytes name) cids held (cids_of taken) merged.members ∙ ap (λ cs. any_of test (string_bytes name) cs || any_of test (string_bytes name) (cids_of taken)) held_found)
              ∙ ap (λ (bytes : List ℕ). list_any test (deleted_in entries) || any_of test bytes (cids_of taken)) named
              ∙ ap (λ b. list_any test (deleted_in entries) || b) (any_taken test key taken)
              ∙ sym (list_any-append test (deleted_in entries) (map (λ (pair : Pair). (key, pair.cid)) taken));
        };
      });
      held = still;
    }

pub none_added : (entries : List Dropped) → IsStrictlySortedBy string_cmp (keys_of entries) → AreHeld entries → deleted_in entries ≡ ascending deleted_cmp (deleted_in entries ++ [])
none_added entries sorted held = ascends_is deleted_cmp deleted_total deleted_tied (deleted_in entries) (deleted_in entries ++ []) (record {
  sorted = all_sorted entries sorted held;
  members = record { same = λ test. ap (list_any test) (sym (append-nil (deleted_in entries))) };
})

-- no blocks are held where no key is
pub none_held : (entries : List Dropped) → AreHeld entries → deleted_in entries ≡ [] → entries ≡ []
none_held [] held e = refl
none_held (e ∷ es) held none = absurd (held.0.1 (first e.1 none))
  where
    first : (cids : List Cid) → map (λ (c : Cid). (string_bytes e.0, c)) cids ++ deleted_in es ≡ [] → cids ≡ []
    first [] f = refl
    first (c ∷ cids) f = absurd (cc)

pub nothing_added : (entries : List Dropped) (key : List ℕ) (own : List Own) → length own ≡ 0 → IsStrictlySortedBy string_cmp (keys_of entries) → AreHeld entries
    → deleted_in entries ≡ ascending deleted_cmp (deleted_in entries ++ map (λ (pair : Pair). (key, pair.cid)) (all_seen own))
nothing_added entries key [] none sorted held = none_added entries sorted held
nothing_added entries key (pair ∷ own) none sorted held = absurd (omega arith)

pub both_empty : (puts : List Put) (entries : List Dropped) (empty : Bool) → length puts ≡ 0 → IsTrue empty ↔ (length entries ≡ 0) → AreHeld entries → empty ≡ is_empty_batch (record { elements = elements_in puts; pairs = deleted_in entries })
both_empty (put ∷ puts) entries empty no_puts same held = absurd (omega arith)
both_empty [] [] empty no_puts same held = same.1 refl
both_empty [] (e ∷ es) true no_puts same held = absurd (let none : suc (length es) ≡ 0 = same.0 refl in omega arith)
both_empty [] (e ∷ es) false no_puts same held = first e.1 held.0.1
  where
    first : (cids : List Cid) → cids ≢ [] → false ≡ is_nil (map (λ (c : Cid). (string_bytes e.0, c)) cids ++ deleted_in es)
    first [] some = absurd (some refl)
    first (c ∷ cids) some = refl
