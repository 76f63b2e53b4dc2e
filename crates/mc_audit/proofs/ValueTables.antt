-- The value table and the winner table of blocks.
use Rattle.std.proofs.Common.{◌≡◌, ℕ, Bool, true, false, List, [], ◌∷◌, map, Option, Some, None, inl, inr, sym, refl, ap, ◌∙◌}
use Rattle.std.specs.Prelude.{filter, find, is_some}
use Rattle.std.specs.List.{list_any}
use Rattle.std.specs.List.Sorted.{IsStrictlySortedBy}
use Rattle.std.specs.Option.{option_map}
use Rattle.std.specs.Ordering.{nat_cmp}
use Rattle.std.specs.Cmp.Lexicographic.{slice_cmp}
use Rattle.std.specs.Str.{bytes_eq}
use Rattle.std.proofs.lemmas.Bool.{or_cases, or_left, or_right}
use Rattle.std.proofs.lemmas.Cmp.{nat_list_cmp_total}
use Rattle.std.proofs.lemmas.Map.Lookups.{exact_bytes}
use Rattle.std.proofs.lemmas.Slice.Eq.{bytes_eq-Decides}
use Rattle.mc_model.specs.declared.block.Block.{Block}
use Rattle.mc_model.specs.Answers.{valued_keys}
use Rattle.mc_model.specs.Live.{value_row}
use Rattle.mc_model.specs.Rank.{Ranked}
use Rattle.mc_model.specs.SameMembers.{SameMembers}
use Rattle.mc_model.proofs.Ascending.{ascending_fixed}
use Rattle.mc_model.proofs.Members.{list_any-map}
use Rattle.mc_model.proofs.Valued.{valued_sorted, valued_exact}
use Rattle.mc_raw.specs.declared.raw.Row.{Row}
use Rattle.mc_raw.specs.RowTables.{element_lines, value_line, winner_line, value_table, winner_table}
use Rattle.mc_model.specs.Who.{Placed, who}
use Rattle.mc_audit.specs.Values.{top_cmp, tops_in, value_in, winner_in}
use Rattle.mc_audit.proofs.Lives.{is_shown, who_found, value_found}
use Rattle.mc_audit.proofs.Tops.{is_key, placed_row, rank_of, keys_in, find_tops, tops_sorted, own_tops, made_of, any_find}

-- texts that the same look-ups find are the same members

has_text : (test : List ℕ → Bool) (key : List ℕ) (keys : List (List ℕ)) → list_any (λ other. bytes_eq other key) keys ≡ true → test key ≡ true → list_any test keys ≡ true
has_text test key [] e t = absurd (cc)
has_text test key (k ∷ keys) e t = elim (or_cases (bytes_eq k key) (list_any (λ other. bytes_eq other key) keys) e) [
  | inl same ↦ or_left (test k) (list_any test keys) (ap test ((bytes_eq-Decides k key).0 same) ∙ t)
  | inr more ↦ or_right (test k) (list_any test keys) (has_text test key keys more t)
]

one_way : (test : List ℕ → Bool) (xs ys : List (List ℕ)) → ((key : List ℕ) → list_any (λ other. bytes_eq other key) xs ≡ true → list_any (λ other. bytes_eq other key) ys ≡ true) → list_any test xs ≡ true → list_any test ys ≡ true
one_way test [] ys more e = absurd (cc)
one_way test (x ∷ xs) ys more e = elim (or_cases (test x) (list_any test xs) e) [
  | inl here ↦ has_text test x ys (more x (or_left (bytes_eq x x) (list_any (λ other. bytes_eq other x) xs) ((bytes_eq-Decides x x).1 refl))) here
  | inr later ↦ one_way test xs ys (λ key f. more key (or_right (bytes_eq x key) (list_any (λ other. bytes_eq other key) xs) f)) later
]

pub text_members : (xs ys : List (List ℕ)) → ((key : List ℕ) → list_any (λ other. bytes_eq other key) xs ≡ list_any (λ other. bytes_eq other key) ys) → SameMembers xs ys
text_members xs ys same = record {
  same = λ test. both (list_any test xs) (list_any test ys)
      (one_way test xs ys (λ key e. sym (same key) ∙ e))
      (one_way test ys xs (λ key e. same key ∙ e));
}
  where
    both : (p q : Bool) → (p ≡ true → q ≡ true) → (q ≡ true → p ≡ true) → p ≡ q
    both true q f g = sym (f refl)
    both false true f g = g refl
    both false false f g = refl

pub keys_fixed : (xs ys : List (List ℕ)) → IsStrictlySortedBy (slice_cmp nat_cmp) xs → IsStrictlySortedBy (slice_cmp nat_cmp) ys
    → ((key : List ℕ) → list_any (λ other. bytes_eq other key) xs ≡ list_any (λ other. bytes_eq other key) ys) → xs ≡ ys
keys_fixed xs ys s t same = ascending_fixed (slice_cmp nat_cmp) nat_list_cmp_total exact_bytes xs ys s t (text_members xs ys same)

module _ (all : List Block) (rows : List Row) (sorted : IsStrictlySortedBy top_cmp rows) (same : SameMembers rows (filter (is_shown all) (element_lines all))) where
  found_some : {A B : Type 0} (f : A → B) (found : Option A) → is_some (option_map f found) ≡ is_some found
  found_some f None = refl
  found_some f (Some x) = refl

  keys_are : keys_in (tops_in rows) ≡ valued_keys all
  keys_are = keys_fixed (keys_in (tops_in rows)) (valued_keys all) (tops_sorted rows sorted) (valued_sorted all) (λ key.
      list_any-map (λ other. bytes_eq other key) (λ (row : Row). row.a) (tops_in rows)
      ∙ any_find (is_key key) (tops_in rows)
      ∙ ap is_some (find_tops key rows)
      ∙ sym (found_some rank_of (find (is_key key) rows))
      ∙ sym (ap is_some (value_found all rows sorted same key))
      ∙ sym (found_some (λ (best : Ranked). best.1) (value_row all key))
      ∙ sym (valued_exact all key))

  abbrev line_of : List ℕ → Option Row → Row
  line_of key found = value_line key (option_map rank_of found)

  abbrev winner_of : List ℕ → Option Row → Row
  winner_of key found = winner_line key (option_map (λ (p : Placed). p.1) (option_map placed_row found))

  agree : {A : Type 0} (f g : List ℕ → A) → ((key : List ℕ) → f key ≡ g key) → (keys : List (List ℕ)) → map f keys ≡ map g keys
  agree f g h [] = refl
  agree f g h (key ∷ keys) = ap (λ first. first ∷ map f keys) (h key) ∙ ap (λ rest. g key ∷ rest) (agree f g h keys)

  pub values_are : map value_in (tops_in rows) ≡ value_table all
  values_are =
      made_of line_of value_in (tops_in rows) (tops_in rows) (λ row. refl) (own_tops (tops_in rows) (tops_sorted rows sorted))
      ∙ ap (map (λ key. line_of key (find (is_key key) (tops_in rows)))) keys_are
      ∙ agree (λ key. line_of key (find (is_key key) (tops_in rows))) (λ key. value_line key (value_row all key))
      (λ key. ap (line_of key) (find_tops key rows) ∙ ap (value_line key) (sym (value_found all rows sorted same key))) (valued_keys all)

  pub winners_are : map winner_in (tops_in rows) ≡ winner_table all
  winners_are =
      made_of winner_of winner_in (tops_in rows) (tops_in rows) (λ row. refl) (own_tops (tops_in rows) (tops_sorted rows sorted))
      ∙ ap (map (λ key. winner_of key (find (is_key key) (tops_in rows)))) keys_are
      ∙ agree (λ key. winner_of key (find (is_key key) (tops_in rows))) (λ key. winner_line key (who all key))
      (λ key. ap (winner_of key) (find_tops key rows) ∙ ap (λ (top : Option Placed). winner_line key (option_map (λ (p : Placed). p.1) top)) (sym (who_found all rows sorted same key))) (valued_keys all)
