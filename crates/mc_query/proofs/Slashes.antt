-- Slashes at the end of a prefix, and with what the keys that it selects begin.
use Rattle.std.proofs.Common.{◌≡◌, ℕ, ◌-◌, true, false, List, [], ◌∷◌, ◌++◌, length, take, drop, refl, sym, ap, ◌∙◌, arith, ◌==◌, Some, None, Option}
use Rattle.std.proofs.Math.Dec.{eqb}
use Rattle.std.proofs.Math.Seq.{drop-length}
use Rattle.std.proofs.lemmas.Bool.{eqb-true, false≢true}
use Rattle.std.proofs.lemmas.Bool.Decides.{Decides-eqb}
use Rattle.std.proofs.lemmas.List.{take-append-drop}
use Rattle.std.proofs.lemmas.Slice.Eq.{starts_is}
use Rattle.std.specs.Bool.{if◌then◌else◌}
use Rattle.std.specs.Prelude.{nat_eq, IfSome}
use Rattle.std.specs.List.{starts_with}
use Rattle.std.specs.Str.Pattern.{FindsCharSuffix, CutsSuffixes, IsTrimEndMatches}
use Rattle.mc_key.specs.Prefix.{is_below, is_under, onto_trimmed, without_slashes}
use Rattle.mc_query.specs.Places.{with_slash, start_of}

-- a slash at the end doesn't count
slash_dropped : (text : List ℕ) → without_slashes (text ++ 47 ∷ []) ≡ without_slashes text
slash_dropped [] = refl
slash_dropped (byte ∷ text) = ap (onto_trimmed byte) (slash_dropped text)

-- without a slash at the end nothing is dropped
all_kept : (text : List ℕ) → ((front : List ℕ) → text ≡ front ++ 47 ∷ [] → ⊥) → without_slashes text ≡ text
all_kept [] none = refl
all_kept (byte ∷ []) none = (elim (eqb byte 47) as (λ b. eqb byte 47 ≡ b → (if b then [] else (byte ∷ [])) ≡ byte ∷ []) [
  | true ↦ λ e. absurd (none [] (ap (λ (last : ℕ). last ∷ []) (eqb-true byte 47 e)))
  | false ↦ λ e. refl
]) refl
all_kept (byte ∷ next ∷ text) none = ap (onto_trimmed byte) (all_kept (next ∷ text) (λ front e. none (byte ∷ front) (ap (λ (rest : List ℕ). byte ∷ rest) e)))

-- what one cut leaves
cut_is : (text : List ℕ) (n : ℕ) → FindsCharSuffix 47 text (Some n) → text ≡ take (length text - n) text ++ 47 ∷ []
unfolding lib.Utf8.encode
cut_is text n cut =
    sym (take-append-drop (length text - n) text)
    ∙ ap (λ (rest : List ℕ). take (length text - n) text ++ rest) (cut.1.split ∙ ap (λ (rest : List ℕ). 47 ∷ rest) (drop-length text))

cuts_dropped : (text : List ℕ) (cuts : List ℕ) (rest : List ℕ) → CutsSuffixes (FindsCharSuffix 47) text cuts rest → without_slashes rest ≡ without_slashes text
cuts_dropped text [] rest cut = ap without_slashes cut
cuts_dropped text (n ∷ cuts) rest cut =
    let whole : cut.0 ≡ rest ++ 47 ∷ [] = cut_is cut.0 n cut.2 ∙ ap (λ (front : List ℕ). front ++ 47 ∷ []) (sym cut.3) in
    sym (slash_dropped rest) ∙ ap without_slashes (sym whole) ∙ cuts_dropped text cuts cut.0 cut.1

none_left : (text : List ℕ) (o : Option ℕ) → FindsCharSuffix 47 text o → IfSome o (λ n. n ≡ 0) → without_slashes text ≡ text
unfolding lib.Utf8.encode
none_left text None none empty = all_kept text none
none_left text (Some n) found empty = absurd (omega (arith, empty, found.0))

pub trimmed : (text rest : List ℕ) → IsTrimEndMatches (FindsCharSuffix 47) text rest → rest ≡ without_slashes text
trimmed text rest is = sym (none_left rest is.1.0 is.1.1 is.1.2) ∙ cuts_dropped text is.0.0 rest is.0.1

-- nothing stays nothing, and else a slash comes after
pub slash_after : (text : List ℕ) → (length text == 0) ≡ false → text ++ 47 ∷ [] ≡ with_slash text
slash_after [] some = absurd (false≢true (sym some))
slash_after (byte ∷ text) some = refl

pub slash_none : (text : List ℕ) → length text ≡ 0 → [] ≡ with_slash text
slash_none [] none = refl
slash_none (byte ∷ text) none = absurd (omega arith)

below_is : (text key : List ℕ) → is_below text key ≡ starts_with nat_eq key (with_slash text)
below_is [] [] = refl
below_is [] (byte ∷ key) = refl
below_is (byte ∷ text) key = refl

-- a key that is selected is the start and more
pub selected_is : (prefix key : List ℕ) → is_under prefix key ≡ true → (rest : List ℕ) × (key ≡ start_of prefix ++ rest)
selected_is prefix key under =
    (drop (length (start_of prefix)) key, (starts_is Decides-eqb key (start_of prefix) (starts_with nat_eq key (start_of prefix)) refl).0 (sym (below_is (without_slashes prefix) key) ∙ under))

-- and such a key is selected
pub is_selected : (prefix key rest : List ℕ) → key ≡ start_of prefix ++ rest → is_under prefix key ≡ true
is_selected prefix key rest is =
    below_is (without_slashes prefix) key ∙ (starts_is Decides-eqb key (start_of prefix) (starts_with nat_eq key (start_of prefix)) refl).1 rest is
