-- Slashes at the end of a prefix, and keys below it.
use Rattle.std.proofs.Common.{◌≡◌, ◌≢◌, ℕ, zero, suc, ◌+◌, ◌-◌, ◌<◌, ◌≤◌, ◌⊎◌, inl, inr, Bool, true, false, List, [], ◌∷◌, ◌++◌, length, get_or, take, drop, append_assoc, refl, sym, ap, ◌∙◌, arith}
use Rattle.std.specs.Prelude.{nat_eq}
use Rattle.std.specs.List.{starts_with}
use Rattle.std.proofs.lemmas.Bool.{ne_eqb}
use Rattle.std.proofs.lemmas.Bool.Decides.{Decides-eqb}
use Rattle.std.specs.Cmp.Lexicographic.{pointwise}
use Rattle.std.proofs.Math.Seq.{take-append_seam}
use Rattle.std.proofs.lemmas.List.{append_cancel_left, take-append-drop}
use Rattle.std.proofs.lemmas.Slice.Eq.{bytes_eq-Decides, starts_is}
use Rattle.mc_base.proofs.Booleans.{same_truth}
use Rattle.mc_key.specs.Prefix.{is_below, is_under, onto_trimmed, without_slashes}

-- a slash at the end doesn't count
drop_slash : (text : List ℕ) (k : ℕ) → length text ≡ k + 1 → get_or text k 0 ≡ 47 → without_slashes (take k text) ≡ without_slashes text
drop_slash [] k len last = absurd (omega arith)
drop_slash (byte ∷ []) zero len last = rw last refl
drop_slash (byte ∷ []) (suc k) len last = absurd (omega arith)
drop_slash (byte ∷ next ∷ text) zero len last = absurd (omega arith)
drop_slash (byte ∷ next ∷ text) (suc k) len last = ap (onto_trimmed byte) (drop_slash (next ∷ text) k (omega arith) last)

pub slash_dropped : (text : List ℕ) → 1 ≤ length text → get_or text (length text - 1) 0 ≡ 47 → without_slashes (take (length text - 1) text) ≡ without_slashes text
slash_dropped text some last = drop_slash text (length text - 1) (omega arith) last

-- without a slash at the end nothing is dropped
keep : (text : List ℕ) (k : ℕ) → length text ≡ k + 1 → get_or text k 0 ≢ 47 → without_slashes text ≡ text
keep [] k len last = refl
keep (byte ∷ []) zero len last = rw (ne_eqb byte 47 last) refl
keep (byte ∷ []) (suc k) len last = absurd (omega arith)
keep (byte ∷ next ∷ text) zero len last = absurd (omega arith)
keep (byte ∷ next ∷ text) (suc k) len last = ap (onto_trimmed byte) (keep (next ∷ text) k (omega arith) last)

pub all_kept : (text : List ℕ) → (length text ≡ 0) ⊎ (get_or text (length text - 1) 0 ≢ 47) → without_slashes text ≡ text
all_kept [] last = refl
all_kept (byte ∷ text) (inl none) = absurd (omega arith)
all_kept (byte ∷ text) (inr last) = keep (byte ∷ text) (length (byte ∷ text) - 1) (omega arith) last

-- nothing selects every key
pub below_nothing : (text key : List ℕ) → length text ≡ 0 → true ≡ is_below text key
below_nothing [] key none = refl
below_nothing (byte ∷ text) key none = absurd (omega arith)

begins_with : (text key : List ℕ) → 0 < length text → is_below text key ≡ starts_with nat_eq key (text ++ 47 ∷ [])
begins_with [] key some = absurd (omega arith)
begins_with (byte ∷ text) key some = refl

by_test : (b : Bool) → (b ≡ true → ⊥) → false ≡ b
by_test true no_way = absurd (no_way refl)
by_test false no_way = refl

-- a key that begins with the text lies below it where a slash comes next
below_rest : (text key rest : List ℕ) → 0 < length text → key ≡ text ++ rest → starts_with nat_eq rest (47 ∷ []) ≡ is_below text key
below_rest text key rest some is =
    let starts = starts_is Decides-eqb key (text ++ 47 ∷ []) (starts_with nat_eq key (text ++ 47 ∷ [])) refl in
    let next = starts_is Decides-eqb rest (47 ∷ []) (starts_with nat_eq rest (47 ∷ [])) refl in
    same_truth (starts_with nat_eq rest (47 ∷ [])) (is_below text key)
    (λ (slash : starts_with nat_eq rest (47 ∷ []) ≡ true). begins_with text key some ∙ starts.1 (drop 1 rest) (is ∙ ap (λ (more : List ℕ). text ++ more) (next.0 slash) ∙ sym (append_assoc text (47 ∷ []) (drop 1 rest))))
    (λ (below : is_below text key ≡ true). next.1 (drop (length (text ++ 47 ∷ [])) key) (append_cancel_left text rest (47 ∷ drop (length (text ++ 47 ∷ [])) key) (sym is ∙ starts.0 (sym (begins_with text key some) ∙ below) ∙ append_assoc text (47 ∷ []) (drop (length (text ++ 47 ∷ [])) key))))

-- what `strip_prefix` says
stripped : (text key rest : List ℕ) → pointwise nat_eq (take (length text) key) text ≡ true → rest ≡ drop (length text) key → key ≡ text ++ rest
stripped text key rest same is = sym (take-append-drop (length text) key) ∙ ap (λ (front : List ℕ). front ++ drop (length text) key) ((bytes_eq-Decides (take (length text) key) text).0 same) ∙ ap (λ (more : List ℕ). text ++ more) (sym is)

not_stripped : (text key : List ℕ) → pointwise nat_eq (take (length text) key) text ≡ false → (rest : List ℕ) → key ≡ text ++ rest → ⊥
not_stripped text key other rest is =
    let front : take (length text) key ≡ text = rw is (take-append_seam text rest) in
    let same = (bytes_eq-Decides (take (length text) key) text).1 front in
    absurd (cc)

-- a key that doesn't begin with the text
below_none : (text key : List ℕ) → 0 < length text → ((rest : List ℕ) → key ≡ text ++ rest → ⊥) → false ≡ is_below text key
below_none text key some none =
    let starts = starts_is Decides-eqb key (text ++ 47 ∷ []) (starts_with nat_eq key (text ++ 47 ∷ [])) refl in
    by_test (is_below text key) (λ (yes_it_is : is_below text key ≡ true). none (47 ∷ drop (length (text ++ 47 ∷ [])) key) (starts.0 (sym (begins_with text key some) ∙ yes_it_is) ∙ append_assoc text (47 ∷ []) (drop (length (text ++ 47 ∷ [])) key)))

-- the same in the steps of the code
pub under_some : (prefix bytes text key key_bytes rest : List ℕ) (answer : Bool) → bytes ≡ prefix → key_bytes ≡ key → text ≡ without_slashes bytes → 0 < length text
    → pointwise nat_eq (take (length text) key_bytes) text ≡ true → rest ≡ drop (length text) key_bytes → answer ≡ starts_with nat_eq rest (47 ∷ []) → answer ≡ is_under prefix key
under_some prefix bytes text key key_bytes rest answer same same_key is some begins is_rest tells =
    tells ∙ below_rest text key_bytes rest some (stripped text key_bytes rest begins is_rest) ∙ rw (is, same, same_key) refl

pub under_none : (prefix bytes text key key_bytes : List ℕ) → bytes ≡ prefix → key_bytes ≡ key → text ≡ without_slashes bytes → 0 < length text
    → pointwise nat_eq (take (length text) key_bytes) text ≡ false → false ≡ is_under prefix key
under_none prefix bytes text key key_bytes same same_key is some begins =
    below_none text key_bytes some (not_stripped text key_bytes begins) ∙ rw (is, same, same_key) refl
