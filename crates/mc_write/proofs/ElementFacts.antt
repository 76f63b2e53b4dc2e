-- The elements of a batch after a put and a drop.
use Rattle.std.proofs.Common.{◌≡◌, ℕ, Bool, true, false, cond, not, List, [], ◌∷◌, sym, refl, ap, ◌∙◌, subst}
use Rattle.std.specs.Prelude.{filter}
use Rattle.std.specs.Global.{Global}
use Rattle.std.specs.declared.string.String.{String}
use Rattle.std.specs.String.{string_bytes, string_cmp}
use Rattle.std.specs.BTreeMap.{insert_entry, is_at}
use Rattle.std.specs.Map.{keys_of, remove_entry}
use Rattle.std.specs.List.{AllByRecursion}
use Rattle.std.specs.List.Sorted.{IsStrictlySortedBy}
use Rattle.std.specs.Str.{bytes_eq}
use Rattle.std.specs.Cmp.Lexicographic.{slice_cmp}
use Rattle.std.specs.Ordering.{nat_cmp, is_eq, match_ordering}
use Rattle.std.specs.declared.cmp.Ordering.TheVariants.{Less, Equal, Greater}
use Rattle.std.proofs.lemmas.Cmp.{nat_list_cmp_total, tied_itself}
use Rattle.std.specs.Cmp.{Equal-is}
use Rattle.std.proofs.lemmas.Map.Lookups.{exact_bytes}
use Rattle.mc_base.specs.declared.cid.Cid.{Cid}
use Rattle.mc_base.proofs.Booleans.{same_truth}
use Rattle.mc_model.specs.Batch.{put_element}
use Rattle.mc_model.specs.declared.delta.Element.{Element}
use Rattle.mc_model.proofs.Counts.{cid_is, cid_itself}
use Rattle.mc_write.specs.Held.{Put, element_in, elements_in}

abbrev digest : List ℕ → Cid
digest bytes = record { 0 = bytes }

-- the two tests of bytes agree
pub bytes_test : (v w : List ℕ) → bytes_eq v w ≡ is_eq (slice_cmp nat_cmp w v)
bytes_test v w = same_truth (bytes_eq v w) (is_eq (slice_cmp nat_cmp w v))
    (λ e. ap (λ (c : Cid). is_eq (slice_cmp nat_cmp w c.0)) (cid_is (digest v) (digest w) e) ∙ ap is_eq (tied_itself nat_list_cmp_total w))
    (λ e. subst (λ (z : List ℕ). bytes_eq v z ≡ true) (sym (exact_bytes w v ((Equal-is (slice_cmp nat_cmp w v)).0 e))) (cid_itself (digest v)))

pub bytes_same : (v w : List ℕ) → bytes_eq v w ≡ is_eq (slice_cmp nat_cmp v w)
bytes_same v w = same_truth (bytes_eq v w) (is_eq (slice_cmp nat_cmp v w))
    (λ e. ap (λ (c : Cid). is_eq (slice_cmp nat_cmp v c.0)) (sym (cid_is (digest v) (digest w) e)) ∙ ap is_eq (tied_itself nat_list_cmp_total v))
    (λ e. subst (λ (z : List ℕ). bytes_eq v z ≡ true) (exact_bytes v w ((Equal-is (slice_cmp nat_cmp v w)).0 e)) (cid_itself (digest v)))

abbrev made : List ℕ → List ℕ → Element
made key value = record { key = key; value = value }

pub elements_put : (entries : List Put) (key : String Global) (value : List ℕ) → elements_in (insert_entry string_cmp entries key value) ≡ put_element (made (string_bytes key) value) (elements_in entries)
elements_put [] key value = refl
elements_put (e ∷ es) key value = (elim (string_cmp key e.0) as (λ o. string_cmp key e.0 ≡ o
    → elements_in (match_ordering o ((key, value) ∷ e ∷ es) ((e.0, value) ∷ es) (e ∷ insert_entry string_cmp es key value))
    ≡ elim o [ Less ↦ made (string_bytes key) value ∷ element_in e ∷ elements_in es | Equal ↦ made (string_bytes key) value ∷ elements_in es | Greater ↦ element_in e ∷ put_element (made (string_bytes key) value) (elements_in es) ]) [
      | Less ↦ λ t. refl
      | Equal ↦ λ t. ap (λ (bytes : List ℕ). made bytes value ∷ elements_in es) (sym (exact_bytes (string_bytes key) (string_bytes e.0) t))
      | Greater ↦ λ t. ap (λ rest. element_in e ∷ rest) (elements_put es key value)
    ]) refl

abbrev keep : List ℕ → Element → Bool
keep key element = not (bytes_eq element.key key)

-- the elements above a key are all kept
all_kept : (key : List ℕ) (first : String Global) (entries : List Put) → key ≡ string_bytes first → AllByRecursion (λ other. string_cmp first other ≡ Less) (keys_of entries) → elements_in entries ≡ filter (keep key) (elements_in entries)
all_kept key first [] same below = refl
all_kept key first (e ∷ es) same below =
    let kept : keep key (element_in e) ≡ true = ap not (bytes_test (string_bytes e.0) key ∙ ap (λ (z : List ℕ). is_eq (slice_cmp nat_cmp z (string_bytes e.0))) same ∙ ap is_eq below.0) in
    ap (λ rest. element_in e ∷ rest) (all_kept key first es same below.1)
    ∙ ap (λ t. cond t (element_in e ∷ filter (keep key) (elements_in es)) (filter (keep key) (elements_in es))) (sym kept)

pub elements_drop : (key : List ℕ) (entries : List Put) → IsStrictlySortedBy string_cmp (keys_of entries)
    → elements_in (remove_entry (is_at (λ (k : String Global). slice_cmp nat_cmp key (string_bytes k))) entries) ≡ filter (keep key) (elements_in entries)
unfolding IsStrictlySortedBy
elements_drop key [] sorted = refl
elements_drop key (e ∷ es) sorted =
    (elim (is_eq (slice_cmp nat_cmp key (string_bytes e.0))) as (λ t. is_eq (slice_cmp nat_cmp key (string_bytes e.0)) ≡ t
    → elements_in (cond t es (e ∷ remove_entry (is_at (λ (k : String Global). slice_cmp nat_cmp key (string_bytes k))) es))
    ≡ cond (not t) (element_in e ∷ filter (keep key) (elements_in es)) (filter (keep key) (elements_in es))) [
      | true ↦ λ s. all_kept key e.0 es (exact_bytes key (string_bytes e.0) ((Equal-is (slice_cmp nat_cmp key (string_bytes e.0))).0 s)) sorted.0
      | false ↦ λ s. ap (λ rest. element_in e ∷ rest) (elements_drop key es sorted.1)
    ]) refl
    ∙ ap (λ t. cond (not t) (element_in e ∷ filter (keep key) (elements_in es)) (filter (keep key) (elements_in es))) (sym (bytes_test (string_bytes e.0) key))
