-- The order of the blocks that a drain adds: each was wanted, or is linked by one before it.
use Rattle.std.proofs.Common.{◌≡◌, refl, Bool, true, List, [], ◌∷◌, ◌++◌, ◌||◌, sym, ap, ◌∙◌, subst, inl, inr}
use Rattle.std.proofs.lemmas.List.{append_assoc, append-nil}
use Rattle.std.proofs.lemmas.List.Concat.{flat_map-append}
use Rattle.std.proofs.lemmas.Bool.{and_from, and_parts, or_right, or_left, or_cases}
use Rattle.mc_base.specs.declared.cid.Cid.{Cid}
use Rattle.mc_model.specs.Drain.{offered_links, is_in_order}
use Rattle.mc_model.specs.Found.{Offers, found_links}
use Rattle.mc_model.specs.Front.{same_cid}
use Rattle.mc_model.specs.Graph.{has}
use Rattle.mc_model.proofs.Counts.{cid_is, cid_itself, has-append}

-- wanted at the start, or linked by one of these
abbrev pub is_traced : Offers → List Cid → List Cid → Cid → Bool
is_traced found start before c = has c start || has c (offered_links found before)

-- the links of one list and another
pub offered-append : (found : Offers) (xs ys : List Cid) (c : Cid) → has c (offered_links found (xs ++ ys)) ≡ (has c (offered_links found xs) || has c (offered_links found ys))
offered-append found xs ys c = ap (has c) (flat_map-append (λ d. found_links (found d)) xs ys) ∙ has-append c (offered_links found xs) (offered_links found ys)

pub traced_more : (found : Offers) (start before more : List Cid) (c : Cid) → is_traced found start before c ≡ true → is_traced found start (before ++ more) c ≡ true
traced_more found start before more c e = elim (or_cases (has c start) (has c (offered_links found before)) e) [
  | inl h ↦ or_left _ _ h
  | inr h ↦ or_right (has c start) _ (offered-append found before more c ∙ or_left _ _ h)
]

-- a link of one of these
pub offered_link : (found : Offers) (cids : List Cid) (m c : Cid) → has m cids ≡ true → has c (found_links (found m)) ≡ true → has c (offered_links found cids) ≡ true
offered_link found [] m c k l = absurd (cc)
offered_link found (x ∷ cids) m c k l =
    has-append c (found_links (found x)) (offered_links found cids) ∙
    elim (or_cases (same_cid m x) (has m cids) k) [
      | inl s ↦ or_left _ _ (subst (λ (z : Cid). has c (found_links (found z)) ≡ true) (cid_is m x s) l)
      | inr s ↦ or_right (has c (found_links (found x))) _ (offered_link found cids m c s l)
    ]

-- of which one it is a link
pub record OfferedBy (found : Offers) (cids : List Cid) (c : Cid) : Type 0 where
  pub cid : Cid
  pub within : has cid cids ≡ true
  pub linked : has c (found_links (found cid)) ≡ true

pub offered_from : (found : Offers) (cids : List Cid) (c : Cid) → has c (offered_links found cids) ≡ true → OfferedBy found cids c
offered_from found [] c e = absurd (cc)
offered_from found (x ∷ cids) c e =
    elim (or_cases (has c (found_links (found x))) (has c (offered_links found cids)) (sym (has-append c (found_links (found x)) (offered_links found cids)) ∙ e)) [
      | inl h ↦ record { cid = x; within = or_left (same_cid x x) (has x cids) (cid_itself x); linked = h }
      | inr h ↦ let up = offered_from found cids c h in record { cid = up.cid; within = or_right (same_cid up.cid x) (has up.cid cids) up.within; linked = up.linked }
    ]

-- a link of one of the later ones
pub traced_link : (found : Offers) (start before more : List Cid) (m c : Cid) → has m more ≡ true → has c (found_links (found m)) ≡ true → is_traced found start (before ++ more) c ≡ true
traced_link found start before more m c e l =
    or_right (has c start) _ (offered-append found before more c ∙ or_right (has c (offered_links found before)) _ (offered_link found more m c e l))

-- a group of traced ones stands in order
pub group_in_order : (found : Offers) (start before cids : List Cid) → ((c : Cid) → has c cids ≡ true → is_traced found start before c ≡ true) → is_in_order found start before cids ≡ true
group_in_order found start before [] h = refl
group_in_order found start before (x ∷ cids) h =
    and_from _ _ (h x (or_left (same_cid x x) (has x cids) (cid_itself x)))
    (group_in_order found start (before ++ x ∷ []) cids (λ c e. traced_more found start before (x ∷ []) c (h c (or_right (same_cid c x) (has c cids) e))))

-- one list in order after another
pub in_order-append : (found : Offers) (start before xs ys : List Cid) → is_in_order found start before xs ≡ true → is_in_order found start (before ++ xs) ys ≡ true → is_in_order found start before (xs ++ ys) ≡ true
in_order-append found start before [] ys h k = sym (ap (λ z. is_in_order found start z ys) (append-nil before)) ∙ k
in_order-append found start before (x ∷ xs) ys h k =
    let parts = and_parts (has x start || has x (offered_links found before)) (is_in_order found start (before ++ x ∷ []) xs) h in
    and_from _ _ parts.0 (in_order-append found start (before ++ x ∷ []) xs ys parts.1 (ap (λ z. is_in_order found start z ys) (append_assoc before (x ∷ []) xs) ∙ k))
