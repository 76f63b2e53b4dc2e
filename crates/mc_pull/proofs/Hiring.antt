-- What holds while seats are split into hands, and while they are joined again.
use Rattle.std.proofs.Common.{◌≡◌, ◌≤◌, ◌<◌, ◌+◌, ◌-◌, ◌/◌, ◌^◌, ℕ, suc, Bool, true, false, ◌||◌, List, [], ◌∷◌, ◌++◌, length, map, All, refl, sym, ap, ◌∙◌, subst, arith, length-append}
use Rattle.std.specs.List.{list_any}
use Rattle.std.proofs.Math.Nat.{pow-succ'}
use Rattle.std.proofs.lemmas.Nat.{pow_pos}
use Rattle.std.proofs.lemmas.List.{append_assoc, map-append}
use Rattle.std.proofs.lemmas.List.Folds.{list_any-append}
use Rattle.std.proofs.lemmas.List.Elements.{All-push, All-tail}

pub record IsHiring {E F H : Type 0} (all rest : List F) (hands : List H) (room parts : ℕ) (first seen : List E) (Owned : Type 0) (Fits : F → Type 0) (Ready : H → Type 0) (fetch : H → F) : Type 0 where
  pub own : Owned
  pub enough : 2 ^ length rest ≤ parts
  pub same : seen ≡ first
  pub fits : All Fits rest
  pub ready : All Ready hands
  pub fetches : map fetch hands ++ rest ≡ all
  pub within : length hands + length rest ≤ room

-- half of the parts are enough for one seat less
pub half : (n parts : ℕ) → 2 ^ suc n ≤ parts → 2 ^ n ≤ parts - parts / 2
half n parts e = let d = pow-succ' 2 n in omega (arith, e, d)

pub half_more : (n parts : ℕ) → 2 ^ suc n ≤ parts → 1 < parts
half_more n parts e = let d = pow-succ' 2 n in let p = pow_pos n in omega (arith, e, d, p)

module _ {E F H : Type 0} (all rest : List F) (hands : List H) (room parts : ℕ) (first seen : List E) (Owned : Type 0) (Fits : F → Type 0) (Ready : H → Type 0) (fetch : H → F) (h : IsHiring all rest hands room parts first seen Owned Fits Ready fetch) where
  pub hiring_parts : (f : F) (rest' : List F) → rest ≡ f ∷ rest' → 1 < parts
  hiring_parts f rest' is = half_more (length rest') parts (subst (λ l. 2 ^ length l ≤ parts) is h.enough)

  pub hiring_fits : (f : F) (rest' : List F) → rest ≡ f ∷ rest' → Fits f
  hiring_fits f rest' is = let each : All Fits (f ∷ rest') = subst (All Fits) is h.fits in each 0 f (omega arith)

  pub hiring_on : (f : F) (rest' : List F) (hand : H) (hands' : List H) (room' parts' : ℕ) (seen' : List E) (Owned' : Type 0) → rest ≡ f ∷ rest' → Owned' → parts' ≡ parts - parts / 2 → seen' ≡ seen
      → Ready hand → fetch hand ≡ f → hands' ≡ hands ++ hand ∷ [] → room ≤ room' → IsHiring all rest' hands' room' parts' first seen' Owned' Fits Ready fetch
  hiring_on f rest' hand hands' room' parts' seen' Owned' is own p s ready about grown more = record {
    own = own;
    enough = subst (λ n. 2 ^ length rest' ≤ n) (sym p) (half (length rest') parts (subst (λ l. 2 ^ length l ≤ parts) is h.enough));
    same = s ∙ h.same;
    fits = All-tail Fits f rest' (subst (All Fits) is h.fits);
    ready = subst (All Ready) (sym grown) (All-push Ready hands hand h.ready ready);
    fetches = ap (λ l. map fetch l ++ rest') grown ∙ ap (λ l. l ++ rest') (map-append fetch hands (hand ∷ [])) ∙ append_assoc (map fetch hands) (fetch hand ∷ []) rest' ∙ ap (λ x. map fetch hands ++ x ∷ rest') about ∙ sym (ap (λ l. map fetch hands ++ l) is) ∙ h.fetches;
    within = let a = h.within in let b = ap length is in let c = ap length grown ∙ length-append hands (hand ∷ []) in omega (arith, a, b, c, more);
  }

pub record IsReleasing {F H End : Type 0} (all rest : List H) (fetches : List F) (room : ℕ) (failed : Bool) (Owned Stays : Type 0) (Mine : H → Type 0) (fetch : H → F) (end : H → End) (is_peer : End → Bool) : Type 0 where
  pub own : Owned
  pub stays : Stays
  pub mine : All Mine rest
  pub done : List H
  pub hands : done ++ rest ≡ all
  pub left : fetches ≡ map fetch done
  pub met : failed ≡ list_any is_peer (map end done)
  pub within : length fetches + length rest ≤ room

module _ {F H End : Type 0} (all rest : List H) (fetches : List F) (room : ℕ) (failed : Bool) (Owned Stays : Type 0) (Mine : H → Type 0) (fetch : H → F) (end : H → End) (is_peer : End → Bool)
    (h : IsReleasing all rest fetches room failed Owned Stays Mine fetch end is_peer) where
  pub releasing_mine : (hand : H) (rest' : List H) → rest ≡ hand ∷ rest' → Mine hand
  releasing_mine hand rest' is = let each : All Mine (hand ∷ rest') = subst (All Mine) is h.mine in each 0 hand (omega arith)

  pub releasing_on : (hand : H) (rest' : List H) (fetches' : List F) (room' : ℕ) (failed' : Bool) (Owned' Stays' : Type 0) → rest ≡ hand ∷ rest' → Owned' → Stays' → fetches' ≡ fetches ++ fetch hand ∷ []
      → room ≤ room' → failed' ≡ (failed || is_peer (end hand)) → IsReleasing all rest' fetches' room' failed' Owned' Stays' Mine fetch end is_peer
  releasing_on hand rest' fetches' room' failed' Owned' Stays' is own stays grown more p = record {
    own = own;
    stays = stays;
    mine = All-tail Mine hand rest' (subst (All Mine) is h.mine);
    done = h.done ++ hand ∷ [];
    hands = append_assoc h.done (hand ∷ []) rest' ∙ sym (ap (λ l. h.done ++ l) is) ∙ h.hands;
    left = grown ∙ ap (λ l. l ++ fetch hand ∷ []) h.left ∙ sym (map-append fetch h.done (hand ∷ []));
    met = p ∙ any_more h.met;
    within = let a = h.within in let b = ap length is in let c = ap length grown ∙ length-append fetches (fetch hand ∷ []) in omega (arith, a, b, c, more);
  }
    where
      last : (a b : Bool) → (a || b) ≡ (a || (b || false))
      last true b = refl
      last false true = refl
      last false false = refl

      any_more : failed ≡ list_any is_peer (map end h.done) → (failed || is_peer (end hand)) ≡ list_any is_peer (map end (h.done ++ hand ∷ []))
      any_more e = ap (λ b. b || is_peer (end hand)) e ∙ last (list_any is_peer (map end h.done)) (is_peer (end hand)) ∙ sym (list_any-append is_peer (map end h.done) (end hand ∷ [])) ∙ sym (ap (list_any is_peer) (map-append end h.done (hand ∷ [])))

pub releasing_start : {F H End : Type 0} (all rest : List H) (fetches : List F) (room : ℕ) (Owned Stays : Type 0) (Mine : H → Type 0) (fetch : H → F) (end : H → End) (is_peer : End → Bool) → rest ≡ all → Owned → Stays → All Mine all → fetches ≡ []
    → length all ≤ room → IsReleasing all rest fetches room false Owned Stays Mine fetch end is_peer
releasing_start all rest fetches room Owned Stays Mine fetch end is_peer is own stays mine none most = record {
  own = own;
  stays = stays;
  mine = subst (All Mine) (sym is) mine;
  done = [];
  hands = is;
  left = none;
  met = refl;
  within = let a = ap length none in let b = ap length is in omega (arith, a, b, most);
}
