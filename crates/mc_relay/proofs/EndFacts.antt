-- What holds while the taker takes in the givers.
use Rattle.std.proofs.Common.{◌≡◌, ℕ, List, [], ◌∷◌, ◌++◌, All, map, sym, ap, ◌∙◌, subst, arith, append-nil}
use Rattle.std.proofs.lemmas.List.{append_assoc, map-append}
use Rattle.std.proofs.lemmas.List.Elements.{All-tail}
use Rattle.mc_relay.specs.declared.view.EndView.{EndView}
use Rattle.mc_relay.specs.Passes.{with_all, with_known}

pub record IsTakingIn {G T : Type 0} (all rest : List G) (first now : EndView T) (part : G → ℕ × List T) (Owned : Type 0) (Mine : G → Type 0) : Type 0 where
  pub own : Owned
  pub mine : All Mine rest
  pub done : List G
  pub split : done ++ rest ≡ all
  pub is : now ≡ with_all first (map part done)

pub taking_start : {G T : Type 0} (all rest : List G) (first now : EndView T) (part : G → ℕ × List T) (Owned : Type 0) (Mine : G → Type 0) → rest ≡ all → now ≡ first → Owned → All Mine all → IsTakingIn all rest first now part Owned Mine
taking_start all rest first now part Owned Mine is same own mine = record {
  own = own;
  mine = subst (All Mine) (sym is) mine;
  done = [];
  split = is;
  is = same ∙ ap (λ known. record first { known = known }) (sym (append-nil first.known));
}

module _ {G T : Type 0} (all rest : List G) (first now : EndView T) (part : G → ℕ × List T) (Owned : Type 0) (Mine : G → Type 0) (h : IsTakingIn all rest first now part Owned Mine) where
  pub taking_mine : (giver : G) (rest' : List G) → rest ≡ giver ∷ rest' → Mine giver
  taking_mine giver rest' is = let each : All Mine (giver ∷ rest') = subst (All Mine) is h.mine in each 0 giver (omega arith)

  pub taking_on : (giver : G) (rest' : List G) (now' w : EndView T) (Owned' : Type 0) → rest ≡ giver ∷ rest' → now' ≡ with_known now w → part giver ≡ (w.number, w.pushed) → Owned' → IsTakingIn all rest' first now' part Owned' Mine
  taking_on giver rest' now' w Owned' is known about own = record {
    own = own;
    mine = All-tail Mine giver rest' (subst (All Mine) is h.mine);
    done = h.done ++ giver ∷ [];
    split = append_assoc h.done (giver ∷ []) rest' ∙ sym (ap (λ l. h.done ++ l) is) ∙ h.split;
    is = known
        ∙ ap (λ (v : EndView T). with_known v w) h.is
        ∙ ap (λ known. record first { known = known }) (append_assoc first.known (map part h.done) ((w.number, w.pushed) ∷ []) ∙ ap (λ l. first.known ++ l) (ap (λ p. map part h.done ++ p ∷ []) (sym about) ∙ sym (map-append part h.done (giver ∷ []))));
  }

  pub taking_end : rest ≡ [] → now ≡ with_all first (map part all)
  taking_end none = h.is ∙ ap (λ l. with_all first (map part l)) (sym (append-nil h.done) ∙ ap (λ l. h.done ++ l) (sym none) ∙ h.split)
