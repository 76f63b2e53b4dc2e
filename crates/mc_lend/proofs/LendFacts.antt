-- A desk of each peer is lent, and comes back.
use Rattle.std.proofs.Common.{◌≡◌, ◌≤◌, ℕ, suc, Bool, true, false, true≢false, cond, List, [], ◌∷◌, ◌++◌, append-nil, append_assoc, length, refl, sym, ap, subst, ◌∙◌, arith}
use Rattle.std.specs.Prelude.{vec_len, vec_capacity, Vec}
use Rattle.std.specs.List.{AllZip}
use Rattle.mc_fetch.specs.declared.peers.PeerView.{PeerView}
use Rattle.mc_lend.specs.declared.site.Site.{Site}
use Rattle.mc_fetch.specs.declared.peers.PeerFetch.{PeerFetch}
use Rattle.mc_fetch.specs.Views.{views_of}
use Rattle.mc_lend.specs.Lending.{AreFetches, HaveAt, HaveDesks, IsViewOf, desks_in, desks_lent, desks_of, marks_of, peers_in, with_all, with_firsts}
use Rattle.mc_lend.specs.Rows.{AllFit, AllViewed, Holds, HoldsAt, Lends, LendsBy, Returns, ReturnsBy, lists_of}

peer_more : {K : Type 0} (site : Site K) (sites : List (Site K)) → site.peer ≡ true → length (peers_in (site ∷ sites)) ≡ suc (length (peers_in sites))
peer_more {K} site sites is = ap (λ (mark : Bool). length (cond mark (site ∷ peers_in sites) (peers_in sites))) is

no_cons : {P : Type 0} {n : ℕ} → suc n ≡ 0 → P
no_cons e = absurd (omega (arith, e))

-- where there are no rows
pub none_hold : {K D Z : Type 0} (there out there2 out2 : ℕ) (sites : List (Site K)) (rows : List (Vec D Z)) → length rows ≡ 0 → Holds there out (marks_of sites) rows → Holds there2 out2 (marks_of sites) rows
none_hold there out there2 out2 [] [] is holds = tt
none_hold there out there2 out2 (site ∷ sites) [] is holds = absurd holds
none_hold there out there2 out2 [] (row ∷ rows) is holds = absurd holds
none_hold there out there2 out2 (site ∷ sites) (row ∷ rows) is holds = no_cons is

module _ {K D : Type 0} where
  -- nothing comes back where there are no rows
  pub none_returned : {Z : Type 0} (sites : List (Site K)) (rows : List (Vec D Z)) (views : List (PeerView K D)) → length rows ≡ 0 → Holds 0 1 (marks_of sites) rows → length (peers_in sites) ≡ length views
      → Returns sites (lists_of rows) (lists_of rows) views × (views ≡ [])
  none_returned [] [] [] is holds many = (refl, refl)
  none_returned [] [] (view ∷ views) is holds many = absurd (omega (arith, many))
  none_returned (site ∷ sites) [] views is holds many = absurd holds
  none_returned [] (row ∷ rows) views is holds many = absurd holds
  none_returned (site ∷ sites) (row ∷ rows) views is holds many = no_cons is

  -- a desk is lent through a view
  pub lent : (mark : Bool) (site : Site K) (old new : List D) (views now : List (PeerView K D)) (desk : D) (view : PeerView K D) → mark ≡ true → now ≡ views ++ view ∷ [] → old ≡ desk ∷ new → view.desk ≡ desk → IsViewOf site view → LendsBy mark site old new views now
  lent true site old new views now desk view is added taken same of = (view, added, taken ∙ ap (λ d. d ∷ new) (sym same), of)
  lent false site old new views now desk view is added taken same of = absurd (true≢false (sym is))

  pub lends_none : (views : List (PeerView K D)) → Lends {K = K} {D = D} [] [] [] views views
  lends_none views = record { more = []; added = sym (append-nil views); lent = refl; of = tt }

  -- where there are no rows
  pub none_lent : {Z : Type 0} (sites : List (Site K)) (rows : List (Vec D Z)) (views : List (PeerView K D)) → length rows ≡ 0 → Holds 1 0 (marks_of sites) rows → Lends sites (lists_of rows) (lists_of rows) views views
  none_lent [] [] views is holds = lends_none views
  none_lent (site ∷ sites) [] views is holds = absurd holds
  none_lent [] (row ∷ rows) views is holds = absurd holds
  none_lent (site ∷ sites) (row ∷ rows) views is holds = no_cons is

  lends_by : (mark : Bool) (site : Site K) (sites : List (Site K)) (old new : List D) (olds news : List (List D)) (views mid now : List (PeerView K D)) → site.peer ≡ mark
      → LendsBy mark site old new views mid → Lends sites olds news mid now → Lends (site ∷ sites) (old ∷ olds) (new ∷ news) views now
  lends_by false site sites old new olds news views mid now is one rest = record {
    more = rest.more;
    added = rest.added ∙ ap (λ l. l ++ rest.more) one.1;
    lent = rw is ((λ i. sym one.0 i ∷ olds) ∙ ap (λ l. new ∷ l) rest.lent);
    of = rw is rest.of;
  }
  lends_by true site sites old new olds news views mid now is one rest = record {
    more = one.0 ∷ rest.more;
    added = rest.added ∙ ap (λ l. l ++ rest.more) one.1 ∙ append_assoc views (one.0 ∷ []) rest.more;
    lent = rw is ((λ i. one.2 i ∷ olds) ∙ ap (λ l. (one.0.desk ∷ new) ∷ l) rest.lent);
    of = subst (λ (mark : Bool). AllZip IsViewOf (cond mark (site ∷ peers_in sites) (peers_in sites)) (one.0 ∷ rest.more)) (sym is) (one.3, rest.of);
  }

  pub lends_on : (site : Site K) (sites : List (Site K)) (old new : List D) (olds news : List (List D)) (views mid now : List (PeerView K D))
      → LendsBy site.peer site old new views mid → Lends sites olds news mid now → Lends (site ∷ sites) (old ∷ olds) (new ∷ news) views now
  lends_on site sites old new olds news views mid now one rest = lends_by site.peer site sites old new olds news views mid now refl one rest

  returns_by : (mark : Bool) (site : Site K) (sites : List (Site K)) (old new : List D) (olds news : List (List D)) (views left : List (PeerView K D)) → site.peer ≡ mark
      → ReturnsBy mark old new views left → Returns sites olds news left → Returns (site ∷ sites) (old ∷ olds) (new ∷ news) views
  returns_by false site sites old new olds news views left is one rest = rw is ((λ i. one.0 i ∷ news) ∙ ap (λ l. old ∷ l) (rest ∙ ap (λ (l : List (PeerView K D)). with_firsts (marks_of sites) (desks_in l) olds) one.1))
  returns_by true site sites old new olds news views left is one rest =
      rw (is, one.1) ((λ i. one.2 i ∷ news) ∙ ap (λ l. (one.0.desk ∷ old) ∷ l) rest)

  pub returns_on : (site : Site K) (sites : List (Site K)) (old new : List D) (olds news : List (List D)) (views left : List (PeerView K D))
      → ReturnsBy site.peer old new views left → Returns sites olds news left → Returns (site ∷ sites) (old ∷ olds) (new ∷ news) views
  returns_on site sites old new olds news views left one rest = returns_by site.peer site sites old new olds news views left refl one rest

  -- as many views are left as others are fetched from
  many_by : (mark : Bool) (site : Site K) (sites : List (Site K)) (old new : List D) (views left : List (PeerView K D)) → site.peer ≡ mark → ReturnsBy mark old new views left
      → length (peers_in (site ∷ sites)) ≡ length views → length (peers_in sites) ≡ length left
  many_by false site sites old new views left is one many = sym (rw is refl) ∙ many ∙ sym (ap length one.1)
  many_by true site sites old new views left is one many =
      let more = peer_more site sites is in
      omega (arith, more, many, ap length one.1)

  pub many_on : (site : Site K) (sites : List (Site K)) (old new : List D) (views left : List (PeerView K D)) → ReturnsBy site.peer old new views left
      → length (peers_in (site ∷ sites)) ≡ length views → length (peers_in sites) ≡ length left
  many_on site sites old new views left one many = many_by site.peer site sites old new views left refl one many

-- one that is fetched from has a view
module _ {K : Type 0} where
  pub some_of : (site : Site K) (sites : List (Site K)) (n : ℕ) → site.peer ≡ true → length (peers_in (site ∷ sites)) ≡ n → 1 ≤ n
  some_of site sites n is many =
      let more = peer_more site sites is in
      omega (arith, more, many)

-- ---- one row more

pub fit_more : {D Z : Type 0} (rows : List (Vec D Z)) (row : Vec D Z) → AllFit rows → vec_len row ≤ vec_capacity row → vec_len row ≡ length row.items → AllFit (rows ++ row ∷ [])
fit_more [] row all fits many = (fits, many, tt)
fit_more (first ∷ rows) row all fits many = (all.0, all.1, fit_more rows row all.2 fits many)

pub lists_more : {D Z : Type 0} (rows : List (Vec D Z)) (row : Vec D Z) → lists_of (rows ++ row ∷ []) ≡ lists_of rows ++ row.items ∷ []
lists_more [] row = refl
lists_more (first ∷ rows) row = ap (λ l. first.items ∷ l) (lists_more rows row)

-- ---- fewer desks are there, and less room

fewer_by : {D Z : Type 0} (there out there2 out2 : ℕ) (mark : Bool) (row : Vec D Z) → there2 ≤ there → out2 ≤ out → HoldsAt there out mark row → HoldsAt there2 out2 mark row
fewer_by there out there2 out2 false row less room holds = tt
fewer_by there out there2 out2 true row less room holds = let some = holds.0 in let fits = holds.1 in (omega (arith, less, some), omega (arith, room, fits))

pub fewer : {D Z : Type 0} (there out there2 out2 : ℕ) (marks : List Bool) (rows : List (Vec D Z)) → there2 ≤ there → out2 ≤ out → Holds there out marks rows → Holds there2 out2 marks rows
fewer there out there2 out2 [] [] less room holds = tt
fewer there out there2 out2 [] (row ∷ rows) less room holds = absurd holds
fewer there out there2 out2 (mark ∷ marks) [] less room holds = absurd holds
fewer there out there2 out2 (mark ∷ marks) (row ∷ rows) less room holds = (fewer_by there out there2 out2 mark row less room holds.0, fewer there out there2 out2 marks rows less room holds.1)

-- ---- the last of some fetches

module _ {K D : Type 0} where
  pub all_last : (marks : List Bool) (front : List (PeerFetch K D)) (last : PeerFetch K D) (rows : List (List D)) → with_all marks (desks_lent (front ++ last ∷ [])) rows ≡ with_all marks (desks_lent front) (with_firsts marks (desks_of last) rows)
  all_last marks [] last rows = refl
  all_last marks (fetch ∷ front) last rows = ap (λ lists. with_firsts marks (desks_of fetch) lists) (all_last marks front last rows)

  pub viewed_front : (sites : List (Site K)) (front : List (PeerFetch K D)) (last : PeerFetch K D) → AllViewed sites (front ++ last ∷ []) → AllViewed sites front × (length (peers_in sites) ≡ length (views_of last))
  viewed_front sites [] last all = (tt, all.0)
  viewed_front sites (fetch ∷ front) last all = let rest = viewed_front sites front last all.1 in ((all.0, rest.0), rest.1)

-- ---- the desks that are there at first

there_by : {D Z : Type 0} (count : ℕ) (mark : Bool) (row : Vec D Z) → HaveAt count mark row.items → vec_len row ≤ vec_capacity row → vec_len row ≡ length row.items → HoldsAt count 0 mark row
there_by count false row have fits many = tt
there_by count true row have fits many = (omega (arith, have, many), omega (arith, fits))

pub all_there : {D Z : Type 0} (count : ℕ) (marks : List Bool) (rows : List (Vec D Z)) → HaveDesks count marks (lists_of rows) → AllFit rows → Holds count 0 marks rows
all_there count [] [] have fit = tt
all_there count [] (row ∷ rows) have fit = absurd have
all_there count (mark ∷ marks) [] have fit = absurd have
all_there count (mark ∷ marks) (row ∷ rows) have fit = (there_by count mark row have.0 fit.0 fit.1, all_there count marks rows have.1 fit.2)

-- ---- a fetch has a view of each peer

as_many : {K D : Type 0} (peers : List (Site K)) (views : List (PeerView K D)) → AllZip IsViewOf peers views → length peers ≡ length views
as_many [] [] all = refl
as_many [] (view ∷ views) all = absurd all
as_many (peer ∷ peers) [] all = absurd all
as_many (peer ∷ peers) (view ∷ views) all = ap suc (as_many peers views all.1)

pub all_viewed : {K D : Type 0} (sites : List (Site K)) (fetches : List (PeerFetch K D)) → AreFetches sites fetches → AllViewed sites fetches
all_viewed sites [] all = tt
all_viewed sites (fetch ∷ fetches) all = (as_many (peers_in sites) (views_of fetch) all.0, all_viewed sites fetches all.1)
