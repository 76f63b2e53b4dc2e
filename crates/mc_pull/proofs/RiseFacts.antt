-- A fault of a fetch shows in the count of a desk that was lent to it.
use Rattle.std.proofs.Common.{◌≡◌, ◌≤◌, ◌<◌, ◌+◌, ◌^◌, ◌-◌, ◌⊎◌, min, ℕ, zero, suc, Bool, true, false, cond, List, [], ◌∷◌, length, Option, Some, refl, sym, ap, ◌∙◌, subst, arith, inl, inr}
use Rattle.std.specs.Prelude.{nat_lt, Vec}
use Rattle.std.specs.List.{AllZip, sum_by}
use Rattle.std.proofs.lemmas.Bool.{false≢true}
use Rattle.std.proofs.lemmas.Bool.Decides.{nat_tests}
use Rattle.std.proofs.lemmas.List.Sums.{sum_by-cons}
use Rattle.mc_pull.specs.Hands.{SomeRose}
use Rattle.mc_fetch.specs.Peers.{ViewGoes, faults_of}
use Rattle.mc_fetch.specs.Views.{views_of}
use Rattle.mc_fetch.specs.declared.peers.PeerFetch.{PeerFetch}
use Rattle.mc_fetch.specs.declared.peers.PeerView.{PeerView}
use Rattle.mc_keep.specs.Plan.{DeskSchedule}
use Rattle.mc_lend.specs.Lending.{AreFetches, AreViewsOf, IsViewOf, desks_in, desks_lent, marks_of, peers_in, with_all, with_firsts}
use Rattle.mc_lend.specs.Rows.{Holds, lists_of}
use Rattle.mc_lend.specs.declared.site.Site.{Site}
use Rattle.mc_pull.specs.Pulls.{DeskRose}
use Rattle.mc_pull.specs.Shows.{AllShow}
use Rattle.mc_pull.proofs.DeskFacts.{AskedViews}

module _ {D : Type 0} (desk_faults : D → ℕ) where
  -- no count fell
  abbrev pub Later : List D → List D → Type 0
  Later old new = sum_by desk_faults old ≤ sum_by desk_faults new

  -- and in one that is marked the count rose
  abbrev pub Rises : List Bool → List (List D) → List (List D) → Type 0
  Rises [] olds news = ⊥
  Rises (mark ∷ marks) [] news = ⊥
  Rises (mark ∷ marks) (old ∷ olds) [] = ⊥
  Rises (mark ∷ marks) (old ∷ olds) (new ∷ news) = ((mark ≡ true) × (sum_by desk_faults old < sum_by desk_faults new)) ⊎ Rises marks olds news

  pub rose_of : (marks : List Bool) (olds news : List (List D)) → Rises marks olds news → DeskRose desk_faults marks olds news
  rose_of [] olds news rises = absurd rises
  rose_of (mark ∷ marks) [] news rises = absurd rises
  rose_of (mark ∷ marks) (old ∷ olds) [] rises = absurd rises
  rose_of (mark ∷ marks) (old ∷ olds) (new ∷ news) (inl here) = record { at = zero; old = old; new = new; marked = ap (λ (b : Bool). Some b) here.0; stood = refl; stands = refl; rose = here.1 }
  rose_of (mark ∷ marks) (old ∷ olds) (new ∷ news) (inr there) =
      let rose = rose_of marks olds news there in
      record { at = suc rose.at; old = rose.old; new = rose.new; marked = rose.marked; stood = rose.stood; stands = rose.stands; rose = rose.rose }

module _ {K D : Type 0} (quiet : K → Bool) (quiet_desk : D → Bool) (desk_faults : D → ℕ) (plan : D → Option DeskSchedule) where
  abbrev Asked : PeerView K D → PeerView K D → Type 0
  Asked = ViewGoes quiet quiet_desk desk_faults plan

  abbrev desk_sum : List (PeerView K D) → ℕ
  desk_sum views = sum_by (λ (view : PeerView K D). desk_faults view.desk) views

  sum_more : (view : PeerView K D) (views : List (PeerView K D)) → desk_sum (view ∷ views) ≡ desk_faults view.desk + desk_sum views
  sum_more view views = sum_by-cons (λ (v : PeerView K D). desk_faults v.desk) view views

  abbrev AllLater : List (List D) → List (List D) → Type 0
  AllLater olds news = AllZip (Later desk_faults) olds news

  -- one desk more in front of each
  one_later : (view new : PeerView K D) (row now : List D) → Asked view new → Later desk_faults row now → Later desk_faults (view.desk ∷ row) (new.desk ∷ now)
  one_later view new row now goes later = let a = sum_by-cons desk_faults view.desk row in let b = sum_by-cons desk_faults new.desk now in let more = goes.later in omega (arith, a, b, more, later)

  firsts_later : (marks : List Bool) (views news : List (PeerView K D)) (rows nows : List (List D)) → AllZip Asked views news → AllLater rows nows → AllLater (with_firsts marks (desks_in views) rows) (with_firsts marks (desks_in news) nows)
  firsts_later [] views news rows nows goes all = all
  firsts_later (mark ∷ marks) views news [] [] goes all = tt
  firsts_later (mark ∷ marks) views news [] (now ∷ nows) goes all = absurd all
  firsts_later (mark ∷ marks) views news (row ∷ rows) [] goes all = absurd all
  firsts_later (false ∷ marks) views news (row ∷ rows) (now ∷ nows) goes all = (all.0, firsts_later marks views news rows nows goes all.1)
  firsts_later (true ∷ marks) [] [] (row ∷ rows) (now ∷ nows) goes all = (all.0, firsts_later marks [] [] rows nows tt all.1)
  firsts_later (true ∷ marks) [] (new ∷ news) (row ∷ rows) (now ∷ nows) goes all = absurd goes
  firsts_later (true ∷ marks) (view ∷ views) [] (row ∷ rows) (now ∷ nows) goes all = absurd goes
  firsts_later (true ∷ marks) (view ∷ views) (new ∷ news) (row ∷ rows) (now ∷ nows) goes all = (one_later view new row now goes.0 all.0, firsts_later marks views news rows nows goes.1 all.1)

  -- what rose goes on having risen
  firsts_rise : (marks : List Bool) (views news : List (PeerView K D)) (rows nows : List (List D)) → AllZip Asked views news → Rises desk_faults marks rows nows → Rises desk_faults marks (with_firsts marks (desks_in views) rows) (with_firsts marks (desks_in news) nows)
  firsts_rise [] views news rows nows goes rises = absurd rises
  firsts_rise (mark ∷ marks) views news [] nows goes rises = absurd rises
  firsts_rise (mark ∷ marks) views news (row ∷ rows) [] goes rises = absurd rises
  firsts_rise (false ∷ marks) views news (row ∷ rows) (now ∷ nows) goes (inl here) = absurd (false≢true here.0)
  firsts_rise (false ∷ marks) views news (row ∷ rows) (now ∷ nows) goes (inr there) = inr (firsts_rise marks views news rows nows goes there)
  firsts_rise (true ∷ marks) [] [] (row ∷ rows) (now ∷ nows) goes (inl here) = inl here
  firsts_rise (true ∷ marks) [] [] (row ∷ rows) (now ∷ nows) goes (inr there) = inr (firsts_rise marks [] [] rows nows tt there)
  firsts_rise (true ∷ marks) [] (new ∷ news) (row ∷ rows) (now ∷ nows) goes rises = absurd goes
  firsts_rise (true ∷ marks) (view ∷ views) [] (row ∷ rows) (now ∷ nows) goes rises = absurd goes
  firsts_rise (true ∷ marks) (view ∷ views) (new ∷ news) (row ∷ rows) (now ∷ nows) goes (inl here) =
      inl (refl, let a = sum_by-cons desk_faults view.desk row in let b = sum_by-cons desk_faults new.desk now in let more = goes.0.later in let less = here.1 in omega (arith, a, b, more, less))
  firsts_rise (true ∷ marks) (view ∷ views) (new ∷ news) (row ∷ rows) (now ∷ nows) goes (inr there) = inr (firsts_rise marks views news rows nows goes.1 there)

  -- where the sum of the desks in front rose, one of them did
  abbrev RiseIn : List (Site K) → List (List D) → List (List D) → Type 0
  RiseIn sites rows nows = (views news : List (PeerView K D)) → AreViewsOf sites views → AllZip Asked views news → desk_sum views < desk_sum news → Rises desk_faults (marks_of sites) (with_firsts (marks_of sites) (desks_in views) rows) (with_firsts (marks_of sites) (desks_in news) nows)

  rise_by : (mark : Bool) (site : Site K) (sites : List (Site K)) (row now : List D) (rows nows : List (List D)) → Later desk_faults row now → RiseIn sites rows nows
      → (views news : List (PeerView K D)) → AllZip IsViewOf (cond mark (site ∷ peers_in sites) (peers_in sites)) views → AllZip Asked views news → desk_sum views < desk_sum news
      → Rises desk_faults (mark ∷ marks_of sites) (with_firsts (mark ∷ marks_of sites) (desks_in views) (row ∷ rows)) (with_firsts (mark ∷ marks_of sites) (desks_in news) (now ∷ nows))
  rise_by false site sites row now rows nows later rest views news of goes more = inr (rest views news of goes more)
  rise_by true site sites row now rows nows later rest [] news of goes more = absurd of
  rise_by true site sites row now rows nows later rest (view ∷ views) [] of goes more = absurd goes
  rise_by true site sites row now rows nows later rest (view ∷ views) (new ∷ news) of goes more = over (nat_lt (desk_faults view.desk) (desk_faults new.desk)) refl
    where
      over : (less : Bool) → nat_lt (desk_faults view.desk) (desk_faults new.desk) ≡ less
          → Rises desk_faults (true ∷ marks_of sites) ((view.desk ∷ row) ∷ with_firsts (marks_of sites) (desks_in views) rows) ((new.desk ∷ now) ∷ with_firsts (marks_of sites) (desks_in news) nows)
      over true e =
          let less : desk_faults view.desk < desk_faults new.desk = grind (arith, nat_tests, e) in
          inl (refl, let a = sum_by-cons desk_faults view.desk row in let b = sum_by-cons desk_faults new.desk now in omega (arith, a, b, less, later))
      over false e =
          let no : desk_faults new.desk ≤ desk_faults view.desk = grind (arith, nat_tests, e) in
          inr (rest views news of.1 goes.1 (let was = sum_more view views in let is = sum_more new news in omega (arith, was, is, more, no)))

  rise_in : (sites : List (Site K)) (rows nows : List (List D)) → length rows ≡ length sites → AllLater rows nows → RiseIn sites rows nows
  rise_in [] rows nows many all [] [] of goes more = absurd (omega (arith, more))
  rise_in [] rows nows many all [] (new ∷ news) of goes more = absurd goes
  rise_in [] rows nows many all (view ∷ views) news of goes more = absurd of
  rise_in (site ∷ sites) [] nows many all views news of goes more = absurd (omega (arith, many))
  rise_in (site ∷ sites) (row ∷ rows) [] many all views news of goes more = absurd all
  rise_in (site ∷ sites) (row ∷ rows) (now ∷ nows) many all views news of goes more =
      rise_by site.peer site sites row now rows nows all.0 (rise_in sites rows nows (omega (arith, many)) all.1) views news of goes more

  -- the same of all fetches

  abbrev Asks : PeerFetch K D → PeerFetch K D → Type 0
  Asks = AskedViews quiet quiet_desk desk_faults plan

  rows_later : (rows : List (List D)) → AllLater rows rows
  rows_later [] = tt
  rows_later (row ∷ rows) = (omega arith, rows_later rows)

  all_later : (marks : List Bool) (fetches asked : List (PeerFetch K D)) (rows : List (List D)) → AllZip Asks fetches asked → AllLater (with_all marks (desks_lent fetches) rows) (with_all marks (desks_lent asked) rows)
  all_later marks [] [] rows all = rows_later rows
  all_later marks [] (new ∷ asked) rows all = absurd all
  all_later marks (fetch ∷ fetches) [] rows all = absurd all
  all_later marks (fetch ∷ fetches) (new ∷ asked) rows all = firsts_later marks (views_of fetch) (views_of new) (with_all marks (desks_lent fetches) rows) (with_all marks (desks_lent asked) rows) all.0 (all_later marks fetches asked rows all.1)

  firsts_many : (marks : List Bool) (firsts : List D) (lists : List (List D)) → length lists ≡ length marks → length (with_firsts marks firsts lists) ≡ length marks
  firsts_many [] firsts lists many = many
  firsts_many (mark ∷ marks) firsts [] many = many
  firsts_many (false ∷ marks) firsts (list ∷ lists) many = ap suc (firsts_many marks firsts lists (omega (arith, many)))
  firsts_many (true ∷ marks) [] (list ∷ lists) many = ap suc (firsts_many marks [] lists (omega (arith, many)))
  firsts_many (true ∷ marks) (first ∷ firsts) (list ∷ lists) many = ap suc (firsts_many marks firsts lists (omega (arith, many)))

  pub all_many : (marks : List Bool) (lent : List (List D)) (lists : List (List D)) → length lists ≡ length marks → length (with_all marks lent lists) ≡ length marks
  all_many marks [] lists many = many
  all_many marks (firsts ∷ lent) lists many = firsts_many marks firsts (with_all marks lent lists) (all_many marks lent lists many)

  marks_many : (sites : List (Site K)) → length (marks_of sites) ≡ length sites
  marks_many [] = refl
  marks_many (site ∷ sites) = ap suc (marks_many sites)

  risen : (a b : ℕ) → min a (2 ^ 64 - 1) < 2 ^ 64 - 1 → min (min a (2 ^ 64 - 1) + 1) (2 ^ 64 - 1) ≤ min b (2 ^ 64 - 1) → a < b
  risen a b shows rose = omega (arith, shows, rose)

  all_rise : (sites : List (Site K)) (fetches asked : List (PeerFetch K D)) (rows : List (List D)) → length rows ≡ length (marks_of sites) → AreFetches sites fetches → AllZip Asks fetches asked → AllShow desk_faults fetches
      → SomeRose (λ (fetch : PeerFetch K D). faults_of desk_faults (views_of fetch)) fetches asked → Rises desk_faults (marks_of sites) (with_all (marks_of sites) (desks_lent fetches) rows) (with_all (marks_of sites) (desks_lent asked) rows)
  all_rise sites [] asked rows many of all shows rose = absurd rose
  all_rise sites (fetch ∷ fetches) [] rows many of all shows rose = absurd rose
  all_rise sites (fetch ∷ fetches) (new ∷ asked) rows many of all shows (inl rose) =
      let m = all_many (marks_of sites) (desks_lent fetches) rows many in let n = marks_many sites in
      rise_in sites (with_all (marks_of sites) (desks_lent fetches) rows) (with_all (marks_of sites) (desks_lent asked) rows) (m ∙ n) (all_later (marks_of sites) fetches asked rows all.1)
      (views_of fetch) (views_of new) of.0 all.0 (risen (desk_sum (views_of fetch)) (desk_sum (views_of new)) shows.0 rose)
  all_rise sites (fetch ∷ fetches) (new ∷ asked) rows many of all shows (inr rose) =
      firsts_rise (marks_of sites) (views_of fetch) (views_of new) (with_all (marks_of sites) (desks_lent fetches) rows) (with_all (marks_of sites) (desks_lent asked) rows) all.0 (all_rise sites fetches asked rows many of.1 all.1 shows.1 rose)

  pub rows_many : {Z : Type 0} (there out : ℕ) (marks : List Bool) (rows : List (Vec D Z)) → Holds there out marks rows → length (lists_of rows) ≡ length marks
  rows_many there out [] [] holds = refl
  rows_many there out [] (row ∷ rows) holds = absurd holds
  rows_many there out (mark ∷ marks) [] holds = absurd holds
  rows_many there out (mark ∷ marks) (row ∷ rows) holds = ap suc (rows_many there out marks rows holds.1)

  -- the count of a fetch shows it
  pub desk_rose : {Z : Type 0} (out : ℕ) (sites : List (Site K)) (olds news : List (List D)) (rows : List (Vec D Z)) (fetches asked : List (PeerFetch K D)) → AreFetches sites fetches → AllZip Asks fetches asked → Holds 0 out (marks_of sites) rows
      → olds ≡ with_all (marks_of sites) (desks_lent fetches) (lists_of rows) → news ≡ with_all (marks_of sites) (desks_lent asked) (lists_of rows)
      → AllShow desk_faults fetches → SomeRose (λ (fetch : PeerFetch K D). faults_of desk_faults (views_of fetch)) fetches asked → DeskRose desk_faults (marks_of sites) olds news
  desk_rose out sites olds news rows fetches asked of goes holds was is shows rose =
      subst (λ (lists : List (List D)). DeskRose desk_faults (marks_of sites) lists news) (sym was)
      (subst (λ (lists : List (List D)). DeskRose desk_faults (marks_of sites) (with_all (marks_of sites) (desks_lent fetches) (lists_of rows)) lists) (sym is)
      (rose_of desk_faults (marks_of sites) (with_all (marks_of sites) (desks_lent fetches) (lists_of rows)) (with_all (marks_of sites) (desks_lent asked) (lists_of rows))
      (all_rise sites fetches asked (lists_of rows) (rows_many 0 out (marks_of sites) rows holds) of goes shows rose)))
