-- Where no fetch failed, no desk that was lent to one counts more.
use Rattle.std.proofs.Common.{◌≡◌, ◌≤◌, ◌<◌, ◌+◌, ◌^◌, ◌-◌, ℕ, Bool, true, false, cond, List, [], ◌∷◌, length, Option, Result, Ok, Err, refl, sym, ap, ◌∙◌, subst, arith}
use Rattle.std.specs.Prelude.{min, nat_lt, Vec}
use Rattle.std.specs.List.{AllZip, sum_by}
use Rattle.std.proofs.lemmas.Bool.{and_from, false≢true}
use Rattle.std.proofs.lemmas.Bool.Decides.{nat_tests}
use Rattle.std.proofs.lemmas.List.Sums.{sum_by-cons}
use Rattle.mc_fetch.specs.Calls.{Asks, Members as Asked}
use Rattle.mc_fetch.specs.Peers.{ViewGoes, faults_of}
use Rattle.mc_fetch.specs.Views.{views_of}
use Rattle.mc_fetch.specs.declared.peers.PeerFetch.{PeerFetch}
use Rattle.mc_fetch.specs.declared.peers.PeerView.{PeerView}
use Rattle.mc_keep.specs.Plan.{DeskSchedule}
use Rattle.mc_drain.specs.Works.{none_broke}
use Rattle.mc_drain.specs.declared.working.WorkError.{WorkError}
use Rattle.mc_drain.specs.declared.working.WorkError.TheVariants.{KeeperFault, PeerFault, Stopped, Memory}
use Rattle.mc_lend.specs.Lending.{AreFetches, AreViewsOf, IsViewOf, desks_in, desks_lent, marks_of, peers_in, with_all, with_firsts}
use Rattle.mc_lend.specs.Rows.{Holds, lists_of}
use Rattle.mc_lend.specs.declared.site.Site.{Site}
use Rattle.mc_pull.specs.Answers.{answered}
use Rattle.mc_pull.specs.Pulls.{NoneFailed, counts_of}
use Rattle.mc_pull.specs.Shows.{AllShow, all_show}
use Rattle.mc_pull.proofs.RiseFacts.{all_many, rows_many}

-- an answer that is no fault, where each fault shows
pub shown_none : {T : Type 0} (shows : Bool) (drained : Result T WorkError) → shows ≡ true → none_broke (answered shows drained) ≡ true → none_broke drained ≡ true
shown_none shows (Ok value) e none = refl
shown_none shows (Err KeeperFault) e none = none
shown_none true (Err PeerFault) e none = none
shown_none false (Err PeerFault) e none = absurd (false≢true e)
shown_none shows (Err Stopped) e none = refl
shown_none shows (Err Memory) e none = refl

module _ {D : Type 0} (desk_faults : D → ℕ) where
  abbrev pub Same : D → D → Type 0
  Same old new = desk_faults new ≡ desk_faults old

  abbrev pub AllSame : List (List D) → List (List D) → Type 0
  AllSame olds news = AllZip (AllZip Same) olds news

  list_same : (list : List D) → AllZip Same list list
  list_same [] = tt
  list_same (desk ∷ list) = (refl, list_same list)

  lists_same : (lists : List (List D)) → AllSame lists lists
  lists_same [] = tt
  lists_same (list ∷ lists) = (list_same list, lists_same lists)

  -- where no desk was lent
  pub none_asked : (olds news : List (List D)) → news ≡ olds → NoneFailed desk_faults olds news
  none_asked olds news same = λ below. subst (AllSame olds) (sym same) (lists_same olds)

  counts_more : (list : List D) (lists : List (List D)) → counts_of desk_faults (list ∷ lists) ≡ sum_by desk_faults list + counts_of desk_faults lists
  counts_more list lists = sum_by-cons (λ (l : List D). sum_by desk_faults l) list lists

module _ {K D : Type 0} (quiet : K → Bool) (quiet_desk : D → Bool) (desk_faults : D → ℕ) (plan : D → Option DeskSchedule) where
  abbrev Goes : PeerView K D → PeerView K D → Type 0
  Goes = ViewGoes quiet quiet_desk desk_faults plan

  abbrev view_sum : List (PeerView K D) → ℕ
  view_sum views = sum_by (λ (view : PeerView K D). desk_faults view.desk) views

  view_more : (view : PeerView K D) (views : List (PeerView K D)) → view_sum (view ∷ views) ≡ desk_faults view.desk + view_sum views
  view_more view views = sum_by-cons (λ (v : PeerView K D). desk_faults v.desk) view views

  -- the counts of lists that have these desks in front
  abbrev Counted : List (Site K) → List (List D) → Type 0
  Counted sites rows = (views : List (PeerView K D)) → AreViewsOf sites views → counts_of desk_faults (with_firsts (marks_of sites) (desks_in views) rows) ≡ view_sum views + counts_of desk_faults rows

  count_by : (mark : Bool) (site : Site K) (sites : List (Site K)) (row : List D) (rows : List (List D)) → Counted sites rows → (views : List (PeerView K D)) → AllZip IsViewOf (cond mark (site ∷ peers_in sites) (peers_in sites)) views
      → counts_of desk_faults (with_firsts (mark ∷ marks_of sites) (desks_in views) (row ∷ rows)) ≡ view_sum views + counts_of desk_faults (row ∷ rows)
  count_by false site sites row rows rest views of =
      let a = counts_more desk_faults row (with_firsts (marks_of sites) (desks_in views) rows) in let b = counts_more desk_faults row rows in let c = rest views of in omega (arith, a, b, c)
  count_by true site sites row rows rest [] of = absurd of
  count_by true site sites row rows rest (view ∷ views) of =
      let a = counts_more desk_faults (view.desk ∷ row) (with_firsts (marks_of sites) (desks_in views) rows) in let b = counts_more desk_faults row rows in let c = rest views of.1 in
      let d = sum_by-cons desk_faults view.desk row in let e = view_more view views in omega (arith, a, b, c, d, e)

  counted : (sites : List (Site K)) (rows : List (List D)) → length rows ≡ length (marks_of sites) → Counted sites rows
  counted [] rows many [] of = omega arith
  counted [] rows many (view ∷ views) of = absurd of
  counted (site ∷ sites) [] many views of = absurd (omega (arith, many))
  counted (site ∷ sites) (row ∷ rows) many views of = count_by site.peer site sites row rows (counted sites rows (omega (arith, many))) views of

  -- where all counts together don't come to the last value, those of each fetch show a fault
  pub all_below : (sites : List (Site K)) (fetches : List (PeerFetch K D)) (rows : List (List D)) → length rows ≡ length (marks_of sites) → AreFetches sites fetches → counts_of desk_faults (with_all (marks_of sites) (desks_lent fetches) rows) < 2 ^ 64 - 1 → AllShow desk_faults fetches
  all_below sites [] rows many of below = tt
  all_below sites (fetch ∷ fetches) rows many of below =
      let e = counted sites (with_all (marks_of sites) (desks_lent fetches) rows) (all_many quiet quiet_desk desk_faults plan (marks_of sites) (desks_lent fetches) rows many) (views_of fetch) of.0 in
      (omega (arith, e, below), all_below sites fetches rows many of.1 (omega (arith, e, below)))

  views_later : (views news : List (PeerView K D)) → AllZip Goes views news → view_sum views ≤ view_sum news
  views_later [] [] goes = omega arith
  views_later [] (new ∷ news) goes = absurd goes
  views_later (view ∷ views) [] goes = absurd goes
  views_later (view ∷ views) (new ∷ news) goes =
      let a = view_more view views in let b = view_more new news in let c = goes.0.later in let d = views_later views news goes.1 in omega (arith, a, b, c, d)

  abbrev SameView : PeerView K D → PeerView K D → Type 0
  SameView old new = Same desk_faults old.desk new.desk

  views_same : (views news : List (PeerView K D)) → AllZip Goes views news → view_sum news ≡ view_sum views → AllZip SameView views news
  views_same [] [] goes same = tt
  views_same [] (new ∷ news) goes same = absurd goes
  views_same (view ∷ views) [] goes same = absurd goes
  views_same (view ∷ views) (new ∷ news) goes same =
      let a = view_more view views in let b = view_more new news in let c = goes.0.later in let d = views_later views news goes.1 in
      (omega (arith, a, b, c, d, same), views_same views news goes.1 (omega (arith, a, b, c, d, same)))

  firsts_same : (marks : List Bool) (views news : List (PeerView K D)) (rows nows : List (List D)) → AllZip SameView views news → AllSame desk_faults rows nows → AllSame desk_faults (with_firsts marks (desks_in views) rows) (with_firsts marks (desks_in news) nows)
  firsts_same [] views news rows nows same all = all
  firsts_same (mark ∷ marks) views news [] [] same all = tt
  firsts_same (mark ∷ marks) views news [] (now ∷ nows) same all = absurd all
  firsts_same (mark ∷ marks) views news (row ∷ rows) [] same all = absurd all
  firsts_same (false ∷ marks) views news (row ∷ rows) (now ∷ nows) same all = (all.0, firsts_same marks views news rows nows same all.1)
  firsts_same (true ∷ marks) [] [] (row ∷ rows) (now ∷ nows) same all = (all.0, firsts_same marks [] [] rows nows tt all.1)
  firsts_same (true ∷ marks) [] (new ∷ news) (row ∷ rows) (now ∷ nows) same all = absurd same
  firsts_same (true ∷ marks) (view ∷ views) [] (row ∷ rows) (now ∷ nows) same all = absurd same
  firsts_same (true ∷ marks) (view ∷ views) (new ∷ news) (row ∷ rows) (now ∷ nows) same all = ((same.0, all.0), firsts_same marks views news rows nows same.1 all.1)

  unmoved : (a b : ℕ) → min a (2 ^ 64 - 1) < 2 ^ 64 - 1 → min b (2 ^ 64 - 1) ≡ min a (2 ^ 64 - 1) → b ≡ a
  unmoved a b below same = omega (arith, below, same)

  -- none of the fetches failed
  module _ (f : Asked (PeerFetch K D)) (faults_is : (fetch : PeerFetch K D) → f.faults fetch ≡ faults_of desk_faults (views_of fetch)) (follows_is : (old new : PeerFetch K D) → f.follows old new → AllZip Goes (views_of old) (views_of new)) where
    fetch_same : (old new : PeerFetch K D) → faults_of desk_faults (views_of old) < 2 ^ 64 - 1 → Asks f false old new → AllZip SameView (views_of old) (views_of new)
    fetch_same old new below asks = views_same (views_of old) (views_of new) (follows_is old new asks.followed)
        (unmoved (view_sum (views_of old)) (view_sum (views_of new)) below (sym (faults_is new) ∙ asks.faults_go.still refl ∙ faults_is old))

    all_same : (marks : List Bool) (fetches asked : List (PeerFetch K D)) (rows : List (List D)) → AllShow desk_faults fetches → AllZip (Asks f false) fetches asked → AllSame desk_faults (with_all marks (desks_lent fetches) rows) (with_all marks (desks_lent asked) rows)
    all_same marks [] [] rows shows all = lists_same desk_faults rows
    all_same marks [] (new ∷ asked) rows shows all = absurd all
    all_same marks (fetch ∷ fetches) [] rows shows all = absurd all
    all_same marks (fetch ∷ fetches) (new ∷ asked) rows shows all =
        firsts_same marks (views_of fetch) (views_of new) (with_all marks (desks_lent fetches) rows) (with_all marks (desks_lent asked) rows) (fetch_same fetch new shows.0 all.0) (all_same marks fetches asked rows shows.1 all.1)

    pub none_failed : {Z : Type 0} (out : ℕ) (sites : List (Site K)) (olds news : List (List D)) (rows : List (Vec D Z)) (fetches asked now : List (PeerFetch K D)) → AreFetches sites fetches → Holds 0 out (marks_of sites) rows
        → olds ≡ with_all (marks_of sites) (desks_lent fetches) (lists_of rows) → now ≡ asked → news ≡ with_all (marks_of sites) (desks_lent now) (lists_of rows)
        → (AllShow desk_faults fetches → AllZip (Asks f false) fetches asked) → NoneFailed desk_faults olds news
    none_failed out sites olds news rows fetches asked now of holds was same is calm = λ below.
        let shows = all_below sites fetches (lists_of rows) (rows_many quiet quiet_desk desk_faults plan 0 out (marks_of sites) rows holds) of (subst (λ (lists : List (List D)). counts_of desk_faults lists < 2 ^ 64 - 1) was below) in
        subst (λ (lists : List (List D)). AllSame desk_faults lists news) (sym was)
        (subst (λ (lists : List (List D)). AllSame desk_faults (with_all (marks_of sites) (desks_lent fetches) (lists_of rows)) lists) (sym (is ∙ ap (λ (l : List (PeerFetch K D)). with_all (marks_of sites) (desks_lent l) (lists_of rows)) same))
        (all_same (marks_of sites) fetches asked (lists_of rows) shows (calm shows)))

-- each count shows a fault
pub shown_all : {K D : Type 0} (desk_faults : D → ℕ) (fetches : List (PeerFetch K D)) → AllShow desk_faults fetches → all_show desk_faults fetches ≡ true
shown_all desk_faults [] shows = refl
shown_all desk_faults (fetch ∷ fetches) shows =
    and_from (nat_lt (faults_of desk_faults (views_of fetch)) (2 ^ 64 - 1)) (all_show desk_faults fetches) (let first = shows.0 in grind (arith, nat_tests, first)) (shown_all desk_faults fetches shows.1)
