-- What a seat knows after a call.
use Rattle.std.proofs.Common.{◌≡◌, ℕ, ◌-◌, Bool, true, List, [], ◌∷◌, ◌++◌, length, refl, sym, ap, ◌∙◌, subst, Option, Some, append-nil, arith, length-append}
use Rattle.std.specs.Prelude.{Result, Ok, Err}
use Rattle.std.proofs.lemmas.Bool.{false≢true}
use Rattle.mc_base.specs.declared.counted.Counted as counted
use Rattle.mc_keep.specs.declared.keeper.Keeper as keeper
use Rattle.mc_turn.specs.declared.view.View.{View}
use Rattle.mc_turn.specs.Lists.{Begins, places}
use Rattle.mc_turn.proofs.Lists.{begins_trans}
use Rattle.mc_turn.specs.Views.{Extends, held_view, given_view, IsTaken}
use Rattle.mc_worker.specs.declared.ends.ShopError.{ShopError}
use Rattle.mc_worker.specs.declared.handover.Handover.{Handover}
use Rattle.mc_worker.specs.declared.handover.Handover.TheVariants.{Delivered as NoBlock, Queued, Committed}
use Rattle.mc_node.specs.declared.entry.Entry.{Entry}
use Rattle.mc_node.specs.declared.note.Note.{Note}
use Rattle.mc_node.specs.Entries.{begins_so, is_open}
use Rattle.mc_node.specs.Handovers.{AddsFetched, HasCommitted, IfCommitted}
use Rattle.mc_node.specs.Items.{is_unsealed}
use Rattle.mc_node.specs.Views.{Turned}

module _ {E : Type 0} where
  -- a value that was not changed extends itself
  pub extends_itself : (held : Option (List E)) (log : List E) → held ≡ Some log → Extends held log
  extends_itself held log is = subst (λ (h : Option (List E)). Extends h log) (sym is) ([], append-nil log)

  pub turned : (before held after : View E) (words : List ℕ) (old new : List E) (P : List E → List E → Type 0) → IsTaken before old → held ≡ held_view before words old → after ≡ given_view held new → Begins old new → P old new → Turned before after P
  turned before held after words old new P taken h a begins fits =
      let F : View E → View E = λ x. given_view x new in let is : after ≡ F (held_view before words old) = a ∙ ap F h in
      subst (λ (w : View E). Turned before w P) (sym is) (record { taken = old; known = taken; extends = begins; mine = refl; parts_same = refl; base_same = refl; fits = fits })

  -- a commit of the value that was taken
  pub committed_on : (is_one : E → Bool) (r : Result Handover ShopError) (before held after : View E) (words : List ℕ) (old new : List E) → IsTaken before old → held ≡ held_view before words old → after ≡ given_view held new
      → IfCommitted r (AddsFetched is_one old new) → IfCommitted r (HasCommitted is_one before after)
  committed_on is_one (Err e) before held after words old new taken h a made = tt
  committed_on is_one (Ok (NoBlock d)) before held after words old new taken h a made = tt
  committed_on is_one (Ok (Queued w)) before held after words old new taken h a made = tt
  committed_on is_one (Ok (Committed p)) before held after words old new taken h a made =
      let is : after ≡ given_view (held_view before words old) new = a ∙ ap (λ (v : View E). given_view v new) h in
      let count : length new - length old ≡ p = let l = ap length made.whole ∙ length-append old made.entries in let m = made.many in omega (arith, l, m) in
      record {
        taken = old;
        entries = made.entries;
        known = taken.seen;
        seen = ap (λ (v : View E). v.seen) is ∙ made.whole;
        many = made.many;
        kinds = made.kinds;
        mine = ap (λ (v : View E). v.mine) is ∙ ap (λ n. before.mine ++ places (length old) n) count;
      }

module _ {K D : Type 0} {g : keeper.Ghosts K D} {h : counted.Ghosts K} {i : counted.Ghosts D} where
  -- what a log begins with stays
  pub begins_on : (test : Note → Bool) (xs ys : List (Entry K D g h i)) → begins_so test xs ≡ true → Begins xs ys → begins_so test ys ≡ true
  begins_on test [] ys r b = absurd (false≢true r)
  begins_on test (x ∷ xs) ys r b = ap (begins_so test) (sym b.1) ∙ r

  pub open_on : (xs ys zs : List (Entry K D g h i)) → Begins xs ys → Begins ys zs → is_open xs ≡ true → is_open zs ≡ true
  open_on xs ys zs a b r = begins_on is_unsealed ys zs (begins_on is_unsealed xs ys r a) b

  -- and over a call of a node
  pub open_given : (before old new after : List (Entry K D g h i)) → Begins before old → Begins old new → after ≡ new → is_open before ≡ true → is_open after ≡ true
  open_given before old new after a b is o = subst (λ (l : List (Entry K D g h i)). is_open l ≡ true) (sym is) (open_on before old new a b o)

  pub begins_given : (test : Note → Bool) (before old new after : List (Entry K D g h i)) → Begins before old → Begins old new → after ≡ new → begins_so test before ≡ true → begins_so test after ≡ true
  begins_given test before old new after a b is o =
      subst (λ (l : List (Entry K D g h i)). begins_so test l ≡ true) (sym is) (begins_on test old new (begins_on test before old o a) b)

  pub seen_given : (before old new after : List (Entry K D g h i)) → Begins before old → Begins old new → after ≡ new → Begins before after
  seen_given before old new after a b is = subst (Begins before) (sym is) (begins_trans before old new a b)
