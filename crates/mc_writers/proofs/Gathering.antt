-- What holds while the seats of a storm's writers are split, and while they are joined again.
use Rattle.std.proofs.Common.{◌≡◌, ◌≤◌, ◌<◌, ◌+◌, ◌-◌, ◌/◌, ◌^◌, ℕ, zero, suc, Bool, false, ◌&&◌, List, [], ◌∷◌, ◌++◌, length, map, All, Option, Some, None, refl, sym, ap, ◌∙◌, subst, arith, length-append}
use Rattle.std.specs.Prelude.{is_some}
use Rattle.std.proofs.Math.Nat.{pow-succ'}
use Rattle.std.proofs.lemmas.Nat.{pow_pos}
use Rattle.std.proofs.lemmas.Bool.{false≢true}
use Rattle.std.proofs.lemmas.List.{map-append}
use Rattle.std.proofs.lemmas.List.Elements.{All-push, All-tail}
use Rattle.mc_turn.specs.declared.view.View.{View}
use Rattle.mc_turn.specs.Lists.{Begins, places, total}
use Rattle.mc_turn.specs.Views.{joined_view, left_view}
use Rattle.mc_turn.proofs.Lists.{begins_length, begins_self, begins_trans}
use Rattle.mc_storm.specs.declared.outcome.Stormed.{Stormed}
use Rattle.mc_writers.specs.Gathers.{Joined}
use Rattle.mc_storm.specs.Interleavings.{StormCall}
use Rattle.mc_node.specs.Items.{Item}
use Rattle.mc_writers.specs.Tooks.{Took}
use Rattle.mc_writers.specs.Writers.{HasWritten, IsBad, IsGood, WriterRan, both_of, made_of, same_of}
use Rattle.mc_writers.proofs.Joins.{joined_on, joined_start}
use Rattle.mc_writers.proofs.StormSeats.{bad_longer, begins_items, good_longer}

total_push : {A : Type 0} (f : A → ℕ) (xs : List A) (x : A) → total f (xs ++ x ∷ []) ≡ total f xs + f x
total_push f [] x = omega arith
total_push f (y ∷ ys) x = let h = total_push f ys x in omega (arith, h)

places_push : (first n : ℕ) → places first (suc n) ≡ places first n ++ (first + n) ∷ []
places_push first zero = let e : first ≡ first + 0 = omega arith in ap (λ m. m ∷ []) e
places_push first (suc n) = let e : suc first + n ≡ first + suc n = omega arith in ap (λ l. first ∷ l) (places_push (suc first) n ∙ ap (λ m. places (suc first) n ++ m ∷ []) e)

-- half of the parts are enough for one seat less
half : (n parts : ℕ) → 2 ^ suc n ≤ parts → 2 ^ n ≤ parts - parts / 2
half n parts e = let d = pow-succ' 2 n in omega (arith, e, d)

half_more : (n parts : ℕ) → 2 ^ suc n ≤ parts → 1 < parts
half_more n parts e = let d = pow-succ' 2 n in let p = pow_pos n in omega (arith, e, d, p)

-- seats are split from one
pub record IsHiring {E W : Type 0} (count index room : ℕ) (Owned : Type 0) (crew : List W) (first now : View E) (Ready : W → Type 0) (number parts_of : W → ℕ) : Type 0 where
  pub own : Owned
  pub enough : 2 ^ (count - index) ≤ now.parts
  pub seen_same : now.seen ≡ first.seen
  pub mine_same : now.mine ≡ first.mine
  pub base_same : now.base ≡ first.base
  pub ready : All Ready crew
  pub numbered : map number crew ≡ places 1 index
  pub shares : now.parts + total parts_of crew ≡ first.parts
  pub within : count ≤ room
  pub size : length crew ≡ index
  pub upto : index ≤ count

module _ {E W : Type 0} (count index room : ℕ) (Owned : Type 0) (crew : List W) (first now : View E) (Ready : W → Type 0) (number parts_of : W → ℕ) (h : IsHiring count index room Owned crew first now Ready number parts_of) where
  pub hiring_parts : index < count → 1 < now.parts
  hiring_parts lt = let e : count - index ≡ suc (count - suc index) = omega (arith, lt) in half_more (count - suc index) now.parts (subst (λ n. 2 ^ n ≤ now.parts) e h.enough)

  pub hiring_on : (next : ℕ) (Owned' : Type 0) (room' : ℕ) (crew' : List W) (w : W) (new : View E) → next ≡ suc index → index < count → Owned' → new ≡ left_view now → crew' ≡ crew ++ w ∷ [] → room ≤ room' → Ready w → number w ≡ next → parts_of w ≡ now.parts / 2
      → IsHiring count next room' Owned' crew' first new Ready number parts_of
  hiring_on next Owned' room' crew' w new e lt own is grown more ready n p = subst (λ (m : ℕ). IsHiring count m room' Owned' crew' first new Ready number parts_of) (sym e) (record {
    own = own;
    enough = let e : count - index ≡ suc (count - suc index) = omega (arith, lt) in subst (λ (v : View E). 2 ^ (count - suc index) ≤ v.parts) (sym is) (half (count - suc index) now.parts (subst (λ n. 2 ^ n ≤ now.parts) e h.enough));
    seen_same = ap (λ v. v.seen) is ∙ h.seen_same;
    mine_same = ap (λ v. v.mine) is ∙ h.mine_same;
    base_same = ap (λ v. v.base) is ∙ h.base_same;
    ready = subst (All Ready) (sym grown) (All-push Ready crew w h.ready ready);
    numbered = ap (map number) grown ∙ map-append number crew (w ∷ []) ∙ (λ i. h.numbered i ++ (n ∙ e) i ∷ []) ∙ (let e : suc index ≡ 1 + index = omega arith in ap (λ m. places 1 index ++ m ∷ []) e) ∙ sym (places_push 1 index);
    shares = let a = h.shares in let b : new.parts ≡ now.parts - now.parts / 2 = ap (λ v. v.parts) is in let c = ap (total parts_of) grown ∙ total_push parts_of crew w in omega (arith, a, b, c, p);
    within = let a = h.within in omega (arith, a, more);
    size = let a = h.size in let b = ap length grown ∙ length-append crew (w ∷ []) in omega (arith, a, b);
    upto = omega (arith, lt);
  })

pub hiring_start : {E W : Type 0} (count room : ℕ) (Owned : Type 0) (crew : List W) (first : View E) (Ready : W → Type 0) (number parts_of : W → ℕ) → Owned → 2 ^ count ≤ first.parts → crew ≡ [] → count ≤ room
    → IsHiring count 0 room Owned crew first first Ready number parts_of
hiring_start count room Owned crew first Ready number parts_of own enough none within = record {
  own = own;
  enough = let e : count ≡ count - 0 = omega arith in subst (λ n. 2 ^ n ≤ first.parts) e enough;
  seen_same = refl;
  mine_same = refl;
  base_same = refl;
  ready = subst (All Ready) (sym none) (λ k d lt. absurd (omega (arith, lt)));
  numbered = ap (map number) none;
  shares = let c = ap (total parts_of) none in omega (arith, c);
  within = within;
  size = ap length none;
  upto = omega arith;
}

-- seats are joined again
pub record IsGathering {E W : Type 0} (count writes : ℕ) (Owned : Type 0) (rest : List W) (wrote : Option Stormed) (log : List Item) (parts : ℕ) (first now : View E)
    (Mine Written : W → Type 0) (number parts_of : W → ℕ) : Type 0 where
  pub own : Owned
  pub done : ℕ
  pub upto : done + length rest ≡ count
  pub mine : All Mine rest
  pub written : All Written rest
  pub numbered : map number rest ≡ places (suc done) (length rest)
  pub begins : Begins first.seen now.seen
  pub base_same : now.base ≡ first.base
  pub shares : now.parts + total parts_of rest ≡ first.parts + parts
  pub joined : Joined done writes (length now.seen) (is_some wrote) (made_of wrote) (same_of wrote) now.mine (IsGood log) (IsBad log)

pub gathering_start : {E W : Type 0} (writes : ℕ) (Owned : Type 0) (crew rest : List W) (wrote : Option Stormed) (log : List Item) (first : View E) (Mine Written : W → Type 0) (number parts_of : W → ℕ)
    → Owned → first.mine ≡ [] → rest ≡ crew → wrote ≡ Some (record { made = 0; same = 0 }) → All Mine crew → All Written crew → map number crew ≡ places 1 (length crew)
    → IsGathering (length crew) writes Owned rest wrote log (total parts_of crew) first first Mine Written number parts_of
gathering_start writes Owned crew rest wrote log first Mine Written number parts_of own none is w mine written numbered = record {
  own = own;
  done = 0;
  upto = let e = ap length is in omega (arith, e);
  mine = subst (All Mine) (sym is) mine;
  written = subst (All Written) (sym is) written;
  numbered = ap (map number) is ∙ numbered ∙ ap (λ l. places 1 (length l)) (sym is);
  begins = begins_self first.seen;
  base_same = refl;
  shares = ap (λ l. first.parts + total parts_of l) is;
  joined = subst (λ (x : Option Stormed). Joined 0 writes (length first.seen) (is_some x) (made_of x) (same_of x) first.mine (IsGood log) (IsBad log)) (sym w) (joined_start writes (length first.seen) first.mine (IsGood log) (IsBad log) none);
}

none_kept : (count writes hi : ℕ) (done : Bool) (made same : ℕ) (mine : List ℕ) (Good Bad : Took StormCall → Type 0) → done ≡ false → Joined count writes hi done made same mine Good Bad → Joined count writes hi false 0 0 mine Good Bad
none_kept count writes hi done made same mine Good Bad is j = let k = subst (λ b. Joined count writes hi b made same mine Good Bad) is j in record {
  all = k.all;
  fails = k.fails;
  each = k.each;
  places_are = k.places_are;
  made_is = λ e. absurd (false≢true e);
  same_is = λ e. absurd (false≢true e);
  made_most = omega arith;
  same_most = omega arith;
  good = k.good;
  bad = k.bad;
}

-- the result of both
kept_both : (count writes hi : ℕ) (one other : Option Stormed) (mine : List ℕ) (Good Bad : Took StormCall → Type 0) → Joined count writes hi (is_some one && is_some other) (made_of one + made_of other) (same_of one + same_of other) mine Good Bad
    → Joined count writes hi (is_some (both_of one other)) (made_of (both_of one other)) (same_of (both_of one other)) mine Good Bad
kept_both count writes hi None other mine Good Bad j = none_kept count writes hi _ _ _ mine Good Bad refl j
kept_both count writes hi (Some one) None mine Good Bad j = none_kept count writes hi _ _ _ mine Good Bad refl j
kept_both count writes hi (Some one) (Some other) mine Good Bad j = j

head_is : {A : Type 0} (f : A → ℕ) (x : A) (xs : List A) (first n : ℕ) → map f (x ∷ xs) ≡ places first (length (x ∷ xs)) → f x ≡ first
head_is f x xs first n e = ap (first_of 0) e
  where
    first_of : ℕ → List ℕ → ℕ
    first_of d [] = d
    first_of d (y ∷ ys) = y

tail_is : {A : Type 0} (f : A → ℕ) (x : A) (xs : List A) (first : ℕ) → map f (x ∷ xs) ≡ places first (length (x ∷ xs)) → map f xs ≡ places (suc first) (length xs)
tail_is f x xs first e = ap rest_of e
  where
    rest_of : List ℕ → List ℕ
    rest_of [] = []
    rest_of (y ∷ ys) = ys

module _ {E W : Type 0} (item : E → Item) (count writes : ℕ) (Owned : Type 0) (rest : List W) (wrote : Option Stormed) (parts : ℕ) (first now : View E) (Mine Written : W → Type 0) (number parts_of : W → ℕ)
    (h : IsGathering count writes Owned rest wrote (map item now.seen) parts first now Mine Written number parts_of) where
  pub gathering_mine : (w : W) (rest' : List W) → rest ≡ w ∷ rest' → Mine w
  gathering_mine w rest' is = let each : All Mine (w ∷ rest') = subst (All Mine) is h.mine in each 0 w (omega arith)

  pub gathering_written : (w : W) (rest' : List W) → rest ≡ w ∷ rest' → Written w
  gathering_written w rest' is = let each : All Written (w ∷ rest') = subst (All Written) is h.written in each 0 w (omega arith)

  pub gathering_on : (w : W) (rest' : List W) (Owned' : Type 0) (wrote' more : Option Stormed) (other new : View E) → rest ≡ w ∷ rest' → Owned' → new ≡ joined_view now other → Begins now.seen new.seen → Begins other.seen new.seen
      → HasWritten (number w) writes more (map item other.seen) other → parts_of w ≡ other.parts → wrote' ≡ both_of wrote more
      → IsGathering count writes Owned' rest' wrote' (map item new.seen) parts first new Mine Written number parts_of
  gathering_on w rest' Owned' wrote' more other new is own joined b c ran p r =
      let numbers : map number (w ∷ rest') ≡ places (suc h.done) (length (w ∷ rest')) = ap (map number) (sym is) ∙ h.numbered ∙ ap (λ l. places (suc h.done) (length l)) is in
      let mine : new.mine ≡ now.mine ++ other.mine = ap (λ v. v.mine) joined in
      let one : WriterRan (suc h.done) writes ran.first (length other.seen) (is_some more) (made_of more) (same_of more) other.mine (IsGood (map item other.seen)) (IsBad (map item other.seen)) =
      subst (λ n. WriterRan n writes ran.first (length other.seen) (is_some more) (made_of more) (same_of more) other.mine (IsGood (map item other.seen)) (IsBad (map item other.seen))) (head_is number w rest' (suc h.done) 0 numbers) ran.ran in
      record {
        own = own;
        done = suc h.done;
        upto = let a = h.upto in let e = ap length is in omega (arith, a, e);
        mine = All-tail Mine w rest' (subst (All Mine) is h.mine);
        written = All-tail Written w rest' (subst (All Written) is h.written);
        numbered = tail_is number w rest' (suc h.done) numbers;
        begins = begins_trans first.seen now.seen new.seen h.begins b;
        base_same = ap (λ v. v.base) joined ∙ h.base_same;
        shares = let a = h.shares in let d : new.parts ≡ now.parts + other.parts = ap (λ v. v.parts) joined in let e = ap (total parts_of) is in omega (arith, a, d, e, p);
        joined = subst (λ (x : Option Stormed). Joined (suc h.done) writes (length new.seen) (is_some x) (made_of x) (same_of x) new.mine (IsGood (map item new.seen)) (IsBad (map item new.seen))) (sym r)
            (kept_both (suc h.done) writes (length new.seen) wrote more new.mine (IsGood (map item new.seen)) (IsBad (map item new.seen))
            (subst (λ (l : List ℕ). Joined (suc h.done) writes (length new.seen) (is_some wrote && is_some more) (made_of wrote + made_of more) (same_of wrote + same_of more) l (IsGood (map item new.seen)) (IsBad (map item new.seen))) (sym mine)
            (joined_on h.done writes (length now.seen) (length new.seen) ran.first (length other.seen) (is_some wrote) (is_some more) (made_of wrote) (same_of wrote) (made_of more) (same_of more) now.mine other.mine
            (IsGood (map item now.seen)) (IsBad (map item now.seen)) (IsGood (map item new.seen)) (IsBad (map item new.seen)) (IsGood (map item other.seen)) (IsBad (map item other.seen))
            h.joined one ran.begun (begins_length now.seen new.seen b) (begins_length other.seen new.seen c)
            (good_longer (map item now.seen) (map item new.seen) (begins_items item now.seen new.seen b)) (bad_longer (map item now.seen) (map item new.seen) (begins_items item now.seen new.seen b))
            (good_longer (map item other.seen) (map item new.seen) (begins_items item other.seen new.seen c)) (bad_longer (map item other.seen) (map item new.seen) (begins_items item other.seen new.seen c)))));
      }
