-- Lists of events, one after another, and cut short.
use Rattle.std.proofs.Common.{◌≡◌, Bool, true, false, List, [], ◌∷◌, ◌++◌, Option, Some, None, refl, sym, ◌∙◌, ap, subst, append_assoc, inl, inr}
use Rattle.mc_model.specs.Events.{Event}
use Rattle.mc_keep.specs.Causes.{CommitFails}
use Rattle.mc_plan.specs.Events.{ReplicaState, goes_on, all_happen, MayHappen, Goes, IsCutShort, CommitBreaks, Breaks}

pub all_happen-append : (first second : List Event) (s : ReplicaState) → all_happen s (first ++ second) ≡ all_happen (all_happen s first) second
all_happen-append [] second s = refl
all_happen-append (event ∷ first) second s = all_happen-append first second (goes_on s event)

pub may_happen-append : (first second : List Event) (s : ReplicaState) → MayHappen s first → MayHappen (all_happen s first) second → MayHappen s (first ++ second)
may_happen-append [] second s p q = q
may_happen-append (event ∷ first) second s p q = (p.0, p.1, may_happen-append first second (goes_on s event) p.2 q)

pub goes_then : (first second : List Event) (s mid new : ReplicaState) → Goes first s mid → Goes second mid new → Goes (first ++ second) s new
goes_then first second s mid new p q = record {
  may = may_happen-append first second s p.may (subst (λ x. MayHappen x second) p.ends q.may);
  ends = q.ends ∙ ap (λ x. all_happen x second) p.ends ∙ sym (all_happen-append first second s);
}

pub goes_nowhere : (s : ReplicaState) → Goes [] s s
goes_nowhere s = record { may = tt; ends = refl }

cut_none : (events : List Event) (rose : Type 0) (s new : ReplicaState) → IsCutShort [] rose s new → IsCutShort events rose s new
cut_none [] rose s new p = p
cut_none (event ∷ events) rose s new p = inl p

cut_more : (events more : List Event) (rose : Type 0) (s new : ReplicaState) → IsCutShort events rose s new → IsCutShort (events ++ more) rose s new
cut_more [] more rose s new p = cut_none more rose s new p
cut_more (event ∷ events) more rose s new p = p

-- what broke before its end is so wherever the list goes on
pub breaks_more : (events more : List Event) (rose : Type 0) (s new : ReplicaState) → Breaks events rose s new → Breaks (events ++ more) rose s new
breaks_more events more rose s new b = record {
  so_far = b.so_far;
  rest = b.rest ++ more;
  split = ap (λ (l : List Event). l ++ more) b.split ∙ append_assoc b.so_far b.rest more;
  may = b.may;
  fate = cut_more b.rest more rose (all_happen s b.so_far) new b.fate;
}

-- what broke after others
pub breaks_after : (first second : List Event) (rose : Type 0) (s mid new : ReplicaState) → Goes first s mid → Breaks second rose mid new → Breaks (first ++ second) rose s new
breaks_after first second rose s mid new p b = record {
  so_far = first ++ b.so_far;
  rest = b.rest;
  split = ap (λ (l : List Event). first ++ l) b.split ∙ sym (append_assoc first b.so_far b.rest);
  may = may_happen-append first b.so_far s p.may (subst (λ x. MayHappen x b.so_far) p.ends b.may);
  fate = subst (λ (x : ReplicaState). IsCutShort b.rest rose x new) (ap (λ x. all_happen x b.so_far) p.ends ∙ sym (all_happen-append first b.so_far s)) b.fate;
}

fails_rose : {X : Type 0} (fire : Option Bool) (P Q : Type 0) (old whole new : X) → (P → Q) → CommitFails fire P old whole new → CommitFails fire Q old whole new
fails_rose None P Q old whole new f p = (f p.0, p.1)
fails_rose (Some false) P Q old whole new f p = p
fails_rose (Some true) P Q old whole new f (inl p) = inl p
fails_rose (Some true) P Q old whole new f (inr p) = inr (f p.0, p.1)

commit_rose : (event : Event) (P Q : Type 0) (s new : ReplicaState) → (P → Q) → CommitBreaks event P s new → CommitBreaks event Q s new
commit_rose event P Q s new f b =
    record { commit = b.commit; may = b.may; left = b.left; fails = fails_rose _ P Q _ _ _ f b.fails; ends = b.ends }

cut_rose : (events : List Event) (P Q : Type 0) (s new : ReplicaState) → (P → Q) → IsCutShort events P s new → IsCutShort events Q s new
cut_rose [] P Q s new f p = (f p.0, p.1)
cut_rose (event ∷ events) P Q s new f (inl p) = inl (f p.0, p.1)
cut_rose (event ∷ events) P Q s new f (inr p) = inr (commit_rose event P Q s new f p)

pub breaks_rose : (events : List Event) (P Q : Type 0) (s new : ReplicaState) → (P → Q) → Breaks events P s new → Breaks events Q s new
breaks_rose events P Q s new f b = record { so_far = b.so_far; rest = b.rest; split = b.split; may = b.may; fate = cut_rose b.rest P Q (all_happen s b.so_far) new f b.fate }
