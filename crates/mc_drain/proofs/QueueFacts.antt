-- What waits and what is in flight after the calls of a drain.
use Rattle.std.proofs.Common.{◌≡◌, true, false, not, cond, ◌||◌, List, [], ◌∷◌, ◌++◌, filter, Option, Some, None, refl, sym, ap, ◌∙◌}
use Rattle.std.specs.Prelude.{option_map}
use Rattle.std.proofs.lemmas.Bool.{false≢true}
use Rattle.mc_base.specs.declared.cid.Cid.{Cid}
use Rattle.mc_fetch.specs.declared.job.Delivered.{Delivered}
use Rattle.mc_fetch.specs.declared.job.Delivered.TheVariants.{Processed, Missing, Bad, Known}
use Rattle.mc_fetch.specs.declared.job.Job.{Job}
use Rattle.mc_model.specs.Graph.{has}
use Rattle.mc_model.specs.Wanted.{Queue, others, start_first, to_waiting, want, wanted, without}
use Rattle.mc_model.proofs.Counts.{cid_itself}
use Rattle.mc_queue.specs.Parts.{first_of}
use Rattle.mc_core.specs.Jobs.{WantsAfter, is_known}
use Rattle.mc_core.specs.Uptakes.{wants}
use Rattle.mc_drain.specs.Words.{Begins}

pub has_alone : (c : Cid) → has c (c ∷ []) ≡ true
has_alone c = ap (λ b. b || false) (cid_itself c)

pub others_alone : (c : Cid) (flight : List Cid) → flight ≡ c ∷ [] → others flight c ≡ []
others_alone c flight is = ap (λ cids. others cids c) is ∙ ap (λ b. cond (not b) (c ∷ []) []) (cid_itself c)

without_alone : (c : Cid) (flight : List Cid) → flight ≡ c ∷ [] → filter (λ d. not (has d (c ∷ []))) flight ≡ []
without_alone c flight is = ap (λ cids. filter (λ d. not (has d (c ∷ []))) cids) is ∙ ap (λ b. cond (not b) (c ∷ []) []) (has_alone c)

want_flight : (q : Queue) (c : Cid) → (want [] q c).flight ≡ q.flight
want_flight q c = elim (has c (wanted q)) as (λ t. (cond t q (to_waiting q c)).flight ≡ q.flight) [ true ↦ refl | false ↦ refl ]

pub wants_flight : (cids : List Cid) (q : Queue) → (wants q cids).flight ≡ q.flight
wants_flight [] q = refl
wants_flight (c ∷ cids) q = wants_flight cids (want [] q c) ∙ want_flight q c

-- the one that was in flight is there no more
pub flight_after : (delivered : Delivered) (q left : Queue) (c : Cid) → q.flight ≡ c ∷ [] → WantsAfter delivered q left c → is_known delivered ≡ not (has c q.flight) → left.flight ≡ []
flight_after (Processed position) q left c one after known = ap (λ (x : Queue). x.flight) after.1 ∙ wants_flight after.0 (without q (c ∷ [])) ∙ without_alone c q.flight one
flight_after Missing q left c one after known = ap (λ (x : Queue). x.flight) after ∙ others_alone c q.flight one
flight_after (Bad damage) q left c one after known = ap (λ (x : Queue). x.flight) after ∙ others_alone c q.flight one
flight_after Known q left c one after known = absurd (false≢true (sym (known ∙ ap (λ cids. not (has c cids)) one ∙ ap not (has_alone c))))

-- a job that began is the one in flight
pub started : (q left : Queue) (c : Cid) → q.flight ≡ [] → Some c ≡ first_of q.waiting → left ≡ start_first q q.waiting → left.flight ≡ c ∷ []
started q left c none first is = starts q.waiting refl
  where
    starts : (waiting : List Cid) → q.waiting ≡ waiting → left.flight ≡ c ∷ []
    starts [] e = absurd (let n : Some c ≡ None = first ∙ ap first_of e in cc n)
    starts (d ∷ rest) e =
        let n : Some c ≡ Some d = first ∙ ap first_of e in
        ap (λ (x : Queue). x.flight) (is ∙ ap (λ w. start_first q w) e) ∙ ap (λ (cids : List Cid). cids ++ d ∷ []) none ∙ ap (λ (x : Cid). x ∷ []) (sym (cc n))

-- where nothing waits, no job begins
pub not_started : (q left : Queue) → None ≡ first_of q.waiting → left ≡ start_first q q.waiting → (q.waiting ≡ []) × (left ≡ q)
not_started q left first is = over q.waiting refl
  where
    over : (waiting : List Cid) → q.waiting ≡ waiting → (q.waiting ≡ []) × (left ≡ q)
    over [] e = (e, is ∙ ap (λ w. start_first q w) e)
    over (d ∷ rest) e = absurd (let n : None ≡ Some d = first ∙ ap first_of e in cc n)

-- a job began, or none did
pub begins_from : (q left : Queue) (job : Option Job) → option_map (λ (j : Job). j.cid) job ≡ first_of q.waiting → left ≡ start_first q q.waiting → Begins q left job
begins_from q left None first is = not_started q left first is
begins_from q left (Some job) first is = (first, is)
