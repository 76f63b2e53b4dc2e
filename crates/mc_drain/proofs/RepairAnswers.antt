-- What the answers of a repair say.
use Rattle.std.proofs.Common.{◌≡◌, ◌≢◌, ℕ, Bool, true, false, [], Option, Result, Ok, Err, refl, sym, ap, ◌∙◌, subst}
use Rattle.std.proofs.lemmas.Bool.{false≢true}
use Rattle.mc_model.specs.Wanted.{Queue}
use Rattle.mc_core.specs.Events.{ReplicaState}
use Rattle.mc_core.specs.declared.Settled.{Settled}
use Rattle.mc_core.specs.declared.Settled.TheVariants as settled
use Rattle.mc_drain.specs.declared.end.DrainEnd.{DrainEnd}
use Rattle.mc_drain.specs.declared.end.DrainEnd.TheVariants as end
use Rattle.mc_drain.specs.declared.repairing.Repaired.{Repaired}
use Rattle.mc_drain.specs.declared.working.WorkError.{WorkError}
use Rattle.mc_drain.specs.declared.working.WorkError.TheVariants as error
use Rattle.mc_drain.specs.Repairs.{RepairAnswer, RepairWants, has_walked, repaired_of, walk_error}
use Rattle.mc_drain.specs.Words.{IsBroken, is_keeper, is_peer}
use Rattle.mc_drain.specs.Works.{keeper_broke, peer_broke}

-- an answer fails as its walk or its drain does

pub cut_keeper : (stop : DrainEnd) (error : WorkError) → error ≡ walk_error stop → keeper_broke {T = ℕ} (Err error) ≡ is_keeper stop
cut_keeper end.Idle error is = ap (λ (e : WorkError). keeper_broke {T = ℕ} (Err e)) is
cut_keeper end.Spent error is = ap (λ (e : WorkError). keeper_broke {T = ℕ} (Err e)) is
cut_keeper end.KeeperFault error is = ap (λ (e : WorkError). keeper_broke {T = ℕ} (Err e)) is
cut_keeper end.PeerFault error is = ap (λ (e : WorkError). keeper_broke {T = ℕ} (Err e)) is
cut_keeper end.Memory error is = ap (λ (e : WorkError). keeper_broke {T = ℕ} (Err e)) is

pub cut_peer : (stop : DrainEnd) (error : WorkError) → error ≡ walk_error stop → peer_broke {T = ℕ} (Err error) ≡ false
cut_peer end.Idle error is = ap (λ (e : WorkError). peer_broke {T = ℕ} (Err e)) is
cut_peer end.Spent error is = ap (λ (e : WorkError). peer_broke {T = ℕ} (Err e)) is
cut_peer end.KeeperFault error is = ap (λ (e : WorkError). peer_broke {T = ℕ} (Err e)) is
cut_peer end.PeerFault error is = ap (λ (e : WorkError). peer_broke {T = ℕ} (Err e)) is
cut_peer end.Memory error is = ap (λ (e : WorkError). peer_broke {T = ℕ} (Err e)) is

pub cut_walks : (stop : DrainEnd) (error : WorkError) → error ≡ walk_error stop → IsBroken stop → has_walked (Err error) ≡ false
cut_walks end.Idle error is broken = absurd broken
cut_walks end.Spent error is broken = absurd broken
cut_walks end.KeeperFault error is broken = ap (λ (e : WorkError). has_walked (Err e)) is
cut_walks end.PeerFault error is broken = absurd broken
cut_walks end.Memory error is broken = ap (λ (e : WorkError). has_walked (Err e)) is

pub cut_wants : (stop : DrainEnd) (error : WorkError) (q : Queue) → error ≡ walk_error stop → q.flight ≡ [] → RepairWants (Err error) q
cut_wants end.Idle error q is none = subst (λ (e : WorkError). RepairWants (Err e) q) (sym is) none
cut_wants end.Spent error q is none = subst (λ (e : WorkError). RepairWants (Err e) q) (sym is) none
cut_wants end.KeeperFault error q is none = subst (λ (e : WorkError). RepairWants (Err e) q) (sym is) tt
cut_wants end.PeerFault error q is none = subst (λ (e : WorkError). RepairWants (Err e) q) (sym is) none
cut_wants end.Memory error q is none = subst (λ (e : WorkError). RepairWants (Err e) q) (sym is) none

abbrev was_stopped : {T : Type 0} → Result T WorkError → Bool
was_stopped (Ok value) = false
was_stopped (Err error.KeeperFault) = false
was_stopped (Err error.PeerFault) = false
was_stopped (Err error.Stopped) = true
was_stopped (Err error.Memory) = false

cut_runs_at : (stop : DrainEnd) → was_stopped {T = ℕ} (Err (walk_error stop)) ≡ false
cut_runs_at end.Idle = refl
cut_runs_at end.Spent = refl
cut_runs_at end.KeeperFault = refl
cut_runs_at end.PeerFault = refl
cut_runs_at end.Memory = refl

pub cut_runs : (stop : DrainEnd) (why : WorkError) → why ≡ walk_error stop → ◌≢◌ {A = Result ℕ WorkError} (Err why) (Err error.Stopped)
cut_runs stop why is e = absurd (false≢true (sym (cut_runs_at stop) ∙ ap (λ (x : WorkError). was_stopped {T = ℕ} (Err x)) (sym is) ∙ ap was_stopped e))

pub repair_keeper : (stop : DrainEnd) (before : ℕ) (state : Option ReplicaState) (result : Result Repaired WorkError) → RepairAnswer stop before state result → keeper_broke result ≡ is_keeper stop
repair_keeper end.Idle before state result answer = ap keeper_broke answer.1
repair_keeper end.Spent before state result answer = ap keeper_broke answer.1
repair_keeper end.KeeperFault before state result answer = ap keeper_broke answer
repair_keeper end.PeerFault before state result answer = ap keeper_broke answer
repair_keeper end.Memory before state result answer = ap keeper_broke answer

pub repair_peer : (stop : DrainEnd) (before : ℕ) (state : Option ReplicaState) (result : Result Repaired WorkError) → RepairAnswer stop before state result → peer_broke result ≡ is_peer stop
repair_peer end.Idle before state result answer = ap peer_broke answer.1
repair_peer end.Spent before state result answer = ap peer_broke answer.1
repair_peer end.KeeperFault before state result answer = ap peer_broke answer
repair_peer end.PeerFault before state result answer = ap peer_broke answer
repair_peer end.Memory before state result answer = ap peer_broke answer

pub repair_runs : (stop : DrainEnd) (before : ℕ) (state : Option ReplicaState) (result : Result Repaired WorkError) → RepairAnswer stop before state result → result ≢ Err error.Stopped
repair_runs end.Idle before state result answer e = absurd (false≢true (ap was_stopped (sym answer.1 ∙ e)))
repair_runs end.Spent before state result answer e = absurd (false≢true (ap was_stopped (sym answer.1 ∙ e)))
repair_runs end.KeeperFault before state result answer e = absurd (false≢true (ap was_stopped (sym answer ∙ e)))
repair_runs end.PeerFault before state result answer e = absurd (false≢true (ap was_stopped (sym answer ∙ e)))
repair_runs end.Memory before state result answer e = absurd (false≢true (ap was_stopped (sym answer ∙ e)))

settled_wants : (left : Settled) (q : Queue) → q.waiting ≡ [] → q.flight ≡ [] → RepairWants (Ok (repaired_of left)) q
settled_wants settled.Clean q waiting flight = (waiting, flight)
settled_wants (settled.Open gaps) q waiting flight = (waiting, flight)

-- what is wanted then
pub repair_wants : (stop : DrainEnd) (before : ℕ) (state : Option ReplicaState) (q : Queue) (result : Result Repaired WorkError) → RepairAnswer stop before state result → (is_keeper stop ≡ false → q.flight ≡ []) → (stop ≡ end.Idle → q.waiting ≡ [])
    → (stop ≡ end.Spent → q.waiting ≢ []) → RepairWants result q
repair_wants end.Idle before state q result answer flight idle spent = subst (λ (r : Result Repaired WorkError). RepairWants r q) (sym answer.1) (settled_wants answer.0 q (idle refl) (flight refl))
repair_wants end.Spent before state q result answer flight idle spent = subst (λ (r : Result Repaired WorkError). RepairWants r q) (sym answer.1) (spent refl, flight refl)
repair_wants end.KeeperFault before state q result answer flight idle spent = subst (λ (r : Result Repaired WorkError). RepairWants r q) (sym answer) tt
repair_wants end.PeerFault before state q result answer flight idle spent = subst (λ (r : Result Repaired WorkError). RepairWants r q) (sym answer) (flight refl)
repair_wants end.Memory before state q result answer flight idle spent = subst (λ (r : Result Repaired WorkError). RepairWants r q) (sym answer) (flight refl)
