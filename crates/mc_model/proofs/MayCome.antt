-- What may be stored and processed in what a keeper tells, and that it stays sound.
use Rattle.std.proofs.Common.{◌≡◌, ◌≢◌, Bool, true, false, List, [], ◌++◌, sym, ap, ◌∙◌, subst, inl, inr, arith}
use Rattle.std.specs.List.{list_all, list_any}
use Rattle.std.proofs.lemmas.Bool.{or_cases}
use Rattle.mc_base.specs.declared.cid.Cid.{Cid}
use Rattle.mc_model.specs.declared.block.Stored.{Stored}
use Rattle.mc_model.specs.Ascending.{is_once}
use Rattle.mc_model.specs.Events.{Store, Process, MayRun}
use Rattle.mc_model.specs.Front.{same_cid, is_among}
use Rattle.mc_model.specs.Graph.{Vertex, has, in_graph}
use Rattle.mc_model.specs.Kept.{Kept, IsKept, is_stored, cids_of}
use Rattle.mc_model.specs.Offer.{is_good}
use Rattle.mc_model.specs.State.{Durable, DurableHolds, Running, durable_of, vertices}
use Rattle.mc_model.proofs.Blocks.{in_graph_stored}
use Rattle.mc_model.proofs.Bridge.{all_good, kept_holds, holds_kept}
use Rattle.mc_model.proofs.Commits.{apart_once, stored_apart, vertices-append}
use Rattle.mc_model.proofs.Counts.{all_has, has-append, times-append, in_graph_more}
use Rattle.mc_model.proofs.Sound.{all_good-append, stored_once}

pub may_store : (kept : Kept) (blocks : List Stored) (run : Running) → IsKept kept → list_all (λ (stored : Stored). is_good stored.cid stored.bytes) blocks ≡ true
    → list_any (λ (stored : Stored). is_stored kept.graph stored.cid) blocks ≡ false → is_once same_cid (cids_of blocks) ≡ true → MayRun (durable_of kept) run (Store (vertices blocks))
may_store kept blocks run sound good new once = (all_good blocks good, stored_apart kept.graph blocks sound.stored_once once new)

pub may_process : (kept : Kept) (cids : List Cid) (run : Running) → IsKept kept → cids ≢ [] → list_all (is_stored kept.graph) cids ≡ true
    → list_any (is_among kept.order) cids ≡ false → is_once same_cid cids ≡ true → MayRun (durable_of kept) run (Process cids)
may_process kept cids run sound some stored new once = (
  some,
  apart_once kept.order cids sound.order_once once new,
  λ c e. in_graph_stored kept.graph c ∙ all_has (is_stored kept.graph) cids stored c e,
)

abbrev told_with : List Cid → Bool → List Vertex → Durable
told_with order mark graph = record { graph = graph; order = order; mark = mark }

pub stays_sound : (kept : Kept) (blocks : List Stored) (cids : List Cid) (mark : Bool) → IsKept kept → list_all (λ (stored : Stored). is_good stored.cid stored.bytes) blocks ≡ true
    → list_any (λ (stored : Stored). is_stored kept.graph stored.cid) blocks ≡ false → is_once same_cid (cids_of blocks) ≡ true → list_all (is_stored (kept.graph ++ blocks)) cids ≡ true
    → list_any (is_among kept.order) cids ≡ false → is_once same_cid cids ≡ true → IsKept (record { graph = kept.graph ++ blocks; order = kept.order ++ cids; mark = mark })
stays_sound kept blocks cids mark sound good new once stored fresh distinct =
    let holds = kept_holds kept sound in
    holds_kept (record { graph = kept.graph ++ blocks; order = kept.order ++ cids; mark = mark })
    (subst DurableHolds (sym (ap (told_with (kept.order ++ cids) mark) (vertices-append kept.graph blocks))) (record {
      good = all_good-append (vertices kept.graph) (vertices blocks) holds.good (all_good blocks good);
      stored_once = stored_once (vertices kept.graph) (vertices blocks) (stored_apart kept.graph blocks sound.stored_once once new);
      order_once = λ c. omega (arith, apart_once kept.order cids sound.order_once distinct fresh c, times-append c kept.order cids);
      stored = λ c e. elim (or_cases (has c kept.order) (has c cids) (sym (has-append c kept.order cids) ∙ e)) [
        | inl h ↦ in_graph_more (vertices kept.graph) (vertices blocks) c (holds.stored c h)
        | inr h ↦ sym (ap (λ graph. in_graph graph c) (vertices-append kept.graph blocks)) ∙ in_graph_stored (kept.graph ++ blocks) c ∙ all_has (is_stored (kept.graph ++ blocks)) cids stored c h
      ];
    }))
