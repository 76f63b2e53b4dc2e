-- Two lists of identifiers with the same members have the same blocks, where each has the same bytes in both.
use Rattle.std.proofs.Common.{◌≡◌, Bool, true, false, true≢false, ◌||◌, List, [], ◌∷◌, refl, sym, ◌∙◌, ap}
use Rattle.std.specs.Prelude.{map}
use Rattle.std.specs.List.{list_any}
use Rattle.mc_base.specs.declared.cid.Cid.{Cid}
use Rattle.mc_model.specs.declared.block.Block.{Block}
use Rattle.mc_model.specs.Front.{same_cid}
use Rattle.mc_model.specs.Graph.{has}
use Rattle.mc_model.specs.Kept.{block_in, block_under}
use Rattle.mc_model.specs.SameMembers.{SameMembers}
use Rattle.mc_model.specs.State.{blocks_of, kept_of}
use Rattle.mc_model.proofs.Counts.{cid_is, cid_itself}
use Rattle.mc_core.specs.Events.{ReplicaState}
use Rattle.mc_seats.specs.Step.{SameProcessed}
use Rattle.mc_runs.specs.OneEnd.{SameBytes}
use Rattle.mc_runs.proofs.OneClosure.{or_first}

or_rest : (a b : Bool) → (a || b) ≡ true → a ≡ false → b ≡ true
or_rest true b e f = absurd (true≢false f)
or_rest false b e f = e

or_second : (a b : Bool) → b ≡ true → (a || b) ≡ true
or_second true b e = refl
or_second false b e = e

both_ways : (a b : Bool) → (a ≡ true → b ≡ true) → (b ≡ true → a ≡ true) → a ≡ b
both_ways true b there back = sym (there refl)
both_ways false true there back = back refl
both_ways false false there back = refl

module _ {B : Type 0} (test : B → Bool) (f : Cid → B) where
  abbrev Passes : List Cid → Type 0
  Passes cids = (c : Cid) × (has c cids ≡ true) × (test (f c) ≡ true)

  here_or : (x : Cid) (cids : List Cid) (b : Bool) → test (f x) ≡ b → (test (f x) || list_any test (map f cids)) ≡ true → (list_any test (map f cids) ≡ true → Passes cids) → Passes (x ∷ cids)
  here_or x cids true e is rest = (x, or_first (same_cid x x) (has x cids) (cid_itself x), e)
  here_or x cids false e is rest =
      let more = rest (or_rest (test (f x)) (list_any test (map f cids)) is e) in (more.0, or_second (same_cid more.0 x) (has more.0 cids) more.1, more.2)

  any_is : (cids : List Cid) → list_any test (map f cids) ≡ true → Passes cids
  any_is [] is = absurd (true≢false (sym is))
  any_is (x ∷ cids) is = here_or x cids (test (f x)) refl is (λ more. any_is cids more)

  has_or : (c x : Cid) (cids : List Cid) (b : Bool) → same_cid c x ≡ b → (same_cid c x || has c cids) ≡ true → test (f c) ≡ true → (has c cids ≡ true → list_any test (map f cids) ≡ true) → (test (f x) || list_any test (map f cids)) ≡ true
  has_or c x cids true e in_list is rest = or_first (test (f x)) (list_any test (map f cids)) (ap (λ (d : Cid). test (f d)) (sym (cid_is c x e)) ∙ is)
  has_or c x cids false e in_list is rest = or_second (test (f x)) (list_any test (map f cids)) (rest (or_rest (same_cid c x) (has c cids) in_list e))

  any_has : (c : Cid) (cids : List Cid) → has c cids ≡ true → test (f c) ≡ true → list_any test (map f cids) ≡ true
  any_has c [] in_list is = absurd (true≢false (sym in_list))
  any_has c (x ∷ cids) in_list is = has_or c x cids (same_cid c x) refl in_list is (λ more. any_has c cids more is)

pub same_blocks : (s t : ReplicaState) → SameProcessed s t → SameBytes s t → SameMembers (blocks_of s.state.durable) (blocks_of t.state.durable)
same_blocks s t same bytes = record {
  same = λ test. both_ways _ _
      (λ is. let found = any_is test here s.state.durable.order is in any_has test there found.0 t.state.durable.order (sym (same found.0) ∙ found.1) (sym (ap test (one found.0 found.1)) ∙ found.2))
      (λ is. let found = any_is test there t.state.durable.order is in let in_both = same found.0 ∙ found.1 in any_has test here found.0 s.state.durable.order in_both (ap test (one found.0 in_both) ∙ found.2));
}
  where
    here : Cid → Block
    here = block_in (kept_of s.state.durable).graph

    there : Cid → Block
    there = block_in (kept_of t.state.durable).graph

    one : (c : Cid) → has c s.state.durable.order ≡ true → here c ≡ there c
    one c processed = ap (block_under c) (bytes c processed)
