-- What a delivery leaves of a seat and of a giver.
use Rattle.std.proofs.Common.{◌≡◌, ◌+◌, ℕ, Bool, List, Option, Some, None, refl, sym, ap, ◌∙◌, subst, arith, inl, inr}
use Rattle.std.specs.Prelude.{Result, Ok, Err, IfOk, unwrap_or}
use Rattle.std.specs.Result.{is_ok}
use Rattle.std.proofs.lemmas.Bool.{false≢true}
use Rattle.mc_base.specs.declared.cid.Cid.{Cid}
use Rattle.mc_block.specs.Faults.{damage_of}
use Rattle.mc_block.specs.Reads.{IsDamage}
use Rattle.mc_block.specs.declared.fault.BlockError.{BlockError}
use Rattle.mc_block.specs.declared.fault.BlockError.TheVariants.{Damaged}
use Rattle.mc_block.specs.declared.fault.Damage.{Damage as BlockDamage}
use Rattle.mc_block.specs.declared.verified.Verified.{Verified}
use Rattle.mc_fetch.specs.declared.job.Found.{Found}
use Rattle.mc_fetch.specs.declared.job.Found.TheVariants.{Bytes}
use Rattle.mc_model.specs.Offer.{Damage, offer}
use Rattle.mc_turn.specs.declared.view.View.{View}
use Rattle.mc_turn.specs.Lists.{Begins}
use Rattle.mc_turn.specs.Views.{given_view, held_view, IsTaken}
use Rattle.mc_relay.specs.declared.view.EndView.{EndView}
use Rattle.mc_relay.specs.Passes.{with_full}
use Rattle.mc_worker.specs.declared.ends.ShopError.{ShopError}
use Rattle.mc_worker.specs.declared.handover.Handover.{Handover}
use Rattle.mc_worker.specs.declared.handover.Handover.TheVariants.{Delivered as NoBlock, Queued, Committed}
use Rattle.mc_node.specs.Handovers.{AddsFetched, HandDoes, HandsOver, HasCommitted, HasTriedOnce, IfCommitted, IfQueued, IsBlock, OnTaken, PushesOne, QueuedBy, UnlessQueued, WasPushed, committed_of}
use Rattle.mc_node.specs.Items.{Item}
use Rattle.mc_node.specs.Pieces.{TakeDoes}
use Rattle.mc_node.specs.Serves.{DeliverDoes}
use Rattle.mc_node.specs.Views.{Turned}
use Rattle.mc_node.proofs.SeatFacts.{committed_on}

pub no_queued : (r : Result ℕ ShopError) (P : ℕ → Type 0) → IfQueued (committed_of r) P
no_queued (Ok p) P = tt
no_queued (Err e) P = tt

-- what holds anyhow holds where a block was taken
on_taken : (r : Result Handover ShopError) (P : Type 0) → P → OnTaken r P
on_taken (Ok (Queued word)) P p = p
on_taken (Ok (Committed processed)) P p = p
on_taken (Ok (NoBlock delivered)) P p = tt
on_taken (Err error) P p = tt

on_queued : (r : Result Handover ShopError) (P : ℕ → Type 0) → ((word : ℕ) → P word) → IfQueued r P
on_queued (Ok (Queued word)) P p = p word
on_queued (Ok (Committed processed)) P p = tt
on_queued (Ok (NoBlock delivered)) P p = tt
on_queued (Err error) P p = tt

-- where none was taken, anything holds of it
taken_never : (r : Result Handover ShopError) (P : Type 0) → OnTaken r ⊥ → OnTaken r P
taken_never (Ok (Queued word)) P n = absurd n
taken_never (Ok (Committed processed)) P n = absurd n
taken_never (Ok (NoBlock delivered)) P n = tt
taken_never (Err error) P n = tt

queued_never : (r : Result Handover ShopError) (P : ℕ → Type 0) → OnTaken r ⊥ → IfQueued r P
queued_never (Ok (Queued word)) P n = absurd n
queued_never (Ok (Committed processed)) P n = tt
queued_never (Ok (NoBlock delivered)) P n = tt
queued_never (Err error) P n = tt

not_queued : (r : Result Handover ShopError) (P : ℕ → Type 0) → IfQueued r (λ word. ⊥) → IfQueued r P
not_queued (Ok (Queued word)) P n = absurd n
not_queued (Ok (Committed processed)) P n = tt
not_queued (Ok (NoBlock delivered)) P n = tt
not_queued (Err error) P n = tt

committed_never : (r : Result Handover ShopError) (P : ℕ → Type 0) → OnTaken r ⊥ → IfCommitted r P
committed_never (Ok (Queued word)) P n = tt
committed_never (Ok (Committed processed)) P n = absurd n
committed_never (Ok (NoBlock delivered)) P n = tt
committed_never (Err error) P n = tt

unless : (r : Result Handover ShopError) (P : Type 0) → P → UnlessQueued r P
unless (Ok (Queued word)) P p = tt
unless (Ok (Committed processed)) P p = p
unless (Ok (NoBlock delivered)) P p = p
unless (Err error) P p = p

-- bytes that are no block were not committed
pub none_taken : (cid : Cid) (r : Result Handover ShopError) → IfCommitted r (λ count. IsBlock cid None) → IfQueued r (λ word. ⊥) → OnTaken r ⊥
none_taken cid (Ok (Queued word)) block none = none
none_taken cid (Ok (Committed processed)) (bytes, block, is, good) none = absurd (cc is)
none_taken cid (Ok (NoBlock delivered)) block none = tt
none_taken cid (Err error) block none = tt

pub damaged_taken : (cid : Cid) (bytes : List ℕ) (why : Damage) (r : Result Handover ShopError) → offer cid bytes ≡ Err why → IfCommitted r (λ count. IsBlock cid (Some bytes)) → IfQueued r (λ word. ⊥) → OnTaken r ⊥
damaged_taken cid bytes why (Ok (Queued word)) damage block none = none
damaged_taken cid bytes why (Ok (Committed processed)) damage (found, made, is, good) none =
    let same : bytes ≡ found = ap (λ o. unwrap_or o bytes) is in
    false≢true (sym (ap is_ok damage) ∙ ap (λ b. is_ok (offer cid b)) same ∙ ap is_ok good)
damaged_taken cid bytes why (Ok (NoBlock delivered)) damage block none = tt
damaged_taken cid bytes why (Err error) damage block none = tt

-- nor were those that were read and refused
pub refused_taken : (cid : Cid) (bytes back : List ℕ) (cause : BlockError) (damage : BlockDamage) (r : Result Handover ShopError) → IsDamage (offer cid bytes) cause → cause ≡ Damaged damage → back ≡ bytes → IfCommitted r (λ count. IsBlock cid (Some back)) → IfQueued r (λ word. ⊥) → OnTaken r ⊥
refused_taken cid bytes back cause damage r refused is same block none =
    damaged_taken cid back (damage_of damage) r (ap (offer cid) same ∙ subst (IsDamage (offer cid bytes)) is refused) block none

module _ {E : Type 0} (limit : ℕ) (cid : Cid) (found : Found) (result : Result Handover ShopError) (before after : View E) (is_one : E → Bool) (read : List E → List Item) where
  turned_plain : Turned before after (λ old new. DeliverDoes limit cid found result (read old) (read new)) → Turned before after (λ old new. HandDoes limit cid found result (read old) (read new))
  turned_plain t = record { taken = t.taken; known = t.known; extends = t.extends; mine = t.mine; parts_same = t.parts_same; base_same = t.base_same; fits = inl t.fits }

  -- the block was pushed
  pub pushed_over : (v w : EndView Verified) → PushesOne cid found v w → HasTriedOnce before after → IfQueued result (QueuedBy before after) → IfCommitted result (HasCommitted is_one before after)
      → UnlessQueued result (Turned before after (λ old new. HandDoes limit cid found result (read old) (read new))) → HandsOver limit cid found result (Some v) (Some w) before after is_one read
  pushed_over v w one tried queued committed turned = record {
    given = on_taken result _ (inl one);
    once = on_taken result _ (λ same. tried);
    queued = queued;
    pushed = on_queued result (λ word. WasPushed cid found (Some v) (Some w)) (λ word. one);
    committed = committed;
    turned = turned;
  }

  -- the relay was full
  pub full_over : (v w : EndView Verified) → w ≡ with_full v → IfQueued result (λ word. ⊥) → IfCommitted result (HasCommitted is_one before after)
      → UnlessQueued result (Turned before after (λ old new. HandDoes limit cid found result (read old) (read new))) → HandsOver limit cid found result (Some v) (Some w) before after is_one read
  full_over v w full none committed turned = record {
    given = on_taken result _ (inr full);
    once = on_taken result _ (λ same. absurd (noted same));
    queued = not_queued result _ none;
    pushed = not_queued result _ none;
    committed = committed;
    turned = turned;
  }
    where
      noted : w.full ≡ v.full → ⊥
      noted same = let e : w.full ≡ v.full + 1 = ap (λ (x : EndView Verified). x.full) full in omega (arith, e, same)

  -- there is no giver
  pub alone_over : IfQueued result (λ word. ⊥) → IfCommitted result (HasCommitted is_one before after) → Turned before after (λ old new. DeliverDoes limit cid found result (read old) (read new)) → HandsOver limit cid found result None None before after is_one read
  alone_over none committed turned = record {
    given = on_taken result _ refl;
    once = on_taken result _ tt;
    queued = not_queued result _ none;
    pushed = not_queued result _ none;
    committed = committed;
    turned = unless result _ (turned_plain turned);
  }

  -- there is no block
  pub nothing_over : (gave : Option (EndView Verified)) → OnTaken result ⊥ → Turned before after (λ old new. DeliverDoes limit cid found result (read old) (read new)) → HandsOver limit cid found result gave gave before after is_one read
  nothing_over gave none turned = record {
    given = taken_never result _ none;
    once = taken_never result _ none;
    queued = queued_never result _ none;
    pushed = queued_never result _ none;
    committed = committed_never result _ none;
    turned = unless result _ (turned_plain turned);
  }

-- of a block that is said in another way
pub hands_as : {E : Type 0} (limit : ℕ) (cid cid' : Cid) (bytes bytes' : List ℕ) (result : Result Handover ShopError) (gave gives : Option (EndView Verified)) (before after : View E) (is_one : E → Bool) (read : List E → List Item) → cid ≡ cid' → bytes ≡ bytes'
    → HandsOver limit cid (Bytes bytes) result gave gives before after is_one read → HandsOver limit cid' (Bytes bytes') result gave gives before after is_one read
hands_as limit cid cid' bytes bytes' result gave gives before after is_one read named same hands =
    subst (λ (b : List ℕ). HandsOver limit cid' (Bytes b) result gave gives before after is_one read) same (subst (λ (c : Cid). HandsOver limit c (Bytes bytes) result gave gives before after is_one read) named hands)

-- of what is found, said in another way
pub hands_found : {E : Type 0} (limit : ℕ) (cid : Cid) (found found' : Found) (result : Result Handover ShopError) (gave gives : Option (EndView Verified)) (before after : View E) (is_one : E → Bool) (read : List E → List Item) → found ≡ found'
    → HandsOver limit cid found' result gave gives before after is_one read → HandsOver limit cid found result gave gives before after is_one read
hands_found limit cid found found' result gave gives before after is_one read same hands = subst (λ (f : Found). HandsOver limit cid f result gave gives before after is_one read) (sym same) hands

-- and of what the giver knows
pub hands_given : {E : Type 0} (limit : ℕ) (cid : Cid) (found : Found) (result : Result Handover ShopError) (gave gave' gives gives' : Option (EndView Verified)) (before after : View E) (is_one : E → Bool) (read : List E → List Item) → gave ≡ gave' → gives ≡ gives'
    → HandsOver limit cid found result gave' gives' before after is_one read → HandsOver limit cid found result gave gives before after is_one read
hands_given limit cid found result gave gave' gives gives' before after is_one read was is hands =
    subst (λ (v : Option (EndView Verified)). HandsOver limit cid found result v gives before after is_one read) (sym was) (subst (λ (w : Option (EndView Verified)). HandsOver limit cid found result gave' w before after is_one read) (sym is) hands)

-- the seat after a commit of the value that was taken
pub committed_taken : {E : Type 0} (is_one : E → Bool) (taken : Result ℕ ShopError) (result : Result Handover ShopError) (before held after : View E) (words : List ℕ) (old new : List E) → result ≡ committed_of taken → IsTaken before old → held ≡ held_view before words old → after ≡ given_view held new
    → IfOk taken (AddsFetched is_one old new) → IfCommitted result (HasCommitted is_one before after)
committed_taken {E} is_one taken result before held after words old new is known h a adds = committed_on is_one result before held after words old new known h a (subst (λ (r : Result Handover ShopError). IfCommitted r (AddsFetched is_one old new)) (sym is) (over taken adds))
  where
    over : (taken : Result ℕ ShopError) → IfOk taken (AddsFetched is_one old new) → IfCommitted (committed_of taken) (AddsFetched is_one old new)
    over (Ok count) adds = adds
    over (Err error) adds = tt

pub turned_taken : {E : Type 0} (limit : ℕ) (cid : Cid) (found : Found) (taken : Result ℕ ShopError) (result : Result Handover ShopError) (before held after : View E) (words : List ℕ) (old new : List E) (read : List E → List Item) → result ≡ committed_of taken → IsTaken before old → held ≡ held_view before words old → after ≡ given_view held new
    → Begins old new → TakeDoes limit cid taken (read old) (read new) → UnlessQueued result (Turned before after (λ old new. HandDoes limit cid found result (read old) (read new)))
turned_taken {E} limit cid found taken result before held after words old new read is known h a begins does =
    unless result _
    (let F : View E → View E = λ x. given_view x new in let e : after ≡ F (held_view before words old) = a ∙ ap F h in
    subst (λ (w : View E). Turned before w (λ old new. HandDoes limit cid found result (read old) (read new))) (sym e)
    (record { taken = old; known = known; extends = begins; mine = refl; parts_same = refl; base_same = refl; fits = inr (taken, is, does) }))
