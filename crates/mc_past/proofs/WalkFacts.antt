-- How a walk down the links keeps to the processed blocks.
use Rattle.std.proofs.Common.{◌≡◌, ℕ, Bool, true, false, not, cond, ◌||◌, List, [], ◌∷◌, ◌++◌, Option, Some, None, Result, Ok, Err, refl, sym, ap, ◌∙◌, subst, inl, inr, ◌⊎◌}
use Rattle.std.specs.Prelude.{IfOk, IfSome, find, is_some, unwrap_or}
use Rattle.std.specs.List.{list_all, list_any}
use Rattle.std.specs.Option.{option_map}
use Rattle.std.proofs.lemmas.Bool.{and_parts, or_cases, or_parts}
use Rattle.std.proofs.lemmas.List.Folds.{list_any-append}
use Rattle.mc_base.specs.declared.cid.Cid.{Cid}
use Rattle.mc_keep.specs.Causes.{IfTold}
use Rattle.mc_model.proofs.Blocks.{block_in_cid}
use Rattle.mc_model.proofs.Counts.{cid_is}
use Rattle.mc_model.specs.declared.block.Block.{Block}
use Rattle.mc_model.specs.declared.block.Stored.{Stored}
use Rattle.mc_model.specs.Ascending.{is_once}
use Rattle.mc_model.specs.Front.{same_cid, is_among, is_processed}
use Rattle.mc_model.specs.Graph.{has}
use Rattle.mc_model.specs.Kept.{Kept, IsKept, block_in, block_under, blocks_in, bytes_at, is_stored, processed}
use Rattle.mc_model.specs.Live.{value}
use Rattle.mc_model.specs.Offer.{block_of, is_good}
use Rattle.mc_plan.specs.declared.error.CoreError.{CoreError}
use Rattle.mc_view.specs.Reach.{AreOf, ViewsAreOne, ViewsAreReach}
use Rattle.mc_view.specs.View.{IsView, Looks, cids_of, next_of}
use Rattle.mc_view.specs.declared.view.View.{View}
use Rattle.mc_past.specs.Past.{FoundsAreOne, IsFoundBelow}
use Rattle.mc_past.specs.Pasts.{IsWalkOf}
use Rattle.mc_past.specs.declared.past.Walk.{Walk}
use Rattle.mc_past.specs.Walks.{HasWalked, IsBlockOf, KeepsTo, WalksOn}

-- the identifiers of the processed blocks are those in the order of processing, each once

cids_are : (graph : List Stored) (order : List Cid) → cids_of (blocks_in graph order) ≡ order
cids_are graph [] = refl
cids_are graph (cid ∷ order) = ap (λ (c : Cid). c ∷ cids_of (blocks_in graph order)) (block_in_cid graph cid) ∙ ap (λ (z : List Cid). cid ∷ z) (cids_are graph order)

once_in : (kept : Kept) → IsKept kept → is_once same_cid (cids_of (processed kept)) ≡ true
once_in kept sound = ap (is_once same_cid) (cids_are kept.graph kept.order) ∙ sound.order_once

-- a stored block that is processed

stored_good : (graph : List Stored) (cid : Cid) (bytes : List ℕ) → list_all (λ (stored : Stored). is_good stored.cid stored.bytes) graph ≡ true → bytes_at graph cid ≡ Some bytes → is_good cid bytes ≡ true
stored_good [] cid bytes all e = absurd (let f : false ≡ true = ap is_some e in cc)
stored_good (s ∷ graph) cid bytes all e =
    let parts = and_parts (is_good s.cid s.bytes) (list_all (λ (stored : Stored). is_good stored.cid stored.bytes) graph) all in
    elim (same_cid cid s.cid) as (λ t. same_cid cid s.cid ≡ t → option_map (λ (stored : Stored). stored.bytes) (cond t (Some s) (find (λ (stored : Stored). same_cid cid stored.cid) graph)) ≡ Some bytes → is_good cid bytes ≡ true) [
      | true ↦ λ same h. subst (λ b. is_good cid b ≡ true) (ap (λ o. unwrap_or o bytes) h) (subst (λ c. is_good c s.bytes ≡ true) (sym (cid_is cid s.cid same)) parts.0)
      | false ↦ λ same h. stored_good graph cid bytes parts.1 h
    ] refl e

stored_in : (graph : List Stored) (order : List Cid) (cid : Cid) → list_all (is_stored graph) order ≡ true → has cid order ≡ true → is_stored graph cid ≡ true
stored_in graph [] cid all there = absurd (let f : false ≡ true = there in cc)
stored_in graph (c ∷ order) cid all there =
    let parts = and_parts (is_stored graph c) (list_all (is_stored graph) order) all in
    elim (or_cases (same_cid cid c) (has cid order) there) [
      | inl same ↦ subst (λ (d : Cid). is_stored graph d ≡ true) (sym (cid_is cid c same)) parts.0
      | inr later ↦ stored_in graph order cid parts.1 later
    ]

none_other : (graph : List Stored) (order : List Cid) (cid : Cid) (test : Block → Bool) → has cid order ≡ true → list_any test (blocks_in graph order) ≡ false → test (block_in graph cid) ≡ false
none_other graph [] cid test there none = absurd (let f : false ≡ true = there in cc)
none_other graph (c ∷ order) cid test there none =
    let parts = or_parts (test (block_in graph c)) (list_any test (blocks_in graph order)) none in
    elim (or_cases (same_cid cid c) (has cid order) there) [
      | inl same ↦ subst (λ (d : Cid). test (block_in graph d) ≡ false) (sym (cid_is cid c same)) parts.0
      | inr later ↦ none_other graph order cid test later parts.1
    ]

one_none : (b : Bool) → b ≡ false → (b || false) ≡ false
one_none true e = e
one_none false e = refl

-- what is kept has a law: each block in the order of processing is processed
abbrev pub OrderLaw : Type 0
OrderLaw = (kept : Kept) (cid : Cid) → has cid kept.order ≡ is_processed (processed kept) cid

pub place_found : (law : OrderLaw) (told : Option Kept) (place : Option ℕ) (cid : Cid) (found : Bool) → found ≡ is_some place → IfSome told (λ kept. is_some place ≡ is_among kept.order cid) → IfSome told (λ kept. found ≡ is_processed (processed kept) cid)
place_found law None place cid found is there = tt
place_found law (Some kept) place cid found is there = is ∙ there ∙ law kept cid

pub block_found : (law : OrderLaw) (told : Option Kept) (stored : Option (List ℕ)) (bytes text : List ℕ) (cid : Cid) (found : Option Block) → IfSome told IsKept → stored ≡ Some bytes → text ≡ bytes → IfSome told (λ kept. stored ≡ bytes_at kept.graph cid)
    → (is_good cid text ≡ true → found ≡ Some (block_of cid text)) → IfSome told (λ kept. is_processed (processed kept) cid ≡ true → IsBlockOf cid (processed kept) found)
block_found law None stored bytes text cid found sound is whole row good = tt
block_found law (Some kept) stored bytes text cid found sound is whole row good = λ there.
    let here : bytes_at kept.graph cid ≡ Some bytes = sym row ∙ is in
    let block : found ≡ Some (block_in kept.graph cid) =
    subst (λ t. is_good cid t ≡ true → found ≡ Some (block_of cid t)) whole good (stored_good kept.graph cid bytes sound.good here) ∙ ap (λ b. Some (block_under cid b)) (sym here) in
    subst (IsBlockOf cid (processed kept)) (sym block) (λ test none. one_none (test (block_in kept.graph cid)) (none_other kept.graph kept.order cid test (law kept cid ∙ there) none))

pub none_found : (law : OrderLaw) (told : Option Kept) (stored : Option (List ℕ)) (cid : Cid) → IfSome told IsKept → stored ≡ None → IfSome told (λ kept. stored ≡ bytes_at kept.graph cid)
    → IfSome told (λ kept. is_processed (processed kept) cid ≡ true → IsBlockOf cid (processed kept) None)
none_found law None stored cid sound is row = tt
none_found law (Some kept) stored cid sound is row = λ there.
    absurd (let f : true ≡ false = sym (stored_in kept.graph kept.order cid sound.stored (law kept cid ∙ there)) ∙ ap is_some (sym row ∙ is) in cc)

-- an identifier is processed, or isn't

pub not_there : (told : Option Kept) (cid : Cid) (found : Bool) → found ≡ false → IfSome told (λ kept. found ≡ is_processed (processed kept) cid) → IfSome told (λ kept. is_processed (processed kept) cid ≡ false)
not_there None cid found is row = tt
not_there (Some kept) cid found is row = sym row ∙ is

pub is_there : {T : Type 0} (P : Kept → T → Type 0) (told told_mid : Option Kept) (cid : Cid) (found : Bool) (result : Result T CoreError) → told_mid ≡ told → found ≡ true → IfSome told (λ kept. found ≡ is_processed (processed kept) cid)
    → IfTold told_mid result (λ kept value. is_processed (processed kept) cid ≡ true → P kept value) → IfTold told result P
is_there {T} P told told_mid cid found result same is row call = over told result row (subst (λ t. IfTold t result (λ kept value. is_processed (processed kept) cid ≡ true → P kept value)) same call)
  where
    over : (told : Option Kept) (result : Result T CoreError) → IfSome told (λ kept. found ≡ is_processed (processed kept) cid) → IfTold told result (λ kept value. is_processed (processed kept) cid ≡ true → P kept value) → IfTold told result P
    over None result row call = tt
    over (Some kept) (Ok value) row call = call (sym row ∙ is)
    over (Some kept) (Err error) row call = tt

-- one step of a walk

pub walk_ends : (reach : ViewsAreReach) (told : Option Kept) (view : View) (next : Option Cid) → next ≡ None → ((start : Cid) (blocks : List Block) (skipped : List Cid) → IsView start blocks skipped view → Looks start blocks skipped next)
    → IfSome told (λ kept. WalksOn false (processed kept) view view)
walk_ends reach None view next none looks = tt
walk_ends reach (Some kept) view next none looks = λ start once keeps. record {
  visited = keeps.visited;
  skipped = keeps.skipped;
  is = keeps.is;
  reach = reach (processed kept) keeps.visited start keeps.skipped once keeps.of_all keeps.is.down
      (λ cid met new.
      let all : (is_processed keeps.visited cid || is_among keeps.skipped cid) ≡ true = subst (Looks start keeps.visited keeps.skipped) none (looks start keeps.visited keeps.skipped keeps.is) cid met in
      sym (ap (λ b. b || is_among keeps.skipped cid) new) ∙ all)
      keeps.others;
}

pub walk_visits : (told : Option Kept) (cid : Cid) (found : Option Block) (block : Block) (old new : View) → found ≡ Some block → IfSome told (λ kept. IsBlockOf cid (processed kept) found)
    → ((start : Cid) (blocks : List Block) (skipped : List Cid) → IsView start blocks skipped old → IsView start (blocks ++ block ∷ []) skipped new) → IfSome told (λ kept. WalksOn true (processed kept) old new)
walk_visits None cid found block old new is row visit = tt
walk_visits (Some kept) cid found block old new is row visit = λ start keeps.
    let one : AreOf (processed kept) (block ∷ []) = subst (IsBlockOf cid (processed kept)) is row in
    record {
      visited = keeps.visited ++ block ∷ [];
      skipped = keeps.skipped;
      is = visit start keeps.visited keeps.skipped keeps.is;
      of_all = λ test none. list_any-append test keeps.visited (block ∷ []) ∙ ap (λ b. b || list_any test (block ∷ [])) (keeps.of_all test none) ∙ one test none;
      others = keeps.others;
    }

pub walk_skips : (told : Option Kept) (cid : Cid) (found : Option Block) (old new : View) → found ≡ None → IfSome told (λ kept. IsBlockOf cid (processed kept) found) → next_of old ≡ Some cid
    → ((start : Cid) (blocks : List Block) (skipped : List Cid) (cid : Cid) → next_of old ≡ Some cid → IsView start blocks skipped old → IsView start blocks (skipped ++ cid ∷ []) new) → IfSome told (λ kept. WalksOn true (processed kept) old new)
walk_skips None cid found old new is row next skip = tt
walk_skips (Some kept) cid found old new is row next skip = λ start keeps.
    let none : is_processed (processed kept) cid ≡ false = subst (IsBlockOf cid (processed kept)) is row in
    record {
      visited = keeps.visited;
      skipped = keeps.skipped ++ cid ∷ [];
      is = skip start keeps.visited keeps.skipped cid next keeps.is;
      of_all = keeps.of_all;
      others = λ other there. by keeps.skipped other none keeps.others (or_cases (is_among keeps.skipped other) (is_among (cid ∷ []) other) (sym (list_any-append (same_cid other) keeps.skipped (cid ∷ [])) ∙ there));
    }
  where
    by : (skipped : List Cid) (other : Cid) → is_processed (processed kept) cid ≡ false → ((cid : Cid) → is_among skipped cid ≡ true → is_processed (processed kept) cid ≡ false)
        → (is_among skipped other ≡ true) ⊎ (is_among (cid ∷ []) other ≡ true) → is_processed (processed kept) other ≡ false
    by skipped other none others (inl before) = others other before
    by skipped other none others (inr now) = subst (λ (c : Cid). is_processed (processed kept) c ≡ false) (sym (cid_is other cid (only (same_cid other cid) now))) none
      where
        only : (b : Bool) → (b || false) ≡ true → b ≡ true
        only true e = refl
        only false e = e

-- steps one after another

abbrev pub HasKept : Option Kept → Cid → View → Type 0
HasKept told start view = IfSome told (λ kept. KeepsTo (processed kept) start view)

-- the last walk goes on where it is from the same block

is_one : (b : Bool) → not b ≡ false → b ≡ true
is_one true e = refl
is_one false e = sym e

pub begun_again : (start : Cid) (last : Option Walk) (walk : Walk) (new : View) (other : Bool) → last ≡ Some walk → other ≡ not (same_cid walk.start start) → other ≡ false
    → ((start : Cid) (blocks : List Block) (skipped : List Cid) → IsView start blocks skipped walk.view → IsView start blocks [] new) → (blocks : List Block) → IfSome last (IsWalkOf blocks) → KeepsTo blocks start new
begun_again start last walk new other is here same again blocks fits =
    let walked : IsWalkOf blocks walk = subst (λ (o : Option Walk). IfSome o (IsWalkOf blocks)) is fits in
    record {
      visited = walked.visited;
      skipped = [];
      is = subst (λ (c : Cid). IsView c walked.visited [] new) (cid_is walk.start start (is_one (same_cid walk.start start) (sym here ∙ same))) (again walk.start walked.visited walked.skipped walked.is);
      of_all = walked.of_all;
      others = λ cid there. absurd (let f : false ≡ true = there in cc);
    }

-- a new walk has visited nothing, and so keeps to every list

pub begun_anew : {E : Type 0} (start : Cid) (last : Option Walk) (result : Result View E) → IfOk result (λ view. IsView start [] [] view)
    → IfOk result (λ view. (blocks : List Block) → IfSome last (IsWalkOf blocks) → KeepsTo blocks start view)
begun_anew start last (Ok view) is = λ blocks fits. record {
  visited = [];
  skipped = [];
  is = is;
  of_all = λ test none. refl;
  others = λ cid among. absurd (let f : false ≡ true = among in cc);
}
begun_anew start last (Err error) is = tt

pub kept_first : (told : Option Kept) (start : Cid) (last : Option Walk) (view : View) → IfSome told (λ kept. IfSome last (IsWalkOf (processed kept))) → ((blocks : List Block) → IfSome last (IsWalkOf blocks) → KeepsTo blocks start view) → HasKept told start view
kept_first None start last view fits keeps = tt
kept_first (Some kept) start last view fits keeps = keeps (processed kept) fits

pub kept_more : (told told_mid : Option Kept) (some : Bool) (start : Cid) (old new : View) → told_mid ≡ told → some ≡ true → HasKept told start old → IfSome told_mid (λ kept. WalksOn some (processed kept) old new) → HasKept told start new
kept_more told told_mid some start old new same is so step = over told so (subst (λ b. IfSome told (λ kept. WalksOn b (processed kept) old new)) is (subst (λ t. IfSome t (λ kept. WalksOn some (processed kept) old new)) same step))
  where
    over : (told : Option Kept) → HasKept told start old → IfSome told (λ kept. WalksOn true (processed kept) old new) → HasKept told start new
    over None so step = tt
    over (Some kept) so step = step start so

pub kept_last : (told told_mid : Option Kept) (some : Bool) (start : Cid) (old new : View) → IfSome told IsKept → told_mid ≡ told → some ≡ false → HasKept told start old → IfSome told_mid (λ kept. WalksOn some (processed kept) old new) → IfSome told (λ kept. HasWalked (processed kept) start new)
kept_last told told_mid some start old new sound same is so step = over told sound so (subst (λ b. IfSome told (λ kept. WalksOn b (processed kept) old new)) is (subst (λ t. IfSome t (λ kept. WalksOn some (processed kept) old new)) same step))
  where
    over : (told : Option Kept) → IfSome told IsKept → HasKept told start old → IfSome told (λ kept. WalksOn false (processed kept) old new) → IfSome told (λ kept. HasWalked (processed kept) start new)
    over None sound so step = tt
    over (Some kept) sound so step = step start (once_in kept sound) so

-- the value over what was visited
pub value_found : (told : Option Kept) (start : Cid) (view : View) (key : List ℕ) (found : Option (List ℕ)) → IfSome told (λ kept. HasWalked (processed kept) start view)
    → ((start : Cid) (blocks : List Block) (skipped : List Cid) → IsView start blocks skipped view → found ≡ value blocks key) → IfSome told (λ kept. is_processed (processed kept) start ≡ true → IsFoundBelow start key (processed kept) (Some found))
value_found None start view key found walked get = tt
value_found (Some kept) start view key found walked get = λ there. (there, (walked.visited, walked.reach, get start walked.visited walked.skipped walked.is))

-- there is one such value
pub one_found : ViewsAreOne → FoundsAreOne
one_found law blocks cid key None None once one other = refl
one_found law blocks cid key None (Some found) once one other = absurd (let f : false ≡ true = sym one ∙ other.0 in cc)
one_found law blocks cid key (Some found) None once one other = absurd (let f : false ≡ true = sym other ∙ one.0 in cc)
one_found law blocks cid key (Some found) (Some again) once one other = ap Some (one.1.2 ∙ law blocks one.1.0 cid key once one.1.1 other.1.0 other.1.1 ∙ sym other.1.2)
