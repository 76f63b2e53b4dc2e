-- The links of bytes that are a block are the block's.
use Rattle.std.proofs.Common.{◌≡◌, Bool, true, false, cond, not, List, [], length, Result, Ok, Err, refl, sym, ap, ◌∙◌}
use Rattle.std.specs.Prelude.{unwrap_or, nat_le, ℕ}
use Rattle.std.specs.Result.{is_ok, result_ok}
use Rattle.std.specs.Str.{bytes_eq}
use Rattle.mc_base.specs.Cid.{digest_of}
use Rattle.mc_base.specs.NodeRead.{NodeFault, NodeText, node_of}
use Rattle.mc_base.specs.declared.cid.Cid.{Cid}
use Rattle.mc_model.specs.declared.block.Block.{Block}
use Rattle.mc_model.specs.declared.delta.Delta.{Delta}
use Rattle.mc_model.specs.Offer.{Damage, TooLarge, WrongDigest, offer, is_good, block_of, block_max, block_with, block_of_node, links_from, data_of, empty_delta}
use Rattle.mc_block.specs.Reads.{node_links, named_links}

-- a block, or one without links where there is none
abbrev block_or : Cid → Result Block Damage → Block
block_or cid found = unwrap_or (result_ok found) (record { cid = cid; links = []; delta = empty_delta })

with_links : (cid : Cid) (links : Result (List Cid) Damage) (delta : Result Delta Damage) → is_ok (block_with cid links delta) ≡ true → unwrap_or (result_ok links) [] ≡ (block_or cid (block_with cid links delta)).links
with_links cid (Err damage) delta good = absurd (let no : false ≡ true = good in cc)
with_links cid (Ok links) (Err damage) good = absurd (let no : false ≡ true = good in cc)
with_links cid (Ok links) (Ok delta) good = refl

of_node : (cid : Cid) (node : Result NodeText NodeFault) → is_ok (block_of_node cid node) ≡ true → unwrap_or (result_ok (node_links node)) [] ≡ (block_or cid (block_of_node cid node)).links
of_node cid (Err fault) good = absurd (let no : false ≡ true = good in cc)
of_node cid (Ok node) good = with_links cid (links_from 0 node.links) (data_of node.payload) good

of_offer : (large other : Bool) (a b : Damage) (cid : Cid) (node : Result NodeText NodeFault) → is_ok (cond large (Err a) (cond other (Err b) (block_of_node cid node))) ≡ true
    → unwrap_or (result_ok (node_links node)) [] ≡ (block_or cid (cond large (Err a) (cond other (Err b) (block_of_node cid node)))).links
of_offer true other a b cid node good = absurd (let no : false ≡ true = good in cc)
of_offer false true a b cid node good = absurd (let no : false ≡ true = good in cc)
of_offer false false a b cid node good = of_node cid node good

pub good_links : (cid : Cid) (bytes : List ℕ) → is_good cid bytes ≡ true → named_links bytes ≡ (block_of cid bytes).links
unfolding offer
good_links cid bytes good =
    of_offer (not (nat_le (length bytes) block_max)) (not (bytes_eq (digest_of bytes) cid.0)) (TooLarge (length bytes)) (WrongDigest (digest_of bytes)) cid (node_of bytes) good

pub good_named : (bytes : List ℕ) (links : List Cid) → node_links (node_of bytes) ≡ Ok links → (cid : Cid) → is_good cid bytes ≡ true → links ≡ (block_of cid bytes).links
good_named bytes links is cid good = sym (ap (λ r. unwrap_or (result_ok r) []) is) ∙ good_links cid bytes good

pub none_good : (bytes : List ℕ) (damage : Damage) (links : List Cid) → node_links (node_of bytes) ≡ Err damage → links ≡ [] → (cid : Cid) → is_good cid bytes ≡ true → links ≡ (block_of cid bytes).links
none_good bytes damage links is none cid good = none ∙ sym (ap (λ r. unwrap_or (result_ok r) []) is) ∙ good_links cid bytes good
