use Rattle.std.proofs.Common.{sym}
use Rattle.mc_model.proofs.Blocks.{in_graph_stored, is_processed_has, links_in_stored, all_links_blocks}
use Rattle.mc_model.proofs.Back.{kept_back}
use Rattle.mc_model.proofs.Bridge.{kept_links, kept_linked, kept_gap, kept_gaps, kept_no_gaps, kept_head, kept_heads, kept_holds, holds_kept}
use Rattle.mc_model.proofs.MadeLinks.{heads_processed}
use Rattle.mc_model.proofs.kept.kept_is_durable.Goals as goal

pub returns-clause-stored : goal.returns-clause-stored
returns-clause-stored c kept cid = in_graph_stored kept.graph cid

pub returns-clause-processed : goal.returns-clause-processed
returns-clause-processed c kept cid = sym (is_processed_has kept.graph kept.order cid)

pub returns-clause-links : goal.returns-clause-links
returns-clause-links c = kept_links

pub returns-clause-linked : goal.returns-clause-linked
returns-clause-linked c = kept_linked

pub returns-clause-gap : goal.returns-clause-gap
returns-clause-gap c = kept_gap

pub returns-clause-gaps : goal.returns-clause-gaps
returns-clause-gaps c = kept_gaps

pub returns-clause-no_gaps : goal.returns-clause-no_gaps
returns-clause-no_gaps c = kept_no_gaps

pub returns-clause-head : goal.returns-clause-head
returns-clause-head c = kept_head

pub returns-clause-heads : goal.returns-clause-heads
returns-clause-heads c = kept_heads

pub returns-clause-made_links : goal.returns-clause-made_links
returns-clause-made_links c = heads_processed

pub returns-clause-back : goal.returns-clause-back
returns-clause-back c = kept_back

pub returns-clause-holds : goal.returns-clause-holds
returns-clause-holds c = kept_holds

pub returns-clause-kept : goal.returns-clause-kept
returns-clause-kept c = holds_kept

pub returns-clause-block_links : goal.returns-clause-block_links
returns-clause-block_links c kept cid = links_in_stored kept.graph cid

pub returns-clause-some_links : goal.returns-clause-some_links
returns-clause-some_links c kept cids = all_links_blocks kept.graph cids
