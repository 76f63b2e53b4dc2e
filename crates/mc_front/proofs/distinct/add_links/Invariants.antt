use Rattle.std.proofs.Common.{◌≡◌, take}
use Rattle.std.specs.Prelude.{fold}
use Rattle.indexmap.specs.IndexSet.{insert_key}
use Rattle.mc_model.specs.Front.{same_cid}
use Rattle.mc_front.proofs.distinct.add_links.Given as goal

abbrev pub invariant-loop-link : goal.invariant-loop-link
invariant-loop-link l = l.links ≡ fold (insert_key same_cid) l.initial.links (take l.link-index l.new)
