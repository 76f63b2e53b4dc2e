-- Identifiers, each once, in a short list or in a table.
use Rattle.std.specs.Prelude.{List}
use Rattle.mc_base.specs.declared.cid.Cid.{Cid}
use Rattle.mc_front.specs.declared.distinct.Distinct.{Distinct}
use Rattle.mc_front.specs.declared.distinct.Distinct.TheVariants.{Lent, Few, Many}

-- in their order
abbrev pub cids_in : Distinct → List Cid
cids_in (Lent cids) = cids.now
cids_in (Few cids) = cids
cids_in (Many cids) = cids.keys
