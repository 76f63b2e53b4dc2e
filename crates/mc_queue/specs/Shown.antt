-- What a queue shows: the four lists, and how many blocks may come without memory.
use Rattle.std.specs.Prelude.{Bool, not, ◌||◌, List, [], ◌++◌, if◌then◌else◌}
use Rattle.mc_base.specs.declared.cid.Cid.{Cid}
use Rattle.mc_model.specs.Graph.{has}
use Rattle.mc_model.specs.Wanted.{Queue, bad_cids, wanted, hear, want}
use Rattle.mc_queue.specs.declared.part.Part.{Part}
use Rattle.mc_queue.specs.declared.part.Part.TheVariants.{Waiting, Flight, Missing, Bad}

-- the blocks of a part
abbrev pub cids_of : Part → Queue → List Cid
cids_of Waiting q = q.waiting
cids_of Flight q = q.flight
cids_of Missing q = q.missing
cids_of Bad q = bad_cids q.bad

-- all of a part comes to the back of waiting, in its order
abbrev pub drained : Part → Queue → Queue
drained Waiting q = q
drained Flight q = record q { waiting = q.waiting ++ q.flight; flight = [] }
drained Missing q = record q { waiting = q.waiting ++ q.missing; missing = [] }
drained Bad q = record q { waiting = q.waiting ++ bad_cids q.bad; bad = [] }

-- a block is named: again, by a message, or for the first time, as a link
abbrev pub named : Bool → Queue → Cid → Queue
named again q c = if again then hear [] q c else want [] q c

-- whether a named block comes to waiting
abbrev pub comes : Bool → Queue → Cid → Bool
comes again q c = if again then not (has c q.waiting || has c q.flight) else not (has c (wanted q))
