-- The state of a replica: what outlives a stop, and what doesn't; and where it is sound.
use Rattle.std.specs.Prelude.{⊤, ℕ, ◌≤◌, ◌≡◌, Bool, true, false, not, List, [], ◌∷◌, ◌++◌, length, take, drop, map}
use Rattle.std.specs.Prelude.{Option, Some, None}
use Rattle.mc_base.specs.declared.cid.Cid.{Cid}
use Rattle.mc_model.specs.declared.block.Block.{Block}
use Rattle.mc_model.specs.declared.block.Stored.{Stored}
use Rattle.mc_model.specs.declared.delta.Element.{Element}
use Rattle.mc_model.specs.Graph.{Vertex, times, has, cids_in, in_graph, all_links, no_gaps}
use Rattle.mc_model.specs.Kept.{Kept, processed}
use Rattle.mc_model.specs.Offer.{is_good, block_of}
use Rattle.mc_model.specs.Wanted.{Queue, wanted, held, IsOnce}

-- what outlives a stop: the stored blocks, the order of the processed ones, and the dirty mark
pub record Durable : Type 0 where
  pub graph : List Vertex
  pub order : List Cid
  pub mark : Bool

-- the block that is stored with these bytes
abbrev pub vertex_of : Stored → Vertex
vertex_of stored = record { cid = stored.cid; bytes = stored.bytes; links = (block_of stored.cid stored.bytes).links }

-- the blocks that are stored
abbrev pub vertices : List Stored → List Vertex
vertices stored = map vertex_of stored

-- what a keeper tells, as this state
abbrev pub durable_of : Kept → Durable
durable_of kept = record { graph = vertices kept.graph; order = kept.order; mark = kept.mark }

-- what a keeper tells that stands for this state
abbrev pub stored_of : Vertex → Stored
stored_of vertex = record { cid = vertex.cid; bytes = vertex.bytes }

abbrev pub kept_of : Durable → Kept
kept_of durable = record { graph = map stored_of durable.graph; order = durable.order; mark = durable.mark }

-- the processed blocks, in the order of processing
abbrev pub blocks_of : Durable → List Block
blocks_of durable = processed (kept_of durable)

-- nothing is stored, and the mark is clear
abbrev pub nothing_durable : Durable
nothing_durable = record { graph = []; order = []; mark = false }

-- a batch that is open: the elements that it sets, and for each key that it deletes the blocks whose elements it hides
pub record OpenBatch : Type 0 where
  pub elements : List Element
  pub pairs : List (List ℕ × Cid)

-- a walk over the processed blocks: how many it visits, and the position that it visits next
abbrev pub Walk : Type 0
Walk = ℕ × ℕ

-- what is lost at a stop: the wanted set, the walk, the batch, and whether every gap is known to be wanted
pub record Running : Type 0 where
  pub queue : Queue
  pub walk : Option Walk
  pub batch : Option OpenBatch
  pub whole : Bool

-- a replica that runs, or doesn't
pub record State : Type 0 where
  pub durable : Durable
  pub run : Option Running

-- the bytes of a block are good under its identifier, and its links are those that they have
abbrev pub IsGoodVertex : Vertex → Type 0
IsGoodVertex vertex =
    (is_good vertex.cid vertex.bytes ≡ true) × (vertex.links ≡ (block_of vertex.cid vertex.bytes).links)

-- so is each of these
abbrev pub AllGood : List Vertex → Type 0
AllGood [] = ⊤
AllGood (vertex ∷ graph) = IsGoodVertex vertex × AllGood graph

-- each stored block is good, none is stored twice, none is processed twice, and each processed one is stored
pub record DurableHolds (durable : Durable) : Type 0 where
  pub good : AllGood durable.graph
  pub stored_once : (c : Cid) → times c (cids_in durable.graph) ≤ 1
  pub order_once : (c : Cid) → times c durable.order ≤ 1
  pub stored : (c : Cid) → has c durable.order ≡ true → in_graph durable.graph c ≡ true

-- each link of these blocks is processed or wanted
abbrev pub IsLinked : Durable → Queue → List Cid → Type 0
IsLinked durable q part = (c : Cid) → has c (all_links durable.graph part) ≡ true → 1 ≤ held durable.order q c

-- the positions that a walk has visited, and those that were added since it began
abbrev pub walked : List Cid → ℕ → ℕ → List Cid
walked order end next = take next order ++ drop end order

-- a walk visits no more than is processed, and the links of what it has visited, or was added since it began, are
-- processed or wanted
abbrev pub WalkHolds : Durable → Queue → Option Walk → Type 0
WalkHolds durable q None = ⊤
WalkHolds durable q (Some (end, next)) =
    (next ≤ end) × (end ≤ length durable.order) × IsLinked durable q (walked durable.order end next)

-- Where whole is true, there is no walk, every gap is wanted, and the mark is set exactly where there is a gap.
-- Where it is false, the mark is set, and the walk holds.
abbrev pub WholeHolds : Durable → Queue → Option Walk → Bool → Type 0
WholeHolds durable q walk true =
    (walk ≡ None) × IsLinked durable q durable.order × (durable.mark ≡ not (no_gaps durable.graph durable.order))
WholeHolds durable q walk false = (durable.mark ≡ true) × WalkHolds durable q walk

-- where a replica doesn't run, a clear mark means that there is no gap
abbrev pub RunHolds : Durable → Option Running → Type 0
RunHolds durable None = durable.mark ≡ false → no_gaps durable.graph durable.order ≡ true
RunHolds durable (Some run) = IsOnce durable.order run.queue × WholeHolds durable run.queue run.walk run.whole

-- what a keeper tells has a sound mark: where it is clear there is no gap
abbrev pub HasSoundMark : Kept → Type 0
HasSoundMark kept = RunHolds (durable_of kept) None

-- what outlives a stop is sound, and so is the rest with it
pub record IsSound (state : State) : Type 0 where
  pub durable : DurableHolds state.durable
  pub run : RunHolds state.durable state.run

-- whole is true
abbrev pub IsWhole : Option Running → Type 0
IsWhole None = ⊥
IsWhole (Some run) = run.whole ≡ true

-- what is wanted, where the replica runs
abbrev pub wanted_in : Option Running → List Cid
wanted_in None = []
wanted_in (Some run) = wanted run.queue
