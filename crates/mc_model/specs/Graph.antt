-- Graphs of stored blocks: their links, gaps and heads, and what is reached in them.
use Rattle.std.specs.Prelude.{ℕ, ◌≡◌, Bool, true, false, not, ◌&&◌, List, [], ◌∷◌, ◌+◌, if◌then◌else◌, map, filter}
use Rattle.std.specs.Prelude.{find, Option, Some, None}
use Rattle.std.specs.List.{list_any, list_all, flat_map}
use Rattle.mc_base.specs.declared.cid.Cid.{Cid}
use Rattle.mc_model.specs.Front.{same_cid}

-- a stored block as the graph sees it: its identifier, its bytes, and what it links to
pub record Vertex : Type 0 where
  pub cid : Cid
  pub bytes : List ℕ
  pub links : List Cid

-- how often the list has the identifier
abbrev pub times : Cid → List Cid → ℕ
times c [] = 0
times c (x ∷ cids) = if same_cid c x then 1 + times c cids else times c cids

-- whether the list has the identifier
abbrev pub has : Cid → List Cid → Bool
has c cids = list_any (same_cid c) cids

-- the identifiers of a graph
abbrev pub cids_in : List Vertex → List Cid
cids_in graph = map (λ (vertex : Vertex). vertex.cid) graph

-- whether the block is stored
abbrev pub in_graph : List Vertex → Cid → Bool
in_graph graph c = list_any (λ (vertex : Vertex). same_cid c vertex.cid) graph

-- the links of a block, or none where it isn't stored
abbrev pub links_of : Option Vertex → List Cid
links_of None = []
links_of (Some vertex) = vertex.links

-- the links of one block of the graph
abbrev pub links_in : List Vertex → Cid → List Cid
links_in graph c = links_of (find (λ (vertex : Vertex). same_cid c vertex.cid) graph)

-- the links of these blocks, block by block, in the order of the links
abbrev pub all_links : List Vertex → List Cid → List Cid
all_links graph cids = flat_map (links_in graph) cids

-- whether each link of a processed block is processed
abbrev pub no_gaps : List Vertex → List Cid → Bool
no_gaps graph order = list_all (λ c. has c order) (all_links graph order)

-- the links of processed blocks that aren't processed, as often as they are linked to
abbrev pub gaps_in : List Vertex → List Cid → List Cid
gaps_in graph order = filter (λ c. not (has c order)) (all_links graph order)

-- the processed blocks that no processed block links to, in the order of processing
abbrev pub heads_in : List Vertex → List Cid → List Cid
heads_in graph order = filter (λ c. not (has c (all_links graph order))) order

-- whether the first block leads by links to the last, over those between
abbrev pub is_trail : List Vertex → Cid → List Cid → Cid → Bool
is_trail graph a [] c = has c (links_in graph a)
is_trail graph a (m ∷ between) c = has m (links_in graph a) && is_trail graph m between c

-- no block leads back to itself
abbrev pub HasNoCycle : List Vertex → Type 0
HasNoCycle graph = (a : Cid) (between : List Cid) → is_trail graph a between a ≡ false

-- whether the path, read from its end, goes from a start to the block by links within the graph
abbrev pub is_path : List Vertex → List Cid → List Cid → Cid → Bool
is_path graph start [] c = has c start && in_graph graph c
is_path graph start (m ∷ path) c = is_path graph start path m && (has c (links_in graph m) && in_graph graph c)

-- the block is in the least set that holds the starts within the graph, and with each block its links within the graph
pub record IsReached (graph : List Vertex) (start : List Cid) (c : Cid) : Type 0 where
  pub path : List Cid
  pub along : is_path graph start path c ≡ true
