-- What is found for each block, by a replica's own store and by a fetch.
use Rattle.std.specs.Prelude.{ℕ, List, Option, Some, None}
use Rattle.mc_model.specs.Draining.{bytes_in}
use Rattle.mc_model.specs.Graph.{Vertex}
use Rattle.mc_fetch.specs.Fits.{Map}
use Rattle.mc_fetch.specs.Offers.{Offered, found_by, surely_by}

-- own bytes go first
abbrev pub first_bytes : Option (List ℕ) → Option (List ℕ) → Option (List ℕ)
first_bytes None offered = offered
first_bytes (Some own) offered = Some own

-- what is found where these blocks are stored and a fetch finds this, where that is told
abbrev pub found_from : List Vertex → Option Map → Option Map
found_from graph None = None
found_from graph (Some offered) = Some (λ c. first_bytes (bytes_in graph c) (offered c))

-- What a fetch finds for each block: what all its places come to, where all are told, and what its leading places come
-- to, which is found whatever the others answer.
pub record Finds : Type 0 where
  pub all : Option Map
  pub surely : Map

abbrev pub finds_by : Option Offered → Offered → Finds
finds_by offers leading = record { all = found_by offers; surely = surely_by leading }

-- what is surely found where these blocks are stored
abbrev pub surely_from : List Vertex → Finds → Map
surely_from graph finds c = first_bytes (bytes_in graph c) (finds.surely c)
