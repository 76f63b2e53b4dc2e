-- The views that a fetch from peers holds.
use Rattle.std.specs.Prelude.{List}
use Rattle.mc_fetch.specs.declared.peers.PeerView.{PeerView}
use Rattle.mc_fetch.specs.declared.peers.PeerFetch.{PeerFetch}

abbrev pub views_of : {K Desk : Type 0} → PeerFetch K Desk → List (PeerView K Desk)
views_of fetch = fetch.views.items
