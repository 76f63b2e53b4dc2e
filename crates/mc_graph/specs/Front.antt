-- What further processed blocks and links do to the tables of the front.
use Rattle.std.specs.Prelude.{Bool, not, ◌&&◌, ◌||◌, List}
use Rattle.std.specs.List.{list_any}
use Rattle.mc_base.specs.declared.cid.Cid.{Cid}
use Rattle.mc_model.specs.Ascending.{is_once}
use Rattle.mc_model.specs.Front.{same_cid, is_among}

-- whether the identifiers are new to the keys, and none stands twice
abbrev pub are_fresh : List Cid → List Cid → Bool
are_fresh keys cids = not (list_any (is_among keys) cids) && is_once same_cid cids

-- whether an identifier is a gap after this one is processed
abbrev pub closed_by : Cid → Bool → Cid → Bool
closed_by cid there mark = not (same_cid cid mark) && there

-- whether it is one after a new link, unless that is among these
abbrev pub opened_by : List Cid → Cid → Bool → Cid → Bool
opened_by order cid there link = (same_cid cid link && not (is_among order link)) || there
