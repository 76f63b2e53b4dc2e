-- The links of processed blocks, and the heads and gaps that follow from them.
use Rattle.std.specs.Prelude.{ℕ, Bool, not, ◌&&◌, List, map, filter, find, Option, None, if◌then◌else◌}
use Rattle.std.specs.List.{flat_map, list_any}
use Rattle.std.specs.Option.{option_map}
use Rattle.std.specs.Ordering.{nat_cmp, on, then_cmp}
use Rattle.std.specs.declared.cmp.Ordering.{Ordering}
use Rattle.std.specs.Cmp.Lexicographic.{slice_cmp}
use Rattle.std.specs.Str.{bytes_eq}
use Rattle.mc_base.specs.declared.cid.Cid.{Cid}
use Rattle.mc_model.specs.declared.block.Block.{Block}
use Rattle.mc_model.specs.Ascending.{ascending, once}

-- whether two identifiers are equal, by their digests
abbrev pub same_cid : Cid → Cid → Bool
same_cid a b = bytes_eq a.0 b.0

abbrev pub is_among : List Cid → Cid → Bool
is_among cids cid = list_any (same_cid cid) cids

-- whether a block has the identifier
abbrev pub is_processed : List Block → Cid → Bool
is_processed blocks cid = list_any (λ (block : Block). same_cid cid block.cid) blocks

-- whether a block links to it
abbrev pub is_linked : List Block → Cid → Bool
is_linked blocks cid = list_any (λ (block : Block). is_among block.links cid) blocks

-- all links, block by block, in the order of the links
abbrev pub links : List Block → List Cid
links blocks = flat_map (λ (block : Block). block.links) blocks

-- what a block links to and is no block itself
abbrev pub is_gap : List Block → Cid → Bool
is_gap blocks cid = is_linked blocks cid && not (is_processed blocks cid)

-- the gaps, each once
abbrev pub gaps : List Block → List Cid
gaps blocks = once same_cid (filter (λ cid. not (is_processed blocks cid)) (links blocks))

-- an identifier with the height of its block, the priority of its delta
abbrev pub Head : Type 0
Head = Cid × ℕ

abbrev pub head_of : Block → Head
head_of block = (block.cid, block.delta.priority)

-- by the digest, and then by the height
abbrev pub head_cmp : Head → Head → Ordering
head_cmp = then_cmp (on (λ (head : Head). head.0.0) (slice_cmp nat_cmp)) (on (λ (head : Head). head.1) nat_cmp)

-- the blocks that no block links to, ascending
abbrev pub heads : List Block → List Head
heads blocks = ascending head_cmp (map head_of (filter (λ (block : Block). not (is_linked blocks block.cid)) blocks))

-- the height of the head with this identifier, where there is one
abbrev pub head_at : List Block → Cid → Option ℕ
head_at blocks cid =
    if is_linked blocks cid then None
    else option_map (λ (block : Block). block.delta.priority) (find (λ (block : Block). same_cid cid block.cid) blocks)
