-- The lengths of blocks, by those of their parts.
use Rattle.std.specs.Prelude.{◌≡◌, ℕ, ◌+◌, ◌*◌, ◌-◌, ◌^◌, ◌<◌, ◌≤◌, List, length, min}
use Rattle.std.specs.List.{flat_map}
use Rattle.mc_base.specs.Node.{link_bytes}
use Rattle.mc_base.specs.Wire.{varint_bytes}
use Rattle.mc_base.specs.declared.cid.Cid.{Cid}
use Rattle.mc_model.specs.Offer.{block_max}

-- a length that may pass 64 bits
abbrev pub capped : ℕ → ℕ
capped len = min len (2 ^ 64 - 1)

-- the links of a block
abbrev pub links_length : List Cid → ℕ
links_length links = length (flat_map link_bytes links)

-- a field with a key of one byte and so many bytes
abbrev pub field_length : ℕ → ℕ
field_length len = 1 + length (varint_bytes len) + len

-- a block with so many bytes of links and a delta of so many bytes
abbrev pub block_length : ℕ → ℕ → ℕ
block_length links delta = links + field_length delta

-- a tombstone of a key of so many bytes: the id has 56
abbrev pub tomb_length : ℕ → ℕ
tomb_length key = field_length (field_length key + field_length 56)

-- of at most so many tombstones of one length, `taken` is the greatest number with which the block is not too large
pub record IsRoom (links base tomb most taken : ℕ) : Type 0 where
  pub within : taken ≤ most
  pub fits : 0 < taken → block_length links (base + taken * tomb) ≤ block_max
  pub full : taken < most → block_max < block_length links (base + (taken + 1) * tomb)

-- a key, and the bytes of its tombstones
pub record IsTombLen (key : List ℕ) (tomb : ℕ) : Type 0 where
  pub some : 1 ≤ length key
  pub short : length key ≤ 1024
  pub len : tomb ≡ tomb_length (length key)
  pub small : tomb ≤ 2048
