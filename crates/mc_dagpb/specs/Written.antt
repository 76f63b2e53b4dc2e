-- The links of a written node.
use Rattle.std.specs.Prelude.{ℕ, List, ◌++◌, length, Bool, ◌==◌}
use Rattle.mc_base.specs.Cid.{cid_prefix}
use Rattle.mc_base.specs.declared.cid.Cid.{Cid}

-- the 36 bytes of an identifier
abbrev pub cid_bytes : Cid → List ℕ
cid_bytes cid = cid_prefix ++ cid.0

-- as every digest has: 32 bytes
abbrev pub has_digest : Cid → Bool
has_digest cid = length cid.0 == 32
