-- A fuse over many commits.
use Rattle.std.specs.Prelude.{ℕ, zero, suc, Option}
use Rattle.mc_keep.specs.declared.fuse.Fuse.{Fuse}
use Rattle.mc_keep.specs.Causes.{burnt}

-- a fuse after so many commits
abbrev pub burnt_by : ℕ → Option Fuse → Option Fuse
burnt_by zero fuse = fuse
burnt_by (suc commits) fuse = burnt_by commits (burnt fuse)
