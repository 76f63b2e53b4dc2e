-- The file of a keeper.
use Rattle.std.specs.Prelude.{ℕ, List}
use Rattle.mc_keep_sql.specs.declared.file.FileKeeper.{FileKeeper}

-- the name of the file that it was opened over
abbrev pub file_of : FileKeeper → List ℕ
file_of keeper = keeper.name
