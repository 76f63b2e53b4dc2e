-- What a queue shows: the four lists of the wanted set, and how many blocks may come without memory.
use Rattle.std.specs.Prelude.{ℕ}
use Rattle.mc_model.specs.Wanted.{Queue}
use Rattle.mc_queue.specs.declared.queue.Queue.{Queue as Parts}
use Rattle.mc_queue.specs.Fits.{shown_in}

-- the wanted set
abbrev pub shown : Parts → Queue
shown queue = shown_in queue.lists

-- how many blocks may come without memory
abbrev pub spare : Parts → ℕ
spare queue = queue.room
