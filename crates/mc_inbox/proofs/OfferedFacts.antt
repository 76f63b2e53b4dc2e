-- Blocks whose bytes are those that are found, in the inbox and out of it.
use Rattle.std.proofs.Common.{◌≡◌, ℕ, zero, suc, List, [], ◌∷◌, ◌++◌, take, drop, Some}
use Rattle.mc_model.specs.declared.block.Stored.{Stored}
use Rattle.mc_model.specs.Draining.{FoundBytes}
use Rattle.mc_inbox.specs.Groups.{AreOffered}

pub offered_more : (bytes_of : FoundBytes) (items : List Stored) (x : Stored) → AreOffered bytes_of items → bytes_of x.cid ≡ Some x.bytes → AreOffered bytes_of (items ++ x ∷ [])
offered_more bytes_of [] x h here = (here, tt)
offered_more bytes_of (i ∷ items) x h here = (h.0, offered_more bytes_of items x h.1 here)

pub offered_drop : (bytes_of : FoundBytes) (n : ℕ) (items : List Stored) → AreOffered bytes_of items → AreOffered bytes_of (drop n items)
offered_drop bytes_of zero items h = h
offered_drop bytes_of (suc n) [] h = tt
offered_drop bytes_of (suc n) (i ∷ items) h = offered_drop bytes_of n items h.1

pub offered_take : (bytes_of : FoundBytes) (n : ℕ) (items : List Stored) → AreOffered bytes_of items → AreOffered bytes_of (take n items)
offered_take bytes_of zero items h = tt
offered_take bytes_of (suc n) [] h = tt
offered_take bytes_of (suc n) (i ∷ items) h = (h.0, offered_take bytes_of n items h.1)
