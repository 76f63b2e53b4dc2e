-- The first damage of an offer, before a look at its node.
use Rattle.std.proofs.Common.{◌≡◌, ℕ, ◌<◌, ◌≤◌, List, length, Bool, true, false, not, refl, sym, ◌∙◌, Err}
use Rattle.std.proofs.lemmas.Bool.{lt-leb, le-leb, false≢true}
use Rattle.std.specs.Str.{bytes_eq}
use Rattle.mc_base.specs.Cid.{digest_of}
use Rattle.mc_base.specs.NodeRead.{node_of}
use Rattle.mc_base.specs.declared.cid.Cid.{Cid}
use Rattle.mc_model.specs.Offer.{TooLarge, WrongDigest, offer, block_max, block_of_node}

is_not : (same differs : Bool) → differs ≡ not same → differs ≡ true → same ≡ false
is_not true differs is e = absurd (false≢true (sym is ∙ e))
is_not false differs is e = refl

is_so : (same differs : Bool) → differs ≡ not same → differs ≡ false → same ≡ true
is_so true differs is e = refl
is_so false differs is e = absurd (false≢true (sym e ∙ is))

pub too_large : (cid : Cid) (bytes : List ℕ) → block_max < length bytes → offer cid bytes ≡ Err (TooLarge (length bytes))
unfolding offer
too_large cid bytes above = rw (lt-leb (length bytes) block_max above)

another_by : (cid : Cid) (bytes : List ℕ) → length bytes ≤ block_max → bytes_eq (digest_of bytes) cid.0 ≡ false → offer cid bytes ≡ Err (WrongDigest (digest_of bytes))
unfolding offer
another_by cid bytes fits other = rw (le-leb (length bytes) block_max fits, other)

pub node_by : (cid : Cid) (bytes : List ℕ) → length bytes ≤ block_max → bytes_eq (digest_of bytes) cid.0 ≡ true → offer cid bytes ≡ block_of_node cid (node_of bytes)
unfolding offer
node_by cid bytes fits same = rw (le-leb (length bytes) block_max fits, same)

pub another_digest : (cid : Cid) (bytes found : List ℕ) (differs : Bool) → length bytes ≤ block_max → found ≡ digest_of bytes → differs ≡ not (bytes_eq found cid.0) → differs ≡ true →
    offer cid bytes ≡ Err (WrongDigest found)
another_digest cid bytes found differs fits is told e = rw is (another_by cid bytes fits (is_not (bytes_eq (digest_of bytes) cid.0) differs (rw is at told) e))

pub as_node : (cid : Cid) (bytes found : List ℕ) (differs : Bool) → length bytes ≤ block_max → found ≡ digest_of bytes → differs ≡ not (bytes_eq found cid.0) → differs ≡ false →
    offer cid bytes ≡ block_of_node cid (node_of bytes)
as_node cid bytes found differs fits is told e = node_by cid bytes fits (is_so (bytes_eq (digest_of bytes) cid.0) differs (rw is at told) e)
