use Rattle.std.proofs.Common.{◌<◌, ℕ}
use Rattle.std.proofs.lemmas.List.Elements.{recursion_from_All}
use Rattle.mc_base32.proofs.Laws.{written_is_read}
use Rattle.mc_base32.proofs.encoding.read_again.Goals as goal

pub returns : goal.returns
returns c case bytes are = written_is_read case bytes (recursion_from_All (λ (byte : ℕ). byte < 256) bytes are)
