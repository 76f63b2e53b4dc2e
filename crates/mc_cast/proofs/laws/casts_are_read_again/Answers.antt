use Rattle.std.proofs.Common.{◌≡◌, ℕ, List, length}
use Rattle.std.proofs.lemmas.List.Elements.{recursion_from_All}
use Rattle.mc_cast.proofs.LawFacts.{read_again}
use Rattle.mc_cast.proofs.laws.casts_are_read_again.Goals as goal

pub returns : goal.returns
returns c digests all = read_again c.written_is_read.ensures.part_field c.fields_are_read.ensures.read c.cids_are_read.ensures digests (recursion_from_All (λ (digest : List ℕ). length digest ≡ 32) digests all)
