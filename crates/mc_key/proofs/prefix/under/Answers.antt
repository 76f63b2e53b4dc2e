use Rattle.std.proofs.Common.{arith}
use Rattle.std.proofs.lemmas.Bool.Decides.{nat_tests}
use Rattle.mc_key.proofs.PrefixFacts.{under_none, under_some}
use Rattle.mc_key.proofs.prefix.under.Goals as goal

pub returns-in-Some : goal.returns-in-Some
returns-in-Some c = under_some _ _ _ _ _ _ _ c.as_bytes.ensures.value c.as_bytes-2.ensures.value c.without_slashes-prefix.ensures (grind (arith, nat_tests, c.is_empty.ensures)) c.in-Some.ensures.cases.0 c.in-Some.ensures.cases.1 c.starts_with.ensures.value

pub returns-in-None : goal.returns-in-None
returns-in-None c = under_none _ _ _ _ _ c.as_bytes.ensures.value c.as_bytes-2.ensures.value c.without_slashes-prefix.ensures (grind (arith, nat_tests, c.is_empty.ensures)) c.in-None.ensures.cases
