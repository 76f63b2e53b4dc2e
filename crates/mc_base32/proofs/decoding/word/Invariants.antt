use Rattle.mc_base32.proofs.WordFacts.{IsPutTogether}
use Rattle.mc_base32.proofs.decoding.word.Given as goal

abbrev pub invariant-loop-byte : goal.invariant-loop-byte
invariant-loop-byte l = IsPutTogether l.case l.digits l.at l.place l.word l.byte-index
