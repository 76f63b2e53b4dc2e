use Rattle.mc_base.proofs.AsciiDigits.{utf8_parts}
use Rattle.mc_base.proofs.base32.encode32_after.Goals as goal

pub from_utf8_unchecked-requires : goal.from_utf8_unchecked-requires
from_utf8_unchecked-requires c = utf8_parts c.args.prefix.now c.args.bytes.now _ _ _ _ c.args.case c.utf8.prefix c.as_bytes.ensures.value c.in_ok-text.ensures.items c.in_ok-extend_from_slice.ensures.items c.in_ok-push_digits.ensures
