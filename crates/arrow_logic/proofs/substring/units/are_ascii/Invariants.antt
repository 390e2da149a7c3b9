use Rattle.arrow_logic.proofs.Common.{◌≡◌, drop}
use Rattle.arrow_logic.proofs.TextLemmas.{together}
use Rattle.arrow_logic.proofs.substring.units.are_ascii.Given as goal

-- with the bytes that are left, those so far are all
abbrev pub invariant-loop-byte : goal.invariant-loop-byte
invariant-loop-byte l = together l.together (drop l.byte-index l.bytes) ≡ together 0 l.bytes
