use Rattle.arrow_logic.proofs.Common.{◌≡◌, ◌+◌, drop, skipped}
use Rattle.arrow_logic.proofs.substring.units.end_of_first.Given as goal

-- with the bytes before the characters that are left, those so far are all
abbrev pub invariant-loop-place : goal.invariant-loop-place
invariant-loop-place l = l.place + skipped l.left (drop l.place l.text) ≡ skipped l.fn.count l.text
