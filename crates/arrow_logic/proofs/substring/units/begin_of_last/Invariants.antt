use Rattle.arrow_logic.proofs.Common.{◌≡◌, ◌+◌, ◌<◌, count_by, drop, begins}
use Rattle.arrow_logic.proofs.substring.units.begin_of_last.Given as goal

-- the characters that begin from here on, and those that are left
abbrev pub invariant-loop-place : goal.invariant-loop-place
invariant-loop-place l = record {
  some : 0 < l.left;
  counted : count_by begins (drop l.place l.text) + l.left ≡ l.fn.count;
}
