use Rattle.arrow_logic.proofs.Common.{◌≡◌, Bool, List, length, without, word_of}
use Rattle.arrow_logic.proofs.substring.units.without_lowest.Given as goal

-- those that have been looked for are gone
abbrev pub invariant-loop : goal.invariant-loop
invariant-loop l = (bits : List Bool) → length bits ≡ 16 → l.fn.word ≡ word_of bits → l.left ≡ word_of (without l.counter bits)
