use Rattle.arrow_logic.proofs.Common.{◌*◌, boolean_rows}
use Rattle.arrow_logic.proofs.WordLemmas.{NoneTrueUpTo}
use Rattle.arrow_logic.proofs.boolean.any.Given as goal

-- no row of the words so far is true
abbrev pub invariant-loop-j : goal.invariant-loop-j
invariant-loop-j l = NoneTrueUpTo (boolean_rows l.array) (64 * l.j)
