use Rattle.arrow_choice.proofs.Common.{◌-◌, ◌/◌, ◌<◌, ◌≤◌, boolean_rows, AreRowsOf}
use Rattle.arrow_choice.proofs.SideLemmas.{AreTruths}
use Rattle.arrow_choice.proofs.if_then_else.runs.run_end.Given as goal

-- the rows so far are so, and the words are those of the next one
abbrev pub invariant-loop-end : goal.invariant-loop-end
invariant-loop-end l =
    (l.start ≤ l.end) × (l.end ≤ l.len) × AreTruths (boolean_rows l.predicate) l.truth l.start l.end × (l.end < l.len → AreRowsOf (boolean_rows l.predicate) (l.end / 64) l.word.valid l.word.values)

abbrev pub decreases-loop-end : goal.decreases-loop-end
decreases-loop-end l = l.len - l.end
