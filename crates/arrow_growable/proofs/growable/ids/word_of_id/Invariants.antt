use Rattle.arrow_growable.proofs.Common.{◌≡◌, ◌≤◌, ◌-◌, length, take, have_id}
use Rattle.arrow_memory.specs.Words.{word_of}
use Rattle.arrow_growable.proofs.growable.ids.word_of_id.Given as goal

abbrev pub invariant-loop-row : goal.invariant-loop-row
invariant-loop-row l = (l.row ≤ length l.types) × (l.word ≡ word_of (have_id l.id (take l.row l.types)))

abbrev pub decreases-loop-row : goal.decreases-loop-row
decreases-loop-row l = length l.types - l.row

abbrev pub invariant-loop-row-2 : goal.invariant-loop-row-2
invariant-loop-row-2 l = (l.row ≤ length l.types) × (l.word ≡ word_of (have_id l.id (take l.row l.types)))

abbrev pub decreases-loop-row-2 : goal.decreases-loop-row-2
decreases-loop-row-2 l = length l.types - l.row
