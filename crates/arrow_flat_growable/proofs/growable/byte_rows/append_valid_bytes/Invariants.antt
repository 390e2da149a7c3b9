use Rattle.arrow_flat_growable.proofs.Common.{◌≡◌, ◌+◌, ◌-◌, ◌++◌, length, sliced, BeginsWith, valid_values}
use Rattle.arrow_flat_growable.proofs.growable.byte_rows.append_valid_bytes.Given as goal

abbrev pub invariant-loop-row : goal.invariant-loop-row
invariant-loop-row g l =
    (l.row + length l.left ≡ l.end) × BeginsWith l.initial.bytes.items l.bytes.items × (l.bytes.items ++ valid_values l.left l.rows l.values l.row ≡ l.initial.bytes.items ++ valid_values (sliced l.validity l.start l.len) l.rows l.values l.start)

abbrev pub decreases-loop-row : goal.decreases-loop-row
decreases-loop-row g l = l.end - l.row
