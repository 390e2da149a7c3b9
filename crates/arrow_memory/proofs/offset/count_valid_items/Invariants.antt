use Rattle.arrow_memory.proofs.Common.{◌≡◌, ◌+◌, ◌-◌, valid_items, sliced}
use Rattle.arrow_memory.proofs.offset.count_valid_items.Given as goal

-- with the rows that are left, those so far are all
abbrev pub invariant-loop-row : goal.invariant-loop-row
invariant-loop-row g l =
    l.items + valid_items (sliced l.validity l.row (l.start + l.len - l.row)) l.other l.row ≡ valid_items (sliced l.validity l.start l.len) l.other l.start
