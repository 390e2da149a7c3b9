use Rattle.arrow_select.proofs.Common.{◌≡◌, ◌+◌, ◌-◌, List, [], ◌∷◌, length, Slot, any_array_rows, layout_of, grown_of, HasAppended}
use Rattle.arrow_select.proofs.FilterLemmas.{KeepsUpTo}
use Rattle.arrow_select.proofs.filter.any.append_selected.Given as goal

-- the rows so far are held, and those that the bits that are left select are all others
abbrev pub invariant-loop-row : goal.invariant-loop-row
invariant-loop-row l =
    (kept : List Slot) × HasAppended (layout_of l.array ∷ []) (grown_of l.growable) kept × KeepsUpTo kept l.left l.mask (any_array_rows l.array) l.row × (l.row + length l.left ≡ l.len)

-- the rows that are left
abbrev pub decreases-loop-row : goal.decreases-loop-row
decreases-loop-row l = l.len - l.row
