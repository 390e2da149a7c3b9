use Rattle.arrow_flat_growable.proofs.Common.{◌≡◌, map, take, row_bytes, with_waiting}
use Rattle.arrow_flat_growable.proofs.growable.waiting.append_waiting.Given as goal

-- the rows of the calls so far are appended
abbrev pub invariant-loop-part : goal.invariant-loop-part
invariant-loop-part g l =
    (l.rows.0 ≡ l.fn.rows.0) × (row_bytes l.rows.1 ≡ with_waiting (map (λ x. x.values) l.arrays) (row_bytes l.fn.rows.1) (take l.part-index l.waiting))
