use Rattle.arrow_growable.proofs.Common.{◌≡◌, ◌<◌, ◌≤◌, ℕ, length, map, get_or, sliced, union_rows, IsFlat, grown_of, GrownFields}
use Rattle.arrow_growable.proofs.growable.fields.extend_fields.Given as goal

-- the children of the fields so far have grown; the others are as they were
abbrev pub invariant-loop-f : goal.invariant-loop-f
invariant-loop-f l =
    (length l.children ≡ length l.initial.children) × ((k : ℕ) (d : _) → l.f ≤ k → k < length l.children → IsFlat (get_or l.children k d)) × GrownFields l.array.arrow_type (sliced (union_rows l.array) l.start l.len) (map grown_of l.initial.children) (map grown_of l.children) l.f
