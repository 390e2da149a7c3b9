use Rattle.arrow_growable.proofs.Common.{◌≡◌, ◌<◌, ℕ, length, map, take, values_before, keyed_layout, slice_index}
use Rattle.arrow_growable.proofs.growable.dictionary.starts_of.Given as goal

-- where the values of the arrays so far begin, and those of the next one
abbrev pub invariant-loop-array : goal.invariant-loop-array
invariant-loop-array l =
    (length l.starts.items ≡ l.array-index) × ((j : ℕ) → j < l.array-index → slice_index l.starts.items j ≡ values_before (take j (map (λ r. keyed_layout r.now) l.arrays))) × (l.start ≡ values_before (take l.array-index (map (λ r. keyed_layout r.now) l.arrays)))
