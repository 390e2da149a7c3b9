use Rattle.std.proofs.Common.{◌≢◌, ℕ, ◌<◌, ℤ, slice_index_or}
use Rattle.arrow_types.specs.Carried.{IsTypeId}
use Rattle.arrow_types.proofs.datatypes.carried.are_distinct_ids.Given as goal

abbrev pub invariant-loop-i : goal.invariant-loop-i
invariant-loop-i l = record {
  distinct : (a b : ℕ) (d : ℤ) → a < b → b < l.i → slice_index_or l.ids a d ≢ slice_index_or l.ids b d;
  type_ids : (k : ℕ) (d : ℤ) → k < l.i → IsTypeId (slice_index_or l.ids k d);
}
