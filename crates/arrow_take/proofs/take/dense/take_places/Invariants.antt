use Rattle.arrow_take.proofs.Common.{◌≡◌, ◌<◌, ◌≤◌, ℕ, Some, get_or, length, map, IfSome, vec_len, vec_capacity, Null, rows_by, key_in, IsPlace}
use Rattle.arrow_take.proofs.take.dense.take_places.Given as goal

-- the places of the indices so far
abbrev pub invariant-loop-row : goal.invariant-loop-row
invariant-loop-row g l = record {
  each : (i : ℕ) → i < l.row → IfSome (key_in (get_or (rows_by (map g.I.NativeType.slot) l.indices) i Null)) (λ n. IsPlace l.values (Some n) (get_or (map g.I.NativeType.slot l.places.items) i Null));
  count : length l.places.items ≡ l.row;
  len : vec_len l.places ≡ l.row;
  capacity : length l.stored ≤ vec_capacity l.places;
}
