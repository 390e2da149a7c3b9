use Rattle.arrow_take.proofs.Common.{◌≡◌, ◌<◌, ◌≤◌, ◌^◌, ℕ, ℤ, pos, get_or, length, map, take, count_by, range_with_len, int_eq, vec_len, vec_capacity, rank_at}
use Rattle.arrow_take.proofs.take.dense.rank.Given as goal

-- the rows of each id so far
abbrev pub invariant-loop-row : goal.invariant-loop-row
invariant-loop-row l = record {
  counts : (k : ℕ) → k < 128 → get_or l.counts.items k 0 ≡ count_by (int_eq (pos k)) (take l.row l.types);
  long : length l.counts.items ≡ 128;
  few : (id : ℤ) → count_by (int_eq id) (take l.row l.types) ≤ 2 ^ 31;
  items : l.offsets.items ≡ map pos (map (rank_at l.types) (range_with_len 0 l.row));
  len : vec_len l.offsets ≡ l.row;
  capacity : length l.types ≤ vec_capacity l.offsets;
}
