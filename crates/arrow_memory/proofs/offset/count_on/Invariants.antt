use Rattle.arrow_memory.proofs.Common.{◌≡◌, pos, ◌+◌, ◌≤ℤ◌, ◌++◌, length, map, take, drop, unsigned_abs, sum, ends_from}
use Rattle.arrow_memory.proofs.offset.count_on.Given as goal

-- with the rows that are left, those so far are all
abbrev pub invariant-loop-k : goal.invariant-loop-k
invariant-loop-k g l = record {
  long : length l.ends ≡ length l.initial.ends;
  not_negative : pos 0 ≤ℤ g.O.NativeOrd.number l.last;
  left : drop l.k l.ends ≡ drop l.k l.initial.ends;
  total : unsigned_abs (g.O.NativeOrd.number l.last) + sum (drop l.k (map unsigned_abs (map g.O.NativeOrd.number l.initial.ends))) ≡ unsigned_abs (g.O.NativeOrd.number l.fn.last) + sum (map unsigned_abs (map g.O.NativeOrd.number l.initial.ends));
  ends : map g.O.NativeOrd.number (take l.k l.ends) ++ map pos (ends_from (unsigned_abs (g.O.NativeOrd.number l.last)) (drop l.k (map unsigned_abs (map g.O.NativeOrd.number l.initial.ends)))) ≡ map pos (ends_from (unsigned_abs (g.O.NativeOrd.number l.fn.last)) (map unsigned_abs (map g.O.NativeOrd.number l.initial.ends)));
}
