use Rattle.arrow_flat_growable.proofs.Common.{◌≡◌, length, map, take, drop, unsigned_abs, mask, low_bits, grown_key}
use Rattle.arrow_flat_growable.proofs.growable.keys.moved.move_each.Given as goal

-- the keys so far are moved, and the others as they were
abbrev pub invariant-loop-k : goal.invariant-loop-k
invariant-loop-k g l = record {
  long : length l.keys ≡ length l.initial.keys;
  done : map g.K.NativeType.slot (take l.k l.keys) ≡ map (grown_key (unsigned_abs (g.K.NativeOrd.number l.by))) (take l.k (mask (low_bits l.half l.count) (map g.K.NativeType.slot l.initial.keys)));
  left : drop l.k l.keys ≡ drop l.k l.initial.keys;
}
