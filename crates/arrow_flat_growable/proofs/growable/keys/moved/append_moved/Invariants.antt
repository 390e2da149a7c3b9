use Rattle.arrow_flat_growable.proofs.Common.{◌≡◌, ◌+◌, ◌-◌, ◌≤◌, ◌++◌, map, unsigned_abs, vec_len, vec_capacity, masked, sliced, grown_key}
use Rattle.std.specs.Prelude.{option_copied}
use Rattle.arrow_flat_growable.proofs.growable.keys.moved.append_moved.Given as goal

-- the keys of the rows so far
abbrev pub invariant-loop-row : goal.invariant-loop-row
invariant-loop-row g l = record {
  order : l.start ≤ l.row;
  within : l.row ≤ l.end;
  room : vec_len l.keys + (l.end - l.row) ≤ vec_capacity l.keys;
  slots : map g.K.NativeType.slot l.keys.items ≡ map g.K.NativeType.slot l.initial.keys.items ++ map (grown_key (unsigned_abs (g.K.NativeOrd.number l.by))) (sliced (masked (option_copied l.validity) (map g.K.NativeType.slot l.stored)) l.start (l.row - l.start));
}

abbrev pub decreases-loop-row : goal.decreases-loop-row
decreases-loop-row g l = l.end - l.row
