use Rattle.arrow_flat_growable.proofs.Common.{◌-◌, ◌≤◌, map, rows_by}
use Rattle.arrow_flat_growable.proofs.GrownKeyLemmas.{GrowsUpTo}
use Rattle.arrow_flat_growable.proofs.growable.keys.append_keys.Given as goal

-- the keys of the rows so far
abbrev pub invariant-loop-i : goal.invariant-loop-i
invariant-loop-i g l =
    (l.start ≤ l.i) × GrowsUpTo g.K.NativeType.slot g.K.Index.greatest l.by l.fn.keys.items l.keys.items (rows_by (map g.K.NativeType.slot) l.others) l.start (l.i - l.start)
