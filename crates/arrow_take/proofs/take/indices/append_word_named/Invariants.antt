use Rattle.arrow_take.proofs.Common.{◌≡◌, ◌+◌, ◌*◌, ◌++◌, map, take, drop, option_copied, vec_len, vec_capacity, masked}
use Rattle.arrow_take.proofs.take.indices.append_word_named.Given as goal

-- the values of the indices so far
abbrev pub invariant-loop-k : goal.invariant-loop-k
invariant-loop-k g l = record {
  items : l.taken.items ≡ l.initial.taken.items ++ map (g.S.ByIndex.named l.source) (take l.k (drop (64 * l.j) (masked (option_copied l.validity) (map g.I.NativeType.slot l.stored))));
  len : vec_len l.taken ≡ vec_len l.initial.taken + l.k;
  capacity : vec_capacity l.taken ≡ vec_capacity l.initial.taken;
}
