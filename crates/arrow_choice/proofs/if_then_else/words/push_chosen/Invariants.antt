use Rattle.arrow_choice.proofs.Common.{◌≡◌, ◌+◌, ◌++◌, length, take, vec_len, vec_capacity, low_bits, chosen_by}
use Rattle.arrow_choice.proofs.if_then_else.words.push_chosen.Given as goal

-- the values of the bits so far
abbrev pub invariant-loop-k : goal.invariant-loop-k
invariant-loop-k g l = record {
  items : l.values.items ≡ l.initial.values.items ++ take l.k (chosen_by (low_bits l.word (length l.left)) l.left l.right);
  len : vec_len l.values ≡ vec_len l.initial.values + l.k;
  capacity : vec_capacity l.values ≡ vec_capacity l.initial.values;
}
