use Rattle.arrow_choice.proofs.Common.{◌≡◌, ◌+◌, ◌*◌, ◌≤◌, ◌++◌, drop, length, vec_len, vec_capacity, chosen_by}
use Rattle.arrow_choice.proofs.if_then_else.words.chosen_values.Given as goal

-- there is room for the values of the bits that are left, and those so far, with these, are all
abbrev pub invariant-loop-j : goal.invariant-loop-j
invariant-loop-j g l = record {
  room : vec_len l.values + length (drop (64 * l.j) l.bits) ≤ vec_capacity l.values;
  items : l.values.items ++ chosen_by (drop (64 * l.j) l.bits) (drop (64 * l.j) l.left) (drop (64 * l.j) l.right) ≡ chosen_by l.bits l.left l.right;
}
