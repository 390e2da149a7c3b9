use Rattle.arrow_select.proofs.Common.{◌+◌, ◌*◌, ◌≤◌, length, vec_len, vec_capacity, at_set}
use Rattle.arrow_select.proofs.SetLemmas.{KeepsWords}
use Rattle.arrow_select.proofs.filter.words.append_set.Given as goal

-- there is room for all values, and those of the words so far are kept
abbrev pub invariant-loop-j : goal.invariant-loop-j
invariant-loop-j g l = record {
  room : vec_len l.initial.kept + length (at_set l.mask l.values) ≤ vec_capacity l.kept;
  items : KeepsWords l.mask l.values l.initial.kept.items l.kept.items (64 * l.j);
}
