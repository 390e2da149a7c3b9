use Rattle.arrow_logic.proofs.Common.{◌≡◌, ◌≤◌, vec_capacity, vec_len, ◌+◌, AppendsAnswers}
use Rattle.arrow_logic.proofs.arity.gather.append_answers.Given as goal

-- the values and the bits so far
abbrev pub invariant-loop-k : goal.invariant-loop-k
invariant-loop-k g l = record {
  within : l.k ≤ l.count;
  appended : AppendsAnswers (goal.F-post g l.op) l.row l.k l.initial.values.items l.values.items l.word;
  len : vec_len l.values ≡ vec_len l.initial.values + l.k;
  capacity : vec_capacity l.values ≡ vec_capacity l.initial.values;
}
