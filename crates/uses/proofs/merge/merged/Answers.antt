use Rattle.uses.proofs.Common.{IfOk-weaker, arith, inl, inr, int_rows, length, rules, ◌≤◌, ◌⊎◌}
use Rattle.uses.proofs.MergeLemmas.{holds_all, holds_left, holds_right}
use Rattle.uses.proofs.merge.merged.Goals as goal
use Rattle.uses.proofs.merge.merged.Goals.{then-loop-i-test+else-j-len, else-loop-i-test}

pub loop-i-preserved-then-comes_first : goal.loop-i-preserved-then-comes_first
loop-i-preserved-then-comes_first c = search (rules, holds_left)

pub loop-i-preserved : goal.loop-i-preserved
loop-i-preserved c = search (rules, holds_right)

pub returns-clause-rows : goal.returns-clause-rows
returns-clause-rows c =
    let past : (length (int_rows c.args.left.now) ≤ c.loop-i.i) ⊎ (length (int_rows c.args.right.now) ≤ c.loop-i.j) = elim c.loop-i-test.branch [
      | then-loop-i-test+else-j-len w ↦ inr (omega (arith, w.if-j-len.false, w.len-in-loop-i.ensures.rows))
      | else-loop-i-test w ↦ inl (omega (arith, w.loop-i-test.false, c.len.ensures.rows))
    ] in
    let all = holds_all c.args.left.now c.args.right.now c.loop-i.i c.loop-i.j _ _ c.loop-i.growable _ _ past c.len-2.ensures.rows c.len-3.ensures.rows c.in_ok-extend-3.ensures.ok c.in_ok-extend-4.ensures.ok c.loop-i.invariant.held in
    IfOk-weaker c.into_array.result _ _ (λ array is. rw is.1 all) c.into_array.ensures.answer.ok
