use Rattle.arrow_choice.proofs.Common.{arith, Some, [], ap, false, length, refl, true, ◌∙◌, ◌∷◌, layout_of, HasAppended, subst}
use Rattle.arrow_choice.proofs.ChosenItems.{IsSource, lists_all, lists_none, null_more, run_names, side_more}
use Rattle.arrow_choice.proofs.if_then_else.list.append_lists.Given as given
use Rattle.arrow_choice.proofs.if_then_else.list.append_lists.Goals as goal
use Rattle.arrow_choice.proofs.if_then_else.list.append_lists.Goals.{After-new-runs}

-- both arrays are bound
left_source : (g : given.Over) (c : After-new-runs g) → IsSource (length c.args.predicate.now.values) (layout_of c.args.left.1.now ∷ layout_of c.args.right.1.now ∷ []) 0 c.args.left.0.now
left_source g c =
    record { bound = omega arith; sound = c.len.ensures.sound; long = c.requires.left.0; within = c.requires.left.1 }

right_source : (g : given.Over) (c : After-new-runs g) → IsSource (length c.args.predicate.now.values) (layout_of c.args.left.1.now ∷ layout_of c.args.right.1.now ∷ []) 1 c.args.right.0.now
right_source g c =
    record { bound = omega arith; sound = c.len-2.ensures.sound; long = c.requires.right.0; within = c.requires.right.1 }

pub loop-truth-init : goal.loop-truth-init
loop-truth-init g c = lists_none _ _ _ _ _ _ _ _ c.requires.bound c.requires.none c.new-runs.ensures

pub append_run-requires : goal.append_run-requires
append_run-requires g c κs =
    ((refl, tt), run_names c.requires.fits c.loop-truth.invariant c.in-Some.ensures.run (left_source g (goal.at.append_run-requires g c).After-new-runs))

pub loop-truth-preserved-in-Continue-1 : goal.loop-truth-preserved-in-Continue-1
loop-truth-preserved-in-Continue-1 g c =
    let left = left_source g (goal.at.loop-truth-preserved-in-Continue-1 g c).After-new-runs in
    side_more c.requires.fits c.loop-truth.invariant c.in-Some.ensures.run left true (c.in-Some-true.is ∙ ap Some c.in-Some-true.field-0-test) refl _ c.append_run.new.offsets c.in_ok-append_run-in-Some-true.ensures.items c.in_ok-append_run-in-Some-true.ensures.fits c.in_ok-append_run-in-Some-true.ensures.offsets

pub append_run-requires-in-Some-false : goal.append_run-requires-in-Some-false
append_run-requires-in-Some-false g c κs =
    ((refl, tt), run_names c.requires.fits c.loop-truth.invariant c.in-Some.ensures.run (right_source g (goal.at.append_run-requires-in-Some-false g c).After-new-runs))

pub loop-truth-preserved-in-Continue-branch-2 : goal.loop-truth-preserved-in-Continue-branch-2
loop-truth-preserved-in-Continue-branch-2 g c =
    let right = right_source g (goal.at.loop-truth-preserved-in-Continue-branch-2 g c).After-new-runs in
    side_more c.requires.fits c.loop-truth.invariant c.in-Some.ensures.run right false (c.in-Some-false.is ∙ ap Some c.in-Some-false.field-0-test) refl _ c.append_run-in-Some-false.new.offsets c.in_ok-append_run-in-Some-false.ensures.items c.in_ok-append_run-in-Some-false.ensures.fits c.in_ok-append_run-in-Some-false.ensures.offsets

pub loop-truth-preserved : goal.loop-truth-preserved
loop-truth-preserved g c =
    null_more c.requires.fits c.loop-truth.invariant c.in-Some.ensures.run c.in-None.is c.extend_constant.new.self c.in_ok-extend_constant-in-None.ensures.ok

pub returns-clause-items : goal.returns-clause-items
returns-clause-items g c =
    let i = c.loop-truth.invariant in
    subst (HasAppended _ (g.G.Growable.state c.loop-truth.items)) (lists_all c.requires.fits i c.in_default.ensures.none).items i.held

pub returns-clause-offsets : goal.returns-clause-offsets
returns-clause-offsets g c =
    (lists_all c.requires.fits c.loop-truth.invariant c.in_default.ensures.none).ends
